-- `logs::read::read_entries` meets its contract: each return is a case of `EntriesRead`.
use Rattle.std.specs.Prelude.{Err}
use native.Mathlib.Omega.{arith}
use mathlib.Core.Path.{refl, sym, ap}
use Rattle.logs.specs.LogLaws.{read_short, read_late, read_all}
use Rattle.logs.proofs.read.read_entries.Goals as goal

pub returns-then-log-lt2 : goal.returns-then-log-lt2
returns-then-log-lt2 c = read_short _ _ (λ e. omega arith) (ap Err c.at.ensures)

pub returns-then-log-count : goal.returns-then-log-count
returns-then-log-count c =
    let n = c.count-count.ensures.0 in
    read_short _ _ (λ e. c.if-log-count.true (rw (sym n) at e)) (ap Err c.at-then-log-count.ensures)

pub returns-then-late-count : goal.returns-then-late-count
returns-then-late-count c =
    let d = c in
    read_late _ _ _ d.count-count.ensures.0 d.if-log-count.false _ d.first_late-late.ensures c.if-late-count.true
    (ap Err c.at-then-late-count.ensures)

pub returns : goal.returns
returns c =
    let d = c in
    let n = d.count-count.ensures in
    read_all _ _ _ n.0 d.if-log-count.false _ d.first_late-late.ensures c.if-late-count.false n.1 refl
