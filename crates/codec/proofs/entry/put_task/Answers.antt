-- `codec::entry::put_task` meets its contract: the first three numbers, and the deadline behind them where the edition has one.
use Prim.Native.Nat.{◌+◌}
use native.Mathlib.Omega.{arith}
use mathlib.Core.Path.{sym, ◌∙◌}
use mathlib.Core.List.{append-nil}
use Rattle.laws.specs.SetsLaws.{sets-next}
use Rattle.codec.specs.Table.{plain_bytes, task_bytes}
use Rattle.codec.specs.TaskLaws.{size_low, size-deadline, length-plain}
use Rattle.codec.proofs.entry.put_task.Goals as goal

pub put_plain-requires : goal.put_plain-requires
put_plain-requires c = omega (arith, size_low c.args.edition)

pub put4-requires : goal.put4-requires
put4-requires c =
    let a = c.args in
    omega (arith, size-deadline a.edition (sym c.has_deadlines.ensures ∙ c.if-has_deadlines.true))

pub returns-then-has_deadlines : goal.returns-then-has_deadlines
unfolding task_bytes
returns-then-has_deadlines c =
    let a = c.args in
    let d = sym c.has_deadlines.ensures ∙ c.if-has_deadlines.true in
    rw (d, c.put4.ensures, c.put_plain.ensures)
    (sets-next a.out.now a.at (a.at + 12) (plain_bytes a.task) _ (omega (arith, length-plain a.task)))

pub returns-else-has_deadlines : goal.returns-else-has_deadlines
unfolding task_bytes
returns-else-has_deadlines c =
    let d = sym c.has_deadlines.ensures ∙ c.if-has_deadlines.false in
    rw (d, append-nil _) c.put_plain.ensures
