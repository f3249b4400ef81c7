-- `reader::read_counts` meets its contract: each return is a case of `Counted`.
use Rattle.std.specs.Prelude.{Err}
use Prim.Native.Nat.{ℕ}
use native.Mathlib.Omega.{arith}
use mathlib.Core.Path.{◌≡◌, refl, sym, ap, ◌∙◌}
use mathlib.Core.Bool.{Bool}
use mathlib.Core.List.{List}
use lib.ListN.{get_or, get_or-eq_default}
use Rattle.tasks.specs.Tests.{bad_edition}
use Rattle.numbers.specs.Bytes.{byte}
use Rattle.codec.specs.Table.{edition_in}
use Rattle.codec.specs.TaskLaws.{size_times}
use Rattle.reader.specs.CountedLaws.{edition_read, core_count_lem, task-count, slack-count, no_slack-count, other_length, counted-edition, counted-length, counted_read}
use Rattle.reader.proofs.read_counts.Goals as goal

-- whether the first byte is no edition, as the code has found it
known : (t : List ℕ) (r b : Bool) → r ≡ bad_edition (get_or t 0 0) → r ≡ b → bad_edition (edition_in t) ≡ b
unfolding byte
known t r b e q = sym e ∙ q

pub returns-then-t-lt1 : goal.returns-then-t-lt1
unfolding byte
returns-then-t-lt1 c =
    counted-edition _ _ (ap bad_edition (get_or-eq_default c.args.t.now 0 {n = 0} (omega arith)))
    (ap Err c.at.ensures)

pub returns-then-is_unknown : goal.returns-then-is_unknown
returns-then-is_unknown c =
    counted-edition _ _ (known _ _ _ c.is_unknown.ensures c.if-is_unknown.true) (ap Err c.at-then-is_unknown.ensures)

pub returns-then-t-lt2 : goal.returns-then-t-lt2
returns-then-t-lt2 c = counted-length _ _ (known _ _ _ c.is_unknown.ensures c.if-is_unknown.false) (λ e. omega (arith, e)) (ap Err c.at-then-t-lt2.ensures)

pub returns-then-t-second : goal.returns-then-t-second
returns-then-t-second c =
    counted-length _ _ (known _ _ _ c.is_unknown.ensures c.if-is_unknown.false)
    (λ e. omega (arith, e, core_count_lem c.args.t.now _ c.count_at-cores.ensures.0, c.tasks_from-second.ensures)) (ap Err c.at-then-t-second.ensures)

pub slack_from-third-requires : goal.slack_from-third-requires
slack_from-third-requires c = omega (arith, size_times (get_or c.args.t.now 0 0) c.count_at-tasks.result, c.count_at-tasks.ensures.1, c.count_at-cores.ensures.1)

pub returns-then-t-third : goal.returns-then-t-third
returns-then-t-third c =
    let m = c.count_at-cores.ensures.0 in
    let n = c.count_at-tasks.ensures.0 ∙ ap (byte _) c.tasks_from-second.ensures in
    counted-length _ _ (known _ _ _ c.is_unknown.ensures c.if-is_unknown.false)
    (no_slack-count _ _ _ _ (edition_read _ _ refl) (core_count_lem _ _ m) (task-count _ _ _ m n) (omega (arith, c.slack_from-third.ensures))) (ap Err c.at-then-t-third.ensures)

pub returns-then-t-table_length : goal.returns-then-t-table_length
returns-then-t-table_length c =
    let m = c.count_at-cores.ensures.0 in
    let n = c.count_at-tasks.ensures.0 ∙ ap (byte _) c.tasks_from-second.ensures in
    let x = c.count_at-offers.ensures.0 ∙ ap (byte _) c.slack_from-third.ensures in
    counted-length _ _ (known _ _ _ c.is_unknown.ensures c.if-is_unknown.false)
    (other_length _ _ _ _ (edition_read _ _ refl) (core_count_lem _ _ m) (task-count _ _ _ m n) _ (slack-count _ _ _ _ _ (edition_read _ _ refl) m n x)
    (λ e. omega (arith, e, c.table_length.ensures)))
    (ap Err c.at-then-t-table_length.ensures)

pub returns : goal.returns
returns c =
    let m = c.count_at-cores.ensures.0 in
    let n = c.count_at-tasks.ensures.0 ∙ ap (byte _) c.tasks_from-second.ensures in
    let x = c.count_at-offers.ensures.0 ∙ ap (byte _) c.slack_from-third.ensures in
    counted_read _ _ _ _ _ _ (known _ _ _ c.is_unknown.ensures c.if-is_unknown.false) (edition_read _ _ refl) (core_count_lem _ _ m) (task-count _ _ _ m n) (slack-count _ _ _ _ _ (edition_read _ _ refl) m n x)
    (omega (arith, c.table_length.ensures))
    refl
