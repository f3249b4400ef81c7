-- `dahomike::report` meets its contract.
use Rattle.tasks.specs.TaskSet.{row}
use Rattle.tasks.specs.Content.{task_of, no_task}
use Rattle.numbers.specs.Bytes.{entries}
use Rattle.numbers.specs.StoreLaws.{sets-entry}
use Rattle.dahomike.specs.Answers.{entry_size, entry_bytes, entry_of, bound_in}
use Rattle.dahomike.proofs.ReportLaws.{entry-long}
use native.Mathlib.Omega.{arith}
use mathlib.Core.Path.{◌≡◌, refl, ap, ◌∙◌}
use Rattle.dahomike.proofs.report.Goals as goal

pub loop-i-init : goal.loop-i-init
unfolding entries
loop-i-init c = refl

pub overflow_cast-b : goal.overflow_cast-b
unfolding bound_in task_of no_task row
overflow_cast-b c =
    let s = c in
    let i = c.loop-i.i in
    let e : c.bound-b.result ≡ bound_in s.args.plan i = rw c.core_for_each-each.ensures at c.bound-b.ensures in
    omega (arith, s.requires.small i (omega arith), e)

pub loop-i-preserved : goal.loop-i-preserved
unfolding task_of no_task row
loop-i-preserved c =
    let l = c.loop-i in
    let b = c.args.wishes in
    c.put_entry.ensures
    ∙ sets-entry (entry_size b) _ (λ j. entry-long b _ _ _) _ 0 l.i _ _ _ l.invariant (omega arith) (ap (entry_bytes b _ _) c.bound-b.ensures)

pub returns : goal.returns
unfolding entry_of bound_in
returns c =
    let e : c.loop-i.i ≡ c.args.plan.tasks = omega arith in
    rw (e, c.core_for_each-each.ensures) at c.loop-i.invariant
