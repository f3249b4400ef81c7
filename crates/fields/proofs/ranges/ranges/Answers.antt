-- `fields::ranges::ranges` meets its contract; the invariant says that number and index are the answer for the tasks before i.
use native.Mathlib.Omega.{arith}
use mathlib.Core.Path.{◌≡◌, sym, ◌∙◌}
use Rattle.fields.proofs.ranges.ranges.Goals.{then-next-number, else-next-number}
use Rattle.tasks.specs.Content.{task_of, no_task}
use Rattle.fields.proofs.ScanLaws.{range_none, range_lower, range_kept, seen_none, seen-some}
use Rattle.fields.proofs.ranges.ranges.Goals as goal

pub loop-i-init : goal.loop-i-init
loop-i-init c = range_none _ _ _

pub loop-i-preserved : goal.loop-i-preserved
unfolding task_of no_task
loop-i-preserved c =
    let l = c.loop-i in
    let m = c.met-next.ensures in
    elim c.if-next-number.branch [
      | then-next-number w ↦ range_lower _ _ _ _ _ _ l.invariant m w.if-next-number.true w.number-is w.index-is
      | else-next-number w ↦ range_kept _ _ _ _ _ _ l.invariant m w.if-next-number.false w.number-is w.index-is
    ]

pub returns-then-number : goal.returns-then-number
returns-then-number c =
    let l = c.loop-i in
    let e : l.i ≡ c.args.tasks = omega arith in
    sym (rw e at l.invariant ∙ seen_none _ _ c.if-number.true)

pub returns : goal.returns
returns c =
    let l = c.loop-i in
    let e : l.i ≡ c.args.tasks = omega arith in
    sym (rw e at l.invariant ∙ seen-some _ _ c.if-number.false)
