-- `text::put_plan` meets its contract. The loop's invariant: the lines of the first i loops are stored behind the first line.
use Rattle.decimal.specs.Decimal.{words}
use Rattle.decimal.proofs.PutLaws.{put-behind}
use Rattle.numbers.specs.Bytes.{entries}
use Rattle.text.specs.Printed.{counts_line}
use Rattle.text.specs.PrintedLaws.{line_in, stored-none, lines_next, within, counts-short, line-room, plan-text}
use native.Mathlib.Nat.{zero-add}
use native.Mathlib.Omega.{arith}
use Rattle.tasks.specs.TaskSet.{row}
use Rattle.tasks.specs.Content.{task_of, no_task}
use Prim.Native.Nat.{◌+◌}
use mathlib.Core.Path.{◌≡◌, ap, ◌∙◌}
use lib.ListN.{length}
use Rattle.text.proofs.put_plan.Goals as goal

pub put_pair-at-requires : goal.put_pair-at-requires
unfolding counts_line words
put_pair-at-requires c = let s = c in omega (arith, counts-short s.args.plan s.requires.0, s.requires.1)

pub loop-i-init : goal.loop-i-init
loop-i-init c = stored-none _ _ _

pub offset_bounds-task-i : goal.offset_bounds-task-i
offset_bounds-task-i c = let s = c in omega (arith, within s.args.plan s.requires.0)

pub bounds-task-i : goal.bounds-task-i
bounds-task-i c = let s = c in omega (arith, within s.args.plan s.requires.0)

pub offset_bounds-slack-i : goal.offset_bounds-slack-i
offset_bounds-slack-i c = let s = c in omega (arith, within s.args.plan s.requires.0)

pub bounds-slack-i : goal.bounds-slack-i
bounds-slack-i c = let s = c in omega (arith, within s.args.plan s.requires.0)

pub put_task-at-requires : goal.put_task-at-requires
unfolding counts_line words task_of no_task row
put_task-at-requires c =
    let k = c.loop-i in
    let q = c.put_pair-at in
    let o = c.core_for_each-each in
    let s = c in
    omega (
      arith,
      line-room s.args.plan s.requires.0 o.result o.ensures k.i c.bound-b.result c.late.result k.at (omega arith) c.bound-b.ensures c.late.ensures
          (k.invariant.place ∙ ap (λ n. n + length (entries (line_in o.result s.args.plan.edition s.args.plan.task s.args.plan.slack) k.i)) (q.ensures.place ∙ zero-add _)),
      k.auto.out,
      q.auto.out,
      s.requires.1,
    )

pub loop-i-preserved : goal.loop-i-preserved
unfolding task_of no_task row
loop-i-preserved c =
    let k = c.loop-i in
    let o = c.core_for_each-each in
    let a = c.args in
    let t = c.put_task-at in
    lines_next o.result a.plan.edition a.plan.task a.plan.slack k.i _ _ c.bound-b.ensures c.late.ensures k.invariant t.ensures

pub returns : goal.returns
unfolding counts_line words
returns c =
    let k = c.loop-i in
    let o = c.core_for_each-each in
    let s = c in
    let e : k.i ≡ s.args.plan.tasks = omega arith in
    rw (plan-text s.args.plan s.requires.0 o.result o.ensures) (put-behind c.put_pair-at.ensures (rw e at k.invariant))
