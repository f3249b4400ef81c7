use Rattle.laws.specs.TabLaws.{filled_none}
use Rattle.tasks.specs.Content.{task_of, no_task}
use Rattle.fields.specs.Columns.{columns_of}
use Rattle.fields.specs.StageLaws.{column-more}
use native.Mathlib.Omega.{arith}
use mathlib.Core.Path.{◌≡◌}
use Rattle.fields.proofs.columns.split.Goals as goal

pub loop-i-init : goal.loop-i-init
loop-i-init c = (filled_none _ 0 16, filled_none _ 0 16, filled_none _ 0 16)

pub loop-i-preserved : goal.loop-i-preserved
unfolding task_of no_task
loop-i-preserved c =
    let l = c.loop-i in
    let t = c.args.task in (
      column-more l.separation (λ i. (task_of t i).separation) l.i (omega arith) l.invariant.0,
      column-more l.budget (λ i. (task_of t i).budget) l.i (omega arith) l.invariant.1,
      column-more l.offset (λ i. (task_of t i).offset) l.i (omega arith) l.invariant.2,
    )

pub returns : goal.returns
unfolding columns_of
returns c =
    let l = c.loop-i in
    let e : l.i ≡ c.args.tasks = omega arith in
    rw (← e, l.invariant.0, l.invariant.1, l.invariant.2)
