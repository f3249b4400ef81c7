-- `clauses::places` meets its contract; the loop's invariant says what its turns so far have made.
use Rattle.clauses.specs.SoundTests.{place_holds, block_more, block_fails, place-of}
use Rattle.state.specs.SoundState.{all_of}
use Rattle.tasks.specs.Content.{task_of, no_task}
use Rattle.tasks.specs.TaskSet.{row}
use native.Mathlib.Omega.{arith}
use mathlib.Core.Path.{refl, sym, ◌∙◌}
use Rattle.clauses.proofs.places.Goals as goal

pub loop-i-init : goal.loop-i-init
unfolding all_of
loop-i-init c = refl

pub loop_places-requires : goal.loop_places-requires
unfolding row
loop_places-requires c = (omega arith, c.requires c.loop-i.i (omega arith))

pub returns-then-not-loop_places : goal.returns-then-not-loop_places
unfolding task_of no_task row
returns-then-not-loop_places c =
    let s = c.args.state.now in
    let i = c.loop-i.i in
    sym
    (block_fails (place_holds s.plan.task s.clock s.jobs s.release s.remaining) _ i
    (place-of s.plan.task s.clock s.jobs s.release s.remaining i) (omega arith)
    (sym c.loop_places.ensures ∙ c.if-not-loop_places.true))

pub loop-i-preserved : goal.loop-i-preserved
unfolding task_of no_task row
loop-i-preserved c =
    let s = c.args.state.now in
    let l = c.loop-i in
    block_more (place_holds s.plan.task s.clock s.jobs s.release s.remaining) _ l.i
    (place-of s.plan.task s.clock s.jobs s.release s.remaining l.i) l.invariant
    (sym c.loop_places.ensures ∙ c.if-not-loop_places.false)
