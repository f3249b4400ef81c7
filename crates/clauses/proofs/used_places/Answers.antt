-- `clauses::used_places` meets its contract; the loop's invariant says what its turns so far have made.
use Rattle.clauses.specs.SoundTests.{least_at, all_more, all_fails, used-holds, least_more}
use Rattle.state.specs.SoundState.{all_of}
use Rattle.tasks.specs.TaskSet.{row}
use native.Mathlib.Omega.{arith}
use Prim.Native.Nat.{◌<◌}
use mathlib.Core.Path.{refl, sym, ◌∙◌}
use Rattle.clauses.proofs.used_places.Goals as goal

pub loop-p-init : goal.loop-p-init
unfolding all_of least_at
loop-p-init c = (refl, refl)

pub returns-then-not-used_sound : goal.returns-then-not-used_sound
unfolding row
returns-then-not-used_sound c =
    let a = c.args in
    let s = a.state.now in
    let l = c.loop-p in
    let h : l.p < a.jobs = omega arith in
    sym
    (all_fails _ a.jobs l.p h
    (rw (used-holds a.task.separation a.task.budget s.clock a.jobs s.release s.remaining a.i l.p h, ← l.invariant.1)
    (sym c.used_sound.ensures ∙ c.if-not-used_sound.true)))

pub loop-p-preserved : goal.loop-p-preserved
unfolding row
loop-p-preserved c =
    let a = c.args in
    let s = a.state.now in
    let l = c.loop-p in
    let h : l.p < a.jobs = omega arith in (
      all_more _ l.p l.invariant.0
          (rw (used-holds a.task.separation a.task.budget s.clock a.jobs s.release s.remaining a.i l.p h, ← l.invariant.1)
          (sym c.used_sound.ensures ∙ c.if-not-used_sound.false)),
      sym (least_more a.task.separation s.release a.i l.p),
    )
