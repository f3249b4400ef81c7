-- `advance::tick` meets its contract.
use Rattle.advance.specs.Advanced.{Ready}
use Rattle.service.specs.StepLaws.{sound-limits, sound-few, sound_jobless, TickCode, tick_code}
use Rattle.choice.proofs.PickLaws.{keys-rest}
use Rattle.choice.specs.Pick.{Jobless}
use Rattle.state.proofs.FitLaws.{in_cores}
use Rattle.state.specs.Parts.{state_from}
use Rattle.state.specs.declared.State.{State}
use Prim.Native.Nat.{◌≤◌}
use native.Mathlib.Omega.{arith}
use Rattle.advance.proofs.tick.Goals as goal

-- beyond a sound state's table nobody has a job
beyond : (s : State) → Ready s → (s.plan.tasks ≤ 16) × Jobless s.plan.tasks s.jobs
beyond s R = (sound-few s R.shape R.sound, sound_jobless s R.shape R.sound)

cores : (s : State) → Ready s → s.plan.cores ≤ 8
cores s R = omega (arith, (sound-limits s R.shape R.sound).cores-high, in_cores s.plan)

pub keys-left-requires : goal.keys-left-requires
keys-left-requires c = beyond _ c.requires.0.2

pub choose-runs-requires : goal.choose-runs-requires
choose-runs-requires c =
    let s = c.args.state.now in
    let b = beyond _ c.requires.0.2 in (
      cores _ c.requires.0.2,
      b.0,
      rw c.keys-left.ensures (keys-rest s.jobs s.release s.plan.tasks b.1 s.plan.task),
    )

pub serve-requires : goal.serve-requires
serve-requires c = beyond _ c.requires.0.2

pub returns-clause-ticked : goal.returns-clause-ticked
unfolding TickCode
returns-clause-ticked c = λ released last R.
    let s = c.args.state.now in
    tick_code (state_from s.plan s.clock s.jobs released last s.remaining s.release) R.shape R.sound _ _ _ _ _ _ _
    c.keys-left.ensures c.choose-runs.ensures.keys_after c.choose-runs.ensures.value c.serve.ensures.turns
