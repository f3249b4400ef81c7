-- What a tick and a taken release make of the arrays of a sound state.
--     Ready s      the state is sound, and its arrays have their lengths
--     Ticked       with these arrays, one tick later, it is what a tick of the machine leaves, and so are these runs and responses
--     Admitted     with these arrays it is what a taken release leaves
use Rattle.std.specs.Prelude.{ℕ, ◌+◌, ◌≡◌, Bool, true, List}
use Rattle.tasks.specs.Answer.{Accepted}
use Rattle.machine.specs.Machine.{admitted}
use Rattle.state.specs.declared.State.{State}
use Rattle.state.specs.declared.Stepped.{Stepped}
use Rattle.state.specs.State.{state_of, machine_of}
use Rattle.state.specs.SoundState.{sound_of}
use Rattle.state.specs.Calls.{tasks_of, ticked_of}
use Rattle.state.specs.Parts.{state_from}
use Rattle.state.specs.Fit.{Shaped}

pub record Ready (s : State) : Type 0 where
  pub shape : Shaped s
  pub sound : sound_of s ≡ true

abbrev pub Ticked : State → List ℕ → List ℕ → List ℕ → List ℕ → List ℕ → Type 0
Ticked s jobs remaining release runs responses =
    ◌≡◌ {A = Stepped}
    (record {
      answer = Accepted;
      state = state_from s.plan (s.clock + 1) jobs s.released s.last remaining release;
      runs = runs;
      responses = responses;
    })
    (ticked_of s.plan (tasks_of s) (machine_of s))

abbrev pub Admitted : ℕ → ℕ → State → List ℕ → List Bool → List ℕ → List ℕ → List ℕ → Type 0
Admitted i c s jobs released last remaining release =
    state_from s.plan s.clock jobs released last remaining release ≡ state_of s.plan (admitted i c (machine_of s))
