-- A state by its fields: what the functions that are lent a state's arrays say of it.
--     state_from      the state that has these fields, in their order
use Rattle.std.specs.Prelude.{ℕ, Bool, List}
use Rattle.tasks.specs.declared.Plan.{Plan}
use Rattle.state.specs.declared.State.{State}

abbrev pub state_from : Plan → ℕ → List ℕ → List Bool → List ℕ → List ℕ → List ℕ → State
state_from plan clock jobs released last remaining release =
    record {
      plan = plan;
      clock = clock;
      jobs = jobs;
      released = released;
      last = last;
      remaining = remaining;
      release = release;
    }
