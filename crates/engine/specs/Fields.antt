-- What a step makes of the arrays of a state.
--     FieldsStepped     its answer is that of the step's tests; where it is a refusal, every core is idle and no loop finished, and where it is
--                       none, these arrays one tick later, with these runs and responses, are what the step hands back
--     fields_refused, fields_taken      it is so where the tests refuse, and where they don't and the arrays are those of a tick
use Rattle.std.specs.Prelude.{ℕ, ◌+◌, ◌≡◌, List, replicate}
use Rattle.std.proofs.lemmas.Bool.{false≢true}
use Rattle.std.proofs.Common.{sym, ap, ◌∙◌}
use Rattle.machine.specs.Machine.{idle}
use Rattle.tasks.specs.Answer.{Answer, Accepted, Refused}
use Rattle.state.specs.declared.State.{State}
use Rattle.state.specs.declared.Stepped.{Stepped}
use Rattle.state.specs.State.{machine_of}
use Rattle.state.specs.SoundState.{passes}
use Rattle.state.specs.Calls.{tasks_of, step_tests, ticked_of, step_of}
use Rattle.state.specs.Parts.{state_from}
use Rattle.state.proofs.CallLaws.{step-taken}

abbrev pub FieldsStepped : State → Answer → List ℕ → List ℕ → List ℕ → List ℕ → List ℕ → Type 0
FieldsStepped s a jobs remaining release runs responses =
    (a ≡ step_tests s)
    × ((k j : ℕ) → a ≡ Refused k j → (runs ≡ replicate 8 idle) × (responses ≡ replicate 16 0))
    × (a ≡ Accepted
    → ◌≡◌ {A = Stepped}
    (record {
      answer = Accepted;
      state = state_from s.plan (s.clock + 1) jobs s.released s.last remaining release;
      runs = runs;
      responses = responses;
    })
    (step_of s))

module _ (s : State) (a : Answer) (jobs remaining release runs responses : List ℕ) (e : a ≡ step_tests s) where
  pub fields_refused :
      (k j : ℕ) → a ≡ Refused k j → runs ≡ replicate 8 idle → responses ≡ replicate 16 0 → FieldsStepped s a jobs remaining release runs responses
  fields_refused k j f r z = (e, λ h i g. (r, z), λ t. absurd (false≢true (ap passes (sym f ∙ t))))

  pub fields_taken :
      a ≡ Accepted
      → ◌≡◌ {A = Stepped}
      (record {
        answer = Accepted;
        state = state_from s.plan (s.clock + 1) jobs s.released s.last remaining release;
        runs = runs;
        responses = responses;
      })
      (ticked_of s.plan (tasks_of s) (machine_of s))
      → FieldsStepped s Accepted jobs remaining release runs responses
  fields_taken f m = (sym f ∙ e, λ k j g. absurd (false≢true (ap passes (sym g))), λ t. step-taken s _ a e f m)
