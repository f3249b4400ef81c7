-- What can be seen of an engine, and what a history of calls to it shows. *Finishes* is defined here by the answers of the steps, and by nothing
-- inside the engine. A history is the list of the calls since the opening, latest first.
--     Outcome, outcome_of      the answer to a release; what an answer by document 01's numbers says of it
--     Engine                  what the calls show
--     Call, state, clock      a call; the state handed back by the last call of a history; the number of its steps
--     verdict                 the answer to a release after a history
--     is_taken, demanded       whether an answer is no refusal; what the taken releases of a loop demand together
--     named_ticks                 in how many of the first f steps the answer names a loop as running
--     Ends                    a loop is named often enough for the first time by f steps
--     HistoryClaim            what is claimed of every history, whoever makes its calls
use Rattle.std.specs.Prelude.{Ok, Err, ℕ, suc, ◌+◌, ◌≤◌, ◌<◌, Bool, true, false, cond, ◌&&◌, ◌≡◌, List, [], ◌∷◌, ◌++◌, ltb, eqb}
use Rattle.tasks.specs.Answer.{Answer}
use Rattle.tasks.specs.TaskSet.{TaskSet, bound}

-- the answer to a release: it is taken, or refused with a number of document 01
pub data Outcome : Type 0 where
  taken : Outcome
  refused : ℕ → Outcome

abbrev pub is_taken : Outcome → Bool
is_taken taken = true
is_taken (refused k) = false

abbrev pub outcome_of : Answer → Outcome
outcome_of (Ok tt) = taken
outcome_of (Err r) = refused r.number

pub record Engine : Type 1 where
  pub St : Type 0
  pub opened : St
  -- whether a step's answer names this loop as running
  pub runs : St → ℕ → Bool
  -- the state that the step hands back
  pub stepped : St → St
  -- the answer to a release of this loop with this demand
  pub answer : St → ℕ → ℕ → Outcome
  -- the state that it hands back, after a refusal too
  pub handed : St → ℕ → ℕ → St
  -- whether nothing is pending
  pub quiet : St → Bool

pub data Call : Type 0 where
  step : Call
  ask : ℕ → ℕ → Call

-- "The clock is the number of steps since the opening."
abbrev pub clock : List Call → ℕ
clock [] = 0
clock (step ∷ h) = suc (clock h)
clock (ask i c ∷ h) = clock h

module _ (E : Engine) where
  -- "every release and step gets the state that the call before it handed back, after a refused release too"
  abbrev pub state : List Call → E.St
  state [] = E.opened
  state (step ∷ h) = E.stepped (state h)
  state (ask i c ∷ h) = E.handed (state h) i c

  -- "A release is taken when its call is made and isn't refused"
  unfoldable pub verdict : List Call → ℕ → ℕ → Outcome
  verdict h i c = E.answer (state h) i c

  -- what the taken releases of loop i demand together
  unfoldable pub demanded : List Call → ℕ → ℕ
  demanded [] i = 0
  demanded (step ∷ h) i = demanded h i
  demanded (ask j c ∷ h) i = demanded h i + cond (eqb i j && is_taken (verdict h j c)) c 0

  -- in how many of the first f steps of h the answer names loop i; a step is among them if the clock before it is below f
  unfoldable pub named_ticks : List Call → ℕ → ℕ → ℕ
  named_ticks [] i f = 0
  named_ticks (step ∷ h) i f = named_ticks h i f + cond (ltb (clock h) f && E.runs (state h) i) 1 0
  named_ticks (ask j c ∷ h) i f = named_ticks h i f

  -- "the first step by which the steps' answers since the opening have named that loop as running in as many ticks as" d
  pub record Ends (h : List Call) (i d f : ℕ) : Type 0 where
    pub made : f ≤ clock h
    pub enough : named_ticks h i f ≡ d
    pub first_so : (g : ℕ) → g < f → named_ticks h i g < d

-- Of every history with fewer than B steps. A release of loop i with demand c is asked after the calls h, it is taken, and the calls g follow it:
-- the demands of the loop's releases up to and with it are `demanded E (ask i c ∷ h) i`.
pub record HistoryClaim (E : Engine) (s : TaskSet) (x : ℕ → ℕ) (B : ℕ) : Type 0 where
  -- where it has ended, it did so within its bound: Y + x + C ticks, or C where loops are no more than cores
  pub in_time :
      (g h : List Call) (i c f : ℕ) → clock (g ++ ask i c ∷ h) < B → verdict E h i c ≡ taken
      → Ends E (g ++ ask i c ∷ h) i (demanded E (ask i c ∷ h) i) f → f ≤ clock h + bound s x i
  -- where so many ticks have passed, it has ended
  pub ends :
      (g h : List Call) (i c : ℕ) → clock (g ++ ask i c ∷ h) < B → verdict E h i c ≡ taken
      → clock h + bound s x i ≤ clock (g ++ ask i c ∷ h) → (f : ℕ) × Ends E (g ++ ask i c ∷ h) i (demanded E (ask i c ∷ h) i) f
  -- no release is refused for want of a place
  pub never_23 : (h : List Call) (i c : ℕ) → clock h < B → verdict E h i c ≡ refused 23 → ⊥
