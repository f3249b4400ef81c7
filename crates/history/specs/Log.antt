-- Document 01, "Release logs": the calls that a log makes, what *taken* and *finishes* mean of its entries, and demand 3.
--     Entry, tick_at, loop_at, demand_at     an entry of a log, and its three numbers
--     largest, back                       the largest tick before an entry; what 17 tests
--     wait, until, calls                  some steps more; steps up to a tick; the calls that the first entries make
--     outcome, Taken                      what is said of an entry; that it is taken
--     owed                                what the taken ones among the first entries demand of a loop
--     rest, whole                         how many steps follow the last entry; all calls of the run
--     Finishes, InTime                    an entry finishes with a tick; it does so within its bound
--     Latest, Admissible                  the last taken entry of a loop before an entry; that an entry meets none of 17, 20, 21 and 22
--     Keeps                               the log keeps the table
--     Claim                               demand 3 of one log, whole
use Rattle.std.specs.Prelude.{ℕ, zero, suc, ◌+◌, ◌-◌, ◌≤◌, ◌<◌, max, Bool, cond, ◌&&◌, ◌≡◌, ◌↔◌, List, [], ◌∷◌, length, get_or, ltb, eqb}
use Rattle.laws.specs.First.{first}
use Rattle.laws.specs.Sum.{sum}
use Rattle.tasks.specs.TaskSet.{TaskSet, bound}
use Rattle.history.specs.Engine.{Outcome, taken, refused, is_taken, Engine, Call, step, ask, clock, state, verdict, Ends}

-- "tick (4), loop (1), demand (4)"
pub record Entry : Type 0 where
  pub tick : ℕ
  pub loop : ℕ
  pub demand : ℕ

-- what stands past a log's end; it is never asked
abbrev pub no_entry : Entry
no_entry = record { tick = 0; loop = 0; demand = 0 }

abbrev pub tick_at : List Entry → ℕ → ℕ
tick_at l e = (get_or l e no_entry).tick

abbrev pub loop_at : List Entry → ℕ → ℕ
loop_at l e = (get_or l e no_entry).loop

abbrev pub demand_at : List Entry → ℕ → ℕ
demand_at l e = (get_or l e no_entry).demand

-- "the largest tick before it, of taken and refused entries alike"; 0 before the first entry
unfoldable pub largest : List Entry → ℕ → ℕ
largest l zero = 0
largest l (suc e) = max (largest l e) (tick_at l e)

-- 17: "An entry's tick is below the largest tick before it"
unfoldable pub back : List Entry → ℕ → Bool
back l e = ltb (tick_at l e) (largest l e)

abbrev pub wait : ℕ → List Call → List Call
wait zero h = h
wait (suc k) h = step ∷ wait k h

-- "stepped up to an entry's tick where that is later than its clock"
unfoldable pub until : ℕ → List Call → List Call
until t h = wait (t - clock h) h

-- the calls that the first e entries make. "The engine is opened anew, stepped up to an entry's tick … and handed the release"; "an entry
-- that meets 17 is handed to no call". They are the same for every engine.
unfoldable pub calls : List Entry → ℕ → List Call
calls l zero = []
calls l (suc e) = cond (back l e) (calls l e) (ask (loop_at l e) (demand_at l e) ∷ until (tick_at l e) (calls l e))

module _ (E : Engine) (l : List Entry) where
  -- 17 or the answer to the entry's release
  unfoldable pub outcome : ℕ → Outcome
  outcome e = cond (back l e) (refused 17) (verdict E (until (tick_at l e) (calls l e)) (loop_at l e) (demand_at l e))

  -- "A release is taken when its call is made and isn't refused; an entry that meets 17 is handed to no call, so it isn't taken."
  abbrev pub Taken : ℕ → Type 0
  Taken e = outcome e ≡ taken

  -- what the taken ones among the first e entries demand of loop i together
  unfoldable pub owed : ℕ → ℕ → ℕ
  owed i e = sum (λ k. cond (eqb i (loop_at l k) && is_taken (outcome k)) (demand_at l k) 0) e

  -- the demands of all taken entries
  unfoldable pub all_owed : ℕ
  all_owed = sum (λ e. cond (is_taken (outcome e)) (demand_at l e) 0) (length l)

  -- "After the last entry it steps until nothing is pending": so many steps. More than the taken demands are never needed.
  unfoldable pub rest : ℕ
  rest = first (λ k. E.quiet (state E (wait k (calls l (length l))))) all_owed

  unfoldable pub whole : List Call
  whole = wait rest (calls l (length l))

  -- "The k-th taken release of a loop finishes with the first step by which the steps' answers since the opening have named that loop as
  -- running in as many ticks as its first k taken releases demand together. Its finish tick is the clock after that step"
  abbrev pub Finishes : ℕ → ℕ → Type 0
  Finishes e f = Taken e × Ends E whole (loop_at l e) (owed (loop_at l e) (suc e)) f

  -- the last taken entry of entry e's loop before it: "later releases are measured from the last one taken, never from a refused one"
  pub record Latest (e j : ℕ) : Type 0 where
    pub earlier : j < e
    pub was_taken : Taken j
    pub same-loop : loop_at l j ≡ loop_at l e
    pub none_between : (k : ℕ) → j < k → k < e → Taken k → loop_at l k ≡ loop_at l e → ⊥

-- an entry meets none of 17, 20, 22 and 21
pub record Admissible (E : Engine) (s : TaskSet) (l : List Entry) (e : ℕ) : Type 0 where
  pub onward : (j : ℕ) → j < e → tick_at l j ≤ tick_at l e
  pub in_table : loop_at l e < s.count
  pub apart : (j : ℕ) → Latest E l e j → tick_at l j + (s.task (loop_at l e)).separation ≤ tick_at l e
  pub demand-low : 1 ≤ demand_at l e
  pub demand-high : demand_at l e ≤ (s.task (loop_at l e)).budget

-- the log keeps the table: ticks never go back, every loop is in the table, any two entries of one loop are T or more apart, and every demand
-- is 1 to C
pub record Keeps (s : TaskSet) (l : List Entry) : Type 0 where
  pub onward : (j e : ℕ) → j < e → e < length l → tick_at l j ≤ tick_at l e
  pub in_table : (e : ℕ) → e < length l → loop_at l e < s.count
  pub apart :
      (j e : ℕ) → j < e → e < length l → loop_at l j ≡ loop_at l e → tick_at l j + (s.task (loop_at l e)).separation ≤ tick_at l e
  pub demand-low : (e : ℕ) → e < length l → 1 ≤ demand_at l e
  pub demand-high : (e : ℕ) → e < length l → demand_at l e ≤ (s.task (loop_at l e)).budget

module _ (E : Engine) (s : TaskSet) (x : ℕ → ℕ) (l : List Entry) where
  -- "it finishes within d ticks of release when finish tick minus entry tick is at most d", for d = the bound: Y + x + C, or C where loops
  -- are no more than cores
  abbrev pub InTime : ℕ → Type 0
  InTime e = (f : ℕ) × Finishes E l e f × (f ≤ tick_at l e + bound s x (loop_at l e))

  -- demand 3, "a single claim about the whole log, every entry in it"
  pub record Claim : Type 0 where
    pub takes : (e : ℕ) → e < length l → Taken E l e ↔ Admissible E s l e
    pub in_time : (e : ℕ) → e < length l → Taken E l e → InTime e
    pub all_in_time : ((e : ℕ) → e < length l → InTime e) ↔ Keeps s l
