-- What a log run keeps of the machine: for each pending job the number of the entry that released it, its owner, the heads in the order in which
-- they run, and the answer's bytes so far.
--     Arrays, arrays              the arrays that the run's code works on, as one record
--     tasks_on, engine_on           a plan's task set, and the machine as an engine on it
--     owners_in O                  the array of owners, sixteen places a loop, oldest first, 0 in unused places
--     counts_in O                  the array of their numbers
--     Below e os                  every owner is an entry before e
--     Whole, Rooted l os q        the jobs of q are those of the entries os as they were released; so they are but for the head's work
--     Book p l out₀ e h O out     after the calls h, made for the first e entries of l: O are the owners of the pending jobs, and out says of
--                                 each refused entry its number and of each that has ended its finish tick
--     Running                     that, and the arrays are those of the machine after h
use Rattle.std.specs.Prelude.{ℕ, suc, ◌*◌, ◌/◌, ◌%◌, ◌≤◌, ◌<◌, true, false, ◌≡◌, ◌⊎◌, List, [], ◌∷◌, length, get_or}
use Rattle.laws.specs.Tab.{tab}
use Rattle.laws.specs.Member.{member}
use Rattle.tasks.specs.declared.Plan.{Plan}
use Rattle.tasks.specs.TaskSet.{TaskSet}
use Rattle.tasks.specs.Content.{content_of}
use Rattle.machine.specs.Machine.{Job, job}
use Rattle.history.specs.Engine.{refused, Engine, Call, clock, state, named_ticks, Ends}
use Rattle.history.specs.Log.{Entry, tick_at, loop_at, demand_at, outcome, Taken, owed}
use Rattle.history.specs.Report.{finished, refusal}
use Rattle.history.specs.OnMachine.{machine_engine}
use Rattle.history.proofs.Owners.{Owned}
use Rattle.numbers.specs.Bytes.{byte}
use Rattle.heads.specs.Order.{Heads}
use Rattle.logs.specs.ReportLaws.{Said}

pub record Arrays : Type 0 where
  -- each loop's number of pending jobs, and their owners
  pub jobs : List ℕ
  pub owners : List ℕ
  -- key and remaining work of the heads, in their order, and how many there are
  pub key : List ℕ
  pub left : List ℕ
  pub heads : ℕ
  -- the answer's bytes
  pub out : List ℕ

abbrev pub arrays : List ℕ → List ℕ → List ℕ → List ℕ → ℕ → List ℕ → Arrays
arrays jobs owners key left heads out =
    record { jobs = jobs; owners = owners; key = key; left = left; heads = heads; out = out }

unfoldable pub owners_in : (ℕ → List ℕ) → List ℕ
owners_in O = tab (λ k. get_or (O (k / 16)) (k % 16) 0) 256

unfoldable pub counts_in : (ℕ → List ℕ) → List ℕ
counts_in O = tab (λ i. length (O i)) 16

abbrev pub Below : ℕ → List ℕ → Type 0
Below e [] = Unit {0}
Below e (o ∷ os) = (o < e) × Below e os

abbrev pub Whole : List Entry → List ℕ → List Job → Type 0
Whole l [] [] = Unit {0}
Whole l [] (j ∷ q) = ⊥
Whole l (o ∷ os) [] = ⊥
Whole l (o ∷ os) (job a w ∷ q) = (a ≡ tick_at l o) × (w ≡ demand_at l o) × Whole l os q

abbrev pub Rooted : List Entry → List ℕ → List Job → Type 0
Rooted l [] [] = Unit {0}
Rooted l [] (j ∷ q) = ⊥
Rooted l (o ∷ os) [] = ⊥
Rooted l (o ∷ os) (job a w ∷ q) = (a ≡ tick_at l o) × Whole l os q

-- a plan's task set, and the machine as an engine on it
abbrev pub tasks_on : Plan → TaskSet
tasks_on p = (content_of p).tasks

abbrev pub engine_on : Plan → Engine
engine_on p = machine_engine (tasks_on p)

module _ (p : Plan) (l : List Entry) (out₀ : List ℕ) where
  pub record Book (e : ℕ) (h : List Call) (O : ℕ → List ℕ) (out : List ℕ) : Type 0 where
    pub owned : (i : ℕ) → i < (tasks_on p).count → Owned (engine_on p) l i (named_ticks (engine_on p) h i (clock h)) (O i) ((state (engine_on p) h).lane i).queue
    pub rooted : (i : ℕ) → i < (tasks_on p).count → Rooted l (O i) ((state (engine_on p) h).lane i).queue
    pub unowned : (i : ℕ) → (tasks_on p).count ≤ i → O i ≡ []
    pub small : (i : ℕ) → Below e (O i)
    pub long : length out ≡ length out₀
    pub beyond : (j : ℕ) → 8 * e ≤ j → byte out j ≡ byte out₀ j
    pub refusals : (k n : ℕ) → k < e → outcome (engine_on p) l k ≡ refused n → Said out k (refusal n)
    -- a taken entry is the owner of a pending job, or it has ended, and its finish tick is said
    pub each :
        (k : ℕ) → k < e → Taken (engine_on p) l k
        → (member k (O (loop_at l k)) ≡ true)
        ⊎ ((f : ℕ) × Ends (engine_on p) h (loop_at l k) (owed (engine_on p) l (loop_at l k) (suc k)) f × Said out k (finished f))

  pub record Running (e : ℕ) (h : List Call) (O : ℕ → List ℕ) (W : Arrays) : Type 0 where
    pub counts_are : W.jobs ≡ counts_in O
    pub owners_are : W.owners ≡ owners_in O
    pub heads_are : Heads (tasks_on p) (state (engine_on p) h) (λ i. false) W.key W.left W.heads
    pub book : Book e h O W.out
