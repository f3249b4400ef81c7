-- Histories of the abstract machine: each of its states is reached from the opening, and what its steps named, what is left and what was
-- demanded are in balance.
--     not_refused, same_number, other     taken and refused differ, and so do two numbers
--     answer_allowed      a release is taken where it is allowed and a place is free
--     handed-cases       what holds after a taken release, and where nothing changed, holds of the machine handed back
--     reached            every state of a history is reached by taken releases and ticks
--     machine_clock      the machine's clock is the history's
--     balance            the ticks that named a loop and the work left in its queue are what its taken releases demand
use Prim.Native.Nat.{ℕ, suc, ◌+◌, ◌<◌}
use Rattle.std.specs.Prelude.{Ok, Err, Bool, ◌&&◌, ◌≡◌, ◌≢◌, eqb}
use Rattle.std.proofs.Math.Bool.{true, false, cond}
use Rattle.std.proofs.Common.{true≢false, sym}
use Rattle.std.proofs.Math.Path.{refl, ap}
use mathlib.Core.List.{List, [], ◌∷◌}
use native.Mathlib.Omega.{arith}
use Rattle.tasks.specs.TaskSet.{TaskSet}
use Rattle.tasks.specs.Answer.{Answer, Accepted}
use Rattle.machine.specs.Machine.{Machine, opened, full, Allowed, joined, admitted, waiting, runs, served, advanced, tick}
use Rattle.machine.specs.Admission.{admit_tests}
use Rattle.machine.proofs.AdmissionLaws.{taken_allowed}
use Rattle.machine.specs.Reached.{Reached, opening, release}
use Rattle.machine.proofs.Choice.{earliest}
use Rattle.machine.proofs.ReachedLaws.{reached-tick}
use Rattle.machine.proofs.Sound.{reached-sound}
use Rattle.machine.specs.Work.{work}
use Rattle.machine.proofs.Work.{work-joined, work-served}
use Rattle.history.specs.Engine.{Outcome, taken, refused, is_taken, outcome_of, Call, step, ask, clock, state, verdict, demanded, named_ticks}
use Rattle.history.proofs.EngineLaws.{named-now}
use Rattle.history.specs.OnMachine.{answer_of, if_taken, handed_of, machine_engine}

pub not_refused : {k : ℕ} → refused k ≡ taken → ⊥
not_refused e = true≢false (sym (ap is_taken e))

number : Outcome → ℕ
number taken = 0
number (refused k) = k

-- a refusal's number is one
pub same_number : {k n : ℕ} → refused k ≡ refused n → k ≡ n
unfolding number
same_number e = ap number e

pub other : (k : ℕ) {n : ℕ} → refused k ≡ refused n → k ≢ n → ⊥
other k e d = d (same_number e)

outcome-taken : (a : Answer) → outcome_of a ≡ taken → a ≡ Accepted
outcome-taken (Ok tt) e = refl
outcome-taken (Err r) e = absurd (not_refused e)

module _ (s : TaskSet) (M : Machine) (i c : ℕ) where
  pub answer_allowed : answer_of s M i c ≡ taken → Allowed s M i c × (full M i ≡ false)
  unfolding answer_of
  answer_allowed e = taken_allowed s M i c (outcome-taken (admit_tests s M i c) e)

  pub handed-cases :
      (P : Outcome → Machine → Type 0) → (answer_of s M i c ≡ taken → P taken (admitted i c M))
      → ((k : ℕ) → answer_of s M i c ≡ refused k → P (refused k) M) → P (answer_of s M i c) (handed_of s M i c)
  unfolding handed_of
  handed-cases P more same = go (answer_of s M i c) refl
    where
      go : (o : Outcome) → answer_of s M i c ≡ o → P o (if_taken o (admitted i c M) M)
      go taken e = more e
      go (refused k) e = same k e

module _ (s : TaskSet) where
  pub reached : (h : List Call) → Reached s (state (machine_engine s) h)
  reached [] = opening
  reached (step ∷ h) = reached-tick s (state (machine_engine s) h) (reached h)
  reached (ask i c ∷ h) =
      handed-cases s (state (machine_engine s) h) i c (λ o M. Reached s M)
      (λ e. release i c (answer_allowed s (state (machine_engine s) h) i c e).0 (reached h))
      (λ k e. reached h)

  pub machine_clock : (h : List Call) → (state (machine_engine s) h).clock ≡ clock h
  unfolding opened tick advanced admitted
  machine_clock [] = refl
  machine_clock (step ∷ h) = ap suc (machine_clock h)
  machine_clock (ask i c ∷ h) =
      handed-cases s (state (machine_engine s) h) i c (λ o M. M.clock ≡ clock h) (λ e. machine_clock h) (λ k e. machine_clock h)

  -- a loop that runs is in the table and has a job that may run
  pub runs_head : (M : Machine) (i : ℕ) → runs s M i ≡ true → (i < s.count) × (waiting M i ≡ true)
  runs_head M i e = (earliest s M).heads i e

  ran :
      (M : Machine) → Reached s M → (i : ℕ) (b : Bool) → runs s M i ≡ b
      → cond b 1 0 + work (cond b (served (M.lane i).queue) (M.lane i).queue) ≡ work (M.lane i).queue
  unfolding waiting
  ran M r i true e =
      let head = runs_head M i e in
      omega (
        arith,
        work-served (s.task i).separation (s.task i).budget M.clock 0 (M.lane i).queue
            ((reached-sound s r).lanes i head.0).rising head.1,
      )
  ran M r i false e = omega arith

  pub balance :
      (h : List Call) (i : ℕ)
      → named_ticks (machine_engine s) h i (clock h) + work ((state (machine_engine s) h).lane i).queue ≡ demanded (machine_engine s) h i
  unfolding named_ticks demanded opened tick advanced verdict admitted joined
  balance [] i = refl
  balance (step ∷ h) i =
      omega (
        arith,
        balance h i,
        named-now (machine_engine s) h i,
        ran (state (machine_engine s) h) (reached h) i (runs s (state (machine_engine s) h) i) refl,
      )
  balance (ask j c ∷ h) i =
      handed-cases s (state (machine_engine s) h) j c
      (λ o M. named_ticks (machine_engine s) h i (clock h) + work (M.lane i).queue
      ≡ demanded (machine_engine s) h i + cond (eqb i j && is_taken o) c 0)
      (λ e. more (state (machine_engine s) h) _ _ (eqb i j) (balance h i))
      (λ k e. same _ _ _ (eqb i j) (balance h i))
    where
      more :
          (M : Machine) (n d : ℕ) (b : Bool) → n + work (M.lane i).queue ≡ d
          → n + work (cond b (joined M.clock c (M.lane i)) (M.lane i)).queue ≡ d + cond (b && true) c 0
      more M n d true e = omega (arith, work-joined M.clock c (M.lane i).queue)
      more M n d false e = omega arith

      same : (n d w : ℕ) (b : Bool) → n + w ≡ d → n + w ≡ d + cond (b && false) c 0
      same n d w true e = omega arith
      same n d w false e = omega arith
