-- Which entries of a log the pending jobs of a loop are, so that a run can write each finish tick where its entry's answer stands: beside a loop's
-- queue goes the list of its owners, the numbers of the entries that released its jobs, oldest first.
--     Owned E l i n os q      os are the owners of loop i's queue q, with n ticks in which the loop was named so far
--     finishing               whether the head of a queue finishes if it runs
--     owned-length            there are as many owners as jobs
--     owned-tick              a tick takes the first owner off where the head finishes
--     owned_head              the owner of a head that finishes lacks one tick
--     owned-joined            a taken entry goes behind the others
--     owed-new                what a taken entry's loop is owed with it
--     owners-taken            the owners after a taken entry's release
--     owner_ends              the entry whose job finishes in a step ends with that step
--     owners-tick             the owners after a step of the machine
use Prim.Native.Nat.{ℕ, zero, suc, ◌+◌, ◌<◌}
use Rattle.std.specs.Prelude.{Bool, cond, ◌&&◌, ◌≡◌, length, get_or, drop, leb}
use Rattle.std.proofs.Math.Bool.{true, false}
use Rattle.std.proofs.lemmas.Bool.{false≢true}
use Rattle.std.proofs.Math.Path.{refl, subst}
use Rattle.std.proofs.Common.{sym, ap, ◌∙◌, add-zero}
use mathlib.Core.List.{List, [], ◌∷◌, ◌++◌}
use native.Mathlib.Omega.{arith}
use borrow.Author.Tests.{lt-leb, leb-true, eq-eqb}
use Rattle.laws.specs.Sum.{sum}
use Rattle.tasks.specs.TaskSet.{TaskSet}
use Rattle.machine.specs.Machine.{Job, job, joined, admitted, runs, served, advanced, tick}
use Rattle.machine.specs.Sound.{Rising}
use Rattle.machine.proofs.Sound.{reached-sound}
use Rattle.machine.specs.Work.{work}
use Rattle.history.specs.Engine.{Engine, Call, step, clock, state, verdict, named_ticks, Ends}
use Rattle.history.proofs.EngineLaws.{demanded-until, named-now, ends_now}
use Rattle.history.specs.Log.{Entry, tick_at, loop_at, demand_at, until, calls, Taken, owed}
use Rattle.history.proofs.LogLaws.{taken_call, demanded-calls}
use Rattle.history.specs.OnMachine.{handed_of, machine_engine}
use Rattle.history.proofs.Balance.{reached, balance}

abbrev pub finishing : List Job → Bool
finishing [] = false
finishing (job a w ∷ q) = leb w 1

module _ (E : Engine) (l : List Entry) (i : ℕ) where
  abbrev pub Owned : ℕ → List ℕ → List Job → Type 0
  Owned n [] [] = Unit {0}
  Owned n [] (j ∷ q) = ⊥
  Owned n (o ∷ os) [] = ⊥
  Owned n (o ∷ os) (job a w ∷ q) = (loop_at l o ≡ i) × Taken E l o × (owed E l i (suc o) ≡ n + w) × Owned (n + w) os q

  pub owned-length : (n : ℕ) (os : List ℕ) (q : List Job) → Owned n os q → length os ≡ length q
  owned-length n [] [] p = refl
  owned-length n [] (j ∷ q) p = absurd p
  owned-length n (o ∷ os) [] p = absurd p
  owned-length n (o ∷ os) (job a w ∷ q) p = ap suc (owned-length (n + w) os q p.3)

  pub owned-tick :
      (T C t r n : ℕ) (os : List ℕ) (q : List Job) (b : Bool) → Rising T C t r q → Owned n os q
      → Owned (n + cond b 1 0) (cond (b && finishing q) (drop 1 os) os) (cond b (served q) q)
  unfolding served
  owned-tick T C t r n os q false c p = subst (λ k. Owned k os q) (sym (add-zero n)) p
  owned-tick T C t r n [] [] true c p = tt
  owned-tick T C t r n [] (j ∷ q) true c p = absurd p
  owned-tick T C t r n (o ∷ os) [] true c p = absurd p
  owned-tick T C t r n (o ∷ os) (job a zero ∷ q) true c p = absurd (omega arith)
  owned-tick T C t r n (o ∷ os) (job a (suc zero) ∷ q) true c p = p.3
  owned-tick T C t r n (o ∷ os) (job a (suc (suc w)) ∷ q) true c p =
      rw (lt-leb (suc (suc w)) 1 (omega arith)) (p.0, p.1, omega arith, subst (λ k. Owned k os q) same p.3)
    where
      same : n + suc (suc w) ≡ n + 1 + suc w
      same = omega arith

  pub owned_head :
      (T C t r n : ℕ) (os : List ℕ) (q : List Job) → Rising T C t r q → Owned n os q → finishing q ≡ true
      → (loop_at l (get_or os 0 0) ≡ i) × Taken E l (get_or os 0 0) × (owed E l i (suc (get_or os 0 0)) ≡ n + 1)
  owned_head T C t r n [] [] c p e = absurd (false≢true e)
  owned_head T C t r n [] (j ∷ q) c p e = absurd p
  owned_head T C t r n (o ∷ os) [] c p e = absurd p
  owned_head T C t r n (o ∷ os) (job a w ∷ q) c p e = (p.0, p.1, omega (arith, leb-true w 1 e))

  pub owned-joined :
      (n t c e : ℕ) (os : List ℕ) (q : List Job) → loop_at l e ≡ i → Taken E l e → owed E l i (suc e) ≡ n + work q + c → Owned n os q
      → Owned n (os ++ e ∷ []) (q ++ job t c ∷ [])
  owned-joined n t c e [] [] s k d p = (s, k, d ∙ omega arith, tt)
  owned-joined n t c e [] (j ∷ q) s k d p = absurd p
  owned-joined n t c e (o ∷ os) [] s k d p = absurd p
  owned-joined n t c e (o ∷ os) (job a w ∷ q) s k d p =
      (p.0, p.1, p.2, owned-joined (n + w) t c e os q s k (omega arith) p.3)

module _ (s : TaskSet) (l : List Entry) where
  pub owed-new :
      (e : ℕ) → Taken (machine_engine s) l e
      → owed (machine_engine s) l (loop_at l e) (suc e)
      ≡ named_ticks (machine_engine s) (until (tick_at l e) (calls l e)) (loop_at l e) (clock (until (tick_at l e) (calls l e)))
      + work ((state (machine_engine s) (until (tick_at l e) (calls l e))).lane (loop_at l e)).queue
      + demand_at l e
  unfolding owed sum
  owed-new e t =
      rw (t, eq-eqb (loop_at l e) (loop_at l e) refl)
      (omega (
        arith,
        balance s (until (tick_at l e) (calls l e)) (loop_at l e),
        demanded-until (machine_engine s) (tick_at l e) (calls l e) (loop_at l e),
        demanded-calls l (machine_engine s) e (loop_at l e),
      ))

  -- a taken entry goes behind the owners that its loop had when it was released
  pub owners-taken :
      (e : ℕ) (os : List ℕ) → Taken (machine_engine s) l e
      → Owned (machine_engine s) l (loop_at l e)
      (named_ticks (machine_engine s) (until (tick_at l e) (calls l e)) (loop_at l e) (clock (until (tick_at l e) (calls l e)))) os
      ((state (machine_engine s) (until (tick_at l e) (calls l e))).lane (loop_at l e)).queue
      → Owned (machine_engine s) l (loop_at l e) (named_ticks (machine_engine s) (calls l (suc e)) (loop_at l e) (clock (calls l (suc e))))
      (os ++ e ∷ []) ((state (machine_engine s) (calls l (suc e))).lane (loop_at l e)).queue
  unfolding named_ticks verdict handed_of admitted joined
  owners-taken e os t p =
      let c = taken_call l (machine_engine s) e t in
      rw (c.2, c.1, eq-eqb (loop_at l e) (loop_at l e) refl)
      (owned-joined (machine_engine s) l (loop_at l e) _ _ (demand_at l e) e os
      ((state (machine_engine s) (until (tick_at l e) (calls l e))).lane (loop_at l e)).queue refl t (owed-new e t) p)

  module _ (h : List Call) (i : ℕ) (os : List ℕ) (less : i < s.count) where
    pub owner_ends :
        Owned (machine_engine s) l i (named_ticks (machine_engine s) h i (clock h)) os ((state (machine_engine s) h).lane i).queue
        → runs s (state (machine_engine s) h) i ≡ true → finishing ((state (machine_engine s) h).lane i).queue ≡ true
        → Ends (machine_engine s) (step ∷ h) i (owed (machine_engine s) l i (suc (get_or os 0 0))) (suc (clock h))
    owner_ends p r f =
        ends_now (machine_engine s) h i _
        (sym (owned_head (machine_engine s) l i (s.task i).separation (s.task i).budget (state (machine_engine s) h).clock 0
        (named_ticks (machine_engine s) h i (clock h)) os ((state (machine_engine s) h).lane i).queue
        ((reached-sound s (reached s h)).lanes i less).rising p f).2)
        r

    pub owners-tick :
        Owned (machine_engine s) l i (named_ticks (machine_engine s) h i (clock h)) os ((state (machine_engine s) h).lane i).queue
        → Owned (machine_engine s) l i (named_ticks (machine_engine s) (step ∷ h) i (suc (clock h)))
        (cond (runs s (state (machine_engine s) h) i && finishing ((state (machine_engine s) h).lane i).queue) (drop 1 os) os)
        ((state (machine_engine s) (step ∷ h)).lane i).queue
    unfolding tick advanced
    owners-tick p =
        rw (named-now (machine_engine s) h i)
        (owned-tick (machine_engine s) l i (s.task i).separation (s.task i).budget (state (machine_engine s) h).clock 0
        (named_ticks (machine_engine s) h i (clock h)) os ((state (machine_engine s) h).lane i).queue (runs s (state (machine_engine s) h) i)
        ((reached-sound s (reached s h)).lanes i less).rising p)
