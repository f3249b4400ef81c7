-- How long a run lasts: after the last entry's tick at most the largest bound, which 13 keeps to 16 × 100,000 ticks. So an engine that mirrors the
-- machine up to a clock beyond that has demand 3 too.
--     longest              1,600,000
--     quiet-after          so many steps after any history nothing is pending
--     rest-high            no run takes more of them after its last entry
--     whole-clock          the clock at the end of a run
--     mirror_demand        demand 3 of an engine that mirrors the machine so far
--     mirror_numbers       the numbers of the entries that it refuses
use Prim.Native.Nat.{ℕ, ◌+◌, ◌≤◌, ◌<◌}
use Rattle.std.proofs.Math.Bool.{Bool}
use Rattle.std.specs.Prelude.{true, false, ◌≡◌, List, [], ◌∷◌, length, leb}
use Rattle.std.proofs.Common.{true≢false, subst, ◌∙◌, le_refl, leb-true, leb-false}
use Rattle.std.proofs.Math.Path.{refl, sym}
use Rattle.std.proofs.Math.Option.{Option}
use native.Mathlib.Omega.{arith}
use Rattle.laws.specs.First.{first}
use Rattle.laws.specs.FirstLaws.{first-before}
use Rattle.tasks.specs.TaskSet.{TaskSet, bound}
use Rattle.tasks.specs.Limits.{Limits, Enough, Bounded}
use Rattle.machine.specs.Machine.{Job, job, pending, waiting}
use Rattle.machine.specs.Reached.{AllInTime}
use Rattle.machine.proofs.Theorem.{bound_theorem}
use Rattle.machine.specs.Sound.{Rising, Newest, Past}
use Rattle.machine.proofs.Sound.{reached-sound}
use Rattle.history.specs.Engine.{Engine, Call, clock, state}
use Rattle.history.proofs.EngineLaws.{clock-wait}
use Rattle.history.specs.Log.{Entry, tick_at, wait, calls, outcome, all_owed, rest, whole, Claim}
use Rattle.history.proofs.LogLaws.{largest-least, clock-calls}
use Rattle.history.specs.OnMachine.{quiet_of, machine_engine}
use Rattle.history.proofs.Balance.{reached, machine_clock}
use Rattle.history.proofs.Refusals.{last-wait, machine_met}
use Rattle.history.proofs.Drain.{idle-quiet}
use Rattle.history.proofs.MachineClaim.{machine_claim}
use Rattle.history.specs.Mirror.{Mirrors}
use Rattle.history.proofs.MirrorLog.{mirror_claim, mirror_met}
use Rattle.history.specs.Report.{met}
use Rattle.history.specs.LogClock.{longest}

-- the head was released no later than the last taken release
head_past : (T C t r n a w : ℕ) (last : Option ℕ) (q : List Job) → Rising T C t r (job a w ∷ q) → Newest last (job a w ∷ q) → Past n last → a ≤ n
head_past T C t r n a w last [] c e p = subst (Past n) e p
head_past T C t r n a w last (job a' w' ∷ q) c e p = omega (arith, head_past T C t (a + T) n a' w' last q c.4 e p)

-- at t, b ticks after the last release, every job would be past its bound
spent :
    (T C t n b : ℕ) (last : Option ℕ) (q : List Job) → Rising T C t 0 q → Newest last q → Past n last → AllInTime t b q → n + b ≤ t
    → pending q ≡ false
spent T C t n b last [] c e p h late = refl
spent T C t n b last (job a w ∷ q) c e p h late = absurd (omega (arith, head_past T C t 0 n a w last q c e p))

module _ (s : TaskSet) (x : ℕ → ℕ) (L : Limits s) (C : Enough s x) (B : Bounded s x) where
  bound-high : (i : ℕ) → i < s.count → bound s x i ≤ longest
  unfolding Bounded
  bound-high i h = omega (arith, B i h, L.separation-high i h)

  pub quiet-after : (k : ℕ) (h : List Call) → longest ≤ k → quiet_of s (state (machine_engine s) (wait k h)) ≡ true
  unfolding waiting
  quiet-after k h long =
      idle-quiet s (state (machine_engine s) (wait k h))
      (λ i l.
      let S = (reached-sound s (reached s (wait k h))).lanes i l in
      spent (s.task i).separation (s.task i).budget (state (machine_engine s) (wait k h)).clock (clock h) (bound s x i)
      ((state (machine_engine s) (wait k h)).lane i).last ((state (machine_engine s) (wait k h)).lane i).queue
      S.rising S.newest (past i l) ((bound_theorem s x L C _ (reached s (wait k h))).pending i l)
      (omega (arith, bound-high i l, machine_clock s (wait k h), clock-wait k h)))
    where
      past : (i : ℕ) → i < s.count → Past (clock h) ((state (machine_engine s) (wait k h)).lane i).last
      past i l = rw (last-wait s k h i, sym (machine_clock s h)) ((reached-sound s (reached s h)).lanes i l).past

  module _ (l : List Entry) where
    pub rest-high : (k : ℕ) → longest ≤ k → rest (machine_engine s) l ≤ k
    unfolding rest
    rest-high k long = go (leb (first quiet_at (all_owed (machine_engine s) l)) k) refl
      where
        quiet_at : ℕ → Bool
        quiet_at n = quiet_of s (state (machine_engine s) (wait n (calls l (length l))))

        go : (b : Bool) → leb (first quiet_at (all_owed (machine_engine s) l)) k ≡ b → first quiet_at (all_owed (machine_engine s) l) ≤ k
        go true e = leb-true _ k e
        go false e =
            absurd
            (true≢false
            (sym (quiet-after k (calls l (length l)) long) ∙ first-before quiet_at (all_owed (machine_engine s) l) k (leb-false _ k e)))

    module _ (N : ℕ) (ticks : (e : ℕ) → e < length l → tick_at l e ≤ N) where
      pub whole-clock : clock (whole (machine_engine s) l) ≤ N + longest
      unfolding whole
      whole-clock =
          omega (
            arith,
            clock-wait (rest (machine_engine s) l) (calls l (length l)),
            clock-calls l (length l),
            largest-least l (length l) N ticks,
            rest-high longest (le_refl longest),
          )

      module _ (E : Engine) (D : ℕ) (m : Mirrors E (machine_engine s) D) (far : N + longest < D) where
        pub mirror_demand : Claim E s x l
        mirror_demand = mirror_claim E (machine_engine s) D m l (omega (arith, whole-clock)) s x (machine_claim s x L C B l)

        pub mirror_numbers : (e : ℕ) → outcome E l e ≡ met E s l e
        mirror_numbers e = mirror_met E (machine_engine s) D m l (omega (arith, whole-clock)) s e (machine_met s x L C B l e)
