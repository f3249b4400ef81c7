-- The last steps of a run on the abstract machine: when they end, nothing is pending.
--     quiet-idle, idle-quiet       nothing is pending where no loop has a job that may run
--     drain                        while something is pending each step takes a tick of work off
--     work-demanded                the work left is at most the demands taken
--     whole-quiet                  so nothing is pending after the whole run
use Prim.Native.Nat.{ℕ, zero, suc, ◌+◌, ◌≤◌, ◌<◌}
use Rattle.std.proofs.Math.Bool.{Bool, cond}
use Rattle.std.specs.Prelude.{true, false, ◌&&◌, ◌≡◌, refl, List, [], ◌∷◌, length, ltb, eqb}
use Rattle.std.proofs.Common.{true≢false, sym, ◌∙◌, le_refl}
use Rattle.std.proofs.Math.Logic.{⊎_elim}
use Rattle.std.proofs.Math.Nat.{le_trans}
use native.Mathlib.Omega.{arith}
use borrow.Author.Tests.{eqb-true, eq-eqb, ne_eqb, ltb-true, ltb-false}
use Rattle.laws.specs.First.{first}
use Rattle.laws.specs.FirstLaws.{first_or_none, first_holds, first-none, none_first}
use Rattle.laws.specs.Sum.{sum}
use Rattle.laws.specs.SumLaws.{sum_mono, sum_add, sum_zero, sum_but_one, term_le_sum}
use Rattle.tasks.specs.TaskSet.{TaskSet}
use Rattle.machine.specs.Machine.{Job, job, Machine, pending, waiting, runs, tick}
use Rattle.machine.specs.Reached.{Reached}
use Rattle.machine.proofs.Choice.{earliest}
use Rattle.machine.specs.Sound.{Rising}
use Rattle.machine.proofs.Sound.{reached-sound}
use Rattle.machine.specs.Work.{work, work_in}
use Rattle.machine.proofs.Work.{work-ticked, some-run}
use Rattle.history.specs.Engine.{is_taken, Call, state}
use Rattle.history.specs.Log.{Entry, loop_at, demand_at, wait, calls, outcome, owed, all_owed, rest, whole}
use Rattle.history.proofs.LogLaws.{demanded-calls}
use Rattle.history.specs.OnMachine.{quiet_of, machine_engine}
use Rattle.history.proofs.Balance.{reached, balance}

module _ (s : TaskSet) where
  pub quiet-idle : (M : Machine) → quiet_of s M ≡ true → (i : ℕ) → i < s.count → waiting M i ≡ false
  unfolding quiet_of
  quiet-idle M q i h = first-none (waiting M) s.count (eqb-true _ _ q) i h

  pub idle-quiet : (M : Machine) → ((i : ℕ) → i < s.count → waiting M i ≡ false) → quiet_of s M ≡ true
  unfolding quiet_of
  idle-quiet M none = eq-eqb _ _ (none_first (waiting M) s.count none)

  -- a step of a machine with something pending takes work off
  less-work : 1 ≤ s.cores → (M : Machine) → Reached s M → quiet_of s M ≡ false → work_in s (tick s M) < work_in s M
  unfolding quiet_of tick
  less-work low M r q =
      let i = first (waiting M) s.count in
      let found : i < s.count = ⊎_elim
      (λ (e : i ≡ s.count). absurd (true≢false (sym (eq-eqb i s.count e) ∙ q)))
      (λ (h : i < s.count). h)
      (first_or_none (waiting M) s.count) in
      omega (
        arith,
        work-ticked s M (runs s M) (earliest s M) (reached-sound s r),
        some-run s M (runs s M) (earliest s M) low i found (first_holds (waiting M) s.count found),
      )

  pub drain :
      1 ≤ s.cores → (h : List Call) (k : ℕ) → ((j : ℕ) → j < k → quiet_of s (state (machine_engine s) (wait j h)) ≡ false)
      → work_in s (state (machine_engine s) (wait k h)) + k ≤ work_in s (state (machine_engine s) h)
  drain low h zero busy = omega arith
  drain low h (suc k) busy =
      omega (
        arith,
        drain low h k (λ j p. busy j (omega arith)),
        less-work low (state (machine_engine s) (wait k h)) (reached s (wait k h)) (busy k (le_refl _)),
      )

  no_work : (T C t r : ℕ) (q : List Job) → Rising T C t r q → work q ≡ 0 → pending q ≡ false
  no_work T C t r [] p e = refl
  no_work T C t r (job a w ∷ q) p e = absurd (omega arith)

  -- where no work is left nothing is pending
  pub done_quiet : (M : Machine) → Reached s M → work_in s M ≡ 0 → quiet_of s M ≡ true
  unfolding work_in waiting
  done_quiet M r none =
      idle-quiet M
      (λ i h.
      no_work (s.task i).separation (s.task i).budget M.clock 0 (M.lane i).queue ((reached-sound s r).lanes i h).rising
      (omega (arith, term_le_sum (λ j. work (M.lane j).queue) s.count i h)))

-- one demand counts for one loop at most
one_loop : (n j d : ℕ) (b : Bool) → sum (λ i. cond (eqb i j && b) d 0) n ≤ cond b d 0
one_loop n j d b = go (ltb j n) refl
  where
    else-none : (i : ℕ) → (i ≡ j → ⊥) → cond (eqb i j && b) d 0 ≡ 0
    else-none i ne = rw (ne_eqb i j ne)

    go : (c : Bool) → ltb j n ≡ c → sum (λ i. cond (eqb i j && b) d 0) n ≤ cond b d 0
    go true e =
        omega (
          arith,
          rw (eq-eqb j j refl) at (sum_but_one (λ i. cond (eqb i j && b) d 0) (λ i. 0) n j (ltb-true j n e) (λ i h ne. else-none i ne)),
          sum_zero (λ i. 0) n (λ i h. refl),
        )
    go false e =
        omega (arith, sum_zero (λ i. cond (eqb i j && b) d 0) n (λ i h. else-none i (omega (arith, ltb-false j n e))))

module _ (s : TaskSet) (l : List Entry) where
  owed-sum :
      (e : ℕ) → sum (λ i. owed (machine_engine s) l i e) s.count
      ≤ sum (λ k. cond (is_taken (outcome (machine_engine s) l k)) (demand_at l k) 0) e
  unfolding owed sum
  owed-sum zero = omega (arith, sum_zero (λ i. 0) s.count (λ i h. refl))
  owed-sum (suc e) =
      omega (
        arith,
        owed-sum e,
        sum_add (λ i. owed (machine_engine s) l i e)
            (λ i. cond (eqb i (loop_at l e) && is_taken (outcome (machine_engine s) l e)) (demand_at l e) 0)
            s.count,
        one_loop s.count (loop_at l e) (demand_at l e) (is_taken (outcome (machine_engine s) l e)),
      )

  pub work-demanded : work_in s (state (machine_engine s) (calls l (length l))) ≤ all_owed (machine_engine s) l
  unfolding work_in all_owed
  work-demanded =
      le_trans
      (sum_mono _ (λ i. owed (machine_engine s) l i (length l)) s.count
      (λ i h. omega (arith, balance s (calls l (length l)) i, demanded-calls l (machine_engine s) (length l) i)))
      (owed-sum (length l))

  pub whole-quiet : 1 ≤ s.cores → quiet_of s (state (machine_engine s) (whole (machine_engine s) l)) ≡ true
  unfolding whole rest
  whole-quiet low = ⊎_elim spent (first_holds later (all_owed (machine_engine s) l)) (first_or_none later (all_owed (machine_engine s) l))
    where
      later : ℕ → Bool
      later k = quiet_of s (state (machine_engine s) (wait k (calls l (length l))))

      -- as many steps as demands were taken, and something was pending before each: nothing is left
      spent : first later (all_owed (machine_engine s) l) ≡ all_owed (machine_engine s) l → later (first later (all_owed (machine_engine s) l)) ≡ true
      spent e =
          rw e
          (done_quiet s _ (reached s (wait (all_owed (machine_engine s) l) (calls l (length l))))
          (omega (
            arith,
            drain s low (calls l (length l)) (all_owed (machine_engine s) l) (first-none later (all_owed (machine_engine s) l) e),
            work-demanded,
          )))
