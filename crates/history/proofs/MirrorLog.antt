-- Mirroring of a log's run: an engine that mirrors another below a clock takes, refuses and finishes a log's entries as the other does, if the
-- run ends below that clock.
--     below                  every call of the run is made below that clock
--     same_outcome, same-owed, same-last, same_rest, same_whole      what the entries get is the same
--     same-report, same-counts     so is what is written
--     mirror_claim           demand 3 carries over
--     mirror_met             and so do the numbers of the refused entries
use Prim.Native.Nat.{ℕ, zero, suc, ◌+◌, ◌≤◌, ◌<◌}
use Rattle.std.proofs.Math.Bool.{Bool, cond, not}
use Rattle.std.specs.Prelude.{true, false, ◌&&◌, ◌≡◌, List, length, ltb, eqb}
use Rattle.std.proofs.Math.Path.{refl, ap, fun_ext}
use Rattle.std.proofs.Common.{sym, ◌∙◌, ⊎_elim, le_refl, arith, ltb-true, ltb-false}
use Rattle.std.proofs.Math.ListN.{get_or-eq_default}
use Rattle.std.proofs.Math.Dec.{leb}
use Rattle.laws.specs.First.{first}
use Rattle.laws.specs.FirstLaws.{first_or_none, first_holds, first-before, first-none, first_unique, none_first}
use Rattle.laws.specs.Sum.{sum, count}
use Rattle.tasks.specs.TaskSet.{TaskSet}
use Rattle.history.specs.Engine.{is_taken, named_ticks, Engine, clock, state}
use Rattle.history.proofs.EngineLaws.{clock-wait, until-clock}
use Rattle.history.specs.Log.{Entry, no_entry, tick_at, loop_at, demand_at, largest, wait, until, calls, outcome, Taken, owed, all_owed, rest, whole, Latest, Admissible, InTime, Claim}
use Rattle.history.proofs.LogLaws.{largest_le, largest-least, clock-calls, claim-of}
use Rattle.history.specs.Mirror.{Mirrors}
use Rattle.history.proofs.Mirror.{same-verdict, same-quiet, same-named, same_ends}
use Rattle.history.specs.Report.{report_of, last_taken, met, finish_tick, report, taken_count, refused_count}

-- no entry has a larger tick than the largest of all, and none past the end
tick_le : (l : List Entry) (j : ℕ) → tick_at l j ≤ largest l (length l)
tick_le l j = go (ltb j (length l)) refl
  where
    go : (b : Bool) → ltb j (length l) ≡ b → tick_at l j ≤ largest l (length l)
    go true e = largest_le l (length l) j (ltb-true j (length l) e)
    go false e = omega (arith, ap (λ (r : Entry). r.tick) (get_or-eq_default l no_entry (ltb-false j (length l) e)))

module _ (E F : Engine) (B : ℕ) (m : Mirrors E F B) (l : List Entry) (ends : clock (whole F l) < B) where
  end_clock : largest l (length l) + rest F l ≡ clock (whole F l)
  unfolding whole
  end_clock = omega (arith, clock-wait (rest F l) (calls l (length l)), clock-calls l (length l))

  pub below : (e : ℕ) → clock (until (tick_at l e) (calls l e)) < B
  below e =
      omega (
        arith,
        until-clock (tick_at l e) (calls l e),
        clock-calls l e,
        tick_le l e,
        largest-least l e (largest l (length l)) (λ j h. tick_le l j),
        end_clock,
      )

  pub same_outcome : (e : ℕ) → outcome E l e ≡ outcome F l e
  unfolding outcome
  same_outcome e = rw (same-verdict E F B m (until (tick_at l e) (calls l e)) (loop_at l e) (demand_at l e) (below e))

  outcomes : outcome E l ≡ outcome F l
  outcomes = fun_ext same_outcome

  pub same-owed : (i e : ℕ) → owed E l i e ≡ owed F l i e
  unfolding owed
  same-owed i e = ap (λ o. sum (λ k. cond (eqb i (loop_at l k) && is_taken (o k)) (demand_at l k) 0) e) outcomes

  same-all : all_owed E l ≡ all_owed F l
  unfolding all_owed
  same-all = ap (λ o. sum (λ k. cond (is_taken (o k)) (demand_at l k) 0) (length l)) outcomes

  pub same-last : (i e : ℕ) → last_taken E l i e ≡ last_taken F l i e
  unfolding last_taken
  same-last i zero = refl
  same-last i (suc e) = rw (same_outcome e, same-last i e)

  pub same_rest : rest E l ≡ rest F l
  unfolding rest
  same_rest = rw same-all (⊎_elim all-busy found (first_or_none (quiet_at F) (all_owed F l)))
    where
      quiet_at : (G : Engine) → ℕ → Bool
      quiet_at G k = G.quiet (state G (wait k (calls l (length l))))

      alike : (k : ℕ) → k ≤ first (quiet_at F) (all_owed F l) → quiet_at E k ≡ quiet_at F k
      alike k h =
          same-quiet E F B m (wait k (calls l (length l)))
          (omega (arith, clock-wait k (calls l (length l)), clock-calls l (length l), end_clock))

      all-busy : first (quiet_at F) (all_owed F l) ≡ all_owed F l → first (quiet_at E) (all_owed F l) ≡ first (quiet_at F) (all_owed F l)
      all-busy e =
          none_first (quiet_at E) (all_owed F l) (λ k h. alike k (omega arith) ∙ first-none (quiet_at F) (all_owed F l) e k h) ∙ sym e

      found : first (quiet_at F) (all_owed F l) < all_owed F l → first (quiet_at E) (all_owed F l) ≡ first (quiet_at F) (all_owed F l)
      found h =
          first_unique (quiet_at E) (all_owed F l) (first (quiet_at F) (all_owed F l)) h
          (alike _ (le_refl _) ∙ first_holds (quiet_at F) (all_owed F l) h)
          (λ k less. alike k (omega arith) ∙ first-before (quiet_at F) (all_owed F l) k less)

  pub same_whole : whole E l ≡ whole F l
  unfolding whole
  same_whole = ap (λ k. wait k (calls l (length l))) same_rest

  pub mirror_met : (s : TaskSet) (e : ℕ) → outcome F l e ≡ met F s l e → outcome E l e ≡ met E s l e
  unfolding met
  mirror_met s e q = same_outcome e ∙ q ∙ rw (sym (same-last (loop_at l e) e))

  pub same-report : (e : ℕ) → report E l e ≡ report F l e
  unfolding report finish_tick
  same-report e =
      rw (same_outcome e, same-owed (loop_at l e) (suc e), same_whole)
      (ap
      (λ n. report_of (outcome F l e) (first (λ f. leb (owed F l (loop_at l e) (suc e)) (n f)) (suc (clock (whole F l)))))
      names)
    where
      names : named_ticks E (whole F l) (loop_at l e) ≡ named_ticks F (whole F l) (loop_at l e)
      names = fun_ext (λ f. same-named E F B m (whole F l) (loop_at l e) f (omega arith))

  pub same-counts : (taken_count E l ≡ taken_count F l) × (refused_count E l ≡ refused_count F l)
  unfolding taken_count refused_count
  same-counts =
      (ap (λ o. count (λ e. is_taken (o e)) (length l)) outcomes, ap (λ o. count (λ e. not (is_taken (o e))) (length l)) outcomes)

  taken-there : (e : ℕ) → Taken E l e → Taken F l e
  taken-there e t = sym (same_outcome e) ∙ t

  taken_here : (e : ℕ) → Taken F l e → Taken E l e
  taken_here e t = same_outcome e ∙ t

  latest_there : (e j : ℕ) → Latest E l e j → Latest F l e j
  latest_there e j L =
      record {
        earlier = L.earlier;
        was_taken = taken-there j L.was_taken;
        same-loop = L.same-loop;
        none_between = λ k a b t q. L.none_between k a b (taken_here k t) q;
      }

  latest_here : (e j : ℕ) → Latest F l e j → Latest E l e j
  latest_here e j L =
      record {
        earlier = L.earlier;
        was_taken = taken_here j L.was_taken;
        same-loop = L.same-loop;
        none_between = λ k a b t q. L.none_between k a b (taken-there k t) q;
      }

  pub mirror_claim : (s : TaskSet) (x : ℕ → ℕ) → Claim F s x l → Claim E s x l
  mirror_claim s x C =
      claim-of l E s x
      (λ e h. (λ t. admits e ((C.takes e h).0 (taken-there e t)), λ A. taken_here e ((C.takes e h).1 (admitted-there e A))))
      (λ e h t. timely e (C.in_time e h (taken-there e t)))
    where
      admits : (e : ℕ) → Admissible F s l e → Admissible E s l e
      admits e A =
          record {
            onward = A.onward;
            in_table = A.in_table;
            apart = λ j L. A.apart j (latest_there e j L);
            demand-low = A.demand-low;
            demand-high = A.demand-high;
          }

      admitted-there : (e : ℕ) → Admissible E s l e → Admissible F s l e
      admitted-there e A =
          record {
            onward = A.onward;
            in_table = A.in_table;
            apart = λ j L. A.apart j (latest_here e j L);
            demand-low = A.demand-low;
            demand-high = A.demand-high;
          }

      timely : (e : ℕ) → InTime F s x l e → InTime E s x l e
      timely e T = (
        T.0,
        (
          taken_here e T.1.0,
          rw (same_whole, same-owed (loop_at l e) (suc e))
              ((same_ends E F B m (whole F l) (loop_at l e) _ T.0 (omega arith)).1 T.1.1),
        ),
        T.2,
      )
