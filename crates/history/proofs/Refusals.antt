-- Why an entry of a log is refused: by the first of 17, 20, 21 and 22 that it meets, and never by 23.
--     last_latest, last-cases      the last taken entry of a loop and its tick
--     takes_of                     where entries get the first number that they meet, those that meet none are taken: demand 3's first claim
--     last-wait                    steps change no loop's last release
--     machine_last                 the machine's last release of a loop is the last taken entry's
--     machine_met                  the machine refuses an entry by the first number that it meets
--     machine_takes                demand 3's first claim, of the machine
--     met-high                     so no entry is refused by a number above 22; met_not_23: none by 23
use Prim.Native.Nat.{ℕ, zero, suc, ◌+◌, ◌-◌, ◌≤◌, ◌<◌}
use Rattle.std.specs.Prelude.{Bool, ◌&&◌, ◌||◌, ◌≡◌, ◌↔◌, List, [], ◌∷◌, ltb, leb}
use Rattle.std.proofs.Math.Bool.{true, false, cond, true≢false}
use Rattle.std.proofs.Math.Path.{refl}
use Rattle.std.proofs.Common.{sym, ap, subst, ◌∙◌, le_refl, not-suc-le-zero, eq-or-lt_of_le, le_of_suc-le-suc, arith, ltb-false, le-ltb, leb-false, eqb-true, eq-eqb}
use Rattle.std.proofs.Math.Logic.{⊎_elim}
use Rattle.std.proofs.Math.Option.{Option, none, some}
use Rattle.std.proofs.Math.Dec.{eqb}
use Rattle.std.proofs.lemmas.Bool.{lt-leb}
use Rattle.tasks.specs.TaskSet.{TaskSet}
use Rattle.tasks.specs.Limits.{Limits, Enough, Bounded}
use Rattle.tasks.specs.Tests.{refuse, first_met, outside}
use Rattle.machine.specs.Machine.{Machine, opened, within, too_soon, full, joined, admitted, advanced, tick}
use Rattle.machine.specs.Admission.{join_tests, admit_tests}
use Rattle.machine.proofs.Theorem.{never_full}
use Rattle.history.specs.Engine.{taken, refused, is_taken, outcome_of, Engine, Call, ask, clock, state, verdict}
use Rattle.history.specs.Log.{Entry, tick_at, loop_at, demand_at, back, wait, until, calls, outcome, Taken, Admissible}
use Rattle.history.proofs.LogLaws.{is_taken_lem, back-onward, onward-back, clock-entry, entry-cases}
use Rattle.history.specs.OnMachine.{answer_of, machine_engine}
use Rattle.history.proofs.Balance.{not_refused, same_number, handed-cases, reached, machine_clock}
use Rattle.history.specs.Report.{last_taken, met}

module _ (E : Engine) (l : List Entry) where
  last_split :
      (P : Option ℕ → Type 0) (n i : ℕ) → (Taken E l n → loop_at l n ≡ i → P (some (tick_at l n)))
      → ((Taken E l n → loop_at l n ≡ i → ⊥) → P (last_taken E l i n)) → P (last_taken E l i (suc n))
  unfolding last_taken
  last_split P n i here not-here = go (eqb i (loop_at l n)) refl (is_taken (outcome E l n)) refl
    where
      go :
          (a : Bool) → eqb i (loop_at l n) ≡ a → (b : Bool) → is_taken (outcome E l n) ≡ b
          → P (cond (a && b) (some (tick_at l n)) (last_taken E l i n))
      go true p true q = here (is_taken_lem (outcome E l n) q) (sym (eqb-true i (loop_at l n) p))
      go true p false q = not-here (λ t e. true≢false (sym (ap is_taken t) ∙ q))
      go false p b q = not-here (λ t e. true≢false (sym (eq-eqb i (loop_at l n) (sym e)) ∙ p))

  -- where entry j is taken and no later one of its loop below n is, its tick is the last
  pub last_latest :
      (n i j : ℕ) → j < n → Taken E l j → loop_at l j ≡ i → ((k : ℕ) → j < k → k < n → Taken E l k → loop_at l k ≡ i → ⊥)
      → last_taken E l i n ≡ some (tick_at l j)
  last_latest zero i j h t q later = absurd (not-suc-le-zero h)
  last_latest (suc n) i j h t q later =
      ⊎_elim
      (λ (e : j ≡ n).
      last_split (λ o. o ≡ some (tick_at l j)) n i (λ t' q'. rw e)
      (λ none. absurd (none (subst (Taken E l) e t) (subst (λ k. loop_at l k ≡ i) e q))))
      (λ (less : j < n).
      last_split (λ o. o ≡ some (tick_at l j)) n i (λ t' q'. absurd (later n less (le_refl _) t' q'))
      (λ none. last_latest n i j less t q (λ k a b t' q'. later k a (omega arith) t' q')))
      (eq-or-lt_of_le (le_of_suc-le-suc h))

  pub last-cases :
      (P : Option ℕ → Type 0) (n i : ℕ) → P none
      → ((j : ℕ) → j < n → Taken E l j → loop_at l j ≡ i → ((k : ℕ) → j < k → k < n → Taken E l k → loop_at l k ≡ i → ⊥)
      → P (some (tick_at l j)))
      → P (last_taken E l i n)
  unfolding last_taken
  last-cases P zero i nobody one = nobody
  last-cases P (suc n) i nobody one =
      last_split P n i
      (λ t q. one n (le_refl _) t q (λ k a b t' q'. omega arith))
      (λ none.
      last-cases P n i nobody
      (λ j h t q between.
      one j (omega arith) t q
      (λ k a b t' q'. ⊎_elim
      (λ (e : k ≡ n). none (subst (Taken E l) e t') (subst (λ m. loop_at l m ≡ i) e q'))
      (λ (less : k < n). between k a less t' q')
      (eq-or-lt_of_le (le_of_suc-le-suc b)))))

  pub takes_of : (s : TaskSet) (e : ℕ) → outcome E l e ≡ met E s l e → Taken E l e ↔ Admissible E s l e
  unfolding met outside first_met
  takes_of s e same = (fits, none-met)
    where
      i : ℕ
      i = loop_at l e

      fits : Taken E l e → Admissible E s l e
      fits t =
          go (back l e) refl (leb s.count i) refl (ltb (demand_at l e) 1) refl (ltb (s.task i).budget (demand_at l e)) refl
          (within (s.task i).separation (tick_at l e) (last_taken E l i e)) refl (sym same ∙ t)
        where
          go :
              (v : Bool) → back l e ≡ v → (a : Bool) → leb s.count i ≡ a → (b : Bool) → ltb (demand_at l e) 1 ≡ b → (b' : Bool)
              → ltb (s.task i).budget (demand_at l e) ≡ b' → (d : Bool)
              → within (s.task i).separation (tick_at l e) (last_taken E l i e) ≡ d
              → outcome_of (first_met (refuse 17 v ∷ refuse 20 a ∷ refuse 21 (b || b') ∷ refuse 22 d ∷ [])) ≡ taken → Admissible E s l e
          go true p a q b r b' r' d u m = absurd (not_refused m)
          go false p true q b r b' r' d u m = absurd (not_refused m)
          go false p false q true r b' r' d u m = absurd (not_refused m)
          go false p false q false r true r' d u m = absurd (not_refused m)
          go false p false q false r false r' true u m = absurd (not_refused m)
          go false p false q false r false r' false u m =
              record {
                onward = back-onward l e p;
                in_table = leb-false s.count i q;
                apart = λ j L.
                    ltb-false (tick_at l e) (tick_at l j + (s.task i).separation)
                    (rw (last_latest e i j L.earlier L.was_taken L.same-loop L.none_between) at u);
                demand-low = ltb-false (demand_at l e) 1 r;
                demand-high = ltb-false (s.task i).budget (demand_at l e) r';
              }

      none-met : Admissible E s l e → Taken E l e
      none-met A =
          same
          ∙ rw (
            onward-back l e A.onward,
            lt-leb s.count i A.in_table,
            le-ltb (demand_at l e) 1 A.demand-low,
            le-ltb (s.task i).budget (demand_at l e) A.demand-high,
            apart,
          )
        where
          apart : within (s.task i).separation (tick_at l e) (last_taken E l i e) ≡ false
          apart =
              last-cases (λ o. within (s.task i).separation (tick_at l e) o ≡ false) e i refl
              (λ j h t q between.
              le-ltb (tick_at l e) (tick_at l j + (s.task i).separation)
              (A.apart j (record { earlier = h; was_taken = t; same-loop = q; none_between = between })))

module _ (s : TaskSet) where
  -- steps release nothing
  pub last-wait : (k : ℕ) (h : List Call) (i : ℕ) → ((state (machine_engine s) (wait k h)).lane i).last ≡ ((state (machine_engine s) h).lane i).last
  unfolding tick advanced
  last-wait zero h i = refl
  last-wait (suc k) h i = last-wait k h i

  last-until : (t : ℕ) (h : List Call) (i : ℕ) → ((state (machine_engine s) (until t h)).lane i).last ≡ ((state (machine_engine s) h).lane i).last
  unfolding until
  last-until t h i = last-wait (t - clock h) h i

module _ (s : TaskSet) (l : List Entry) where
  pub machine_last : (e i : ℕ) → ((state (machine_engine s) (calls l e)).lane i).last ≡ last_taken (machine_engine s) l i e
  unfolding calls opened last_taken admitted joined verdict
  machine_last zero i = refl
  machine_last (suc e) i =
      entry-cases l (machine_engine s)
      (λ o h. ((state (machine_engine s) h).lane i).last
      ≡ cond (eqb i (loop_at l e) && is_taken o) (some (tick_at l e)) (last_taken (machine_engine s) l i e))
      e
      (λ b. same (eqb i (loop_at l e)) (machine_last e i))
      (λ b. asked b (last-until s (tick_at l e) (calls l e) i ∙ machine_last e i))
    where
      same : (b : Bool) {o o' : Option ℕ} → o ≡ o' → o ≡ cond (b && false) (some (tick_at l e)) o'
      same true q = q
      same false q = q

      M : Machine
      M = state (machine_engine s) (until (tick_at l e) (calls l e))

      more :
          (b : Bool) {o : Option ℕ} → M.clock ≡ tick_at l e → (M.lane i).last ≡ o
          → (cond b (joined M.clock (demand_at l e) (M.lane i)) (M.lane i)).last ≡ cond (b && true) (some (tick_at l e)) o
      more true c q = ap (λ t. some t) c
      more false c q = q

      asked :
          back l e ≡ false → (M.lane i).last ≡ last_taken (machine_engine s) l i e
          → ((state (machine_engine s) (ask (loop_at l e) (demand_at l e) ∷ until (tick_at l e) (calls l e))).lane i).last
          ≡ cond (eqb i (loop_at l e) && is_taken (answer_of s M (loop_at l e) (demand_at l e))) (some (tick_at l e)) (last_taken (machine_engine s) l i e)
      asked b q =
          handed-cases s M (loop_at l e) (demand_at l e)
          (λ o N. (N.lane i).last ≡ cond (eqb i (loop_at l e) && is_taken o) (some (tick_at l e)) (last_taken (machine_engine s) l i e))
          (λ t. more (eqb i (loop_at l e)) (machine_clock s (until (tick_at l e) (calls l e)) ∙ clock-entry l e b) q)
          (λ k t. same (eqb i (loop_at l e)) q)

module _ (s : TaskSet) (x : ℕ → ℕ) (L : Limits s) (C : Enough s x) (B : Bounded s x) (l : List Entry) where
  pub machine_met : (e : ℕ) → outcome (machine_engine s) l e ≡ met (machine_engine s) s l e
  unfolding outcome met verdict answer_of admit_tests join_tests first_met too_soon full
  machine_met e = go (back l e) refl
    where
      i : ℕ
      i = loop_at l e

      M : Machine
      M = state (machine_engine s) (until (tick_at l e) (calls l e))

      soon : Bool
      soon = within (s.task i).separation (tick_at l e) (last_taken (machine_engine s) l i e)

      -- 22 as the machine tests it and as the log tells it
      same-soon : back l e ≡ false → too_soon s M i ≡ soon
      same-soon b =
          rw (
            machine_clock s (until (tick_at l e) (calls l e)),
            clock-entry l e b,
            last-until s (tick_at l e) (calls l e) i,
            machine_last s l e i,
          )

      -- without 23, which isn't met where 20 and 22 aren't
      without :
          (a : Bool) → leb s.count i ≡ a → (b d : Bool) → too_soon s M i ≡ d
          → outcome_of (first_met (refuse 20 a ∷ refuse 21 b ∷ refuse 22 d ∷ refuse 23 (full M i) ∷ [])) ≡ outcome_of (first_met (refuse 20 a ∷ refuse 21 b ∷ refuse 22 d ∷ []))
      without true p b d q = refl
      without false p true d q = refl
      without false p false true q = refl
      without false p false false q =
          rw (never_full s x L C B M (reached s (until (tick_at l e) (calls l e))) i (leb-false s.count i p) q)

      go :
          (v : Bool) → back l e ≡ v
          → cond v (refused 17) (answer_of s M i (demand_at l e))
          ≡ outcome_of (first_met (refuse 17 v ∷ refuse 20 (leb s.count i) ∷ refuse 21 (outside 1 (s.task i).budget (demand_at l e)) ∷ refuse 22 soon ∷ []))
      go true b = refl
      go false b =
          without (leb s.count i) refl (outside 1 (s.task i).budget (demand_at l e)) (too_soon s M i) refl
          ∙ ap (λ d. outcome_of (first_met (refuse 20 (leb s.count i) ∷ refuse 21 (outside 1 (s.task i).budget (demand_at l e)) ∷ refuse 22 d ∷ []))) (same-soon b)

  pub machine_takes : (e : ℕ) → Taken (machine_engine s) l e ↔ Admissible (machine_engine s) s l e
  machine_takes e = takes_of (machine_engine s) l s e (machine_met e)

-- of every engine whose entries get the first number that they meet: none gets a number above 22
pub met-high : (E : Engine) (s : TaskSet) (l : List Entry) (e k : ℕ) → met E s l e ≡ refused k → k ≤ 22
unfolding met first_met
met-high E s l e k m =
    go (back l e) (leb s.count (loop_at l e)) (outside 1 (s.task (loop_at l e)).budget (demand_at l e))
    (within (s.task (loop_at l e)).separation (tick_at l e) (last_taken E l (loop_at l e) e)) m
  where
    go : (a b c d : Bool) → outcome_of (first_met (refuse 17 a ∷ refuse 20 b ∷ refuse 21 c ∷ refuse 22 d ∷ [])) ≡ refused k → k ≤ 22
    go true b c d m = omega (arith, same_number m)
    go false true c d m = omega (arith, same_number m)
    go false false true d m = omega (arith, same_number m)
    go false false false true m = omega (arith, same_number m)
    go false false false false m = absurd (not_refused (sym m))

pub met_not_23 : (E : Engine) (s : TaskSet) (l : List Entry) (e : ℕ) → met E s l e ≡ refused 23 → ⊥
met_not_23 E s l e m = omega (arith, met-high E s l e 23 m)
