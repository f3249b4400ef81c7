-- Laws of the calls that a log makes, of every engine.
--     largest_le, largest-least, back-onward, onward-back      17 is met where an earlier entry has a larger tick
--     clock-calls, clock-entry       the clock after the first entries is the largest tick, and an entry that isn't refused 17 is handed at its tick
--     entry-cases                    what holds of an entry that meets 17 and of one that is handed to a call holds of the outcome and the calls
--     taken_call                     a taken entry's call
--     calls-later                    the calls of more entries come after those of fewer
--     demanded-calls                 what the releases of the first entries demand of a loop
--     taken-whole                    a taken entry's call is one of the whole run's
--     is_taken_lem                       a release whose answer is no refusal is taken
--     latest_of                      where an entry of a loop was taken, there is a last taken one before any later entry
--     taken-apart                    an admissible entry is T or more ticks after every taken one of its loop before it
--     claim-of                       demand 3's third claim follows from the other two
use Prim.Native.Nat.{ℕ, zero, suc, ◌+◌, ◌-◌, ◌≤◌, ◌<◌, max}
use Rattle.std.specs.Prelude.{Bool, ◌&&◌, ◌≡◌, ◌↔◌, length, eqb}
use Rattle.std.proofs.Math.Bool.{true, false, cond, and-eq-true_iff}
use Rattle.std.proofs.Common.{true≢false, ◌∙◌, le_refl, not-suc-le-zero, eq-or-lt_of_le, le_of_suc-le-suc}
use Rattle.std.proofs.lemmas.Bool.{false≢true}
use Rattle.std.proofs.Math.Path.{refl, sym, ap}
use Rattle.std.proofs.Math.Logic.{⊎_elim}
use mathlib.Core.List.{List, [], ◌∷◌, ◌++◌, append_assoc}
use native.Mathlib.Omega.{arith}
use Rattle.std.proofs.Math.Dec.{ltb}
use borrow.Author.Tests.{ltb-true, ltb-false, le-ltb, eqb-true, eq-eqb}
use Rattle.laws.specs.FirstLaws.{last_true}
use Rattle.laws.specs.Sum.{sum}
use Rattle.tasks.specs.TaskSet.{TaskSet}
use Rattle.history.specs.Engine.{Outcome, taken, refused, is_taken, Engine, Call, ask, clock, verdict, demanded}
use Rattle.history.specs.Log.{Entry, tick_at, loop_at, demand_at, largest, back, wait, until, calls, outcome, Taken, owed, rest, whole, Latest, Admissible, InTime, Claim}
use Rattle.history.proofs.EngineLaws.{demanded-until, until-clock, wait-later}
use Rattle.history.proofs.Balance.{not_refused}

pub is_taken_lem : (o : Outcome) → is_taken o ≡ true → o ≡ taken
is_taken_lem taken e = refl
is_taken_lem (refused k) e = absurd (false≢true e)

module _ (l : List Entry) where
  pub largest_le : (e j : ℕ) → j < e → tick_at l j ≤ largest l e
  unfolding largest
  largest_le zero j h = absurd (not-suc-le-zero h)
  largest_le (suc e) j h =
      ⊎_elim
      (λ (q : j ≡ e). rw q (omega arith))
      (λ (q : j < e). omega (arith, largest_le e j q))
      (eq-or-lt_of_le (le_of_suc-le-suc h))

  pub largest-least : (e t : ℕ) → ((j : ℕ) → j < e → tick_at l j ≤ t) → largest l e ≤ t
  unfolding largest
  largest-least zero t h = omega arith
  largest-least (suc e) t h = omega (arith, largest-least e t (λ j p. h j (omega arith)), h e (le_refl _))

  pub back-onward : (e : ℕ) → back l e ≡ false → (j : ℕ) → j < e → tick_at l j ≤ tick_at l e
  unfolding back
  back-onward e b j h = omega (arith, largest_le e j h, ltb-false (tick_at l e) (largest l e) b)

  pub onward-back : (e : ℕ) → ((j : ℕ) → j < e → tick_at l j ≤ tick_at l e) → back l e ≡ false
  unfolding back
  onward-back e h = le-ltb (tick_at l e) (largest l e) (largest-least e (tick_at l e) h)

  pub clock-calls : (e : ℕ) → clock (calls l e) ≡ largest l e
  unfolding calls largest back
  clock-calls zero = refl
  clock-calls (suc e) = go (ltb (tick_at l e) (largest l e)) refl (clock-calls e)
    where
      go :
          (b : Bool) → ltb (tick_at l e) (largest l e) ≡ b → clock (calls l e) ≡ largest l e
          → clock (cond b (calls l e) (ask (loop_at l e) (demand_at l e) ∷ until (tick_at l e) (calls l e))) ≡ max (largest l e) (tick_at l e)
      go true q ih = omega (arith, ltb-true (tick_at l e) (largest l e) q)
      go false q ih = omega (arith, until-clock (tick_at l e) (calls l e))

  pub clock-entry : (e : ℕ) → back l e ≡ false → clock (until (tick_at l e) (calls l e)) ≡ tick_at l e
  unfolding back
  clock-entry e b =
      omega (arith, until-clock (tick_at l e) (calls l e), clock-calls e, ltb-false (tick_at l e) (largest l e) b)

  module _ (E : Engine) where
    pub entry-cases :
        (P : Outcome → List Call → Type 0) (e : ℕ) → (back l e ≡ true → P (refused 17) (calls l e))
        → (back l e ≡ false
        → P (verdict E (until (tick_at l e) (calls l e)) (loop_at l e) (demand_at l e))
        (ask (loop_at l e) (demand_at l e) ∷ until (tick_at l e) (calls l e)))
        → P (outcome E l e) (calls l (suc e))
    unfolding outcome calls
    entry-cases P e late asked = go (back l e) refl
      where
        go :
            (b : Bool) → back l e ≡ b
            → P (cond b (refused 17) (verdict E (until (tick_at l e) (calls l e)) (loop_at l e) (demand_at l e)))
            (cond b (calls l e) (ask (loop_at l e) (demand_at l e) ∷ until (tick_at l e) (calls l e)))
        go true q = late q
        go false q = asked q

    pub taken_call :
        (e : ℕ) → Taken E l e
        → (back l e ≡ false) × (verdict E (until (tick_at l e) (calls l e)) (loop_at l e) (demand_at l e) ≡ taken)
        × (calls l (suc e) ≡ ask (loop_at l e) (demand_at l e) ∷ until (tick_at l e) (calls l e))
    taken_call e =
        entry-cases
        (λ o h. o ≡ taken
        → (back l e ≡ false) × (verdict E (until (tick_at l e) (calls l e)) (loop_at l e) (demand_at l e) ≡ taken)
        × (h ≡ ask (loop_at l e) (demand_at l e) ∷ until (tick_at l e) (calls l e)))
        e
        (λ b t. absurd (not_refused t))
        (λ b t. (b, t, refl))

    pub demanded-calls : (e i : ℕ) → demanded E (calls l e) i ≡ owed E l i e
    unfolding demanded owed sum calls
    demanded-calls zero i = refl
    demanded-calls (suc e) i =
        entry-cases
        (λ o h. demanded E h i
        ≡ sum (λ k. cond (eqb i (loop_at l k) && is_taken (outcome E l k)) (demand_at l k) 0) e + cond (eqb i (loop_at l e) && is_taken o) (demand_at l e) 0)
        e
        (λ b. none (eqb i (loop_at l e)) (demanded-calls e i))
        (λ b. rw (demanded-until E (tick_at l e) (calls l e)) (omega (arith, demanded-calls e i)))
      where
        none : (b : Bool) → demanded E (calls l e) i ≡ owed E l i e → demanded E (calls l e) i ≡ owed E l i e + cond (b && false) (demand_at l e) 0
        none true q = omega arith
        none false q = omega arith

  one_later : (e : ℕ) → (g : List Call) × (calls l (suc e) ≡ g ++ calls l e)
  unfolding calls until
  one_later e = go (back l e)
    where
      steps : (g : List Call) × (wait (tick_at l e - clock (calls l e)) (calls l e) ≡ g ++ calls l e)
      steps = wait-later (tick_at l e - clock (calls l e)) (calls l e)

      go : (b : Bool) → (g : List Call) × (cond b (calls l e) (ask (loop_at l e) (demand_at l e) ∷ until (tick_at l e) (calls l e)) ≡ g ++ calls l e)
      go true = ([], refl)
      go false = (ask (loop_at l e) (demand_at l e) ∷ steps.0, ap (λ z. ask (loop_at l e) (demand_at l e) ∷ z) steps.1)

  pub calls-later : (e k : ℕ) → e ≤ k → (g : List Call) × (calls l k ≡ g ++ calls l e)
  calls-later e zero h = ([], ap (calls l) (omega arith))
  calls-later e (suc k) h =
      ⊎_elim
      (λ (q : e ≡ suc k). ([], ap (calls l) (sym q)))
      (λ (q : e < suc k). onto (one_later k) (calls-later e k (le_of_suc-le-suc q)))
      (eq-or-lt_of_le h)
    where
      onto :
          (g : List Call) × (calls l (suc k) ≡ g ++ calls l k) → (g : List Call) × (calls l k ≡ g ++ calls l e)
          → (g : List Call) × (calls l (suc k) ≡ g ++ calls l e)
      onto a b = (a.0 ++ b.0, a.1 ∙ ap (λ z. a.0 ++ z) b.1 ∙ sym (append_assoc a.0 b.0 (calls l e)))

  pub taken-whole :
      (E : Engine) (e : ℕ) → e < length l → Taken E l e
      → (g : List Call) × (whole E l ≡ g ++ ask (loop_at l e) (demand_at l e) ∷ until (tick_at l e) (calls l e))
  unfolding whole
  taken-whole E e h t =
      let r = calls-later (suc e) (length l) h in
      let w = wait-later (rest E l) (calls l (length l)) in (
        w.0 ++ r.0,
        w.1
            ∙ ap (λ z. w.0 ++ z) r.1
            ∙ sym (append_assoc w.0 r.0 (calls l (suc e)))
            ∙ ap (λ z. (w.0 ++ r.0) ++ z) (taken_call E e t).2,
      )

  pub latest_of : (E : Engine) (e j : ℕ) → j < e → Taken E l j → loop_at l j ≡ loop_at l e → (k : ℕ) × (j ≤ k) × Latest E l e k
  latest_of E e j less t same =
      let r = last_true taken_here e j less (here j t same) in (
        r.0,
        r.1,
        record {
          earlier = r.2;
          was_taken = is_taken_lem (outcome E l r.0) (parts r.0 r.3).1;
          same-loop = eqb-true (loop_at l r.0) (loop_at l e) (parts r.0 r.3).0;
          none_between = λ k a b t' same'. true≢false (sym (here k t' same') ∙ r.4 k a b);
        },
      )
    where
      taken_here : ℕ → Bool
      taken_here k = eqb (loop_at l k) (loop_at l e) && is_taken (outcome E l k)

      parts : (k : ℕ) → taken_here k ≡ true → (eqb (loop_at l k) (loop_at l e) ≡ true) × (is_taken (outcome E l k) ≡ true)
      parts k q = (and-eq-true_iff (eqb (loop_at l k) (loop_at l e)) (is_taken (outcome E l k))).0 q

      here : (k : ℕ) → Taken E l k → loop_at l k ≡ loop_at l e → taken_here k ≡ true
      here k t' same' = (and-eq-true_iff _ _).1 (eq-eqb (loop_at l k) (loop_at l e) same', ap is_taken t')

  -- an entry that is measured from the last taken one of its loop is as far from every taken one before that
  pub taken-apart :
      (E : Engine) (s : TaskSet) → ((e : ℕ) → e < length l → Taken E l e ↔ Admissible E s l e) → (j e : ℕ) → j < e → e < length l
      → Admissible E s l e → Taken E l j → loop_at l j ≡ loop_at l e → tick_at l j + (s.task (loop_at l e)).separation ≤ tick_at l e
  taken-apart E s takes j e less h A t same =
      let k = latest_of E e j less t same in
      let last = k.2.earlier in
      ⊎_elim
      (λ (q : j ≡ k.0). rw q (A.apart k.0 k.2))
      (λ (q : j < k.0).
      omega (arith, A.apart k.0 k.2, ((takes k.0 (omega (arith, last))).0 k.2.was_taken).onward j q))
      (eq-or-lt_of_le k.1)

  pub claim-of :
      (E : Engine) (s : TaskSet) (x : ℕ → ℕ) → ((e : ℕ) → e < length l → Taken E l e ↔ Admissible E s l e)
      → ((e : ℕ) → e < length l → Taken E l e → InTime E s x l e) → Claim E s x l
  claim-of E s x takes in_time =
      record {
        takes = takes;
        in_time = in_time;
        all_in_time = (
          λ all. record {
            onward = λ j e less h. (fit all e h).onward j less;
            in_table = λ e h. (fit all e h).in_table;
            apart = λ j e less h same. spread all j e less h same;
            demand-low = λ e h. (fit all e h).demand-low;
            demand-high = λ e h. (fit all e h).demand-high;
          },
          λ K e h. in_time e h
              ((takes e h).1
              (record {
                onward = λ j less. K.onward j e less h;
                in_table = K.in_table e h;
                apart = λ j L. K.apart j e L.earlier h L.same-loop;
                demand-low = K.demand-low e h;
                demand-high = K.demand-high e h;
              })),
        );
      }
    where
      fit : ((e : ℕ) → e < length l → InTime E s x l e) → (e : ℕ) → e < length l → Admissible E s l e
      fit all e h = (takes e h).0 (all e h).1.0

      spread :
          ((e : ℕ) → e < length l → InTime E s x l e) → (j e : ℕ) → j < e → e < length l → loop_at l j ≡ loop_at l e
          → tick_at l j + (s.task (loop_at l e)).separation ≤ tick_at l e
      spread all j e less h same = taken-apart E s takes j e less h (fit all e h) (all j (omega arith)).1.0 same
