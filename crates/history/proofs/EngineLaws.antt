-- Laws of histories, of every engine: a later call changes nothing of what the steps before it showed.
--     named_past         past the clock no more steps are counted
--     named_mono         more steps name a loop in no fewer ticks
--     named-before       a step more changes nothing of the steps before it
--     named-now          a step that runs the loop names it once more
--     ends-step, ends-ask      what has ended stays so in every later history
--     ends_now           what lacks one tick ends with a step that runs the loop
--     ends-once          a release ends once
--     demanded-wait, demanded-until       steps demand nothing
--     clock-later        no call turns the clock back
--     clock-wait, until-clock, wait-later     the clock after some steps, and up to a tick; steps make the history longer
use Prim.Native.Nat.{ℕ, zero, suc, ◌+◌, ◌-◌, ◌≤◌, ◌<◌, max}
use Rattle.std.specs.Prelude.{Bool, ◌&&◌, ◌≡◌}
use Rattle.std.proofs.Math.Bool.{true, false, cond}
use Rattle.std.proofs.Math.Path.{refl}
use Rattle.std.proofs.Common.{ap, le_refl, le_antisymm, le_of_suc-le-suc, lt_of_not-le}
use mathlib.Core.List.{List, [], ◌∷◌, ◌++◌}
use native.Mathlib.Omega.{arith}
use Rattle.std.proofs.Math.Dec.{ltb}
use borrow.Author.Tests.{lt-ltb, le-ltb, ltb-true}
use Rattle.history.specs.Engine.{Engine, Call, step, ask, clock, state, demanded, named_ticks, Ends}
use Rattle.history.specs.Log.{wait, until}

module _ (E : Engine) where
  pub named_past : (h : List Call) (i f g : ℕ) → clock h ≤ f → clock h ≤ g → named_ticks E h i f ≡ named_ticks E h i g
  unfolding named_ticks
  named_past [] i f g p q = refl
  named_past (step ∷ h) i f g p q =
      rw (lt-ltb (clock h) f p, lt-ltb (clock h) g q, named_past h i f g (omega arith) (omega arith))
  named_past (ask j c ∷ h) i f g p q = named_past h i f g p q

  pub named_mono : (h : List Call) (i f g : ℕ) → f ≤ g → named_ticks E h i f ≤ named_ticks E h i g
  unfolding named_ticks
  named_mono [] i f g p = omega arith
  named_mono (step ∷ h) i f g p = go (ltb (clock h) f) refl (named_mono h i f g p)
    where
      go :
          (b : Bool) → ltb (clock h) f ≡ b → named_ticks E h i f ≤ named_ticks E h i g
          → named_ticks E h i f + cond (b && E.runs (state E h) i) 1 0 ≤ named_ticks E h i g + cond (ltb (clock h) g && E.runs (state E h) i) 1 0
      go true e ih = rw (lt-ltb (clock h) g (omega (arith, ltb-true (clock h) f e))) (omega arith)
      go false e ih = omega arith
  named_mono (ask j c ∷ h) i f g p = named_mono h i f g p

  pub named-before : (h : List Call) (i f : ℕ) → f ≤ clock h → named_ticks E (step ∷ h) i f ≡ named_ticks E h i f
  unfolding named_ticks
  named-before h i f p = rw (le-ltb (clock h) f p) (omega arith)

  pub named-now : (h : List Call) (i : ℕ) → named_ticks E (step ∷ h) i (suc (clock h)) ≡ named_ticks E h i (clock h) + cond (E.runs (state E h) i) 1 0
  unfolding named_ticks
  named-now h i = rw (lt-ltb (clock h) (suc (clock h)) (le_refl _), named_past h i (suc (clock h)) (clock h) (omega arith) (le_refl _))

  pub ends-step : (h : List Call) (i d f : ℕ) → Ends E h i d f → Ends E (step ∷ h) i d f
  ends-step h i d f x =
      record {
        made = omega arith;
        enough = rw (named-before h i f x.made) x.enough;
        first_so = λ g p. rw (named-before h i g (omega arith)) (x.first_so g p);
      }

  pub ends-ask : (h : List Call) (j c i d f : ℕ) → Ends E h i d f → Ends E (ask j c ∷ h) i d f
  unfolding named_ticks
  ends-ask h j c i d f x = record { made = x.made; enough = x.enough; first_so = x.first_so }

  pub ends_now :
      (h : List Call) (i d : ℕ) → named_ticks E h i (clock h) + 1 ≡ d → E.runs (state E h) i ≡ true → Ends E (step ∷ h) i d (suc (clock h))
  ends_now h i d e r =
      record {
        made = le_refl _;
        enough = rw (named-now h i, r) e;
        first_so = λ g p.
            rw (named-before h i g (omega arith)) (omega (arith, named_mono h i g (clock h) (omega arith)));
      }

  pub ends-once : (h : List Call) (i d f g : ℕ) → Ends E h i d f → Ends E h i d g → f ≡ g
  ends-once h i d f g x y =
      le_antisymm (le_of_suc-le-suc (lt_of_not-le (λ l. late f g x y l))) (le_of_suc-le-suc (lt_of_not-le (λ l. late g f y x l)))
    where
      late : (f g : ℕ) → Ends E h i d f → Ends E h i d g → g < f → ⊥
      late f g x y l = omega (arith, x.first_so g l, y.enough)

  pub demanded-wait : (k : ℕ) (h : List Call) (i : ℕ) → demanded E (wait k h) i ≡ demanded E h i
  unfolding demanded
  demanded-wait zero h i = refl
  demanded-wait (suc k) h i = demanded-wait k h i

  pub demanded-until : (t : ℕ) (h : List Call) (i : ℕ) → demanded E (until t h) i ≡ demanded E h i
  unfolding until
  demanded-until t h i = demanded-wait (t - clock h) h i

pub clock-later : (g h : List Call) → clock h ≤ clock (g ++ h)
clock-later [] h = le_refl _
clock-later (step ∷ g) h = omega (arith, clock-later g h)
clock-later (ask i c ∷ g) h = clock-later g h

pub clock-wait : (k : ℕ) (h : List Call) → clock (wait k h) ≡ k + clock h
clock-wait zero h = omega arith
clock-wait (suc k) h = omega (arith, clock-wait k h)

pub until-clock : (t : ℕ) (h : List Call) → clock (until t h) ≡ max t (clock h)
unfolding until
until-clock t h = omega (arith, clock-wait (t - clock h) h)

pub wait-later : (k : ℕ) (h : List Call) → (g : List Call) × (wait k h ≡ g ++ h)
wait-later zero h = ([], refl)
wait-later (suc k) h = (step ∷ (wait-later k h).0, ap (λ z. step ∷ z) (wait-later k h).1)
