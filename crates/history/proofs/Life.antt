-- The life of one taken release in a history of the abstract machine: it is pending, with so many ticks of work up to and with it, or it has
-- ended in time.
--     Upto r k q         q holds a job released at r, with k ticks of work up to and with it
--     upto-joined, upto_new, upto-served, upto_in_time     it stays so behind a new job, holds of the new job itself, has one tick less after a
--                        tick in which the loop runs, and says when that job can be done
--     Life               pending or ended in time
--     life-step, life-ask, life-new, life       a call keeps it, a taken release begins it, so every later history has it
--     free               no release is refused 23
--     machine_history    the claim of every history
use Prim.Native.Nat.{ℕ, zero, suc, ◌+◌, ◌-◌, ◌≤◌, ◌<◌}
use Rattle.std.specs.Prelude.{Bool, cond, ◌≡◌, eqb}
use Rattle.std.proofs.Math.Bool.{true, false, true≢false}
use Rattle.std.proofs.Math.Path.{refl, sym}
use Rattle.std.proofs.Common.{subst, ◌∙◌, inl, inr, arith}
use mathlib.Core.List.{List, [], ◌∷◌, ◌++◌}
use Rattle.std.proofs.Math.Dec.{leb}
use borrow.Author.Tests.{eq-eqb, leb-false}
use Rattle.tasks.specs.TaskSet.{TaskSet, bound}
use Rattle.tasks.specs.Limits.{Limits, Enough, Bounded}
use Rattle.tasks.specs.Tests.{refuse, first_met, outside}
use Rattle.machine.specs.Machine.{Job, job, Machine, too_soon, full, joined, admitted, runs, served, advanced, tick}
use Rattle.machine.specs.Admission.{join_tests, admit_tests}
use Rattle.machine.specs.Reached.{AllInTime, Reached}
use Rattle.machine.proofs.Theorem.{bound_theorem, never_full}
use Rattle.machine.specs.Sound.{Rising}
use Rattle.machine.proofs.Sound.{reached-sound}
use Rattle.machine.specs.Work.{work}
use Rattle.history.specs.Engine.{taken, refused, outcome_of, Call, step, ask, clock, state, verdict, demanded, named_ticks, Ends, HistoryClaim}
use Rattle.history.proofs.EngineLaws.{named-now, named_mono, ends-step, ends-ask, ends_now, ends-once}
use Rattle.history.specs.OnMachine.{answer_of, handed_of, machine_engine}
use Rattle.history.proofs.Balance.{not_refused, other, answer_allowed, handed-cases, reached, machine_clock, balance}
use Rattle.history.specs.Life.{Life, Upto, pending, ended}

pub upto-joined : (r k : ℕ) (q js : List Job) → Upto r k q → Upto r k (q ++ js)
upto-joined r k [] js u = absurd u
upto-joined r k (job a w ∷ q) js (inl p) = inl p
upto-joined r k (job a w ∷ q) js (inr p) = inr (p.0, upto-joined r (k - w) q js p.1)

pub upto_new : (t c : ℕ) (q : List Job) → Upto t (suc (work q + c)) (q ++ job t (suc c) ∷ [])
upto_new t c [] = inl (refl, omega arith)
upto_new t c (job a w ∷ q) = inr (omega arith, subst (λ k. Upto t k (q ++ job t (suc c) ∷ [])) less (upto_new t c q))
  where
    less : suc (work q + c) ≡ suc (w + work q + c) - w
    less = omega arith

pub upto-served : (T C t r a k : ℕ) (q : List Job) → Rising T C t a q → Upto r (suc (suc k)) q → Upto r (suc k) (served q)
unfolding served
upto-served T C t r a k [] c u = absurd u
upto-served T C t r a k (job b zero ∷ q) c u = absurd (omega arith)
upto-served T C t r a k (job b (suc zero) ∷ q) c (inl p) = absurd (omega arith)
upto-served T C t r a k (job b (suc zero) ∷ q) c (inr p) = subst (λ n. Upto r n q) less p.1
  where
    less : suc (suc k) - 1 ≡ suc k
    less = omega arith
upto-served T C t r a k (job b (suc (suc w)) ∷ q) c (inl p) = inl (p.0, omega arith)
upto-served T C t r a k (job b (suc (suc w)) ∷ q) c (inr p) = inr (omega arith, subst (λ n. Upto r n q) less p.1)
  where
    less : suc (suc k) - suc (suc w) ≡ suc k - suc w
    less = omega arith

pub upto_in_time : (t b r k : ℕ) (q : List Job) → AllInTime t b q → Upto r k q → t + k ≤ r + b
upto_in_time t b r k [] h u = absurd u
upto_in_time t b r k (job a w ∷ q) h (inl p) = omega arith
upto_in_time t b r k (job a w ∷ q) h (inr p) = omega (arith, upto_in_time (t + w) b r (k - w) q h.1 p.1)

module _ (s : TaskSet) (x : ℕ → ℕ) (L : Limits s) (C : Enough s x) where
  in_time : (h : List Call) (i r k : ℕ) → i < s.count → Upto r k ((state (machine_engine s) h).lane i).queue → clock h + k ≤ r + bound s x i
  in_time h i r k l u =
      rw (sym (machine_clock s h))
      (upto_in_time (state (machine_engine s) h).clock (bound s x i) r k ((state (machine_engine s) h).lane i).queue
      ((bound_theorem s x L C (state (machine_engine s) h) (reached s h)).pending i l) u)

  pub life-step : (h : List Call) (i d r : ℕ) → i < s.count → Life s x h i d r → Life s x (step ∷ h) i d r
  unfolding tick advanced
  life-step h i d r l (ended f e b) = ended f (ends-step (machine_engine s) h i d f e) b
  life-step h i d r l (pending k u n) = go (runs s (state (machine_engine s) h) i) refl k u n
    where
      go :
          (b : Bool) → runs s (state (machine_engine s) h) i ≡ b → (k : ℕ) → Upto r (suc k) ((state (machine_engine s) h).lane i).queue
          → named_ticks (machine_engine s) h i (clock h) + suc k ≡ d → Life s x (step ∷ h) i d r
      go false e k u n = pending k (rw e u) (omega (arith, rw e at (named-now (machine_engine s) h i)))
      go true e zero u n = ended (suc (clock h)) (ends_now (machine_engine s) h i d n e) (omega (arith, in_time h i r 1 l u))
      go true e (suc k) u n =
          pending k
          (rw e
          (upto-served (s.task i).separation (s.task i).budget (state (machine_engine s) h).clock r 0 k
          ((state (machine_engine s) h).lane i).queue ((reached-sound s (reached s h)).lanes i l).rising u))
          (omega (arith, rw e at (named-now (machine_engine s) h i)))

  pub life-ask : (h : List Call) (j c i d r : ℕ) → Life s x h i d r → Life s x (ask j c ∷ h) i d r
  unfolding admitted joined named_ticks
  life-ask h j c i d r (ended f e b) = ended f (ends-ask (machine_engine s) h j c i d f e) b
  life-ask h j c i d r (pending k u n) =
      pending k
      (handed-cases s (state (machine_engine s) h) j c (λ o M. Upto r (suc k) (M.lane i).queue)
      (λ e. more (state (machine_engine s) h) (eqb i j) u)
      (λ n e. u))
      n
    where
      more :
          (M : Machine) (b : Bool) → Upto r (suc k) (M.lane i).queue
          → Upto r (suc k) (cond b (joined M.clock c (M.lane i)) (M.lane i)).queue
      more M true u = upto-joined r (suc k) (M.lane i).queue (job M.clock c ∷ []) u
      more M false u = u

  pub life-new :
      (h : List Call) (i c : ℕ) → verdict (machine_engine s) h i c ≡ taken
      → Life s x (ask i c ∷ h) i (demanded (machine_engine s) (ask i c ∷ h) i) (clock h)
  unfolding verdict demanded named_ticks handed_of admitted joined
  life-new h i c e = go c (answer_allowed s (state (machine_engine s) h) i c e).0.demand-low e
    where
      go :
          (c : ℕ) → 1 ≤ c → answer_of s (state (machine_engine s) h) i c ≡ taken
          → Life s x (ask i c ∷ h) i (demanded (machine_engine s) (ask i c ∷ h) i) (clock h)
      go zero p e = absurd (omega arith)
      go (suc c) p e =
          pending (work ((state (machine_engine s) h).lane i).queue + c)
          (rw (e, eq-eqb i i refl, sym (machine_clock s h))
          (upto_new (state (machine_engine s) h).clock c ((state (machine_engine s) h).lane i).queue))
          (rw (e, eq-eqb i i refl) (omega (arith, balance s h i)))

  pub life :
      (g h : List Call) (i c : ℕ) → verdict (machine_engine s) h i c ≡ taken
      → Life s x (g ++ ask i c ∷ h) i (demanded (machine_engine s) (ask i c ∷ h) i) (clock h)
  unfolding verdict
  life [] h i c e = life-new h i c e
  life (step ∷ g) h i c e =
      life-step (g ++ ask i c ∷ h) i _ _ (answer_allowed s (state (machine_engine s) h) i c e).0.in_table (life g h i c e)
  life (ask j a ∷ g) h i c e = life-ask (g ++ ask i c ∷ h) j a i _ _ (life g h i c e)

module _ (s : TaskSet) (x : ℕ → ℕ) (L : Limits s) (C : Enough s x) (B : Bounded s x) where
  pub free : (M : Machine) → Reached s M → (i c : ℕ) → answer_of s M i c ≡ refused 23 → ⊥
  unfolding answer_of admit_tests join_tests first_met too_soon full
  free M r i c e = go (leb s.count i) refl (outside 1 (s.task i).budget c) (too_soon s M i) refl (full M i) refl e
    where
      go :
          (a : Bool) → leb s.count i ≡ a → (b d : Bool) → too_soon s M i ≡ d → (f : Bool) → full M i ≡ f
          → outcome_of (first_met (refuse 20 a ∷ refuse 21 b ∷ refuse 22 d ∷ refuse 23 f ∷ [])) ≡ refused 23 → ⊥
      go true p b d q f t e = other 20 e (omega arith)
      go false p true d q f t e = other 21 e (omega arith)
      go false p false true q f t e = other 22 e (omega arith)
      go false p false false q true t e =
          true≢false (sym t ∙ never_full s x L C B M r i (leb-false s.count i p) q)
      go false p false false q false t e = not_refused (sym e)

  pub machine_history : (N : ℕ) → HistoryClaim (machine_engine s) s x N
  unfolding verdict
  machine_history N =
      record {
        in_time = λ g h i c f less e end. early (g ++ ask i c ∷ h) i _ (clock h) f (life s x L C g h i c e) end;
        ends = λ g h i c less e late.
            over (g ++ ask i c ∷ h) i _ (clock h) (answer_allowed s (state (machine_engine s) h) i c e).0.in_table (life s x L C g h i c e)
            late;
        never_23 = λ h i c less e. free (state (machine_engine s) h) (reached s h) i c e;
      }
    where
      early : (h : List Call) (i d r f : ℕ) → Life s x h i d r → Ends (machine_engine s) h i d f → f ≤ r + bound s x i
      early h i d r f (pending k u n) e =
          absurd (omega (arith, named_mono (machine_engine s) h i f (clock h) e.made, e.enough))
      early h i d r f (ended g e' b) e = rw (ends-once (machine_engine s) h i d f g e e') b

      over :
          (h : List Call) (i d r : ℕ) → i < s.count → Life s x h i d r → r + bound s x i ≤ clock h
          → (f : ℕ) × Ends (machine_engine s) h i d f
      over h i d r l (pending k u n) late = absurd (omega (arith, in_time s x L C h i r (suc k) l u))
      over h i d r l (ended f e b) late = (f, e)
