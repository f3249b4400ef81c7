-- D after a tick of a head that is left out: it is in time still. Left out just in time, it would make A larger than its loop's side of the
-- condition of compliant slack.
--     left_in_time     a head that is left out in a tick is in time after it
use Rattle.std.specs.Prelude.{ℕ, suc, ◌+◌, ◌-◌, ◌*◌, ◌≤◌, ◌<◌, Bool, ◌≡◌, List, [], ◌∷◌, leb, eqb}
use Rattle.std.proofs.Math.Bool.{true, false, cond}
use Rattle.std.proofs.Math.Path.{refl, ap}
use Rattle.std.proofs.Common.{le_refl, mul-le-mul_left, mul-le-mul_right}
use native.Mathlib.Omega.{arith}
use borrow.Author.Tests.{leb-true, leb-false, le-leb, eqb-true, eq-eqb, ne_eqb}
use Rattle.laws.specs.Sum.{sum, count}
use Rattle.laws.specs.SumLaws.{sum_mono, sum_add, sum_mul, sum_zero, sum_but_one, count_mono}
use Rattle.tasks.specs.TaskSet.{TaskSet, hyperperiod, amount, cover, Compliant}
use Rattle.machine.specs.Machine.{Job, job, Machine, waiting, point}
use Rattle.machine.specs.Reached.{EarliestFirst}
use Rattle.machine.proofs.Owed.{served-owed}
use Rattle.machine.specs.Choice.{early_at}
use Rattle.machine.proofs.Choice.{point-early, left_out}
use Rattle.machine.specs.Invariant.{Setting, next_of, potential_of, potential, shared_bound, Due, Invariant}
use Rattle.machine.proofs.Invariant.{overdue}

-- m running heads and the one left out with w to do, d ticks after its priority point, against the loop's side of the condition
clash :
    (m H x C w d A : ℕ) → 1 ≤ m → 1 ≤ H → w + d ≡ x + C → w ≤ C → H * m + H * w + m * H * d ≤ A → A ≤ m * H * x + H * C → ⊥
clash m H x C w d A cores period just small most cover = go (C - w) (omega arith) (omega arith)
  where
    go : (e : ℕ) → C ≡ w + e → d ≡ x + e → ⊥
    go e p q =
        omega (
          arith,
          ap (λ i. m * H * i) q,
          ap (λ i. H * i) p,
          mul-le-mul_right (H * e) cores,
          mul-le-mul_left H cores,
        )

-- a row with v at j and 0 elsewhere
only : (v n j : ℕ) → j < n → sum (λ i. cond (eqb i j) v 0) n ≡ v
only v n j h =
    omega (
      arith,
      sum_but_one (λ i. cond (eqb i j) v 0) (λ i. 0) n j h (λ i l ne. rw (ne_eqb i j ne)),
      sum_zero (λ i. 0) n (λ i l. refl),
      self,
    )
  where
    self : cond (eqb j j) v 0 ≡ v
    self = rw (eq-eqb j j refl)

module _ (s : TaskSet) (x : ℕ → ℕ) (S : Setting s x) (M : Machine) (I : Invariant s x M) (run : ℕ → Bool) (E : EarliestFirst s M run) where
  -- loop j's head, released at a with w left, is left out; the threshold is its priority point
  module _ (j a w : ℕ) (q : List Job) (h : j < s.count) (here : (M.lane j).queue ≡ job a w ∷ q) (idle : run j ≡ false) where
    waits : waiting M j ≡ true
    unfolding waiting
    waits = rw here

    at-point : point s M j ≡ a + (s.task j).offset
    unfolding point
    at-point = rw here

    all-early : (i : ℕ) → run i ≡ true → early_at s M (point s M j) i ≡ true
    all-early i e = point-early s M (point s M j) i (E.heads i e).1 (E.order i j e h waits idle)

    own : hyperperiod s * w ≤ potential_of s M (point s M j) j
    unfolding potential_of
    own = rw (at-point, here, le-leb (a + (s.task j).offset) (a + (s.task j).offset) (le_refl _)) (omega arith)

    other : (i : ℕ) → i < s.count → hyperperiod s * cond (run i) 1 0 ≤ potential_of s M (point s M j) i
    unfolding potential_of early_at
    other i l = go (run i) refl
      where
        go : (b : Bool) → run i ≡ b → hyperperiod s * cond b 1 0 ≤ potential_of s M (point s M j) i
        go true e =
            omega (
              arith,
              rw (all-early i e) at
                  (served-owed (s.task i).separation (s.task i).budget (hyperperiod s) (s.task i).offset (point s M j) (next_of s M i) 0
                  true (M.lane i).queue (I.timely.chain i l)),
            )
        go false e = omega arith

    either :
        (i : ℕ) → i < s.count → hyperperiod s * cond (run i) 1 0 + cond (eqb i j) (hyperperiod s * w) 0 ≤ potential_of s M (point s M j) i
    either i l = go (eqb i j) refl
      where
        go : (b : Bool) → eqb i j ≡ b → hyperperiod s * cond (run i) 1 0 + cond b (hyperperiod s * w) 0 ≤ potential_of s M (point s M j) i
        go true e = rw (eqb-true i j e, idle) (omega (arith, own))
        go false e = omega (arith, other i l)

    all-owed : hyperperiod s * s.cores + hyperperiod s * w ≤ potential s M (point s M j)
    unfolding potential count
    all-owed =
        omega (
          arith,
          sum_mono (λ i. hyperperiod s * cond (run i) 1 0 + cond (eqb i j) (hyperperiod s * w) 0) (potential_of s M (point s M j)) s.count
              either,
          sum_add (λ i. hyperperiod s * cond (run i) 1 0) (λ i. cond (eqb i j) (hyperperiod s * w) 0) s.count,
          sum_mul (hyperperiod s) (λ i. cond (run i) 1 0) s.count,
          ap (λ k. hyperperiod s * k) (left_out s M run E j h waits idle),
          only (hyperperiod s * w) s.count j h,
        )

    head-in-time : Due s x M.clock j (job a w ∷ q)
    head-in-time = rw here at (I.timely.in_time j h)

    head_small : w ≤ (s.task j).budget
    head_small = (rw here at (I.timely.chain j h)).2

    stuck : (d : ℕ) → point s M j + d ≡ M.clock → w + d ≡ x j + (s.task j).budget → ⊥
    unfolding cover Compliant
    stuck d now just =
        clash s.cores (hyperperiod s) (x j) (s.task j).budget w d (amount s x) S.cores-low S.period_low just head_small
        (omega (arith, all-owed, overdue s x M I (point s M j) d now busy))
        (S.compliant j h)
      where
        busy : s.cores ≤ count (early_at s M (point s M j)) s.count
        busy =
            omega (
              arith,
              left_out s M run E j h waits idle,
              count_mono run (early_at s M (point s M j)) s.count (λ i l. all-early i),
            )

    in-time-idle : Due s x (suc M.clock) j (job a w ∷ q)
    in-time-idle = go (leb (suc M.clock + w) (a + shared_bound s x j)) refl
      where
        go : (b : Bool) → leb (suc M.clock + w) (a + shared_bound s x j) ≡ b → suc M.clock + w ≤ a + shared_bound s x j
        go true e = leb-true (suc M.clock + w) (a + shared_bound s x j) e
        go false e =
            absurd
            (stuck (M.clock - point s M j) (omega (arith, late, at-point, head-in-time, head_small))
            (omega (arith, late, at-point, head-in-time, head_small)))
          where
            late : a + shared_bound s x j < suc M.clock + w
            late = leb-false (suc M.clock + w) (a + shared_bound s x j) e

  pub left_in_time : (j : ℕ) → j < s.count → run j ≡ false → Due s x (suc M.clock) j (M.lane j).queue
  left_in_time j h idle = go (M.lane j).queue refl
    where
      go : (q : List Job) → (M.lane j).queue ≡ q → Due s x (suc M.clock) j q
      go [] here = tt
      go (job a w ∷ q) here = in-time-idle j a w q h here idle
