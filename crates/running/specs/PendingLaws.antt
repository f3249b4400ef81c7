-- A leap that stops before its goal leaves fewer jobs pending.
--     pending-kept, pending-less      with some loops' first owners taken off no more are pending, and fewer if one of those loops had one
--     lowest_stops                    the least of some ticks and the first places' work is one place's work, if it is below the ticks
--     work_none                       a running place with just so much work has none left
use Rattle.std.specs.Prelude.{ℕ, zero, suc, ◌≤◌, ◌<◌, min, Bool, true, false, cond, ◌≡◌, refl, List, drop, ltb}
use Rattle.std.proofs.Common.{◌∙◌, arith, ltb-true, ltb-false, lt-ltb}
use Rattle.std.proofs.Math.ListN.{length}
use Rattle.laws.specs.SumLaws.{sum_mono, sum_less}
use Rattle.tasks.specs.TaskSet.{row}
use Rattle.heads.specs.Order.{lowest, work_after}
use Rattle.running.specs.Running.{counts_in}
use Rattle.running.specs.OwnerLaws.{count_at, less_one}
use Rattle.running.specs.BookLaws.{owners_now}
use Rattle.running.specs.Leap.{pending_in}

no_more : (b : Bool) (l : List ℕ) → length (cond b (drop 1 l) l) ≤ length l
no_more false l = omega arith
no_more true l = omega (arith, less_one l)

module _ (O : ℕ → List ℕ) (gone : ℕ → Bool) where
  each : (i : ℕ) → i < 16 → row (counts_in (owners_now O gone)) i ≤ row (counts_in O) i
  each i h = rw (count_at (owners_now O gone) i h, count_at O i h) (no_more (gone i) (O i))

  pub pending-kept : pending_in (counts_in (owners_now O gone)) ≤ pending_in (counts_in O)
  unfolding pending_in
  pending-kept = sum_mono (row (counts_in (owners_now O gone))) (row (counts_in O)) 16 each

  pub pending-less :
      (i : ℕ) → i < 16 → gone i ≡ true → 1 ≤ row (counts_in O) i
      → pending_in (counts_in (owners_now O gone)) < pending_in (counts_in O)
  unfolding pending_in
  pending-less i h g some = sum_less (row (counts_in (owners_now O gone))) (row (counts_in O)) 16 each i h differs
    where
      off : row (counts_in (owners_now O gone)) i ≡ length (drop 1 (O i))
      off = count_at (owners_now O gone) i h ∙ rw g

      differs : row (counts_in (owners_now O gone)) i ≡ row (counts_in O) i → ⊥
      differs q = omega (arith, q, off, count_at O i h, less_one (O i), some)

pub lowest_stops : (left : List ℕ) (room k : ℕ) → lowest left room k < room → (b : ℕ) × (b < k) × (row left b ≡ lowest left room k)
unfolding lowest
lowest_stops left room zero h = absurd (omega arith)
lowest_stops left room (suc k) h = go (ltb (row left k) (lowest left room k)) refl (lowest_stops left room k)
  where
    go :
        (t : Bool) → ltb (row left k) (lowest left room k) ≡ t
        → (lowest left room k < room → (b : ℕ) × (b < k) × (row left b ≡ lowest left room k))
        → (b : ℕ) × (b < suc k) × (row left b ≡ min (lowest left room k) (row left k))
    go true q ih = (k, omega arith, omega (arith, ltb-true (row left k) (lowest left room k) q))
    go false q ih =
        let w = ltb-false (row left k) (lowest left room k) q in
        let r = ih (omega (arith, w, h)) in
        (r.0, omega (arith, r.1), omega (arith, r.2, w))

pub work_none : (left : List ℕ) (m d b : ℕ) → b < m → row left b ≡ d → work_after left m d b ≡ 0
unfolding work_after
work_none left m d b h q = rw (lt-ltb b m h) (omega (arith, q))
