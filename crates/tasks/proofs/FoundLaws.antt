-- Found slack: where loops are more than cores, the raising from zeros ends, and where it ends is the least compliant slack.
--     found_zeros                      where loops are no more than cores it is 0 at every loop
--     found-compliant, found-least     it is compliant where loops are more than cores, and no larger at any loop than any compliant slack
--     found-length, found-past         it has one entry for each loop, and its row is 0 from there on
--     found-only, found_unique         where loops are more than cores, no other slack is compliant and least: by loops, and as a list
--     found-still           the search's slack is the found one where a turn changes nothing: by loops, and by `same`
--     found_array                      so a longer array with zeros after it is the found slack's row
use Rattle.std.specs.Prelude.{ℕ, zero, suc, ◌≤◌, ◌<◌, ◌≡◌, Bool, List, replicate}
use Rattle.std.proofs.Math.Path.{refl, sym}
use Rattle.std.proofs.Common.{◌∙◌, le_antisymm, arith, ltb-true, ltb-false}
use Rattle.std.proofs.Math.Bool.{true, false}
use Rattle.std.proofs.Math.Nat.{le_of_eq}
use Rattle.std.proofs.Math.ListN.{length, get_or, get_or-eq_default}
use Rattle.std.proofs.lemmas.List.{length-replicate}
use Rattle.std.proofs.Math.Seq.{ext_get_or}
use Rattle.std.proofs.Math.Dec.{ltb}
use Rattle.laws.specs.Tab.{tab}
use Rattle.laws.specs.TabLaws.{ext_tab}
use Rattle.laws.specs.Settle.{Settled}
use Rattle.laws.proofs.SettleLaws.{settled}
use Rattle.tasks.specs.TaskSet.{TaskSet, amount, Compliant, needed, row, raise, ceiling, core_for_each, found}
use Rattle.tasks.specs.Limits.{Limits, Enough}
use Rattle.tasks.proofs.AmountLaws.{amount_mono}
use Rattle.tasks.proofs.SlackLaws.{needed_mono, compliant-needed, needed-compliant}
use Rattle.tasks.proofs.CeilingLaws.{ceiling-compliant}
use Rattle.tasks.specs.Terms.{Raised, Rising}
use Rattle.tasks.proofs.RisingLaws.{still-compliant}

zero_at : (n k : ℕ) → ◌≡◌ {A = ℕ} (get_or (replicate n 0) k 0) 0
zero_at zero k = refl
zero_at (suc n) zero = refl
zero_at (suc n) (suc k) = zero_at n k

pub found_zeros : (s : TaskSet) → core_for_each s.cores s.count ≡ true → (k : ℕ) → row (found s) k ≡ 0
unfolding found row
found_zeros s each k = rw each (zero_at s.count k)

module _ (s : TaskSet) (L : Limits s) where
  found-settled : core_for_each s.cores s.count ≡ false → Settled (λ x. needed s (amount s x)) s.count (found s)
  unfolding found raise row
  found-settled more =
      rw more
      (settled (λ x. needed s (amount s x)) s.count ceiling
      (λ x y h k l. needed_mono s L _ _ k (amount_mono s x y h))
      (compliant-needed s L (λ i. ceiling) (ceiling-compliant s L)))

  pub found-compliant : Enough s (row (found s))
  unfolding row
  found-compliant more = needed-compliant s L (row (found s)) (λ k h. le_of_eq ((found-settled more).still k h))

  -- "no larger at any loop than any other"
  pub found-least : (y : ℕ → ℕ) → Compliant s y → (k : ℕ) → k < s.count → row (found s) k ≤ y k
  unfolding row
  found-least y c k h = go (core_for_each s.cores s.count) refl
    where
      go : (b : Bool) → core_for_each s.cores s.count ≡ b → row (found s) k ≤ y k
      go true each = omega (arith, found_zeros s each k)
      go false more = (found-settled more).least y (compliant-needed s L y c) k h

  pub found-length : length (found s) ≡ s.count
  unfolding found
  found-length = go (core_for_each s.cores s.count) refl
    where
      go : (b : Bool) → core_for_each s.cores s.count ≡ b → length (found s) ≡ s.count
      go true each = rw each (length-replicate s.count 0)
      go false more = (found-settled more).long

  pub found-past : (k : ℕ) → s.count ≤ k → row (found s) k ≡ 0
  unfolding row
  found-past k h = get_or-eq_default (found s) 0 (omega (arith, found-length))

  module _ (more : core_for_each s.cores s.count ≡ false) where
    pub found-only :
        (x : ℕ → ℕ) → Compliant s x → ((y : ℕ → ℕ) → Compliant s y → (k : ℕ) → k < s.count → x k ≤ y k)
        → (k : ℕ) → k < s.count → x k ≡ row (found s) k
    found-only x c least k h = le_antisymm (least (row (found s)) (found-compliant more) k h) (found-least x c k h)

    pub found_unique :
        (x : List ℕ) → length x ≡ s.count → Compliant s (row x)
        → ((y : ℕ → ℕ) → Compliant s y → (k : ℕ) → k < s.count → row x k ≤ y k)
        → x ≡ found s
    unfolding row
    found_unique x l c least =
        ext_get_or 0 x (found s) (l ∙ sym found-length) (λ k h. found-only (row x) c least k (omega arith))

    pub found-still :
        (x y : ℕ → ℕ) → Rising s x → Raised s x y → ((k : ℕ) → k < s.count → x k ≡ y k)
        → (k : ℕ) → k < s.count → x k ≡ row (found s) k
    found-still x y r e still = found-only x (still-compliant s L x y e still) r.least

  pub found_array :
      (x : List ℕ) (n : ℕ) → length x ≡ n → ((k : ℕ) → k < s.count → row x k ≡ row (found s) k)
      → ((k : ℕ) → s.count ≤ k → row x k ≡ 0)
      → x ≡ tab (row (found s)) n
  unfolding row
  found_array x n l below past = ext_tab (row (found s)) x n 0 l (λ k h. go k (ltb k s.count) refl)
    where
      go : (k : ℕ) (b : Bool) → ltb k s.count ≡ b → get_or x k 0 ≡ row (found s) k
      go k true e = below k (ltb-true _ _ e)
      go k false e = past k (ltb-false _ _ e) ∙ sym (found-past k (ltb-false _ _ e))
