-- How far a leap goes from the number `start`: x is the slack that it stands for, with its offsets, A, the counted tasks and the gains.
--     start-high        x is small
--     at-whole, whole-high    A, and that it is small
--     slope_high        the gains are at most m × H
--     far_under         what A could cover in steps of m is below no solution's number
--     ahead-all         m such numbers, from `start` on, or those below the least of them, are of all
use Rattle.std.specs.Prelude.{ℕ, ◌+◌, ◌-◌, ◌*◌, ◌/◌, ◌%◌, ◌≤◌, ◌<◌, ◌≡◌, refl, Bool, List, ◌⊎◌, take}
use Rattle.std.proofs.Common.{sym, ◌∙◌, le_trans, mul-le-mul_left, mod-lt, arith}
use Rattle.std.proofs.Math.Bool.{true, false, cond}
use Rattle.std.proofs.Math.Logic.{⊎_elim}
use Rattle.std.proofs.Math.Nat.{mul-le-mul_right, div-add-mod}
use Rattle.std.proofs.Math.Dec.{ltb}
use borrow.Author.Tests.{ltb-true, ltb-false}
use Rattle.laws.specs.EveryLaws.{below_or_not}
use Rattle.laws.specs.Member.{member}
use Rattle.laws.specs.Sum.{sum}
use Rattle.laws.specs.SumLaws.{sum_ext, sum_mono}
use Rattle.laws.specs.Tab.{tab, cut}
use Rattle.tasks.specs.TaskSet.{TaskSet, hyperperiod, share, counted, amount, needed, row}
use Rattle.tasks.proofs.ShareLaws.{hyperperiod-low}
use Rattle.tasks.proofs.AmountLaws.{amount-high}
use Rattle.tasks.proofs.SlackLaws.{needed-least}
use Rattle.slack.specs.Arrays.{lifted, upto, ArraysOf}
use Rattle.slack.proofs.NeedLaws.{need-covers, needed_rounded}
use Rattle.slack.proofs.SearchLaws.{turn_lifted}
use Rattle.slack.specs.StageLaws.{counted-row, amount-row}
use Rattle.slack.specs.Weights.{weight_row, Amounts}
use Rattle.wishes.specs.Wish.{room, with_offsets, at_slack}
use Rattle.wishes.proofs.WishLaws.{need_mono, kept-needed}
use Rattle.wishes.specs.RaisingLaws.{Solving}
use Rattle.wishes.specs.LeapLaws.{Climbs}
use Rattle.wishes.proofs.LeapLaws.{rises_by, leap_cost}
use Rattle.wish_offsets.specs.Rows.{offset_row}
use Rattle.wish_search.specs.SheetArrays.{SheetOf}
use Rattle.wish_search.specs.SheetLaws.{arrays, at-arrays}
use Rattle.wish_gains.specs.Gains.{Gains}
use Rattle.wish_search.specs.Leaps.{need_at, Far, Ahead}
use Rattle.wish_gains.specs.GainLaws.{gains-high}

-- the same with the code's numbers
by_numbers :
    {w w' l l' h h' m m' : ℕ} (start j : ℕ) → w ≡ w' → l ≡ l' → h ≡ h' → m ≡ m' → w' + j * l' ≤ h' * (start + m' * j)
    → w + j * l ≤ h * (start + m * j)
by_numbers start j a b c d e = rw (a, b, c, d) e

module _ {s : TaskSet} {shares separations budgets rooms : List ℕ} {h m n : ℕ} (g : SheetOf s shares separations budgets rooms h m n) where
  -- a solution's slack is at least what its number stands for
  pub number-under : (v : ℕ → ℕ) → Solving s v → (k : ℕ) → k < s.count → needed s (hyperperiod s * need_at s v) k ≤ v k
  unfolding needed hyperperiod at_slack with_offsets
  number-under v p k i =
      rw (needed_rounded (at_slack s v) (g.sheet.limits v) (amount (at_slack s v) v) k (need_at s v) refl)
      (kept-needed s g.sheet.limits v p.kept k i)

  module _ (start : ℕ) (quotient rest : List ℕ) (q : quotient ≡ tab (cut n (λ i. row budgets i / m) 0) 16)
      (r : rest ≡ tab (cut n (λ i. row budgets i % m) 0) 16) (none x : List ℕ)
      (ex : x ≡ tab (upto n (λ k. lifted (start / m) (start % m) (row quotient k) (row rest k)) (row none)) 16)
    where
      raised : (k : ℕ) → k < s.count → row x k ≡ needed s (hyperperiod s * start) k
      unfolding needed hyperperiod at_slack with_offsets
      raised = turn_lifted (arrays g none) start quotient rest q r none x ex

      pub start-high : (k : ℕ) → k < s.count → row x k ≤ start
      unfolding needed hyperperiod at_slack with_offsets
      start-high k i =
          let o = at_slack s (λ z. 0) in
          let one : 1 ≤ s.cores = omega (arith, (g.sheet.limits (λ z. 0)).cores-low) in
          let wide : hyperperiod s * start ≤ s.cores * hyperperiod s * start + hyperperiod s * (s.task k).budget =
          omega (arith, mul-le-mul_right (hyperperiod s * start) one) in
          rw (raised k i) (needed-least o (g.sheet.limits (λ z. 0)) (hyperperiod s * start) k start wide)

      module _ {offset : List ℕ} (eo : offset ≡ tab (cut n (offset_row separations rooms x) 0) 16) {surplus : ℕ}
          (es : surplus ≡ sum (λ i. row shares i * (row separations i - row offset i)) n) {names : List ℕ} {whole : ℕ}
          (w : Amounts (weight_row shares offset x) (m - 1) n surplus names whole)
        where
          at : ArraysOf (at_slack s (row x)) shares budgets offset h surplus m n
          at = at-arrays g x offset eo surplus es

          pub at-whole : whole ≡ amount (at_slack s (row x)) (row x)
          at-whole = w.whole ∙ amount-row at x

          pub whole-high : start ≤ 12000007 → whole ≤ 40000000000000000
          unfolding at_slack with_offsets
          whole-high l =
              omega (arith, at-whole, amount-high (at_slack s (row x)) (g.sheet.limits (row x)) (row x) (λ i k. omega (arith, start-high i k)))

          names_are : take (m - 1) names ≡ counted (at_slack s (row x)) (row x)
          names_are = w.names ∙ counted-row at x

          module _ (gain : List ℕ) (gs : Gains shares separations rooms x (take (m - 1) names) n gain) where
            gains : ℕ → Bool
            gains i = ltb 0 (row gain i)

            -- an entry that is not 0 is a share, and says why
            entry : (i : ℕ) → i < s.count → gains i ≡ true
                → (row gain i ≡ row shares i)
                × (1 ≤ row x i)
                × ((member i (counted (at_slack s (row x)) (row x)) ≡ true) ⊎ (room (s.task i) ≤ row x i + (s.task i).separation))
            unfolding gains
            entry i l e =
                ⊎_elim
                (λ (z : row gain i ≡ 0). absurd (omega (arith, ltb-true 0 (row gain i) e)))
                (λ (p : (row gain i ≡ row shares i) × (1 ≤ row x i) × ((member i (take (m - 1) names) ≡ true) ⊎ (row rooms i ≤ row x i + row separations i))).
                (p.0, p.1, rw (names_are, g.room i l, g.separation i l) at p.2))
                (gs i (omega (arith, g.tasks)))

            climbs : Climbs s (row x) gains
            climbs = record { rises = λ i l e. (entry i l e).1; gains = λ i l e. (entry i l e).2 }

            slope-is : sum (row gain) n ≡ sum (λ i. cond (gains i) (share s i) 0) s.count
            unfolding gains
            slope-is = rw g.tasks (sum_ext (row gain) _ s.count (λ i l. go i l (ltb 0 (row gain i)) refl))
              where
                go : (i : ℕ) → i < s.count → (b : Bool) → ltb 0 (row gain i) ≡ b → row gain i ≡ cond (ltb 0 (row gain i)) (share s i) 0
                go i l true e = rw e ((entry i l e).0 ∙ g.share i l)
                go i l false e = rw e (omega (arith, ltb-false 0 (row gain i) e))

            pub slope_high : sum (row gain) n ≤ m * h
            unfolding at_slack with_offsets share hyperperiod
            slope_high =
                let all = sum_mono (row gain) (row shares) n (gains-high shares separations rooms x (take (m - 1) names) n gain gs) in
                let each : sum (row shares) n ≡ sum (share s) s.count = rw g.tasks (sum_ext (row shares) (share s) s.count g.share) in
                rw (g.cores, g.multiple) (omega (arith, all, each, (g.sheet.limits (λ i. 0)).shares_high))

            pub far_under :
                (to : ℕ) → ((j : ℕ) → whole + j * sum (row gain) n ≤ h * (start + m * j) → to ≤ start + m * j) → Far s start to
            far_under to enough v p j e =
                let under = number-under v p in
                let cost =
                leap_cost s (row x) v gains climbs j p
                (λ i l. rw (raised i l) (le_trans (need_mono s g.sheet.limits _ _ i (mul-le-mul_left (hyperperiod s) (omega (arith, e)))) (under i l)))
                (λ i l low. rw (raised i l) (le_trans (rises_by s g.sheet.limits start j i (rw (raised i l) at low)) (rw e at (under i l))))
                in
                let covers = need-covers (amount (at_slack s v) v) (hyperperiod s) (hyperperiod-low s) in
                let step : s.cores ≡ m = sym g.cores in
                rw (e, step) (enough j (by_numbers start j at-whole slope-is g.multiple g.cores (le_trans cost (rw e at covers))))

-- far enough for each of m numbers in a row, or for those below it, is far enough for all
pub ahead-all :
    (s : TaskSet) (start best i : ℕ) → 1 ≤ s.cores → ((k : ℕ) → k < i → Far s (start + k) best) → (s.cores ≤ i) ⊎ (best ≤ start + i)
    → Ahead s start best
ahead-all s start best i low each why v p h =
    let d = need_at s v - start in
    let m = s.cores in
    let whole = div-add-mod d m in
    ⊎_elim (λ (l : d % m < i). each (d % m) l v p (d / m) (omega arith))
    (λ (l : i ≤ d % m).
    ⊎_elim (λ (c : m ≤ i). absurd (omega (arith, mod-lt d low))) (λ (c : best ≤ start + i). omega arith) why)
    (below_or_not (d % m) i)
