-- What document 02, §3, says of the offsets and the slack found for a wish sheet.
--     wish_split         the tests are those of sheet_limits, then 11 and 27
--     sheet-passed       Sheet is what they leave
--     solved_best        what is found is that; best_only: and nothing else is
--     unsolved_exactly   27 is met exactly if no solution exists
--     offered_exactly    11 is met exactly if the slack count is not 0
--     solved-accepted    the plan found meets none of 3 to 13 and 28, its slack being the one found for its offsets
use Rattle.std.specs.Prelude.{ℕ, ◌+◌, ◌*◌, ◌≤◌, ◌<◌, ◌≡◌, Bool, true, false, ◌↔◌, ◌≢◌, eqb}
use Rattle.std.proofs.Math.Path.{refl, ap}
use Rattle.std.proofs.Common.{sym, ◌∙◌, arith}
use Rattle.std.proofs.Math.Bool.{not}
use mathlib.Core.List.{[], ◌∷◌}
use Rattle.std.proofs.Math.Nat.{le_antisymm, le_trans}
use borrow.Author.Tests.{ltb-true, ltb-false, le-ltb, lt-leb, eq-eqb, ne_eqb}
use Rattle.laws.specs.First.{first}
use Rattle.laws.specs.FirstLaws.{first_le, first_holds, first-none}
use Rattle.tasks.specs.Answer.{Accepted, Refused}
use Rattle.tasks.specs.TaskSet.{TaskSet, hyperperiod, share, found, bound, row}
use Rattle.tasks.specs.Content.{Content}
use Rattle.tasks.specs.Tests.{refuse, or_next, first_met, number_of, test3, test4, test5, test6, test7, test8, test28, test9, test10, test11, test12, test13, tests}
use Rattle.tasks.specs.AnswerLaws.{refuse-passed, refuse-met, pass_outside, pass_lowest, lowest-passed, or_next-passed, first_met-passed, pass_first_met, first_met-append, outside-passed, first_met-none}
use Rattle.tasks.specs.Terms.{limit_tests, slack_tests}
use Rattle.tasks.proofs.LimitsLaws.{tests_split, limits-passed}
use Rattle.tasks.proofs.FoundLaws.{found-compliant, found-least}
use Rattle.tasks.specs.BoundLaws.{bound-more}
use Rattle.wishes.specs.Wish.{room, with_offsets, Solution, largest_offset, at_slack, wished, passes, no_solution, sheet5, test26, sheet11, test27, wish_tests, solved}
use Rattle.wishes.specs.WishLaws.{Kept}
use Rattle.wishes.proofs.WishLaws.{largest-low, wished-kept, wished-least, solution-offset, solution-kept, solution-room, kept-solution}
use Rattle.wishes.specs.WishTheorems.{sheet_limits, content_at, Sheet, Best}

pub wish_split : (c : Content) → wish_tests c ≡ or_next (sheet_limits c) (first_met (sheet11 c ∷ test27 c ∷ []))
unfolding wish_tests sheet_limits
wish_split c =
    first_met-append
    (test3 c ∷ test4 c ∷ sheet5 c ∷ test6 c ∷ test7 c ∷ test26 c ∷ test28 c ∷ test9 c ∷ test10 c ∷ [])
    (sheet11 c ∷ test27 c ∷ [])

module _ (c : Content) (a : sheet_limits c ≡ Accepted) where
  enough-tasks : (c.tasks.cores + 1 ≤ c.tasks.count) × (c.tasks.count ≤ 16)
  unfolding sheet_limits sheet5
  enough-tasks =
      let r3 = first_met-passed _ _ a in
      let r4 = first_met-passed _ _ r3.1 in
      outside-passed _ _ _ (refuse-passed 5 _ (first_met-passed _ _ r4.1).0)

  pub at-limits : (x : ℕ → ℕ) → limit_tests (content_at c x) ≡ Accepted
  unfolding sheet_limits limit_tests content_at test3 test4 test5 test6 test7 test8 test28 test9 test10 hyperperiod share at_slack with_offsets
  at-limits x =
      let r3 = first_met-passed _ _ a in
      let r4 = first_met-passed _ _ r3.1 in
      let r5 = first_met-passed _ _ r4.1 in
      let r6 = first_met-passed _ _ r5.1 in
      let r7 = first_met-passed _ _ r6.1 in
      let r26 = first_met-passed _ _ r7.1 in
      let r28 = first_met-passed _ _ r26.1 in
      let r9 = first_met-passed _ _ r28.1 in
      let r10 = first_met-passed _ _ r9.1 in
      pass_first_met _ _ r3.0
      (pass_first_met _ _ r4.0
      (pass_first_met _ _ five
      (pass_first_met _ _ r6.0
      (pass_first_met _ _ r7.0
      (pass_first_met _ _ eight
      (pass_first_met _ _ r28.0
      (pass_first_met _ _ r9.0
      (pass_first_met _ [] r10.0 first_met-none))))))))
    where
      five : test5 (content_at c x) ≡ Accepted
      five = rw (pass_outside 1 16 c.tasks.count (omega (arith, enough-tasks.0)) enough-tasks.1)

      eight : test8 (content_at c x) ≡ Accepted
      eight = pass_lowest 8 _ c.tasks.count (λ i h. le-ltb _ _ (largest-low (c.tasks.task i) (x i)))

  pub sheet-passed : Sheet c.tasks
  unfolding sheet_limits test26 content_at
  sheet-passed =
      let r3 = first_met-passed _ _ a in
      let r4 = first_met-passed _ _ r3.1 in
      let r5 = first_met-passed _ _ r4.1 in
      let r6 = first_met-passed _ _ r5.1 in
      let r7 = first_met-passed _ _ r6.1 in
      let r26 = first_met-passed _ _ r7.1 in
      record {
        limits = λ x. (limits-passed (content_at c x) (at-limits x)).0;
        more-tasks = lt-leb c.tasks.count c.tasks.cores (omega (arith, enough-tasks.0));
        wish_low = λ i h. (outside-passed _ _ _ (lowest-passed 26 _ c.tasks.count r26.0 i h)).0;
        wish_high = λ i h. (outside-passed _ _ _ (lowest-passed 26 _ c.tasks.count r26.0 i h)).1;
      }

module _ (s : TaskSet) (S : Sheet s) where
  slack : ℕ → ℕ
  slack = row (wished s)

  below : (z v : ℕ → ℕ) → Solution s z v → (i : ℕ) → i < s.count → slack i ≤ v i
  unfolding slack
  below z v h = wished-least s S.limits v (solution-kept s z v h)

  pub within_best : no_solution s ≡ false → Best s (λ i. largest_offset (s.task i) (row (wished s) i)) (row (wished s))
  unfolding no_solution slack passes largest_offset
  within_best e =
      record {
        solution = kept-solution s slack S.wish_low (wished-kept s S.limits) fits;
        least = below;
        largest = λ z v h i l. le_trans (solution-offset s z v h i l) (larger i (below z v h i l));
      }
    where
      fits : (i : ℕ) → i < s.count → row (wished s) i ≤ room (s.task i)
      fits i l =
          let p = passes s (row (wished s)) in
          ltb-false (room (s.task i)) (row (wished s) i) (first-none p s.count (omega (arith, first_le p s.count, ltb-false (first p s.count) s.count e)) i l)

      larger : {v : ℕ} (i : ℕ) → row (wished s) i ≤ v → largest_offset (s.task i) v ≤ largest_offset (s.task i) (row (wished s) i)
      larger i l = omega arith

  pub none_exists : no_solution s ≡ true → (z v : ℕ → ℕ) → Solution s z v → ⊥
  unfolding no_solution slack passes
  none_exists e z v h =
      let p = passes s (row (wished s)) in
      let l = ltb-true (first p s.count) s.count e in
      let k = first p s.count in
      let over = ltb-true (room (s.task k)) (row (wished s) k) (first_holds p s.count l) in
      omega (arith, over, below z v h (first p s.count) l, solution-room s z v h (first p s.count) l)

pub best_only : (s : TaskSet) (y x z v : ℕ → ℕ) → Best s y x → Best s z v → (i : ℕ) → i < s.count → (y i ≡ z i) × (x i ≡ v i)
best_only s y x z v a b i l = (
  le_antisymm (b.largest y x a.solution i l) (a.largest z v b.solution i l),
  le_antisymm (a.least z v b.solution i l) (b.least y x a.solution i l),
)

module _ (c : Content) where
  pub solved_best : wish_tests c ≡ Accepted → Best c.tasks (λ i. ((solved c).tasks.task i).offset) (solved c).slack
  unfolding solved at_slack with_offsets test27
  solved_best a =
      let r = or_next-passed _ _ (sym (wish_split c) ∙ a) in
      let r11 = first_met-passed _ _ r.1 in
      within_best c.tasks (sheet-passed c r.0) (refuse-passed 27 _ (first_met-passed _ _ r11.1).0)

  pub unsolved_exactly : sheet_limits c ≡ Accepted → (test27 c ≡ Refused 27 0) ↔ ((y x : ℕ → ℕ) → Solution c.tasks y x → ⊥)
  unfolding test27
  unsolved_exactly a = (λ e. none_exists c.tasks S (met (no_solution c.tasks) refl e), λ none. unmet none (no_solution c.tasks) refl)
    where
      S : Sheet c.tasks
      S = sheet-passed c a

      met : (b : Bool) → no_solution c.tasks ≡ b → refuse 27 b ≡ Refused 27 0 → no_solution c.tasks ≡ true
      met true e q = e
      met false e q = cc

      unmet :
          ((y x : ℕ → ℕ) → Solution c.tasks y x → ⊥) → (b : Bool) → no_solution c.tasks ≡ b
          → refuse 27 (no_solution c.tasks) ≡ Refused 27 0
      unmet none true e = refuse-met 27 _ e
      unmet none false e = absurd (none _ _ (within_best c.tasks S e).solution)

  pub offered_exactly : sheet_limits c ≡ Accepted → (wish_tests c ≡ Refused 11 0) ↔ (c.offers ≢ 0)
  unfolding sheet11 test27 first_met
  offered_exactly a = (λ q z. met (no_solution c.tasks) (eq-eqb _ _ z) (sym at_last ∙ q), λ ne. at_last ∙ rw (ne_eqb _ _ ne))
    where
      at_last : wish_tests c ≡ first_met (sheet11 c ∷ test27 c ∷ [])
      at_last = wish_split c ∙ rw a

      met :
          (b : Bool) → eqb c.offers 0 ≡ true
          → first_met (sheet11 c ∷ refuse 27 b ∷ []) ≡ Refused 11 0 → ⊥
      met true e q = let w : Refused 27 0 ≡ Refused 11 0 = rw e at q in omega (arith, ap number_of w)
      met false e q = let w : Accepted ≡ Refused 11 0 = rw e at q in omega (arith, ap number_of w)

-- with the offsets found, the found slack is the wished one: with them it is a solution's too
module _ (s : TaskSet) (S : Sheet s) (e : no_solution s ≡ false) where
  again : Solution s (λ i. largest_offset (s.task i) (row (wished s) i)) (row (found (at_slack s (row (wished s)))))
  unfolding with_offsets at_slack
  again =
      let b = (within_best s S e).solution in
      let L = S.limits (row (wished s)) in
      record {
        offsets = b.offsets;
        compliant = found-compliant (at_slack s (row (wished s))) L S.more-tasks;
        kept =
            λ i l. omega (arith, found-least (at_slack s (row (wished s))) L (row (wished s)) b.compliant i l, b.kept i l);
      }

  pub wished-found : (k : ℕ) → k < s.count → row (wished s) k ≡ row (found (at_slack s (row (wished s)))) k
  unfolding Kept at_slack with_offsets
  wished-found k l =
      le_antisymm
      ((within_best s S e).least _ _ again k l)
      (found-least (at_slack s (row (wished s))) (S.limits (row (wished s))) (row (wished s)) (wished-kept s S.limits) k l)

module _ (c : Content) (a : wish_tests c ≡ Accepted) where
  parts : (sheet_limits c ≡ Accepted) × (no_solution c.tasks ≡ false)
  unfolding test27
  parts =
      let r = or_next-passed _ _ (sym (wish_split c) ∙ a) in
      (r.0, refuse-passed 27 _ (first_met-passed _ _ (first_met-passed _ _ r.1).1).0)

  S : Sheet c.tasks
  S = sheet-passed c parts.0

  eleven : test11 (solved c) ≡ Accepted
  unfolding test11 solved
  eleven = refl

  twelve : test12 (solved c) ≡ Accepted
  unfolding test12 solved at_slack with_offsets
  twelve = pass_lowest 12 _ c.tasks.count (λ k l. ap not (eq-eqb _ _ (wished-found c.tasks S parts.1 k l)))

  thirteen : test13 (solved c) ≡ Accepted
  unfolding test13 solved at_slack with_offsets
  thirteen =
      pass_lowest 13 _ c.tasks.count
      (λ i l.
      le-ltb (16 * (c.tasks.task i).separation) (bound (solved c).tasks (solved c).slack i)
      (rw (bound-more (solved c).tasks (solved c).slack S.more-tasks i)
      (le_trans ((within_best c.tasks S parts.1).solution.kept i l) (S.wish_high i l))))

  limits : limit_tests (solved c) ≡ Accepted
  unfolding solved content_at
  limits = at-limits c parts.0 (row (wished c.tasks))

  pub solved-accepted : tests (solved c) ≡ Accepted
  unfolding slack_tests
  solved-accepted =
      tests_split (solved c)
      ∙ rw limits (pass_first_met _ _ eleven (pass_first_met _ _ twelve (pass_first_met _ [] thirteen first_met-none)))
