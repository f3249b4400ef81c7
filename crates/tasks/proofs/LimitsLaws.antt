-- What holds of a table or a plan that meets none of 3 to 10 and 28, the tests that look at no slack.
--     tests_split        the tests are limit_tests and slack_tests, one after the other
--     deadlines-passed   none of these is met: in edition 2 every deadline is 1 to 1,600,000
--     limits-passed      none of these is met: the limits hold, and so does Labelled
use Prim.Native.Nat.{ℕ, suc, ◌-◌, ◌≤◌, ◌<◌}
use Rattle.std.specs.Prelude.{◌≡◌, true, false, [], ◌∷◌, ltb}
use native.Mathlib.Omega.{arith}
use borrow.Author.Tests.{ltb-false, leb-false, lt-ltb}
use Rattle.tasks.specs.Answer.{Accepted}
use Rattle.tasks.specs.Numbers.{deadline_high}
use Rattle.tasks.specs.Content.{has_deadlines, Content}
use Rattle.tasks.specs.Limits.{Limits}
use Rattle.tasks.specs.Tests.{or_next, bad_label, test3, test4, test5, test6, test7, test8, test28, test9, test10, test11, test12, test13, tests}
use Rattle.tasks.specs.AnswerLaws.{refuse-passed, lowest-passed, first_met-passed, first_met-append, neither, outside-passed}
use Rattle.tasks.specs.Terms.{limit_tests, slack_tests, Labelled}

pub tests_split : (c : Content) → tests c ≡ or_next (limit_tests c) (slack_tests c)
unfolding tests limit_tests slack_tests
tests_split c =
    first_met-append
    (test3 c ∷ test4 c ∷ test5 c ∷ test6 c ∷ test7 c ∷ test8 c ∷ test28 c ∷ test9 c ∷ test10 c ∷ [])
    (test11 c ∷ test12 c ∷ test13 c ∷ [])

module _ (c : Content) where
  label-passed : (i : ℕ) → bad_label c.label i ≡ false → c.label i ≤ 63
  unfolding bad_label
  label-passed i e = ltb-false _ _ (neither (ltb 63 (c.label i)) _ e).0

  label-above : (i : ℕ) → bad_label c.label (suc i) ≡ false → c.label i < c.label (suc i)
  unfolding bad_label
  label-above i e =
      let back : suc i - 1 ≡ i = omega arith in
      leb-false _ _ (rw (lt-ltb 0 (suc i) (omega arith), back) at (neither (ltb 63 (c.label (suc i))) _ e).1)

  labels-passed : test4 c ≡ Accepted → Labelled c
  unfolding test4
  labels-passed a =
      let p = lowest-passed 4 (bad_label c.label) c.tasks.cores a in
      record { label-high = λ i h. label-passed i (p i h); label-rises = λ i h. label-above i (p (suc i) h) }

  fields_passed :
      test3 c ≡ Accepted → test5 c ≡ Accepted → test6 c ≡ Accepted → test7 c ≡ Accepted → test8 c ≡ Accepted
      → test9 c ≡ Accepted
      → test10 c ≡ Accepted
      → Limits c.tasks
  unfolding test3 test5 test6 test7 test8 test9 test10
  fields_passed a3 a5 a6 a7 a8 a9 a10 =
      record {
        cores-low = (outside-passed _ _ _ (refuse-passed _ _ a3)).0;
        cores-high = (outside-passed _ _ _ (refuse-passed _ _ a3)).1;
        tasks-low = (outside-passed _ _ _ (refuse-passed _ _ a5)).0;
        tasks-high = (outside-passed _ _ _ (refuse-passed _ _ a5)).1;
        separation-low = λ i h. (outside-passed _ _ _ (lowest-passed _ _ _ a6 i h)).0;
        separation-high = λ i h. (outside-passed _ _ _ (lowest-passed _ _ _ a6 i h)).1;
        budget-low = λ i h. (outside-passed _ _ _ (lowest-passed _ _ _ a7 i h)).0;
        budget-high = λ i h. (outside-passed _ _ _ (lowest-passed _ _ _ a7 i h)).1;
        offset-high = λ i h. ltb-false _ _ (lowest-passed _ _ _ a8 i h);
        multiple-high = ltb-false _ _ (refuse-passed _ _ a9);
        shares_high = ltb-false _ _ (refuse-passed _ _ a10);
      }

  taken-apart : limit_tests c ≡ Accepted → Limits c.tasks × Labelled c × (test28 c ≡ Accepted)
  unfolding limit_tests
  taken-apart a =
      let r3 = first_met-passed _ _ a in
      let r4 = first_met-passed _ _ r3.1 in
      let r5 = first_met-passed _ _ r4.1 in
      let r6 = first_met-passed _ _ r5.1 in
      let r7 = first_met-passed _ _ r6.1 in
      let r8 = first_met-passed _ _ r7.1 in
      let r28 = first_met-passed _ _ r8.1 in
      let r9 = first_met-passed _ _ r28.1 in
      let r10 = first_met-passed _ _ r9.1 in
      (fields_passed r3.0 r5.0 r6.0 r7.0 r8.0 r9.0 r10.0, labels-passed r4.0, r28.0)

  pub limits-passed : limit_tests c ≡ Accepted → Limits c.tasks × Labelled c
  limits-passed a = let r = taken-apart a in (r.0, r.1)

  pub deadlines-passed : limit_tests c ≡ Accepted → has_deadlines c.edition ≡ true → (i : ℕ) → i < c.tasks.count → (1 ≤ (c.tasks.task i).deadline) × ((c.tasks.task i).deadline ≤ 1600000)
  unfolding test28
  deadlines-passed a d i h = outside-passed 1 deadline_high _ (rw d at (lowest-passed _ _ _ (taken-apart a).2 i h))
