-- What holds of a table or a plan that meets none of 3 to 13 and 28.
--     tests-passed                                     that, part by part: Passed
--     tests-limits, tests-compliant, tests-bounded     three of its parts
--     slack-high                                       slack is at most 16 × 100,000
--     plan-passed, plan-accepted                       a plan that meets none has a known edition, and its content meets none; and back
use Rattle.std.specs.Prelude.{ℕ, ◌≤◌, ◌<◌, ◌≡◌, Bool, not, ◌&&◌, ◌||◌, ◌⊎◌}
use Rattle.std.proofs.Math.Path.{refl}
use Rattle.std.proofs.Common.{sym, ◌∙◌, true≢false, inl, inr, arith}
use Rattle.std.proofs.Math.Bool.{true, false}
use Rattle.std.proofs.Math.Dec.{eqb}
use borrow.Author.Tests.{ltb-false, eqb-true, eq-eqb, not-true, not-false}
use Rattle.laws.specs.EveryLaws.{both}
use Rattle.tasks.specs.declared.Plan.{Plan}
use Rattle.tasks.specs.Answer.{Accepted}
use Rattle.tasks.specs.TaskSet.{Compliant, core_for_each, found, row}
use Rattle.tasks.specs.Content.{Content, content_of}
use Rattle.tasks.specs.Limits.{Limits, Enough, Bounded}
use Rattle.tasks.specs.Tests.{refuse, bad_edition, test11, test12, test13, tests, test_plan}
use Rattle.tasks.specs.AnswerLaws.{or_next-passed, refuse-passed, lowest-passed, first_met-passed}
use Rattle.tasks.specs.Terms.{limit_tests, slack_tests}
use Rattle.tasks.proofs.LimitsLaws.{tests_split, limits-passed, deadlines-passed}
use Rattle.tasks.proofs.SlackLaws.{covers-compliant, compliant_ext}
use Rattle.tasks.proofs.FoundLaws.{found_zeros, found-compliant}
use Rattle.tasks.specs.BoundLaws.{bound-more}
use Rattle.tasks.specs.Terms.{Passed}

module _ (c : Content) where
  -- what 11 leaves
  offers-passed :
      test11 c ≡ Accepted
      → ((c.offers ≡ 0) ⊎ (c.offers ≡ c.tasks.count)) × (core_for_each c.tasks.cores c.tasks.count ≡ true → c.offers ≡ 0)
  unfolding test11
  offers-passed a = go (eqb c.offers 0) refl (not-false _ (refuse-passed _ _ a))
    where
      go :
          (b : Bool) → eqb c.offers 0 ≡ b → b || (not (core_for_each c.tasks.cores c.tasks.count) && eqb c.offers c.tasks.count) ≡ true
          → ((c.offers ≡ 0) ⊎ (c.offers ≡ c.tasks.count)) × (core_for_each c.tasks.cores c.tasks.count ≡ true → c.offers ≡ 0)
      go true e h = let z = eqb-true _ _ e in (inl z, λ each. z)
      go false e h =
          let r = both (not (core_for_each c.tasks.cores c.tasks.count)) _ h in
          (inr (eqb-true _ _ r.1), λ each. absurd (true≢false (sym each ∙ not-true _ r.0)))

  found_passed : test12 c ≡ Accepted → c.offers ≡ 0 → (k : ℕ) → k < c.tasks.count → c.slack k ≡ row (found c.tasks) k
  unfolding test12
  found_passed a z k h = eqb-true _ _ (not-false _ (lowest-passed 12 _ c.tasks.count (rw (eq-eqb _ _ z) at a) k h))

  offered-passed : test12 c ≡ Accepted → eqb c.offers 0 ≡ false → Compliant c.tasks c.slack
  unfolding test12
  offered-passed a e =
      covers-compliant c.tasks c.slack (λ k h. not-false _ (lowest-passed 12 _ c.tasks.count (rw e at a) k h))

  compliant-passed : Limits c.tasks → test12 c ≡ Accepted → Enough c.tasks c.slack
  compliant-passed L a more = go (eqb c.offers 0) refl
    where
      go : (b : Bool) → eqb c.offers 0 ≡ b → Compliant c.tasks c.slack
      go true e =
          compliant_ext
          c.tasks
          (row (found c.tasks))
          c.slack
          (λ k h. sym (found_passed a (eqb-true _ _ e) k h))
          (found-compliant c.tasks L more)
      go false e = offered-passed a e

  bounded-passed : test13 c ≡ Accepted → Bounded c.tasks c.slack
  unfolding test13 Bounded
  bounded-passed a i h = ltb-false _ _ (lowest-passed 13 _ c.tasks.count a i h)

  pub tests-passed : tests c ≡ Accepted → Passed c
  unfolding slack_tests
  tests-passed a =
      let r = or_next-passed (limit_tests c) (slack_tests c) (sym (tests_split c) ∙ a) in
      let l = limits-passed c r.0 in
      let r11 = first_met-passed _ _ r.1 in
      let r12 = first_met-passed _ _ r11.1 in
      let r13 = first_met-passed _ _ r12.1 in
      record {
        limits = l.0;
        labelled = l.1;
        deadline-high = λ d i h. (deadlines-passed c r.0 d i h).1;
        offers = (offers-passed r11.0).0;
        unoffered = (offers-passed r11.0).1;
        as_found = found_passed r12.0;
        compliant = compliant-passed l.0 r12.0;
        bounded = bounded-passed r13.0;
      }

  pub tests-limits : tests c ≡ Accepted → Limits c.tasks
  tests-limits a = (tests-passed a).limits

  pub tests-compliant : tests c ≡ Accepted → Enough c.tasks c.slack
  tests-compliant a = (tests-passed a).compliant

  pub tests-bounded : tests c ≡ Accepted → Bounded c.tasks c.slack
  tests-bounded a = (tests-passed a).bounded

  -- a bound is at least its slack, and where it is the budget alone slack is 0
  pub slack-high : Passed c → (i : ℕ) → i < c.tasks.count → c.slack i ≤ 1600000
  unfolding Bounded
  slack-high P i h = go (core_for_each c.tasks.cores c.tasks.count) refl
    where
      go : (b : Bool) → core_for_each c.tasks.cores c.tasks.count ≡ b → c.slack i ≤ 1600000
      go true each = omega (arith, P.as_found (P.unoffered each) i h, found_zeros c.tasks each i)
      go false more = omega (arith, bound-more c.tasks c.slack more i, P.bounded i h, P.limits.separation-high i h)

module _ (p : Plan) where
  pub plan-passed : test_plan p ≡ Accepted → (bad_edition p.edition ≡ false) × (tests (content_of p) ≡ Accepted)
  unfolding test_plan
  plan-passed a = let r = or_next-passed (refuse 1 (bad_edition p.edition)) _ a in (refuse-passed 1 _ r.0, r.1)

  pub plan-accepted : bad_edition p.edition ≡ false → tests (content_of p) ≡ Accepted → test_plan p ≡ Accepted
  unfolding test_plan
  plan-accepted e a = rw (e, a)
