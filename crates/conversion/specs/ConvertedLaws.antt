-- Laws of what a table says in the wanted edition.
--     converted-fits     a converted content fits a plan
--     way_offsets, way_deadlines    what 29 and 30 leave
--     fit-each, fit-more    31, 29 and 30 are 31 where loops are no more than cores, and 29 or 30 where they are more; fit_passed: what they leave
--     way_ext            29 and 30 look at the tasks below n
--     of_plain           what a task set's T, C and Y give is the same after the conversion
--     converted-tests    a converted content meets none of 3 to 13 and 28
--     plan-says          the plan of a converted content says it; plan-accepts: and meets none of a plan's numbers
--     converted-late     of the two editions, late is the same
--     converted-kept     conversion to the edition of a task whose deadline, where it has one, is its offset, leaves it as it is
--     table-says, table-passes    the same of a table, past 1 of the wanted edition, its own numbers, 29 and 30
--     known-edition      an edition that 1 passes is 1 or 2
--     ways               two that differ are 2 and 1, or 1 and 2; other-edition: one of them has deadlines
use Prim.Native.Nat.{ℕ, zero, suc, ◌≤◌, ◌<◌}
use native.Mathlib.Omega.{arith}
use Rattle.std.specs.Prelude.{◌≡◌, Bool, not, ◌||◌, ◌⊎◌}
use Rattle.std.proofs.Math.Path.{refl, ap}
use Rattle.std.proofs.Common.{sym, ◌∙◌, true≢false, inl, inr, ⊎_elim}
use Rattle.std.proofs.Math.Bool.{true, false, cond}
use mathlib.Core.List.{List, [], ◌∷◌}
use Rattle.std.proofs.Math.Dec.{eqb}
use borrow.Author.Tests.{eqb-true, eqb-false, not-false}
use Rattle.tasks.specs.declared.Task.{Task}
use Rattle.tasks.specs.Answer.{Answer, Accepted, Refused}
use Rattle.tasks.specs.TaskSet.{TaskSet, plain, core_for_each, found, row}
use Rattle.tasks.specs.PlainLaws.{plain-multiple, plain_shares, plain-compliant, plain-found, plain-bounds}
use Rattle.tasks.specs.Content.{has_deadlines, in_edition, Content, late_of, no_task, content_of, plan_of}
use Rattle.tasks.proofs.ContentLaws.{edition_zero, edition-again, fits-back}
use Rattle.tasks.specs.Terms.{Fits}
use Rattle.tasks.specs.Tests.{refuse, first_met, bad_edition, bad_deadline, bad_multiple, bad_shares, compliant_test, found_test, bounds_test, test3, test4, test5, test6, test7, test8, test28, test9, test10, test11, test12, test13, tests, test_plan}
use Rattle.tasks.proofs.TestsLaws.{tests-limits, plan-accepted}
use Rattle.tasks.specs.AnswerLaws.{refuse-passed, pass_lowest, lowest-passed, lowest_ext, or_next-passed, first_met_alone, first_met_pass, first_met-stop, first_met-passed, first_met-append, neither, pass_outside}
use Rattle.codec.specs.Table.{edition_in, content_in, verdict}
use Rattle.roundtrip.specs.SectionLaws.{verdict-parts, table_fits}
use Rattle.conversion.specs.Converted.{converted_task, converted, no_offset, other_deadline, way_test, fit_test}

module _ (e : ℕ) where
  -- an unused place stays one
  converted_zero : converted_task e no_task ≡ no_task
  unfolding converted_task no_task
  converted_zero = edition_zero e

  pub converted-fits : {c : Content} → Fits c → Fits (converted e c)
  unfolding converted converted_task
  converted-fits {c} k =
      record {
        cores-high = k.cores-high;
        tasks-high = k.tasks-high;
        label-past = k.label-past;
        task-past = λ i h. ap (converted_task e) (k.task-past i h) ∙ converted_zero;
        slack-past = k.slack-past;
        deadlines = λ i. edition-again e _;
        offers = k.offers;
      }

-- ---- 29 and 30

module _ (e : ℕ) (task : ℕ → Task) (n : ℕ) (a : way_test e task n ≡ Accepted) where
  pub way_offsets : has_deadlines e ≡ true → (i : ℕ) → i < n → 1 ≤ (task i).offset
  unfolding way_test
  way_offsets d i h = positive (task i).offset (lowest-passed 29 (λ j. no_offset (task j)) n (rw d at a) i h)
    where
      positive : (y : ℕ) → eqb y 0 ≡ false → 1 ≤ y
      positive zero q = absurd (true≢false q)
      positive (suc y) q = omega arith

  pub way_deadlines : has_deadlines e ≡ false → (i : ℕ) → i < n → (task i).deadline ≡ (task i).offset
  unfolding way_test
  way_deadlines d i h = eqb-true _ _ (not-false _ (lowest-passed 30 (λ j. other_deadline (task j)) n (rw d at a) i h))

pub fit-each : (e m : ℕ) (task : ℕ → Task) (n : ℕ) → core_for_each m n ≡ true → fit_test e m task n ≡ Refused 31 0
unfolding fit_test
fit-each e m task n each = rw each (first_met-stop (Refused 31 0) _ 31 0 refl)

pub fit-more : (e m : ℕ) (task : ℕ → Task) (n : ℕ) → core_for_each m n ≡ false → fit_test e m task n ≡ way_test e task n
unfolding fit_test
fit-more e m task n more = rw more (first_met_pass Accepted _ refl ∙ first_met_alone (way_test e task n))

-- what 31, 29 and 30 leave
pub fit_passed : (e m : ℕ) (task : ℕ → Task) (n : ℕ) → fit_test e m task n ≡ Accepted → (core_for_each m n ≡ false) × (way_test e task n ≡ Accepted)
unfolding fit_test
fit_passed e m task n a = let r = first_met-passed _ _ a in (refuse-passed 31 _ r.0, (first_met-passed _ _ r.1).0)

pub way_ext : (e n : ℕ) (f g : ℕ → Task) → ((i : ℕ) → i < n → f i ≡ g i) → way_test e f n ≡ way_test e g n
unfolding way_test
way_ext e n f g same =
    let a = lowest_ext 29 (λ i. no_offset (f i)) (λ i. no_offset (g i)) n (λ i h. ap no_offset (same i h)) in
    let b = lowest_ext 30 (λ i. other_deadline (f i)) (λ i. other_deadline (g i)) n (λ i h. ap other_deadline (same i h)) in
    λ j. cond (has_deadlines e) (a j) (b j)

-- ---- 3 to 13 and 28

-- the tests before and after 28
abbrev before28 : Content → List Answer
before28 c = test3 c ∷ test4 c ∷ test5 c ∷ test6 c ∷ test7 c ∷ test8 c ∷ []

abbrev after28 : Content → List Answer
after28 c = test9 c ∷ test10 c ∷ test11 c ∷ test12 c ∷ test13 c ∷ []

module _ (c : Content) (a : tests c ≡ Accepted) where
  apart : (first_met (before28 c) ≡ Accepted) × (test28 c ≡ Accepted) × (first_met (after28 c) ≡ Accepted)
  unfolding tests
  apart =
      let r = or_next-passed _ _ (sym (first_met-append (before28 c) (test28 c ∷ after28 c)) ∙ a) in
      let s = first_met-passed _ _ r.1 in
      (r.0, s.0, s.1)

module _ (e : ℕ) (c : Content) where
  same-plain : plain (converted e c).tasks ≡ plain c.tasks
  unfolding converted converted_task plain
  same-plain = refl

  pub of_plain : {A : Type 0} (f : TaskSet → A) → ((s : TaskSet) → f (plain s) ≡ f s) → f (converted e c).tasks ≡ f c.tasks
  of_plain f same = sym (same (converted e c).tasks) ∙ ap f same-plain ∙ same c.tasks

  same-before : before28 (converted e c) ≡ before28 c
  unfolding converted converted_task test3 test4 test5 test6 test7 test8
  same-before = refl

  same_after : after28 (converted e c) ≡ after28 c
  unfolding converted test9 test10 test11 test12 test13
  same_after =
      let h = of_plain bad_multiple plain-multiple in
      let u = of_plain bad_shares plain_shares in
      let f = of_plain found plain-found in
      let k = of_plain (λ s. compliant_test s c.slack) (λ s. plain-compliant s c.slack) in
      let b = of_plain (λ s. bounds_test s c.slack) (λ s. plain-bounds s c.slack) in
      λ j.
      refuse 9 (h j)
      ∷ refuse 10 (u j)
      ∷ test11 c
      ∷ cond (eqb c.offers 0) (found_test c.slack (row (f j)) c.tasks.count) (k j)
      ∷ b j
      ∷ []

module _ (e : ℕ) (c : Content) (a : tests c ≡ Accepted) (w : way_test e c.tasks.task c.tasks.count ≡ Accepted) where
  -- "giving each loop its offset as deadline": 29 and 8 leave 1 to 100,000
  converted_28 : test28 (converted e c) ≡ Accepted
  unfolding test28 converted converted_task
  converted_28 = pass_lowest 28 _ c.tasks.count (λ i h. go (has_deadlines e) refl i h)
    where
      go :
          (b : Bool) → has_deadlines e ≡ b → (i : ℕ) → i < c.tasks.count
          → bad_deadline e (converted_task e (c.tasks.task i)) ≡ false
      go true d i h =
          let L = tests-limits c a in
          rw d
          (pass_outside 1 _ (c.tasks.task i).offset
          (way_offsets e c.tasks.task c.tasks.count w d i h)
          (omega (arith, L.offset-high i h, L.separation-high i h)))
      go false d i h = rw d

  pub converted-tests : tests (converted e c) ≡ Accepted
  unfolding tests
  converted-tests =
      let p = apart c a in
      first_met-append (before28 (converted e c)) (test28 (converted e c) ∷ after28 (converted e c))
      ∙ rw (same-before e c, p.0) (first_met_pass _ _ converted_28 ∙ ap first_met (same_after e c) ∙ p.2)

  module _ (k : Fits c) where
    plan-says : content_of (plan_of (converted e c)) ≡ converted e c
    plan-says = fits-back (converted e c) (converted-fits e k)

    plan-accepts : bad_edition e ≡ false → test_plan (plan_of (converted e c)) ≡ Accepted
    unfolding plan_of converted
    plan-accepts known = plan-accepted (plan_of (converted e c)) known (ap tests plan-says ∙ converted-tests)

-- ---- late, and back again

pub converted-late :
    (e f : ℕ) (k : Task) (bound : ℕ) → has_deadlines f ≡ not (has_deadlines e) → (has_deadlines e ≡ false → k.deadline ≡ k.offset)
    → late_of e (converted_task e k) bound ≡ late_of f k bound
unfolding late_of converted_task
converted-late e f k bound other same = go (has_deadlines e) refl other
  where
    go : (b : Bool) → has_deadlines e ≡ b → has_deadlines f ≡ not b → late_of e (converted_task e k) bound ≡ late_of f k bound
    go true p q = rw (p, q)
    go false p q = rw (p, q, same p)

pub converted-kept :
    (f : ℕ) (k : Task) → in_edition f k ≡ k → (has_deadlines f ≡ true → k.deadline ≡ k.offset) → converted_task f k ≡ k
unfolding converted_task
converted-kept f k kept same = go (has_deadlines f) refl ∙ kept
  where
    go : (b : Bool) → has_deadlines f ≡ b → converted_task f k ≡ in_edition f k
    go true p = rw (p, same p)
    go false p = rw p

-- ---- the editions

pub known-edition : (e : ℕ) → bad_edition e ≡ false → (e ≡ 1) ⊎ (e ≡ 2)
known-edition e h = go (eqb e 1) refl (not-false _ h)
  where
    go : (b : Bool) → eqb e 1 ≡ b → b || eqb e 2 ≡ true → (e ≡ 1) ⊎ (e ≡ 2)
    go true q o = inl (eqb-true _ _ q)
    go false q o = inr (eqb-true _ _ o)

-- "a table already in the wanted edition" aside, a conversion goes one of two ways
pub ways :
    (e f : ℕ) → bad_edition e ≡ false → bad_edition f ≡ false → eqb f e ≡ false → ((e ≡ 2) × (f ≡ 1)) ⊎ ((e ≡ 1) × (f ≡ 2))
ways e f he hf ne =
    ⊎_elim
    (λ (p : e ≡ 1).
    ⊎_elim (λ (q : f ≡ 1). absurd (eqb-false f e ne (q ∙ sym p))) (λ (q : f ≡ 2). inr (p, q)) (known-edition f hf))
    (λ (p : e ≡ 2).
    ⊎_elim (λ (q : f ≡ 1). inl (p, q)) (λ (q : f ≡ 2). absurd (eqb-false f e ne (q ∙ sym p))) (known-edition f hf))
    (known-edition e he)

pub other-edition :
    (e f : ℕ) → bad_edition e ≡ false → bad_edition f ≡ false → eqb f e ≡ false → has_deadlines f ≡ not (has_deadlines e)
other-edition e f he hf ne =
    ⊎_elim (λ (w : (e ≡ 2) × (f ≡ 1)). rw (w.0, w.1)) (λ (w : (e ≡ 1) × (f ≡ 2)). rw (w.0, w.1)) (ways e f he hf ne)

-- ---- an accepted table that meets neither 1 of the wanted edition nor 29 nor 30

module _ (e : ℕ) (t : List ℕ) (wanted : bad_edition e || eqb (edition_in t) e ≡ false) (v : verdict t ≡ Accepted)
    (w : way_test e (content_in t).tasks.task (content_in t).tasks.count ≡ Accepted) where
  passes : tests (content_in t) ≡ Accepted
  passes = (verdict-parts t v).content

  pub table-says : content_of (plan_of (converted e (content_in t))) ≡ converted e (content_in t)
  table-says = plan-says e (content_in t) passes w (table_fits t passes)

  pub table-passes : test_plan (plan_of (converted e (content_in t))) ≡ Accepted
  table-passes = plan-accepts e (content_in t) passes w (table_fits t passes) (neither (bad_edition e) _ wanted).0
