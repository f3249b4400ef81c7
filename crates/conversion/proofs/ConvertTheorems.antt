-- Document 02, §6, of bytes: what the two sides of a conversion share, there and back, and when 29, 30 and 31 are met.
--     table-passed      a table that is converted is accepted
--     convert_twins     what a conversion leaves is that of the table; convert_edition: in the wanted edition
--     there_and_back    converted to the first edition, it is the first bytes
--     convert_short     a buffer of 332 bytes is never too short
--     verdict-number    a table is refused by numbers up to 28
--     refused_29, refused_30, refused_31    29, 30 and 31 are met exactly in their cases
use Rattle.std.specs.Prelude.{ℕ, ◌≤◌, ◌<◌, ◌≡◌, Bool, ◌||◌, List, [], ◌∷◌, ◌++◌, ◌↔◌, ◌⊎◌, ◌≢◌, length, drop, ltb}
use Rattle.std.proofs.Common.{arith, sym, ◌∙◌, true≢false, inl, inr, take_at}
use Rattle.std.proofs.Math.Path.{refl, ap}
use Rattle.std.proofs.Math.Bool.{true, false, not}
use Rattle.std.proofs.Math.Logic.{⊎_elim}
use Rattle.std.proofs.Math.Dec.{eqb}
use borrow.Author.Tests.{le-ltb, eqb-false, eq-eqb, ne_eqb}
use Rattle.laws.specs.EveryLaws.{below_or_not}
use Rattle.tasks.specs.declared.Plan.{Plan}
use Rattle.tasks.specs.Answer.{Accepted, Refused}
use Rattle.tasks.specs.TaskSet.{core_for_each, bound}
use Rattle.tasks.specs.Content.{has_deadlines, Content, late, no_task, content_of, plan_of}
use Rattle.tasks.proofs.ContentLaws.{content_ext}
use Rattle.tasks.specs.Terms.{Fits, limit_tests}
use Rattle.tasks.specs.Tests.{refuse, first_met, number_of, index_of, bad_edition, tests, test_plan}
use Rattle.tasks.specs.AnswerLaws.{refuse-passed, pass_lowest, or_next-passed, neither, first_met-passed}
use Rattle.tasks.proofs.LimitsLaws.{tests_split, deadlines-passed}
use Rattle.tasks.specs.NumberLaws.{lowest-met, met-lowest, refuse-number, Numbers, ◌also◌, no_more, tests-number, met_next, met-first}
use Rattle.numbers.specs.ByteLaws.{Bytes}
use Rattle.codec.specs.Table.{counted_length, edition_in, content_in, test1, test2, verdict, bytes_of}
use Rattle.codec.specs.TaskLaws.{size_times}
use Rattle.sections.specs.WriteLaws.{length-bytes}
use Rattle.roundtrip.specs.SectionLaws.{verdict-parts, table_fits}
use Rattle.roundtrip.specs.BackLaws.{back-edition}
use Rattle.roundtrip.proofs.RoundTrip.{rewritten, plan-back, verdict-back}
use Rattle.conversion.specs.Converted.{converted_task, converted, converted_bytes, wanted_test, way_test, fit_test, convert_test, converted_length, converted_to}
pub use Rattle.conversion.specs.ConvertTerms.{left_by, Twins}
use Rattle.conversion.specs.ConvertTerms.{unset, differs, each, Meets29, Meets30, Meets31}
use Rattle.conversion.specs.ConvertedLaws.{way_deadlines, fit_passed, fit-more, fit-each, converted-late, converted-kept, table-says, table-passes, ways, other-edition}

-- a table that is not refused before 24
module _ (e : ℕ) (t : List ℕ) (wanted : bad_edition e || eqb (edition_in t) e ≡ false) (v : verdict t ≡ Accepted)
    (w : way_test e (content_in t).tasks.task (content_in t).tasks.count ≡ Accepted) where
  passes : tests (content_in t) ≡ Accepted
  passes = (verdict-parts t v).content

  fits : Fits (content_in t)
  fits = table_fits t passes

  known : bad_edition e ≡ false
  known = (neither (bad_edition e) _ wanted).0

  from-known : bad_edition (edition_in t) ≡ false
  from-known = (verdict-parts t v).edition

  other : has_deadlines (edition_in t) ≡ not (has_deadlines e)
  other = other-edition e (edition_in t) known from-known (neither (bad_edition e) _ wanted).1

  same-edition : edition_in t ≡ (content_in t).edition
  unfolding content_in
  same-edition = refl

  abbrev P : Plan
  P = plan_of (converted e (content_in t))

  says : content_of P ≡ converted e (content_in t)
  says = table-says e t wanted v w

  accepts : test_plan P ≡ Accepted
  accepts = table-passes e t wanted v w

  there : content_in (converted_bytes e t) ≡ converted e (content_in t)
  there = ap (λ (c : Content). content_in (bytes_of c)) (sym says) ∙ plan-back P accepts ∙ says

  there-accepted : verdict (converted_bytes e t) ≡ Accepted
  there-accepted = ap (λ (c : Content). verdict (bytes_of c)) (sym says) ∙ verdict-back P accepts

  same-deadline : has_deadlines e ≡ false → (i : ℕ) → i < (content_in t).tasks.count → ((content_in t).tasks.task i).deadline ≡ ((content_in t).tasks.task i).offset
  same-deadline d = way_deadlines e (content_in t).tasks.task (content_in t).tasks.count w d

  twins : Twins t (converted_bytes e t)
  unfolding converted converted_task bound late
  twins =
      record {
        accepted = there-accepted;
        cores = rw there;
        labels = rw there;
        loops = rw there;
        separations = λ i. rw there;
        budgets = λ i. rw there;
        offsets = λ i. rw there;
        offers = rw there;
        slack = rw there;
        bounds = λ i. rw there;
        lates =
            λ i h.
            ap (λ (c : Content). late c i) there
            ∙ converted-late e (content_in t).edition ((content_in t).tasks.task i) (bound (content_in t).tasks (content_in t).slack i) (rw same-edition at other) (λ d. same-deadline d i h);
      }

  -- ---- and back

  any-deadline : has_deadlines (edition_in t) ≡ true → (i : ℕ) → ((content_in t).tasks.task i).deadline ≡ ((content_in t).tasks.task i).offset
  unfolding no_task
  any-deadline d i =
      ⊎_elim (λ (h : i < (content_in t).tasks.count). same-deadline (plain (has_deadlines e) refl) i h)
      (λ (h : (content_in t).tasks.count ≤ i). rw (fits.task-past i h))
      (below_or_not i (content_in t).tasks.count)
    where
      plain : (b : Bool) → has_deadlines e ≡ b → has_deadlines e ≡ false
      plain true q = absurd (true≢false (sym d ∙ other ∙ ap not q))
      plain false q = q

  back : converted (edition_in t) (converted e (content_in t)) ≡ content_in t
  unfolding converted converted_task
  back =
      let each : (i : ℕ) → converted_task (edition_in t) ((content_in t).tasks.task i) ≡ (content_in t).tasks.task i =
      λ i. converted-kept (edition_in t) ((content_in t).tasks.task i) (rw (← same-edition) at (fits.deadlines i)) (λ d. any-deadline d i) in
      content_ext (converted (edition_in t) (converted e (content_in t))) (content_in t) same-edition
      (λ j. record { cores = (content_in t).tasks.cores; count = (content_in t).tasks.count; task = λ i. each i j })
      refl refl refl

  -- 28 leaves a deadline of 1 or more, and it is the offset
  offset-low : has_deadlines (edition_in t) ≡ true → (i : ℕ) → i < (content_in t).tasks.count → ((content_in t).tasks.task i).offset ≢ 0
  offset-low d i h z =
      let limits : limit_tests (content_in t) ≡ Accepted = (or_next-passed _ _ (sym (tests_split (content_in t)) ∙ passes)).0 in
      omega (arith, (deadlines-passed (content_in t) limits (rw same-edition at d) i h).0, any-deadline d i, z)

  -- neither 29 nor 30 is met on the way back
  back_way : way_test (edition_in t) (converted e (content_in t)).tasks.task (content_in t).tasks.count ≡ Accepted
  unfolding way_test converted converted_task
  back_way = go (has_deadlines e) refl other
    where
      go :
          (b : Bool) → has_deadlines e ≡ b → has_deadlines (edition_in t) ≡ not b
          → way_test (edition_in t) (converted e (content_in t)).tasks.task (content_in t).tasks.count ≡ Accepted
      go true p q = rw q (pass_lowest 30 _ (content_in t).tasks.count (λ i h. rw (p, eq-eqb ((content_in t).tasks.task i).offset ((content_in t).tasks.task i).offset refl)))
      go false p q = rw q (pass_lowest 29 _ (content_in t).tasks.count (λ i h. ne_eqb _ 0 (offset-low q i h)))

-- ---- the calls: what `convert` answers and leaves behind

module _ (e : ℕ) (t out : List ℕ) (a : convert_test e t (length out) ≡ Accepted) where
  wanted-passed : bad_edition e || eqb (edition_in t) e ≡ false
  unfolding convert_test wanted_test
  wanted-passed = refuse-passed 1 _ (first_met-passed _ _ a).0

  pub table-passed : verdict t ≡ Accepted
  unfolding convert_test
  table-passed = (first_met-passed _ _ (first_met-passed _ _ a).1).0

  fit : (core_for_each (content_in t).tasks.cores (content_in t).tasks.count ≡ false) × (way_test e (content_in t).tasks.task (content_in t).tasks.count ≡ Accepted)
  unfolding convert_test
  fit = fit_passed e _ _ _ (first_met-passed _ _ (first_met-passed _ _ (first_met-passed _ _ a).1).1).0

  way_passed : way_test e (content_in t).tasks.task (content_in t).tasks.count ≡ Accepted
  way_passed = fit.1

  left_are : left_by e t out ≡ converted_bytes e t
  unfolding left_by converted_length converted_to
  left_are = rw a (take_at (converted_bytes e t) _ _ refl)

  pub convert_twins : Twins t (left_by e t out)
  convert_twins = rw left_are (twins e t wanted-passed table-passed way_passed)

  pub convert_edition : edition_in (left_by e t out) ≡ e
  unfolding converted
  convert_edition = rw left_are (back-edition (converted e (content_in t)))

  -- "there and back gives the first bytes", from either side, in any buffer that is long enough
  module _ (b : Bytes t) (again : List ℕ) (room : length t ≤ length again) where
    back-bytes : converted_bytes (edition_in t) (converted_bytes e t) ≡ t
    back-bytes =
        ap (λ (c : Content). bytes_of (converted (edition_in t) c)) (there e t wanted-passed table-passed way_passed)
        ∙ ap bytes_of (back e t wanted-passed table-passed way_passed)
        ∙ rewritten t table-passed b

    back-wanted : wanted_test (edition_in t) (converted_bytes e t) ≡ Accepted
    unfolding wanted_test converted
    back-wanted =
        rw (
          back-edition (converted e (content_in t)),
          from-known e t wanted-passed table-passed way_passed,
          ne_eqb e (edition_in t) (λ s. eqb-false (edition_in t) e (neither (bad_edition e) _ wanted-passed).1 (sym s)),
        )

    back-there :
        fit_test (edition_in t) (content_in (converted_bytes e t)).tasks.cores (content_in (converted_bytes e t)).tasks.task (content_in (converted_bytes e t)).tasks.count
        ≡ Accepted
    unfolding converted
    back-there =
        rw (there e t wanted-passed table-passed way_passed)
        (fit-more _ _ _ _ fit.0 ∙ back_way e t wanted-passed table-passed way_passed)

    back-test : convert_test (edition_in t) (converted_bytes e t) (length again) ≡ Accepted
    unfolding convert_test first_met
    back-test =
        rw (
          back-wanted,
          there-accepted e t wanted-passed table-passed way_passed,
          back-there,
          back-bytes,
          le-ltb (length again) (length t) room,
        )

    pub there_and_back :
        (convert_test (edition_in t) (left_by e t out) (length again) ≡ Accepted)
        × (converted_length (edition_in t) (left_by e t out) (length again) ≡ length t)
        × (converted_to (edition_in t) (left_by e t out) again ≡ t ++ drop (length t) again)
    unfolding converted_length converted_to
    there_and_back = rw left_are (back-test, rw (back-test, back-bytes), rw (back-test, back-bytes))

-- ---- 332 bytes

pub convert_short : (e : ℕ) (t : List ℕ) → verdict t ≡ Accepted → length (converted_bytes e t) ≤ 332
unfolding converted
convert_short e t v =
    let k = table_fits t (verdict-parts t v).content in
    let c = content_in t in
    ⊎_elim
    (λ (z : c.offers ≡ 0). omega (arith, length-bytes (converted e c), size_times e c.tasks.count, k.cores-high, k.tasks-high, z))
    (λ (z : c.offers ≡ c.tasks.count). omega (arith, length-bytes (converted e c), size_times e c.tasks.count, k.cores-high, k.tasks-high, z))
    k.offers

-- ---- 29, 30 and 31

pub verdict-number : (t : List ℕ) → number_of (verdict t) ≤ 28
unfolding verdict test1 test2
verdict-number t =
    let all : Numbers 28 (test1 t ∷ test2 t ∷ tests (content_in t) ∷ []) =
    refuse-number 28 1 (bad_edition (edition_in t)) (omega arith)
    also refuse-number 28 2 (not (eqb (length t) (counted_length t))) (omega arith)
    also tests-number (content_in t)
    also no_more in
    all.first-number

-- a refusal by a number above 28 comes from 29, 30 and 31
module _ (e : ℕ) (t : List ℕ) (room k i : ℕ) (high : 28 < k) where
  from-fit :
      convert_test e t room ≡ Refused k i
      → (bad_edition e || eqb (edition_in t) e ≡ false)
      × (verdict t ≡ Accepted)
      × (fit_test e (content_in t).tasks.cores (content_in t).tasks.task (content_in t).tasks.count ≡ Refused k i)
  unfolding convert_test wanted_test
  from-fit q =
      let r1 = met_next _ _ k i (λ z. omega (arith, z, refuse-number 28 1 (bad_edition e || eqb (edition_in t) e) (omega arith))) q in
      let r2 = met_next (verdict t) _ k i (λ z. omega (arith, z, verdict-number t)) r1.1 in
      let last : Numbers 28 (refuse 24 (ltb room (length (converted_bytes e t))) ∷ []) = refuse-number 28 24 (ltb room (length (converted_bytes e t))) (omega arith) also no_more in
      (refuse-passed 1 _ r1.0, r2.0, met-first _ _ k i (λ z. omega (arith, z, last.first-number)) r2.1)

  to_fit :
      bad_edition e || eqb (edition_in t) e ≡ false → verdict t ≡ Accepted
      → fit_test e (content_in t).tasks.cores (content_in t).tasks.task (content_in t).tasks.count ≡ Refused k i
      → convert_test e t room ≡ Refused k i
  unfolding convert_test wanted_test first_met
  to_fit p v w = rw (p, v, w)

module _ (e : ℕ) (t : List ℕ) (room i : ℕ) where
  -- the three cases
  Cases : ℕ → Type 0
  Cases k = ((k ≡ 29) × Meets29 e t room i) ⊎ ((k ≡ 30) × Meets30 e t room i) ⊎ ((k ≡ 31) × Meets31 e t room i)

  cases : (k : ℕ) → 28 < k → convert_test e t room ≡ Refused k i → Cases k
  unfolding way_test Cases
  cases k high q = go (each e t room i) refl
    where
      r :
          (bad_edition e || eqb (edition_in t) e ≡ false)
          × (verdict t ≡ Accepted)
          × (fit_test e (content_in t).tasks.cores (content_in t).tasks.task (content_in t).tasks.count ≡ Refused k i)
      r = from-fit e t room k i high q

      n : (bad_edition e ≡ false) × (eqb (edition_in t) e ≡ false)
      n = neither (bad_edition e) _ r.0

      go : (b : Bool) → each e t room i ≡ b → Cases k
      go true own =
          let w : Refused k i ≡ Refused 31 0 = sym r.2 ∙ fit-each e _ _ _ own in
          inr (inr (ap number_of w, (n.0, n.1, r.1, own, ap index_of w)))
      go false more =
          let w = sym (fit-more e _ _ _ more) ∙ r.2 in
          ⊎_elim
          (λ (s : (e ≡ 2) × (edition_in t ≡ 1)).
          let l = lowest-met 29 (unset e t room i) (content_in t).tasks.count k i (rw s.0 at w) in inl (l.0, (s.0, s.1, r.1, more, l.1)))
          (λ (s : (e ≡ 1) × (edition_in t ≡ 2)).
          let l = lowest-met 30 (differs e t room i) (content_in t).tasks.count k i (rw s.0 at w) in inr (inl (l.0, (s.0, s.1, r.1, more, l.1))))
          (ways e (edition_in t) n.0 (verdict-parts t r.1).edition n.1)

  pub refused_29 : (convert_test e t room ≡ Refused 29 i) ↔ Meets29 e t room i
  unfolding way_test Cases
  refused_29 = (λ q. this (cases 29 (omega arith) q), λ s. to_fit e t room 29 i (omega arith) (rw (s.0, s.1)) s.2 (fit-more e _ _ _ s.3 ∙ rw s.0 (met-lowest 29 (unset e t room i) (content_in t).tasks.count i s.4)))
    where
      this : Cases 29 → Meets29 e t room i
      this (inl s) = s.1
      this (inr (inl s)) = absurd (omega (arith, s.0))
      this (inr (inr s)) = absurd (omega (arith, s.0))

  pub refused_30 : (convert_test e t room ≡ Refused 30 i) ↔ Meets30 e t room i
  unfolding way_test Cases
  refused_30 = (λ q. this (cases 30 (omega arith) q), λ s. to_fit e t room 30 i (omega arith) (rw (s.0, s.1)) s.2 (fit-more e _ _ _ s.3 ∙ rw s.0 (met-lowest 30 (differs e t room i) (content_in t).tasks.count i s.4)))
    where
      this : Cases 30 → Meets30 e t room i
      this (inl s) = absurd (omega (arith, s.0))
      this (inr (inl s)) = s.1
      this (inr (inr s)) = absurd (omega (arith, s.0))

  pub refused_31 : (convert_test e t room ≡ Refused 31 i) ↔ Meets31 e t room i
  unfolding Cases
  refused_31 = (λ q. this (cases 31 (omega arith) q), λ s. to_fit e t room 31 i (omega arith) (rw (s.0, s.1)) s.2 (fit-each e _ _ _ s.3 ∙ ap (Refused 31) (sym s.4)))
    where
      this : Cases 31 → Meets31 e t room i
      this (inl s) = absurd (omega (arith, s.0))
      this (inr (inl s)) = absurd (omega (arith, s.0))
      this (inr (inr s)) = s.1
