-- From the tested-slack and the bounds of the plan that a table's sections fill to the table's verdict.
--     Judges       what the judging of a plan with a slack count answers
--     answer_in, judged-from    past 1 and 2 that is the table's verdict and judgement
--     counts-refused    a table that meets 1 or 2
use Rattle.std.specs.Prelude.{Ok, Err, ℕ, ◌≤◌, ◌≡◌, Bool, cond, not, ◌&&◌, ◌||◌}
use Rattle.std.proofs.Math.Path.{refl, sym, ap}
use Rattle.std.proofs.Common.{◌∙◌}
use Rattle.std.proofs.Math.Bool.{true, false}
use mathlib.Core.List.{List, [], ◌∷◌}
use Rattle.std.proofs.Math.Dec.{eqb}
use Rattle.std.proofs.Math.ListN.{length}
use borrow.Author.Tests.{eqb-true, eqb-false, eq-eqb, ne_eqb, not-false}
use Rattle.laws.specs.Tab.{tab}
use Rattle.laws.specs.TabLaws.{tab_ext}
use Rattle.laws.specs.EveryLaws.{both}
use Rattle.tasks.specs.declared.Plan.{Plan}
use Rattle.tasks.specs.Answer.{Answer, Accepted, Refused}
use Rattle.tasks.specs.TaskSet.{TaskSet, counted, core_for_each, found, row}
use Rattle.tasks.proofs.AmountLaws.{counted_ext}
use Rattle.tasks.specs.Content.{Content, counted_of, content_of, plan_of, zero_plan}
use Rattle.tasks.specs.Tests.{first_met, or_next, test3, test4, test5, test6, test7, test8, test28, test9, test10, test11, tests, unless_refused}
use Rattle.tasks.specs.AnswerLaws.{refuse-passed, or_next-passed, first_met-passed, first_met-append, first_met_alone}
use Rattle.tasks.specs.Terms.{limit_tests, slack_tests}
use Rattle.tasks.proofs.LimitsLaws.{tests_split, limits-passed}
use Rattle.analysis.specs.SlackTest.{offering, offered_test, had_slack}
use Rattle.analysis.specs.PlanTest.{bounds_of}
use Rattle.analysis.specs.SlackTestLaws.{passed_on}
use Rattle.analysis.specs.JudgingLaws.{judging, judging-tests, judging-found, judging-limits, judging-count}
use Rattle.table.specs.declared.Judgement.{Judgement}
use Rattle.codec.specs.Table.{core_count, task_count, slack_count, task_set_in, content_in, test1, test2, verdict}
use Rattle.reader.specs.Counted.{counts_test}
use Rattle.tasks.proofs.ContentLaws.{content_ext}
use Rattle.tasks.specs.Terms.{with_slack}
use Rattle.table.specs.Judged.{refused_with, counted_in, judged}
use Rattle.table.specs.LoadedLaws.{loaded, edition-same, tasks_in, labels_in, slack_in_lem, limits-all}

-- 3 to 12, and then 13 with the slack that the plan has
unfoldable pub judged_answer : Plan → ℕ → Answer
judged_answer p k =
    or_next (or_next (limit_tests (offering p k)) (first_met (test11 (offering p k) ∷ offered_test (offering p k) ∷ [])))
    (bounds_of p (tab (had_slack (offering p k)) 16))

-- the loops counted at the slack that the plan has, none where loops are no more than cores
unfoldable pub judged_names : Plan → ℕ → List ℕ
judged_names p k = cond (core_for_each p.cores p.tasks) [] (counted (offering p k).tasks (had_slack (offering p k)))

pub record Judges (p : Plan) (k : ℕ) (r : Judgement) : Type 0 where
  pub answer : r.answer ≡ judged_answer p k
  pub plan : r.plan ≡ unless_refused r.answer (with_slack p (tab (had_slack (offering p k)) 16)) zero_plan
  pub count : r.count ≡ length (unless_refused r.answer (judged_names p k) [])
  pub counted : r.counted ≡ tab (row (unless_refused r.answer (judged_names p k) [])) 8

-- the table's verdict past 1 and 2 is what the judging of the plan answers
module _ (t : List ℕ) where
  said : Content
  said = offering (loaded t) (slack_count t)

  none : slack_count t ≡ 0 → said.offers ≡ 0
  unfolding said offering
  none z = z

  said-limits : limit_tests said ≡ limit_tests (content_in t)
  unfolding said offering limit_tests test3 test4 test5 test6 test7 test8 test28 test9 test10
  said-limits = limits-all t

  -- the slack that stands in the table's content is the slack that it has
  had_in : (i : ℕ) → (content_in t).slack i ≡ had_slack (content_in t) i
  unfolding content_in had_slack
  had_in i = go (eqb (slack_count t) 0) refl
    where
      go : (b : Bool) → eqb (slack_count t) 0 ≡ b → (content_in t).slack i ≡ had_slack (content_in t) i
      go true e = rw e
      go false e = rw e

  said-edition : said.edition ≡ (content_in t).edition
  unfolding said offering
  said-edition = edition-same t

  said-tasks : task_count t ≤ 16 → said.tasks ≡ (content_in t).tasks
  unfolding said offering
  said-tasks h = tasks_in t h

  said-labels : core_count t ≤ 8 → said.label ≡ (content_in t).label
  unfolding said offering
  said-labels h = labels_in t h

  said-offers : said.offers ≡ (content_in t).offers
  unfolding said offering content_in
  said-offers = refl

  found-said : slack_count t ≡ 0 → task_count t ≤ 16 → (i : ℕ) → had_slack said i ≡ (content_in t).slack i
  unfolding had_slack content_in
  found-said z n i =
      rw (eq-eqb said.offers 0 (none z), eq-eqb (slack_count t) 0 z) (ap (λ (s : TaskSet). row (found s) i) (said-tasks n))

  -- with the offered slack the plan says what the table says
  said_same : core_count t ≤ 8 → task_count t ≤ 16 → slack_count t ≡ task_count t → (slack_count t ≡ 0 → ⊥) → said ≡ content_in t
  unfolding said offering
  said_same m n e z = content_ext said (content_in t) said-edition (said-tasks n) (said-labels m) said-offers (slack_in_lem t n e z)

  -- 11 is not met
  two-counts : test11 (content_in t) ≡ Accepted → (slack_count t ≡ 0 → ⊥) → slack_count t ≡ task_count t
  unfolding test11 content_in task_set_in
  two-counts e z =
      let q : eqb (slack_count t) 0 || (not (core_for_each (core_count t) (task_count t)) && eqb (slack_count t) (task_count t)) ≡ true = not-false _ (refuse-passed 11 _ e) in
      eqb-true (slack_count t) (task_count t) (both (not (core_for_each (core_count t) (task_count t))) _ (rw (ne_eqb (slack_count t) 0 z) at q)).1

  within : limit_tests (content_in t) ≡ Accepted → (core_count t ≤ 8) × (task_count t ≤ 16)
  unfolding content_in task_set_in
  within e = let L = (limits-passed (content_in t) e).0 in (L.cores-high, L.tasks-high)

  said-judging : judging said ≡ judging (content_in t)
  said-judging = limits (limit_tests (content_in t)) refl
    where
      offered : (b : Bool) → eqb (slack_count t) 0 ≡ b → limit_tests (content_in t) ≡ Accepted → test11 (content_in t) ≡ Accepted → judging said ≡ judging (content_in t)
      offered true z e f =
          let w = within e in
          judging-found said (content_in t) said-edition (said-tasks w.1) (said-labels w.0) said-offers (none (eqb-true _ _ z))
      offered false z e f =
          let w = within e in
          ap judging (said_same w.0 w.1 (two-counts f (eqb-false _ _ z)) (eqb-false _ _ z))

      counts : (a : Answer) → test11 (content_in t) ≡ a → limit_tests (content_in t) ≡ Accepted → judging said ≡ judging (content_in t)
      counts (Err r) f e =
          let w = within e in
          judging-count said (content_in t) said-edition (said-tasks w.1) (said-labels w.0) said-offers r.number r.index said-limits e f
      counts (Ok tt) f e = offered (eqb (slack_count t) 0) refl e f

      limits : (a : Answer) → limit_tests (content_in t) ≡ a → judging said ≡ judging (content_in t)
      limits (Err r) e = judging-limits said (content_in t) r.number r.index said-limits e
      limits (Ok tt) e = counts (test11 (content_in t)) refl e

  as_judging : judged_answer (loaded t) (slack_count t) ≡ judging said
  unfolding judged_answer judging bounds_of said offering content_of
  as_judging = refl

  pub answer_in : judged_answer (loaded t) (slack_count t) ≡ tests (content_in t)
  answer_in = as_judging ∙ said-judging ∙ judging-tests (content_in t) (λ i h. had_in i)

  eleven-passed : tests (content_in t) ≡ Accepted → (limit_tests (content_in t) ≡ Accepted) × (test11 (content_in t) ≡ Accepted)
  unfolding slack_tests
  eleven-passed e =
      let r = or_next-passed _ _ (sym (tests_split (content_in t)) ∙ e) in
      (r.0, (first_met-passed (test11 (content_in t)) _ r.1).0)

  had-said : tests (content_in t) ≡ Accepted → (i : ℕ) → had_slack said i ≡ (content_in t).slack i
  had-said e i = go (eqb (slack_count t) 0) refl
    where
      w : (core_count t ≤ 8) × (task_count t ≤ 16)
      w = within (eleven-passed e).0

      go : (b : Bool) → eqb (slack_count t) 0 ≡ b → had_slack said i ≡ (content_in t).slack i
      go true z = found-said (eqb-true _ _ z) w.1 i
      go false z =
          ap (λ (c : Content). had_slack c i) (said_same w.0 w.1 (two-counts (eleven-passed e).1 (eqb-false _ _ z)) (eqb-false _ _ z))
          ∙ sym (had_in i)

  plan_in_lem : tests (content_in t) ≡ Accepted → with_slack (loaded t) (tab (had_slack said) 16) ≡ plan_of (content_in t)
  unfolding with_slack loaded plan_of
  plan_in_lem e = ap (with_slack (plan_of (content_in t))) (tab_ext (had_slack said) (content_in t).slack 16 (λ i h. had-said e i))

  names_in : tests (content_in t) ≡ Accepted → judged_names (loaded t) (slack_count t) ≡ counted_of (content_in t)
  unfolding judged_names counted_of said loaded with_slack plan_of
  names_in e =
      ap (cond (core_for_each (content_in t).tasks.cores (content_in t).tasks.count) [])
      (ap (λ (s : TaskSet). counted s (had_slack said)) (said-tasks (within (eleven-passed e).0).1)
      ∙ counted_ext (content_in t).tasks _ _ (λ i h. had-said e i))

  past_two : counts_test t ≡ Accepted → verdict t ≡ tests (content_in t)
  unfolding verdict counts_test
  past_two e =
      first_met-append (test1 t ∷ test2 t ∷ []) (tests (content_in t) ∷ [])
      ∙ passed_on _ _ e
      ∙ first_met_alone (tests (content_in t))

  judged-case :
      (a : Answer) → a ≡ tests (content_in t) →
      unless_refused a (with_slack (loaded t) (tab (had_slack said) 16)) zero_plan ≡ unless_refused a (plan_of (content_in t)) zero_plan
  judged-case (Ok tt) e = plan_in_lem (sym e)
  judged-case (Err r) e = refl

  names-case :
      (a : Answer) → a ≡ tests (content_in t) →
      unless_refused a (judged_names (loaded t) (slack_count t)) [] ≡ unless_refused a (counted_of (content_in t)) []
  names-case (Ok tt) e = names_in (sym e)
  names-case (Err r) e = refl

  -- past 1 and 2 the judging of the loaded plan is the table's judgement
  pub judged-from : counts_test t ≡ Accepted → (r : Judgement) → Judges (loaded t) (slack_count t) r → r ≡ judged t
  unfolding judged counted_in said
  judged-from e r g =
      let a = g.answer ∙ answer_in ∙ sym (past_two e) in
      let p = g.plan ∙ ap (λ (b : Answer). unless_refused b (with_slack (loaded t) (tab (had_slack said) 16)) zero_plan) a ∙ judged-case (verdict t) (past_two e) in
      let l = ap (λ (b : Answer). unless_refused b (judged_names (loaded t) (slack_count t)) []) a ∙ names-case (verdict t) (past_two e) in
      let n = g.count ∙ ap length l in
      let c = g.counted ∙ ap (λ (l : List ℕ). tab (row l) 8) l in
      λ i. record { answer = a i; plan = p i; count = n i; counted = c i }

-- a table that meets 1 or 2
pub counts-refused : (t : List ℕ) (j i : ℕ) → counts_test t ≡ Refused j i → refused_with (Refused j i) ≡ judged t
unfolding refused_with judged counted_in verdict counts_test
counts-refused t j i e = rw first-refused
  where
    first-refused : verdict t ≡ Refused j i
    first-refused = first_met-append (test1 t ∷ test2 t ∷ []) (tests (content_in t) ∷ []) ∙ rw e
