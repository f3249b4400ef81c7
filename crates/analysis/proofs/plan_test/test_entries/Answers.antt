use Prim.Native.Nat.{ℕ, ◌≤◌}
use mathlib.Core.Path.{◌≡◌, sym, ◌∙◌, ap}
use mathlib.Core.Bool.{cond, not}
use mathlib.Core.List.{[], ◌∷◌}
use lib.Dec.{eqb}
use Rattle.laws.specs.Tab.{tab}
use Rattle.laws.specs.TabLaws.{cut_below}
use Rattle.tasks.specs.declared.Plan.{Plan}
use Rattle.std.specs.Prelude.{Ok, Err}
use Rattle.tasks.specs.declared.refusal.Refusal.{Refusal}
use Rattle.tasks.specs.Answer.{Answer, Accepted}
use Rattle.tasks.specs.TaskSet.{row}
use Rattle.tasks.specs.Content.{Content, content_of}
use Rattle.tasks.specs.Tests.{or_next, first_met, test11, tests}
use Rattle.tasks.specs.AnswerLaws.{lowest_ext}
use Rattle.tasks.specs.Terms.{limit_tests}
use Rattle.analysis.specs.declared.slack_test.Tested.{Tested}
use Rattle.analysis.specs.SlackTest.{PlanTested, offered_test, had_slack}
use Rattle.analysis.specs.PlanTest.{bounds_of, found_tests}
use Rattle.analysis.specs.PlanTestLaws.{offering-plan, test_refused, few-tasks, test_found, test_offered}
use Prim.Native.Nat.{ℕ, ◌≤◌}
use mathlib.Core.Path.{◌≡◌, ap, sym, ◌∙◌}
use borrow.Author.Rules.{rules}
use Rattle.analysis.proofs.plan_test.test_entries.Goals as goal

module _ (p : Plan) (k : ℕ) (ek : k ≡ cond p.offered p.tasks 0) where
  refused : (r : Refusal) (a : Answer) → PlanTested p k (Err r) → a ≡ Err r → a ≡ tests (content_of p)
  refused r a g u =
      rw u
      (sym (test_refused (content_of p) r.number r.index
      (sym (g.answer ∙ ap (λ (c : Content). or_next (limit_tests c) (first_met (test11 c ∷ offered_test c ∷ []))) (offering-plan p k ek)))))

  module _ (t : Tested) (g : PlanTested p k (Ok t)) where
    answered : Accepted ≡ or_next (limit_tests (content_of p)) (first_met (test11 (content_of p) ∷ offered_test (content_of p) ∷ []))
    answered =
        g.answer ∙ ap (λ (c : Content). or_next (limit_tests c) (first_met (test11 c ∷ offered_test c ∷ []))) (offering-plan p k ek)

    had : t.slack ≡ tab (had_slack (content_of p)) 16
    had = g.had.places ∙ ap (λ (c : Content). tab (had_slack c) 16) (offering-plan p k ek)

    few : p.tasks ≤ 16
    unfolding content_of
    few = few-tasks (content_of p) (sym answered)

    found : (r : Answer) → k ≡ 0 → r ≡ found_tests p t.slack → r ≡ tests (content_of p)
    unfolding found_tests bounds_of content_of
    found r z q =
        q
        ∙ ap (λ (a : Answer). or_next a (bounds_of p t.slack))
        (lowest_ext 12 _ _ p.tasks (λ i h. ap (λ (v : ℕ). not (eqb v (row t.slack i))) (sym (cut_below p.tasks (row p.slack) 0 i h))))
        ∙ sym (test_found (content_of p) (sym answered) t.slack had (sym ek ∙ z))

    offered : (r : Answer) → (k ≡ 0 → ⊥) → r ≡ bounds_of p t.slack → r ≡ tests (content_of p)
    unfolding bounds_of content_of
    offered r z q = q ∙ sym (test_offered (content_of p) (sym answered) t.slack had (λ w. z (ek ∙ w)))

pub returns-in_err-had : goal.returns-in_err-had
returns-in_err-had c =
    refused c.args.plan _ c.slack_count-offers.ensures.0 _ c.from_residual.result (rw c.in_err-had.was at c.test_slack.ensures) (search rules)

pub found_test-requires : goal.found_test-requires
found_test-requires c = few c.args.plan _ c.slack_count-offers.ensures.0 _ (rw c.in_ok-had.was at c.test_slack.ensures)

pub returns-then-offers-eq0 : goal.returns-then-offers-eq0
returns-then-offers-eq0 c =
    found c.args.plan _ c.slack_count-offers.ensures.0 _ (rw c.in_ok-had.was at c.test_slack.ensures) _ c.if-offers-eq0.true c.found_test.ensures

pub plan_bounds-requires : goal.plan_bounds-requires
plan_bounds-requires c = few c.args.plan _ c.slack_count-offers.ensures.0 _ (rw c.in_ok-had.was at c.test_slack.ensures)

pub returns : goal.returns
returns c =
    offered c.args.plan _ c.slack_count-offers.ensures.0 _ (rw c.in_ok-had.was at c.test_slack.ensures) _ c.if-offers-eq0.false c.plan_bounds.ensures
