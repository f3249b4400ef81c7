-- `table::verdict::judge_plan` meets its contract.
use Prim.Native.Nat.{ℕ, ◌-◌, ◌≤◌}
use mathlib.Core.Path.{◌≡◌, refl, sym, ◌∙◌, ap}
use mathlib.Core.Bool.{Bool, true, false, cond}
use mathlib.Core.List.{List, []}
use native.Mathlib.Omega.{arith}
use lib.ListN.{length, get_or, take}
use borrow.Author.Tests.{leb-false}
use Rattle.laws.specs.Tab.{tab, cut}
use Rattle.laws.specs.TabLaws.{tab_ext, get_or-first}
use Rattle.tasks.specs.TaskSet.{counted, core_for_each, row}
use Rattle.tasks.specs.Limits.{Limits}
use Rattle.tasks.proofs.AmountLaws.{counted-length}
use Rattle.tasks.specs.declared.Plan.{Plan}
use Rattle.std.specs.Prelude.{Ok, Err}
use Rattle.tasks.specs.declared.refusal.Refusal.{Refusal}
use Rattle.tasks.specs.Answer.{Answer, Accepted}
use Rattle.tasks.specs.Content.{content_of}
use Rattle.analysis.specs.declared.slack_test.Tested.{Tested}
use Rattle.analysis.specs.SlackTest.{PlanTested, offering, had_slack}
use Rattle.analysis.specs.SlackTestLaws.{stopped, passed_on}
use Rattle.analysis.specs.PlanTest.{bounds_of}
use Rattle.analysis.specs.PlanTestLaws.{tested-limits}
use Rattle.table.specs.declared.Judgement.{Judgement}
use Rattle.table.specs.Judged.{refused_with}
use Rattle.tasks.specs.Terms.{with_slack}
use Rattle.table.specs.JudgeLaws.{Judges, judged_answer, judged_names}
use borrow.Author.Rules.{rules}
use Rattle.table.proofs.verdict.judge_plan.Goals as goal

module _ (p : Plan) (k : ℕ) where
  -- a refusal hands back a plan of zeros
  refused : (r : Refusal) → Err r ≡ judged_answer p k → (o : Judgement) → o ≡ refused_with (Err r) → Judges p k o
  unfolding refused_with
  refused r v o q = rw q (record { answer = v; plan = refl; count = refl; counted = refl })

  untested : (r : Refusal) → PlanTested p k (Err r) → (o : Judgement) → o ≡ refused_with (Err r) → Judges p k o
  unfolding judged_answer
  untested r g o q = refused r (g.answer ∙ sym (stopped _ _ r.number r.index (sym g.answer))) o q

  module _ (t : Tested) (g : PlanTested p k (Ok t)) where
    limits : Limits (offering p k).tasks
    limits = tested-limits (offering p k) (sym g.answer)

    pub few : (2 ≤ p.cores) × (p.cores ≤ 8) × (p.tasks ≤ 16)
    unfolding offering content_of
    few = (limits.cores-low, limits.cores-high, limits.tasks-high)

    bounded : (b : Answer) → b ≡ bounds_of p t.slack → b ≡ judged_answer p k
    unfolding judged_answer
    bounded b q = q ∙ rw g.had.places (sym (passed_on _ _ (sym g.answer)))

    each : Bool
    each = core_for_each p.cores p.tasks

    names_are : take (cond (core_for_each p.cores p.tasks) 0 (p.cores - 1)) t.names ≡ judged_names p k
    unfolding judged_names offering content_of each
    names_are = go each refl
      where
        go :
            (b : Bool) → each ≡ b
            → take (cond b 0 (p.cores - 1)) t.names ≡ cond b [] (counted (offering p k).tasks (had_slack (offering p k)))
        go true q = refl
        go false q = g.had.counts q

    count-is : cond (core_for_each p.cores p.tasks) 0 (p.cores - 1) ≡ length (judged_names p k)
    unfolding judged_names offering content_of each
    count-is = go each refl
      where
        go :
            (b : Bool) → each ≡ b
            → cond b 0 (p.cores - 1) ≡ length (cond b [] (counted (offering p k).tasks (had_slack (offering p k))))
        go true q = refl
        go false q = sym (counted-length (offering p k).tasks (had_slack (offering p k)) (leb-false p.tasks p.cores q))

    accepted :
        (b : Answer) → b ≡ bounds_of p t.slack → b ≡ Accepted → (n : ℕ) → n ≡ cond (core_for_each p.cores p.tasks) 0 (p.cores - 1)
        → (l : List ℕ) → l ≡ tab (cut n (row t.names) 0) 8
        → Judges p k (record { answer = Accepted; plan = with_slack p t.slack; count = n; counted = l })
    unfolding row
    accepted b q v n en l el =
        let named : take n t.names ≡ judged_names p k = rw en names_are in
        record {
          answer = sym v ∙ bounded b q;
          plan = ap (with_slack p) g.had.places;
          count = en ∙ count-is;
          counted = el ∙ tab_ext _ _ 8 (λ i h. sym (get_or-first n t.names i 0) ∙ ap (λ (l : List ℕ). get_or l i 0) named);
        }

    pub named-few : (n : ℕ) → n ≡ cond (core_for_each p.cores p.tasks) 0 (p.cores - 1) → n ≤ 8
    unfolding each
    named-few n en = go each en
      where
        go : (b : Bool) → n ≡ cond b 0 (p.cores - 1) → n ≤ 8
        go true q = omega arith
        go false q = omega (arith, few.1)

pub returns-in-Err : goal.returns-in-Err
returns-in-Err c =
    untested c.args.plan c.args.offers _ (rw c.in-Err.is at c.test_slack.ensures) _ c.refused.ensures

pub plan_bounds-requires : goal.plan_bounds-requires
plan_bounds-requires c = (few c.args.plan c.args.offers _ (rw c.in-Ok.is at c.test_slack.ensures)).2

pub returns-in-Err-plan_bounds : goal.returns-in-Err-plan_bounds
returns-in-Err-plan_bounds c =
    refused c.args.plan c.args.offers _
    (bounded c.args.plan c.args.offers _ (rw c.in-Ok.is at c.test_slack.ensures) _ (sym c.in-Err-plan_bounds.is ∙ c.plan_bounds.ensures))
    _ c.refused-in-Err-plan_bounds.ensures

pub named-count-requires : goal.named-count-requires
named-count-requires c = omega (arith, few c.args.plan c.args.offers _ (rw c.in-Ok.is at c.test_slack.ensures))

pub tidy_bytes-counted-requires : goal.tidy_bytes-counted-requires
tidy_bytes-counted-requires c =
    let long : length c.in-Ok.tested.names ≡ 16 = search rules in
    omega (arith, named-few c.args.plan c.args.offers _ (rw c.in-Ok.is at c.test_slack.ensures) _ c.named-count.ensures)

pub returns : goal.returns
unfolding with_slack
returns c =
    accepted c.args.plan c.args.offers _ (rw c.in-Ok.is at c.test_slack.ensures) _
    c.plan_bounds.ensures c.in_default.is _ c.named-count.ensures _ c.tidy_bytes-counted.ensures
