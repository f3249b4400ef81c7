use mathlib.Core.List.{List}
use lib.Dec.{eqb}
use lib.ListN.{replicate}
use mathlib.Core.Bool.{true, false, not}
use borrow.Author.Tests.{leb-false, eqb-true, ne_eqb, not-false}
use Rattle.tasks.specs.TaskSet.{core_for_each}
use Rattle.tasks.specs.Tests.{refuse, or_next}
use Rattle.tasks.specs.AnswerLaws.{refuse-passed}
use Rattle.slack.specs.declared.rates.Rates.{Rates}
use Rattle.analysis.specs.declared.slack_test.Tested.{Tested}
use Rattle.slack.specs.Rates.{Ranges, Rated, rates_test}
use Rattle.slack.specs.Arrays.{ArraysOf}
use Rattle.slack.specs.StageLaws.{Framed}
use Rattle.analysis.specs.SlackTest.{Offered, Unoffered, RatesTested, slack_test}
use Rattle.std.specs.Prelude.{Result, Ok, Err, IfOk}
use Rattle.tasks.specs.declared.refusal.Refusal.{Refusal}
use Rattle.tasks.specs.Answer.{answer_of}
use Rattle.fields.specs.Columns.{set_from}
use Rattle.slack.specs.StageLaws.{arrays-of}
use Rattle.analysis.specs.SlackTestLaws.{limits-from, passed_on, slack-none, slack-own, had-own, slack-count, slack-offered}
use Prim.Native.Nat.{ℕ}
use mathlib.Core.Path.{◌≡◌, sym, ◌∙◌}
use Rattle.analysis.proofs.slack_test.test_rated.Goals as goal

module _ (m n : ℕ) (separation budget offset slack : List ℕ) (k : ℕ) (f : Framed 1 m n) (g : Ranges (set_from m n separation budget offset))
    (r : Rates) (e : Rated (set_from m n separation budget offset) (Ok r))
  where
    tied : core_for_each m n ≡ false → ArraysOf (set_from m n separation budget offset) r.share budget offset r.multiple r.surplus m n
    tied more =
        arrays-of m n separation budget offset r f.tasks-high (limits-from m n separation budget offset f g (sym e.answer)) (leb-false _ _ more) e.figures

    passed : or_next (rates_test (set_from m n separation budget offset)) (slack_test (set_from m n separation budget offset) slack k) ≡ slack_test (set_from m n separation budget offset) slack k
    passed = passed_on (rates_test (set_from m n separation budget offset)) _ (sym e.answer)

    own-slack :
        (t : Result Tested Refusal) → core_for_each m n ≡ true → (answer_of t ≡ refuse 11 (not (eqb k 0))) × IfOk t (λ t. t.slack ≡ replicate 16 0) →
        RatesTested (set_from m n separation budget offset) slack k t
    unfolding set_from
    own-slack (Ok t) each o =
        record {
          answer = o.0 ∙ sym (passed ∙ slack-own (set_from m n separation budget offset) slack k each);
          had = had-own (set_from m n separation budget offset) slack k _ _ each o.1 (eqb-true k 0 (not-false _ (refuse-passed 11 _ (sym o.0))));
        }
    own-slack (Err q) each o =
        record {
          answer = o.0 ∙ sym (passed ∙ slack-own (set_from m n separation budget offset) slack k each);
          had = tt;
        }

    found-slack :
        (t : Tested) → k ≡ 0 → Unoffered (set_from m n separation budget offset) t →
        RatesTested (set_from m n separation budget offset) slack k (Ok t)
    found-slack t z q =
        record {
          answer = sym (passed ∙ slack-none (set_from m n separation budget offset) slack k z);
          had = rw z q.had;
        }

    wrong-count :
        (q : Refusal) → core_for_each m n ≡ false → (k ≡ 0 → ⊥) → (k ≡ n → ⊥) → q ≡ record { number = 11; index = 0 } →
        RatesTested (set_from m n separation budget offset) slack k (Err q)
    unfolding set_from
    wrong-count q more z w u =
        record {
          answer = rw u (sym (passed ∙ slack-count (set_from m n separation budget offset) slack k more z w));
          had = tt;
        }

    offered-slack :
        (t : Result Tested Refusal) → core_for_each m n ≡ false → (k ≡ 0 → ⊥) → k ≡ n → Offered (set_from m n separation budget offset) slack t →
        RatesTested (set_from m n separation budget offset) slack k t
    unfolding set_from
    offered-slack t more z w o =
        record {
          answer = o.answer ∙ sym (passed ∙ slack-offered (set_from m n separation budget offset) slack k more z w);
          had = rw (ne_eqb k 0 z) o.had;
        }

pub returns-then-core_for_each : goal.returns-then-core_for_each
returns-then-core_for_each c =
    let s = c in
    own-slack s.args.cores _ _ _ _ _ _ s.requires.0 s.requires.1 _ (rw c.in_ok-rates.was at c.rate.ensures) _
    (sym c.core_for_each.ensures ∙ c.if-core_for_each.true) c.own_cores.ensures

pub unoffered-requires : goal.unoffered-requires
unoffered-requires c =
    let s = c in (
      _,
      tied s.args.cores _ _ _ _ s.args.slack.now s.args.offers s.requires.0 s.requires.1 _ (rw c.in_ok-rates.was at c.rate.ensures)
          (sym c.core_for_each.ensures ∙ c.if-core_for_each.false),
    )

pub returns-then-offers-eq0 : goal.returns-then-offers-eq0
returns-then-offers-eq0 c =
    let s = c in
    let rated = rw c.in_ok-rates.was at c.rate.ensures in
    let more = sym c.core_for_each.ensures ∙ c.if-core_for_each.false in
    let t = tied s.args.cores _ _ _ _ s.args.slack.now s.args.offers s.requires.0 s.requires.1 _ rated more in
    found-slack s.args.cores _ _ _ _ _ _ s.requires.0 s.requires.1 _ rated _ c.if-offers-eq0.true (c.unoffered.ensures _ t)

pub returns-then-offers-tasks : goal.returns-then-offers-tasks
returns-then-offers-tasks c =
    let s = c in
    wrong-count s.args.cores _ _ _ _ _ _ s.requires.0 s.requires.1 _ (rw c.in_ok-rates.was at c.rate.ensures) _
    (sym c.core_for_each.ensures ∙ c.if-core_for_each.false) c.if-offers-eq0.false c.if-offers-tasks.true c.at.ensures

pub offered-requires : goal.offered-requires
offered-requires c =
    let s = c in (
      _,
      tied s.args.cores _ _ _ _ s.args.slack.now s.args.offers s.requires.0 s.requires.1 _ (rw c.in_ok-rates.was at c.rate.ensures)
          (sym c.core_for_each.ensures ∙ c.if-core_for_each.false),
    )

pub returns : goal.returns
returns c =
    let s = c in
    let rated = rw c.in_ok-rates.was at c.rate.ensures in
    let more = sym c.core_for_each.ensures ∙ c.if-core_for_each.false in
    let t = tied s.args.cores _ _ _ _ s.args.slack.now s.args.offers s.requires.0 s.requires.1 _ rated more in
    offered-slack s.args.cores _ _ _ _ _ _ s.requires.0 s.requires.1 _ rated _ more c.if-offers-eq0.false c.if-offers-tasks.false (c.offered.ensures _ t)
