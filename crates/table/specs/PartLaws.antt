-- The slack part of a judged table.
--     part-place    where the slack section's entries begin, from the plan of an accepted judgement
--     part-rest     the part from there on, part_none of a refused table
--     part_lies     where it lies; no_part: a refused table is not an accepted one
use Rattle.std.specs.Prelude.{ℕ, ◌+◌, ◌-◌, ◌≤◌, ◌≡◌, List, [], length, take, drop}
use Rattle.std.proofs.Common.{sym, ◌∙◌, arith, le_of_eq, length-drop, take_all}
use Rattle.std.proofs.Math.Path.{ap}
use Rattle.tasks.specs.Answer.{Accepted, Refused}
use Rattle.tasks.specs.Content.{plan_of}
use Rattle.tasks.specs.AnswerLaws.{first_met-passed}
use Rattle.table.specs.declared.Judgement.{Judgement}
use Rattle.codec.specs.Table.{slack_from, counted_length, slack_at, task_set_in, content_in, test1, test2, verdict}
use Rattle.table.specs.Judged.{judged, slack_part, slack_place}
use Rattle.reader.specs.CountedLaws.{right-length}

module _ (t : List ℕ) (j : Judgement) (e : j ≡ judged t) where
  verdict_is : j.answer ≡ verdict t
  unfolding judged
  verdict_is = ap (λ (r : Judgement). r.answer) e

  pub part_none : (k i : ℕ) → j.answer ≡ Refused k i → [] ≡ slack_part t
  unfolding slack_part
  part_none k i a = rw (sym verdict_is ∙ a)

  pub no_part : {A : Type 0} (k i : ℕ) → j.answer ≡ Refused k i → verdict t ≡ Accepted → A
  no_part k i a v = let z : ◌≡◌ {A = ℕ} 0 1 = cc verdict_is in absurd (omega arith)

  module _ (a : j.answer ≡ Accepted) where
    accepted : verdict t ≡ Accepted
    accepted = sym verdict_is ∙ a

    long : length t ≡ counted_length t
    unfolding verdict
    long = right-length t (first_met-passed (test2 t) _ (first_met-passed (test1 t) _ accepted).1).0

    pub part-place : slack_from j.plan.edition j.plan.cores j.plan.tasks + 1 ≡ slack_at t
    unfolding judged plan_of content_in task_set_in slack_at
    part-place = rw (e, accepted) (omega arith)

    pub part_lies : (b o : ℕ) → ◌≡◌ {A = ℕ × ℕ} (b, slack_from j.plan.edition j.plan.cores j.plan.tasks + 1 + o) (slack_place t (b, o))
    unfolding slack_place
    part_lies b o = ap (λ (n : ℕ). (b, n)) (omega (arith, part-place))

    pub part-within : slack_from j.plan.edition j.plan.cores j.plan.tasks + 1 ≤ length t
    unfolding slack_at
    part-within = omega (arith, part-place, long)

    pub part-rest :
        take (length t - (slack_from j.plan.edition j.plan.cores j.plan.tasks + 1)) (drop (slack_from j.plan.edition j.plan.cores j.plan.tasks + 1) t) ≡ slack_part t
    unfolding slack_part
    part-rest =
        rw (part-place, accepted) (take_all (length t - slack_at t) (drop (slack_at t) t) (le_of_eq (length-drop (slack_at t) t)))
