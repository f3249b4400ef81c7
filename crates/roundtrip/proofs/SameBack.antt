-- A plan, written and judged, is the same plan.
use Rattle.std.specs.Prelude.{◌≡◌}
use Rattle.std.proofs.Math.Path.{sym}
use Rattle.std.proofs.Common.{ap, ◌∙◌}
use Rattle.tasks.specs.declared.Plan.{Plan}
use Rattle.tasks.specs.Answer.{Accepted}
use Rattle.tasks.specs.Content.{content_of, plan_of, tidy, Same}
use Rattle.tasks.specs.Tests.{test_plan}
use Rattle.table.specs.declared.Judgement.{Judgement}
use Rattle.codec.specs.Table.{bytes_of}
use Rattle.table.specs.Judged.{judged}
use Rattle.tasks.proofs.ContentLaws.{fits-back, mark_back, same_exactly}
use Rattle.roundtrip.proofs.JudgedBack.{passed, plan-again-fits, judged-back}

module _ (p : Plan) (a : test_plan p ≡ Accepted) where
  -- "two plans are the same if their used entries and that mark agree"
  pub same_back : Same p (judged (bytes_of (content_of p))).plan
  unfolding tidy plan_of content_of
  same_back =
      (same_exactly p (judged (bytes_of (content_of p))).plan).1 (
        sym (ap (λ (j : Judgement). content_of j.plan) (judged-back p a) ∙ fits-back (content_of p) (plan-again-fits p a)),
        sym (ap (λ (j : Judgement). j.plan.offered) (judged-back p a) ∙ mark_back p.offered p.tasks (passed p a).limits.tasks-low),
      )
