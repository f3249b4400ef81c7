-- An accepted table, written, and a plan, written and judged.
--     rewritten         an accepted table's content, written, is that table, byte by byte
--     judged-fits       the plan of an accepted table says what the table says; judged-passes: it meets none of a plan's numbers
--     judged-rewritten  so that plan, written, is the table; judged-tidy: its unused places are zero
--     plan-back         a plan that meets none of its numbers, written, says what it said
--     verdict-back, judged-back    and is accepted, with zeros in its unused places and its counted loops named
use Rattle.std.specs.Prelude.{ℕ, ◌≡◌, false, List, length}
use Rattle.std.proofs.Math.Path.{sym}
use Rattle.std.proofs.Common.{ap, ◌∙◌}
use Rattle.tasks.specs.declared.Plan.{Plan}
use Rattle.tasks.specs.Answer.{Accepted}
use Rattle.tasks.specs.Content.{Content, counted_of, content_of, plan_of, tidy}
use Rattle.tasks.specs.Tests.{bad_edition, tests, test_plan}
use Rattle.tasks.specs.Terms.{Passed}
use Rattle.tasks.proofs.TestsLaws.{tests-passed, plan-passed, plan-accepted}
use Rattle.codec.specs.Table.{edition_in, counted_length, task_set_in, content_in, verdict, bytes_of}
use Rattle.table.specs.Judged.{judged_as, counted_in, judged}
use Rattle.numbers.specs.ByteLaws.{Bytes}
use Rattle.tasks.specs.Terms.{Fits}
use Rattle.tasks.proofs.ContentLaws.{fits-back, plan-fits}
use Rattle.roundtrip.specs.SectionLaws.{Parts, verdict-parts, parts-verdict, table-parts, labels-again, tasks-again, slack-again, table_fits}
use Rattle.sections.specs.WriteLaws.{length-bytes}
use Rattle.roundtrip.specs.BackLaws.{back-edition, back-cores, back-tasks, back-offers, read_back}

module _ (t : List ℕ) (a : verdict t ≡ Accepted) where
  parts : Parts t
  parts = verdict-parts t a

  pub rewritten : Bytes t → bytes_of (content_in t) ≡ t
  unfolding bytes_of content_in task_set_in
  rewritten b =
      let q : Passed (content_in t) = tests-passed (content_in t) parts.content in
      rw (labels-again t b parts.long, tasks-again t b parts.long, slack-again t b parts.long q.offers)
      (sym (table-parts t parts.long))

  pub judged-fits : content_of (judged t).plan ≡ content_in t
  unfolding judged
  judged-fits = rw a (fits-back (content_in t) (table_fits t parts.content))

  pub judged-passes : test_plan (judged t).plan ≡ Accepted
  unfolding content_of content_in
  judged-passes =
      plan-accepted (judged t).plan
      (ap (λ (c : Content). bad_edition c.edition) judged-fits ∙ parts.edition)
      (ap tests judged-fits ∙ parts.content)

  pub judged-rewritten : Bytes t → bytes_of (content_of (judged t).plan) ≡ t
  judged-rewritten b = ap bytes_of judged-fits ∙ rewritten b

  pub judged-tidy : tidy (judged t).plan ≡ (judged t).plan
  unfolding tidy judged
  judged-tidy = rw a (ap plan_of (fits-back (content_in t) (table_fits t parts.content)))

module _ (p : Plan) (a : test_plan p ≡ Accepted) where
  pub passed : Passed (content_of p)
  passed = tests-passed (content_of p) (plan-passed p a).1

  pub plan-again-fits : Fits (content_of p)
  unfolding content_of
  plan-again-fits = plan-fits p passed.limits.cores-high passed.limits.tasks-high

  pub plan-back : content_in (bytes_of (content_of p)) ≡ content_of p
  plan-back = read_back (content_of p) plan-again-fits passed

  back-known : bad_edition (edition_in (bytes_of (content_of p))) ≡ false
  unfolding content_of
  back-known = rw (back-edition (content_of p)) (plan-passed p a).0

  back_long : length (bytes_of (content_of p)) ≡ counted_length (bytes_of (content_of p))
  back_long = rw (back-edition (content_of p), back-cores (content_of p), back-tasks (content_of p), back-offers (content_of p)) (length-bytes (content_of p))

  pub verdict-back : verdict (bytes_of (content_of p)) ≡ Accepted
  verdict-back =
      parts-verdict
      (bytes_of (content_of p))
      (record { edition = back-known; long = back_long; content = ap tests plan-back ∙ (plan-passed p a).1 })

  pub judged-back : judged (bytes_of (content_of p)) ≡ judged_as Accepted (tidy p) (counted_of (content_of p))
  unfolding judged counted_in tidy
  judged-back = rw (verdict-back, plan-back)
