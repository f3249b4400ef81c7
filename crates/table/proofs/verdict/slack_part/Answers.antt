-- `table::verdict::slack_part` meets its contract: the bytes of an accepted table from the slack section's entries on.
use native.Mathlib.Omega.{arith}
use Rattle.table.specs.PartLaws.{part_none, no_part, part_lies, part-within, part-rest}
use Rattle.table.proofs.verdict.slack_part.Goals as goal

pub slack_from-at-requires : goal.slack_from-at-requires
slack_from-at-requires c =
    omega (arith, part-within _ _ c.judge-judgement.ensures c.in-Ok.is)

pub overflow_add-at : goal.overflow_add-at
overflow_add-at c =
    omega (arith, part-within _ _ c.judge-judgement.ensures c.in-Ok.is, c.slack_from-at.ensures)

pub slice_bounds-result-count : goal.slice_bounds-result-count
slice_bounds-result-count c =
    omega (arith, part-within _ _ c.judge-judgement.ensures c.in-Ok.is, c.slack_from-at.ensures)

pub returns-in_default-clause-result_value : goal.returns-in_default-clause-result_value
returns-in_default-clause-result_value c = part_none _ _ c.judge-judgement.ensures _ _ c.in_default.is

pub returns-in_default-clause-own_bytes : goal.returns-in_default-clause-own_bytes
returns-in_default-clause-own_bytes c = λ a z. no_part _ _ c.judge-judgement.ensures _ _ c.in_default.is a

pub slice_bounds-result-start : goal.slice_bounds-result-start
slice_bounds-result-start c = omega (arith, part-within _ _ c.judge-judgement.ensures c.in-Ok.is, c.slack_from-at.ensures)

pub returns-clause-result_value : goal.returns-clause-result_value
returns-clause-result_value c = rw c.slack_from-at.ensures (part-rest _ _ c.judge-judgement.ensures c.in-Ok.is)

pub returns-clause-own_bytes : goal.returns-clause-own_bytes
returns-clause-own_bytes c = λ a z. rw c.slack_from-at.ensures (part_lies _ _ c.judge-judgement.ensures c.in-Ok.is _ _)
