-- `table::verdict::judge` meets its contract.
use mathlib.Core.Path.{◌∙◌}
use Rattle.reader.specs.CountedLaws.{counted-accepted, counted-refused}
use Rattle.table.specs.JudgeLaws.{counts-refused, judged-from}
use Rattle.table.proofs.verdict.judge.Goals as goal

pub returns-in-Err : goal.returns-in-Err
returns-in-Err c =
    let r = c.in-Err.refusal in
    c.refused.ensures ∙ counts-refused _ r.number r.index (counted-refused _ _ c.read_counts.ensures r c.in-Err.is)

pub load-requires : goal.load-requires
load-requires c = counted-accepted _ _ c.read_counts.ensures _ c.in-Ok.is

pub returns-in-Ok : goal.returns-in-Ok
returns-in-Ok c =
    let p = counted-accepted _ _ c.read_counts.ensures _ c.in-Ok.is in
    judged-from _ p.passed _ (rw (c.load.ensures, p.offers) at c.judge_plan.ensures)
