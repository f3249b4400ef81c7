-- Offered slack is tested with the amount at it, and the tasks that this counts are named.
use Rattle.slack.specs.StageLaws.{offered-refused, offered-passed, offered-had}
use Rattle.slack.specs.StageLaws.{more, tasks-high, few, surplus-high, amount-row}
use native.Mathlib.Omega.{arith}
use mathlib.Core.Path.{sym, ◌∙◌}
use Rattle.analysis.proofs.slack_test.offered.Goals as goal

pub amount-whole-requires : goal.amount-whole-requires
amount-whole-requires c =
    let g = c.requires.1 in
    (few g, surplus-high g, c.first_names-names.ensures _ (tasks-high g), omega (arith, more g))

pub returns-then-bad-load : goal.returns-then-bad-load
returns-then-bad-load c =
    λ s g.
    let used = c.tidy_slack-used in
    let whole = c.amount-whole.ensures.whole ∙ amount-row g used.result in
    let r = offered-refused g _ _ used.ensures _ whole _ c.first_uncovered-bad.ensures c.if-bad-load.true in
    record { answer = rw c.at.ensures (sym r); had = tt }

pub returns : goal.returns
returns c =
    λ s g.
    let used = c.tidy_slack-used in
    let a = c.amount-whole.ensures in
    let whole = a.whole ∙ amount-row g used.result in
    let bad = c.first_uncovered-bad.ensures in
    record {
      answer = sym (offered-passed g _ _ used.ensures _ whole _ bad c.if-bad-load.false);
      had = offered-had g _ _ used.ensures _ whole _ bad _ a.names;
    }
