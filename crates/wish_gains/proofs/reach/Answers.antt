-- `wish_gains::reach` meets its contract: what A lacks, divided by what it lacks less with each step, and rounded up.
use Rattle.std.proofs.Common.{◌-◌, ◌*◌, ◌≤◌, arith, ◌∙◌}
use Rattle.slack.specs.Arrays.{need}
use Rattle.slack.proofs.NeedLaws.{need_ceil}
use Rattle.wish_gains.specs.GainLaws.{reach_never, reach_turns}
use Rattle.wish_gains.proofs.reach.Goals as goal

pub returns-then-left-eq0 : goal.returns-then-left-eq0
returns-then-left-eq0 c =
    let p = c.requires in
    (omega (arith, p.4), λ j e. absurd (reach_never _ _ _ _ _ j e c.if-whole-held.false _ (omega arith) c.if-left-eq0.true))

pub returns : goal.returns
unfolding need
returns c =
    let low : 1 ≤ c.args.cores * c.args.multiple - c.args.slope = omega (arith, c.if-left-eq0.false) in
    let e = c.div_ceil.ensures ∙ need_ceil _ _ low in
    rw e (omega arith, λ j k. reach_turns _ _ _ _ _ j k c.if-whole-held.false _ (omega arith) low)
