-- `wish_search::leap::far` meets its contract.
use native.Mathlib.Omega.{arith}
use native.Mathlib.Nat.{le_trans}
use Rattle.tasks.specs.TaskSet.{row}
use Rattle.slack.specs.StageLaws.{few, surplus-high}
use Rattle.wish_search.specs.SheetLaws.{cores-low, cores-high, tasks-high, more, shares_high, separation-high, multiple-high, offset-low, at-arrays}
use Rattle.wish_gains.specs.GainLaws.{gains-high}
use Rattle.wish_search.specs.FarLaws.{whole-high, slope_high, far_under}
use borrow.Author.Rules.{rules}
use Rattle.wish_search.proofs.search.Sheet.far.Goals as goal

-- the calls' answers, as the laws of a leap take them
pub count_gains-requires : goal.count_gains-requires
unfolding row
count_gains-requires c =
    let g = c.requires.0.2.of in
    let w = c.amount-whole.ensures.again in
    (omega (arith, more g), tasks-high g, w.tasks, w.long, search rules)

pub total-slope-requires : goal.total-slope-requires
total-slope-requires c =
    let s = c in
    let g = s.requires.0.2.of in
    let w = c.amount-whole.ensures in
    let gs = c.count_gains.ensures _ _ c.cut_gains-gain.ensures in
    (tasks-high g, λ i l. le_trans (gains-high _ _ _ _ _ _ _ gs i l) (shares_high g i l))

pub reach-requires : goal.reach-requires
reach-requires c =
    let s = c in
    let g = s.requires.0.2.of in
    let w = c.amount-whole.ensures in
    let gs = c.count_gains.ensures _ _ c.cut_gains-gain.ensures in
    let eo = c.offsets-offset.ensures in
    let es = c.surplus_of.ensures in
    let ex = c.raise-raised.ensures.0 in (
      whole-high g _ _ _ s.requires.0.2.quotients s.requires.0.2.remainders _ _ ex eo es w s.requires.2,
      rw c.total-slope.ensures (slope_high g _ _ _ s.requires.0.2.quotients s.requires.0.2.remainders _ _ ex eo es w _ gs),
      multiple-high g,
      cores-high g,
      s.requires.2,
    )

pub returns : goal.returns
returns c =
    let s = c in
    let w = c.amount-whole.ensures in
    let gs = c.count_gains.ensures _ _ c.cut_gains-gain.ensures in
    let eo = c.offsets-offset.ensures in
    let es = c.surplus_of.ensures in
    let ex = c.raise-raised.ensures.0 in
    let t = c.reach.ensures in (
      λ u b k.
          far_under k.of _ _ _ k.quotients k.remainders _ _ ex eo es w _ gs _ (λ j e. t.1 j (rw c.total-slope.ensures e)),
      w.again,
      t.0,
    )

pub overflow_sub-many : goal.overflow_sub-many
overflow_sub-many c = omega (arith, cores-low c.requires.0.2.of)

pub nonzero_div-start : goal.nonzero_div-start
nonzero_div-start c = omega (arith, cores-low c.requires.0.2.of)

pub nonzero_rem-start : goal.nonzero_rem-start
nonzero_rem-start c = omega (arith, cores-low c.requires.0.2.of)

pub surplus_of-requires : goal.surplus_of-requires
surplus_of-requires c =
    let g = c.requires.0.2.of in
    (tasks-high g, λ i l. (shares_high g i l, separation-high g i l, offset-low g _ _ c.offsets-offset.ensures i l))

pub amount-whole-requires : goal.amount-whole-requires
amount-whole-requires c =
    let a = at-arrays c.requires.0.2.of _ _ c.offsets-offset.ensures _ c.surplus_of.ensures in
    (few a, surplus-high a, c.requires.1, omega (arith, more c.requires.0.2.of))
