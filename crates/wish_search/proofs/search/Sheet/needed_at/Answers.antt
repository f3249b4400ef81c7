-- The arrays are those of the tasks at the slack.
use Rattle.wish_search.specs.SheetLaws.{tasks-high, shares_high, separation-high, offset-low, at-arrays}
use Rattle.wish_search.proofs.search.Sheet.needed_at.Goals as goal

pub surplus_of-requires : goal.surplus_of-requires
surplus_of-requires c =
    let g = c.requires.0.2 in
    (tasks-high g, λ i l. (shares_high g i l, separation-high g i l, offset-low g _ _ c.offsets-offset.ensures i l))

pub needed-requires : goal.needed-requires
needed-requires c =
    ((_, _, at-arrays c.requires.0.2 _ _ c.offsets-offset.ensures _ c.surplus_of.ensures), c.requires.1, c.requires.2)

pub returns : goal.returns
returns c =
    let d = c.needed.ensures in
    ((λ t b k. d.0 _ _ (at-arrays k _ _ c.offsets-offset.ensures _ c.surplus_of.ensures)), d.1)
