-- `wish_search::search::next` meets its contract.
use Rattle.wish_search.specs.TurnLaws.{onward_round, onward_leap}
use Rattle.wish_search.proofs.search.Sheet.next.Goals as goal

pub returns-then-rounds-gt0 : goal.returns-then-rounds-gt0
returns-then-rounds-gt0 c =
    let d = c.needed_at-least.ensures in
    ((λ s b g. onward_round g.of _ (d.0 s b g.of)), d.1, (d.0 _ _ c.requires.0.2.of).limit)

pub leap-requires : goal.leap-requires
leap-requires c =
    let p = c.requires in
    let d = c.needed_at-least.ensures in
    (p.0, d.1, (d.0 _ _ p.0.2.of).limit)

pub returns : goal.returns
returns c =
    let d = c.needed_at-least.ensures in
    let e = c.leap.ensures in
    ((λ s b g. onward_leap g.of _ (d.0 s b g.of) _ e.2 (e.0 s b g)), e.1, e.3)
