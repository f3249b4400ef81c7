-- Each name's entry is its share, or 0.
use Rattle.std.specs.Prelude.{ℕ, ◌≤◌, ◌<◌, List, length, get_or, take}
use Rattle.std.proofs.Common.{arith, ◌∙◌, length-set}
use Rattle.laws.proofs.TakenLaws.{taken}
use Rattle.tasks.specs.TaskSet.{row}
use Rattle.wish_gains.specs.GainLaws.{gains-named, gains-counted, gains-set, named-at}
use Rattle.wish_gains.proofs.count_gains.Goals as goal

-- a name that the loop is at
named :
    (names : List ℕ) (many tasks a : ℕ) → many ≤ tasks → ((a : ℕ) → a < tasks → row names a < tasks) → a < length (take many names)
    → get_or (take many names) a 0 < tasks
unfolding row
named names many tasks a few low h = let t = taken names many a h in rw t.1 (low a (omega (arith, t.0)))

pub loop-name-init : goal.loop-name-init
loop-name-init c =
    let a = c.args in
    (c.requires.4, λ s r g. gains-named a.share.now s r a.slack.now (take a.many a.names.now) a.tasks a.gain.now g)

pub loop-name-preserved : goal.loop-name-preserved
unfolding row
loop-name-preserved c =
    let s = c.args in
    let p = c.requires in
    let l = c.loop-name in
    let n = s.names.now in
    let h = c.loop-name-test.true in
    let i = get_or (take s.many n) l.name-index 0 in
    let t = taken n s.many l.name-index h in
    let m = named-at n s.many l.name-index (omega (arith, p.0, p.3)) t.0 in (
      length-set l.gain i c.counted_gain.result ∙ l.invariant.0,
      λ separation room g.
          gains-set s.share.now separation room s.slack.now (take s.many n) s.tasks l.gain i _
          (omega (arith, l.invariant.0, named n s.many s.tasks l.name-index p.0 p.2 h, p.1)) (l.invariant.1 separation room g)
          (gains-counted s.share.now separation room s.slack.now (take s.many n) i _
          (rw t.1 m) c.counted_gain.ensures),
    )

pub bounds-share-i : goal.bounds-share-i
bounds-share-i c = omega (arith, named c.args.names.now c.args.many c.args.tasks c.loop-name.name-index c.requires.0 c.requires.2 c.loop-name-test.true, c.requires.1)

pub bounds-slack-i : goal.bounds-slack-i
bounds-slack-i c = omega (arith, named c.args.names.now c.args.many c.args.tasks c.loop-name.name-index c.requires.0 c.requires.2 c.loop-name-test.true, c.requires.1)

pub bounds-gain-i : goal.bounds-gain-i
bounds-gain-i c = omega (arith, named c.args.names.now c.args.many c.args.tasks c.loop-name.name-index c.requires.0 c.requires.2 c.loop-name-test.true, c.requires.1)
