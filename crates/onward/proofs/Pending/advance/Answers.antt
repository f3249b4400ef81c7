-- `onward::Pending::advance` meets its contract; the loop's invariant says where the leaps so far have led, its measure that they
-- are at most one more than the jobs that finish.
use Rattle.running.specs.ReadyLaws.{advanced-ready, advanced-more}
use native.Mathlib.Omega.{arith}
use borrow.Author.Rules.{rules}
use Rattle.onward.proofs.Pending.advance.Goals as goal

pub leap-requires : goal.leap-requires
leap-requires c =
    let l = c.loop-self in
    (omega arith, advanced-ready l.invariant.0 l.invariant.3 c.requires.1)

pub loop-self-preserved : goal.loop-self-preserved
loop-self-preserved c =
    let l = c.loop-self in
    let g = c.leap.ensures in
    (omega (arith, g.onward), g.within, search rules, advanced-more l.invariant.0 l.invariant.3 g)

-- a leap that stops before `to` finishes a job
pub loop-self-smaller : goal.loop-self-smaller
loop-self-smaller c = let l = c.leap.ensures in omega (arith, l.fewer, l.onward, l.within)
