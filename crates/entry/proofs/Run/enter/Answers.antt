-- `entry::Run::enter` meets its contract.
use Rattle.running.specs.EnterCode.{enter_ready, enter_back, enter_handing}
use Rattle.logs.specs.LogBytes.{entries_in}
use Rattle.entry.proofs.Run.enter.Goals as goal

pub returns-then-release-self : goal.returns-then-release-self
returns-then-release-self c =
    λ p out₀ X.
    enter_back X c.release_at-release.ensures c.if-release-self.true (rw c.number.ensures at c.put_refused.ensures)

pub advance-requires : goal.advance-requires
advance-requires c = (c.if-release-self.false, enter_ready c.requires.1.1 c.release_at-release.ensures)

pub hand-requires : goal.hand-requires
hand-requires c =
    let P = c.requires in (
      P.0,
      (
        entries_in c.args.on.now.log.now,
        (
          P.1.0,
          enter_handing P.1.1 c.release_at-release.ensures c.if-release-self.false c.advance.ensures.1,
        ),
      ),
    )

pub returns-else-release-self : goal.returns-else-release-self
returns-else-release-self c =
    let t = c.hand.ensures in
    λ p out₀ X.
    rw (t.0, c.advance.ensures.0)
    (t.1 p (entries_in c.args.on.now.log.now) out₀
    (enter_handing X c.release_at-release.ensures c.if-release-self.false c.advance.ensures.1))
