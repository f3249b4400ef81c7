-- `service::turn` meets its contract.
use Rattle.service.specs.CodeLaws.{turn_none, turn_left, turn_less, turn_last}
use Rattle.tasks.specs.TaskSet.{row}
use Rattle.service.proofs.turn.Goals as goal

pub returns-then-state-i-eq0-clause-turned : goal.returns-then-state-i-eq0-clause-turned
unfolding row
returns-then-state-i-eq0-clause-turned c =
    let a = c.args in
    let s = a.state.now in
    turn_none a.finish a.i a.key s.jobs s.remaining s.release a.responses.now c.if-state-i-eq0.true

pub returns-then-key-ne-NO_KEY-clause-turned : goal.returns-then-key-ne-NO_KEY-clause-turned
unfolding row
returns-then-key-ne-NO_KEY-clause-turned c =
    let a = c.args in
    let s = a.state.now in
    turn_left a.finish a.i a.key s.jobs s.remaining s.release a.responses.now c.if-key-ne-NO_KEY.true

pub returns-then-work-gt1-clause-turned : goal.returns-then-work-gt1-clause-turned
unfolding row
returns-then-work-gt1-clause-turned c =
    let a = c.args in
    let s = a.state.now in
    turn_less a.finish a.i a.key s.jobs s.remaining s.release a.responses.now c.if-state-i-eq0.false c.if-key-ne-NO_KEY.false c.if-work-gt1.true

pub returns-clause-turned : goal.returns-clause-turned
unfolding row
returns-clause-turned c =
    let a = c.args in
    let s = a.state.now in
    rw (c.move_down.ensures, c.move_down-2.ensures, c.saturating_sub.ensures)
    (turn_last a.finish a.i a.key s.jobs s.remaining s.release a.responses.now c.if-state-i-eq0.false c.if-key-ne-NO_KEY.false c.if-work-gt1.false)
