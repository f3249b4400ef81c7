-- `soundness::sound` meets its contract.
use Rattle.clauses.specs.SoundTests.{sound-parts, loops-room}
use borrow.Author.Tests.{le-leb, lt-leb}
use mathlib.Core.Path.{sym, ◌∙◌}
use Rattle.soundness.proofs.sound.Goals as goal

pub returns-in_default : goal.returns-in_default
returns-in_default c = rw (sound-parts c.args.state.now, sym c.test.ensures ∙ c.in_default.is)

pub returns-then-not-labels_zero : goal.returns-then-not-labels_zero
returns-then-not-labels_zero c = rw (sound-parts c.args.state.now, sym c.test.ensures ∙ c.in-Ok.is, sym c.labels_zero.ensures ∙ c.if-not-labels_zero.true)

pub returns-then-not-tasks_zero : goal.returns-then-not-tasks_zero
returns-then-not-tasks_zero c = rw (sound-parts c.args.state.now, sym c.test.ensures ∙ c.in-Ok.is, sym c.labels_zero.ensures ∙ c.if-not-labels_zero.false, sym c.tasks_zero.ensures ∙ c.if-not-tasks_zero.true)

pub returns-then-state-gt-CLOCK_END : goal.returns-then-state-gt-CLOCK_END
returns-then-state-gt-CLOCK_END c = rw (sound-parts c.args.state.now, sym c.test.ensures ∙ c.in-Ok.is, sym c.labels_zero.ensures ∙ c.if-not-labels_zero.false, sym c.tasks_zero.ensures ∙ c.if-not-tasks_zero.false, lt-leb _ _ c.if-state-gt-CLOCK_END.true)

pub returns-then-not-loops : goal.returns-then-not-loops
returns-then-not-loops c = rw (sound-parts c.args.state.now, sym c.test.ensures ∙ c.in-Ok.is, sym c.labels_zero.ensures ∙ c.if-not-labels_zero.false, sym c.tasks_zero.ensures ∙ c.if-not-tasks_zero.false, le-leb _ _ c.if-state-gt-CLOCK_END.false, sym c.loops.ensures ∙ c.if-not-loops.true)

pub places-requires : goal.places-requires
places-requires c = loops-room _ _ _ _ _ _ (sym c.loops.ensures ∙ c.if-not-loops.false)

pub returns : goal.returns
returns c = rw (sound-parts c.args.state.now, sym c.test.ensures ∙ c.in-Ok.is, sym c.labels_zero.ensures ∙ c.if-not-labels_zero.false, sym c.tasks_zero.ensures ∙ c.if-not-tasks_zero.false, le-leb _ _ c.if-state-gt-CLOCK_END.false, sym c.loops.ensures ∙ c.if-not-loops.false) c.places.ensures
