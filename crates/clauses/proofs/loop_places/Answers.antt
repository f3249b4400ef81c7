-- `clauses::loop_places` meets its contract.
use mathlib.Core.Path.{refl, sym, ◌∙◌}
use Rattle.state.specs.SoundState.{all_of}
use Rattle.tasks.specs.Content.{task_of, no_task}
use Rattle.tasks.specs.TaskSet.{row}
use Rattle.clauses.specs.SoundTests.{all_short}
use Rattle.clauses.proofs.loop_places.Goals as goal

pub returns-then-jobs-eq0 : goal.returns-then-jobs-eq0
unfolding all_of row
returns-then-jobs-eq0 c =
    rw c.if-jobs-eq0.true (c.unused_places.ensures _ _ c.args.state.now.clock refl)

pub used_places-requires : goal.used_places-requires
unfolding row
used_places-requires c = c.requires

pub unused_places-requires-then-used_places : goal.unused_places-requires-then-used_places
unfolding row
unused_places-requires-then-used_places c = c.requires

pub returns-then-used_places : goal.returns-then-used_places
unfolding row task_of no_task
returns-then-used_places c =
    c.unused_places-then-used_places.ensures _ _ _ (sym c.used_places.ensures ∙ c.if-used_places.true)

pub returns-else-used_places : goal.returns-else-used_places
unfolding row task_of no_task
returns-else-used_places c =
    let e = sym c.used_places.ensures ∙ c.if-used_places.false in
    c.if-used_places.false ∙ sym (all_short _ _ 16 c.requires.1 e)
