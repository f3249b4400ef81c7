-- `engine_store::put::put_numbers` meets its contract; the loop's invariant says what its turns so far have made.
use Rattle.std.proofs.Common.{arith, ap, ◌∙◌, refl}
use Rattle.std.proofs.lemmas.List.Edits.{sets}
use Rattle.tasks.specs.TaskSet.{row}
use Rattle.engine_words.proofs.PartLaws.{stored-none, stored_next, tab-row}
use Rattle.engine_store.proofs.put.put_numbers.Goals as goal

pub loop-i-init : goal.loop-i-init
loop-i-init g c = stored-none _ _ _

pub loop-i-preserved : goal.loop-i-preserved
unfolding row
loop-i-preserved g c =
    let l = c.loop-i in
    let a = c.args in
    rw l.invariant (stored_next (row a.numbers.now) _ a.at _ l.i refl)

pub returns : goal.returns
returns g c =
    let l = c.loop-i in
    let a = c.args in
    l.invariant ∙ ap (sets a.words.now a.at) (tab-row a.numbers.now l.i (omega arith))
