-- `engine_store::put::put_flags` meets its contract; the loop's invariant says what its turns so far have made.
use mathlib.Core.Path.{refl}
use Rattle.tasks.specs.TaskSet.{row}
use mathlib.Core.Bool.{false}
use lib.ListN.{get_or}
use Rattle.engine_words.specs.Words.{word_of_flag}
use Rattle.engine_words.proofs.PartLaws.{stored-none, stored_next}
use Rattle.engine_store.proofs.FlagLaws.{flag-from}
use Rattle.engine_store.proofs.put.put_flags.Goals as goal

pub loop-i-init : goal.loop-i-init
loop-i-init c = stored-none _ _ _

pub loop-i-preserved : goal.loop-i-preserved
unfolding row
loop-i-preserved c =
    let l = c.loop-i in
    let a = c.args in
    rw (c.from.ensures, flag-from _, l.invariant) (stored_next (λ j. word_of_flag (get_or a.flags.now j false)) _ 109 _ l.i refl)
