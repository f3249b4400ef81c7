-- `engine_store::put::put_tasks` meets its contract; the loop's invariant says what its turns so far have made.
use mathlib.Core.Path.{◌≡◌}
use lib.Seq.{sets}
use Rattle.tasks.specs.Content.{task_of}
use Rattle.numbers.specs.Bytes.{entries}
use Rattle.engine_words.specs.Words.{task_words}
use Rattle.engine_store.proofs.put.put_tasks.Given as goal

abbrev pub invariant-loop-i : goal.invariant-loop-i
invariant-loop-i l = l.words ≡ sets l.initial.words 12 (entries (λ j. task_words (task_of l.task j)) l.i)
