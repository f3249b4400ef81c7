-- `engine_store::put::put_flags` meets its contract; the loop's invariant says what its turns so far have made.
use mathlib.Core.Path.{◌≡◌}
use lib.Seq.{sets}
use Rattle.laws.specs.Tab.{tab}
use mathlib.Core.Bool.{false}
use lib.ListN.{get_or}
use Rattle.engine_words.specs.Words.{word_of_flag}
use Rattle.engine_store.proofs.put.put_flags.Given as goal

abbrev pub invariant-loop-i : goal.invariant-loop-i
invariant-loop-i l = l.words ≡ sets l.initial.words 109 (tab (λ j. word_of_flag (get_or l.flags j false)) l.i)
