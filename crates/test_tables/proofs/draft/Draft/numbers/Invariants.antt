-- `test_tables::draft::Draft::numbers` ends: the bytes of the line that are left are the measure. The loop's invariant is the contract's clause for
-- its turns so far.
use lib.ListN.{length}
use Rattle.test_tables.specs.Drafts.{Within}
use Rattle.test_tables.proofs.draft.Draft.numbers.Given as goal

abbrev pub invariant-loop-value : goal.invariant-loop-value
invariant-loop-value l = Within l.initial.self → Within l.self

abbrev pub decreases-loop-value : goal.decreases-loop-value
decreases-loop-value l = length l.words.left.now
