-- `test_tables::draft::Draft::push4` meets its contract; the loop's invariant is the contract's clause for its turns so far.
use Rattle.test_tables.specs.Drafts.{Within}
use Rattle.test_tables.proofs.draft.Draft.push4.Given as goal

abbrev pub invariant-loop-part : goal.invariant-loop-part
invariant-loop-part l = Within l.initial.self → Within l.self
