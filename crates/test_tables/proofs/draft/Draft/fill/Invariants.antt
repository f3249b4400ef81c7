-- `test_tables::draft::Draft::fill` meets its contract; the loop's invariant is the contract's clause for its turns so far.
use Rattle.test_tables.specs.Drafts.{Within}
use Rattle.test_tables.proofs.draft.Draft.fill.Given as goal

abbrev pub invariant-loop : goal.invariant-loop
invariant-loop l = Within l.initial.self → Within l.self
