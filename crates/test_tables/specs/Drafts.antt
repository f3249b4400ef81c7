-- The length of a draft.
--     Within     the bytes that count are within the draft's bytes
use Rattle.std.specs.Prelude.{◌≤◌}
use Rattle.test_tables.specs.declared.draft.Draft.{Draft}

abbrev pub Within : Draft → Type 0
Within d = d.length ≤ 5400
