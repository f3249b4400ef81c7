-- The large limits of documents 01 and 02, by name.
--     separation_high      the largest separation
--     multiple_high        the largest H
--     deadline_high        the largest deadline
--     tick_high            the largest tick of a log's entry
--     clock_end            the last clock
use Rattle.std.specs.Prelude.{ℕ}

abbrev pub separation_high : ℕ
separation_high = 100000

abbrev pub multiple_high : ℕ
multiple_high = 1000000

abbrev pub deadline_high : ℕ
deadline_high = 1600000

abbrev pub tick_high : ℕ
tick_high = 1000000000

abbrev pub clock_end : ℕ
clock_end = 4000000000
