-- Document 01, "Release logs": what a log's bytes say, which of 14 and 15 they meet, and the bytes of the answer.
--     entry_count, entry_in, entries_in    the count, the entry at e, and all entries (0 for what is absent)
--     test14, test15, log_test           the first refusal of 14 and 15 that the bytes meet
--     report_bytes                       the eight bytes of one entry's report
--     reports_to                         the lent answer with the reports of n entries in it
use Rattle.std.specs.Prelude.{ℕ, ◌+◌, ◌*◌, not, List, [], ◌∷◌, ◌++◌, length, drop, ltb, eqb}
use Rattle.laws.specs.Tab.{tab}
use Rattle.tasks.specs.Answer.{Answer}
use Rattle.tasks.specs.Numbers.{tick_high}
use Rattle.tasks.specs.Tests.{refuse, lowest, first_met}
use Rattle.history.specs.Log.{Entry}
use Rattle.history.specs.Report.{Report, finished, refusal}
use Rattle.numbers.specs.Bytes.{byte, number, digits, entries}

-- "A 2-byte count, then 9 bytes an entry"
unfoldable pub entry_count : List ℕ → ℕ
entry_count l = number 2 l 0

-- "tick (4), loop (1), demand (4)"
unfoldable pub entry_in : List ℕ → ℕ → Entry
entry_in l e =
    record {
      tick = number 4 l (2 + 9 * e);
      loop = byte l (2 + 9 * e + 4);
      demand = number 4 l (2 + 9 * e + 5);
    }

unfoldable pub entries_in : List ℕ → List Entry
entries_in l = tab (entry_in l) (entry_count l)

-- "A log's length isn't 2 + 9 × count, or its count is absent." An absent count reads as 0, and the length is then too short.
unfoldable pub test14 : List ℕ → Answer
test14 l = refuse 14 (not (eqb (length l) (2 + 9 * entry_count l)))

-- "A log tick is above 1,000,000,000."
unfoldable pub test15 : List ℕ → Answer
test15 l = lowest 15 (λ e. ltb tick_high (entry_in l e).tick) (entry_count l)

unfoldable pub log_test : List ℕ → Answer
log_test l = first_met (test14 l ∷ test15 l ∷ [])

-- "For each entry 8 bytes are written: kind 1 and finish tick, or kind 2 and refusal number, 4 bytes each."
unfoldable pub report_bytes : Report → List ℕ
report_bytes (finished f) = digits 4 1 ++ digits 4 f
report_bytes (refusal k) = digits 4 2 ++ digits 4 k

-- "Bytes beyond these stay."
unfoldable pub reports_to : (ℕ → Report) → ℕ → List ℕ → List ℕ
reports_to R n out = entries (λ e. report_bytes (R e)) n ++ drop (8 * n) out
