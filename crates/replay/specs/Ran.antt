-- What the log run answers and leaves behind, for every input.
--     run_test       the first of 1 to 16 that a table, a log and the length of a lent answer meet
--     ran_of         the answer: how many entries were taken and how many refused
--     run_leaves     the lent answer afterwards
use Rattle.std.specs.Prelude.{ℕ, ◌*◌, List, [], ◌∷◌, length, ltb}
use Rattle.tasks.specs.Answer.{Answer}
use Rattle.tasks.specs.Tests.{refuse, first_met, unless_refused}
use Rattle.codec.specs.Table.{verdict}
use Rattle.logs.specs.LogBytes.{entry_count, entries_in, log_test, reports_to}
use Rattle.history.specs.Report.{report, taken_count, refused_count}
use Rattle.delivered.specs.Demand3.{run_on}
use Rattle.replay.specs.declared.run.Ran.{Ran}

-- "A log run judges the table first." "16. The lent answer is shorter than 8 × count."
unfoldable pub run_test : List ℕ → List ℕ → ℕ → Answer
run_test t l room = first_met (verdict t ∷ log_test l ∷ refuse 16 (ltb room (8 * entry_count l)) ∷ [])

-- "The call returns how many were taken and how many refused"; "lengths and counts are 0" on a refusal
unfoldable pub ran_of : List ℕ → List ℕ → ℕ → Ran
ran_of t l room =
    record {
      answer = run_test t l room;
      taken = unless_refused (run_test t l room) (taken_count (run_on t) (entries_in l)) 0;
      refused = unless_refused (run_test t l room) (refused_count (run_on t) (entries_in l)) 0;
    }

-- "For each entry 8 bytes are written: kind 1 and finish tick, or kind 2 and refusal number, 4 bytes each. Bytes beyond these stay." "Nothing
-- lent is written" on a refusal.
unfoldable pub run_leaves : List ℕ → List ℕ → List ℕ → List ℕ
run_leaves t l out =
    unless_refused (run_test t l (length out)) (reports_to (report (run_on t) (entries_in l)) (entry_count l) out) out
