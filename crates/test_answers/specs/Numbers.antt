-- Document 01: "Each of the two answers one 64-bit number: n for judgement, taken + 65,536 × refused for a log run, and 4,294,967,296 × refusal
-- number + index for a refused call." The numbers that the C functions answer for worked tables, each written out.
--     Answered, gives      a call's answer, and the number that it must be
--     answers              refused calls of each C function and those that aren't, but for log runs that aren't refused
--     answer_all            whether every answer is its number
--     counts               whether a run is not refused, and takes and refuses so many entries on the table's machine
use Rattle.std.specs.Prelude.{ℕ, Bool, true, ◌&&◌, List, [], ◌∷◌, ◌++◌, map, length, eqb}
use Rattle.tasks.specs.Answer.{Accepted}
use Rattle.tasks.specs.TaskSet.{plain_task as loop}
use Rattle.history.specs.Log.{Entry}
use Rattle.history.specs.OnMachine.{machine_engine}
use Rattle.history.specs.Report.{taken_count, refused_count}
use Rattle.numbers.specs.Bytes.{digits}
use Rattle.codec.specs.Table.{content_in}
use Rattle.logs.specs.LogBytes.{entries_in}
use Rattle.replay.specs.Ran.{run_test}
use Rattle.dahomike.specs.Answers.{judge_number, counted_number, wish_number, run_number, sentence_number, convert_number}
use Rattle.worked.specs.Cases.{p1, p3, entry, entry_bytes, concat, table_with, answers_equal}

pub record Answered : Type 0 where
  pub answer : ℕ
  pub must : ℕ

abbrev pub gives : ℕ → ℕ → Answered
gives answer must = record { answer = answer; must = must }

-- P1 as a table of edition 1, with this slack offered
abbrev p1_with : List ℕ → List ℕ
p1_with offered = table_with 1 2 p1 offered

-- P3's table, with its third offset 0 or 1
abbrev pub p3_with : ℕ → List ℕ
p3_with y = table_with 1 2 (p3 y) []

unfoldable pub log_with : List Entry → List ℕ
log_with l = digits 2 (length l) ++ concat (map entry_bytes l)

-- P10's and P11's logs
abbrev pub p10_log : List ℕ
p10_log = log_with (entry 0 0 1 ∷ entry 0 1 1 ∷ entry 0 2 3 ∷ [])

abbrev pub p11_log : List ℕ
p11_log = log_with (entry 0 0 1 ∷ entry 1 0 1 ∷ entry 2 0 1 ∷ [])

unfoldable pub answers : List Answered
answers =
    -- P1's judgement: three loops, and 24 with a byte too few
    gives (judge_number (p1_with []) 24) 3
    ∷ gives (judge_number (p1_with []) 23) 103079215104
    -- P4 is refused 12 at 0; P1 with its second budget 11 is refused 7 at 1; no table 1, and one that ends early 2
    ∷ gives (judge_number (p1_with (5 ∷ 6 ∷ 0 ∷ [])) 24) 51539607552
    ∷ gives (judge_number (table_with 1 2 (loop 10 9 10 ∷ loop 10 11 10 ∷ loop 100 20 90 ∷ []) []) 24) 30064771073
    ∷ gives (judge_number [] 24) 4294967296
    ∷ gives (judge_number (1 ∷ []) 24) 8589934592
    -- the names of P1's counted loops: one, or 24
    ∷ gives (counted_number (p1_with []) 1) 1
    ∷ gives (counted_number (p1_with []) 0) 103079215104
    -- P1's wishes, 24, 26 at loop 2 and 27
    ∷ gives (wish_number (wishing 90) 36) 3
    ∷ gives (wish_number (wishing 90) 35) 103079215104
    ∷ gives (wish_number (wishing 19) 36) 111669149698
    ∷ gives (wish_number (wishing 69) 36) 115964116992
    -- P1 in edition 2 has 54 bytes; 24; 29 of P3 at loop 2
    ∷ gives (convert_number 2 (p1_with []) 54) 54
    ∷ gives (convert_number 2 (p1_with []) 53) 103079215104
    ∷ gives (convert_number 2 (p3_with 0) 54) 124554051586
    -- a log run under P4; a log without a count, with a tick too large at entry 1, and with a lent answer one byte too short
    ∷ gives (run_number (p1_with (5 ∷ 6 ∷ 0 ∷ [])) p11_log 24) 51539607552
    ∷ gives (run_number (p3_with 0) [] 24) 60129542144
    ∷ gives (run_number (p3_with 0) (log_with (entry 0 0 1 ∷ entry 1000000001 0 1 ∷ [])) 16) 64424509441
    ∷ gives (run_number (p3_with 0) p11_log 23) 68719476736
    -- the sentence of 7 at 1 has 92 bytes, which is 25 in a buffer of 91
    ∷ gives (sentence_number 7 1 11 92) 92
    ∷ gives (sentence_number 7 1 11 91) 107374182400
    ∷ []
  where
    wishing : ℕ → List ℕ
    wishing w = table_with 1 2 (loop 10 9 29 ∷ loop 10 9 99 ∷ loop 100 20 w ∷ []) []

unfoldable pub answer_all : List Answered → Bool
answer_all [] = true
answer_all (a ∷ l) = eqb a.answer a.must && answer_all l

-- table, log and lent answer are accepted, and so many entries are taken and so many refused
unfoldable pub counts : List ℕ → List ℕ → ℕ → ℕ → ℕ → Bool
counts t l room taken refused =
    answers_equal (run_test t l room) Accepted
    && (eqb (taken_count (machine_engine (content_in t).tasks) (entries_in l)) taken
    && eqb (refused_count (machine_engine (content_in t).tasks) (entries_in l)) refused)
