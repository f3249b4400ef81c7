-- What the C functions answer and leave behind, for every input; the number of an answer is dahomike_answer's `answer_number`.
--     judge_test       1 to 13 and 28, and then 24
--     judge_number     the judgement's answer
--     report_bytes     slack and bound for each loop
--     judge_leaves     the lent buffer afterwards
--     counted_test     1 to 13 and 28, and then 24 of the names
--     counted_number, counted_leaves    how many names, and the lent buffer afterwards
--     wish_test        what a wish sheet meets, and then 24
--     wish_number      the answer to a sheet
--     found_bytes      offset, slack and bound for each loop; wish_leaves: the lent buffer afterwards
--     run_number       the log run's answer; what it leaves behind is replay's `run_leaves`
--     sentence_number  the answer of the sentence; what it leaves behind is wording's `sentence_leaves`
--     convert_number   the answer of the conversion; what it leaves behind is converter's `converted_to`
--     room_test        a plan's answer, and then 24
--     entry_size, entry_bytes, entry_of, Reportable    one task's bytes from a plan, with its offset first where it was found, and what the plan keeps to so
--                                       that they fit
use Rattle.std.specs.Prelude.{ℕ, ◌+◌, ◌*◌, ◌≤◌, ◌<◌, Bool, true, false, List, [], ◌∷◌, ◌++◌, length, drop, ltb}
use Rattle.tasks.specs.declared.Plan.{Plan}
use Rattle.tasks.specs.Answer.{Answer}
use Rattle.tasks.specs.TaskSet.{core_for_each, bound_by, bound, row}
use Rattle.tasks.specs.Content.{Content, task_of}
use Rattle.tasks.specs.Tests.{refuse, first_met, unless_refused}
use Rattle.numbers.specs.Bytes.{digits, entries}
use Rattle.codec.specs.Table.{task_count, content_in, verdict}
use Rattle.table.specs.Judged.{counted_in}
use Rattle.conversion.specs.Converted.{converted_bytes, convert_test}
use Rattle.replay.specs.Ran.{run_test, ran_of}
use Rattle.wishes.specs.Wish.{solved}
use Rattle.sheet.specs.Wished.{wish_verdict}
use Rattle.wording.specs.Sentence.{sentence_of}
use Rattle.wording.specs.Told.{sentence_test}
use Rattle.dahomike_answer.specs.Number.{answer_number}

-- "24. The buffer lent … to the C judgement is too short, tested after 3 to 13."
unfoldable pub judge_test : List ℕ → ℕ → Answer
judge_test t room = first_met (verdict t ∷ refuse 24 (ltb room (8 * task_count t)) ∷ [])

unfoldable pub judge_number : List ℕ → ℕ → ℕ
judge_number t room = answer_number (judge_test t room) (task_count t)

-- "slack and bound for each loop, 4 bytes each"
unfoldable pub report_bytes : Content → List ℕ
report_bytes c = entries (λ i. digits 4 (c.slack i) ++ digits 4 (bound c.tasks c.slack i)) c.tasks.count

-- "to a lent buffer; bytes beyond stay." "Nothing lent is written" on a refusal.
unfoldable pub judge_leaves : List ℕ → List ℕ → List ℕ
judge_leaves t out =
    unless_refused (judge_test t (length out)) (report_bytes (content_in t) ++ drop (8 * task_count t) out) out

-- 24 where the lent buffer is shorter than the names, a byte each
unfoldable pub counted_test : List ℕ → ℕ → Answer
counted_test t room = first_met (verdict t ∷ refuse 24 (ltb room (length (counted_in t))) ∷ [])

unfoldable pub counted_number : List ℕ → ℕ → ℕ
counted_number t room = answer_number (counted_test t room) (length (counted_in t))

-- the names from the buffer's beginning on; "bytes beyond stay", and "Nothing lent is written" on a refusal
unfoldable pub counted_leaves : List ℕ → List ℕ → List ℕ
counted_leaves t out = unless_refused (counted_test t (length out)) (counted_in t ++ drop (length (counted_in t)) out) out

-- a task's bound, from a plan's own arrays
unfoldable pub bound_in : Plan → ℕ → ℕ
bound_in p i = bound_by (core_for_each p.cores p.tasks) (task_of p.task i) (row p.slack i)

-- eight bytes for a judgement, twelve for a wish
abbrev pub entry_size : Bool → ℕ
entry_size true = 12
entry_size false = 8

abbrev pub entry_bytes : Bool → ℕ → ℕ → ℕ → List ℕ
entry_bytes true offset slack bound = digits 4 offset ++ (digits 4 slack ++ digits 4 bound)
entry_bytes false offset slack bound = digits 4 slack ++ digits 4 bound

unfoldable pub entry_of : Bool → Plan → ℕ → List ℕ
entry_of wishes p i = entry_bytes wishes (task_of p.task i).offset (row p.slack i) (bound_in p i)

-- a plan's answer, and then 24 where the buffer is shorter than its entries
unfoldable pub room_test : Bool → Answer → ℕ → ℕ → Answer
room_test wishes a n room = first_met (a ∷ refuse 24 (ltb room (entry_size wishes * n)) ∷ [])

pub record Reportable (wishes : Bool) (p : Plan) (room : ℕ) : Type 0 where
  pub few : p.tasks ≤ 16
  pub fits : entry_size wishes * p.tasks ≤ room
  pub small : (i : ℕ) → i < p.tasks → bound_in p i < 4294967296

-- 24, after 27, where the lent buffer is shorter than 12 bytes for each loop
unfoldable pub wish_test : List ℕ → ℕ → Answer
wish_test t room = first_met (wish_verdict t ∷ refuse 24 (ltb room (12 * task_count t)) ∷ [])

unfoldable pub wish_number : List ℕ → ℕ → ℕ
wish_number t room = answer_number (wish_test t room) (task_count t)

-- offset, slack and bound for each loop, 4 bytes each
unfoldable pub found_bytes : Content → List ℕ
found_bytes c =
    entries (λ i. digits 4 (c.tasks.task i).offset ++ (digits 4 (c.slack i) ++ digits 4 (bound c.tasks c.slack i))) c.tasks.count

-- "bytes beyond stay", and "Nothing lent is written" on a refusal
unfoldable pub wish_leaves : List ℕ → List ℕ → List ℕ
wish_leaves t out =
    unless_refused (wish_test t (length out)) (found_bytes (solved (content_in t)) ++ drop (12 * task_count t) out) out

-- "taken + 65,536 × refused for a log run, and 4,294,967,296 × refusal number + index for a refused call"
unfoldable pub run_number : List ℕ → List ℕ → ℕ → ℕ
run_number t l room = answer_number (run_test t l room) ((ran_of t l room).taken + 65536 * (ran_of t l room).refused)

-- the sentence's length, or 25
unfoldable pub sentence_number : ℕ → ℕ → ℕ → ℕ → ℕ
sentence_number k i v room = answer_number (sentence_test k i v room) (length (sentence_of k i v))

-- "The count of bytes written comes back", or the refusal
unfoldable pub convert_number : ℕ → List ℕ → ℕ → ℕ
convert_number e t room = answer_number (convert_test e t room) (length (converted_bytes e t))
