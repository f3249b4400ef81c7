-- Document 01, "Bytes of a show table": what a table's bytes say, and the bytes of a plan.
--     task_size                            how many bytes a task's entry has in an edition
--     tasks_from, slack_from                where the second and the third section begin, with their count, in a table of m cores and n tasks
--     table_length                         the length of a table with this edition and these counts
--     edition_in                           the edition byte (0 where absent)
--     core_count, task_count, slack_count    the three counts, as they stand in the bytes (0 where absent)
--     tasks_at, slack_at                    where the second and the third section's entries begin
--     task_in, task_bytes                   the task whose entry stands at a place, and a task's entry; plain_bytes: its first three numbers
--     counted_length                       the length that the counts give
--     content_in                           what the bytes say
--     bytes_of                             the bytes of a content
--     test1, test2, verdict               the first refusal of 1 to 13 and 28 that the bytes meet
use Rattle.std.specs.Prelude.{ℕ, ◌+◌, ◌*◌, cond, not, List, [], ◌∷◌, ◌++◌, length, eqb}
use Rattle.laws.specs.Tab.{cut}
use Rattle.tasks.specs.declared.Task.{Task}
use Rattle.tasks.specs.Answer.{Answer}
use Rattle.tasks.specs.TaskSet.{TaskSet, found, row}
use Rattle.tasks.specs.Content.{has_deadlines, in_edition, Content, no_task}
use Rattle.tasks.specs.Tests.{refuse, first_met, bad_edition, tests}
use Rattle.numbers.specs.Bytes.{byte, number, digits, entries}

-- "Loops: n entries of 12 bytes"; "In edition 2 a loop has 16 bytes"
unfoldable pub task_size : ℕ → ℕ
task_size e = cond (has_deadlines e) 16 12

-- "The first byte is the edition". "Three sections follow in this order, each after a one-byte count, and nothing follows them."
-- A table of m cores, n tasks and x slack entries, "Cores: m entries, one byte each" and slack entries of 4 bytes each:
abbrev pub tasks_from : ℕ → ℕ
tasks_from m = 2 + m

abbrev pub slack_from : ℕ → ℕ → ℕ → ℕ
slack_from e m n = tasks_from m + 1 + task_size e * n

abbrev pub table_length : ℕ → ℕ → ℕ → ℕ → ℕ
table_length e m n x = slack_from e m n + 1 + 4 * x

abbrev pub edition_in : List ℕ → ℕ
edition_in t = byte t 0

unfoldable pub core_count : List ℕ → ℕ
core_count t = byte t 1

unfoldable pub task_count : List ℕ → ℕ
task_count t = byte t (tasks_from (core_count t))

unfoldable pub tasks_at : List ℕ → ℕ
tasks_at t = tasks_from (core_count t) + 1

unfoldable pub slack_count : List ℕ → ℕ
slack_count t = byte t (slack_from (edition_in t) (core_count t) (task_count t))

unfoldable pub slack_at : List ℕ → ℕ
slack_at t = slack_from (edition_in t) (core_count t) (task_count t) + 1

abbrev pub counted_length : List ℕ → ℕ
counted_length t = table_length (edition_in t) (core_count t) (task_count t) (slack_count t)

-- "separation T, budget C, priority offset Y, 4 bytes each"; in edition 2 "the deadline D last"
unfoldable pub task_in : ℕ → List ℕ → ℕ → Task
task_in e t at =
    in_edition e
    (record {
      separation = number 4 t at;
      budget = number 4 t (at + 4);
      offset = number 4 t (at + 8);
      deadline = number 4 t (at + 12);
    })

unfoldable pub plain_bytes : Task → List ℕ
plain_bytes k = digits 4 k.separation ++ digits 4 k.budget ++ digits 4 k.offset

unfoldable pub task_bytes : ℕ → Task → List ℕ
task_bytes e k = plain_bytes k ++ cond (has_deadlines e) (digits 4 k.deadline) []

unfoldable pub task_set_in : List ℕ → TaskSet
task_set_in t =
    record {
      cores = core_count t;
      count = task_count t;
      task = cut (task_count t) (λ i. task_in (edition_in t) t (tasks_at t + task_size (edition_in t) * i)) no_task;
    }

-- "Count 0 means that no slack is offered, and slack is then found. It doesn't mean zeros"
unfoldable pub content_in : List ℕ → Content
content_in t =
    record {
      edition = edition_in t;
      tasks = task_set_in t;
      label = cut (core_count t) (λ i. byte t (2 + i)) 0;
      offers = slack_count t;
      slack =
          cond (eqb (slack_count t) 0)
          (row (found (task_set_in t)))
          (cut (task_count t) (λ i. number 4 t (slack_at t + 4 * i)) 0);
    }

-- "The edition byte is absent or not 1"; "Number 1 now refuses bytes other than 1 and 2". An absent one reads as 0.
unfoldable pub test1 : List ℕ → Answer
test1 t = refuse 1 (bad_edition (edition_in t))

-- "The length isn't exactly what the counts give, or a count is absent." An absent count reads as 0, and the length is then too short.
unfoldable pub test2 : List ℕ → Answer
test2 t = refuse 2 (not (eqb (length t) (counted_length t)))

unfoldable pub verdict : List ℕ → Answer
verdict t = first_met (test1 t ∷ test2 t ∷ tests (content_in t) ∷ [])

-- "The writer writes found slack as count 0": then `offers` is 0. It "gives back the edition that was read".
unfoldable pub bytes_of : Content → List ℕ
bytes_of c =
    (c.edition ∷ c.tasks.cores ∷ entries (λ i. c.label i ∷ []) c.tasks.cores)
    ++ (c.tasks.count ∷ entries (λ i. task_bytes c.edition (c.tasks.task i)) c.tasks.count)
    ++ (c.offers ∷ entries (λ i. digits 4 (c.slack i)) c.offers)
