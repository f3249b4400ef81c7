-- Document 02, §6, "Between the editions": what `convert` answers and leaves behind, for every input.
--     converted_task     a task with its offset as deadline, as the wanted edition has it
--     converted         what a table says, in the wanted edition; converted_bytes: its bytes
--     wanted_test        1 of the wanted edition
--     no_offset, other_deadline, way_test    what 29 and 30 test of a task, and the one of the two on the way to the wanted edition
--     fit_test           31, and then 29 or 30
--     convert_test       the first refusal that a table, a wanted edition and the room for its bytes meet: the answer
--     converted_length   its length; converted_to: the bytes left behind
use Rattle.std.specs.Prelude.{ℕ, Bool, cond, not, ◌||◌, List, [], ◌∷◌, ◌++◌, length, drop, ltb, eqb}
use Rattle.tasks.specs.declared.Task.{Task}
use Rattle.tasks.specs.Answer.{Answer}
use Rattle.tasks.specs.TaskSet.{core_for_each}
use Rattle.tasks.specs.Content.{has_deadlines, in_edition, Content}
use Rattle.tasks.specs.Tests.{refuse, lowest, first_met, unless_refused, bad_edition}
use Rattle.codec.specs.Table.{edition_in, content_in, verdict, bytes_of}

-- "Convert to edition 2 by giving each loop its offset as deadline, and back where every deadline equals its offset." In edition 1 the deadline
-- is an unused place.
unfoldable pub converted_task : ℕ → Task → Task
converted_task e t =
    in_edition e (record { separation = t.separation; budget = t.budget; offset = t.offset; deadline = t.offset })

-- "Both sides have the same slack": offered slack stays offered, and slack to be found stays count 0
unfoldable pub converted : ℕ → Content → Content
converted e c =
    record {
      edition = e;
      tasks =
          record { cores = c.tasks.cores; count = c.tasks.count; task = λ i. converted_task e (c.tasks.task i) };
      label = c.label;
      offers = c.offers;
      slack = c.slack;
    }

abbrev pub converted_bytes : ℕ → List ℕ → List ℕ
converted_bytes e t = bytes_of (converted e (content_in t))

-- "A table already in the wanted edition, or a wanted edition other than 1 and 2, is refused 1."
unfoldable pub wanted_test : ℕ → List ℕ → Answer
wanted_test e t = refuse 1 (bad_edition e || eqb (edition_in t) e)

-- 29: "an offset is 0"
abbrev pub no_offset : Task → Bool
no_offset t = eqb t.offset 0

-- 30: "a deadline differs from its offset"
abbrev pub other_deadline : Task → Bool
other_deadline t = not (eqb t.deadline t.offset)

-- 29 "on the way to edition 2", and 30 "on the way to edition 1", of n tasks
unfoldable pub way_test : ℕ → (ℕ → Task) → ℕ → Answer
way_test e task n =
    cond (has_deadlines e) (lowest 29 (λ i. no_offset (task i)) n) (lowest 30 (λ i. other_deadline (task i)) n)

-- "31 the converter is given such a table", one with loops no more than cores, "tested before 29 and 30": n tasks on m cores
unfoldable pub fit_test : ℕ → ℕ → (ℕ → Task) → ℕ → Answer
fit_test e m task n = first_met (refuse 31 (core_for_each m n) ∷ way_test e task n ∷ [])

-- 29 and 30 "both after the table's own checks". "A short buffer is refused 24, after all other checks."
unfoldable pub convert_test : ℕ → List ℕ → ℕ → Answer
convert_test e t room =
    first_met
    (wanted_test e t
    ∷ verdict t
    ∷ fit_test e (content_in t).tasks.cores (content_in t).tasks.task (content_in t).tasks.count
    ∷ refuse 24 (ltb room (length (converted_bytes e t)))
    ∷ [])

-- "The count of bytes written comes back"
unfoldable pub converted_length : ℕ → List ℕ → ℕ → ℕ
converted_length e t room = unless_refused (convert_test e t room) (length (converted_bytes e t)) 0

-- "and later bytes stay." Nothing lent is written on a refusal.
unfoldable pub converted_to : ℕ → List ℕ → List ℕ → List ℕ
converted_to e t out =
    unless_refused (convert_test e t (length out)) (converted_bytes e t ++ drop (length (converted_bytes e t)) out) out
