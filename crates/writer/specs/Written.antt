-- What the writer answers and leaves behind, for every input.
--     write_test        the first refusal that a plan and the room for its bytes meet: the writer's answer
--     answer_of_written, length_of_written    document 01's number and index, and the length, for each case of the writer's answer
--     written_length    the writer's length, written_to the bytes that it leaves behind
use Rattle.tasks.specs.declared.refusal.Refusal.{Refusal}
use Rattle.std.specs.Prelude.{ℕ, List, [], ◌∷◌, ◌++◌, length, drop, ltb, Ok, Err, Result}
use Rattle.tasks.specs.declared.Plan.{Plan}
use Rattle.tasks.specs.Answer.{Answer, answer_of}
use Rattle.tasks.specs.Content.{content_of}
use Rattle.tasks.specs.Tests.{refuse, first_met, unless_refused, test_plan}
use Rattle.codec.specs.Table.{bytes_of}

-- "24. The buffer lent to the writer … is too short, tested after 3 to 13": after all that a plan is tested by
unfoldable pub write_test : Plan → ℕ → Answer
write_test p room = first_met (test_plan p ∷ refuse 24 (ltb room (length (bytes_of (content_of p)))) ∷ [])

abbrev pub answer_of_written : Result ℕ Refusal → Answer
answer_of_written r = answer_of r

abbrev pub length_of_written : Result ℕ Refusal → ℕ
length_of_written (Ok n) = n
length_of_written (Err r) = 0

-- "lengths and counts are 0" on a refusal
unfoldable pub written_length : Plan → ℕ → ℕ
written_length p room = unless_refused (write_test p room) (length (bytes_of (content_of p))) 0

-- "The writer … returns the bytes written, and later bytes of its buffer stay." "Nothing lent is written" on a refusal.
unfoldable pub written_to : Plan → List ℕ → List ℕ
written_to p out =
    unless_refused (write_test p (length out))
    (bytes_of (content_of p) ++ drop (length (bytes_of (content_of p))) out)
    out
