-- Document 02, §2: what `sentence` answers and leaves behind, for every input.
--     sentence_test        25 where the room is too short for the sentence
--     answer_of_composed, length_of_composed    document 01's number and index, and the length, for each case of the answer
--     sentence_length      the length that comes back, sentence_leaves the bytes that are left behind
use Rattle.std.specs.Prelude.{Result, Ok, Err, ℕ, List, ◌++◌, length, drop, ltb}
use Rattle.tasks.specs.declared.refusal.Refusal.{Refusal}
use Rattle.tasks.specs.Answer.{Answer, answer_of}
use Rattle.tasks.specs.Tests.{refuse, unless_refused}
use Rattle.wording.specs.Sentence.{sentence_of}

-- "25 the buffer is too short"
unfoldable pub sentence_test : ℕ → ℕ → ℕ → ℕ → Answer
sentence_test k i v room = refuse 25 (ltb room (length (sentence_of k i v)))

abbrev pub answer_of_composed : Result ℕ Refusal → Answer
answer_of_composed r = answer_of r

abbrev pub length_of_composed : Result ℕ Refusal → ℕ
length_of_composed (Ok n) = n
length_of_composed (Err r) = 0

-- "its length comes back"; "lengths and counts are 0" on a refusal
unfoldable pub sentence_length : ℕ → ℕ → ℕ → ℕ → ℕ
sentence_length k i v room = unless_refused (sentence_test k i v room) (length (sentence_of k i v)) 0

-- "The sentence goes to a lent buffer, its length comes back, and later bytes stay. Errors: 25 …, and nothing is written."
unfoldable pub sentence_leaves : ℕ → ℕ → ℕ → List ℕ → List ℕ
sentence_leaves k i v out =
    unless_refused (sentence_test k i v (length out)) (sentence_of k i v ++ drop (length (sentence_of k i v)) out) out
