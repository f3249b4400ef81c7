-- The 64-bit number that a C function answers.
--     answer_number    the number of an answer, with n where it is no refusal
--     told_number      that of a call that gives n itself
use Rattle.tasks.specs.declared.refusal.Refusal.{Refusal}
use Rattle.std.specs.Prelude.{ℕ, ◌+◌, ◌*◌, Ok, Err, Result}
use Rattle.tasks.specs.Answer.{Answer}
use Rattle.tasks.specs.Tests.{number_of, index_of, unless_refused}

-- "Each of the two answers one 64-bit number: n for judgement, … and 4,294,967,296 × refusal number + index for a refused call."
unfoldable pub answer_number : Answer → ℕ → ℕ
answer_number a n = unless_refused a n (4294967296 * number_of a + index_of a)

-- the number of a call that has one where it is not refused
abbrev pub told_number : Result ℕ Refusal → ℕ
told_number (Ok n) = n
told_number (Err r) = answer_number (Err r) 0
