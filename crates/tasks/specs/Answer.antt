-- The answer of a test: nothing, or a refusal with its number and its index. The code has `Result<(), Refusal>`.
--     Answer                 Accepted, or Refused k i
--     answer_of              the answer of a call that gives a value where it is not refused
--     rule_number            the number of what is wrong, as documents 01 and 02 count them
--     refusal_by             the refusal by that number, at an index
use Rattle.std.specs.Prelude.{ℕ, ⊤, Result, Ok, Err}
use Rattle.tasks.specs.declared.refusal.Refusal.{Refusal}
use Rattle.tasks.specs.declared.refusal.Rule.{Rule}
use Rattle.tasks.specs.declared.refusal.Rule.TheVariants.{EditionUnknown, LengthWrong, CoresOutside, LabelWrong, TaskCountOutside, SeparationOutside, BudgetOutside, OffsetTooLarge, HyperperiodTooLarge, SharesTooLarge, SlackCountWrong, SlackNotCompliant, BoundTooLarge, LogLengthWrong, LogTickTooLate, AnswerTooShort, TickGoesBack, StateNotSound, ClockAtItsEnd, TaskNotInTable, DemandOutside, ReleaseTooSoon, NoPlaceFree, BufferTooShort, SentenceBufferTooShort, WishOutside, NoSolution, DeadlineOutside, OffsetZero, DeadlineNotOffset, TasksTooFew}

abbrev pub Answer : Type 0
Answer = Result ⊤ Refusal

abbrev pub Accepted : Answer
Accepted = Ok tt

-- "A refused call returns its number and an index"
abbrev pub Refused : ℕ → ℕ → Answer
Refused k i = Err (record { number = k; index = i })

abbrev pub answer_of : {A : Type 0} → Result A Refusal → Answer
answer_of (Ok x) = Accepted
answer_of (Err r) = Err r

abbrev pub rule_number : Rule → ℕ
rule_number EditionUnknown = 1
rule_number LengthWrong = 2
rule_number CoresOutside = 3
rule_number LabelWrong = 4
rule_number TaskCountOutside = 5
rule_number SeparationOutside = 6
rule_number BudgetOutside = 7
rule_number OffsetTooLarge = 8
rule_number HyperperiodTooLarge = 9
rule_number SharesTooLarge = 10
rule_number SlackCountWrong = 11
rule_number SlackNotCompliant = 12
rule_number BoundTooLarge = 13
rule_number LogLengthWrong = 14
rule_number LogTickTooLate = 15
rule_number AnswerTooShort = 16
rule_number TickGoesBack = 17
rule_number StateNotSound = 18
rule_number ClockAtItsEnd = 19
rule_number TaskNotInTable = 20
rule_number DemandOutside = 21
rule_number ReleaseTooSoon = 22
rule_number NoPlaceFree = 23
rule_number BufferTooShort = 24
rule_number SentenceBufferTooShort = 25
rule_number WishOutside = 26
rule_number NoSolution = 27
rule_number DeadlineOutside = 28
rule_number OffsetZero = 29
rule_number DeadlineNotOffset = 30
rule_number TasksTooFew = 31

abbrev pub refusal_by : Rule → ℕ → Refusal
refusal_by r i = record { number = rule_number r; index = i }
