-- Document 02, §3: what `wish` answers to a sheet, for every input.
--     wish_verdict    the first refusal that the bytes meet
--     handed          a plan found, or of zeros where the sheet is refused
--     wish_of         that answer, and the plan found
use Rattle.tasks.specs.declared.refusal.Refusal.{Refusal}
use Rattle.std.specs.Prelude.{ℕ, List, [], ◌∷◌, Ok, Err, Result}
use Rattle.tasks.specs.declared.Plan.{Plan}
use Rattle.tasks.specs.Answer.{Answer, Accepted}
use Rattle.tasks.specs.Content.{plan_of, zero_plan}
use Rattle.tasks.specs.Tests.{first_met, unless_refused}
use Rattle.codec.specs.Table.{content_in, test1, test2}
use Rattle.wishes.specs.Wish.{wish_tests, solved}
use Rattle.sheet.specs.declared.Wished.{Wished}

-- "A wish sheet is a table with the wished bound W in the offset's place and slack count 0"; 1 and 2 are a table's
unfoldable pub wish_verdict : List ℕ → Answer
wish_verdict t = first_met (test1 t ∷ test2 t ∷ wish_tests (content_in t) ∷ [])

-- what a call hands back: it has a plan where it is refused too
abbrev pub handed : Result Plan Refusal → Wished
handed (Ok p) = record { answer = Accepted; plan = p }
handed (Err r) = record { answer = Err r; plan = zero_plan }

-- a refusal hands back a plan of zeros
unfoldable pub wish_of : List ℕ → Wished
wish_of t = record { answer = wish_verdict t; plan = unless_refused (wish_verdict t) (plan_of (solved (content_in t))) zero_plan }
