-- What the judgement and the slack part answer, for every input.
--     judged_as         a judgement by its answer, its plan and the loops that it names
--     refused_with      a refused one
--     counted_in        the loops that the judgement of a table's bytes names
--     judged           the judgement of a table's bytes
--     slack_part        the slack section's entries, without the count byte
--     slack_place       where they lie, from where the table lies
use Rattle.std.specs.Prelude.{ℕ, ◌+◌, List, [], length, drop}
use Rattle.laws.specs.Tab.{tab}
use Rattle.tasks.specs.Answer.{Answer}
use Rattle.tasks.specs.declared.Plan.{Plan}
use Rattle.tasks.specs.TaskSet.{row}
use Rattle.tasks.specs.Content.{counted_of, plan_of, zero_plan}
use Rattle.tasks.specs.Tests.{unless_refused}
use Rattle.table.specs.declared.Judgement.{Judgement}
use Rattle.codec.specs.Table.{content_in, slack_at, verdict}

-- a judgement with these loops named, zeros in the unused places
abbrev pub judged_as : Answer → Plan → List ℕ → Judgement
judged_as a p l = record { answer = a; plan = p; count = length l; counted = tab (row l) 8 }

unfoldable pub refused_with : Answer → Judgement
refused_with a = judged_as a zero_plan []

-- "A judgement hands the names back beside the plan, by the weights at its slack, offered or found alike; a refused one names none."
unfoldable pub counted_in : List ℕ → List ℕ
counted_in t = unless_refused (verdict t) (counted_of (content_in t)) []

-- "A refused judgement … hands back a plan … of zeros"
unfoldable pub judged : List ℕ → Judgement
judged t = judged_as (verdict t) (unless_refused (verdict t) (plan_of (content_in t)) zero_plan) (counted_in t)

-- "its entries without the count byte, with count 0 or a refused table as an empty part"
unfoldable pub slack_part : List ℕ → List ℕ
slack_part t = unless_refused (verdict t) (drop (slack_at t) t) []

-- "handed back as the caller's own bytes": where the entries of a table lie that lies at p, a block of memory and the first byte's place in it
unfoldable pub slack_place : List ℕ → ℕ × ℕ → ℕ × ℕ
slack_place t p = (p.0, p.1 + slack_at t)
