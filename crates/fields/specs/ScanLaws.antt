-- One scan for several tests, which keeps the least number met so far, with the first index that met it.
--     seen k i           the answer of a scan that has kept k and i
--     scan               tests with their numbers, each over all indices below n before the next
--     first_met_at       the first number that an index meets
--     Rising             numbers that rise, all below `nothing`
--     range_tests        6, 7, 8, or 26 on a wish sheet, and 28
use Rattle.std.specs.Prelude.{ℕ, ◌<◌, Bool, eqb}
use Rattle.std.proofs.Math.Bool.{true, false, cond}
use mathlib.Core.List.{List, [], ◌∷◌}
use Rattle.tasks.specs.Answer.{Answer, Accepted, Refused}
use Rattle.tasks.specs.Tests.{lowest, or_next, bad_separation, bad_budget, bad_offset, bad_wish, bad_deadline}
use Rattle.tasks.specs.declared.Task.{Task}
use Rattle.fields.specs.Stages.{nothing}

unfoldable pub seen : ℕ → ℕ → Answer
seen k i = cond (eqb k nothing) Accepted (Refused k i)

unfoldable pub scan : List (ℕ × (ℕ → Bool)) → ℕ → Answer
scan [] n = Accepted
scan (t ∷ l) n = or_next (lowest t.0 t.1 n) (scan l n)

unfoldable pub first_met_at : List (ℕ × (ℕ → Bool)) → ℕ → ℕ
first_met_at [] n = nothing
first_met_at (t ∷ l) n = cond (t.1 n) t.0 (first_met_at l n)

unfoldable pub Rising : ℕ → List (ℕ × (ℕ → Bool)) → Type 0
Rising h [] = h < nothing
Rising h (t ∷ l) = (h < t.0) × Rising t.0 l

-- 26 on a wish sheet, else 8
abbrev last_test : Bool → (ℕ → Task) → ℕ × (ℕ → Bool)
last_test true task = (26, λ i. bad_wish (task i))
last_test false task = (8, λ i. bad_offset (task i))

unfoldable pub range_tests : ℕ → Bool → (ℕ → Task) → List (ℕ × (ℕ → Bool))
range_tests e wishes task =
    (6, λ i. bad_separation (task i))
    ∷ (7, λ i. bad_budget (task i))
    ∷ last_test wishes task
    ∷ (28, λ i. bad_deadline e (task i))
    ∷ []
