-- The stages of the analysis, each in document 01's order: what each of its functions answers.
--     least_by       the least number of tasks that passes 5, on a wish sheet or in a table
--     frame_test     3, 4 and 5
--     nothing       larger than every number: none is met
--     deadline_by    28 of one task in an edition, or `nothing`
--     met_by         the first of 6, 7, 8 and 28 that one task meets, or of 6, 7, 26 and 28 on a wish sheet, or `nothing`
--     fields_test    6, 7, 8 and 28 of n tasks
--     wishes_test    6, 7, 26 and 28 of n tasks
use Rattle.std.specs.Prelude.{ℕ, ◌+◌, Bool, true, false, cond, [], ◌∷◌}
use Rattle.tasks.specs.declared.Task.{Task}
use Rattle.tasks.specs.Answer.{Answer}
use Rattle.tasks.specs.Tests.{refuse, lowest, first_met, bad_cores, bad_label, bad_count, bad_separation, bad_budget, bad_offset, bad_wish, bad_deadline}

abbrev pub least_by : Bool → ℕ → ℕ
least_by wishes m = cond wishes (m + 1) 1

unfoldable pub frame_test : Bool → ℕ → (ℕ → ℕ) → ℕ → Answer
frame_test wishes m label n =
    first_met (refuse 3 (bad_cores m) ∷ lowest 4 (bad_label label) m ∷ refuse 5 (bad_count (least_by wishes m) n) ∷ [])

abbrev pub nothing : ℕ
nothing = 255

abbrev pub deadline_by : ℕ → Task → ℕ
deadline_by e t = cond (bad_deadline e t) 28 nothing

-- the last two: 26 on a wish sheet, else 8, and 28
abbrev pub last_by : ℕ → Bool → Task → ℕ
last_by e true t = cond (bad_wish t) 26 (deadline_by e t)
last_by e false t = cond (bad_offset t) 8 (deadline_by e t)

unfoldable pub met_by : ℕ → Bool → Task → ℕ
met_by e wishes t = cond (bad_separation t) 6 (cond (bad_budget t) 7 (last_by e wishes t))

unfoldable pub fields_test : ℕ → (ℕ → Task) → ℕ → Answer
fields_test e task n =
    first_met
    (lowest 6 (λ i. bad_separation (task i)) n
    ∷ lowest 7 (λ i. bad_budget (task i)) n
    ∷ lowest 8 (λ i. bad_offset (task i)) n
    ∷ lowest 28 (λ i. bad_deadline e (task i)) n
    ∷ [])

unfoldable pub wishes_test : ℕ → (ℕ → Task) → ℕ → Answer
wishes_test e task n =
    first_met
    (lowest 6 (λ i. bad_separation (task i)) n
    ∷ lowest 7 (λ i. bad_budget (task i)) n
    ∷ lowest 26 (λ i. bad_wish (task i)) n
    ∷ lowest 28 (λ i. bad_deadline e (task i)) n
    ∷ [])
