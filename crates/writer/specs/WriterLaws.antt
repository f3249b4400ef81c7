-- What the writer leaves.
--     Writes           the writer's answer, its length and the bytes left behind are the definitions'
use Rattle.tasks.specs.declared.refusal.Refusal.{Refusal}
use Rattle.std.specs.Prelude.{ℕ, ◌≡◌, List, length, Result}
use Rattle.tasks.specs.declared.Plan.{Plan}
use Rattle.writer.specs.Written.{answer_of_written, length_of_written, write_test, written_length, written_to}

abbrev pub Writes : Plan → List ℕ → Result ℕ Refusal → List ℕ → Type 0
Writes p out r after =
    (answer_of_written r ≡ write_test p (length out)) × (length_of_written r ≡ written_length p (length out)) × (after ≡ written_to p out)
