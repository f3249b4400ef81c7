-- Lists of indices as sets.
--     member i l      whether l names i
--     Distinct l      l names no index twice
use Rattle.std.specs.Prelude.{ℕ, Bool, false, ◌||◌, ◌≡◌, List, [], ◌∷◌, eqb}

unfoldable pub member : ℕ → List ℕ → Bool
member i [] = false
member i (j ∷ l) = eqb i j || member i l

unfoldable pub Distinct : List ℕ → Type 0
Distinct [] = Unit {0}
Distinct (j ∷ l) = (member j l ≡ false) × Distinct l
