-- Lists filled in order from a row, and rows cut off at a number of entries.
--     tab f n       the list f 0, …, f (n − 1)
--     cut n f z     the row f below n, and z from n on
use Rattle.std.specs.Prelude.{ℕ, zero, suc, cond, List, [], ◌∷◌, ◌++◌, ltb}

unfoldable pub tab : {A : Type 0} → (ℕ → A) → ℕ → List A
tab f zero = []
tab f (suc n) = tab f n ++ f n ∷ []

unfoldable pub cut : {A : Type 0} → ℕ → (ℕ → A) → A → ℕ → A
cut n f z i = cond (ltb i n) (f i) z
