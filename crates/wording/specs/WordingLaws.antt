-- What the laws of the fixed words speak of.
--     holds           whether a test holds of each number below n
--     apart, plain    words that begin with no digit; a byte that is printed and is no full stop
use Rattle.std.specs.Prelude.{ℕ, Bool, false, not, ◌&&◌, List, [], ◌∷◌, T, eqb, leb}
use Rattle.laws.specs.First.{first}
use Rattle.decimal.specs.Decimal.{digit}

abbrev pub holds : (ℕ → Bool) → ℕ → Type 0
holds p n = T (eqb (first (λ k. not (p k)) n) n)

unfoldable pub apart : List ℕ → Bool
apart [] = false
apart (b ∷ w) = not (digit b)

unfoldable pub plain : ℕ → Bool
plain b = leb 32 b && leb b 126 && not (eqb b 46)
