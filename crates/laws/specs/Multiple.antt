-- Least common multiples, without a greatest common divisor in the definition.
--     lcm a b         the first of a, 2a, 3a, … that b divides (a and b at least 1)
--     lcm_below f n    the least common multiple of f 0, …, f (n − 1)
use Rattle.std.specs.Prelude.{ℕ, zero, suc, ◌*◌, ◌%◌, eqb}
use Rattle.laws.specs.First.{first}

unfoldable pub lcm : ℕ → ℕ → ℕ
lcm a b = a * suc (first (λ j. eqb (a * suc j % b) 0) b)

unfoldable pub lcm_below : (ℕ → ℕ) → ℕ → ℕ
lcm_below f zero = 1
lcm_below f (suc n) = lcm (lcm_below f n) (f n)
