-- The first index at which a test holds: every refusal that names the lowest core, loop or entry is one.
--     first p n    the first index below n at which p holds, or n where there is none
use Rattle.std.specs.Prelude.{ℕ, zero, suc, Bool, cond, ltb}

-- what is known at n, with f the first index found below n (n itself: none) and b the test at n
abbrev pub onward : ℕ → ℕ → Bool → ℕ
onward f n b = cond (ltb f n) f (cond b n (suc n))

unfoldable pub first : (ℕ → Bool) → ℕ → ℕ
first p zero = zero
first p (suc n) = onward (first p n) n (p n)
