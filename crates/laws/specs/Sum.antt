-- Sums over rows of numbers. A row is a function of the index, with the number of its entries beside it.
--     sum f n         f 0 + … + f (n − 1)
--     count p n       at how many indices below n the test p holds
--     sum_over f l     the sum of f over the indices that the list l names
use Rattle.std.specs.Prelude.{ℕ, zero, suc, ◌+◌, Bool, cond, List, [], ◌∷◌}

unfoldable pub sum : (ℕ → ℕ) → ℕ → ℕ
sum f zero = 0
sum f (suc n) = sum f n + f n

unfoldable pub count : (ℕ → Bool) → ℕ → ℕ
count p n = sum (λ i. cond (p i) 1 0) n

unfoldable pub sum_over : (ℕ → ℕ) → List ℕ → ℕ
sum_over f [] = 0
sum_over f (i ∷ l) = f i + sum_over f l
