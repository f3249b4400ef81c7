-- What a loop over the first n entries of an array reads.
--     taken     an entry of the first n is the array's, at an index below n
use Rattle.std.specs.Prelude.{ℕ, ◌<◌, ◌≡◌, List, length, get_or, take}
use Rattle.std.proofs.Common.{arith, length-take, get_or-take}

pub taken : (l : List ℕ) (n i : ℕ) → i < length (take n l) → (i < n) × (get_or (take n l) i 0 ≡ get_or l i 0)
taken l n i h = let below : i < n = omega (arith, length-take n l) in (below, get_or-take n l i 0 below)
