-- A list of numbers that is raised until nothing changes.
--     same n x y        whether two lists agree at every index below n
--     settle g n f x    x, what g makes of it, what g makes of that and so on, until nothing changes below n, at most f times
--     Settled           what holds where raising ends: a turn changes nothing, and every row to which a turn adds nothing is at least this one
use Rattle.std.specs.Prelude.{◌≡◌, ◌≤◌, ◌<◌, length, ℕ, zero, suc, Bool, true, false, not, List, get_or, eqb}
use Rattle.laws.specs.First.{first}

unfoldable pub same : ℕ → List ℕ → List ℕ → Bool
same n x y = eqb (first (λ k. not (eqb (get_or x k 0) (get_or y k 0))) n) n

-- x where nothing changed, else what g makes of the raised y
abbrev pub unless : Bool → (List ℕ → List ℕ) → List ℕ → List ℕ → List ℕ
unless true g x y = x
unless false g x y = g y

unfoldable pub settle : (List ℕ → List ℕ) → ℕ → ℕ → List ℕ → List ℕ
settle g n zero x = x
settle g n (suc f) x = unless (same n x (g x)) (settle g n f) x (g x)

pub record Settled (g : (ℕ → ℕ) → ℕ → ℕ) (n : ℕ) (x : List ℕ) : Type 0 where
  pub still : (k : ℕ) → k < n → g (λ i. get_or x i 0) k ≡ get_or x k 0
  pub least : (v : ℕ → ℕ) → ((k : ℕ) → k < n → g v k ≤ v k) → (k : ℕ) → k < n → get_or x k 0 ≤ v k
  pub long : length x ≡ n
