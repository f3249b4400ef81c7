-- What the code of this crate is handed: numbers within refusals 6 and 9.
--     Pair            a running least common multiple and a separation
--     Separations     a table's separations, in the places below `tasks`
use Rattle.std.specs.Prelude.{ℕ, ◌≤◌, ◌<◌, List, get_or}

pub record Pair (h t : ℕ) : Type 0 where
  pub multiple-low : 1 ≤ h
  pub multiple-high : h ≤ 1000000
  pub separation-low : 1 ≤ t
  pub separation-high : t ≤ 100000

pub record Separations (separation : List ℕ) (tasks : ℕ) : Type 0 where
  pub places : tasks ≤ 16
  pub low : (i : ℕ) → i < tasks → 1 ≤ get_or separation i 0
  pub high : (i : ℕ) → i < tasks → get_or separation i 0 ≤ 100000
