-- What a wish leaves for offset and slack, from arrays.
--     room_row       W − C
--     offset_row     the smaller of T and W − C − x
--     past_row       whether x is above W − C
use Rattle.std.specs.Prelude.{ℕ, ◌-◌, min, Bool, List, ltb}
use Rattle.tasks.specs.TaskSet.{row}

unfoldable pub room_row : List ℕ → List ℕ → ℕ → ℕ
room_row wish budget i = row wish i - row budget i

unfoldable pub offset_row : List ℕ → List ℕ → List ℕ → ℕ → ℕ
offset_row separation rooms slack i = min (row separation i) (row rooms i - row slack i)

unfoldable pub past_row : List ℕ → List ℕ → ℕ → Bool
past_row slack rooms i = ltb (row rooms i) (row slack i)
