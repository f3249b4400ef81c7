-- Demand 3 said a second time, of bytes alone: of a table, of a log, of what a log run leaves in a lent answer and of what the C judgement leaves
-- in a lent buffer. No engine, history or claim stands in it, and no definition of a plan, a log or a bound: each number is read at the place
-- that document 01 gives it.
--     cores_of, loops_of, size_of                      of a table t: its numbers of cores and loops, and how many bytes a loop has
--     separation_of, budget_of, offset_of              loop i's T, C and Y
--     entries_of, tick_of, loop_of, demand_of           of a log l: its number of entries, and entry e's three numbers
--     kind_of, value_of                              of a log run's answer w: entry e's kind, and the finish tick or refusal number behind it
--     slack_left, bound_left                              of a judgement's answer b: loop i's slack and bound
--     within_of                                      of a table t and slack x: the ticks within which loop i's releases finish
--     FourConditions                                the four conditions of an entry
--     KeepsTable                                    the log keeps the table
--     Outcome                                       the statement
use Rattle.std.specs.Prelude.{ℕ, ◌+◌, ◌*◌, ◌≤◌, ◌<◌, ◌≡◌, ◌↔◌, ◌⊎◌, cond, List, leb, eqb}
use Rattle.numbers.specs.Bytes.{byte, number}

-- "The first byte is the edition". "Three sections follow in this order, each after a one-byte count": m at 1, m labels, n, the loops
abbrev pub cores_of : List ℕ → ℕ
cores_of t = byte t 1

abbrev pub loops_of : List ℕ → ℕ
loops_of t = byte t (2 + cores_of t)

-- "n entries of 12 bytes"; "In edition 2 a loop has 16 bytes"
abbrev pub size_of : List ℕ → ℕ
size_of t = cond (eqb (byte t 0) 2) 16 12

-- "separation T, budget C, priority offset Y, 4 bytes each"
abbrev pub separation_of : List ℕ → ℕ → ℕ
separation_of t i = number 4 t (3 + cores_of t + size_of t * i)

abbrev pub budget_of : List ℕ → ℕ → ℕ
budget_of t i = number 4 t (3 + cores_of t + size_of t * i + 4)

abbrev pub offset_of : List ℕ → ℕ → ℕ
offset_of t i = number 4 t (3 + cores_of t + size_of t * i + 8)

-- "A 2-byte count, then 9 bytes an entry: tick (4), loop (1), demand (4)."
abbrev pub entries_of : List ℕ → ℕ
entries_of l = number 2 l 0

abbrev pub tick_of : List ℕ → ℕ → ℕ
tick_of l e = number 4 l (2 + 9 * e)

abbrev pub loop_of : List ℕ → ℕ → ℕ
loop_of l e = byte l (2 + 9 * e + 4)

abbrev pub demand_of : List ℕ → ℕ → ℕ
demand_of l e = number 4 l (2 + 9 * e + 5)

-- "For each entry 8 bytes are written: kind 1 and finish tick, or kind 2 and refusal number, 4 bytes each."
abbrev pub kind_of : List ℕ → ℕ → ℕ
kind_of w e = number 4 w (8 * e)

abbrev pub value_of : List ℕ → ℕ → ℕ
value_of w e = number 4 w (8 * e + 4)

-- "The C judgement writes slack and bound for each loop, 4 bytes each"
abbrev pub slack_left : List ℕ → ℕ → ℕ
slack_left b i = number 4 b (8 * i)

abbrev pub bound_left : List ℕ → ℕ → ℕ
bound_left b i = number 4 b (8 * i + 4)

-- "within offset + slack + budget"; "Where loops are no more than cores, … now within the budget alone"
abbrev pub within_of : List ℕ → (ℕ → ℕ) → ℕ → ℕ
within_of t x i = cond (leb (loops_of t) (cores_of t)) (budget_of t i) (offset_of t i + x i + budget_of t i)

pub record FourConditions (t l w : List ℕ) (e : ℕ) : Type 0 where
  -- 17: the tick is below no earlier entry's
  pub onward : (j : ℕ) → j < e → tick_of l j ≤ tick_of l e
  -- 20: the loop is in the table
  pub in_table : loop_of l e < loops_of t
  -- 21: the demand is 1 to C
  pub demand-low : 1 ≤ demand_of l e
  pub demand-high : demand_of l e ≤ budget_of t (loop_of l e)
  -- 22: it is T or more ticks after every earlier entry of its loop that was taken, and so after the last of them
  pub apart :
      (j : ℕ) → j < e → loop_of l j ≡ loop_of l e → kind_of w j ≡ 1 → tick_of l j + separation_of t (loop_of l e) ≤ tick_of l e

-- ticks never go back, every loop is in the table, every demand is 1 to C, and any two entries of one loop are T or more apart
pub record KeepsTable (t l : List ℕ) : Type 0 where
  pub onward : (j e : ℕ) → j < e → e < entries_of l → tick_of l j ≤ tick_of l e
  pub in_table : (e : ℕ) → e < entries_of l → loop_of l e < loops_of t
  pub demand-low : (e : ℕ) → e < entries_of l → 1 ≤ demand_of l e
  pub demand-high : (e : ℕ) → e < entries_of l → demand_of l e ≤ budget_of t (loop_of l e)
  pub apart :
      (j e : ℕ) → j < e → e < entries_of l → loop_of l j ≡ loop_of l e → tick_of l j + separation_of t (loop_of l e) ≤ tick_of l e

pub record Outcome (t l w b : List ℕ) : Type 0 where
  -- "kind 1 and finish tick, or kind 2 and refusal number"; "23 is never met in such a run"
  pub kinds : (e : ℕ) → e < entries_of l → (kind_of w e ≡ 1) ⊎ ((kind_of w e ≡ 2) × (value_of w e ≤ 22))
  -- "a release is taken exactly when document 01's four conditions hold"
  pub taken : (e : ℕ) → e < entries_of l → (kind_of w e ≡ 1) ↔ FourConditions t l w e
  -- "and every taken release finishes within offset + slack + budget", or "within the budget alone"
  pub in_time :
      (e : ℕ) → e < entries_of l → kind_of w e ≡ 1
      → value_of w e ≤ tick_of l e + within_of t (slack_left b) (loop_of l e)
  -- "all do exactly if the log keeps the table"
  pub all_in_time :
      ((e : ℕ) → e < entries_of l
      → (kind_of w e ≡ 1)
      × (value_of w e ≤ tick_of l e + within_of t (slack_left b) (loop_of l e)))
      ↔ KeepsTable t l
  -- "The bound of a loop is Y + x + C"; where loops are no more than cores, "its bound is its budget"
  pub bounds : (i : ℕ) → i < loops_of t → bound_left b i ≡ within_of t (slack_left b) i
