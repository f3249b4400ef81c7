-- What the theorems of a conversion are of.
--     left_by            the bytes that a conversion leaves in a buffer, as many as it answers
--     Twins             an accepted table that says the same cores, T, C, Y and slack, with the same bounds and late
--     Meets29, Meets30, Meets31  the cases of 29, 30 and 31
use Rattle.std.specs.Prelude.{ℕ, ◌<◌, ◌≡◌, Bool, List, length, take}
use Rattle.std.proofs.Math.Bool.{true, false}
use Rattle.std.proofs.Math.Dec.{eqb}
use Rattle.tasks.specs.Answer.{Accepted}
use Rattle.tasks.specs.TaskSet.{core_for_each, bound}
use Rattle.tasks.specs.Content.{late}
use Rattle.tasks.specs.Tests.{bad_edition}
use Rattle.tasks.specs.NumberLaws.{Lowest}
use Rattle.codec.specs.Table.{edition_in, content_in, verdict}
use Rattle.conversion.specs.Converted.{no_offset, other_deadline, converted_length, converted_to}

unfoldable pub left_by : ℕ → List ℕ → List ℕ → List ℕ
left_by e t out = take (converted_length e t (length out)) (converted_to e t out)

-- "Both sides have the same slack, bounds and late"
pub record Twins (t u : List ℕ) : Type 0 where
  pub accepted : verdict u ≡ Accepted
  pub cores : (content_in u).tasks.cores ≡ (content_in t).tasks.cores
  pub labels : (content_in u).label ≡ (content_in t).label
  pub loops : (content_in u).tasks.count ≡ (content_in t).tasks.count
  pub separations : (i : ℕ) → ((content_in u).tasks.task i).separation ≡ ((content_in t).tasks.task i).separation
  pub budgets : (i : ℕ) → ((content_in u).tasks.task i).budget ≡ ((content_in t).tasks.task i).budget
  pub offsets : (i : ℕ) → ((content_in u).tasks.task i).offset ≡ ((content_in t).tasks.task i).offset
  -- offered slack stays offered, and slack to be found stays count 0
  pub offers : (content_in u).offers ≡ (content_in t).offers
  pub slack : (content_in u).slack ≡ (content_in t).slack
  pub bounds : (i : ℕ) → bound (content_in u).tasks (content_in u).slack i ≡ bound (content_in t).tasks (content_in t).slack i
  pub lates : (i : ℕ) → i < (content_in t).tasks.count → late (content_in u) i ≡ late (content_in t) i

module _ (e : ℕ) (t : List ℕ) (room i : ℕ) where
  abbrev pub unset : ℕ → Bool
  unset j = no_offset ((content_in t).tasks.task j)

  abbrev pub differs : ℕ → Bool
  differs j = other_deadline ((content_in t).tasks.task j)

  -- whether the table has loops no more than cores
  abbrev pub each : Bool
  each = core_for_each (content_in t).tasks.cores (content_in t).tasks.count

  -- "29 an offset is 0 on the way to edition 2": i is the lowest such loop of a table that is accepted and does not meet 31
  abbrev pub Meets29 : Type 0
  Meets29 = (e ≡ 2) × (edition_in t ≡ 1) × (verdict t ≡ Accepted) × (each ≡ false) × Lowest unset (content_in t).tasks.count i

  -- "30 a deadline differs from its offset on the way to edition 1": the same
  abbrev pub Meets30 : Type 0
  Meets30 = (e ≡ 1) × (edition_in t ≡ 2) × (verdict t ≡ Accepted) × (each ≡ false) × Lowest differs (content_in t).tasks.count i

  -- "31 the converter is given such a table", on either way
  abbrev pub Meets31 : Type 0
  Meets31 = (bad_edition e ≡ false) × (eqb (edition_in t) e ≡ false) × (verdict t ≡ Accepted) × (each ≡ true) × (i ≡ 0)
