-- Document 02, §6: tables between the editions as theorems of the definitions, from a table's bytes to what `convert` answers and leaves behind.
--     Conversion             a table, the wanted edition, how many bytes are lent, and what document 02 says of them
--     comes_out, turned_down   one that is not refused, and one that is
--     conversions            P1 and P5 both ways, to the bytes that come out and to one less; 1, 29, 30 and their order
--     converts, convert_all   whether the definitions say the same
use Rattle.std.specs.Prelude.{ℕ, Bool, true, ◌&&◌, List, [], ◌∷◌, ◌++◌, length, drop, eqb}
use Rattle.laws.specs.Every.{same_list}
use Rattle.laws.specs.Tab.{tab}
use Rattle.tasks.specs.Answer.{Answer, Accepted, Refused}
use Rattle.tasks.specs.TaskSet.{plain_task as loop}
use Rattle.conversion.specs.Converted.{convert_test, converted_length, converted_to}
use Rattle.worked.specs.Cases.{p1, p3, table_with, answers_equal}
use Rattle.worked.specs.Editions.{due, p1_due}

pub record Conversion : Type 0 where
  pub table : List ℕ
  pub wanted : ℕ
  -- how many bytes are lent
  pub room : ℕ
  pub answer : Answer
  -- the bytes written
  pub bytes : List ℕ

abbrev comes_out : List ℕ → ℕ → ℕ → List ℕ → Conversion
comes_out t e room bytes = record { table = t; wanted = e; room = room; answer = Accepted; bytes = bytes }

-- "Nothing lent is written"
abbrev turned_down : List ℕ → ℕ → ℕ → ℕ → ℕ → Conversion
turned_down t e room k i = record { table = t; wanted = e; room = room; answer = Refused k i; bytes = [] }

-- P1 in edition 1, and in edition 2 with these deadlines, with the slack that it offers
abbrev plain : List ℕ → List ℕ
plain offered = table_with 1 2 p1 offered

abbrev dated : ℕ → ℕ → ℕ → List ℕ → List ℕ
dated a b c offered = table_with 2 2 (p1_due a b c) offered

-- P5's slack
abbrev p5 : List ℕ
p5 = 6 ∷ 6 ∷ 1 ∷ []

unfoldable pub conversions : List Conversion
conversions =
    comes_out (plain []) 2 54 (dated 10 10 90 [])
    ∷ comes_out (dated 10 10 90 []) 1 42 (plain [])
    ∷ comes_out (plain p5) 2 69 (dated 10 10 90 p5)
    ∷ comes_out (dated 10 10 90 p5) 1 57 (plain p5)
    ∷ turned_down (plain []) 2 53 24 0
    ∷ turned_down (dated 10 10 90 []) 1 41 24 0
    -- a wanted edition other than 1 and 2, a table already in the wanted one, and no table
    ∷ turned_down (plain []) 3 54 1 0
    ∷ turned_down (plain []) 1 54 1 0
    ∷ turned_down (dated 10 10 90 []) 2 54 1 0
    ∷ turned_down [] 2 54 1 0
    -- 1 before 2
    ∷ turned_down (1 ∷ []) 1 54 1 0
    ∷ turned_down (1 ∷ []) 2 54 2 0
    -- 29 of an offset 0, at the lowest loop and before 24, and not of 1
    ∷ turned_down (table_with 1 2 (p3 0) []) 2 54 29 2
    ∷ turned_down (table_with 1 2 (loop 2 1 2 ∷ loop 2 1 0 ∷ loop 3 3 0 ∷ []) []) 2 0 29 1
    ∷ comes_out (table_with 1 2 (p3 1) []) 2 54 (table_with 2 2 (due 2 1 2 2 ∷ due 2 1 2 2 ∷ due 3 3 1 1 ∷ []) [])
    -- 31 of as many loops as cores, on either way, before 29, 30 and 24; and not of one loop more
    ∷ turned_down (table_with 1 2 (loop 2 1 2 ∷ loop 3 3 0 ∷ []) []) 2 54 31 0
    ∷ turned_down (table_with 2 2 (due 2 1 2 2 ∷ due 3 3 1 2 ∷ []) []) 1 0 31 0
    ∷ turned_down (table_with 1 3 (p3 1) []) 2 55 31 0
    -- 30 of a deadline one more or one less, at the lowest loop and before 24
    ∷ turned_down (dated 10 10 89 []) 1 54 30 2
    ∷ turned_down (dated 10 11 89 []) 1 0 30 1
    -- 13 before 29, P8 with budgets of 30 and no third offset; 28 before 30
    ∷ turned_down (table_with 1 2 (loop 1 1 1 ∷ loop 100 30 100 ∷ loop 100 30 0 ∷ []) []) 2 54 13 0
    ∷ turned_down (dated 9 10 0 []) 1 54 28 2
    ∷ []

-- what is lent, in place of any bytes
abbrev lent : Conversion → List ℕ
lent c = tab (λ i. i) c.room

unfoldable pub converts : Conversion → Bool
converts c =
    answers_equal (convert_test c.wanted c.table c.room) c.answer
    && eqb (converted_length c.wanted c.table c.room) (length c.bytes)
    && same_list (converted_to c.wanted c.table (lent c)) (c.bytes ++ drop (length c.bytes) (lent c))

unfoldable pub convert_all : List Conversion → Bool
convert_all [] = true
convert_all (c ∷ l) = converts c && convert_all l
