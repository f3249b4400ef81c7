-- What theorems about every table come to for P1, P5 and P9. A row's test is computed of the table alone; what it says of the calls follows from the
-- theorems, so that a weaker theorem does not give it.
--     Carried              a table, its edition and the other one, and its slack, bounds and late
--     carried              P1 and P5 in both editions
--     lent                 a lent buffer that is longer than each of them
--     ready, ready_all      the test of a row: the table is accepted and can be converted, and has that late
--     Row                  what the calls do with it: the conversion's other side, the way back, and the plan written
--     p9                   P9's H is 999,000
use Rattle.std.specs.Prelude.{ℕ, Bool, true, ◌&&◌, ◌≡◌, List, [], ◌∷◌, ◌++◌, length, drop, ltb, leb, eqb}
use Rattle.laws.specs.Every.{every, same_list}
use Rattle.laws.specs.Tab.{tab}
use Rattle.tasks.specs.Answer.{Accepted}
use Rattle.tasks.specs.TaskSet.{plain_task as loop, bound}
use Rattle.tasks.specs.Content.{Content, late}
use Rattle.tasks.specs.Terms.{limit_tests}
use Rattle.codec.specs.Table.{edition_in, content_in}
use Rattle.table.specs.Judged.{judged}
use Rattle.writer.specs.Written.{written_length, written_to}
use Rattle.conversion.specs.Converted.{convert_test, converted_length, converted_to}
use Rattle.conversion.proofs.ConvertTheorems.{left_by}
use Rattle.worked.specs.Cases.{p1, table_with, answers_equal}
use Rattle.worked.specs.Editions.{p1_due}

pub record Carried : Type 0 where
  pub table : List ℕ
  pub edition : ℕ
  pub wanted : ℕ
  pub slack : List ℕ
  pub bounds : List ℕ
  pub lates : List ℕ

abbrev undated : List ℕ → List ℕ → List ℕ → List ℕ → Carried
undated offered slack bounds lates =
    record { table = table_with 1 2 p1 offered; edition = 1; wanted = 2; slack = slack; bounds = bounds; lates = lates }

-- with each offset as deadline
abbrev dated : List ℕ → List ℕ → List ℕ → List ℕ → Carried
dated offered slack bounds lates =
    record { table = table_with 2 2 (p1_due 10 10 90) offered; edition = 2; wanted = 1; slack = slack; bounds = bounds; lates = lates }

-- "P5: P1 offering 6, 6, 1"
unfoldable pub carried : List Carried
carried =
    undated [] (6 ∷ 6 ∷ 0 ∷ []) (25 ∷ 25 ∷ 110 ∷ []) (15 ∷ 15 ∷ 20 ∷ [])
    ∷ dated [] (6 ∷ 6 ∷ 0 ∷ []) (25 ∷ 25 ∷ 110 ∷ []) (15 ∷ 15 ∷ 20 ∷ [])
    ∷ undated (6 ∷ 6 ∷ 1 ∷ []) (6 ∷ 6 ∷ 1 ∷ []) (25 ∷ 25 ∷ 111 ∷ []) (15 ∷ 15 ∷ 21 ∷ [])
    ∷ dated (6 ∷ 6 ∷ 1 ∷ []) (6 ∷ 6 ∷ 1 ∷ []) (25 ∷ 25 ∷ 111 ∷ []) (15 ∷ 15 ∷ 21 ∷ [])
    ∷ []

abbrev pub lent : List ℕ
lent = tab (λ i. i) 70

-- what a content has of three loops
abbrev pub slack_in : Content → List ℕ
slack_in c = tab c.slack 3

abbrev pub bounds_in : Content → List ℕ
bounds_in c = tab (bound c.tasks c.slack) 3

abbrev lates_in : Content → List ℕ
lates_in c = tab (late c) 3

unfoldable pub ready : Carried → Bool
ready c =
    answers_equal (convert_test c.wanted c.table (length lent)) Accepted
    && (eqb (edition_in c.table) c.edition
    && (eqb (content_in c.table).tasks.count 3
    && (every (λ b. ltb b 256) c.table
    && (leb (length c.table) (length lent)
    && (same_list (slack_in (content_in c.table)) c.slack
    && (same_list (bounds_in (content_in c.table)) c.bounds
    && same_list (lates_in (content_in c.table)) c.lates))))))

unfoldable pub ready_all : List Carried → Bool
ready_all [] = true
ready_all (c ∷ l) = ready c && ready_all l

-- the table in the other edition, as `convert` leaves it
abbrev pub other : Carried → List ℕ
other c = left_by c.wanted c.table lent

pub record Row (c : Carried) : Type 0 where
  -- "Both sides have the same slack, bounds and late"
  pub edition : edition_in (other c) ≡ c.wanted
  pub slack : slack_in (content_in (other c)) ≡ c.slack
  pub bounds : bounds_in (content_in (other c)) ≡ c.bounds
  pub lates : lates_in (content_in (other c)) ≡ c.lates
  -- "and there and back gives the first bytes", and leaves later ones
  pub back-length : converted_length c.edition (other c) (length lent) ≡ length c.table
  pub back : converted_to c.edition (other c) lent ≡ c.table ++ drop (length c.table) lent
  -- "an accepted table is rewritten byte by byte"
  pub rewritten-length : written_length (judged c.table).plan (length lent) ≡ length c.table
  pub rewritten : written_to (judged c.table).plan lent ≡ c.table ++ drop (length c.table) lent

abbrev pub Rows : List Carried → Type 0
Rows [] = Unit {0}
Rows (c ∷ l) = Row c × Rows l

-- "P9: separations 1000, 999, 1 pass 9"
abbrev pub p9 : List ℕ
p9 = table_with 1 2 (loop 1000 1 0 ∷ loop 999 1 0 ∷ loop 1 1 1 ∷ []) []

unfoldable pub limits_pass : List ℕ → Bool
limits_pass t = answers_equal (limit_tests (content_in t)) Accepted
