-- Document 02, §5: P1 in edition 2 as theorems of the definitions, from a table's bytes to what `plan` prints and from a sheet's to its plan.
--     due              a loop (T, C, Y, D)
--     p1_due            P1's loops with these deadlines
--     due_texts                  deadlines below, at and above each bound, at and beside the limits of 28, and 8, 28 and 9 in this order
--     due_sheets                       P1's wish sheet in edition 2, and 26, 28 and 9 in this order
use Rattle.std.specs.Prelude.{ℕ, Bool, ◌&&◌, List, [], ◌∷◌, T, eqb}
use Prim.Native.String.{String}
use Rattle.laws.specs.Every.{same_list}
use Rattle.laws.specs.Tab.{tab}
use Rattle.tasks.specs.declared.Task.{Task}
use Rattle.tasks.specs.Content.{task_of}
use Rattle.sheet.specs.Wished.{wish_of}
use Rattle.worked.specs.Cases.{table_with, Shown, SheetCase, solved_by, turned_away}

abbrev pub due : ℕ → ℕ → ℕ → ℕ → Task
due T C Y D = record { separation = T; budget = C; offset = Y; deadline = D }

abbrev pub p1_due : ℕ → ℕ → ℕ → List Task
p1_due a b c = due 10 9 10 a ∷ due 10 9 10 b ∷ due 100 20 90 c ∷ []

abbrev shown : List Task → String → Shown
shown loops text = record { edition = 2; loops = loops; text = text }

-- P1's bounds are 25, 25 and 110
unfoldable pub due_texts : List Shown
due_texts =
    shown (p1_due 24 25 111)
    "cores 2 loops 3\nloop 0 slack 6 bound 25 late 1\nloop 1 slack 6 bound 25 late 0\nloop 2 slack 0 bound 110 late 0\ncounted 2\n"
    ∷ shown (p1_due 26 24 110)
    "cores 2 loops 3\nloop 0 slack 6 bound 25 late 0\nloop 1 slack 6 bound 25 late 1\nloop 2 slack 0 bound 110 late 0\ncounted 2\n"
    ∷ shown (p1_due 25 26 109)
    "cores 2 loops 3\nloop 0 slack 6 bound 25 late 0\nloop 1 slack 6 bound 25 late 0\nloop 2 slack 0 bound 110 late 1\ncounted 2\n"
    ∷ shown (p1_due 1 1600000 1)
    "cores 2 loops 3\nloop 0 slack 6 bound 25 late 24\nloop 1 slack 6 bound 25 late 0\nloop 2 slack 0 bound 110 late 109\ncounted 2\n"
    ∷ shown (p1_due 25 0 1600001) "refused 28 at 1\n"
    ∷ shown (p1_due 25 25 1600001) "refused 28 at 2\n"
    -- 8 at the second loop, 28 at the first
    ∷ shown (due 10 9 10 0 ∷ due 10 9 11 25 ∷ due 100 20 90 110 ∷ []) "refused 8 at 1\n"
    -- 28 at the third, and 9
    ∷ shown (due 1000 1 0 1 ∷ due 1001 1 0 1 ∷ due 1 1 1 0 ∷ []) "refused 28 at 2\n"
    ∷ shown (due 1000 1 0 1 ∷ due 1001 1 0 1 ∷ due 1 1 1 1 ∷ []) "refused 9 at 0\n"
    ∷ []

abbrev pub wishing_due : List Task
wishing_due = due 10 9 29 25 ∷ due 10 9 99 26 ∷ due 100 20 90 1 ∷ []

unfoldable pub due_sheets : List SheetCase
due_sheets =
    solved_by 2 wishing_due (10 ∷ 10 ∷ 69 ∷ []) (6 ∷ 6 ∷ 1 ∷ [])
    -- 26 at the third loop, 28 at the first
    ∷ turned_away 2 (due 10 9 29 0 ∷ due 10 9 99 25 ∷ due 100 20 19 110 ∷ []) 26 2
    -- 28 at the second, and 9
    ∷ turned_away 2 (due 1000 1 1 1 ∷ due 1001 1 1 1600001 ∷ due 1 1 1 1 ∷ []) 28 1
    ∷ turned_away 2 (due 1000 1 1 1 ∷ due 1001 1 1 1600000 ∷ due 1 1 1 1 ∷ []) 9 0
    ∷ []

-- the edition, and the deadlines of the first three places, of the plan found for a sheet
unfoldable pub kept : List Task → ℕ → List ℕ → Bool
kept loops e deadlines =
    eqb (wish_of (table_with e 2 loops [])).plan.edition e
    && same_list (tab (λ i. (task_of (wish_of (table_with e 2 loops [])).plan.task i).deadline) 3) deadlines
