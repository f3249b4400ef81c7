-- Document 02, §7: tables with loops no more than cores as theorems of the definitions, from a table's and a log's bytes to verdict, slack, bounds and
-- names, to what a run of the log writes, and to what `plan` prints.
--     own_run           a case of such a table with a log
--     own_cases         one loop on two cores, as many loops as cores, and one more beside it; offered zeros, and other slack; a log that keeps its table, one
--                      that doesn't, and the first with a loop more
--     own_texts         what `plan` prints for them: offsets and deadlines above, at and below the budget
--     own_sheets        "wish sheets keep the old 5"
use Rattle.std.specs.Prelude.{ℕ, List, [], ◌∷◌, map}
use Prim.Native.String.{String}
use Rattle.tasks.specs.declared.Task.{Task}
use Rattle.tasks.specs.Answer.{Accepted, Refused}
use Rattle.tasks.specs.TaskSet.{plain_task as loop}
use Rattle.history.specs.Log.{Entry}
use Rattle.history.specs.Report.{Report, finished, refusal}
use Rattle.worked.specs.Editions.{due}
use Rattle.worked.specs.Cases.{Case, accepted_on, entry, p1, Shown, SheetCase, turned_away}

-- a table on m cores with this log and what is written of its entries; loops are no more than cores, so slack is 0, bounds are budgets and no loop is named
abbrev own_run : ℕ → List Task → List ℕ → List Entry → List Report → Case
own_run m loops budgets log reports =
    record {
      p = 0;
      cores = m;
      loops = loops;
      offered = [];
      answer = Accepted;
      slack = map (λ b. 0) budgets;
      bounds = budgets;
      names = [];
      log = log;
      reports = reports;
    }

abbrev own : ℕ → List Task → List ℕ → Case
own m loops budgets = own_run m loops budgets [] []

-- slack that is offered to a table on two cores, and how it is refused
abbrev offering : List Task → List ℕ → ℕ → ℕ → Case
offering loops offered k i =
    record { p = 0; cores = 2; loops = loops; offered = offered; answer = Refused k i; slack = []; bounds = []; names = []; log = []; reports = [] }

-- P1's first two loops
abbrev pair : List Task
pair = loop 10 9 10 ∷ loop 10 9 10 ∷ []

-- P3's second and third loop
abbrev winches : List Task
winches = loop 2 1 2 ∷ loop 3 3 0 ∷ []

unfoldable pub own_cases : List Case
own_cases =
    own 2 (loop 10 9 10 ∷ []) (9 ∷ [])
    ∷ own 2 pair (9 ∷ 9 ∷ [])
    -- one loop more, P1: the old case, and on three cores the new one again
    ∷ accepted_on 2 1 p1 [] (6 ∷ 6 ∷ 0 ∷ []) (25 ∷ 25 ∷ 110 ∷ []) (2 ∷ [])
    ∷ own 3 p1 (9 ∷ 9 ∷ 20 ∷ [])
    -- two winches on a four-core box
    ∷ own 4 winches (1 ∷ 3 ∷ [])
    -- a budget as long as its separation on both cores: the shares add up to m × H
    ∷ own 2 (loop 3 3 0 ∷ loop 2 2 2 ∷ []) (3 ∷ 2 ∷ [])
    -- "offered slack for such a table is refused 11": zeros, others, and any count but 0
    ∷ offering pair (0 ∷ 0 ∷ []) 11 0
    ∷ offering pair (6 ∷ 6 ∷ []) 11 0
    ∷ offering pair (0 ∷ []) 11 0
    -- "Number 5 now meets 0 loops", and 9 is tested as ever, before 11
    ∷ offering [] [] 5 0
    ∷ offering (loop 1000 1 0 ∷ loop 1001 1 0 ∷ []) (0 ∷ 0 ∷ []) 9 0
    -- every entry finishes at its tick and its demand
    ∷ own_run 2 winches (1 ∷ 3 ∷ []) (entry 0 0 1 ∷ entry 0 1 3 ∷ entry 2 0 1 ∷ entry 3 1 2 ∷ []) (finished 1 ∷ finished 3 ∷ finished 3 ∷ finished 5 ∷ [])
    -- "kept or not": 22, 20, 21 and 17 among them
    ∷ own_run 2 winches (1 ∷ 3 ∷ [])
    (entry 0 1 3 ∷ entry 2 1 1 ∷ entry 2 2 1 ∷ entry 3 0 2 ∷ entry 4 1 3 ∷ entry 3 0 1 ∷ entry 4 0 1 ∷ [])
    (finished 3 ∷ refusal 22 ∷ refusal 20 ∷ refusal 21 ∷ finished 7 ∷ refusal 17 ∷ finished 5 ∷ [])
    ∷ []

abbrev shown : ℕ → List Task → String → Shown
shown e loops text = record { edition = e; loops = loops; text = text }

unfoldable pub own_texts : List Shown
own_texts =
    shown 1 (loop 10 9 10 ∷ []) "cores 2 loops 1\nloop 0 slack 0 bound 9 late 0\ncounted\n"
    -- an offset at the budget and below it
    ∷ shown 1 (loop 10 9 9 ∷ loop 10 9 8 ∷ []) "cores 2 loops 2\nloop 0 slack 0 bound 9 late 0\nloop 1 slack 0 bound 9 late 1\ncounted\n"
    -- a deadline above the budget and at it, whatever the offset; and below it
    ∷ shown 2 (due 10 9 0 10 ∷ due 10 9 10 9 ∷ []) "cores 2 loops 2\nloop 0 slack 0 bound 9 late 0\nloop 1 slack 0 bound 9 late 0\ncounted\n"
    ∷ shown 2 (due 10 9 10 8 ∷ []) "cores 2 loops 1\nloop 0 slack 0 bound 9 late 1\ncounted\n"
    ∷ shown 1 [] "refused 5 at 0\n"
    ∷ []

unfoldable pub own_sheets : List SheetCase
own_sheets = turned_away 1 pair 5 0 ∷ turned_away 2 (due 10 9 29 25 ∷ []) 5 0 ∷ turned_away 1 [] 5 0 ∷ []
