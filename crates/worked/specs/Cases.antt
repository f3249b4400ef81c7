-- Document 01, "Worked tables": P1 to P11 as theorems of the definitions, from a table's and a log's bytes to the verdict, slack, bounds and
-- counted loops, to what a run of the log writes, and to what `plan` prints.
--     Case         a table's loops and offered slack, a log, and what documents 01 and 02 say of them
--     cases        P1 to P11, P8, P9 and P10 in both forms; where document 01 gives no budgets or offsets they are ours. Behind them P2 with
--                  document 02's two jobs of equal priority points, and tables of ours: logs in which the order of such jobs is seen in the
--                  finish ticks; equal weights at the edge of the choice, in both orders, and among the counted loops; and other loops counted
--                  at the found slack than at zeros, and at an offered one than at the found
--     agrees       whether the definitions say the same of a case
--     Shown, texts, prints    a table's edition and loops and the text that `plan` prints for them
--     SheetCase, sheets, meets    a wish sheet's edition and loops and what document 02, §3, says of them: P1's, and sheets of ours beside the limits
use Rattle.std.specs.Prelude.{Ok, Err, ℕ, suc, Bool, true, false, ◌&&◌, List, [], ◌∷◌, ◌++◌, map, length, eqb}
use Prim.Native.String.{String}
use Rattle.laws.specs.Every.{same_list}
use Rattle.laws.specs.Tab.{tab}
use Rattle.tasks.specs.declared.Task.{Task}
use Rattle.tasks.specs.Answer.{Answer, Accepted, Refused}
use Rattle.tasks.specs.TaskSet.{plain_task as loop, row, bound}
use Rattle.tasks.specs.Content.{task_of}
use Rattle.tasks.specs.Tests.{unless_refused}
use Rattle.history.specs.Engine.{Engine}
use Rattle.history.specs.Log.{Entry}
use Rattle.history.specs.OnMachine.{machine_engine}
use Rattle.history.specs.Report.{Report, finished, refusal, report}
use Rattle.delivered.specs.Demand3.{run_on}
use Rattle.logs.specs.LogBytes.{entries_in, log_test}
use Rattle.numbers.specs.Bytes.{digits}
use Rattle.decimal.specs.Decimal.{words}
use Rattle.text.specs.Printed.{printed}
use Rattle.codec.specs.Table.{content_in, verdict, task_bytes}
use Rattle.table.specs.Judged.{counted_in}
use Rattle.sheet.specs.Wished.{wish_of}

pub record Case : Type 0 where
  -- document 01's number: 1 for P1; 0 for a table of ours
  pub p : ℕ
  -- how many cores, labelled from 0 on
  pub cores : ℕ
  pub loops : List Task
  pub offered : List ℕ
  pub answer : Answer
  pub slack : List ℕ
  pub bounds : List ℕ
  -- the counted loops, by name
  pub names : List ℕ
  pub log : List Entry
  pub reports : List Report

-- a table on m cores that is accepted with this slack, these bounds and these names
abbrev pub accepted_on : ℕ → ℕ → List Task → List ℕ → List ℕ → List ℕ → List ℕ → Case
accepted_on m p loops offered slack bounds names =
    record {
      p = p;
      cores = m;
      loops = loops;
      offered = offered;
      answer = Accepted;
      slack = slack;
      bounds = bounds;
      names = names;
      log = [];
      reports = [];
    }

-- "m = 2 throughout"
abbrev accepted : ℕ → List Task → List ℕ → List ℕ → List ℕ → List ℕ → Case
accepted = accepted_on 2

abbrev refused : ℕ → List Task → List ℕ → ℕ → ℕ → Case
refused p loops offered k i =
    record {
      p = p;
      cores = 2;
      loops = loops;
      offered = offered;
      answer = Refused k i;
      slack = [];
      bounds = [];
      names = [];
      log = [];
      reports = [];
    }

-- an accepted table with this loop counted, on which a log is run, with what is written of its entries
abbrev run : ℕ → List Task → ℕ → List Entry → List Report → Case
run p loops name log reports =
    record {
      p = p;
      cores = 2;
      loops = loops;
      offered = [];
      answer = Accepted;
      slack = [];
      bounds = [];
      names = name ∷ [];
      log = log;
      reports = reports;
    }

-- an entry of loop i at tick t with demand c
abbrev pub entry : ℕ → ℕ → ℕ → Entry
entry t i c = record { tick = t; loop = i; demand = c }

abbrev pub p3 : ℕ → List Task
p3 y = loop 2 1 2 ∷ loop 2 1 2 ∷ loop 3 3 y ∷ []

-- behind two loops whose weights are equal, 6: one of weight 4 and one of 12
abbrev others : List Task
others = loop 6 1 1 ∷ loop 2 1 1 ∷ []

-- at zeros the first weight is the largest, at the found slack the third, and at an offered one the first again
abbrev rising : List Task
rising = loop 6 1 4 ∷ loop 3 1 0 ∷ loop 2 1 1 ∷ []

abbrev pub p1 : List Task
p1 = loop 10 9 10 ∷ loop 10 9 10 ∷ loop 100 20 90 ∷ []

abbrev p2 : List Task
p2 = loop 10 9 5 ∷ loop 10 9 10 ∷ loop 100 20 90 ∷ []

-- loop 2 keeps one of the two cores while loop 1, released at 0, and loop 0 with this offset, released at 5, want the other; loop 1's point is 10
abbrev meeting : ℕ → List Task
meeting y = loop 10 2 y ∷ loop 10 9 10 ∷ loop 10 9 0 ∷ []

abbrev meeting_log : List Entry
meeting_log = entry 0 1 9 ∷ entry 0 2 9 ∷ entry 5 0 2 ∷ []

unfoldable pub cases : List Case
cases =
    accepted 1 p1 [] (6 ∷ 6 ∷ 0 ∷ []) (25 ∷ 25 ∷ 110 ∷ []) (2 ∷ [])
    ∷ accepted 2 p2 [] (9 ∷ 9 ∷ 3 ∷ []) (23 ∷ 28 ∷ 113 ∷ []) (2 ∷ [])
    ∷ accepted 3 (p3 0) [] (2 ∷ 2 ∷ 1 ∷ []) (5 ∷ 5 ∷ 4 ∷ []) (0 ∷ [])
    ∷ refused 4 p1 (5 ∷ 6 ∷ 0 ∷ []) 12 0
    ∷ accepted 5 p1 (6 ∷ 6 ∷ 1 ∷ []) (6 ∷ 6 ∷ 1 ∷ []) (25 ∷ 25 ∷ 111 ∷ []) (2 ∷ [])
    ∷ refused 6 p1 (6 ∷ 6 ∷ 11 ∷ []) 12 0
    ∷ refused 7 (loop 10 9 10 ∷ loop 10 9 10 ∷ loop 100 21 90 ∷ []) [] 10 0
    ∷ accepted 8 (loop 1 1 1 ∷ loop 100 29 100 ∷ loop 100 29 100 ∷ []) [] (14 ∷ 0 ∷ 0 ∷ []) (16 ∷ 129 ∷ 129 ∷ []) (1 ∷ [])
    ∷ refused 8 (loop 1 1 1 ∷ loop 100 30 100 ∷ loop 100 30 100 ∷ []) [] 13 0
    ∷ accepted 9 (loop 1000 1 0 ∷ loop 999 1 0 ∷ loop 1 1 1 ∷ []) [] (2 ∷ 2 ∷ 2 ∷ []) (3 ∷ 3 ∷ 4 ∷ []) (2 ∷ [])
    ∷ refused 9 (loop 1000 1 0 ∷ loop 1001 1 0 ∷ loop 1 1 1 ∷ []) [] 9 0
    ∷ run 10 (p3 0) 0 (entry 0 0 1 ∷ entry 0 1 1 ∷ entry 0 2 3 ∷ []) (finished 1 ∷ finished 2 ∷ finished 3 ∷ [])
    ∷ run 10 (p3 3) 2 (entry 0 0 1 ∷ entry 0 1 1 ∷ entry 0 2 3 ∷ []) (finished 1 ∷ finished 1 ∷ finished 4 ∷ [])
    ∷ run 11 (p3 0) 0 (entry 0 0 1 ∷ entry 1 0 1 ∷ entry 2 0 1 ∷ []) (finished 1 ∷ refusal 22 ∷ finished 3 ∷ [])
    -- "In P2 a job of loop 1 released at 0 goes before one of loop 0 released at 5": with a core for each, both run
    ∷ run 2 p2 2 (entry 0 1 9 ∷ entry 5 0 9 ∷ []) (finished 9 ∷ finished 14 ∷ [])
    -- with equal points the earlier release goes first, though its loop is higher; with the later release's point one earlier that goes first
    ∷ run 0 (meeting 5) 1 meeting_log (finished 9 ∷ finished 9 ∷ finished 11 ∷ [])
    ∷ run 0 (meeting 4) 1 meeting_log (finished 11 ∷ finished 9 ∷ finished 7 ∷ [])
    -- "and the lower loop only if these are equal too"
    ∷ run 0 (loop 10 9 10 ∷ loop 10 9 10 ∷ loop 10 2 0 ∷ []) 0 (entry 0 1 9 ∷ entry 0 0 9 ∷ entry 0 2 2 ∷ []) (finished 11 ∷ finished 9 ∷ finished 2 ∷ [])
    ∷ accepted_on 3 0 (loop 6 3 0 ∷ loop 3 1 0 ∷ others) [] (2 ∷ 3 ∷ 3 ∷ 3 ∷ []) (5 ∷ 4 ∷ 5 ∷ 5 ∷ []) (3 ∷ 0 ∷ [])
    ∷ accepted_on 3 0 (loop 3 1 0 ∷ loop 6 3 0 ∷ others) [] (3 ∷ 2 ∷ 3 ∷ 3 ∷ []) (4 ∷ 5 ∷ 5 ∷ 5 ∷ []) (3 ∷ 0 ∷ [])
    ∷ accepted_on 3 0 (loop 6 1 1 ∷ loop 2 1 1 ∷ loop 2 1 1 ∷ loop 6 3 0 ∷ []) [] (3 ∷ 3 ∷ 3 ∷ 2 ∷ []) (5 ∷ 5 ∷ 5 ∷ 5 ∷ []) (1 ∷ 2 ∷ [])
    ∷ accepted 0 rising [] (1 ∷ 1 ∷ 1 ∷ []) (6 ∷ 2 ∷ 3 ∷ []) (2 ∷ [])
    ∷ accepted 0 rising (3 ∷ 1 ∷ 1 ∷ []) (3 ∷ 1 ∷ 1 ∷ []) (8 ∷ 2 ∷ 3 ∷ []) (0 ∷ [])
    ∷ []

unfoldable pub concat : List (List ℕ) → List ℕ
concat [] = []
concat (a ∷ l) = a ++ concat l

-- a table of an edition on so many cores, labelled from 0 on
unfoldable pub table_with : ℕ → ℕ → List Task → List ℕ → List ℕ
table_with e m loops offered =
    (e ∷ m ∷ tab (λ i. i) m)
    ++ (length loops ∷ concat (map (task_bytes e) loops))
    ++ (length offered ∷ concat (map (digits 4) offered))

abbrev pub table_of : Case → List ℕ
table_of c = table_with 1 c.cores c.loops c.offered

abbrev pub entry_bytes : Entry → List ℕ
entry_bytes e = digits 4 e.tick ++ e.loop ∷ digits 4 e.demand

unfoldable pub log_of : Case → List ℕ
log_of c = digits 2 (length c.log) ++ concat (map entry_bytes c.log)

unfoldable pub same_report : Report → Report → Bool
same_report (finished f) (finished g) = eqb f g
same_report (finished f) (refusal k) = false
same_report (refusal k) (finished f) = false
same_report (refusal k) (refusal n) = eqb k n

-- the reports f of the entries from e on, of n in all, are these
unfoldable pub same_by : (ℕ → Report) → ℕ → ℕ → List Report → Bool
same_by f n e [] = eqb e n
same_by f n e (r ∷ rs) = same_report (f e) r && same_by f n (suc e) rs

abbrev pub same_reports : Engine → List Entry → ℕ → List Report → Bool
same_reports E l e rs = same_by (report E l) (length l) e rs

unfoldable pub answers_equal : Answer → Answer → Bool
answers_equal (Ok _) (Ok _) = true
answers_equal (Ok _) (Err r) = false
answers_equal (Err r) (Ok _) = false
answers_equal (Err r) (Err r') = eqb r.number r'.number && eqb r.index r'.index

unfoldable pub agrees : Case → Bool
agrees c =
    answers_equal (verdict (table_of c)) c.answer
    && same_list (tab (content_in (table_of c)).slack (length c.slack)) c.slack
    && same_list (tab (bound (content_in (table_of c)).tasks (content_in (table_of c)).slack) (length c.bounds)) c.bounds
    && same_list (counted_in (table_of c)) c.names
    && answers_equal (log_test (log_of c)) Accepted
    && same_reports (machine_engine (content_in (table_of c)).tasks) (entries_in (log_of c)) 0 c.reports

unfoldable pub agree_all : List Case → Bool
agree_all [] = true
agree_all (c ∷ l) = agrees c && agree_all l

pub record Shown : Type 0 where
  pub edition : ℕ
  pub loops : List Task
  pub text : String

-- "For P1 with labels 0 and 1 it prints, whole", and "for P1 `counted 2`"; "A refusal prints one line: `refused 7 at 1`", here of P1 with the second budget 11
unfoldable pub texts : List Shown
texts =
    record {
      edition = 1;
      loops = p1;
      text = "cores 2 loops 3\nloop 0 slack 6 bound 25 late 15\nloop 1 slack 6 bound 25 late 15\nloop 2 slack 0 bound 110 late 20\ncounted 2\n";
    }
    ∷ record { edition = 1; loops = loop 10 9 10 ∷ loop 10 11 10 ∷ loop 100 20 90 ∷ []; text = "refused 7 at 1\n" }
    ∷ []

unfoldable pub prints : Shown → Bool
prints s = same_list (printed (table_with s.edition 2 s.loops [])) (words s.text)

unfoldable pub print_all : List Shown → Bool
print_all [] = true
print_all (s ∷ l) = prints s && print_all l

-- where the table is accepted, a run of the log on the engine opened on its plan writes the reports
unfoldable pub run_agrees : Case → Bool
run_agrees c = unless_refused c.answer (same_reports (run_on (table_of c)) (entries_in (log_of c)) 0 c.reports) true

unfoldable pub run_all : List Case → Bool
run_all [] = true
run_all (c ∷ l) = run_agrees c && run_all l

pub record SheetCase : Type 0 where
  pub edition : ℕ
  -- each with its wish in the offset's place
  pub loops : List Task
  pub answer : Answer
  pub offsets : List ℕ
  pub slack : List ℕ

abbrev pub solved_by : ℕ → List Task → List ℕ → List ℕ → SheetCase
solved_by e loops offsets slack = record { edition = e; loops = loops; answer = Accepted; offsets = offsets; slack = slack }

-- "A refused judgement … hands back a plan … of zeros", and so does a refused sheet
abbrev pub turned_away : ℕ → List Task → ℕ → ℕ → SheetCase
turned_away e loops k i = record { edition = e; loops = loops; answer = Refused k i; offsets = 0 ∷ 0 ∷ 0 ∷ []; slack = 0 ∷ 0 ∷ 0 ∷ [] }

-- P1's loops with these wishes
abbrev p1_wishing : ℕ → ℕ → ℕ → List Task
p1_wishing u v w = loop 10 9 u ∷ loop 10 9 v ∷ loop 100 20 w ∷ []

-- "P1's loops wishing 29, 99, 90 get offsets 10, 10, 69 and slack 6, 6, 1." Behind it W = C, which no solution keeps, and the tick more that
-- one keeps; W = 16 × T, and one tick beyond each limit of 26; P1's third wish where a solution just exists, and one tick less
unfoldable pub sheets : List SheetCase
sheets =
    solved_by 1 (p1_wishing 29 99 90) (10 ∷ 10 ∷ 69 ∷ []) (6 ∷ 6 ∷ 1 ∷ [])
    ∷ turned_away 1 (loop 2 1 1 ∷ loop 2 1 32 ∷ loop 2 1 32 ∷ []) 27 0
    ∷ solved_by 1 (loop 2 1 2 ∷ loop 2 1 32 ∷ loop 2 1 32 ∷ []) (0 ∷ 2 ∷ 2 ∷ []) (1 ∷ 1 ∷ 1 ∷ [])
    ∷ solved_by 1 (p1_wishing 160 160 1600) (10 ∷ 10 ∷ 100 ∷ []) (6 ∷ 6 ∷ 0 ∷ [])
    ∷ turned_away 1 (p1_wishing 29 99 19) 26 2
    ∷ turned_away 1 (p1_wishing 29 161 90) 26 1
    ∷ solved_by 1 (p1_wishing 29 99 70) (10 ∷ 10 ∷ 45 ∷ []) (10 ∷ 10 ∷ 5 ∷ [])
    ∷ turned_away 1 (p1_wishing 29 99 69) 27 0
    ∷ []

-- the first entries of the plan that is handed back, as many as the case has
unfoldable pub meets : SheetCase → Bool
meets c =
    answers_equal (wish_of (table_with c.edition 2 c.loops [])).answer c.answer
    && same_list (tab (λ i. (task_of (wish_of (table_with c.edition 2 c.loops [])).plan.task i).offset) (length c.offsets)) c.offsets
    && same_list (tab (row (wish_of (table_with c.edition 2 c.loops [])).plan.slack) (length c.slack)) c.slack

unfoldable pub meet_all : List SheetCase → Bool
meet_all [] = true
meet_all (c ∷ l) = meets c && meet_all l
