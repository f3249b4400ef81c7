-- Document 01's P10 in both forms and P11, logs that meet 17, 20, 21 and 22, and one of no more loops than cores, as theorems of the definitions: what
-- a run on the abstract machine writes of each entry.
--     Case, cases       a table, a log, and what is written of each entry
--     worked            the definitions say so of every case
use Rattle.std.specs.Prelude.{ℕ, suc, Bool, true, false, ◌&&◌, List, [], ◌∷◌, length, T, eqb}
use Rattle.laws.specs.First.{first}
use Rattle.laws.specs.Sum.{sum, count}
use Rattle.laws.specs.Tab.{tab}
use Rattle.laws.specs.Rank.{place, ranked}
use Rattle.laws.specs.Member.{member}
use Rattle.tasks.specs.TaskSet.{TaskSet}
use Rattle.tasks.specs.Content.{no_task, task_of}
use Rattle.tasks.specs.Tests.{first_met, outside}
use Rattle.machine.specs.Admission.{join_tests, admit_tests}
use Rattle.machine.specs.Machine.{opened, joined, admitted, waiting, point, before, chosen, runs, served, advanced, tick}
use Rattle.machine.specs.Met.{p3, pair}
use Rattle.history.specs.Engine.{Engine, verdict, demanded, named_ticks}
use Rattle.history.specs.Log.{Entry, largest, back, until, calls, outcome, owed, all_owed, rest, whole}
use Rattle.history.specs.OnMachine.{answer_of, handed_of, quiet_of, machine_engine}
use Rattle.history.specs.Report.{Report, finished, refusal, finish_tick, report, taken_count, refused_count}

abbrev entry : ℕ → ℕ → ℕ → Entry
entry t i c = record { tick = t; loop = i; demand = c }

pub record Case : Type 0 where
  pub table : TaskSet
  pub log : List Entry
  pub reports : List Report
  pub takes : ℕ
  pub refuses : ℕ

abbrev case : TaskSet → List Entry → List Report → ℕ → ℕ → Case
case s l r t n = record { table = s; log = l; reports = r; takes = t; refuses = n }

pub cases : List Case
cases =
    -- P10: "P3, all released at tick 0 with full budgets: finish ticks 1, 2, 3."
    case (p3 0) (entry 0 0 1 ∷ entry 0 1 1 ∷ entry 0 2 3 ∷ []) (finished 1 ∷ finished 2 ∷ finished 3 ∷ []) 3 0
    -- "With the third offset 3: 1, 1, 4."
    ∷ case (p3 3) (entry 0 0 1 ∷ entry 0 1 1 ∷ entry 0 2 3 ∷ []) (finished 1 ∷ finished 1 ∷ finished 4 ∷ []) 3 0
    -- P11: "P3, loop 0 at ticks 0, 1, 2, demand 1: taken, refused 22, taken."
    ∷ case (p3 0) (entry 0 0 1 ∷ entry 1 0 1 ∷ entry 2 0 1 ∷ []) (finished 1 ∷ refusal 22 ∷ finished 3 ∷ []) 2 1
    -- no entry: no step
    ∷ case (p3 0) [] [] 0 0
    -- each number of an entry, also where it meets a later number too; the last three are taken, the first of them T after the last one taken
    -- of its loop, the second with a demand below its budget
    ∷ case (p3 0)
    (entry 5 0 1
    ∷ entry 4 1 1
    ∷ entry 0 9 0
    ∷ entry 5 3 1
    ∷ entry 5 9 0
    ∷ entry 5 1 0
    ∷ entry 5 0 2
    ∷ entry 6 0 1
    ∷ entry 7 0 1
    ∷ entry 7 2 2
    ∷ entry 6 1 1
    ∷ entry 7 1 1
    ∷ [])
    (finished 6
    ∷ refusal 17
    ∷ refusal 17
    ∷ refusal 20
    ∷ refusal 20
    ∷ refusal 21
    ∷ refusal 21
    ∷ refusal 22
    ∷ finished 8
    ∷ finished 9
    ∷ refusal 17
    ∷ finished 9
    ∷ [])
    4
    8
    -- P3's first and third loop on its two cores: each finishes after its demand, in a log that isn't kept too
    ∷ case pair
    (entry 0 0 1 ∷ entry 0 1 3 ∷ entry 1 0 1 ∷ entry 1 2 1 ∷ entry 3 1 2 ∷ entry 3 0 1 ∷ [])
    (finished 1 ∷ finished 3 ∷ refusal 22 ∷ refusal 20 ∷ finished 5 ∷ finished 4 ∷ [])
    4
    2
    ∷ []

pub same : Report → Report → Bool
same (finished f) (finished g) = eqb f g
same (finished f) (refusal k) = false
same (refusal k) (finished f) = false
same (refusal k) (refusal n) = eqb k n

-- the reports of the entries from e on are these
pub agree : Engine → List Entry → ℕ → List Report → Bool
agree E l e [] = eqb e (length l)
agree E l e (r ∷ rs) = same (report E l e) r && agree E l (suc e) rs

pub agrees : Case → Bool
agrees c =
    agree (machine_engine c.table) c.log 0 c.reports
    && eqb (taken_count (machine_engine c.table) c.log) c.takes
    && eqb (refused_count (machine_engine c.table) c.log) c.refuses

pub agree_all : List Case → Bool
agree_all [] = true
agree_all (c ∷ l) = agrees c && agree_all l

pub worked : T (agree_all cases)
unfolding cases same agree agrees agree_all p3 pair first sum count tab place ranked member no_task task_of outside first_met opened join_tests admit_tests joined admitted waiting point before chosen runs served advanced tick verdict demanded named_ticks largest back until calls outcome owed all_owed rest whole answer_of handed_of quiet_of finish_tick report taken_count refused_count
worked = tt
