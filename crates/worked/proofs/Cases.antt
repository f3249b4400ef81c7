-- Document 01, "Worked tables": P1 to P11 as theorems of the definitions, from a table's and a log's bytes to the verdict, slack, bounds and
-- counted loops, to what a run of the log writes, and to what `plan` prints.
--     rows         these are its 23 rows
--     worked       the definitions agree in every case, with the log run on the abstract machine, and in every text
--     worked-runs  and so does the delivered engine's run; all-delivered: as in any list of cases
--     parts, accepts    a test of two parts, and one of an answer, taken apart
--     worked-sheets               the definitions say the same of every sheet
use Rattle.std.specs.Prelude.{Ok, Err, ℕ, Bool, true, false, ◌&&◌, ◌≡◌, refl, List, [], ◌∷◌, map, length, T}
use Rattle.std.proofs.Common.{sym, subst}
use Rattle.laws.specs.First.{first}
use Rattle.laws.specs.Every.{same_list}
use Rattle.laws.specs.Sum.{sum, sum_over}
use Rattle.laws.specs.Settle.{same, settle}
use Rattle.laws.specs.Tab.{tab, cut}
use Rattle.laws.specs.Rank.{place, ranked, largest}
use Rattle.laws.specs.Multiple.{lcm, lcm_below}
use Rattle.tasks.specs.Answer.{Answer, Accepted}
use Rattle.tasks.specs.TaskSet.{hyperperiod, share, weight, surplus, counted, amount, cover, covers, needed, row, raise, found, bound}
use Rattle.tasks.specs.Content.{no_task, task_of, plan_of, zero_plan, counted_of, late_of, late}
use Rattle.tasks.specs.Tests.{lowest, first_met, outside, bad_label, test3, test4, test5, test6, test7, test8, test28, test9, test10, test11, test12, test13, tests, unless_refused}
use Rattle.machine.specs.Machine.{opened, joined, admitted, waiting, point, before, chosen, runs, served, advanced, tick}
use Rattle.machine.specs.Admission.{join_tests, admit_tests}
use Rattle.history.specs.Engine.{verdict as asked, demanded, named_ticks}
use Rattle.history.specs.Log.{largest as largestTick, back, until, calls, outcome, owed, all_owed, rest, whole}
use Rattle.history.specs.OnMachine.{answer_of, handed_of, quiet_of, machine_engine}
use Rattle.history.specs.Report.{Report, finish_tick, report}
use Rattle.delivered.specs.Demand3.{run_on}
use Rattle.delivered.proofs.Demand3.{demand_machine}
use Rattle.logs.specs.LogBytes.{entry_count, entry_in, entries_in, test14, test15, log_test}
use Rattle.laws.specs.Member.{member}
use Rattle.numbers.specs.Bytes.{byte, number, digits, entries}
use Rattle.decimal.specs.Decimal.{words, digits_in, decimal, said}
use Rattle.text.specs.Printed.{pair_line, counts_line, task_line, refusal_line, line_of, counted_line, plan_lines, plan_text, printed}
use Rattle.codec.specs.Table.{core_count, task_count, tasks_at, slack_count, slack_at, task_in, task_set_in, content_in, test1, test2, verdict, task_size, plain_bytes, task_bytes}
use Rattle.table.specs.Judged.{counted_in}
use Rattle.wishes.specs.Wish.{with_offsets, largest_offset, at_slack, wished, passes, no_solution, sheet5, test26, sheet11, test27, wish_tests, solved}
use Rattle.sheet.specs.Wished.{wish_verdict, wish_of}
use Rattle.worked.specs.Cases.{Case, agree_all, agrees, answers_equal, cases, concat, log_of, meet_all, meets, print_all, prints, run_agrees, run_all, same_by, same_report, same_reports, sheets, table_of, table_with, texts}

pub rows : map (λ (c : Case). c.p) cases ≡ 1 ∷ 2 ∷ 3 ∷ 4 ∷ 5 ∷ 6 ∷ 7 ∷ 8 ∷ 8 ∷ 9 ∷ 9 ∷ 10 ∷ 10 ∷ 11 ∷ 2 ∷ 0 ∷ 0 ∷ 0 ∷ 0 ∷ 0 ∷ 0 ∷ 0 ∷ 0 ∷ []
unfolding cases
rows = refl

pub worked : T (agree_all cases && print_all texts)
unfolding cases concat table_with answers_equal same_list agrees agree_all first sum sum_over tab cut place ranked largest lcm lcm_below hyperperiod share weight surplus counted amount cover covers needed row raise same settle found bound no_task lowest first_met outside bad_label test3 test4 test5 test6 test7 test8 test28 test9 test10 test11 test12 test13 tests byte number digits core_count task_count tasks_at slack_count slack_at task_in task_set_in content_in test1 test2 verdict task_size plain_bytes task_bytes log_of same_report same_by entry_count entry_in entries_in test14 test15 log_test opened join_tests admit_tests joined admitted waiting point before chosen runs served advanced tick asked demanded named_ticks largestTick back until calls outcome owed all_owed rest whole answer_of handed_of quiet_of finish_tick report member texts prints print_all late_of late counted_of counted_in printed plan_text plan_lines counted_line counts_line task_line refusal_line pair_line line_of words said decimal digits_in entries
worked = tt

pub parts : (a b : Bool) → T (a && b) → T a × T b
parts true b t = (tt, t)
parts false b t = absurd t

both : (a b : Bool) → T a → T b → T (a && b)
both true b s t = t
both false b s t = s

pub accepts : (a : Answer) → T (answers_equal a Accepted) → a ≡ Accepted
unfolding answers_equal
accepts (Ok tt) t = refl
accepts (Err r) t = absurd t

-- the first, the fifth and the last of six
three : (a b c d e f : Bool) → T (a && b && c && d && e && f) → T a × T e × T f
three true true true true true f t = (tt, tt, t)
three true true true true false f t = absurd t
three true true true false e f t = absurd t
three true true false d e f t = absurd t
three true false c d e f t = absurd t
three false b c d e f t = absurd t

delivered : (c : Case) → T (agrees c) → T (run_agrees c)
unfolding agrees run_agrees
delivered c t = go c.answer all.0
  where
    all :
        T (answers_equal (verdict (table_of c)) c.answer) × T (answers_equal (log_test (log_of c)) Accepted)
        × T (same_reports (machine_engine (content_in (table_of c)).tasks) (entries_in (log_of c)) 0 c.reports)
    all =
        three
        (answers_equal (verdict (table_of c)) c.answer)
        (same_list (tab (content_in (table_of c)).slack (length c.slack)) c.slack)
        (same_list (tab (bound (content_in (table_of c)).tasks (content_in (table_of c)).slack) (length c.bounds)) c.bounds)
        (same_list (counted_in (table_of c)) c.names)
        (answers_equal (log_test (log_of c)) Accepted)
        (same_reports (machine_engine (content_in (table_of c)).tasks) (entries_in (log_of c)) 0 c.reports)
        t

    go :
        (a : Answer) → T (answers_equal (verdict (table_of c)) a)
        → T (unless_refused a (same_reports (run_on (table_of c)) (entries_in (log_of c)) 0 c.reports) true)
    go (Ok tt) q =
        subst (λ (f : ℕ → Report). T (same_by f (length (entries_in (log_of c))) 0 c.reports))
        (sym (demand_machine (table_of c) (accepts _ q) (log_of c) (accepts _ all.1))) all.2
    go (Err r) q = tt

pub all-delivered : (l : List Case) → T (agree_all l) → T (run_all l)
unfolding agree_all run_all
all-delivered [] t = tt
all-delivered (c ∷ l) t =
    let p = parts (agrees c) (agree_all l) t in
    both (run_agrees c) (run_all l) (delivered c p.0) (all-delivered l p.1)

pub worked-runs : T (run_all cases)
worked-runs = all-delivered cases (parts (agree_all cases) (print_all texts) worked).0

pub worked-sheets : T (meet_all sheets)
unfolding sheets meets meet_all concat table_with answers_equal same_list first sum sum_over tab cut place ranked largest lcm lcm_below hyperperiod share weight surplus counted amount cover covers needed row raise same settle no_task task_of plan_of zero_plan lowest first_met outside bad_label test3 test4 sheet5 test6 test7 test28 test9 test10 byte number digits core_count task_count tasks_at slack_count slack_at task_in task_set_in content_in test1 test2 task_size plain_bytes task_bytes with_offsets largest_offset at_slack wished passes no_solution test26 sheet11 test27 wish_tests solved wish_verdict wish_of
worked-sheets = tt
