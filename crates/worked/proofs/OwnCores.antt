-- Document 02, §7: tables with loops no more than cores as theorems of the definitions, from a table's and a log's bytes to verdict, slack, bounds and
-- names, to what a run of the log writes, and to what `plan` prints.
--     worked-own       the definitions agree in every case and text; own_runs: and so does the delivered engine's run
--     worked-own-sheets    and of every sheet
use Rattle.std.specs.Prelude.{Bool, true, false, ◌&&◌, T}
use Rattle.laws.specs.First.{first}
use Rattle.laws.specs.Every.{same_list}
use Rattle.laws.specs.Sum.{sum, sum_over}
use Rattle.laws.specs.Settle.{same, settle}
use Rattle.laws.specs.Tab.{tab, cut}
use Rattle.laws.specs.Rank.{place, ranked, largest}
use Rattle.laws.specs.Multiple.{lcm, lcm_below}
use Rattle.tasks.specs.TaskSet.{hyperperiod, share, weight, surplus, counted, amount, cover, covers, needed, row, raise, found, bound}
use Rattle.tasks.specs.Content.{no_task, task_of, plan_of, zero_plan, counted_of, late_of, late}
use Rattle.tasks.specs.Tests.{lowest, first_met, outside, bad_label, test3, test4, test5, test6, test7, test8, test28, test9, test10, test11, test12, test13, tests}
use Rattle.machine.specs.Machine.{opened, joined, admitted, waiting, point, before, chosen, runs, served, advanced, tick}
use Rattle.machine.specs.Admission.{join_tests, admit_tests}
use Rattle.history.specs.Engine.{verdict as asked, demanded, named_ticks}
use Rattle.history.specs.Log.{largest as largestTick, back, until, calls, outcome, owed, all_owed, rest, whole}
use Rattle.history.specs.OnMachine.{answer_of, handed_of, quiet_of}
use Rattle.history.specs.Report.{finish_tick, report}
use Rattle.logs.specs.LogBytes.{entry_count, entry_in, entries_in, test14, test15, log_test}
use Rattle.laws.specs.Member.{member}
use Rattle.numbers.specs.Bytes.{byte, number, digits, entries}
use Rattle.decimal.specs.Decimal.{words, digits_in, decimal, said}
use Rattle.text.specs.Printed.{pair_line, counts_line, task_line, refusal_line, line_of, counted_line, plan_lines, plan_text, printed}
use Rattle.codec.specs.Table.{core_count, task_count, tasks_at, slack_count, slack_at, task_in, task_set_in, content_in, test1, test2, verdict, task_size, plain_bytes, task_bytes}
use Rattle.table.specs.Judged.{counted_in}
use Rattle.wishes.specs.Wish.{with_offsets, largest_offset, at_slack, wished, passes, no_solution, sheet5, test26, sheet11, test27, wish_tests, solved}
use Rattle.sheet.specs.Wished.{wish_verdict, wish_of}
use Rattle.worked.specs.Cases.{concat, table_with, log_of, same_report, same_by, answers_equal, agrees, agree_all, run_all, prints, print_all, meets, meet_all}
use Rattle.worked.proofs.Cases.{all-delivered}
use Rattle.worked.specs.OwnCores.{own_cases, own_sheets, own_texts}

pub worked-own : T (agree_all own_cases && print_all own_texts)
unfolding own_cases concat table_with answers_equal same_list agrees agree_all first sum sum_over tab cut place ranked largest lcm lcm_below hyperperiod share weight surplus counted amount cover covers needed row raise same settle found bound no_task lowest first_met outside bad_label test3 test4 test5 test6 test7 test8 test28 test9 test10 test11 test12 test13 tests byte number digits core_count task_count tasks_at slack_count slack_at task_in task_set_in content_in test1 test2 verdict task_size plain_bytes task_bytes log_of same_report same_by entry_count entry_in entries_in test14 test15 log_test opened join_tests admit_tests joined admitted waiting point before chosen runs served advanced tick asked demanded named_ticks largestTick back until calls outcome owed all_owed rest whole answer_of handed_of quiet_of finish_tick report member own_texts prints print_all late_of late counted_of counted_in printed plan_text plan_lines counted_line counts_line task_line refusal_line pair_line line_of words said decimal digits_in entries
worked-own = tt

pub own_runs : T (run_all own_cases)
own_runs = all-delivered own_cases (first_of (agree_all own_cases) (print_all own_texts) worked-own)
  where
    first_of : (a b : Bool) → T (a && b) → T a
    first_of true b t = tt
    first_of false b t = absurd t

pub worked-own-sheets : T (meet_all own_sheets)
unfolding own_sheets meets meet_all concat table_with answers_equal same_list first sum sum_over tab cut place ranked largest lcm lcm_below hyperperiod share weight surplus counted amount cover covers needed row raise same settle no_task task_of plan_of zero_plan lowest first_met outside bad_label test3 test4 sheet5 test6 test7 test28 test9 test10 byte number digits core_count task_count tasks_at slack_count slack_at task_in task_set_in content_in test1 test2 task_size plain_bytes task_bytes with_offsets largest_offset at_slack wished passes no_solution test26 sheet11 test27 wish_tests solved wish_verdict wish_of
worked-own-sheets = tt
