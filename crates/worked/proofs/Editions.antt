-- Document 02, §5: P1 in edition 2 as theorems of the definitions, from a table's bytes to what `plan` prints and from a sheet's to its plan.
--     due_texts, worked-due      deadlines below, at and above each bound, at and beside the limits of 28, and 8, 28 and 9 in this order
--     due_sheets, worked-due-sheets    P1's wish sheet in edition 2, and 26, 28 and 9 in this order
--     due-kept         the plan found for that sheet is of edition 2 and has its deadlines
use Rattle.std.specs.Prelude.{◌&&◌, [], ◌∷◌, T}
use Rattle.laws.specs.First.{first}
use Rattle.laws.specs.Every.{same_list}
use Rattle.laws.specs.Sum.{sum, sum_over}
use Rattle.laws.specs.Settle.{same, settle}
use Rattle.laws.specs.Tab.{tab, cut}
use Rattle.laws.specs.Rank.{place, ranked, largest}
use Rattle.laws.specs.Multiple.{lcm, lcm_below}
use Rattle.tasks.specs.TaskSet.{hyperperiod, share, weight, surplus, counted, amount, cover, covers, needed, row, raise, found, bound}
use Rattle.tasks.specs.Content.{no_task, task_of, plan_of, zero_plan, counted_of, late_of, late}
use Rattle.tasks.specs.Tests.{lowest, first_met, outside, bad_label, test3, test4, test5, test6, test7, test8, test28, test9, test10, test11, test12, test13, tests}
use Rattle.numbers.specs.Bytes.{byte, number, digits, entries}
use Rattle.decimal.specs.Decimal.{words, digits_in, decimal, said}
use Rattle.text.specs.Printed.{pair_line, counts_line, task_line, refusal_line, line_of, counted_line, plan_lines, plan_text, printed}
use Rattle.codec.specs.Table.{core_count, task_count, tasks_at, slack_count, slack_at, task_in, task_set_in, content_in, test1, test2, verdict, task_size, plain_bytes, task_bytes}
use Rattle.table.specs.Judged.{counted_in}
use Rattle.wishes.specs.Wish.{with_offsets, largest_offset, at_slack, wished, passes, no_solution, sheet5, test26, sheet11, test27, wish_tests, solved}
use Rattle.sheet.specs.Wished.{wish_verdict, wish_of}
use Rattle.worked.specs.Cases.{concat, table_with, answers_equal, prints, print_all, meets, meet_all}
use Rattle.worked.specs.Editions.{due_sheets, due_texts, kept, wishing_due}

pub worked-due : T (print_all due_texts)
unfolding due_texts concat table_with same_list first sum sum_over tab cut place ranked largest lcm lcm_below hyperperiod share weight surplus counted amount cover covers needed row raise same settle found bound no_task lowest first_met outside bad_label test3 test4 test5 test6 test7 test8 test28 test9 test10 test11 test12 test13 tests byte number digits core_count task_count tasks_at slack_count slack_at task_in task_set_in content_in test1 test2 verdict task_size plain_bytes task_bytes prints print_all late_of late counted_of counted_in printed plan_text plan_lines counted_line counts_line task_line refusal_line pair_line line_of words said decimal digits_in entries
worked-due = tt

pub worked-due-sheets : T (meet_all due_sheets)
unfolding due_sheets meets meet_all concat table_with answers_equal same_list first sum sum_over tab cut place ranked largest lcm lcm_below hyperperiod share weight surplus counted amount cover covers needed row raise same settle no_task task_of plan_of zero_plan lowest first_met outside bad_label test3 test4 sheet5 test6 test7 test28 test9 test10 byte number digits core_count task_count tasks_at slack_count slack_at task_in task_set_in content_in test1 test2 task_size plain_bytes task_bytes with_offsets largest_offset at_slack wished passes no_solution test26 sheet11 test27 wish_tests solved wish_verdict wish_of
worked-due-sheets = tt

-- "A wish sheet may be of either edition"
pub due-kept : T (kept wishing_due 2 (25 ∷ 26 ∷ 1 ∷ []) && kept wishing_due 1 (0 ∷ 0 ∷ 0 ∷ []))
unfolding kept concat table_with answers_equal same_list first sum sum_over tab cut place ranked largest lcm lcm_below hyperperiod share weight surplus counted amount cover covers needed row raise same settle no_task task_of plan_of zero_plan lowest first_met outside bad_label test3 test4 sheet5 test6 test7 test28 test9 test10 byte number digits core_count task_count tasks_at slack_count slack_at task_in task_set_in content_in test1 test2 task_size plain_bytes task_bytes with_offsets largest_offset at_slack wished passes no_solution test26 sheet11 test27 wish_tests solved wish_verdict wish_of
due-kept = tt
