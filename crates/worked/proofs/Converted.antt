-- Document 02, §6: tables between the editions as theorems of the definitions, from a table's bytes to what `convert` answers and leaves behind.
--     worked-conversions     they do, of every one
use Rattle.std.specs.Prelude.{T}
use Rattle.laws.specs.First.{first}
use Rattle.laws.specs.Every.{same_list}
use Rattle.laws.specs.Sum.{sum, sum_over}
use Rattle.laws.specs.Settle.{same, settle}
use Rattle.laws.specs.Tab.{tab, cut}
use Rattle.laws.specs.Rank.{place, ranked, largest}
use Rattle.laws.specs.Multiple.{lcm, lcm_below}
use Rattle.tasks.specs.TaskSet.{hyperperiod, share, weight, surplus, counted, amount, cover, covers, needed, row, raise, found, bound}
use Rattle.tasks.specs.Content.{no_task}
use Rattle.tasks.specs.Tests.{lowest, first_met, outside, bad_label, test3, test4, test5, test6, test7, test8, test28, test9, test10, test11, test12, test13, tests}
use Rattle.numbers.specs.Bytes.{byte, number, digits, entries}
use Rattle.codec.specs.Table.{core_count, task_count, tasks_at, slack_count, slack_at, task_in, task_set_in, content_in, test1, test2, verdict, task_size, plain_bytes, task_bytes, bytes_of}
use Rattle.conversion.specs.Converted.{converted_task, converted, wanted_test, way_test, fit_test, convert_test, converted_length, converted_to}
use Rattle.worked.specs.Cases.{concat, table_with, answers_equal}
use Rattle.worked.specs.Converted.{conversions, convert_all, converts}

pub worked-conversions : T (convert_all conversions)
unfolding conversions converts convert_all concat table_with answers_equal same_list first sum sum_over tab cut place ranked largest lcm lcm_below hyperperiod share weight surplus counted amount cover covers needed row raise same settle found bound no_task lowest first_met outside bad_label test3 test4 test5 test6 test7 test8 test28 test9 test10 test11 test12 test13 tests byte number digits entries core_count task_count tasks_at slack_count slack_at task_in task_set_in content_in test1 test2 verdict task_size plain_bytes task_bytes bytes_of converted_task converted wanted_test way_test fit_test convert_test converted_length converted_to
worked-conversions = tt
