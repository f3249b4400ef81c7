-- Document 01: "Each of the two answers one 64-bit number: n for judgement, taken + 65,536 × refused for a log run, and 4,294,967,296 × refusal
-- number + index for a refused call." The numbers that the C functions answer for worked tables, each written out.
--     worked-answers       they are
--     p10-number, p11_number    the log runs of P10 and P11
use Rattle.std.specs.Prelude.{ℕ, ◌+◌, ◌*◌, ◌&&◌, ◌≡◌, List, T, eqb}
use Rattle.std.proofs.Common.{ap₂, ◌∙◌, eqb→eq}
use Rattle.laws.specs.First.{first}
use Rattle.laws.specs.Sum.{sum, count, sum_over}
use Rattle.laws.specs.Settle.{same, settle}
use Rattle.laws.specs.Tab.{tab, cut}
use Rattle.laws.specs.Rank.{place, ranked, largest}
use Rattle.laws.specs.Multiple.{lcm, lcm_below}
use Rattle.laws.specs.Member.{member}
use Rattle.tasks.specs.Answer.{Accepted}
use Rattle.tasks.specs.TaskSet.{hyperperiod, share, weight, surplus, counted, amount, cover, covers, needed, row, raise, found, bound}
use Rattle.tasks.specs.Content.{no_task, counted_of}
use Rattle.tasks.specs.Tests.{lowest, first_met, outside, bad_label, test3, test4, test5, test6, test7, test8, test28, test9, test10, test11, test12, test13, tests}
use Rattle.tasks.specs.AnswerLaws.{first_met-passed}
use Rattle.machine.specs.Machine.{opened, joined, admitted, waiting, point, before, chosen, runs, served, advanced, tick}
use Rattle.machine.specs.Admission.{join_tests, admit_tests}
use Rattle.history.specs.Engine.{verdict as asked}
use Rattle.history.specs.Log.{largest as largestTick, back, until, calls, outcome}
use Rattle.history.specs.OnMachine.{answer_of, handed_of, machine_engine}
use Rattle.history.specs.Report.{taken_count, refused_count}
use Rattle.numbers.specs.Bytes.{byte, number, digits, entries}
use Rattle.decimal.specs.Decimal.{words, digits_in, decimal, said}
use Rattle.codec.specs.Table.{core_count, task_count, tasks_at, slack_count, slack_at, task_in, task_set_in, content_in, test1, test2, verdict, task_size, plain_bytes, task_bytes, bytes_of}
use Rattle.table.specs.Judged.{counted_in}
use Rattle.conversion.specs.Converted.{converted_task, converted, wanted_test, way_test, fit_test, convert_test}
use Rattle.wishes.specs.Wish.{with_offsets, largest_offset, at_slack, wished, passes, no_solution, sheet5, test26, sheet11, test27, wish_tests}
use Rattle.sheet.specs.Wished.{wish_verdict}
use Rattle.logs.specs.LogBytes.{entry_count, entry_in, entries_in, test14, test15, log_test}
use Rattle.replay.specs.Ran.{run_test}
use Rattle.wording.specs.Sentence.{wordings, wording, sentence_of}
use Rattle.wording.specs.Told.{sentence_test}
use Rattle.dahomike_answer.specs.Number.{answer_number}
use Rattle.dahomike.specs.Answers.{judge_test, judge_number, counted_test, counted_number, wish_test, wish_number, run_number, sentence_number, convert_number}
use Rattle.outcome.proofs.Editions.{run-number}
use Rattle.worked.specs.Cases.{concat, table_with, answers_equal}
use Rattle.worked.proofs.Cases.{parts, accepts}
use Rattle.test_answers.specs.Numbers.{answer_all, answers, counts, log_with, p10_log, p11_log, p3_with}

pub worked-answers : T (answer_all answers)
unfolding answers answer_all log_with concat table_with first sum sum_over tab cut place ranked largest lcm lcm_below hyperperiod share weight surplus counted amount cover covers needed row raise same settle found bound no_task counted_of lowest first_met outside bad_label test3 test4 test5 test6 test7 test8 test28 test9 test10 test11 test12 test13 tests byte number digits entries core_count task_count tasks_at slack_count slack_at task_in task_set_in content_in test1 test2 verdict task_size plain_bytes task_bytes bytes_of counted_in with_offsets largest_offset at_slack wished passes no_solution sheet5 test26 sheet11 test27 wish_tests wish_verdict converted_task converted wanted_test way_test fit_test convert_test entry_count entry_in entries_in test14 test15 log_test run_test words said decimal digits_in wordings wording sentence_of sentence_test answer_number judge_test judge_number counted_test counted_number wish_test wish_number run_number sentence_number convert_number
worked-answers = tt

counted-number :
    (t l : List ℕ) (room taken refused : ℕ) → T (counts t l room taken refused) → run_number t l room ≡ taken + 65536 * refused
unfolding counts run_test
counted-number t l room taken refused c =
    let first = parts (answers_equal (run_test t l room) Accepted) _ c in
    let rest = parts (eqb (taken_count (machine_engine (content_in t).tasks) (entries_in l)) taken) _ first.1 in
    let test = accepts (run_test t l room) first.0 in
    let table = first_met-passed (verdict t) _ test in
    run-number t table.0 l (first_met-passed (log_test l) _ table.1).0 room test
    ∙ ap₂ (λ (a b : ℕ). a + 65536 * b) (eqb→eq _ _ rest.0) (eqb→eq _ _ rest.1)

both : T (counts (p3_with 0) p10_log 24 3 0 && counts (p3_with 0) p11_log 24 2 1)
unfolding counts log_with concat table_with answers_equal first sum count sum_over tab cut place ranked largest lcm lcm_below hyperperiod share weight surplus counted amount cover covers needed row raise same settle found bound no_task lowest first_met outside bad_label test3 test4 test5 test6 test7 test8 test28 test9 test10 test11 test12 test13 tests byte number digits core_count task_count tasks_at slack_count slack_at task_in task_set_in content_in test1 test2 verdict task_size plain_bytes task_bytes entry_count entry_in entries_in test14 test15 log_test run_test opened join_tests admit_tests joined admitted waiting point before chosen runs served advanced tick asked largestTick back until calls outcome answer_of handed_of taken_count refused_count member
both = tt

pub p10-number : run_number (p3_with 0) p10_log 24 ≡ 3
p10-number = counted-number (p3_with 0) p10_log 24 3 0 (parts (counts (p3_with 0) p10_log 24 3 0) _ both).0

pub p11_number : run_number (p3_with 0) p11_log 24 ≡ 65538
p11_number = counted-number (p3_with 0) p11_log 24 2 1 (parts (counts (p3_with 0) p10_log 24 3 0) _ both).1
