-- What the engine's C calls answer on worked words and tables.
--     lent_answers, worked-lent      openings of P1, P4 and no table, and calls on words that do not fit, each number written out
--     p3-ready             P3 is accepted, and its bounds are 5, 5 and 4
--     p3-responses         whatever calls are made on lent words since an opening on P3: no step leaves a response above these
--     p3-room              and no release is answered 23
use Rattle.std.specs.Prelude.{ℕ, ◌≤◌, ◌<◌, ◌&&◌, ◌≡◌, List, T, eqb}
use Rattle.std.proofs.Common.{ap, eqb→eq}
use Rattle.std.proofs.Math.Path.{subst}
use Rattle.laws.specs.First.{first}
use Rattle.laws.specs.Sum.{sum, sum_over}
use Rattle.laws.specs.Settle.{same, settle}
use Rattle.laws.specs.Tab.{tab, cut}
use Rattle.laws.specs.Rank.{place, ranked, largest}
use Rattle.laws.specs.Multiple.{lcm, lcm_below}
use Rattle.tasks.specs.Answer.{Accepted}
use Rattle.tasks.specs.TaskSet.{hyperperiod, share, weight, surplus, counted, amount, cover, covers, needed, row, raise, found, bound}
use Rattle.tasks.specs.Content.{no_task, zero_plan, counted_of}
use Rattle.tasks.specs.Tests.{lowest, first_met, outside, bad_label, test3, test4, test5, test6, test7, test8, test28, test9, test10, test11, test12, test13, tests, test_plan}
use Rattle.numbers.specs.Bytes.{byte, number, digits}
use Rattle.codec.specs.Table.{core_count, task_count, tasks_at, slack_count, slack_at, task_in, task_set_in, content_in, test1, test2, verdict, task_size, plain_bytes, task_bytes}
use Rattle.table.specs.Judged.{counted_in, judged}
use Rattle.state.specs.State.{zero_state}
use Rattle.state.specs.SoundState.{all_of, sound_of}
use Rattle.state.specs.Calls.{step_tests, release_tests, release_of, not_stepped, step_of}
use Rattle.history.specs.Engine.{Call, clock, state, verdict as asked}
use Rattle.dahomike_answer.specs.Number.{answer_number}
use Rattle.engine_words.specs.Words.{fits, plan_in, fields_in, said}
use Rattle.engine_lent.specs.Lent.{open_number, release_number, step_number, responses_leave}
use Rattle.engine_controller.specs.Controller.{outcome_in, controller_of}
use Rattle.engine_controller.proofs.ControllerLaws.{controller_history, controller_responses}
use Rattle.worked.specs.Cases.{concat, table_with, answers_equal}
use Rattle.worked.proofs.Cases.{parts, accepts}
use Rattle.test_answers.specs.Numbers.{answer_all}
use Rattle.test_answers.specs.Controlled.{bound3, lent_answers, p3_table}

pub worked-lent : T (answer_all lent_answers)
unfolding lent_answers answer_all concat table_with first sum sum_over tab cut place ranked largest lcm lcm_below hyperperiod share weight surplus counted amount cover covers needed row raise same settle found bound no_task zero_plan counted_of lowest first_met outside bad_label test3 test4 test5 test6 test7 test8 test28 test9 test10 test11 test12 test13 tests test_plan byte number digits core_count task_count tasks_at slack_count slack_at task_in task_set_in content_in test1 test2 verdict task_size plain_bytes task_bytes counted_in judged zero_state all_of sound_of step_tests release_tests release_of not_stepped step_of answer_number fits plan_in fields_in said open_number release_number step_number
worked-lent = tt

p3-ready : T (answers_equal (verdict p3_table) Accepted && (eqb (bound3 0) 5 && (eqb (bound3 1) 5 && eqb (bound3 2) 4)))
unfolding bound3 concat table_with answers_equal first sum sum_over tab cut place ranked largest lcm lcm_below hyperperiod share weight surplus counted amount cover covers needed row raise same settle found bound no_task lowest first_met outside bad_label test3 test4 test5 test6 test7 test8 test28 test9 test10 test11 test12 test13 tests byte number digits core_count task_count tasks_at slack_count slack_at task_in task_set_in content_in test1 test2 verdict task_size plain_bytes task_bytes
p3-ready = tt

p3-accepted : verdict p3_table ≡ Accepted
p3-accepted = accepts (verdict p3_table) (parts (answers_equal (verdict p3_table) Accepted) _ p3-ready).0

module _ (ws : List ℕ) (h : List Call) where
  pub p3-responses :
      (lent : List ℕ) → step_number (state (controller_of p3_table ws) h) ≡ 0 → row (responses_leave (state (controller_of p3_table ws) h) lent) 2 ≤ 4
  unfolding bound3
  p3-responses lent e =
      let three = parts (eqb (bound3 1) 5) _ (parts (eqb (bound3 0) 5) _ (parts (answers_equal (verdict p3_table) Accepted) _ p3-ready).1).1 in
      subst (λ b. row (responses_leave (state (controller_of p3_table ws) h) lent) 2 ≤ b) (eqb→eq (bound3 2) 4 three.1)
      (controller_responses p3_table ws p3-accepted h lent 2 e)

  -- 23 × 4,294,967,296
  pub p3-room : (i c : ℕ) → clock h < 4000000000 → release_number (state (controller_of p3_table ws) h) i c ≡ 98784247808 → ⊥
  unfolding asked outcome_in
  p3-room i c l e = (controller_history p3_table ws p3-accepted).never_23 h i c l (ap outcome_in e)
