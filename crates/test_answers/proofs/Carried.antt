-- What theorems about every table come to for P1, P5 and P9. A row's test is computed of the table alone; what it says of the calls follows from the
-- theorems, so that a weaker theorem does not give it.
--     carried_rows         they do so with every row
--     p9, p9-multiple      P9's H is 999,000
use Rattle.std.specs.Prelude.{ℕ, zero, suc, ◌-◌, ◌*◌, ◌/◌, ◌%◌, ◌≤◌, ◌<◌, Bool, true, false, ◌≡◌, refl, List, [], ◌∷◌, length, T, ltb, leb, eqb}
use Rattle.std.proofs.Common.{ap, ◌∙◌, ⊎_elim, arith, eqb→eq, leb→le, ltb-true}
use Rattle.std.proofs.Math.ListN.{get_or-eq_default}
use Rattle.laws.specs.Every.{every, same_list}
use Rattle.laws.specs.EveryLaws.{below_or_not, every-at, same_list_lem}
use Rattle.laws.specs.First.{first}
use Rattle.laws.specs.Sum.{sum, sum_over}
use Rattle.laws.specs.Settle.{same, settle}
use Rattle.laws.specs.Tab.{tab, cut}
use Rattle.laws.specs.TabLaws.{tab_ext}
use Rattle.laws.specs.Rank.{place, ranked, largest}
use Rattle.laws.specs.Multiple.{lcm, lcm_below}
use Rattle.tasks.specs.Answer.{Accepted}
use Rattle.tasks.specs.TaskSet.{hyperperiod, share, weight, surplus, counted, amount, cover, covers, needed, row, raise, found, bound}
use Rattle.tasks.specs.Content.{no_task, late_of, late}
use Rattle.tasks.specs.Tests.{lowest, first_met, outside, bad_label, test3, test4, test5, test6, test7, test8, test28, test9, test10, test11, test12, test13, tests}
use Rattle.tasks.specs.Terms.{limit_tests}
use Rattle.tasks.proofs.TaskTheorems.{H_is_least}
use Rattle.numbers.specs.Bytes.{byte, number, digits, entries}
use Rattle.numbers.specs.ByteLaws.{Bytes}
use Rattle.codec.specs.Table.{edition_in, core_count, task_count, tasks_at, slack_count, slack_at, task_in, task_set_in, content_in, test1, test2, verdict, task_size, plain_bytes, task_bytes, bytes_of}
use Rattle.roundtrip.proofs.RoundTrip.{table-again}
use Rattle.conversion.specs.Converted.{converted_task, converted, wanted_test, way_test, fit_test, convert_test}
use Rattle.conversion.proofs.ConvertTheorems.{table-passed, convert_twins, convert_edition, there_and_back}
use Rattle.worked.specs.Cases.{concat, table_with, answers_equal}
use Rattle.worked.proofs.Cases.{parts, accepts}
use Rattle.test_answers.specs.Carried.{Carried, Row, Rows, bounds_in, carried, lent, limits_pass, p9, ready, ready_all, slack_in}

rows-ready : T (ready_all carried)
unfolding carried ready ready_all concat table_with answers_equal same_list every first sum sum_over tab cut place ranked largest lcm lcm_below hyperperiod share weight surplus counted amount cover covers needed row raise same settle found bound late_of late no_task lowest first_met outside bad_label test3 test4 test5 test6 test7 test8 test28 test9 test10 test11 test12 test13 tests byte number digits entries core_count task_count tasks_at slack_count slack_at task_in task_set_in content_in test1 test2 verdict task_size plain_bytes task_bytes bytes_of converted_task converted wanted_test way_test fit_test convert_test
rows-ready = tt

holds : (b : Bool) → T b → b ≡ true
holds true t = refl
holds false t = absurd t

all-bytes : (t : List ℕ) → every (λ b. ltb b 256) t ≡ true → Bytes t
unfolding Bytes byte
all-bytes t e i =
    ⊎_elim (λ (h : i < length t). ltb-true _ _ (every-at (λ b. ltb b 256) t i e h))
    (λ (h : length t ≤ i). rw (get_or-eq_default t 0 h) (omega arith))
    (below_or_not i (length t))

row_of : (c : Carried) → T (ready c) → Row c
unfolding ready
row_of c t =
    let p0 = parts (answers_equal (convert_test c.wanted c.table (length lent)) Accepted) _ t in
    let p1 = parts (eqb (edition_in c.table) c.edition) _ p0.1 in
    let p2 = parts (eqb (content_in c.table).tasks.count 3) _ p1.1 in
    let p3 = parts (every (λ b. ltb b 256) c.table) _ p2.1 in
    let p4 = parts (leb (length c.table) (length lent)) _ p3.1 in
    let p5 = parts (same_list (slack_in (content_in c.table)) c.slack) _ p4.1 in
    let p6 = parts (same_list (bounds_in (content_in c.table)) c.bounds) _ p5.1 in
    let test = accepts (convert_test c.wanted c.table (length lent)) p0.0 in
    let bytes = all-bytes c.table (holds _ p3.0) in
    let room = leb→le (length c.table) (length lent) p4.0 in
    let edition = eqb→eq (edition_in c.table) c.edition p1.0 in
    let three = eqb→eq (content_in c.table).tasks.count 3 p2.0 in
    let W = convert_twins c.wanted c.table lent test in
    let back = there_and_back c.wanted c.table lent test bytes lent room in
    let again = table-again c.table (table-passed c.wanted c.table lent test) bytes lent room in
    record {
      edition = convert_edition c.wanted c.table lent test;
      slack = ap (λ (x : ℕ → ℕ). tab x 3) W.slack ∙ same_list_lem _ _ (holds _ p5.0);
      bounds = tab_ext _ _ 3 (λ i h. W.bounds i) ∙ same_list_lem _ _ (holds _ p6.0);
      lates = tab_ext _ _ 3 (λ i h. W.lates i (omega (arith, three))) ∙ same_list_lem _ _ (holds _ p6.1);
      back-length = rw edition at back.1;
      back = rw edition at back.2;
      rewritten-length = again.1;
      rewritten = again.2;
    }

rows_of : (l : List Carried) → T (ready_all l) → Rows l
unfolding ready_all
rows_of [] t = tt
rows_of (c ∷ l) t = let p = parts (ready c) (ready_all l) t in (row_of c p.0, rows_of l p.1)

pub carried_rows : Rows carried
carried_rows = rows_of carried rows-ready

p9-passes : T (limits_pass p9)
unfolding limits_pass limit_tests concat table_with answers_equal first sum tab cut lcm lcm_below hyperperiod share no_task lowest first_met outside bad_label test3 test4 test5 test6 test7 test8 test28 test9 test10 byte number digits core_count task_count tasks_at slack_count slack_at task_in task_set_in content_in task_size plain_bytes task_bytes
p9-passes = tt

p9-divided : (i : ℕ) → i < 3 → ◌≡◌ {A = ℕ} (999000 % ((content_in p9).tasks.task i).separation) 0
unfolding concat table_with tab cut no_task byte number digits core_count task_count tasks_at slack_count slack_at task_in task_set_in content_in task_size plain_bytes task_bytes
p9-divided zero h = refl
p9-divided (suc zero) h = refl
p9-divided (suc (suc zero)) h = refl
p9-divided (suc (suc (suc i))) h = absurd (omega arith)

-- a number that 1000 and 999 divide
shared : (h : ℕ) → h % 1000 ≡ 0 → h % 999 ≡ 0 → 999000 * (h / 999 - h / 1000) ≡ h
shared h a b = omega arith

-- H is a multiple of each separation, and no smaller number is
pub p9-multiple : hyperperiod (content_in p9).tasks ≡ 999000
unfolding limits_pass concat table_with tab cut no_task byte number digits core_count task_count tasks_at slack_count slack_at task_in task_set_in content_in task_size plain_bytes task_bytes
p9-multiple =
    let H = H_is_least (content_in p9) (accepts _ p9-passes) in
    let first : hyperperiod (content_in p9).tasks % 1000 ≡ 0 = H.0.divided 0 (omega arith) in
    let second : hyperperiod (content_in p9).tasks % 999 ≡ 0 = H.0.divided 1 (omega arith) in
    omega (arith, shared (hyperperiod (content_in p9).tasks) first second, H.0.positive, H.1 999000 (record { positive = omega arith; divided = p9-divided }))
