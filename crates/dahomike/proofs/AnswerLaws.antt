-- The C functions' answers and the bytes that they leave behind, from what their code has seen.
--     judge_plan, judge_answered      what is reported of a judgement, and its answer
--     wish_plan, wish_answered        the same of a wish sheet
--     counted-refused, counted-short, counted_done    the same of the names
--     run-refused, run_done      the log run's answer
--     told_length, told_refused          the sentence's, by the cases of what came back
--     written_length_lem, written_refused    the conversion's
use Rattle.tasks.specs.declared.refusal.Refusal.{Refusal}
use Rattle.std.specs.Prelude.{ℕ, ◌+◌, ◌*◌, ◌≤◌, ◌<◌, ◌≡◌, List, take, Ok, Err, Result}
use Rattle.std.proofs.Math.Path.{sym, ap}
use Rattle.std.proofs.Common.{◌∙◌, arith}
use Rattle.std.proofs.Math.Bool.{true, false}
use Rattle.std.proofs.Math.ListN.{length}
use Rattle.std.proofs.lemmas.List.Edits.{sets}
use borrow.Author.Tests.{lt-ltb, le-ltb}
use Rattle.tasks.specs.Answer.{Answer, Accepted, Refused}
use Rattle.tasks.specs.Tests.{first_met, unless_refused, tests}
use Rattle.tasks.specs.AnswerLaws.{first_met-passed}
use Rattle.table.specs.declared.Judgement.{Judgement}
use Rattle.numbers.specs.Bytes.{entries}
use Rattle.laws.specs.SetsLaws.{sets-whole}
use Rattle.codec.specs.Table.{task_set_in, content_in, verdict}
use Rattle.table.specs.Judged.{counted_in, judged}
use Rattle.table.specs.NamesLaws.{names-count, names-first}
use Rattle.wishes.specs.Wish.{with_offsets, at_slack, solved}
use Rattle.sheet.specs.declared.Wished.{Wished}
use Rattle.sheet.specs.Wished.{wish_verdict, wish_of}
use Rattle.sheet.specs.SheetTheorems.{wish_accepted}
use Rattle.wording.specs.Told.{answer_of_composed, length_of_composed, sentence_test, sentence_length}
use Rattle.writer.specs.Written.{answer_of_written, length_of_written}
use Rattle.conversion.specs.Converted.{convert_test, converted_length}
use Rattle.replay.specs.declared.run.Ran.{Ran}
use Rattle.replay.specs.Ran.{run_test, ran_of}
use Rattle.dahomike_answer.specs.Number.{answer_number}
use Rattle.dahomike.specs.Answers.{judge_test, judge_number, judge_leaves, wish_test, wish_number, wish_leaves, counted_test, counted_number, counted_leaves, run_number, sentence_number, convert_number, room_test, entry_of}
use Rattle.dahomike.specs.ReportLaws.{Reported}
use Rattle.dahomike.proofs.ReportLaws.{answered_is}

-- ---- the judgement

module _ (t : List ℕ) (j : Judgement) (e : j ≡ judged t) where
  verdict_is : j.answer ≡ verdict t
  unfolding judged
  verdict_is = ap (λ (r : Judgement). r.answer) e

  pub judge_plan : j.answer ≡ Accepted → Reported (content_in t) j.plan
  unfolding judged verdict
  judge_plan a =
      let accepted : verdict t ≡ Accepted = sym verdict_is ∙ a in
      record {
        plan_is = ap (λ (r : Judgement). r.plan) e ∙ rw accepted;
        passed = (first_met-passed (tests (content_in t)) _ (first_met-passed _ _ (first_met-passed _ _ accepted).1).1).0;
      }

  pub judge_answered : (out : List ℕ) (r : ℕ) (left : List ℕ)
      → (r ≡ answer_number (room_test false j.answer j.plan.tasks (length out)) j.plan.tasks)
      × (left ≡ unless_refused (room_test false j.answer j.plan.tasks (length out)) (sets out 0 (entries (entry_of false j.plan) j.plan.tasks)) out)
      → (r ≡ judge_number t (length out)) × (left ≡ judge_leaves t out)
  unfolding judge_number judge_leaves judge_test room_test content_in task_set_in
  judge_answered out r left h = rw verdict_is at (answered_is false j.answer judge_plan out r left h)

-- ---- the wishes

module _ (t : List ℕ) (w : Wished) (e : w ≡ wish_of t) where
  wish_verdict_lem : w.answer ≡ wish_verdict t
  unfolding wish_of
  wish_verdict_lem = ap (λ (r : Wished). r.answer) e

  pub wish_plan : w.answer ≡ Accepted → Reported (solved (content_in t)) w.plan
  unfolding wish_of
  wish_plan a =
      let met : wish_verdict t ≡ Accepted = sym wish_verdict_lem ∙ a in
      record { plan_is = ap (λ (r : Wished). r.plan) e ∙ rw met; passed = wish_accepted t met }

  pub wish_answered : (out : List ℕ) (r : ℕ) (left : List ℕ)
      → (r ≡ answer_number (room_test true w.answer w.plan.tasks (length out)) w.plan.tasks)
      × (left ≡ unless_refused (room_test true w.answer w.plan.tasks (length out)) (sets out 0 (entries (entry_of true w.plan) w.plan.tasks)) out)
      → (r ≡ wish_number t (length out)) × (left ≡ wish_leaves t out)
  unfolding wish_number wish_leaves wish_test room_test solved at_slack with_offsets content_in task_set_in
  wish_answered out r left h = rw wish_verdict_lem at (answered_is true w.answer wish_plan out r left h)

-- ---- the names

module _ (t out : List ℕ) (j : Judgement) (e : j ≡ judged t) where
  pub counted-refused :
      (k i : ℕ) → j.answer ≡ Refused k i → (answer_number (Refused k i) 0 ≡ counted_number t (length out)) × (out ≡ counted_leaves t out)
  unfolding counted_number counted_leaves counted_test first_met answer_number
  counted-refused k i a = let v = sym (verdict_is t j e) ∙ a in (rw v, rw v)

  module _ (a : j.answer ≡ Accepted) where
    names : verdict t ≡ Accepted
    names = sym (verdict_is t j e) ∙ a

    pub counted-short :
        length out < j.count → (answer_number (Refused 24 0) 0 ≡ counted_number t (length out)) × (out ≡ counted_leaves t out)
    unfolding counted_number counted_leaves counted_test first_met answer_number
    counted-short h =
        let l : length out < length (counted_in t) = omega (arith, names-count t j e) in
        (rw (names, lt-ltb (length out) (length (counted_in t)) l), rw (names, lt-ltb (length out) (length (counted_in t)) l))

    pub counted_done :
        j.count ≤ length out → (j.count ≡ counted_number t (length out)) × (sets out 0 (take j.count j.counted) ≡ counted_leaves t out)
    unfolding counted_number counted_leaves counted_test first_met answer_number
    counted_done h =
        let l : length (counted_in t) ≤ length out = omega (arith, names-count t j e) in (
          rw (names, le-ltb (length out) (length (counted_in t)) l) (names-count t j e),
          rw (names, le-ltb (length out) (length (counted_in t)) l) (ap (sets out 0) (names-first t j e) ∙ sets-whole out (counted_in t) l),
        )

-- ---- the log run

module _ (t l : List ℕ) (room : ℕ) (r : Ran) (e : r ≡ ran_of t l room) where
  pub run-refused : (k i : ℕ) → r.answer ≡ Refused k i → answer_number (Refused k i) 0 ≡ run_number t l room
  unfolding run_number ran_of answer_number
  run-refused k i a = let v : run_test t l room ≡ Refused k i = sym (ap (λ (x : Ran). x.answer) e) ∙ a in rw v

  pub run_done : r.answer ≡ Accepted → r.taken + 65536 * r.refused ≡ run_number t l room
  unfolding run_number ran_of answer_number
  run_done a =
      let v : run_test t l room ≡ Accepted = sym (ap (λ (x : Ran). x.answer) e) ∙ a in
      rw v (ap (λ (x : Ran). x.taken + 65536 * x.refused) e ∙ rw v)

-- ---- an answer that is a length or a refusal

module _ (a : Answer) (n : ℕ) where
  length-number : (l : ℕ) → a ≡ Accepted → l ≡ unless_refused a n 0 → l ≡ answer_number a n
  unfolding answer_number
  length-number l e q = rw e (q ∙ rw e)

  refused-number : (m j : ℕ) → a ≡ Refused m j → answer_number (Refused m j) 0 ≡ answer_number a n
  unfolding answer_number
  refused-number m j e = rw e

-- the sentence
module _ (k i v room : ℕ) (r : Result ℕ Refusal) (e : answer_of_composed r ≡ sentence_test k i v room) where
  pub told_length : (n : ℕ) → r ≡ Ok n → length_of_composed r ≡ sentence_length k i v room → n ≡ sentence_number k i v room
  unfolding sentence_number sentence_length
  told_length n c l = length-number (sentence_test k i v room) _ n (sym e ∙ ap answer_of_composed c) (sym (ap length_of_composed c) ∙ l)

  pub told_refused : (m j : ℕ) → r ≡ Err (record { number = m; index = j }) → answer_number (Refused m j) 0 ≡ sentence_number k i v room
  unfolding sentence_number
  told_refused m j c = refused-number (sentence_test k i v room) _ m j (sym e ∙ ap answer_of_composed c)

-- the conversion
module _ (e : ℕ) (t : List ℕ) (room : ℕ) (r : Result ℕ Refusal) (q : answer_of_written r ≡ convert_test e t room) where
  pub written_length_lem : (n : ℕ) → r ≡ Ok n → length_of_written r ≡ converted_length e t room → n ≡ convert_number e t room
  unfolding convert_number converted_length
  written_length_lem n c l = length-number (convert_test e t room) _ n (sym q ∙ ap answer_of_written c) (sym (ap length_of_written c) ∙ l)

  pub written_refused : (m j : ℕ) → r ≡ Err (record { number = m; index = j }) → answer_number (Refused m j) 0 ≡ convert_number e t room
  unfolding convert_number
  written_refused m j c = refused-number (convert_test e t room) _ m j (sym q ∙ ap answer_of_written c)
