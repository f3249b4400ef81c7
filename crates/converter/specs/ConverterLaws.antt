-- The conversion's answer and the bytes that it leaves behind, from what its code has seen.
--     unwanted_large, unwanted_unknown, wanted_absent, wanted-first    the edition wanted, and the first byte; wanted-small: it fits one
--     way_none, way_met    29 and 30, by where the scan of the tasks ended
--     converted_plan        a plan in the wanted edition; plan-converted: of the plan that keeps a content it is the one that keeps the converted content
--     Converts             the answer, its length and the bytes left behind are the definitions'
--     convert_unwanted, convert_refused, convert_unfit, convert_written    each case of it
--     plan-few             an accepted table's plan has at most sixteen tasks
--     converted-accepts    converted, it meets none of a plan's numbers
use Rattle.tasks.specs.declared.refusal.Refusal.{Refusal}
use Rattle.std.specs.Prelude.{ℕ, ◌≤◌, ◌<◌, ◌≡◌, Bool, true, false, ◌||◌, ◌≢◌, length, eqb, Err, Result}
use Rattle.std.proofs.Common.{arith, ◌∙◌, eq-or-lt_of_le}
use Rattle.std.proofs.Math.Path.{refl, sym, ap}
use Rattle.std.proofs.Math.Bool.{cond}
use mathlib.Core.List.{List, [], ◌∷◌}
use Rattle.std.proofs.Math.Logic.{⊎_elim}
use borrow.Author.Tests.{ne_eqb}
use Rattle.laws.specs.First.{first}
use Rattle.laws.specs.FirstLaws.{first_le}
use Rattle.laws.specs.Tab.{tab}
use Rattle.laws.specs.TabLaws.{tab_ext, get_or-tab}
use Rattle.tasks.specs.declared.Task.{Task}
use Rattle.tasks.specs.declared.Plan.{Plan}
use Rattle.tasks.specs.Answer.{Accepted, Refused}
use Rattle.tasks.specs.TaskSet.{core_for_each}
use Rattle.tasks.specs.Content.{has_deadlines, Content, no_task, task_of, content_of, plan_of}
use Rattle.tasks.proofs.ContentLaws.{plan_ext, by_edition}
use Rattle.tasks.specs.Terms.{Fits}
use Rattle.tasks.specs.Tests.{refuse, lowest, first_met, bad_edition, test_plan}
use Rattle.tasks.specs.AnswerLaws.{neither, lowest-none, lowest-found}
use Rattle.numbers.specs.Bytes.{byte}
use Rattle.codec.specs.Table.{edition_in, content_in, verdict}
use Rattle.table.specs.declared.Judgement.{Judgement}
use Rattle.table.specs.Judged.{judged}
use Rattle.writer.specs.Written.{answer_of_written, length_of_written, write_test, written_length, written_to}
use Rattle.writer.specs.WriterLaws.{Writes}
use Rattle.roundtrip.specs.SectionLaws.{verdict-parts, table_fits}
use Rattle.conversion.specs.Converted.{converted_task, converted, wanted_test, no_offset, other_deadline, way_test, fit_test, convert_test, converted_length, converted_to}
use Rattle.conversion.specs.ConvertedLaws.{fit_passed, way_ext, table-says, table-passes, known-edition}

-- ---- the edition wanted

module _ (e : ℕ) where
  pub unwanted_large : (b : Bool) → 255 < e → true ≡ bad_edition e || b
  unwanted_large b h = rw (ne_eqb e 1 (λ q. omega (arith, q)), ne_eqb e 2 (λ q. omega (arith, q)))

  pub unwanted_unknown : (b : Bool) → bad_edition e ≡ true → true ≡ bad_edition e || b
  unwanted_unknown b h = rw h

  -- "The edition byte is absent": it reads as 0
  pub wanted_absent : (t : List ℕ) → length t < 1 → bad_edition e ≡ false → false ≡ bad_edition e || eqb (edition_in t) e
  unfolding byte
  wanted_absent [] h known = rw (known, ne_eqb 0 e none)
    where
      none : 0 ≢ e
      none q = ⊎_elim (λ (o : e ≡ 1). omega (arith, o, q)) (λ (o : e ≡ 2). omega (arith, o, q)) (known-edition e known)
  wanted_absent (x ∷ t) h known = absurd (omega arith)

  pub wanted-small : (b : Bool) → bad_edition e || b ≡ false → e ≤ 255
  wanted-small b h =
      ⊎_elim (λ (o : e ≡ 1). omega (arith, o)) (λ (o : e ≡ 2). omega (arith, o)) (known-edition e (neither (bad_edition e) b h).0)

  pub wanted-first : (t : List ℕ) (b : Bool) → bad_edition e ≡ false → b ≡ eqb (edition_in t) e → b ≡ bad_edition e || eqb (edition_in t) e
  wanted-first t b known q = rw known q

-- ---- 29 and 30

module _ (e n : ℕ) (f : ℕ → Task) where
  abbrev pub unfit : ℕ → Bool
  unfit i = cond (has_deadlines e) (no_offset (f i)) (other_deadline (f i))

  -- one scan for both
  way_is : way_test e f n ≡ lowest (cond (has_deadlines e) 29 30) unfit n
  unfolding way_test
  way_is =
      by_edition
      (λ b. cond b (lowest 29 (λ i. no_offset (f i)) n) (lowest 30 (λ i. other_deadline (f i)) n)
      ≡ lowest (cond b 29 30) (λ i. cond b (no_offset (f i)) (other_deadline (f i))) n)
      e refl refl

  pub way_none : first unfit n ≡ n → way_test e f n ≡ Accepted
  way_none h = way_is ∙ lowest-none _ unfit n h

  pub way_met : (i : ℕ) → first unfit n ≡ i → i ≢ n → way_test e f n ≡ Refused (cond (has_deadlines e) 29 30) i
  way_met i h ne =
      way_is ∙ lowest-found _ unfit n i h (⊎_elim (λ (q : i ≡ n). absurd (ne q)) (λ (q : i < n). q) (eq-or-lt_of_le (omega (arith, first_le unfit n, h))))

-- ---- the plan

unfoldable pub converted_plan : ℕ → Plan → Plan
converted_plan e p =
    record {
      edition = e;
      offered = p.offered;
      cores = p.cores;
      tasks = p.tasks;
      labels = p.labels;
      task = tab (λ i. converted_task e (task_of p.task i)) 16;
      slack = p.slack;
    }

pub plan-converted : (e : ℕ) (c : Content) → converted_plan e (plan_of c) ≡ plan_of (converted e c)
unfolding converted_plan plan_of converted task_of
plan-converted e c =
    plan_ext (converted_plan e (plan_of c)) (plan_of (converted e c)) refl refl refl refl refl
    (tab_ext _ _ 16 (λ i h. ap (converted_task e) (get_or-tab c.tasks.task 16 i no_task h)))
    refl

-- ---- the answer

abbrev pub Converts : ℕ → List ℕ → List ℕ → Result ℕ Refusal → List ℕ → Type 0
Converts e t out r after =
    (answer_of_written r ≡ convert_test e t (length out))
    × (length_of_written r ≡ converted_length e t (length out))
    × (after ≡ converted_to e t out)

module _ (e : ℕ) (t out : List ℕ) (r : Result ℕ Refusal) where
  stopped : (k i : ℕ) → convert_test e t (length out) ≡ Refused k i → answer_of_written r ≡ Refused k i → length_of_written r ≡ 0 → Converts e t out r out
  unfolding converted_length converted_to
  stopped k i met a l = (rw (met, a), rw (met, l), rw met)

  pub convert_unwanted : bad_edition e || eqb (edition_in t) e ≡ true → r ≡ Err (record { number = 1; index = 0 }) → Converts e t out r out
  unfolding convert_test wanted_test first_met
  convert_unwanted h s = stopped 1 0 (rw h) (ap answer_of_written s) (ap length_of_written s)

-- past 1 of the wanted edition, with the table's judgement
module _ (e : ℕ) (t : List ℕ) (wanted : bad_edition e || eqb (edition_in t) e ≡ false) (j : Judgement) (q : j ≡ judged t) where
  judged-answer : j.answer ≡ verdict t
  unfolding judged
  judged-answer = ap (λ (r : Judgement). r.answer) q

  pub convert_refused :
      (out : List ℕ) (r : Result ℕ Refusal) (k i : ℕ) → j.answer ≡ Refused k i → answer_of_written r ≡ j.answer → length_of_written r ≡ 0
      → Converts e t out r out
  unfolding convert_test wanted_test first_met
  convert_refused out r k i m a =
      let v : verdict t ≡ Refused k i = sym judged-answer ∙ m in
      stopped e t out r k i (rw (wanted, v)) (a ∙ m)

  module _ (a : j.answer ≡ Accepted) where
    accepted : verdict t ≡ Accepted
    accepted = sym judged-answer ∙ a

    fits : Fits (content_in t)
    fits = table_fits t (verdict-parts t accepted).content

    plan_is : j.plan ≡ plan_of (content_in t)
    unfolding judged
    plan_is = ap (λ (r : Judgement). r.plan) q ∙ rw accepted

    pub plan-few : j.plan.tasks ≤ 16
    unfolding plan_of
    plan-few = rw plan_is fits.tasks-high

    -- 31, and then 29 or 30, of the plan's tasks
    plan-fit :
        fit_test e j.plan.cores (task_of j.plan.task) j.plan.tasks
        ≡ fit_test e (content_in t).tasks.cores (content_in t).tasks.task (content_in t).tasks.count
    unfolding plan_of task_of fit_test
    plan-fit =
        rw plan_is
        (ap (λ a. first_met (refuse 31 (core_for_each (content_in t).tasks.cores (content_in t).tasks.count) ∷ a ∷ []))
        (way_ext e (content_in t).tasks.count _ _ (λ i h. get_or-tab (content_in t).tasks.task 16 i no_task (omega (arith, fits.tasks-high)))))

    pub convert_unfit :
        (out : List ℕ) (r : Result ℕ Refusal) (k i : ℕ) → fit_test e j.plan.cores (task_of j.plan.task) j.plan.tasks ≡ Refused k i
        → answer_of_written r ≡ Refused k i → length_of_written r ≡ 0 → Converts e t out r out
    unfolding convert_test wanted_test first_met
    convert_unfit out r k i m =
        let w : fit_test e (content_in t).tasks.cores (content_in t).tasks.task (content_in t).tasks.count ≡ Refused k i = sym plan-fit ∙ m in
        stopped e t out r k i (rw (wanted, accepted, w))

    module _ (passed : fit_test e j.plan.cores (task_of j.plan.task) j.plan.tasks ≡ Accepted) (p : Plan) (made : p ≡ converted_plan e j.plan) where
      fit : fit_test e (content_in t).tasks.cores (content_in t).tasks.task (content_in t).tasks.count ≡ Accepted
      fit = sym plan-fit ∙ passed

      way : way_test e (content_in t).tasks.task (content_in t).tasks.count ≡ Accepted
      way = (fit_passed e _ _ _ fit).1

      made_of : p ≡ plan_of (converted e (content_in t))
      made_of = made ∙ ap (converted_plan e) plan_is ∙ plan-converted e (content_in t)

      says : content_of p ≡ converted e (content_in t)
      says = ap content_of made_of ∙ table-says e t wanted accepted way

      pub converted-accepts : test_plan p ≡ Accepted
      converted-accepts = ap test_plan made_of ∙ table-passes e t wanted accepted way

      same_test : (room : ℕ) → write_test p room ≡ convert_test e t room
      unfolding write_test convert_test wanted_test first_met
      same_test room = rw (converted-accepts, says, wanted, accepted, fit)

      pub convert_written : (out : List ℕ) (r : Result ℕ Refusal) (after : List ℕ) → Writes p out r after → Converts e t out r after
      unfolding written_length written_to converted_length converted_to
      convert_written out r after h =
          let z = same_test (length out) in
          (h.0 ∙ z, h.1 ∙ rw (z, says), h.2 ∙ rw (z, says))
