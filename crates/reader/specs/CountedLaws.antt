-- How the stage's answer follows from what its code has seen, and what its caller knows by it.
--     edition_read, core_count_lem, task-count, slack-count    the edition and the counts, from the bytes that the code has read
--     no_slack-count, other_length    the length is not what the counts give: it ends before the third count, or is another
--     counted-edition    the first byte is absent or no edition
--     counted-length     it is one, and the length is not what the counts give
--     counted_read       it is one, and the length is what they give
--     CountsIn           edition and counts are the table's, and it meets neither 1 nor 2
--     counted-accepted, counted-refused    what each case of the answer says of the table
--     right-length       a table that doesn't meet 2 has the length that its counts give
use Rattle.tasks.specs.declared.refusal.Refusal.{Refusal}
use Rattle.std.specs.Prelude.{ℕ, ◌≤◌, ◌≡◌, List, [], ◌∷◌, length, get_or, true, false, Ok, Err, Result}
use Rattle.std.proofs.Common.{arith, ◌∙◌}
use Rattle.std.proofs.Math.Path.{sym, ap}
use borrow.Author.Tests.{eq-eqb, ne_eqb, eqb-true, not-false}
use Rattle.tasks.specs.Answer.{Accepted}
use Rattle.tasks.specs.Tests.{first_met, bad_edition}
use Rattle.tasks.specs.AnswerLaws.{refuse-passed, first_met-passed}
use Rattle.reader.specs.declared.Counts.{Counts}
use Rattle.numbers.specs.Bytes.{byte}
use Rattle.codec.specs.Table.{tasks_from, slack_from, table_length, counted_length, edition_in, core_count, task_count, slack_count, test1, test2}
use Rattle.reader.specs.Counted.{counts_test, answer_of_counts, edition_of_counts, cores_of_counts, tasks_of_counts, offers_of_counts, Counted}

pub core_count_lem : (t : List ℕ) (m : ℕ) → m ≡ byte t 1 → core_count t ≡ m
unfolding core_count
core_count_lem t m e = sym e

pub task-count : (t : List ℕ) (m n : ℕ) → m ≡ byte t 1 → n ≡ byte t (tasks_from m) → task_count t ≡ n
unfolding task_count
task-count t m n e f = rw (core_count_lem t m e) (sym f)

pub edition_read : (t : List ℕ) (e : ℕ) → e ≡ get_or t 0 0 → edition_in t ≡ e
unfolding byte
edition_read t e q = sym q

pub slack-count :
    (t : List ℕ) (e m n x : ℕ) → edition_in t ≡ e → m ≡ byte t 1 → n ≡ byte t (tasks_from m) → x ≡ byte t (slack_from e m n) → slack_count t ≡ x
unfolding slack_count
slack-count t e m n x d p q r = rw (d, core_count_lem t m p, task-count t m n p q) (sym r)

module _ (t : List ℕ) (e m n : ℕ) (ee : edition_in t ≡ e) (em : core_count t ≡ m) (en : task_count t ≡ n) where
  pub no_slack-count : length t ≤ slack_from e m n → length t ≡ counted_length t → ⊥
  no_slack-count h q = omega (arith, h, rw (ee, em, en) at q)

  pub other_length : (x : ℕ) → slack_count t ≡ x → (length t ≡ table_length e m n x → ⊥) → length t ≡ counted_length t → ⊥
  other_length x ex h q = h (rw (ee, em, en, ex) at q)

module _ (t : List ℕ) (r : Result Counts Refusal) where
  stopped : (q : Refusal) → counts_test t ≡ Err q → r ≡ Err q → Counted t r
  stopped o e q = rw q (record { answer = sym e; edition = rw e; cores = rw e; tasks = rw e; offers = rw e })

  pub counted-edition : bad_edition (edition_in t) ≡ true → r ≡ Err (record { number = 1; index = 0 }) → Counted t r
  unfolding counts_test first_met test1
  counted-edition h = stopped (record { number = 1; index = 0 }) (rw h)

  pub counted-length : bad_edition (edition_in t) ≡ false → (length t ≡ counted_length t → ⊥) → r ≡ Err (record { number = 2; index = 0 }) → Counted t r
  unfolding counts_test first_met test1 test2
  counted-length e h = stopped (record { number = 2; index = 0 }) (rw (e, ne_eqb (length t) (counted_length t) h))

  pub counted_read :
      (e m n x : ℕ) → bad_edition (edition_in t) ≡ false → edition_in t ≡ e → core_count t ≡ m → task_count t ≡ n → slack_count t ≡ x
      → length t ≡ table_length e m n x
      → r ≡ Ok (record { edition = e; cores = m; tasks = n; offers = x })
      → Counted t r
  unfolding counts_test first_met test1 test2
  counted_read e m n x known ee em en ex l q =
      rw q (record { answer = sym passed; edition = rw (passed, ee); cores = rw (passed, em); tasks = rw (passed, en); offers = rw (passed, ex) })
    where
      passed : counts_test t ≡ Accepted
      passed = rw (known, eq-eqb (length t) (counted_length t) (rw (ee, em, en, ex) l))

pub right-length : (t : List ℕ) → test2 t ≡ Accepted → length t ≡ counted_length t
unfolding test2
right-length t e = eqb-true _ _ (not-false _ (refuse-passed 2 _ e))

pub record CountsIn (t : List ℕ) (e m n x : ℕ) : Type 0 where
  pub passed : counts_test t ≡ Accepted
  pub edition : e ≡ edition_in t
  pub cores : m ≡ core_count t
  pub tasks : n ≡ task_count t
  pub offers : x ≡ slack_count t
  pub long : length t ≡ table_length e m n x

module _ (t : List ℕ) (r : Result Counts Refusal) (g : Counted t r) where
  pub counted-accepted : (c : Counts) → r ≡ Ok c → CountsIn t c.edition c.cores c.tasks c.offers
  unfolding counts_test
  counted-accepted c q =
      record { passed = p; edition = ee; cores = em; tasks = en; offers = ex; long = rw (ee, em, en, ex) (right-length t second) }
    where
      p : counts_test t ≡ Accepted
      p = sym g.answer ∙ ap answer_of_counts q

      ee : c.edition ≡ edition_in t
      ee = sym (ap edition_of_counts q) ∙ g.edition ∙ rw p

      em : c.cores ≡ core_count t
      em = sym (ap cores_of_counts q) ∙ g.cores ∙ rw p

      en : c.tasks ≡ task_count t
      en = sym (ap tasks_of_counts q) ∙ g.tasks ∙ rw p

      ex : c.offers ≡ slack_count t
      ex = sym (ap offers_of_counts q) ∙ g.offers ∙ rw p

      second : test2 t ≡ Accepted
      second = (first_met-passed (test2 t) [] (first_met-passed (test1 t) (test2 t ∷ []) p).1).0

  pub counted-refused : (q : Refusal) → r ≡ Err q → counts_test t ≡ Err q
  counted-refused q e = sym g.answer ∙ ap answer_of_counts e
