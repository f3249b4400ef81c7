-- What the reader's stage answers, for every input.
--     counts_test        the first of 1 and 2 that a table's bytes meet
--     answer_of_counts    document 01's number and index for each case of the stage's answer
--     edition_of_counts, cores_of_counts, tasks_of_counts, offers_of_counts    the edition and the counts that it answers, 0 where it is a refusal
--     Counted           the stage's answer to a table, by these
use Rattle.std.specs.Prelude.{Result, Ok, Err, ℕ, ◌≡◌, List, [], ◌∷◌}
use Rattle.tasks.specs.declared.refusal.Refusal.{Refusal}
use Rattle.tasks.specs.Answer.{Answer, answer_of}
use Rattle.tasks.specs.Tests.{first_met, unless_refused}
use Rattle.reader.specs.declared.Counts.{Counts}
use Rattle.codec.specs.Table.{edition_in, core_count, task_count, slack_count, test1, test2}

unfoldable pub counts_test : List ℕ → Answer
counts_test t = first_met (test1 t ∷ test2 t ∷ [])

abbrev pub answer_of_counts : Result Counts Refusal → Answer
answer_of_counts r = answer_of r

abbrev pub edition_of_counts : Result Counts Refusal → ℕ
edition_of_counts (Ok c) = c.edition
edition_of_counts (Err r) = 0

abbrev pub cores_of_counts : Result Counts Refusal → ℕ
cores_of_counts (Ok c) = c.cores
cores_of_counts (Err r) = 0

abbrev pub tasks_of_counts : Result Counts Refusal → ℕ
tasks_of_counts (Ok c) = c.tasks
tasks_of_counts (Err r) = 0

abbrev pub offers_of_counts : Result Counts Refusal → ℕ
offers_of_counts (Ok c) = c.offers
offers_of_counts (Err r) = 0

pub record Counted (t : List ℕ) (r : Result Counts Refusal) : Type 0 where
  pub answer : answer_of_counts r ≡ counts_test t
  pub edition : edition_of_counts r ≡ unless_refused (counts_test t) (edition_in t) 0
  pub cores : cores_of_counts r ≡ unless_refused (counts_test t) (core_count t) 0
  pub tasks : tasks_of_counts r ≡ unless_refused (counts_test t) (task_count t) 0
  pub offers : offers_of_counts r ≡ unless_refused (counts_test t) (slack_count t) 0
