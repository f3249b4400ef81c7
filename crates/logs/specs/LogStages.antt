-- What the log's reader answers, for every input.
--     answer_of_entries    document 01's number and index for each case of the reader's answer
--     count_of_entries     the count that it answers, 0 where it is a refusal
--     EntriesRead        the reader's answer to a log, by these
--     Releases           a release handed over says what the log's entry e says
use Rattle.tasks.specs.declared.refusal.Refusal.{Refusal}
use Rattle.std.specs.Prelude.{ℕ, ◌<◌, ◌≡◌, List, Ok, Err, Result}
use Rattle.tasks.specs.Answer.{Answer, answer_of}
use Rattle.tasks.specs.Tests.{unless_refused}
use Rattle.logs.specs.declared.read.Release.{Release}
use Rattle.logs.specs.LogBytes.{entry_count, entry_in, log_test}

unfoldable pub answer_of_entries : Result ℕ Refusal → Answer
answer_of_entries r = answer_of r

unfoldable pub count_of_entries : Result ℕ Refusal → ℕ
count_of_entries (Ok n) = n
count_of_entries (Err r) = 0

pub record EntriesRead (l : List ℕ) (r : Result ℕ Refusal) : Type 0 where
  pub answer : answer_of_entries r ≡ log_test l
  pub count : count_of_entries r ≡ unless_refused (log_test l) (entry_count l) 0
  -- a count is of two bytes
  pub small : count_of_entries r < 65536

pub record Releases (l : List ℕ) (e : ℕ) (r : Release) : Type 0 where
  pub tick : r.tick ≡ (entry_in l e).tick
  pub task : r.task ≡ (entry_in l e).loop
  pub demand : r.demand ≡ (entry_in l e).demand
  -- the loop's number is one byte
  pub small : r.task < 256
