-- Document 02, §3, "Offsets from wished responses". A wish sheet's tasks have "the wished bound W in the offset's place".
--     room                     W − C: what a task's wish leaves for its offset and slack together
--     with_offset, with_offsets  a task with an offset in its wish's place, and all tasks
--     Solution                 offsets and slack that keep every wish
--     largest_offset, at_slack   the largest offset that a slack leaves, and the sheet's tasks with these
--     wished                   the slack raised from zeros, each time with the largest offsets that it leaves
--     passes                   whether a slack is above W − C at a task
--     no_solution               27: whether the wished slack is, at some task
--     sheet5, test26, sheet11, test27, wish_tests    the tests of what a sheet says, in their order
--     solved                   the content that is found
use Rattle.std.specs.Prelude.{ℕ, suc, ◌+◌, ◌-◌, ◌*◌, ◌≤◌, ◌<◌, min, Bool, not, List, [], ◌∷◌, ltb, eqb, replicate}
use Rattle.laws.specs.First.{first}
use Rattle.laws.specs.Settle.{settle}
use Rattle.tasks.specs.declared.Task.{Task}
use Rattle.tasks.specs.Answer.{Answer}
use Rattle.tasks.specs.TaskSet.{TaskSet, Compliant, raise, ceiling, bound_of, row}
use Rattle.tasks.specs.Content.{Content}
use Rattle.tasks.specs.Tests.{refuse, lowest, first_met, bad_count, bad_wish, test3, test4, test6, test7, test28, test9, test10}

abbrev pub room : Task → ℕ
room t = t.offset - t.budget

-- a task with this offset in its wish's place
abbrev pub with_offset : Task → ℕ → Task
with_offset t y = record { separation = t.separation; budget = t.budget; offset = y; deadline = t.deadline }

-- a sheet's tasks with offsets in the wishes' place
unfoldable pub with_offsets : TaskSet → (ℕ → ℕ) → TaskSet
with_offsets s y =
    record {
      cores = s.cores;
      count = s.count;
      task = λ i. with_offset (s.task i) (y i);
    }

-- "Find whole offsets 0 to T and compliant whole slack with Y + x + C at most W for every loop"
pub record Solution (s : TaskSet) (y x : ℕ → ℕ) : Type 0 where
  pub offsets : (i : ℕ) → i < s.count → y i ≤ (s.task i).separation
  pub compliant : Compliant (with_offsets s y) x
  pub kept : (i : ℕ) → i < s.count → bound_of (with_offset (s.task i) (y i)) (x i) ≤ (s.task i).offset

-- the smaller of T and W − C − x
unfoldable pub largest_offset : Task → ℕ → ℕ
largest_offset t x = min t.separation (room t - x)

unfoldable pub at_slack : TaskSet → (ℕ → ℕ) → TaskSet
at_slack s x = with_offsets s (λ i. largest_offset (s.task i) (x i))

-- "The slack is the least and each offset the largest of all solutions": slack raised from zeros until nothing changes, the offsets
-- as large as it leaves them
unfoldable pub wished : TaskSet → List ℕ
wished s = settle (λ x. raise (at_slack s (row x)) x) s.count (suc (s.count * ceiling)) (replicate s.count 0)

-- whether slack x is above W − C at task k: then Y + x + C is above W for every offset
unfoldable pub passes : TaskSet → (ℕ → ℕ) → ℕ → Bool
passes s x k = ltb (room (s.task k)) (x k)

-- 27: "no solution exists"
unfoldable pub no_solution : TaskSet → Bool
no_solution s = ltb (first (passes s (row (wished s))) s.count) s.count

module _ (c : Content) where
  -- "wish sheets keep the old 5": "Loops are fewer than cores + 1 or more than 16."
  unfoldable pub sheet5 : Answer
  sheet5 = refuse 5 (bad_count (c.tasks.cores + 1) c.tasks.count)

  -- 26, "tested where 8 was"
  unfoldable pub test26 : Answer
  test26 = lowest 26 (λ i. bad_wish (c.tasks.task i)) c.tasks.count

  -- "11 meets any slack count but 0"
  unfoldable pub sheet11 : Answer
  sheet11 = refuse 11 (not (eqb c.offers 0))

  -- 27, "tested last"
  unfoldable pub test27 : Answer
  test27 = refuse 27 (no_solution c.tasks)

  -- "Numbers 8, 12 and 13 don't arise on a sheet"; 28 is "tested after 8 (26 on a sheet)"
  unfoldable pub wish_tests : Answer
  wish_tests =
      first_met
      (test3 c ∷ test4 c ∷ sheet5 ∷ test6 c ∷ test7 c ∷ test26 ∷ test28 c ∷ test9 c ∷ test10 c ∷ sheet11 ∷ test27 ∷ [])

  -- the wished slack and the offsets that it leaves, marked as found. "A wish sheet may be of either edition", and what is found is of the
  -- sheet's.
  unfoldable pub solved : Content
  solved =
      record {
        edition = c.edition;
        tasks = at_slack c.tasks (row (wished c.tasks));
        label = c.label;
        offers = 0;
        slack = row (wished c.tasks);
      }
