-- Document 01: "A state is sound if …", clause by clause, and the numbers 18 to 23 that it and the calls are tested by.
--     all_of p n               whether p holds at every index below n
--     passes                  whether an answer is no refusal
--     tidy_test                no unused place of the table part is other than zero
--     loop_test, loop_sound     the clauses about one loop: of numbers, and of a state's loop
--     place_test, place_sound   the clauses about one of the 256 job places: of numbers, and of a state's place
--     sound_of                 all of them
use Rattle.std.specs.Prelude.{Ok, Err, ℕ, zero, suc, ◌+◌, ◌-◌, ◌*◌, ◌/◌, ◌%◌, Bool, true, false, cond, not, ◌&&◌, ◌||◌, ltb, leb, eqb}
use Rattle.tasks.specs.declared.Plan.{Plan}
use Rattle.tasks.specs.Answer.{Answer}
use Rattle.tasks.specs.Numbers.{clock_end}
use Rattle.tasks.specs.TaskSet.{row}
use Rattle.tasks.specs.Content.{has_deadlines, zero_task, task_of}
use Rattle.tasks.specs.Tests.{test_plan}
use Rattle.state.specs.declared.State.{State}
use Rattle.state.specs.State.{flag_at}

unfoldable pub all_of : (ℕ → Bool) → ℕ → Bool
all_of p zero = true
all_of p (suc n) = all_of p n && p n

abbrev pub passes : Answer → Bool
passes (Ok tt) = true
passes (Err r) = false

-- "every unused place, also in the table part, is zero": here those in the table part
unfoldable pub tidy_label : Plan → ℕ → Bool
tidy_label p i = ltb i p.cores || eqb (row p.labels i) 0

unfoldable pub tidy_task : Plan → ℕ → Bool
tidy_task p i =
    (ltb i p.tasks || (zero_task (task_of p.task i) && eqb (row p.slack i) 0))
    -- "the deadline, an unused place in edition 1"
    && (has_deadlines p.edition || eqb (task_of p.task i).deadline 0)

unfoldable pub tidy_test : Plan → Bool
tidy_test p = all_of (tidy_label p) 8 && all_of (tidy_task p) 16

-- A loop that is in the table or not, at clock t, with n jobs, its flag, the tick `last`, and the release `newest` of its last used place.
unfoldable pub loop_test : Bool → ℕ → ℕ → Bool → ℕ → ℕ → Bool
loop_test known t n flag last newest =
    -- "each loop holds 0 to 16 jobs"
    leb n 16
    -- "every unused place … is zero": a loop that is not in the table holds nothing, and its flag is clear
    && ((known || (eqb n 0 && not flag))
    -- "a loop without a taken release has 0 as its tick"
    && ((flag || eqb last 0)
    -- "the last taken release (a flag says if there is one) is not after the clock"
    && (leb last t
    -- "and is the newest pending one where any is pending"
    && (eqb n 0 || (flag && eqb last newest)))))

unfoldable pub loop_sound : State → ℕ → Bool
loop_sound s i =
    loop_test
    (ltb i s.plan.tasks)
    s.clock
    (row s.jobs i)
    (flag_at s i)
    (row s.last i)
    (row s.release (16 * i + (row s.jobs i - 1)))

-- Place p of a loop with separation T, budget C and n jobs, at clock t: its release r and remaining work w, and the release `previous` of the
-- place before it.
unfoldable pub place_test : ℕ → ℕ → ℕ → ℕ → ℕ → ℕ → ℕ → ℕ → Bool
place_test T C t n p previous r w =
    cond (ltb p n)
    -- "each loop's pending releases rise by at least T" (so they stand oldest first)
    ((eqb p 0 || leb (previous + T) r)
    -- "and are not after the clock"
    && (leb r t
    -- "remaining work is 1 to C"
    && (leb 1 w && leb w C)))
    -- "every unused place … is zero"
    (eqb r 0 && eqb w 0)

unfoldable pub place_sound : State → ℕ → Bool
place_sound s k =
    place_test
    (task_of s.plan.task (k / 16)).separation
    (task_of s.plan.task (k / 16)).budget
    s.clock
    (row s.jobs (k / 16))
    (k % 16)
    (row s.release (k - 1))
    (row s.release k)
    (row s.remaining k)

unfoldable pub sound_of : State → Bool
sound_of s =
    -- "its table part passes 3 to 13"; "a state of" another edition meets 18; 28 is tested "in plans and states too"
    passes (test_plan s.plan)
    && (tidy_test s.plan
    -- "its clock is at most 4,000,000,000"
    && (leb s.clock clock_end
    && (all_of (loop_sound s) 16 && all_of (place_sound s) 256)))
