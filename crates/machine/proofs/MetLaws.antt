-- The bound theorem is not empty: P3, with more loops than cores, and a pair of its loops, with no more, meet its hypotheses, and machines that it
-- speaks of are reached. The machine's ticks give P10, and of the pair that each runs at once; in P2 the earlier release of two equal priority points
-- goes first.
--     p3-met            P3 is within the limits, its slack is compliant and its bounds are at most 16 × T
--     p3-reached        that machine is reached, and so is every tick of it
--     p10, p10_third    P10 in both forms
--     p2_older          in P2, of loop 1's job released at 0 and loop 0's released at 5 loop 1's goes before, with an equal point
--     p2-watch          the two so released, at tick 5: loop 1 runs on the lower core
--     pair-met, pair-reached      the same of P3's first and third loop on its two cores, with no slack
--     pair_ends         both released at tick 0 with full budgets: each finishes after its budget
use Rattle.std.specs.Prelude.{true, ◌≡◌, refl, [], ◌∷◌}
use Rattle.std.proofs.Common.{lit<, lit≤}
use Rattle.laws.specs.First.{first}
use Rattle.laws.specs.Sum.{sum, sum_over}
use Rattle.laws.specs.Tab.{tab}
use Rattle.laws.specs.Rank.{place, ranked, largest}
use Rattle.laws.specs.Multiple.{lcm, lcm_below}
use Rattle.laws.specs.Member.{member}
use Rattle.tasks.specs.Answer.{Accepted}
use Rattle.tasks.specs.TaskSet.{hyperperiod, share, weight, surplus, counted, amount, cover, Compliant, covers, found, row, bound}
use Rattle.tasks.specs.Content.{Content, no_task, task_of}
use Rattle.tasks.specs.Limits.{Limits, Enough, Bounded}
use Rattle.tasks.specs.Tests.{lowest, first_met, outside, bad_label, test3, test4, test5, test6, test7, test8, test28, test9, test10, test11, test12, test13, tests}
use Rattle.tasks.proofs.TestsLaws.{tests-limits, tests-compliant, tests-bounded}
use Rattle.machine.specs.Machine.{Machine, opened, too_soon, joined, admitted, waiting, released, point, before, chosen, idle, on_core, runs, served, advanced, tick, response, responses}
use Rattle.machine.specs.Reached.{Reached, opening, release}
use Rattle.machine.proofs.ReachedLaws.{reached-tick}
use Rattle.machine.specs.Met.{p3, p3-slack, all_released, watch, p2, p2_released, pair, no_slack, pair_released}

abbrev content : Content
content = record { edition = 1; tasks = p3 0; label = row (0 ∷ 1 ∷ []); offers = 3; slack = p3-slack }

accepted : tests content ≡ Accepted
unfolding p3 first sum sum_over place ranked largest lcm lcm_below hyperperiod share weight surplus counted amount cover covers row bound no_task task_of lowest first_met outside bad_label test3 test4 test5 test6 test7 test8 test28 test9 test10 test11 test12 test13 tests
accepted = refl

pub p3-met : Limits (p3 0) × Compliant (p3 0) p3-slack × Bounded (p3 0) p3-slack
unfolding p3
p3-met = (tests-limits content accepted, tests-compliant content accepted refl, tests-bounded content accepted)

pub p3-reached : Reached (p3 0) all_released × Reached (p3 0) (tick (p3 0) all_released)
unfolding p3 all_released opened too_soon joined admitted task_of
p3-reached = (three, reached-tick (p3 0) all_released three)
  where
    three : Reached (p3 0) (admitted 2 3 (admitted 1 1 (admitted 0 1 opened)))
    three =
        release 2 3 (record { in_table = lit< tt; demand-low = lit≤ tt; demand-high = lit≤ tt; apart = refl })
        (release 1 1 (record { in_table = lit< tt; demand-low = lit≤ tt; demand-high = lit≤ tt; apart = refl })
        (release 0 1 (record { in_table = lit< tt; demand-low = lit≤ tt; demand-high = lit≤ tt; apart = refl }) opening))

-- "P3, all released at tick 0 with full budgets: finish ticks 1, 2, 3."
pub p10 :
    watch (p3 0) 4 all_released
    ≡ (2 ∷ 0 ∷ [], 1 ∷ 0 ∷ 0 ∷ []) ∷ (2 ∷ 1 ∷ [], 0 ∷ 2 ∷ 0 ∷ []) ∷ (2 ∷ idle ∷ [], 0 ∷ 0 ∷ 3 ∷ []) ∷ (idle ∷ idle ∷ [], 0 ∷ 0 ∷ 0 ∷ []) ∷ []
unfolding p3 all_released watch opened joined admitted waiting point before chosen on_core runs served advanced tick response responses tab place ranked member no_task task_of
p10 = refl

-- "With the third offset 3: 1, 1, 4."
pub p10_third :
    watch (p3 3) 4 all_released
    ≡ (0 ∷ 1 ∷ [], 1 ∷ 1 ∷ 0 ∷ []) ∷ (2 ∷ idle ∷ [], 0 ∷ 0 ∷ 0 ∷ []) ∷ (2 ∷ idle ∷ [], 0 ∷ 0 ∷ 0 ∷ []) ∷ (2 ∷ idle ∷ [], 0 ∷ 0 ∷ 4 ∷ []) ∷ []
unfolding p3 all_released watch opened joined admitted waiting point before chosen on_core runs served advanced tick response responses tab place ranked member no_task task_of
p10_third = refl

-- "In P2 a job of loop 1 released at 0 goes before one of loop 0 released at 5, both with priority point 10."
pub p2_older : (M : Machine) → released M 1 ≡ 0 → released M 0 ≡ 5 → (point p2 M 1 ≡ 10) × (point p2 M 0 ≡ 10) × (before p2 M 1 0 ≡ true)
unfolding p2 point before no_task task_of
p2_older M e f = rw (e, f) (refl, refl, refl)

pub p2-watch : watch p2 2 p2_released ≡ (1 ∷ 0 ∷ [], 0 ∷ 0 ∷ 0 ∷ []) ∷ (1 ∷ 0 ∷ [], 0 ∷ 0 ∷ 0 ∷ []) ∷ []
unfolding p2 p2_released watch opened joined admitted waiting point before chosen on_core runs served advanced tick response responses tab place ranked member no_task task_of
p2-watch = refl

abbrev pair-content : Content
pair-content = record { edition = 1; tasks = pair; label = row (0 ∷ 1 ∷ []); offers = 0; slack = no_slack }

pair-accepted : tests pair-content ≡ Accepted
unfolding pair first sum lcm lcm_below hyperperiod share found row bound no_task task_of lowest first_met outside bad_label test3 test4 test5 test6 test7 test8 test28 test9 test10 test11 test12 test13 tests
pair-accepted = refl

pub pair-met : Limits pair × Enough pair no_slack × Bounded pair no_slack
pair-met = (tests-limits pair-content pair-accepted, tests-compliant pair-content pair-accepted, tests-bounded pair-content pair-accepted)

pub pair-reached : Reached pair pair_released × Reached pair (tick pair pair_released)
unfolding pair pair_released opened too_soon joined admitted task_of
pair-reached = (both, reached-tick pair pair_released both)
  where
    both : Reached pair (admitted 1 3 (admitted 0 1 opened))
    both =
        release 1 3 (record { in_table = lit< tt; demand-low = lit≤ tt; demand-high = lit≤ tt; apart = refl })
        (release 0 1 (record { in_table = lit< tt; demand-low = lit≤ tt; demand-high = lit≤ tt; apart = refl }) opening)

-- "the engine as it stands runs each loop with work at every step"
pub pair_ends :
    watch pair 4 pair_released ≡ (1 ∷ 0 ∷ [], 1 ∷ 0 ∷ []) ∷ (1 ∷ idle ∷ [], 0 ∷ 0 ∷ []) ∷ (1 ∷ idle ∷ [], 0 ∷ 3 ∷ []) ∷ (idle ∷ idle ∷ [], 0 ∷ 0 ∷ []) ∷ []
unfolding pair pair_released watch opened joined admitted waiting point before chosen on_core runs served advanced tick response responses tab place ranked member no_task task_of
pair_ends = refl
