-- From what the code of `solve` has seen to its answer.
--     widest_ranges    with the largest offsets that no slack leaves, the tasks are in the ranges that the rates ask for
--     sheet-of         past 9 and 10 the arrays are those of the sheet
--     solve_refused, solve_offered, solve_none, solve_found    the answer by what was met
--     wishes_passed    what 6, 7 and 26 leave
use Rattle.tasks.specs.declared.refusal.Refusal.{Refusal}
use Rattle.std.specs.Prelude.{ℕ, ◌+◌, ◌≤◌, ◌<◌, ◌≡◌, refl, List, Ok, Err, Result}
use Rattle.std.proofs.Math.Path.{sym}
use Rattle.std.proofs.Common.{◌∙◌, ap, ⊎_elim, arith}
use Rattle.std.proofs.Math.Bool.{false}
use borrow.Author.Tests.{ltb-false, lt-leb, ne_eqb, eq-eqb}
use Rattle.laws.specs.First.{first}
use Rattle.laws.specs.FirstLaws.{first_le, first_holds, first-none}
use Rattle.laws.specs.EveryLaws.{below_or_not}
use Rattle.laws.specs.Tab.{tab, cut}
use Rattle.laws.specs.TabLaws.{get_or-tab, tab_ext, cut_below, cut-above}
use Rattle.tasks.specs.Answer.{Accepted, answer_of}
use Rattle.tasks.specs.TaskSet.{TaskSet, hyperperiod, share, row}
use Rattle.tasks.specs.Limits.{Limits}
use Rattle.tasks.specs.Tests.{or_next, first_met}
use Rattle.tasks.specs.AnswerLaws.{refuse-passed, lowest-passed, first_met-passed, outside-passed}
use Rattle.fields.specs.Columns.{set_from}
use Rattle.fields.specs.Stages.{wishes_test}
use Rattle.slack.specs.declared.rates.Rates.{Rates}
use Rattle.slack.specs.Rates.{Ranges, rates_test, Rated}
use Rattle.slack.specs.RatesLaws.{row_filled}
use Rattle.slack.specs.StageLaws.{Framed}
use Rattle.analysis.specs.SlackTestLaws.{stopped, passed_on}
use Rattle.wishes.specs.Wish.{room, with_offsets, largest_offset, at_slack, wished, no_solution}
use Rattle.wishes.proofs.WishLaws.{largest-low}
use Rattle.wish_search.specs.declared.solve.Solved.{Solved}
use Rattle.wish_offsets.specs.Rows.{room_row, offset_row, past_row}
use Rattle.wish_search.specs.SheetArrays.{SheetOf, Ended}
use Rattle.wish_search.specs.SheetLaws.{past_test, offset-row}
use Rattle.wish_search.specs.Solved.{WishRanges, last_tests, RatesSolved}

offset_le : (separation room slack : List ℕ) (i : ℕ) → offset_row separation room slack i ≤ row separation i
unfolding offset_row
offset_le separation room slack i = omega arith

-- an array that is a row's list, read below its length
row_of : (l : List ℕ) (f : ℕ → ℕ) (n i : ℕ) → l ≡ tab f n → i < n → row l i ≡ f i
unfolding row
row_of l f n i e h = rw e (get_or-tab f n i 0 h)

-- rows that agree below n are cut alike
cut-same : (f g : ℕ → ℕ) (n i : ℕ) → ((j : ℕ) → j < n → f j ≡ g j) → cut n f 0 i ≡ cut n g 0 i
cut-same f g n i h =
    ⊎_elim (λ (l : i < n). cut_below n f 0 i l ∙ h i l ∙ sym (cut_below n g 0 i l))
    (λ (l : n ≤ i). cut-above n f 0 i l ∙ sym (cut-above n g 0 i l))
    (below_or_not i n)

module _ (m n : ℕ) (separation budget wish : List ℕ) (f : Framed (m + 1) m n) (g : WishRanges (set_from m n separation budget wish))
    (room : List ℕ) (er : room ≡ tab (cut n (room_row wish budget) 0) 16)
  where
    s : TaskSet
    s = set_from m n separation budget wish

    pub widest_ranges :
        (none widest : List ℕ) → widest ≡ tab (cut n (offset_row separation room none) 0) 16
        → Ranges (set_from m n separation budget widest)
    unfolding set_from
    widest_ranges none widest e =
        record {
          cores = f.cores-high;
          tasks = f.tasks-high;
          timed =
              record {
                separation-low = g.timed.separation-low;
                budget-low = g.timed.budget-low;
                budget-high = g.timed.budget-high;
              };
          separation = g.separation;
          offset = λ i h. rw (row_filled widest (offset_row separation room none) n i f.tasks-high h e) (offset_le separation room none i);
        }

    module _ (widest : List ℕ) (k : ℕ) where
      -- 9 and 10 look at no offset
      rates-same : (r : Result Rates Refusal) → Rated (set_from m n separation budget widest) r → answer_of r ≡ rates_test s
      unfolding s set_from rates_test hyperperiod share
      rates-same r e = e.answer

      pub solve_refused :
          (q : Refusal) → Rated (set_from m n separation budget widest) (Err q) → (t : Result Solved Refusal) → t ≡ Err q
          → RatesSolved (set_from m n separation budget wish) k t
      unfolding s
      solve_refused q e t u =
          record {
            answer = rw u (rates-same (Err q) e ∙ sym (stopped (rates_test s) _ q.number q.index (sym (rates-same (Err q) e))));
            found = rw u tt;
          }

      module _ (r : Rates) (e : Rated (set_from m n separation budget widest) (Ok r)) where
        passed : rates_test s ≡ Accepted
        passed = sym (rates-same (Ok r) e)

        limits : (x : ℕ → ℕ) → Limits (at_slack s x)
        unfolding s set_from rates_test at_slack with_offsets hyperperiod share
        limits x =
            let r9 = first_met-passed _ _ passed in
            let r10 = first_met-passed _ _ r9.1 in
            record {
              cores-low = f.cores-low;
              cores-high = f.cores-high;
              tasks-low = omega (arith, f.tasks-low);
              tasks-high = f.tasks-high;
              separation-low = g.timed.separation-low;
              separation-high = g.separation;
              budget-low = g.timed.budget-low;
              budget-high = g.timed.budget-high;
              offset-high = λ i h. largest-low ((set_from m n separation budget wish).task i) (x i);
              multiple-high = ltb-false _ _ (refuse-passed 9 _ r9.0);
              shares_high = ltb-false _ _ (refuse-passed 10 _ r10.0);
            }

        pub sheet-of : SheetOf (set_from m n separation budget wish) r.share separation budget room r.multiple m n
        unfolding s set_from hyperperiod share room_row
        sheet-of =
            record {
              sheet = record { limits = limits; more-tasks = lt-leb n m (omega (arith, f.tasks-low)); wish_low = g.low; wish_high = g.high };
              cores = refl;
              tasks = refl;
              multiple = e.figures.multiple;
              share = λ i h. row_filled r.share _ n i f.tasks-high h e.figures.share;
              separation = λ i h. refl;
              budget = λ i h. refl;
              room = λ i h. row_filled room (room_row wish budget) n i f.tasks-high h er;
            }

        -- past 9 and 10
        rest : or_next (rates_test s) (last_tests s k) ≡ last_tests s k
        rest = passed_on (rates_test s) _ passed

        pub solve_offered : (q : Refusal) → (k ≡ 0 → ⊥) → q ≡ record { number = 11; index = 0 } → RatesSolved (set_from m n separation budget wish) k (Err q)
        unfolding s last_tests first_met
        solve_offered q z u =
            record { answer = rw u (sym (rest ∙ rw (ne_eqb k 0 z))); found = tt }

        module _ (z : k ≡ 0) (slack : List ℕ) (d : Ended (set_from m n separation budget wish) slack) where
          pub solve_none :
              (q : Refusal) → first (past_row slack room) n < n → q ≡ record { number = 27; index = 0 } → RatesSolved (set_from m n separation budget wish) k (Err q)
          unfolding s set_from last_tests first_met
          solve_none q h u =
              let i = first (past_row slack room) n in
              let met = d.past i h (sym (past_test sheet-of slack i h) ∙ first_holds (past_row slack room) n h) in
              record { answer = rw u (sym (rest ∙ rw (eq-eqb k 0 z, met))); found = tt }

          pub solve_found :
              (offset : List ℕ) → n ≤ first (past_row slack room) n → offset ≡ tab (cut n (offset_row separation room slack) 0) 16
              → RatesSolved (set_from m n separation budget wish) k (Ok (record { offset = offset; slack = slack }))
          unfolding s set_from last_tests first_met
          solve_found offset h eo =
              record { answer = sym (rest ∙ rw (eq-eqb k 0 z, over.0)); found = record { offsets = eo ∙ tab_ext _ _ 16 (λ i l. cut-same _ _ n i each); slack = over.1 } }
            where
              none : (i : ℕ) → i < n → past_row slack room i ≡ false
              none = first-none (past_row slack room) n (omega (arith, first_le (past_row slack room) n))

              over : (no_solution (set_from m n separation budget wish) ≡ false) × (slack ≡ tab (row (wished (set_from m n separation budget wish))) 16)
              over = d.solved (λ i l. sym (past_test sheet-of slack i l) ∙ none i l)

              each : (i : ℕ) → i < n → offset_row separation room slack i ≡ largest_offset ((set_from m n separation budget wish).task i) (row (wished (set_from m n separation budget wish)) i)
              each i l =
                  offset-row sheet-of slack i l
                  ∙ ap (largest_offset ((set_from m n separation budget wish).task i)) (row_of slack _ 16 i over.1 (omega (arith, f.tasks-high)))

pub wishes_passed : (e : ℕ) (t : TaskSet) → wishes_test e t.task t.count ≡ Accepted → WishRanges t
unfolding wishes_test
wishes_passed e t a =
    let r6 = first_met-passed _ _ a in
    let r7 = first_met-passed _ _ r6.1 in
    let r26 = first_met-passed _ _ r7.1 in
    record {
      timed =
          record {
            separation-low = λ i h. (outside-passed 1 100000 _ (lowest-passed 6 _ t.count r6.0 i h)).0;
            budget-low = λ i h. (outside-passed 1 _ _ (lowest-passed 7 _ t.count r7.0 i h)).0;
            budget-high = λ i h. (outside-passed 1 _ _ (lowest-passed 7 _ t.count r7.0 i h)).1;
          };
      separation = λ i h. (outside-passed 1 100000 _ (lowest-passed 6 _ t.count r6.0 i h)).1;
      low = λ i h. (outside-passed _ _ _ (lowest-passed 26 _ t.count r26.0 i h)).0;
      high = λ i h. (outside-passed _ _ _ (lowest-passed 26 _ t.count r26.0 i h)).1;
    }
