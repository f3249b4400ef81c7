-- The stages' answers joined: from the columns and the stages to document 01's tests of a plan.
--     columns-set       the columns stand for the plan's tasks, by the numbers that the analysis reads; plain_ranges: whose ranges those have
--     frame-tests, fields_tests     3, 4 and 5, of a table or a wish sheet, and 6, 7, 8 and 28, from the plan's own arrays
--     limits_split      3 to 10, and 28, are the three stages
--     limits-from       what the three stages leave
--     stopped, passed_on                           a refusal is passed on, and a passed test leaves the next
--     slack-tests, had-plan                        11 and 12 of a plan, and the slack that it has with the tasks counted at it
--     slack-none, slack-own, slack-count, slack-offered     11 and 12 by the slack count, slack-own where loops are no more than cores
--     had-own                                      the slack there
use Rattle.std.specs.Prelude.{Ok, Err, ℕ, ◌-◌, ◌≤◌, ◌<◌, ◌≡◌, Bool, cond, not, ◌||◌, List, [], ◌∷◌, eqb, replicate}
use Rattle.std.proofs.Math.Path.{refl, ap}
use Rattle.std.proofs.Common.{sym, ◌∙◌, true≢false, arith}
use Rattle.std.proofs.Math.Bool.{true, false}
use Rattle.std.proofs.Math.ListN.{take}
use borrow.Author.Tests.{ltb-false, eq-eqb, ne_eqb}
use Rattle.laws.specs.Tab.{tab, cut}
use Rattle.laws.specs.TabLaws.{tab_ext, tab_replicate, get_or-cut, cut_below, cut-map}
use Rattle.tasks.specs.declared.Task.{Task}
use Rattle.tasks.specs.declared.Plan.{Plan}
use Rattle.tasks.specs.Answer.{Answer, Accepted, Refused}
use Rattle.tasks.specs.TaskSet.{TaskSet, plain_task, plain, counted, core_for_each, found, row}
use Rattle.tasks.specs.PlainLaws.{plain-multiple, plain_shares, plain-counted, plain-compliant, plain-found}
use Rattle.tasks.proofs.AmountLaws.{counted_ext}
use Rattle.tasks.proofs.FoundLaws.{found_zeros}
use Rattle.tasks.specs.Content.{in_edition, Content, content_of, task_of, no_task}
use Rattle.tasks.specs.Tests.{refuse, bad_label, bad_count, first_met, or_next, compliant_test, test3, test4, test5, test6, test7, test8, test28, test9, test10, test11}
use Rattle.tasks.specs.AnswerLaws.{refuse-passed, lowest_ext, first_met-append, first_met-passed}
use Rattle.tasks.specs.Limits.{Limits}
use Rattle.tasks.specs.Terms.{limit_tests}
use Rattle.fields.specs.Columns.{columns_of, set_from}
use Rattle.fields.specs.Stages.{least_by, frame_test, fields_test}
use Rattle.fields.specs.StageLaws.{fields_scan}
use Rattle.slack.specs.Rates.{Ranges, rates_test}
use Rattle.slack.specs.Arrays.{Had}
use Rattle.analysis.specs.SlackTest.{offering, slack_test, offered_test, had_slack}
use Rattle.slack.specs.StageLaws.{Framed}

-- a field of a row of tasks, as a column has it
column : (n : ℕ) (task : ℕ → Task) (field : Task → ℕ) → field no_task ≡ 0 → n ≤ 16 → (i : ℕ) →
    row (tab (cut n (λ i. field (task i)) 0) 16) i ≡ field (cut n task no_task i)
unfolding row
column n task field z h i = get_or-cut n 16 (λ i. field (task i)) 0 h i ∙ cut-map field n task 0 no_task z i

pub columns-set :
    (p : Plan) → p.tasks ≤ 16 →
    set_from p.cores p.tasks (columns_of p.tasks p.task).separation (columns_of p.tasks p.task).budget (columns_of p.tasks p.task).offset
    ≡ plain (content_of p).tasks
unfolding set_from columns_of content_of no_task plain
columns-set p h =
    let task : ℕ → Task = λ i. in_edition p.edition (task_of p.task i) in
    λ j.
    record {
      cores = p.cores;
      count = p.tasks;
      task = λ i.
          plain_task
          (column p.tasks task (λ t. t.separation) refl h i j)
          (column p.tasks task (λ t. t.budget) refl h i j)
          (column p.tasks task (λ t. t.offset) refl h i j);
    }

pub plain_ranges : (s : TaskSet) → Ranges s → Ranges (plain s)
unfolding plain
plain_ranges s g =
    record {
      cores = g.cores;
      tasks = g.tasks;
      timed =
          record {
            separation-low = g.timed.separation-low;
            budget-low = g.timed.budget-low;
            budget-high = g.timed.budget-high;
          };
      separation = g.separation;
      offset = g.offset;
    }

-- the labels that a test looks at are in use
label-cut : (m : ℕ) (label : ℕ → ℕ) (i : ℕ) → i < m → bad_label (cut m label 0) i ≡ bad_label label i
unfolding bad_label
label-cut m label i h = rw (cut_below m label 0 i h, cut_below m label 0 (i - 1) (omega arith))

module _ (p : Plan) (k : ℕ) where
  pub frame-tests :
      (wishes : Bool)
      → frame_test wishes p.cores (row p.labels) p.tasks
      ≡ first_met (test3 (offering p k) ∷ test4 (offering p k) ∷ refuse 5 (bad_count (least_by wishes p.cores) p.tasks) ∷ [])
  unfolding frame_test test3 test4 offering content_of
  frame-tests wishes =
      rw (lowest_ext 4 (bad_label (cut p.cores (row p.labels) 0)) (bad_label (row p.labels)) p.cores (label-cut p.cores (row p.labels)))

  pub fields_tests :
      fields_test p.edition (task_of p.task) p.tasks
      ≡ first_met (test6 (offering p k) ∷ test7 (offering p k) ∷ test8 (offering p k) ∷ test28 (offering p k) ∷ [])
  unfolding test6 test7 test8 test28 offering content_of fields_test
  fields_tests = fields_scan p

module _ (c : Content) where
  pub limits_split :
      limit_tests c
      ≡ or_next (first_met (test3 c ∷ test4 c ∷ test5 c ∷ []))
      (or_next (first_met (test6 c ∷ test7 c ∷ test8 c ∷ test28 c ∷ [])) (first_met (test9 c ∷ test10 c ∷ [])))
  unfolding limit_tests
  limits_split =
      first_met-append (test3 c ∷ test4 c ∷ test5 c ∷ []) (test6 c ∷ test7 c ∷ test8 c ∷ test28 c ∷ test9 c ∷ test10 c ∷ [])
      ∙ ap (or_next (first_met (test3 c ∷ test4 c ∷ test5 c ∷ [])))
      (first_met-append (test6 c ∷ test7 c ∷ test8 c ∷ test28 c ∷ []) (test9 c ∷ test10 c ∷ []))

  pub rates_tests : (s : TaskSet) → s ≡ plain c.tasks → rates_test s ≡ first_met (test9 c ∷ test10 c ∷ [])
  unfolding rates_test test9 test10
  rates_tests s e = rw (e, plain-multiple c.tasks, plain_shares c.tasks)

pub limits-from :
    (m n : ℕ) (separation budget offset : List ℕ) → Framed 1 m n → Ranges (set_from m n separation budget offset) →
    rates_test (set_from m n separation budget offset) ≡ Accepted → Limits (set_from m n separation budget offset)
unfolding rates_test set_from
limits-from m n separation budget offset f g a =
    let r9 = first_met-passed _ _ a in
    let r10 = first_met-passed _ _ r9.1 in
    record {
      cores-low = f.cores-low;
      cores-high = f.cores-high;
      tasks-low = f.tasks-low;
      tasks-high = f.tasks-high;
      separation-low = g.timed.separation-low;
      separation-high = g.separation;
      budget-low = g.timed.budget-low;
      budget-high = g.timed.budget-high;
      offset-high = g.offset;
      multiple-high = ltb-false _ _ (refuse-passed 9 _ r9.0);
      shares_high = ltb-false _ _ (refuse-passed 10 _ r10.0);
    }

-- a refusal is passed on, and a test that is passed leaves the next ones
pub stopped : (a b : Answer) (k i : ℕ) → a ≡ Refused k i → or_next a b ≡ a
stopped a b k i e = rw e

pub passed_on : (a b : Answer) → a ≡ Accepted → or_next a b ≡ b
passed_on a b e = rw e

module _ (s : TaskSet) (slack : List ℕ) (k : ℕ) where
  pub slack-none : k ≡ 0 → slack_test s slack k ≡ Accepted
  unfolding slack_test first_met
  slack-none e = rw e

  -- where loops are no more than cores
  pub slack-own : core_for_each s.cores s.count ≡ true → slack_test s slack k ≡ refuse 11 (not (eqb k 0))
  unfolding slack_test first_met
  slack-own each = rw each (go (eqb k 0))
    where
      go :
          (b : Bool)
          → or_next (refuse 11 (not (b || false))) (or_next (cond b Accepted (compliant_test s (cut s.count (row slack) 0))) Accepted) ≡ refuse 11 (not b)
      go true = refl
      go false = refl

  pub had-own :
      (zeros names : List ℕ) → core_for_each s.cores s.count ≡ true → zeros ≡ replicate 16 0 → k ≡ 0
      → Had s (cond (eqb k 0) (row (found s)) (cut s.count (row slack) 0)) zeros names
  had-own zeros names each ez z =
      record {
        places = rw z (ez ∙ sym (tab_replicate 0 16) ∙ tab_ext _ _ 16 (λ i h. sym (found_zeros s each i)));
        counts = λ more. absurd (true≢false (sym each ∙ more));
      }

  module _ (more : core_for_each s.cores s.count ≡ false) where
    pub slack-count : (k ≡ 0 → ⊥) → (k ≡ s.count → ⊥) → slack_test s slack k ≡ Refused 11 0
    unfolding slack_test first_met
    slack-count e f = rw (ne_eqb k 0 e, more, ne_eqb k s.count f)

    pub slack-offered :
        (k ≡ 0 → ⊥) → k ≡ s.count →
        slack_test s slack k ≡ compliant_test s (cut s.count (row slack) 0)
    unfolding slack_test first_met
    slack-offered e f = rw (ne_eqb k 0 e, more, eq-eqb k s.count f) (last _)
      where
        last : (a : Answer) → or_next a Accepted ≡ a
        last (Ok tt) = refl
        last (Err r) = refl

-- the last stage of a plan whose task set the columns stand for
module _ (p : Plan) (k : ℕ) (s : TaskSet) (e : s ≡ plain (content_of p).tasks) where
  pub slack-tests : slack_test s p.slack k ≡ first_met (test11 (offering p k) ∷ offered_test (offering p k) ∷ [])
  unfolding slack_test test11 offered_test offering content_of plain
  slack-tests = rw (e, plain-compliant (content_of p).tasks (cut p.tasks (row p.slack) 0))

  slack-had : (i : ℕ) → cond (eqb k 0) (row (found s)) (cut s.count (row p.slack) 0) i ≡ had_slack (offering p k) i
  unfolding had_slack offering content_of plain
  slack-had i = rw (e, plain-found (content_of p).tasks)

  pub had-plan :
      (slack names : List ℕ) → Had s (cond (eqb k 0) (row (found s)) (cut s.count (row p.slack) 0)) slack names
      → Had (offering p k).tasks (had_slack (offering p k)) slack names
  unfolding plain offering
  had-plan slack names g =
      record {
        places = g.places ∙ tab_ext _ _ 16 (λ i h. slack-had i);
        counts = λ more.
            ap (λ (t : TaskSet). take (t.cores - 1) names) (sym e)
            ∙ g.counts (rw e more)
            ∙ ap (λ (t : TaskSet). counted t (cond (eqb k 0) (row (found s)) (cut s.count (row p.slack) 0))) e
            ∙ plain-counted (content_of p).tasks _
            ∙ counted_ext (content_of p).tasks _ _ (λ i h. slack-had i);
      }
