-- What settles a plan's slack, from what the stages have worked out.
--     Framed, frame-passed, ranges_passed    what 3 to 5, and 6 to 8 and 28, leave; 5 of `least` tasks at least
--     arrays-of                    the rates and columns of a task set past 3 to 10
--     cores-low … surplus-high       what ties the arrays to a task set keeps every number small
--     counted-row                    the tasks that the code counts are those counted
--     amount-row                     the amount that the code works out is A
--     uncovered_test                 the code's test of one task is the condition's
--     offered-refused, offered-passed, offered-had    12 of offered slack, and that slack with the tasks counted at it
--     row-of_filled                  an array that is filled up to n, as a row
use Rattle.std.specs.Prelude.{ℕ, ◌+◌, ◌*◌, ◌-◌, ◌≤◌, ◌<◌, ◌≡◌, refl, Bool, true, false, not, List, ltb, leb, take}
use Rattle.std.proofs.Common.{sym, ◌∙◌, arith, lt-ltb, le-ltb, leb-true, leb-false, ltb-false}
use Rattle.std.proofs.Math.Path.{ap, ap₂, fun_ext}
use Rattle.laws.specs.First.{first}
use Rattle.laws.specs.FirstLaws.{first_ext, first_le}
use Rattle.laws.specs.Sum.{sum_over}
use Rattle.laws.specs.SumLaws.{sum_over_ext}
use Rattle.laws.specs.Rank.{largest}
use Rattle.laws.specs.LargestLaws.{largest_ext, largest-below}
use Rattle.laws.specs.Tab.{tab, cut}
use Rattle.laws.specs.TabLaws.{get_or-cut}
use Rattle.tasks.specs.Answer.{Accepted, Refused}
use Rattle.tasks.specs.TaskSet.{TaskSet, hyperperiod, weight, counted, amount, cover, covers, row}
use Rattle.tasks.specs.Limits.{Limits}
use Rattle.tasks.proofs.ShareLaws.{share-high, surpluses_high, hyperperiod-low}
use Rattle.tasks.specs.Tests.{lowest}
use Rattle.tasks.specs.AnswerLaws.{refuse-passed, lowest-passed, lowest-found, lowest-none, first_met-passed, outside-passed}
use Rattle.slack.specs.declared.rates.Rates.{Rates}
use Rattle.fields.specs.Columns.{set_from}
use Rattle.fields.specs.Stages.{least_by, frame_test, fields_test}
use Rattle.slack.specs.Rates.{Ranges, Figures}
use Rattle.slack.specs.RatesLaws.{row_filled}
use Rattle.slack.specs.Weights.{weight_row, Few}
use Rattle.slack.specs.Arrays.{uncovered, ArraysOf, Had}

pub record Framed (least m n : ℕ) : Type 0 where
  pub cores-low : 2 ≤ m
  pub cores-high : m ≤ 8
  pub tasks-low : least ≤ n
  pub tasks-high : n ≤ 16

pub frame-passed : (wishes : Bool) (m : ℕ) (label : ℕ → ℕ) (n : ℕ) → frame_test wishes m label n ≡ Accepted → Framed (least_by wishes m) m n
unfolding frame_test
frame-passed wishes m label n a =
    let r3 = first_met-passed _ _ a in
    let r4 = first_met-passed _ _ r3.1 in
    let r5 = first_met-passed _ _ r4.1 in
    let o3 = outside-passed 2 8 m (refuse-passed 3 _ r3.0) in
    let o5 = outside-passed (least_by wishes m) 16 n (refuse-passed 5 _ r5.0) in
    record { cores-low = o3.0; cores-high = o3.1; tasks-low = o5.0; tasks-high = o5.1 }

pub ranges_passed : {least : ℕ} (e : ℕ) (s : TaskSet) → Framed least s.cores s.count → fields_test e s.task s.count ≡ Accepted → Ranges s
unfolding fields_test
ranges_passed e s f a =
    let r6 = first_met-passed _ _ a in
    let r7 = first_met-passed _ _ r6.1 in
    let r8 = first_met-passed _ _ r7.1 in
    record {
      cores = f.cores-high;
      tasks = f.tasks-high;
      timed =
          record {
            separation-low = λ i h. (outside-passed 1 100000 _ (lowest-passed 6 _ s.count r6.0 i h)).0;
            budget-low = λ i h. (outside-passed 1 _ _ (lowest-passed 7 _ s.count r7.0 i h)).0;
            budget-high = λ i h. (outside-passed 1 _ _ (lowest-passed 7 _ s.count r7.0 i h)).1;
          };
      separation = λ i h. (outside-passed 1 100000 _ (lowest-passed 6 _ s.count r6.0 i h)).1;
      offset = λ i h. ltb-false _ _ (lowest-passed 8 _ s.count r8.0 i h);
    }

pub arrays-of :
    (m n : ℕ) (separation budget offset : List ℕ) (r : Rates) → n ≤ 16 → Limits (set_from m n separation budget offset) → m < n →
    Figures (set_from m n separation budget offset) r →
    ArraysOf (set_from m n separation budget offset) r.share budget offset r.multiple r.surplus m n
unfolding set_from
arrays-of m n separation budget offset r h L more f =
    record {
      limits = L;
      more-tasks = more;
      cores = refl;
      tasks = refl;
      multiple = f.multiple;
      surplus = f.surplus;
      share = λ i k. row_filled r.share _ n i h k f.share;
      budget = λ i k. refl;
      offset = λ i k. refl;
    }

below_not : (a b : ℕ) → ltb b a ≡ not (leb a b)
below_not a b = go (leb a b) refl
  where
    go : (t : Bool) → leb a b ≡ t → ltb b a ≡ not (leb a b)
    go true e = le-ltb b a (leb-true a b e) ∙ rw e
    go false e = lt-ltb b a (leb-false a b e) ∙ rw e

pub row-of_filled : (n : ℕ) (f : ℕ → ℕ) → n ≤ 16 → row (tab (cut n f 0) 16) ≡ cut n f 0
unfolding row
row-of_filled n f h = fun_ext (λ i. get_or-cut n 16 f 0 h i)

module _ {s : TaskSet} {shares budgets offsets : List ℕ} {h surpluses m n : ℕ} (g : ArraysOf s shares budgets offsets h surpluses m n) where
  -- every number is small
  pub cores-low : 2 ≤ m
  cores-low = omega (arith, g.cores, g.limits.cores-low)

  pub cores-high : m ≤ 8
  cores-high = omega (arith, g.cores, g.limits.cores-high)

  pub more : m < n
  more = omega (arith, g.cores, g.tasks, g.more-tasks)

  pub tasks-high : n ≤ 16
  tasks-high = omega (arith, g.tasks, g.limits.tasks-high)

  pub multiple-low : 1 ≤ h
  multiple-low = omega (arith, g.multiple, hyperperiod-low s)

  pub multiple-high : h ≤ 1000000
  multiple-high = omega (arith, g.multiple, g.limits.multiple-high)

  pub few : Few shares n
  few =
      record {
        sixteen = tasks-high;
        million = λ i k.
            let t : i < s.count = omega (arith, g.tasks) in
            rw (g.share i t) (share-high s g.limits i t);
      }

  pub surplus-high : surpluses < 1000000000000000000
  surplus-high = omega (arith, g.surplus, surpluses_high s g.limits s.count (omega arith))

  weight-row : (x : List ℕ) (i : ℕ) → i < s.count → weight_row shares offsets x i ≡ weight s (row x) i
  unfolding weight_row weight
  weight-row x i l = rw (g.share i l, g.offset i l)

  pub counted-row : (x : List ℕ) → largest (m - 1) (weight_row shares offsets x) n ≡ counted s (row x)
  unfolding counted
  counted-row x = rw (g.cores, g.tasks) (largest_ext (s.cores - 1) _ _ s.count (weight-row x))

  pub amount-row :
      (x : List ℕ) → sum_over (weight_row shares offsets x) (largest (m - 1) (weight_row shares offsets x) n) + surpluses ≡ amount s (row x)
  unfolding amount
  amount-row x =
      ap₂ (λ (a b : ℕ). a + b)
      (sum_over_ext _ _ _ (λ i l. weight-row x i (omega (arith, g.tasks, largest-below (m - 1) (weight_row shares offsets x) n i l)))
      ∙ ap (sum_over (weight s (row x))) (counted-row x))
      g.surplus

  pub uncovered_test :
      (x : List ℕ) (a k : ℕ) → a ≡ amount s (row x) → k < s.count → uncovered a h m budgets x k ≡ not (covers s (row x) k)
  unfolding uncovered covers cover
  uncovered_test x a k e l =
      rw (g.cores, g.multiple, g.budget k l, e)
      (below_not (amount s (row x)) (s.cores * hyperperiod s * row x k + hyperperiod s * (s.task k).budget))

  module _ (slack used : List ℕ) (eu : used ≡ tab (cut n (row slack) 0) 16) (a : ℕ) (ea : a ≡ amount s (row used)) (bad : ℕ)
      (eb : bad ≡ first (uncovered a h m budgets used) n)
    where
      used-row : row used ≡ cut s.count (row slack) 0
      used-row = rw (← g.tasks) (ap row eu ∙ row-of_filled n (row slack) tasks-high)

      first-bad : bad ≡ first (λ k. not (covers s (cut s.count (row slack) 0) k)) s.count
      first-bad =
          eb
          ∙ rw (g.tasks, ← used-row) (first_ext _ _ s.count (λ k l. uncovered_test used a k ea l))

      pub offered-refused : bad < n → lowest 12 (λ k. not (covers s (cut s.count (row slack) 0) k)) s.count ≡ Refused 12 bad
      offered-refused l = lowest-found 12 _ s.count bad (sym first-bad) (omega (arith, g.tasks))

      pub offered-passed : n ≤ bad → lowest 12 (λ k. not (covers s (cut s.count (row slack) 0) k)) s.count ≡ Accepted
      offered-passed l = lowest-none 12 _ s.count (omega (arith, first-bad, g.tasks, first_le (λ k. not (covers s (cut s.count (row slack) 0) k)) s.count))

      pub offered-had : (names : List ℕ) → take (m - 1) names ≡ largest (m - 1) (weight_row shares offsets used) n → Had s (cut s.count (row slack) 0) used names
      offered-had names e =
          record {
            places = rw (← g.tasks) eu;
            counts = λ more. rw g.cores at (e ∙ counted-row used) ∙ ap (counted s) used-row;
          }
