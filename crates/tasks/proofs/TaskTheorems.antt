-- What document 01 says of H, and of more loops than cores of the counted loops and of found slack, for every table or plan that passes 3 to 10; what
-- document 02, §7, says of the others; and of late.
--     H_is_least      H is Common, a number that every separation divides, and none is smaller
--     most-weight     the counted loops are Candidates, and none has a larger sum of weights
--     counted_by_weight    the counted loops are ByWeight; by_weight-only: and no others are
--     names-at-slack  the loops that a judgement names are so by the weights at its slack
--     found_exists    found slack is Least, with one entry for each loop
--     found_is_only   and is the only one
--     slack-none, bound-budget, names-none    where loops are no more than cores, found slack is 0, the bound is C and no loop is named
--     shares_fit, offered_never, unoffered_exactly    and 10 is never met, 11 whenever slack is offered, and else 11 to 13 exactly if slack isn't 0
--     late-from-point, late-before    in edition 1 past Y the bound is Y and then late, and up to Y late is 0; late-slack: of more loops than cores x + C
--     late-none, late-from-deadline    in edition 2 late is 0 up to the deadline, and past it the bound is D and then late
--     offered_exactly    offered slack passes 11 to 13 exactly if it is compliant and every bound is at most 16 × T
use Rattle.std.specs.Prelude.{ℕ, ◌+◌, ◌*◌, ◌≤◌, ◌<◌, ◌≡◌, refl, true, false, not, ◌↔◌, ◌≢◌, List, [], ◌∷◌, length, ltb, eqb}
use Rattle.std.proofs.Common.{sym, ap, ◌∙◌, le_of_eq}
use Rattle.std.proofs.Math.Nat.{mul-le-mul_right}
use native.Mathlib.Omega.{arith}
use borrow.Author.Tests.{le-ltb, leb-true, leb-false, eq-eqb, ne_eqb}
use Rattle.laws.specs.Sum.{sum, sum_over}
use Rattle.laws.specs.SumLaws.{sum_le_mul, sum_over_members, count_members}
use Rattle.tasks.specs.Answer.{Accepted, Refused}
use Rattle.tasks.specs.TaskSet.{hyperperiod, share, weight, counted, Compliant, covers, core_for_each, found, bound, row}
use Rattle.tasks.specs.Content.{has_deadlines, Content, late_of, late, counted_of}
use Rattle.tasks.specs.Limits.{Bounded}
use Rattle.tasks.specs.Tests.{first_met, test10, test11, test12, test13, tests}
use Rattle.tasks.specs.AnswerLaws.{pass_lowest, pass_first_met}
use Rattle.tasks.specs.Terms.{limit_tests, slack_tests}
use Rattle.tasks.proofs.LimitsLaws.{tests_split, limits-passed}
use Rattle.tasks.specs.Terms.{Timed}
use Rattle.tasks.proofs.ShareLaws.{timed, hyperperiod-low, hyperperiod-divided, hyperperiod-least, share_le}
use Rattle.tasks.proofs.AmountLaws.{counted-below, counted-distinct, counted-length, counted-ahead, counted-order, counted-only, counted_best}
use Rattle.tasks.proofs.SlackLaws.{compliant-covers}
use Rattle.tasks.proofs.TestsLaws.{tests-passed, tests-compliant, tests-bounded}
use Rattle.tasks.proofs.FoundLaws.{found_zeros, found-compliant, found-least, found-length, found_unique}
use Rattle.tasks.specs.BoundLaws.{bound-each, bound-more}
use Rattle.tasks.specs.Terms.{Common, Candidates, ByWeight, Least}

module _ (c : Content) (passed : limit_tests c ≡ Accepted) where
  -- "H is the least common multiple of all T."
  pub H_is_least :
      Common c.tasks (hyperperiod c.tasks) × ((h : ℕ) → Common c.tasks h → hyperperiod c.tasks ≤ h)
  H_is_least =
      let t = timed (limits-passed c passed).0 in (
        record { positive = hyperperiod-low c.tasks; divided = hyperperiod-divided c.tasks t },
        λ h m. hyperperiod-least c.tasks t h m.positive m.divided,
      )

-- of more loops than cores
module _ (c : Content) (passed : limit_tests c ≡ Accepted) (more : core_for_each c.tasks.cores c.tasks.count ≡ false) where
  -- "the m − 1 largest weights"
  pub most-weight :
      (x : ℕ → ℕ)
      → Candidates c.tasks (counted c.tasks x)
      × ((l : List ℕ) → Candidates c.tasks l → sum_over (weight c.tasks x) l ≤ sum_over (weight c.tasks x) (counted c.tasks x))
  most-weight x = (
    record {
      loops = counted-below c.tasks x;
      distinct = counted-distinct c.tasks x;
      many = counted-length c.tasks x (leb-false _ _ more);
    },
    λ l m.
        rw (sum_over_members (weight c.tasks x) l c.tasks.count m.distinct m.loops)
        (counted_best c.tasks x _ (rw (count_members l c.tasks.count m.distinct m.loops) (le_of_eq m.many))),
  )

  pub counted_by_weight : (x : ℕ → ℕ) → ByWeight c.tasks x (counted c.tasks x)
  counted_by_weight x =
      record {
        loops = (most-weight x).0;
        largest = λ i j m h f. (counted-ahead c.tasks x i j m h f).0;
        lower = λ i j m h f. (counted-ahead c.tasks x i j m h f).1;
        falling = λ a b l h. (counted-order c.tasks x a b l h).0;
        rising = λ a b l h. (counted-order c.tasks x a b l h).1;
      }

  pub by_weight-only : (x : ℕ → ℕ) (l : List ℕ) → ByWeight c.tasks x l → l ≡ counted c.tasks x
  by_weight-only x l n =
      counted-only c.tasks x l (leb-false _ _ more) n.loops.many n.loops.loops
      (λ a b p q. (n.falling a b p q, n.rising a b p q))
      (λ i j m h f. (n.largest i j m h f, n.lower i j m h f))

  -- "by the weights at its slack, offered or found alike"
  pub names-at-slack : ByWeight c.tasks c.slack (counted_of c)
  unfolding counted_of
  names-at-slack = rw more (counted_by_weight c.slack)

  -- "Found slack is the compliant whole vector that is no larger at any loop than any other"; "One always exists within the limits."
  pub found_exists : Least c.tasks (row (found c.tasks)) × (length (found c.tasks) ≡ c.tasks.count)
  found_exists =
      let L = (limits-passed c passed).0 in
      (record { compliant = found-compliant c.tasks L more; least = found-least c.tasks L }, found-length c.tasks L)

  pub found_is_only : (x : List ℕ) → length x ≡ c.tasks.count → Least c.tasks (row x) → x ≡ found c.tasks
  found_is_only x l m = found_unique c.tasks (limits-passed c passed).0 more x l m.compliant m.least

  -- "Offered slack isn't compliant"; "A bound is above 16 × T.": of a content with a slack count of n
  pub offered_exactly : c.offers ≡ c.tasks.count → (tests c ≡ Accepted) ↔ (Compliant c.tasks c.slack × Bounded c.tasks c.slack)
  unfolding slack_tests first_met test11 test12 test13 Bounded
  offered_exactly n = (λ a. (tests-compliant c a more, tests-bounded c a), λ h. accepted h.0 h.1)
    where
      some : c.offers ≡ 0 → ⊥
      some z = omega (arith, (limits-passed c passed).0.tasks-low)

      eleven : test11 c ≡ Accepted
      eleven = rw (ne_eqb c.offers 0 some, more, eq-eqb c.offers c.tasks.count n)

      twelve : Compliant c.tasks c.slack → test12 c ≡ Accepted
      twelve h =
          rw (ne_eqb c.offers 0 some)
          (pass_lowest 12 (λ k. not (covers c.tasks c.slack k)) c.tasks.count (λ k l. ap not (compliant-covers c.tasks c.slack h k l)))

      thirteen : Bounded c.tasks c.slack → test13 c ≡ Accepted
      thirteen b = pass_lowest 13 (λ i. ltb (16 * (c.tasks.task i).separation) (bound c.tasks c.slack i)) c.tasks.count (λ i l. le-ltb _ _ (b i l))

      accepted : Compliant c.tasks c.slack → Bounded c.tasks c.slack → tests c ≡ Accepted
      accepted h b =
          tests_split c
          ∙ rw passed
          (pass_first_met (test11 c) (test12 c ∷ test13 c ∷ []) eleven
          (pass_first_met (test12 c) (test13 c ∷ []) (twelve h) (pass_first_met (test13 c) [] (thirteen b) refl)))

-- "Where loops are no more than cores, … its slack is 0 and its bound is its budget"
module _ (c : Content) (each : core_for_each c.tasks.cores c.tasks.count ≡ true) where
  pub slack-none : (k : ℕ) → row (found c.tasks) k ≡ 0
  slack-none = found_zeros c.tasks each

  pub bound-budget : (i : ℕ) → bound c.tasks c.slack i ≡ (c.tasks.task i).budget
  bound-budget = bound-each c.tasks c.slack each

  -- "A judgement then names no loop"
  pub names-none : counted_of c ≡ []
  unfolding counted_of
  names-none = rw each

  -- a share is at most H, and there are no more of them than cores
  pub shares_fit : Timed c.tasks → test10 c ≡ Accepted
  unfolding test10
  shares_fit t =
      let fit : sum (share c.tasks) c.tasks.count ≤ c.tasks.cores * hyperperiod c.tasks = omega (
        arith,
        sum_le_mul (share c.tasks) (hyperperiod c.tasks) c.tasks.count (share_le c.tasks t),
        mul-le-mul_right (hyperperiod c.tasks) (leb-true c.tasks.count c.tasks.cores each),
      ) in
      rw (le-ltb _ _ fit)

  module _ (passed : limit_tests c ≡ Accepted) where
    -- "offered slack for such a table is refused 11"
    pub offered_never : c.offers ≢ 0 → tests c ≡ Refused 11 0
    unfolding slack_tests first_met test11
    offered_never n = tests_split c ∙ rw (passed, ne_eqb c.offers 0 n, each)

    -- a content that offers none passes 11 to 13 exactly if its slack is 0
    pub unoffered_exactly : c.offers ≡ 0 → (tests c ≡ Accepted) ↔ ((k : ℕ) → k < c.tasks.count → c.slack k ≡ 0)
    unfolding slack_tests first_met test11 test12 test13
    unoffered_exactly z = (λ a k h. (tests-passed c a).as_found z k h ∙ slack-none k, accepted)
      where
        bounded : test13 c ≡ Accepted
        bounded =
            pass_lowest 13 _ c.tasks.count
            (λ i h. le-ltb (16 * (c.tasks.task i).separation) (bound c.tasks c.slack i) (omega (arith, bound-budget i, (limits-passed c passed).0.budget-high i h)))

        accepted : ((k : ℕ) → k < c.tasks.count → c.slack k ≡ 0) → tests c ≡ Accepted
        accepted zeros =
            tests_split c
            ∙ rw (
              passed,
              z,
              pass_lowest 12 (λ k. not (eqb (c.slack k) (row (found c.tasks) k))) c.tasks.count
                  (λ k h. ap not (eq-eqb _ _ (zeros k h ∙ sym (slack-none k)))),
              bounded,
            )

-- The bound is "counted from release", late "from the priority point", which is Y ticks after the release.
module _ (c : Content) (i : ℕ) where
  module _ (e : has_deadlines c.edition ≡ false) where
    pub late-from-point : (c.tasks.task i).offset ≤ bound c.tasks c.slack i → bound c.tasks c.slack i ≡ (c.tasks.task i).offset + late c i
    unfolding late late_of
    late-from-point h = rw e (omega arith)

    pub late-before : bound c.tasks c.slack i ≤ (c.tasks.task i).offset → late c i ≡ 0
    unfolding late late_of
    late-before h = rw e (omega arith)

    -- "Late is x + C", of more loops than cores
    pub late-slack : core_for_each c.tasks.cores c.tasks.count ≡ false → late c i ≡ c.slack i + (c.tasks.task i).budget
    unfolding late late_of
    late-slack more = rw (e, bound-more c.tasks c.slack more i) (omega arith)

  -- "late is the larger of 0 and bound − D"
  module _ (e : has_deadlines c.edition ≡ true) where
    pub late-none : bound c.tasks c.slack i ≤ (c.tasks.task i).deadline → late c i ≡ 0
    unfolding late late_of
    late-none h = rw e (omega arith)

    pub late-from-deadline :
        (c.tasks.task i).deadline ≤ bound c.tasks c.slack i → bound c.tasks c.slack i ≡ (c.tasks.task i).deadline + late c i
    unfolding late late_of
    late-from-deadline h = rw e (omega arith)
