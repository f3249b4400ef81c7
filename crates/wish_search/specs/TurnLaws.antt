-- One turn of the search for a wish sheet's slack: x, nowhere above W − C, is raised to y by the number d.
--     within          no task's slack is above W − C
--     onward_round, onward_leap    what A of x needs is a number to go on with, and so is one that a leap ends at
--     turn_below      no solution's slack is below y
--     turn_falls      something changed: the distance to W − C falls
--     ended-still     nothing changed: the search has ended with the wished slack
--     ended-past      some task's slack is above W − C: it has ended without a solution
use Rattle.std.specs.Prelude.{ℕ, ◌+◌, ◌*◌, ◌-◌, ◌/◌, ◌%◌, ◌≤◌, ◌<◌, ◌≡◌, true, false, List, length}
use Rattle.std.proofs.Math.Path.{sym}
use Rattle.std.proofs.Common.{◌∙◌, ⊎_elim, le_trans, mul-le-mul_left, arith}
use Rattle.std.proofs.Math.Bool.{true≢false}
use borrow.Author.Tests.{ltb-true, ltb-false}
use Rattle.laws.specs.First.{first}
use Rattle.laws.specs.FirstLaws.{first_le, first_holds, first-none}
use Rattle.laws.specs.EveryLaws.{below_or_not}
use Rattle.laws.specs.Sum.{sum}
use Rattle.laws.specs.SumLaws.{sum_ext}
use Rattle.laws.specs.Tab.{tab, cut}
use Rattle.laws.specs.TabLaws.{ext_tab}
use Rattle.tasks.specs.TaskSet.{TaskSet, hyperperiod, amount, needed, row}
use Rattle.tasks.proofs.ShareLaws.{hyperperiod-low}
use Rattle.slack.specs.Arrays.{lifted, upto, Needs}
use Rattle.slack.proofs.NeedLaws.{need-covers, need-least, needed_rounded}
use Rattle.slack.specs.SearchLaws.{changes}
use Rattle.slack.proofs.SearchLaws.{turn_lifted, turn_length, turn_past, turn_still, turn_changed}
use Rattle.wishes.specs.Wish.{room, with_offsets, at_slack, wished, passes, no_solution}
use Rattle.wishes.proofs.WishLaws.{at_mono, need_mono, wished-past}
use Rattle.wishes.specs.RaisingLaws.{Solving, Below}
use Rattle.wishes.proofs.RaisingLaws.{below_next, below_round, below_less, below-over, below-past}
use Rattle.wish_offsets.specs.Rows.{past_row}
use Rattle.wish_search.specs.SheetArrays.{SheetOf, Onward, Ended}
use Rattle.wish_search.specs.SheetLaws.{arrays, past_test}
use Rattle.wish_search.specs.Leaps.{need_at, Ahead}
use Rattle.wish_search.specs.FarLaws.{number-under}

module _ {s : TaskSet} {shares separations budgets rooms : List ℕ} {h m n : ℕ} (g : SheetOf s shares separations budgets rooms h m n)
    (x : List ℕ) {names : List ℕ} {d : ℕ} (N : Needs (at_slack s (row x)) (row x) names d)
  where
    needs-high : amount (at_slack s (row x)) (row x) ≤ hyperperiod s * d
    unfolding hyperperiod at_slack with_offsets
    needs-high = rw N.needs (need-covers (amount (at_slack s (row x)) (row x)) (hyperperiod s) (hyperperiod-low s))

    needs-under : Below s (row x) → (v : ℕ → ℕ) → Solving s v → (k : ℕ) → k < s.count → needed s (hyperperiod s * d) k ≤ v k
    unfolding needed hyperperiod at_slack with_offsets
    needs-under l v p k i =
        rw (needed_rounded (at_slack s (row x)) (g.sheet.limits (row x)) (amount (at_slack s (row x)) (row x)) k d N.needs)
        (below_round s g.sheet.limits (row x) l v p k i)

    pub onward_round : Onward s (row x) d
    onward_round = record { high = needs-high; under = needs-under }

    -- A of no solution's slack needs less
    at_least : Below s (row x) → (v : ℕ → ℕ) → Solving s v → d ≤ need_at s v
    unfolding hyperperiod at_slack with_offsets
    at_least l v p =
        rw N.needs
        (need-least (amount (at_slack s (row x)) (row x)) (hyperperiod s) (hyperperiod-low s) (need_at s v)
        (le_trans (at_mono s (row x) v (l.least v p)) (need-covers (amount (at_slack s v) v) (hyperperiod s) (hyperperiod-low s))))

    pub onward_leap : (e : ℕ) → d ≤ e → Ahead s d e → Onward s (row x) e
    onward_leap e h ahead =
        record {
          high = le_trans needs-high (mul-le-mul_left (hyperperiod s) h);
          under =
              λ l v p k i.
              le_trans
              (need_mono s g.sheet.limits _ _ k (mul-le-mul_left (hyperperiod s) (ahead v p (at_least l v p))))
              (number-under g v p k i);
        }

module _ {s : TaskSet} {shares separations budgets rooms : List ℕ} {h m n : ℕ} (g : SheetOf s shares separations budgets rooms h m n)
    (x : List ℕ) (l : Below s (row x))
  where
    pub within : n ≤ first (past_row x rooms) n → (i : ℕ) → i < s.count → row x i ≤ room (s.task i)
    unfolding passes
    within e i k =
        let p = past_row x rooms in
        let none = first-none p n (omega (arith, first_le p n)) i (omega (arith, g.tasks)) in
        ltb-false (room (s.task i)) (row x i) (sym (past_test g x i k) ∙ none)

    pub ended-past : first (past_row x rooms) n < n → Ended s x
    unfolding passes
    ended-past e =
        record {
          past = λ k i t. below-past s g.sheet.limits (row x) l k i (ltb-true (room (s.task k)) (row x k) t);
          solved = λ none. absurd (met none);
        }
      where
        met : ((k : ℕ) → k < s.count → passes s (row x) k ≡ false) → ⊥
        met none =
            let k = first (past_row x rooms) n in
            let t : k < s.count = omega (arith, g.tasks) in
            let yes = sym (past_test g x k t) ∙ first_holds (past_row x rooms) n e in
            let no = none k t in
            true≢false (sym yes ∙ no)

    module _ (d : ℕ) (quotient rest : List ℕ) (q : quotient ≡ tab (cut n (λ i. row budgets i / m) 0) 16)
        (r : rest ≡ tab (cut n (λ i. row budgets i % m) 0) 16) (y : List ℕ)
        (ey : y ≡ tab (upto n (λ k. lifted (d / m) (d % m) (row quotient k) (row rest k)) (row x)) 16)
      where
        raised : (k : ℕ) → k < s.count → row y k ≡ needed s (hyperperiod s * d) k
        unfolding needed hyperperiod at_slack with_offsets
        raised = turn_lifted (arrays g x) d quotient rest q r x y ey

        pub turn_below : ((v : ℕ → ℕ) → Solving s v → (k : ℕ) → k < s.count → needed s (hyperperiod s * d) k ≤ v k) → Below s (row y)
        turn_below under = below_next s g.sheet.limits (row y) (hyperperiod s * d) raised under

        module _ (e : n ≤ first (past_row x rooms) n) (high : amount (at_slack s (row x)) (row x) ≤ hyperperiod s * d) where
          pub turn_falls :
              true ≡ changes n (row x) (λ k. lifted (d / m) (d % m) (row quotient k) (row rest k))
              → sum (row rooms) n + 1 - sum (row y) n < sum (row rooms) n + 1 - sum (row x) n
          unfolding at_slack with_offsets
          turn_falls t =
              let c = turn_changed (arrays g x) d quotient rest q r x y ey t in
              rw (g.tasks, sum_ext (row rooms) (λ i. room (s.task i)) s.count g.room)
              (below_less s g.sheet.limits (row x) l (row y) (hyperperiod s * d) raised high (within e) c.0 c.1 c.2)

          pub ended-still :
              false ≡ changes n (row x) (λ k. lifted (d / m) (d % m) (row quotient k) (row rest k))
              → ((k : ℕ) → n ≤ k → row x k ≡ 0) → Ended s y
          unfolding row passes at_slack with_offsets
          ended-still t zeros =
              record {
                past = λ k i p. absurd (omega (arith, ltb-true (room (s.task k)) (row y k) p, still k i, within e k i));
                solved = λ none. (over.0, ext_tab (row (wished s)) y 16 0 long each);
              }
            where
              still : (k : ℕ) → k < s.count → row x k ≡ row y k
              still = turn_still (arrays g x) d quotient rest q r x y ey t

              over : (no_solution s ≡ false) × ((k : ℕ) → k < s.count → row x k ≡ row (wished s) k)
              over = below-over s g.sheet.limits (row x) l (row y) (hyperperiod s * d) raised high (within e) still

              long : length y ≡ 16
              long = turn_length (arrays g x) d quotient rest q r x y ey

              each : (k : ℕ) → k < 16 → row y k ≡ row (wished s) k
              each k i =
                  ⊎_elim
                  (λ (j : k < s.count). sym (still k j) ∙ over.1 k j)
                  (λ (j : s.count ≤ k).
                  turn_past (arrays g x) d quotient rest q r x y ey zeros k (omega (arith, g.tasks))
                  ∙ sym (wished-past s g.sheet.limits k j))
                  (below_or_not k s.count)
