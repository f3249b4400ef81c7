-- One turn of a slack search: x is raised to y by the number d.
--     turn-entry, turn_lifted    y is what H × d needs at each task
--     turn_length, turn_past     y has sixteen places, and zeros from n on
--     turn_still, turn_changed   by what the code saw: nothing changed, or a task's slack did
--     turn_raised     where d is what A of x needs, y is x raised
--     turn_over       and nothing changed: y is the found slack; turn_counted: and the tasks counted at x are those counted at it
--     turn_less       or something changed: the distance to the ceiling falls
use Prim.Native.Nat.{ℕ, ◌*◌, ◌-◌, ◌/◌, ◌%◌, ◌≤◌, ◌<◌}
use Rattle.std.specs.Prelude.{◌≡◌, refl, List, ◌≢◌, length, eqb}
use Rattle.std.proofs.Math.Path.{sym}
use Rattle.std.proofs.Common.{◌∙◌, ap, arith}
use Rattle.std.proofs.Math.Bool.{Bool, true, false, not}
use Rattle.std.proofs.Math.ListN.{get_or}
use Rattle.std.proofs.Math.Dec.{ltb}
use borrow.Author.Tests.{ltb-true, ltb-false, eqb-true, eqb-false, not-true, not-false, lt-leb}
use Rattle.laws.specs.First.{first}
use Rattle.laws.specs.FirstLaws.{first_le, first_holds, first-none}
use Rattle.laws.specs.Sum.{sum}
use Rattle.laws.specs.Tab.{tab, cut}
use Rattle.laws.specs.TabLaws.{length-tab, get_or-tab, get_or-tab-out}
use Rattle.tasks.specs.TaskSet.{TaskSet, hyperperiod, counted, amount, needed, found, row}
use Rattle.tasks.proofs.AmountLaws.{counted_ext}
use Rattle.tasks.specs.Terms.{Raised, Rising}
use Rattle.tasks.proofs.RisingLaws.{rising_step, rising_falls}
use Rattle.tasks.proofs.FoundLaws.{found-still, found_array}
use Rattle.slack.specs.RatesLaws.{row_filled}
use Rattle.slack.specs.Arrays.{lifted, need, upto, ArraysOf}
use Rattle.slack.specs.ArraysLaws.{upto-below, upto-above}
use Rattle.slack.proofs.NeedLaws.{lifted-needed, needed_rounded}
use Rattle.slack.specs.SearchLaws.{changes}

module _ {s : TaskSet} {shares budgets offsets : List ℕ} {h surpluses m n : ℕ} (g : ArraysOf s shares budgets offsets h surpluses m n)
    (d : ℕ) (quotient rest : List ℕ) (q : quotient ≡ tab (cut n (λ i. row budgets i / m) 0) 16)
    (r : rest ≡ tab (cut n (λ i. row budgets i % m) 0) 16) (x y : List ℕ)
    (ey : y ≡ tab (upto n (λ k. lifted (d / m) (d % m) (row quotient k) (row rest k)) (row x)) 16)
  where
    few : n ≤ 16
    few = omega (arith, g.tasks, g.limits.tasks-high)

    -- what the code raises a task's slack to
    to : ℕ → ℕ
    to k = lifted (d / m) (d % m) (row quotient k) (row rest k)

    turn-entry : (k : ℕ) → k < n → row y k ≡ lifted (d / m) (d % m) (row quotient k) (row rest k)
    unfolding row
    turn-entry k l = rw ey (get_or-tab _ 16 k 0 (omega (arith, few)) ∙ upto-below _ _ n k l)

    pub turn_lifted : (k : ℕ) → k < s.count → row y k ≡ needed s (hyperperiod s * d) k
    turn_lifted k l =
        let t : k < n = omega (arith, g.tasks) in
        turn-entry k t
        ∙ rw (
          row_filled quotient (λ i. row budgets i / m) n k few t q,
          row_filled rest (λ i. row budgets i % m) n k few t r,
          g.budget k l,
          g.cores,
        )
        (lifted-needed s g.limits d k)

    pub turn_length : length y ≡ 16
    turn_length = ap length ey ∙ length-tab _ 16

    pub turn_past : ((k : ℕ) → n ≤ k → row x k ≡ 0) → (k : ℕ) → n ≤ k → row y k ≡ 0
    unfolding row
    turn_past p k l = rw ey (go (ltb k 16) refl)
      where
        go : (b : Bool) → ltb k 16 ≡ b → get_or (tab (upto n (λ k. lifted (d / m) (d % m) (row quotient k) (row rest k)) (row x)) 16) k 0 ≡ 0
        go true e = get_or-tab _ 16 k 0 (ltb-true k 16 e) ∙ upto-above _ _ n k l ∙ p k l
        go false e = get_or-tab-out _ 16 k 0 (ltb-false k 16 e)

    pub turn_still : false ≡ changes n (row x) (λ k. lifted (d / m) (d % m) (row quotient k) (row rest k)) → (k : ℕ) → k < s.count → row x k ≡ row y k
    unfolding to
    turn_still e k l =
        let differs : ℕ → Bool = λ k. not (eqb (row x k) (to k)) in
        let t : k < n = omega (arith, g.tasks) in
        let none = first-none differs n (omega (arith, first_le differs n, ltb-false (first differs n) n (sym e))) in
        eqb-true _ _ (not-false _ (none k t)) ∙ sym (turn-entry k t)

    pub turn_changed :
        true ≡ changes n (row x) (λ k. lifted (d / m) (d % m) (row quotient k) (row rest k))
        → (k : ℕ) × (k < s.count) × (row x k ≢ row y k)
    unfolding to
    turn_changed e =
        let differs : ℕ → Bool = λ k. not (eqb (row x k) (to k)) in
        let l = ltb-true (first differs n) n (sym e) in (
          first differs n,
          omega (arith, g.tasks),
          λ c. eqb-false _ _ (not-true _ (first_holds differs n l)) (c ∙ turn-entry (first differs n) l),
        )

    module _ (z : Rising s (row x)) (ed : d ≡ need (amount s (row x)) (hyperperiod s)) where
      pub turn_raised : Raised s (row x) (row y)
      unfolding Raised
      turn_raised k l =
          turn_lifted k l ∙ needed_rounded s g.limits (amount s (row x)) k d ed

      pub turn_rising : Rising s (row y)
      turn_rising = rising_step s g.limits (row x) (row y) z turn_raised

      module _ (e : false ≡ changes n (row x) (λ k. lifted (d / m) (d % m) (row quotient k) (row rest k))) where
        settled : (k : ℕ) → k < s.count → row x k ≡ row (found s) k
        settled = found-still s g.limits (lt-leb _ _ g.more-tasks) (row x) (row y) z turn_raised (turn_still e)

        pub turn_over : ((k : ℕ) → n ≤ k → row x k ≡ 0) → y ≡ tab (row (found s)) 16
        turn_over p =
            found_array s g.limits y 16 turn_length (λ k l. sym (turn_still e k l) ∙ settled k l) (λ k l. turn_past p k (omega (arith, g.tasks)))

        pub turn_counted : counted s (row x) ≡ counted s (row (found s))
        turn_counted = counted_ext s (row x) (row (found s)) settled

      pub turn_less : true ≡ changes n (row x) (λ k. lifted (d / m) (d % m) (row quotient k) (row rest k)) → n * 800000 - sum (row y) n < n * 800000 - sum (row x) n
      turn_less e =
          let c = turn_changed e in
          rw g.tasks (rising_falls s g.limits (row x) (row y) z turn_raised c.0 c.1 c.2)
