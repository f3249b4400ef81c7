-- There is a place for every head.
--     room_for       where a waiting loop is left out, fewer than 16 places are used
--     heads-few      no more than 16 are
use Rattle.std.specs.Prelude.{ℕ, zero, suc, ◌≤◌, ◌<◌, Bool, true, false, not, ◌≡◌, refl, List, length}
use Rattle.std.proofs.Common.{true≢false, sym, ap, ◌∙◌, arith}
use Rattle.laws.specs.Sum.{count}
use Rattle.laws.specs.SumLaws.{count_le, count_not, count_pos, count_members}
use Rattle.laws.specs.Member.{member, Distinct}
use Rattle.laws.specs.SortedLaws.{sorted-distinct}
use Rattle.tasks.specs.TaskSet.{TaskSet}
use Rattle.machine.specs.Machine.{Machine, waiting}
use Rattle.choice.specs.Key.{key_of, sooner}
use Rattle.heads.specs.Order.{Rises, Heads}
use Rattle.heads.specs.OrderLaws.{rises_sorted, later, later_in, loop_in, loop-at, all_rise}

rises-distinct : (K : ℕ → ℕ) (l : List ℕ) → Rises K l → Distinct l
rises-distinct K l r = sorted-distinct (sooner K) l (rises_sorted K l r)

length-later : (f : ℕ → ℕ) (a d : ℕ) → length (later f a d) ≡ d
unfolding later
length-later f a zero = refl
length-later f a (suc d) = ap suc (length-later f (suc a) d)

module _ {s : TaskSet} {M : Machine} {out : ℕ → Bool} {key left : List ℕ} {n : ℕ} (low : (j : ℕ) → waiting M j ≡ true → j < 16)
    (A : Heads s M out key left n) where
  listed_in : (j : ℕ) → member j (later (loop_in key) 0 n) ≡ true → (waiting M j ≡ true) × (out j ≡ false)
  listed_in j m =
      let r = later_in (loop_in key) 0 n j m in
      let h : r.0 < n = omega (arith, r.2) in
      let x = A.sound r.0 h in
      let e : x.0 ≡ j = sym (loop-at low A r.0 h) ∙ r.3 in
      (ap (waiting M) (sym e) ∙ x.1.waits, ap out (sym e) ∙ x.1.inside)

  as_many : count (λ j. member j (later (loop_in key) 0 n)) 16 ≡ n
  as_many =
      count_members (later (loop_in key) 0 n) 16 (rises-distinct (key_of s M) (later (loop_in key) 0 n) (all_rise low A)) (λ j m. low j (listed_in j m).0)
      ∙ length-later (loop_in key) 0 n

  pub heads-few : n ≤ 16
  heads-few = omega (arith, as_many, count_le (λ j. member j (later (loop_in key) 0 n)) 16)

  pub room_for : (i : ℕ) → i < 16 → out i ≡ true → n < 16
  room_for i h o =
      omega (
        arith,
        as_many,
        count_not (λ j. member j (later (loop_in key) 0 n)) 16,
        count_pos (λ j. not (member j (later (loop_in key) 0 n))) 16 i h (absent (member i (later (loop_in key) 0 n)) refl),
      )
    where
      absent : (b : Bool) → member i (later (loop_in key) 0 n) ≡ b → not b ≡ true
      absent true m = absurd (true≢false (sym o ∙ (listed_in i m).1))
      absent false m = refl
