-- Many turns of the wish search in one: while the counted tasks and the offsets that are cut stay the same, A rises evenly with the slack; and
-- it never rises less, so that what is still missing of A at one slack says how far every solution's slack is away.
--     rises_by       slack that is not 0 rises by 1 with each m that its number rises
--     leap_cost      A at a solution's slack is at least A at x and j times the shares of such tasks, where the number rises by m × j
use Prim.Native.Nat.{ℕ, ◌+◌, ◌-◌, ◌*◌, ◌≤◌, ◌<◌}
use Rattle.std.specs.Prelude.{◌≡◌, Bool, ◌⊎◌}
use Rattle.std.proofs.Math.Path.{refl, ap}
use Rattle.std.proofs.Common.{sym, true≢false, mul-le-mul_left}
use Rattle.std.proofs.Math.Bool.{true, false, cond}
use Rattle.std.proofs.Math.Logic.{⊎_elim}
use Rattle.std.proofs.Math.Nat.{lt_of_mul-lt-mul_left}
use native.Mathlib.Omega.{arith}
use Rattle.laws.specs.EveryLaws.{below_or_not}
use Rattle.laws.specs.Sum.{sum, count}
use Rattle.laws.specs.SumLaws.{sum_in, sum_add, sum_mul, sum_mono}
use Rattle.laws.specs.Member.{member}
use Rattle.tasks.specs.declared.Task.{Task}
use Rattle.tasks.specs.TaskSet.{TaskSet, hyperperiod, share, weight, surplus, counted, amount, needed}
use Rattle.tasks.proofs.AmountLaws.{counted-few, amount_best, amount_is}
use Rattle.tasks.proofs.SlackLaws.{needed-covers, needed-least}
use Rattle.wishes.specs.Wish.{room, with_offsets, largest_offset, at_slack}
use Rattle.wishes.specs.WishLaws.{Within}
use Rattle.wishes.proofs.WishLaws.{largest-low, largest_mono_at}
use Rattle.wishes.specs.RaisingLaws.{Solving}
use Rattle.wishes.specs.LeapLaws.{Climbs}

module _ (s : TaskSet) (L : Within s) where
  pub rises_by :
      (d j k : ℕ) → 1 ≤ needed s (hyperperiod s * d) k
      → needed s (hyperperiod s * d) k + j ≤ needed s (hyperperiod s * (d + s.cores * j)) k
  unfolding needed hyperperiod at_slack with_offsets
  rises_by d j k low =
      let o = at_slack s (λ i. 0) in
      let H = hyperperiod s in
      let m = s.cores in
      let C = (s.task k).budget in
      let w = needed s (H * (d + m * j)) k in
      let covered : H * (d + m * j) ≤ m * H * w + H * C = needed-covers o (L (λ i. 0)) (H * (d + m * j)) k in
      let above : H * C < H * d =
      ⊎_elim (λ (h : H * C < H * d). h)
      (λ (h : H * d ≤ H * C). absurd (omega (arith, needed-least o (L (λ i. 0)) (H * d) k 0 (omega arith))))
      (below_or_not (H * C) (H * d)) in
      let more : j < w = lt_of_mul-lt-mul_left (m * H) (omega arith) in
      let u : w ≡ j + (w - j) = omega arith in
      let split : m * H * w ≡ m * H * (j + (w - j)) = ap (λ z. m * H * z) u in
      omega (arith, needed-least o (L (λ i. 0)) (H * d) k (w - j) (omega (arith, split)))

-- an offset that is cut takes what the slack leaves
cut_at : (t : Task) (x : ℕ) → room t ≤ x + t.separation → largest_offset t x ≡ room t - x
unfolding largest_offset
cut_at t x h = omega arith

cut-gains : (T r x v j : ℕ) → r ≤ x + T → x + j ≤ v → v ≤ r → T - (r - x) + j ≤ T - (r - v)
cut-gains T r x v j c far in-room = omega arith

-- counted, a task's weight and surplus are its share times x + T
counted-part : (T y x v j z : ℕ) → y ≤ T → z ≤ T → x + j ≤ v → x + y + (T - y) + j ≤ v + z + (T - z)
counted-part T y x v j z h l far = omega arith

-- one task of share u, counted or not: its part of A at slack x and at slack v
module _ (t : Task) (u x v j : ℕ) (up : x ≤ v) (in-room : v ≤ room t) where
  part-gains :
      (b : Bool) → x + j ≤ v → (b ≡ true) ⊎ (room t ≤ x + t.separation)
      → cond b (u * (x + largest_offset t x)) 0 + u * (t.separation - largest_offset t x) + j * u
      ≤ cond b (u * (v + largest_offset t v)) 0 + u * (t.separation - largest_offset t v)
  part-gains true far why =
      omega (arith, mul-le-mul_left u (counted-part t.separation (largest_offset t x) x v j (largest_offset t v) (largest-low t x) (largest-low t v) far))
  part-gains false far why =
      ⊎_elim (λ (e : false ≡ true). absurd (true≢false (sym e)))
      (λ (c : room t ≤ x + t.separation).
      rw (cut_at t x c, cut_at t v (omega arith))
      (omega (arith, mul-le-mul_left u (cut-gains t.separation (room t) x v j c far in-room))))
      why

  part-keeps :
      (b : Bool)
      → cond b (u * (x + largest_offset t x)) 0 + u * (t.separation - largest_offset t x)
      ≤ cond b (u * (v + largest_offset t v)) 0 + u * (t.separation - largest_offset t v)
  part-keeps true =
      omega (arith, mul-le-mul_left u (counted-part t.separation (largest_offset t x) x v 0 (largest_offset t v) (largest-low t x) (largest-low t v) (omega arith)))
  part-keeps false =
      let h : t.separation - largest_offset t x ≤ t.separation - largest_offset t v = omega (arith, (largest_mono_at t x v up).1) in
      omega (arith, mul-le-mul_left u h)

module _ (s : TaskSet) (x v : ℕ → ℕ) (a : ℕ → Bool) (c : Climbs s x a) (j : ℕ) (p : Solving s v)
    (up : (i : ℕ) → i < s.count → x i ≤ v i) (far : (i : ℕ) → i < s.count → 1 ≤ x i → x i + j ≤ v i)
  where
    counts : ℕ → Bool
    counts i = member i (counted (at_slack s x) x)

    part :
        (i : ℕ) → i < s.count
        → cond (counts i) (weight (at_slack s x) x i) 0 + surplus (at_slack s x) i + j * cond (a i) (share s i) 0
        ≤ cond (counts i) (weight (at_slack s v) v i) 0 + surplus (at_slack s v) i
    unfolding counts weight surplus share hyperperiod at_slack with_offsets
    part i h = go (a i) refl
      where
        go :
            (b : Bool) → a i ≡ b
            → cond (counts i) (weight (at_slack s x) x i) 0 + surplus (at_slack s x) i + j * cond b (share s i) 0
            ≤ cond (counts i) (weight (at_slack s v) v i) 0 + surplus (at_slack s v) i
        go true e =
            part-gains (s.task i) (share s i) (x i) (v i) j (up i h) (p.within i h) (counts i) (far i h (c.rises i h e)) (c.gains i h e)
        go false e = omega (arith, part-keeps (s.task i) (share s i) (x i) (v i) j (up i h) (p.within i h) (counts i))

    few : count counts s.count ≤ s.cores - 1
    unfolding counts at_slack with_offsets
    few = counted-few (at_slack s x) x

    pub leap_cost :
        amount (at_slack s x) x + j * sum (λ i. cond (a i) (share s i) 0) s.count ≤ amount (at_slack s v) v
    unfolding counts sum_in at_slack with_offsets
    leap_cost =
        let slope = sum (λ i. cond (a i) (share s i) 0) s.count in
        let at : (ℕ → ℕ) → ℕ = λ z. sum_in counts (weight (at_slack s z) z) s.count + sum (surplus (at_slack s z)) s.count in
        let gained : at x + j * slope ≤ at v =
        rw (← sum_mul j (λ i. cond (a i) (share s i) 0), ← sum_add, ← sum_add, ← sum_add) (sum_mono _ _ s.count part) in
        omega (arith, amount_is (at_slack s x) x, gained, amount_best (at_slack s v) v counts few)
