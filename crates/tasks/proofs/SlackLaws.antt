-- The slack that a loop needs for an amount, and compliance.
--     step-low           m × H is at least 1
--     needed-covers      the slack needed for a covers a …
--     needed-least       … and no smaller slack does
--     needed_mono        it does not fall as a rises
--     compliant-covers, covers-compliant     compliant slack passes the test at every loop, and the other way
--     compliant-needed, needed-compliant     compliant slack is nowhere below what its own A needs, and the other way
--     compliant_ext      compliance depends on the slack of the loops alone
use Rattle.std.specs.Prelude.{ℕ, suc, ◌+◌, ◌-◌, ◌*◌, ◌/◌, ◌≤◌, ◌<◌, ◌≡◌, true}
use Rattle.std.proofs.Math.Nat.{mul-le-mul_left, one-le-mul, lt-div-mul-add}
use Rattle.std.proofs.Common.{le_trans, div-lt_iff_lt-mul}
use native.Mathlib.Omega.{arith}
use borrow.Author.Tests.{leb-true, le-leb}
use Rattle.tasks.specs.TaskSet.{TaskSet, hyperperiod, amount, cover, Compliant, covers, needed}
use Rattle.tasks.specs.Limits.{Limits}
use Rattle.tasks.proofs.ShareLaws.{hyperperiod-low}
use Rattle.tasks.proofs.AmountLaws.{amount_ext}

module _ (s : TaskSet) where
  pub compliant-covers : (x : ℕ → ℕ) → Compliant s x → (k : ℕ) → k < s.count → covers s x k ≡ true
  unfolding Compliant covers
  compliant-covers x c k h = le-leb _ _ (c k h)

  pub covers-compliant : (x : ℕ → ℕ) → ((k : ℕ) → k < s.count → covers s x k ≡ true) → Compliant s x
  unfolding Compliant covers
  covers-compliant x c k h = leb-true _ _ (c k h)

  pub compliant_ext : (x y : ℕ → ℕ) → ((i : ℕ) → i < s.count → x i ≡ y i) → Compliant s x → Compliant s y
  unfolding Compliant cover
  compliant_ext x y h c k l = rw (← amount_ext s x y h, ← h k l) (c k l)

-- b divided by d and rounded up: r, added first, is d − 1
round_covers : (b r d : ℕ) → 1 ≤ d → d ≤ suc r → b ≤ d * ((b + r) / d)
round_covers b r d h l = omega (arith, lt-div-mul-add {a = b + r} h)

round_least : (b r d v : ℕ) → 1 ≤ d → r < d → b ≤ d * v → (b + r) / d ≤ v
round_least b r d v h l m = omega (arith, (div-lt_iff_lt-mul {x = b + r} {y = suc v} h).1 (omega arith))

module _ (s : TaskSet) (L : Limits s) where
  pub step-low : 1 ≤ s.cores * hyperperiod s
  step-low = one-le-mul (omega (arith, L.cores-low)) (hyperperiod-low s)

  pub needed-covers : (a k : ℕ) → a ≤ s.cores * hyperperiod s * needed s a k + hyperperiod s * (s.task k).budget
  unfolding needed
  needed-covers a k =
      let r : a - hyperperiod s * (s.task k).budget ≤ s.cores * hyperperiod s * needed s a k =
      round_covers _ _ _ step-low (omega (arith, step-low)) in
      omega arith

  pub needed-least : (a k v : ℕ) → a ≤ s.cores * hyperperiod s * v + hyperperiod s * (s.task k).budget → needed s a k ≤ v
  unfolding needed
  needed-least a k v h = round_least _ _ _ v step-low (omega (arith, step-low)) (omega arith)

  pub needed_mono : (a b k : ℕ) → a ≤ b → needed s a k ≤ needed s b k
  needed_mono a b k h = needed-least a k (needed s b k) (le_trans h (needed-covers b k))

  pub compliant-needed : (x : ℕ → ℕ) → Compliant s x → (k : ℕ) → k < s.count → needed s (amount s x) k ≤ x k
  unfolding Compliant cover
  compliant-needed x c k h = needed-least (amount s x) k (x k) (c k h)

  pub needed-compliant : (x : ℕ → ℕ) → ((k : ℕ) → k < s.count → needed s (amount s x) k ≤ x k) → Compliant s x
  unfolding Compliant cover
  needed-compliant x c k h =
      omega (arith, needed-covers (amount s x) k, mul-le-mul_left (s.cores * hyperperiod s) (c k h))
