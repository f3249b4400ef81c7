-- The least slack of a task without a division of its own: A is divided by H once, and what is needed and each budget by the number of cores.
--     need-covers, need-least    ⌈a / h⌉ is the least v with a ≤ h × v; need_ceil: it is std's; need_times: h × v needs v
--     lifted-enough              the lifted slack is enough
--     lifted-least               and the least that is
--     needed-lifted              so it is the slack that the definition raises to; lifted-needed: of any number
--     needed_rounded             an amount rounded up to a multiple of H needs no more
use Rattle.std.specs.Prelude.{ℕ, ◌+◌, ◌*◌, ◌-◌, ◌/◌, ◌%◌, ◌≤◌, ◌<◌, ◌≡◌, Bool}
use Rattle.std.proofs.Math.Path.{refl}
use Rattle.std.proofs.Common.{sym, ◌∙◌, le_antisymm, div-lt_iff_lt-mul}
use Rattle.std.proofs.Math.Bool.{true, false, cond}
use native.Mathlib.Omega.{arith}
use Rattle.std.proofs.Math.Nat.{mul_comm, mul-le-mul_left, le_of_mul-le-mul_left, lt_of_mul-lt-mul_left, div-add-mod, mod-lt, le_of_suc-le-suc}
use Rattle.std.proofs.Math.Dec.{ltb}
use borrow.Author.Tests.{ltb-true, ltb-false}
use Rattle.std.specs.Int.{div_ceil}
use Rattle.std.proofs.lemmas.Grind.{div_ceil_times}
use Rattle.tasks.specs.TaskSet.{TaskSet, hyperperiod, needed}
use Rattle.tasks.specs.Limits.{Limits}
use Rattle.tasks.proofs.ShareLaws.{hyperperiod-low}
use Rattle.tasks.proofs.SlackLaws.{needed-covers, needed-least}
use Rattle.slack.specs.Arrays.{lifted, need}

module _ (a h : ℕ) (low : 1 ≤ h) where
  pub need-covers : a ≤ h * need a h
  unfolding need
  need-covers = omega (arith, div-add-mod (a + (h - 1)) h, mod-lt (a + (h - 1)) low)

  pub need-least : (v : ℕ) → a ≤ h * v → need a h ≤ v
  unfolding need
  need-least v e =
      le_of_suc-le-suc ((div-lt_iff_lt-mul low).1 (omega (arith, mul_comm h v)))

pub need_ceil : (a h : ℕ) → 1 ≤ h → div_ceil a h ≡ need a h
need_ceil a h low =
    let t = div_ceil_times a h low in
    let l : h * div_ceil a h < h * (need a h + 1) = omega (arith, t.1, need-covers a h low, mul_comm h (div_ceil a h)) in
    le_antisymm (omega (arith, lt_of_mul-lt-mul_left h l)) (need-least a h low (div_ceil a h) (omega (arith, t.0, mul_comm h (div_ceil a h))))

pub need_times : (h v : ℕ) → 1 ≤ h → need (h * v) h ≡ v
need_times h v low =
    let above = need-covers (h * v) h low in
    le_antisymm (need-least (h * v) h low v (omega arith)) (le_of_mul-le-mul_left above low)

-- v with m × v + c at least d, where d = m × whole + over and c = m × quotient + rest
module _ (m whole over quotient rest : ℕ) (o : over < m) (r : rest < m) where
  pub lifted-enough : m * whole + over ≤ m * lifted whole over quotient rest + (m * quotient + rest)
  unfolding lifted
  lifted-enough = go (ltb rest over) refl
    where
      go : (b : Bool) → ltb rest over ≡ b → m * whole + over ≤ m * (whole + cond (ltb rest over) 1 0 - quotient) + (m * quotient + rest)
      go true e =
          let h : whole + 1 ≤ whole + 1 - quotient + quotient = omega arith in
          rw e (omega (arith, mul-le-mul_left m h))
      go false e =
          let h : whole ≤ whole + 0 - quotient + quotient = omega arith in
          rw e (omega (arith, mul-le-mul_left m h, ltb-false rest over e))

  pub lifted-least : (v : ℕ) → m * whole + over ≤ m * v + (m * quotient + rest) → lifted whole over quotient rest ≤ v
  unfolding lifted
  lifted-least v e = go (ltb rest over) refl
    where
      go : (b : Bool) → ltb rest over ≡ b → whole + cond (ltb rest over) 1 0 - quotient ≤ v
      go true t =
          let h : m * whole < m * (v + quotient) = omega (arith, ltb-true rest over t) in
          rw t (omega (arith, lt_of_mul-lt-mul_left m h))
      go false t =
          let h : m * whole < m * (v + quotient + 1) = omega arith in
          rw t (omega (arith, lt_of_mul-lt-mul_left m h))

pub needed-lifted :
    (s : TaskSet) (L : Limits s) (a k d : ℕ) → d ≡ need a (hyperperiod s) →
    needed s a k ≡ lifted (d / s.cores) (d % s.cores) ((s.task k).budget / s.cores) ((s.task k).budget % s.cores)
needed-lifted s L a k d e =
    le_antisymm (needed-least s L a k v enough) (lifted-least m (d / m) (d % m) (c / m) (c % m) (mod-lt d cores) (mod-lt c cores) n least)
  where
    m : ℕ
    m = s.cores

    c : ℕ
    c = (s.task k).budget

    n : ℕ
    n = needed s a k

    v : ℕ
    v = lifted (d / m) (d % m) (c / m) (c % m)

    cores : 0 < m
    cores = omega (arith, L.cores-low)

    -- d ≤ m × v + c, so a ≤ h × d ≤ h × (m × v + c)
    enough : a ≤ m * hyperperiod s * v + hyperperiod s * c
    enough =
        let h = lifted-enough m (d / m) (d % m) (c / m) (c % m) (mod-lt d cores) (mod-lt c cores) in
        let l : d ≤ m * v + c = omega (arith, h, div-add-mod d m, div-add-mod c m) in
        let q : a ≤ hyperperiod s * d = rw e (need-covers a (hyperperiod s) (hyperperiod-low s)) in
        omega (arith, q, mul-le-mul_left (hyperperiod s) l)

    least : m * (d / m) + d % m ≤ m * n + (m * (c / m) + c % m)
    least =
        let h = needed-covers s L a k in
        let q : need a (hyperperiod s) ≤ m * n + c =
        need-least a (hyperperiod s) (hyperperiod-low s) (m * n + c) (omega (arith, h))
        in
        omega (arith, q, e, div-add-mod d m, div-add-mod c m)

-- so the slack raised by a number d is what H × d needs
pub lifted-needed :
    (s : TaskSet) (L : Limits s) (d k : ℕ) →
    lifted (d / s.cores) (d % s.cores) ((s.task k).budget / s.cores) ((s.task k).budget % s.cores) ≡ needed s (hyperperiod s * d) k
lifted-needed s L d k = sym (needed-lifted s L (hyperperiod s * d) k d (sym (need_times (hyperperiod s) d (hyperperiod-low s))))

pub needed_rounded : (s : TaskSet) (L : Limits s) (a k d : ℕ) → d ≡ need a (hyperperiod s) → needed s (hyperperiod s * d) k ≡ needed s a k
needed_rounded s L a k d e = sym (lifted-needed s L d k) ∙ sym (needed-lifted s L a k d e)
