-- Laws of least common multiples. A divisor is at least 1 where a law says so.
--     lcm_grows, lcm-low          lcm a b is at least a, and so at least 1 where a is
--     lcm-first                   no multiple of a that b divides is smaller
--     lcm-left, lcm-right         a and b divide lcm a b
--     lcm_divides                 lcm a b divides every common multiple
--     lcm_unique                  the only common multiple that divides every other
--     lcm-same                    lcm a b is a where b divides a
--     lcm_below-more                      one entry more
--     lcm_below-low                       lcm_below f n is at least 1
--     lcm_below_mono                      a further entry never makes it smaller
--     lcm_below-divided, lcm_below_mod    each entry divides it
--     lcm_below_divides, lcm_below-least  it divides every common multiple, and none that is at least 1 is smaller
use Prim.Native.Nat.{ℕ, zero, suc, ◌+◌, ◌*◌, ◌/◌, ◌%◌, ◌≤◌, suc-le-suc, ◌<◌, ◌∣◌}
use Rattle.std.specs.Prelude.{◌≡◌, Bool, eqb}
use Rattle.std.proofs.Common.{sym, ◌∙◌, subst, true≢false, arith, add-one, mul-le-mul_left, mod-lt, mul-suc, eq-or-lt_of_le, le_refl, le_trans, not-suc-le-zero, le_of_suc-le-suc, eqb-true, eq-eqb}
use Rattle.std.proofs.Math.Logic.{⊎_elim}
use Rattle.std.proofs.Math.Nat.{dvd_refl, one-dvd, dvd_trans, dvd-mul_left, dvd-mul_right, dvd-mul_left_of_dvd, dvd-mod_iff, dvd_antisymm, le_of_dvd, mod-eq-zero_of_dvd, dvd_of_mod-eq-zero, mul-div_cancel', div-mul_cancel}
use Rattle.std.proofs.Math.Arith.{le-zero}
use Rattle.laws.specs.First.{first}
use Rattle.laws.specs.FirstLaws.{first_holds, first-before}
use Rattle.laws.specs.Multiple.{lcm, lcm_below}

pub lcm_grows : (a b : ℕ) → a ≤ lcm a b
unfolding lcm
lcm_grows a b = rw mul-suc (omega arith)

pub lcm-low : (a b : ℕ) → 1 ≤ a → 1 ≤ lcm a b
lcm-low a b h = omega (arith, lcm_grows a b)

pub lcm-left : (a b : ℕ) → a ∣ lcm a b
unfolding lcm
lcm-left a b = dvd-mul_right a _

-- whether b divides the multiple of a by j + 1
abbrev clears : ℕ → ℕ → ℕ → Bool
clears a b j = eqb (a * suc j % b) 0

-- the multiple of a by j + 1 is not before the first that b divides, where b divides it
not_before : (a b j : ℕ) → b ∣ a * suc j → first (clears a b) b ≤ j
not_before a b j d =
    let no : ¬ (j < first (clears a b) b) =
    λ l. true≢false (sym (eq-eqb _ _ (mod-eq-zero_of_dvd b d)) ∙ first-before (clears a b) b j l) in
    omega arith

pub lcm-first : (a b j : ℕ) → b ∣ a * suc j → lcm a b ≤ a * suc j
unfolding lcm
lcm-first a b j d = mul-le-mul_left a (suc-le-suc (not_before a b j d))

pub lcm-right : (a b : ℕ) → 1 ≤ b → b ∣ lcm a b
unfolding lcm
lcm-right a zero h = elim h [ ]
lcm-right a (suc k) h =
    let early : first (clears a (suc k)) (suc k) ≤ k = not_before a (suc k) k (dvd-mul_left (suc k) a) in
    dvd_of_mod-eq-zero (suc k) (eqb-true _ _ (first_holds (clears a (suc k)) (suc k) (omega arith)))

-- what is left of a common multiple over the lcm is a smaller common multiple, so 0
pub lcm_divides : (a b c : ℕ) → 1 ≤ a → 1 ≤ b → a ∣ c → b ∣ c → lcm a b ∣ c
lcm_divides a b c ha hb da db = dvd_of_mod-eq-zero (lcm a b) (go (r / a) (mul-div_cancel' a ra))
  where
    r : ℕ
    r = c % lcm a b

    small : r < lcm a b
    small = mod-lt c (lcm-low a b ha)

    ra : a ∣ r
    ra = (dvd-mod_iff a (lcm-left a b)).1 da

    rb : b ∣ r
    rb = (dvd-mod_iff b (lcm-right a b hb)).1 db

    go : (q : ℕ) → a * q ≡ r → c % lcm a b ≡ 0
    go zero e = omega arith
    go (suc j) e = omega (arith, small, lcm-first a b j (subst (λ (x : ℕ). b ∣ x) (sym e) rb))

pub lcm_unique : (a b c : ℕ) → 1 ≤ a → 1 ≤ b → a ∣ c → b ∣ c → ((d : ℕ) → a ∣ d → b ∣ d → c ∣ d) → lcm a b ≡ c
lcm_unique a b c ha hb da db least =
    dvd_antisymm (lcm_divides a b c ha hb da db) (least (lcm a b) (lcm-left a b) (lcm-right a b hb))

pub lcm-same : (a b : ℕ) → 1 ≤ a → 1 ≤ b → b ∣ a → lcm a b ≡ a
lcm-same a b ha hb d = lcm_unique a b a ha hb (dvd_refl a) d (λ x l r. l)

pub lcm_below-more : (f : ℕ → ℕ) (n : ℕ) → lcm_below f (n + 1) ≡ lcm (lcm_below f n) (f n)
unfolding lcm_below
lcm_below-more f n = rw add-one

pub lcm_below-low : (f : ℕ → ℕ) (n : ℕ) → 1 ≤ lcm_below f n
unfolding lcm_below
lcm_below-low f zero = omega arith
lcm_below-low f (suc n) = lcm-low (lcm_below f n) (f n) (lcm_below-low f n)

pub lcm_below_mono : (f : ℕ → ℕ) (m n : ℕ) → m ≤ n → lcm_below f m ≤ lcm_below f n
unfolding lcm_below
lcm_below_mono f m zero h = rw (le-zero h) (le_refl _)
lcm_below_mono f m (suc n) h =
    ⊎_elim (λ (e : m ≡ suc n). rw e (le_refl _))
    (λ (l : m < suc n). le_trans (lcm_below_mono f m n (omega arith)) (lcm_grows (lcm_below f n) (f n)))
    (eq-or-lt_of_le h)

pub lcm_below_divides :
    (f : ℕ → ℕ) (n c : ℕ) → ((i : ℕ) → i < n → 1 ≤ f i) → ((i : ℕ) → i < n → f i ∣ c) → lcm_below f n ∣ c
unfolding lcm_below
lcm_below_divides f zero c low each = one-dvd c
lcm_below_divides f (suc n) c low each =
    lcm_divides (lcm_below f n) (f n) c (lcm_below-low f n) (low n (omega arith))
    (lcm_below_divides f n c (λ i h. low i (omega arith)) (λ i h. each i (omega arith)))
    (each n (omega arith))

pub lcm_below-least :
    (f : ℕ → ℕ) (n c : ℕ) → ((i : ℕ) → i < n → 1 ≤ f i) → 1 ≤ c → ((i : ℕ) → i < n → c % f i ≡ 0) → lcm_below f n ≤ c
lcm_below-least f n c low h each =
    le_of_dvd h (lcm_below_divides f n c low (λ i l. dvd_of_mod-eq-zero (f i) (each i l)))

module _ (f : ℕ → ℕ) where
  pub lcm_below-divided : (n : ℕ) → ((i : ℕ) → i < n → 1 ≤ f i) → (i : ℕ) → i < n → f i ∣ lcm_below f n
  unfolding lcm_below
  lcm_below-divided zero low i h = absurd (not-suc-le-zero h)
  lcm_below-divided (suc n) low i h =
      ⊎_elim (λ (e : i ≡ n). rw e (lcm-right (lcm_below f n) (f n) (low n (omega arith))))
      (λ (l : i < n). dvd_trans (f i) (lcm_below-divided n (λ j k. low j (omega arith)) i l) (lcm-left (lcm_below f n) (f n)))
      (eq-or-lt_of_le (le_of_suc-le-suc h))

  module _ (n : ℕ) (low : (i : ℕ) → i < n → 1 ≤ f i) (i : ℕ) (h : i < n) where
    pub lcm_below_mod : lcm_below f n % f i ≡ 0
    lcm_below_mod = mod-eq-zero_of_dvd (f i) (lcm_below-divided n low i h)

    pub lcm_below-scaled : (c : ℕ) → c * lcm_below f n / f i * f i ≡ c * lcm_below f n
    lcm_below-scaled c = div-mul_cancel (f i) (dvd-mul_left_of_dvd (f i) (lcm_below-divided n low i h) c)
