-- Laws of the greatest common divisor: what a turn of Euclid's loop keeps, and the least common multiple that it gives.
--     greatest_end      that of a and 0 is a
--     greatest_turn     that of b and a % b is that of a and b
--     greatest_low      it is at least 1 where a is
--     greatest_lcm      a / g * b is the least common multiple of a and b
use Rattle.std.specs.Prelude.{ℕ, ◌*◌, ◌/◌, ◌%◌, ◌≤◌, ◌≡◌}
use Rattle.std.specs.Int.{◌∣◌}
use Rattle.std.proofs.Common.{sym, ap, ◌∙◌, subst, subst₂, mul_comm, mul_assoc}
use Rattle.std.proofs.Math.Nat.{dvd_refl, dvd-zero, dvd-mul_left, dvd-mul_right, dvd-mod_iff, dvd_antisymm, dvd_of_mul-dvd-mul_left, mul-dvd-mul_left, mul-dvd-mul_right, mul-div_cancel', div-mul_cancel, pos_of_dvd_of_pos}
use Rattle.laws.specs.Multiple.{lcm}
use Rattle.laws.proofs.MultipleLaws.{lcm-left, lcm-right, lcm_divides}
use Rattle.multiple.specs.Greatest.{Greatest}

pub greatest_end : (a : ℕ) → Greatest a 0 a
greatest_end a = record { left = dvd_refl a; right = dvd-zero a; most = λ d l r. l }

pub greatest_turn : (a b g : ℕ) → Greatest b (a % b) g → Greatest a b g
greatest_turn a b g h = record {
  left = (dvd-mod_iff g h.left).0 h.right;
  right = h.left;
  most = λ d l r. h.most d r ((dvd-mod_iff d r).1 l);
}

pub greatest_low : (a b g : ℕ) → 1 ≤ a → Greatest a b g → 1 ≤ g
greatest_low a b g low h = pos_of_dvd_of_pos h.left low

module _ (a b g : ℕ) (la : 1 ≤ a) (lb : 1 ≤ b) (h : Greatest a b g) where
  -- how often the lcm goes into a * b: it divides a and b, and so g
  over : ℕ
  over = a * b / lcm a b

  whole : lcm a b * over ≡ a * b
  unfolding over
  whole = mul-div_cancel' (lcm a b) (lcm_divides a b (a * b) la lb (dvd-mul_right a b) (dvd-mul_left b a))

  over-left : over ∣ a
  over-left =
      dvd_of_mul-dvd-mul_left over lb
      (subst (λ (x : ℕ). b * over ∣ x) (whole ∙ mul_comm a b) (mul-dvd-mul_right b (lcm-right a b lb) over))

  over-right : over ∣ b
  over-right =
      dvd_of_mul-dvd-mul_left over la (subst (λ (x : ℕ). a * over ∣ x) whole (mul-dvd-mul_right a (lcm-left a b) over))

  -- g times the quotient's multiple is a * b, and the quotient's multiple is a times b / g
  scaled : a * b ≡ g * (a / g * b)
  scaled = ap (λ (x : ℕ). x * b) (sym (mul-div_cancel' g h.left)) ∙ mul_assoc g (a / g) b

  turned : a * (b / g) ≡ a / g * b
  turned =
      ap (λ (x : ℕ). x * (b / g)) (sym (div-mul_cancel g h.left))
      ∙ mul_assoc (a / g) g (b / g)
      ∙ ap (λ (x : ℕ). a / g * x) (mul-div_cancel' g h.right)

  pub greatest_lcm : a / g * b ≡ lcm a b
  greatest_lcm =
      dvd_antisymm
      (dvd_of_mul-dvd-mul_left (a / g * b) (greatest_low a b g la h)
      (subst₂ (λ (x y : ℕ). x ∣ y) (whole ∙ scaled) (mul_comm (lcm a b) g)
      (mul-dvd-mul_left over (lcm a b) (h.most over over-left over-right))))
      (lcm_divides a b (a / g * b) la lb (subst (λ (x : ℕ). a ∣ x) turned (dvd-mul_right a (b / g))) (dvd-mul_left b (a / g)))
