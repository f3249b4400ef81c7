-- The gains of a leap, as its loops fill them, and the arithmetic of how far it goes.
--     gains-cut, gains-counted    an entry by what made it: an offset that is cut, or a name among the counted
--     gains-next      one entry more
--     gains-set       an entry stored
--     gains-named     what holds without names holds with any
--     gains-high      a gain is at most the share
--     named-at        a name is among the first ones
--     reach_never, reach_turns    no number of steps is enough, or not fewer than these
use Rattle.std.specs.Prelude.{ℕ, ◌+◌, ◌-◌, ◌*◌, ◌/◌, ◌≤◌, ◌<◌, ◌≡◌, refl, Bool, true, ◌⊎◌, eqb, length, set, take}
use Rattle.std.proofs.Common.{sym, ap, true≢false, arith, length-take, get_or-take, get_or-set_other, eqb-true}
use Rattle.std.proofs.Math.Bool.{false}
use mathlib.Core.List.{List, []}
use Rattle.std.proofs.Math.Logic.{inl, inr, ⊎_elim}
use Rattle.std.proofs.Math.Nat.{mul-le-mul_left}
use Rattle.std.proofs.Math.Seq.{get_or-set_same}
use Rattle.std.proofs.lemmas.Bool.{eqb-false}
use Rattle.laws.specs.Member.{member}
use Rattle.laws.specs.MemberLaws.{member-at}
use Rattle.tasks.specs.TaskSet.{row}
use Rattle.slack.specs.Arrays.{need}
use Rattle.slack.proofs.NeedLaws.{need-least}
use Rattle.wish_gains.specs.Gains.{Gain, Gains}

-- what an entry is
abbrev pub Entry : List ℕ → List ℕ → List ℕ → List ℕ → List ℕ → ℕ → ℕ → Type 0
Entry share separation room slack names i r =
    (r ≡ 0)
    ⊎ ((r ≡ row share i)
    × (1 ≤ row slack i)
    × ((member i names ≡ true) ⊎ (row room i ≤ row slack i + row separation i)))

module _ (share separation room slack names : List ℕ) where
  pub gains-cut : (i r : ℕ) → Gain (row share i) (row separation i) (row room i) (row slack i) r → Entry share separation room slack names i r
  gains-cut i r g =
      ⊎_elim (λ (z : r ≡ 0). inl z)
      (λ (h : (r ≡ row share i) × (1 ≤ row slack i) × (row room i ≤ row slack i + row separation i)). inr (h.0, h.1, inr h.2))
      g

  pub gains-counted : (i r : ℕ) → member i names ≡ true → Gain (row share i) 0 0 (row slack i) r → Entry share separation room slack names i r
  gains-counted i r m g =
      ⊎_elim (λ (z : r ≡ 0). inl z)
      (λ (h : (r ≡ row share i) × (1 ≤ row slack i) × (0 ≤ row slack i + 0)). inr (h.0, h.1, inl m))
      g

  stored : (gain : List ℕ) (i k v : ℕ) → i < length gain → (k ≡ i → ⊥) ⊎ (k ≡ i)
      → Entry share separation room slack names i v
      → ((k ≡ i → ⊥) → Entry share separation room slack names k (row gain k))
      → Entry share separation room slack names k (row (set gain i v) k)
  unfolding row
  stored gain i k v h which e other =
      ⊎_elim
      (λ (ne : k ≡ i → ⊥). rw (get_or-set_other gain i k v 0 ne) (other ne))
      (λ (q : k ≡ i). rw (q, get_or-set_same gain i v 0 h) e)
      which

  same_or_not : (k i : ℕ) → (k ≡ i → ⊥) ⊎ (k ≡ i)
  same_or_not k i = go (eqb k i) refl
    where
      go : (b : Bool) → eqb k i ≡ b → (k ≡ i → ⊥) ⊎ (k ≡ i)
      go true e = inr (eqb-true k i e)
      go false e = inl (eqb-false k i e)

  pub gains-set :
      (n : ℕ) (gain : List ℕ) (i v : ℕ) → i < length gain → Gains share separation room slack names n gain
      → Entry share separation room slack names i v → Gains share separation room slack names n (set gain i v)
  gains-set n gain i v h g e k l = stored gain i k v h (same_or_not k i) e (λ ne. g k l)

  pub gains-next :
      (n : ℕ) (gain : List ℕ) (v : ℕ) → n < length gain → Gains share separation room slack names n gain
      → Entry share separation room slack names n v → Gains share separation room slack names (n + 1) (set gain n v)
  gains-next n gain v h g e k l = stored gain n k v h (same_or_not k n) e (λ ne. g k (omega arith))

  pub gains-named : (n : ℕ) (gain : List ℕ) → Gains share separation room slack [] n gain → Gains share separation room slack names n gain
  unfolding member
  gains-named n gain g i l =
      ⊎_elim (λ (z : row gain i ≡ 0). inl z)
      (λ (h : (row gain i ≡ row share i) × (1 ≤ row slack i) × ((member i [] ≡ true) ⊎ (row room i ≤ row slack i + row separation i))).
      ⊎_elim (λ (f : false ≡ true). absurd (true≢false (sym f)))
      (λ (c : row room i ≤ row slack i + row separation i). inr (h.0, h.1, inr c))
      h.2)
      (g i l)

  pub gains-high : (n : ℕ) (gain : List ℕ) → Gains share separation room slack names n gain → (i : ℕ) → i < n → row gain i ≤ row share i
  gains-high n gain g i l =
      ⊎_elim (λ (z : row gain i ≡ 0). omega arith)
      (λ (h : (row gain i ≡ row share i) × (1 ≤ row slack i) × ((member i names ≡ true) ⊎ (row room i ≤ row slack i + row separation i))). omega arith)
      (g i l)

pub named-at : (names : List ℕ) (many a : ℕ) → many ≤ length names → a < many → member (row names a) (take many names) ≡ true
unfolding row
named-at names many a h l =
    rw (← get_or-take many names a 0 l)
    (member-at (take many names) a 0 (omega (arith, length-take many names)))

-- whole A at `start`, with `slope` gained in each of j steps, against m × H in each
module _ (whole slope h m start j : ℕ) (e : whole + j * slope ≤ h * (start + m * j)) (over : h * start < whole) (left : ℕ) (l : left + slope ≡ m * h) where
  missing : whole - h * start ≤ left * j
  missing = omega (arith, ap (λ z. j * z) l)

  pub reach_never : left ≡ 0 → ⊥
  reach_never z = omega (arith, missing, ap (λ x. x * j) z)

  pub reach_turns : 1 ≤ left → start + m * ((whole - h * start + (left - 1)) / left) ≤ start + m * j
  unfolding need
  reach_turns low = omega (arith, mul-le-mul_left m (need-least (whole - h * start) left low j missing))
