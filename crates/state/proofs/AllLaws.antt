-- Laws of `all_of` and of the numbers of the 256 job places.
--     all-at, of-all            all_of holds: p holds at each index, and back
--     all-step                  one index more, at n + 1
--     by_place                  what holds at place p of loop i, for every two of them, holds at each of the 256
--     loop-of, place_in_lem         the loop and the place of 16 * i + p
use Rattle.std.specs.Prelude.{ℕ, zero, suc, ◌+◌, ◌*◌, ◌/◌, ◌%◌, ◌<◌, Bool, true, ◌&&◌, ◌≡◌, refl}
use Rattle.std.proofs.Common.{subst, ⊎_elim, not-suc-le-zero, le_of_suc-le-suc, eq-or-lt_of_le, add-one, arith}
use Rattle.std.proofs.Math.Nat.{div-add-mod}
use Rattle.laws.specs.EveryLaws.{both, and_both}
use Rattle.state.specs.SoundState.{all_of}

pub all-at : (p : ℕ → Bool) (n i : ℕ) → all_of p n ≡ true → i < n → p i ≡ true
unfolding all_of
all-at p zero i e h = absurd (not-suc-le-zero h)
all-at p (suc n) i e h =
    let r = both (all_of p n) (p n) e in
    ⊎_elim (λ (q : i ≡ n). rw q r.1) (λ (q : i < n). all-at p n i r.0 q) (eq-or-lt_of_le (le_of_suc-le-suc h))

pub of-all : (p : ℕ → Bool) (n : ℕ) → ((i : ℕ) → i < n → p i ≡ true) → all_of p n ≡ true
unfolding all_of
of-all p zero f = refl
of-all p (suc n) f = and_both (all_of p n) (p n) (of-all p n (λ i h. f i (omega arith))) (f n (omega arith))

pub all-step : (p : ℕ → Bool) (n : ℕ) → all_of p (n + 1) ≡ all_of p n && p n
unfolding all_of
all-step p n = rw add-one

pub by_place : (P : ℕ → Type 0) → ((i p : ℕ) → i < 16 → p < 16 → P (16 * i + p)) → (k : ℕ) → k < 256 → P k
by_place P f k h = subst P (div-add-mod k 16) (f (k / 16) (k % 16) (omega arith) (omega arith))

pub loop-of : (i p : ℕ) → p < 16 → (16 * i + p) / 16 ≡ i
loop-of i p h = omega arith

pub place_in_lem : (i p : ℕ) → p < 16 → (16 * i + p) % 16 ≡ p
place_in_lem i p h = omega arith
