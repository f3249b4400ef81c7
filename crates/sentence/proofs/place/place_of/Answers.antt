-- `sentence::place_of` meets its contract: the tests of the ranges say in which row of numbers this one stands.
use Prim.Native.Nat.{ℕ, ◌≤◌, ◌<◌}
use mathlib.Core.Path.{◌≡◌, sym}
use mathlib.Core.Logic.{◌⊎◌, ⊎_elim}
use native.Mathlib.Omega.{arith}
use Rattle.laws.specs.First.{first}
use Rattle.laws.specs.Every.{same_list}
use Rattle.decimal.specs.Decimal.{words}
use Rattle.wording.specs.Sentence.{wordings, Known, wording}
use Rattle.wording.proofs.WordingLaws.{others, places}
use Rattle.sentence.proofs.place.place_of.Goals as goal

core : (k : ℕ) → 3 ≤ k → k < 5 → (wording k).place ≡ words " for core "
unfolding wording wordings words first same_list
core = places (words " for core ") 3 2 tt

entry : (k : ℕ) → 14 ≤ k → k < 18 → (wording k).place ≡ words " for entry "
unfolding wording wordings words first same_list
entry = places (words " for entry ") 14 4 tt

release : (k : ℕ) → 20 ≤ k → k < 24 → (wording k).place ≡ words " for release "
unfolding wording wordings words first same_list
release = places (words " for release ") 20 4 tt

byte : (k : ℕ) → ((1 ≤ k) × (k < 3)) ⊎ ((24 ≤ k) × (k < 26)) → (wording k).place ≡ words " for byte "
unfolding wording wordings words first same_list
byte k =
    ⊎_elim
    (λ h. places (words " for byte ") 1 2 tt k h.0 h.1)
    (λ h. places (words " for byte ") 24 2 tt k h.0 h.1)

loop : (k : ℕ) → ((5 ≤ k) × (k < 14)) ⊎ (((18 ≤ k) × (k < 20)) ⊎ ((26 ≤ k) × (k < 32))) → (wording k).place ≡ words " for loop "
unfolding wording wordings words first same_list
loop k =
    ⊎_elim
    (λ h. places (words " for loop ") 5 9 tt k h.0 h.1)
    (⊎_elim
    (λ h. places (words " for loop ") 18 2 tt k h.0 h.1)
    (λ h. places (words " for loop ") 26 6 tt k h.0 h.1))

other : (k : ℕ) → (Known k → ⊥) → (wording k).place ≡ words " for place "
unfolding wording
other k h = rw (others k h)

pub returns-in-3-to-4 : goal.returns-in-3-to-4
unfolding words
returns-in-3-to-4 c = sym (core c.args.number (omega arith) (omega arith))

pub returns-in-14-to-17 : goal.returns-in-14-to-17
unfolding words
returns-in-14-to-17 c = sym (entry c.args.number (omega arith) (omega arith))

pub returns-in-20-to-23 : goal.returns-in-20-to-23
unfolding words
returns-in-20-to-23 c = sym (release c.args.number (omega arith) (omega arith))

pub returns-in-5-to-13 : goal.returns-in-5-to-13
unfolding words
returns-in-5-to-13 c =
    let row : ((5 ≤ c.args.number) × (c.args.number < 14)) ⊎ (((18 ≤ c.args.number) × (c.args.number < 20)) ⊎ ((26 ≤ c.args.number) × (c.args.number < 32))) = grind arith in
    sym (loop c.args.number row)

pub returns-in-1-to-2 : goal.returns-in-1-to-2
unfolding words
returns-in-1-to-2 c =
    let row : ((1 ≤ c.args.number) × (c.args.number < 3)) ⊎ ((24 ≤ c.args.number) × (c.args.number < 26)) = grind arith in
    sym (byte c.args.number row)

pub returns-in_default : goal.returns-in_default
unfolding words
returns-in_default c =
    let unknown : Known c.args.number → ⊥ = λ h. grind arith in
    sym (other c.args.number unknown)
