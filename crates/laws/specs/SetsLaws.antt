-- Laws of parts stored one after the other. `sets l i v` is l with v stored from i on.
--     sets-next      v stored behind u
--     sets-three     three stores, each behind the one before
--     sets-whole     v stored from the beginning: v, and then what was there
--     sets-four      four stores
use Rattle.std.specs.Prelude.{ℕ, suc, ◌+◌, ◌≤◌, ◌≡◌, List, [], ◌∷◌, ◌++◌, length, drop, set}
use Rattle.std.proofs.Common.{add-zero, zero-add, arith, ◌∙◌, length-append}
use Rattle.std.proofs.Math.Numerals.{towards_suc}
use Rattle.std.proofs.lemmas.List.Edits.{sets, sets-eq}

pub sets-next : (l : List ℕ) (i j : ℕ) (u v : List ℕ) → j ≡ i + length u → sets (sets l i u) j v ≡ sets l i (u ++ v)
sets-next l i j [] v e = rw (e, add-zero)
sets-next l i j (a ∷ u) v e = sets-next (set l i a) (suc i) j u v (omega arith)

pub sets-three :
    (l l₁ l₂ l₃ : List ℕ) (i j k : ℕ) (a b c : List ℕ)
    → l₁ ≡ sets l i a → l₂ ≡ sets l₁ j b → l₃ ≡ sets l₂ k c → j ≡ i + length a → k ≡ j + length b → l₃ ≡ sets l i (a ++ b ++ c)
sets-three l l₁ l₂ l₃ i j k a b c e₁ e₂ e₃ q r =
    rw (e₃, e₂, e₁, sets-next l i j a b q) (sets-next l i k (a ++ b) c (omega (arith, length-append a b)))

pub sets-whole : (l v : List ℕ) → length v ≤ length l → sets l 0 v ≡ v ++ drop (length v) l
sets-whole l v h = sets-eq v l 0 (omega arith) ∙ rw zero-add

pub sets-four :
    (l : List ℕ) (i a b c d : ℕ) → set (set (set (set l i a) (i + 1) b) (i + 2) c) (i + 3) d ≡ sets l i (a ∷ b ∷ c ∷ d ∷ [])
sets-four l i a b c d = simp towards_suc
