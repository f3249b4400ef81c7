-- Laws of entries written one after the other. `sets l i v` is l with v stored from i on.
--     sets-entry     the next entry stored behind entries of one size
--     sets_section   a count, and all entries behind it
use Rattle.std.specs.Prelude.{ℕ, ◌+◌, ◌*◌, ◌≡◌, List, ◌∷◌, length, set}
use Rattle.std.proofs.Common.{add-one, arith, ◌∙◌}
use Rattle.std.proofs.lemmas.List.Edits.{sets}
use Rattle.laws.specs.SetsLaws.{sets-next}
use Rattle.numbers.specs.Bytes.{entries}
use Rattle.numbers.specs.ByteLaws.{length-entries}

pub sets-entry :
    (k : ℕ) (f : ℕ → List ℕ) (size : (i : ℕ) → length (f i) ≡ k) (l : List ℕ) (at i j : ℕ) (u v : List ℕ)
    → u ≡ sets l at (entries f i) → j ≡ at + k * i → v ≡ f i → sets u j v ≡ sets l at (entries f (i + 1))
unfolding entries
sets-entry k f size l at i j u v e q w =
    rw (e, w, add-one) (sets-next l at j (entries f i) (f i) (omega (arith, length-entries k f size i)))

pub sets_section :
    (f : ℕ → List ℕ) (l u : List ℕ) (at from c i n : ℕ)
    → u ≡ sets (set l at c) from (entries f i) → from ≡ at + 1 → i ≡ n → u ≡ sets l at (c ∷ entries f n)
sets_section f l u at from c i n e q r = e ∙ rw (r, q, add-one)
