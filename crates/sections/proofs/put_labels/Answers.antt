-- `sections::put_labels` meets its contract: the first labels are the entries that follow the count.
use Rattle.std.specs.Prelude.{ℕ, suc, ◌+◌, ◌≤◌, ◌≡◌, refl, List, [], ◌∷◌, ◌++◌, length, take}
use Rattle.std.proofs.Common.{arith, sym, ap, ◌∙◌, take-suc, drop-drop, length-set, append_assoc}
use Rattle.std.proofs.lemmas.List.Edits.{sets, sets-eq}
use borrow.Rule.Slice.PartMut.{put_mid}
use Rattle.tasks.specs.TaskSet.{row}
use Rattle.numbers.specs.Bytes.{entries}
use Rattle.numbers.specs.ByteLaws.{length-entries}
use Rattle.sections.proofs.put_labels.Goals as goal

-- the first n numbers of a list, as entries of one byte
first-entries : (l : List ℕ) (n : ℕ) → n ≤ length l → take n l ≡ entries (λ i. row l i ∷ []) n
unfolding entries row
first-entries l ℕ.zero h = refl
first-entries l (suc n) h = take-suc l n 0 (omega arith) ∙ ap (λ (e : List ℕ). e ++ row l n ∷ []) (first-entries l n (omega arith))

-- a slice copied into its part of the buffer is stored there
copied : (l u v : List ℕ) (at from n : ℕ) → from ≡ suc at → u ≡ v → n ≡ length v → from + length v ≤ length l → put_mid from n l u ≡ sets l (suc at) v
copied l u v at from n i e q h = rw (e, q, drop-drop (length v) from l, ← i) (sym (sets-eq v l from h ∙ append_assoc (take from l) v _))

pub returns : goal.returns
returns c =
    let a = c.args in
    let n = length-entries 1 (λ i. row a.labels.now i ∷ []) (λ i. refl) a.count in
    copied _ _ _ _ _ _ (omega arith) (c.copy_from_slice.ensures.after ∙ first-entries a.labels.now a.count (omega arith)) (omega (arith, n)) (omega (arith, n, length-set {A = ℕ}))
