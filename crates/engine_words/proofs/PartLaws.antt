-- Laws of some of the words: `part ws at n` has n words from `at` on.
--     length_part        it has n words
--     part-all           all of a list's words
--     part-next          a part and the one behind it
--     row-left, row-right      a word of the first, and of the second, of two lists put together
--     part_left, part_right    the same of a part
--     part-first         the whole first list
--     tab-row            a list of n numbers, read by its row
--     entries-part       a part is the entries that it is cut into
--     row-part           a part's words, one by one
--     stored-none, stored_next, stored-all    a row stored one by one over a list
use Rattle.std.specs.Prelude.{ℕ, zero, suc, ◌+◌, ◌*◌, ◌≤◌, ◌<◌, ◌≡◌, List, [], ◌∷◌, ◌++◌, length, set}
use Rattle.std.proofs.Math.Path.{refl}
use Rattle.std.proofs.Common.{sym, ap, ◌∙◌, append_assoc, append-nil, add-zero, add-suc, zero-add, add_assoc, mul-zero, mul-suc, arith, drop_of_length-le, get_or-append-add}
use Rattle.std.proofs.Math.Numerals.{add-one}
use Rattle.std.proofs.Math.ListN.{get_or-append}
use Rattle.std.proofs.lemmas.List.Edits.{sets}
use Rattle.laws.specs.Tab.{tab}
use Rattle.laws.specs.SetsLaws.{sets-next, sets-whole}
use Rattle.laws.specs.TabLaws.{length-tab, get_or-tab, ext_tab, tab_ext}
use Rattle.tasks.specs.TaskSet.{row}
use Rattle.numbers.specs.Bytes.{entries}
use Rattle.engine_words.specs.Words.{part}

pub length_part : (ws : List ℕ) (at n : ℕ) → length (part ws at n) ≡ n
unfolding part
length_part ws at n = length-tab _ n

pub row-part : (ws : List ℕ) (at n i : ℕ) → i < n → row (part ws at n) i ≡ row ws (at + i)
unfolding part row
row-part ws at n i h = get_or-tab _ n i 0 h

pub tab-row : (l : List ℕ) (n : ℕ) → length l ≡ n → tab (row l) n ≡ l
unfolding row
tab-row l n e = sym (ext_tab (row l) l n 0 e (λ i h. refl))

pub part-all : (ws : List ℕ) (n : ℕ) → length ws ≡ n → part ws 0 n ≡ ws
unfolding part
part-all ws n e = tab_ext (λ i. row ws (0 + i)) (row ws) n (λ i h. ap (row ws) (zero-add i)) ∙ tab-row ws n e

pub part-next : (ws : List ℕ) (at n m k : ℕ) → k ≡ at + n → part ws at n ++ part ws k m ≡ part ws at (n + m)
unfolding part tab
part-next ws at n zero k e = append-nil _ ∙ sym (ap (part ws at) (add-zero n))
part-next ws at n (suc m) k e =
    sym (append_assoc (part ws at n) (part ws k m) (row ws (k + m) ∷ []))
    ∙ rw (part-next ws at n m k e, e, add-suc, add_assoc)

module _ (a b : List ℕ) where
  pub row-left : (at : ℕ) → at < length a → row (a ++ b) at ≡ row a at
  unfolding row
  row-left at h = get_or-append a b 0 at h

  pub row-right : (at k : ℕ) → at ≡ length a + k → row (a ++ b) at ≡ row b k
  unfolding row
  row-right at k e = rw e (get_or-append-add a b k 0)

  pub part_left : (at n : ℕ) → at + n ≤ length a → part (a ++ b) at n ≡ part a at n
  unfolding part
  part_left at n h = tab_ext _ _ n (λ i l. row-left (at + i) (omega arith))

  pub part_right : (at k n : ℕ) → at ≡ length a + k → part (a ++ b) at n ≡ part b k n
  unfolding part
  part_right at k n e = tab_ext _ _ n (λ i l. row-right (at + i) (k + i) (omega arith))

  pub part-first : (n : ℕ) → length a ≡ n → part (a ++ b) 0 n ≡ a
  part-first n e = part_left 0 n (omega arith) ∙ part-all a n e

pub entries-part : (ws : List ℕ) (k at n : ℕ) → entries (λ i. part ws (at + k * i) k) n ≡ part ws at (k * n)
unfolding entries part tab
entries-part ws k at zero = rw mul-zero
entries-part ws k at (suc n) = rw (entries-part ws k at n, mul-suc) (part-next ws at (k * n) k (at + k * n) refl)

module _ (f : ℕ → ℕ) (l : List ℕ) where
  pub stored-none : (at : ℕ) → l ≡ sets l at (tab f 0)
  unfolding tab
  stored-none at = refl

  pub stored_next : (at k i : ℕ) → k ≡ at + i → set (sets l at (tab f i)) k (f i) ≡ sets l at (tab f (i + 1))
  unfolding tab
  stored_next at k i e = sets-next l at k (tab f i) (f i ∷ []) (omega (arith, length-tab f i)) ∙ rw add-one

  pub stored-all : (n : ℕ) → length l ≡ n → sets l 0 (tab f n) ≡ tab f n
  stored-all n e =
      sets-whole l (tab f n) (omega (arith, length-tab f n))
      ∙ rw (length-tab f n, drop_of_length-le l {i = n} (omega arith)) (append-nil (tab f n))
