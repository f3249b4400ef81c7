-- Laws of `tab` and `cut`: lists filled in order, read by their row, and arrays that are filled up to a place and hold z after it.
--     length-tab        tab f n has n entries
--     get_or-tab          below n the entries are the row's; get_or-tab-out: from n on there are none
--     tab_ext           rows that agree below n have the same list
--     ext_tab           a list of n entries that are the row's is tab f n
--     tab_replicate     a constant row
--     get_or_alike        an array of one value alone, read anywhere
--     set-tab           a store is a change of the row at one index
--     cut_below         below n the cut row is the row; cut-above: from n on it is z
--     cut_ext           rows that agree below n, cut off there; cut_apart: and back
--     cut-map           a row of what g makes of another, cut off
--     cut_all           filled up to its length an array is the row's tab
--     get_or-tab-cut      a tab read anywhere is the row cut off at its length
--     get_or-cut          the tab of a row that is cut off below its length, read anywhere
--     get_or-first        the first k entries of a list, read anywhere
--     take-tab          a list put into a longer one, and read back
--     filled_none       an array of z alone is filled up to 0
--     filled_next       a store at i fills it up to i + 1
use Prim.Native.Nat.{ℕ, zero, suc, ◌+◌, ◌≤◌, ◌<◌}
use Rattle.std.specs.Prelude.{Bool, ◌≡◌, ltb, eqb, length, get_or, set, take, replicate}
use Rattle.std.proofs.Math.Bool.{true, false, cond}
use Rattle.std.proofs.Math.Path.{refl, sym}
use Rattle.std.proofs.Common.{ap, ◌∙◌, not-suc-le-zero, le_of_suc-le-suc, eq-or-lt_of_le, arith, length-set, length-take, ext_get_or, get_or-take, get_or-set_same, get_or-set_other, ltb-true, ltb-false, lt-ltb, le-ltb, eqb-true}
use Rattle.std.proofs.Math.Logic.{⊎_elim}
use mathlib.Core.List.{List, [], ◌∷◌}
use Rattle.std.proofs.Math.ListN.{length-append, get_or-append, get_or-eq_default}
use Rattle.std.proofs.lemmas.List.{length-replicate, get_or-replicate, get_or_at}
use Rattle.std.proofs.lemmas.Bool.{eqb-false}
use Rattle.laws.specs.Tab.{tab, cut}
use Rattle.laws.specs.EveryLaws.{below_or_not}

module _ {A : Type 0} where
  pub length-tab : (f : ℕ → A) (n : ℕ) → length (tab f n) ≡ n
  unfolding tab
  length-tab f zero = refl
  length-tab f (suc n) = omega (arith, length-append (tab f n) (f n ∷ []), length-tab f n)

  pub get_or-tab : (f : ℕ → A) (n i : ℕ) (d : A) → i < n → get_or (tab f n) i d ≡ f i
  unfolding tab
  get_or-tab f zero i d h = absurd (not-suc-le-zero h)
  get_or-tab f (suc n) i d h =
      ⊎_elim
      (λ (q : i ≡ n). rw q (get_or_at (tab f n) (f n) [] d n (length-tab f n)))
      (λ (q : i < n). get_or-append (tab f n) (f n ∷ []) d i (omega (arith, length-tab f n)) ∙ get_or-tab f n i d q)
      (eq-or-lt_of_le (le_of_suc-le-suc h))

  pub get_or-tab-out : (f : ℕ → A) (n i : ℕ) (d : A) → n ≤ i → get_or (tab f n) i d ≡ d
  get_or-tab-out f n i d h = get_or-eq_default (tab f n) d (omega (arith, length-tab f n))

  pub ext_tab : (f : ℕ → A) (l : List A) (n : ℕ) (d : A) → length l ≡ n → ((i : ℕ) → i < n → get_or l i d ≡ f i) → l ≡ tab f n
  ext_tab f l n d e same =
      ext_get_or d l (tab f n) (e ∙ sym (length-tab f n)) (λ i h. same i (omega arith) ∙ sym (get_or-tab f n i d (omega arith)))

  pub tab_ext : (f g : ℕ → A) (n : ℕ) → ((i : ℕ) → i < n → f i ≡ g i) → tab f n ≡ tab g n
  unfolding tab
  tab_ext f g zero same = refl
  tab_ext f g (suc n) same = rw (tab_ext f g n (λ i h. same i (omega arith)), same n (omega arith))

  pub tab_replicate : (z : A) (n : ℕ) → tab (λ i. z) n ≡ replicate n z
  tab_replicate z n = sym (ext_tab (λ i. z) (replicate n z) n z (length-replicate n z) (λ i h. get_or-replicate n i z z h))

  pub get_or_alike : (n i : ℕ) (z : A) → get_or (replicate n z) i z ≡ z
  get_or_alike zero i z = refl
  get_or_alike (suc n) zero z = refl
  get_or_alike (suc n) (suc i) z = get_or_alike n i z

  pub set-tab : (f : ℕ → A) (n i : ℕ) (v : A) → set (tab f n) i v ≡ tab (λ j. cond (eqb j i) v (f j)) n
  set-tab f n i v =
      ext_tab
      (λ j. cond (eqb j i) v (f j))
      (set (tab f n) i v)
      n
      v
      (length-set (tab f n) i v ∙ length-tab f n)
      (λ j l. at j l (eqb j i) refl)
    where
      at : (j : ℕ) → j < n → (b : Bool) → eqb j i ≡ b → get_or (set (tab f n) i v) j v ≡ cond (eqb j i) v (f j)
      at j l true e = rw (e, eqb-true j i e) (get_or-set_same (tab f n) i v v (omega (arith, length-tab f n, eqb-true j i e)))
      at j l false e = rw e (get_or-set_other (tab f n) i j v v (eqb-false j i e) ∙ get_or-tab f n j v l)

  pub cut_below : (n : ℕ) (f : ℕ → A) (z : A) (i : ℕ) → i < n → cut n f z i ≡ f i
  unfolding cut
  cut_below n f z i h = rw (lt-ltb i n h)

  pub cut-above : (n : ℕ) (f : ℕ → A) (z : A) (i : ℕ) → n ≤ i → cut n f z i ≡ z
  unfolding cut
  cut-above n f z i h = rw (le-ltb i n h)

  pub cut_ext : (m n : ℕ) (f g : ℕ → A) (z : A) → m ≡ n → ((i : ℕ) → i < m → f i ≡ g i) → (i : ℕ) → cut m f z i ≡ cut n g z i
  cut_ext m n f g z e same i =
      ⊎_elim
      (λ (h : i < m). cut_below m f z i h ∙ same i h ∙ sym (cut_below n g z i (omega arith)))
      (λ (h : m ≤ i). cut-above m f z i h ∙ sym (cut-above n g z i (omega arith)))
      (below_or_not i m)

  pub cut_apart : (m n : ℕ) (f g : ℕ → A) (z : A) → m ≡ n → cut m f z ≡ cut n g z → (i : ℕ) → i < m → f i ≡ g i
  cut_apart m n f g z e same i h =
      sym (cut_below m f z i h) ∙ ap (λ (r : ℕ → A). r i) same ∙ cut_below n g z i (omega arith)

  pub cut-map : {B : Type 0} (g : B → A) (n : ℕ) (f : ℕ → B) (z : A) (w : B) → g w ≡ z → (i : ℕ) → cut n (λ j. g (f j)) z i ≡ g (cut n f w i)
  unfolding cut
  cut-map g n f z w e i = go (ltb i n)
    where
      go : (b : Bool) → cond b (g (f i)) z ≡ g (cond b (f i) w)
      go true = refl
      go false = sym e

  pub cut_all : (n : ℕ) (f : ℕ → A) (z : A) → tab (cut n f z) n ≡ tab f n
  cut_all n f z = tab_ext (cut n f z) f n (cut_below n f z)

  pub get_or-tab-cut : (f : ℕ → A) (n i : ℕ) (d : A) → get_or (tab f n) i d ≡ cut n f d i
  get_or-tab-cut f n i d = go (ltb i n) refl
    where
      go : (b : Bool) → ltb i n ≡ b → get_or (tab f n) i d ≡ cut n f d i
      go true e =
          let h = ltb-true i n e in
          get_or-tab f n i d h ∙ sym (cut_below n f d i h)
      go false e =
          let h = ltb-false i n e in
          get_or-tab-out f n i d h ∙ sym (cut-above n f d i h)

  pub get_or-cut : (n N : ℕ) (f : ℕ → A) (z : A) → n ≤ N → (i : ℕ) → get_or (tab (cut n f z) N) i z ≡ cut n f z i
  get_or-cut n N f z h i = get_or-tab-cut (cut n f z) N i z ∙ go (ltb i N) refl
    where
      go : (b : Bool) → ltb i N ≡ b → cut N (cut n f z) z i ≡ cut n f z i
      go true e = cut_below N (cut n f z) z i (ltb-true i N e)
      go false e =
          let l = ltb-false i N e in
          cut-above N (cut n f z) z i l ∙ sym (cut-above n f z i (omega arith))

  pub get_or-first : (k : ℕ) (l : List A) (i : ℕ) (z : A) → get_or (take k l) i z ≡ cut k (λ j. get_or l j z) z i
  get_or-first k l i z = go (ltb i k) refl
    where
      go : (b : Bool) → ltb i k ≡ b → get_or (take k l) i z ≡ cut k (λ j. get_or l j z) z i
      go true e =
          let h = ltb-true i k e in
          get_or-take k l i z h ∙ sym (cut_below k (λ j. get_or l j z) z i h)
      go false e =
          let h = ltb-false i k e in
          get_or-eq_default (take k l) z (omega (arith, length-take k l)) ∙ sym (cut-above k (λ j. get_or l j z) z i h)

  pub take-tab : (l : List A) (n : ℕ) (z : A) → length l ≤ n → take (length l) (tab (λ i. get_or l i z) n) ≡ l
  take-tab l n z h =
      ext_get_or z (take (length l) (tab (λ i. get_or l i z) n)) l
      (length-take (length l) (tab (λ i. get_or l i z) n) ∙ omega (arith, length-tab (λ i. get_or l i z) n))
      (λ i k.
      let low : i < length l = omega (arith, length-take (length l) (tab (λ i. get_or l i z) n)) in
      get_or-take (length l) (tab (λ i. get_or l i z) n) i z low ∙ get_or-tab (λ i. get_or l i z) n i z (omega arith))

  pub filled_none : (f : ℕ → A) (z : A) (N : ℕ) → replicate N z ≡ tab (cut 0 f z) N
  filled_none f z N = ext_tab (cut 0 f z) (replicate N z) N z (length-replicate N z) (λ i h. rw (cut-above 0 f z i (omega arith)) (get_or-replicate N i z z h))

  pub filled_next : (f : ℕ → A) (z : A) (i N : ℕ) → i < N → set (tab (cut i f z) N) i (f i) ≡ tab (cut (i + 1) f z) N
  filled_next f z i N h = set-tab (cut i f z) N i (f i) ∙ tab_ext (λ j. cond (eqb j i) (f i) (cut i f z j)) (cut (i + 1) f z) N (λ j l. at j (eqb j i) refl (ltb j i) refl)
    where
      at : (j : ℕ) (b : Bool) → eqb j i ≡ b → (c : Bool) → ltb j i ≡ c → cond (eqb j i) (f i) (cut i f z j) ≡ cut (i + 1) f z j
      at j true e c q = rw (e, eqb-true j i e) (sym (cut_below (i + 1) f z i (omega arith)))
      at j false e true q =
          let l = ltb-true j i q in
          rw (e, cut_below i f z j l) (sym (cut_below (i + 1) f z j (omega arith)))
      at j false e false q =
          let l = ltb-false j i q in
          let m = eqb-false j i e in
          rw (e, cut-above i f z j l) (sym (cut-above (i + 1) f z j (omega arith)))
