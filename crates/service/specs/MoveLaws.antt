-- The places of a loop moved down, one store a turn.
--     moved-step           one store more, at p + 1
--     moved_row i l         the row of l with the places of loop i moved down, the freed one 0; row_to i p l: with the first p moved
--     moved-row            the places moved down are that row's list
--     moved-copied         fifteen places copied to the places before them are those that are moved one after the other
use Prim.Native.Nat.{ℕ, zero, suc, ◌+◌, ◌*◌, ◌/◌, ◌%◌, ◌≤◌, ◌<◌}
use Rattle.std.specs.Prelude.{Bool, ◌&&◌, ◌≡◌, List, length, get_or, set}
use Rattle.std.proofs.Math.Bool.{true, false, cond}
use Rattle.std.proofs.Math.Path.{refl}
use Rattle.std.proofs.Common.{sym, ◌∙◌, add-one, arith}
use Rattle.std.proofs.Math.Dec.{ltb, eqb}
use borrow.Author.Tests.{ltb-true, ltb-false, lt-ltb, le-ltb, eqb-true, eqb-false, eq-eqb, ne_eqb}
use Rattle.laws.specs.Tab.{tab}
use Rattle.laws.specs.TabLaws.{get_or-tab, ext_tab, set-tab, tab_ext}
use Rattle.tasks.specs.TaskSet.{row}
use Rattle.service.specs.Serve.{moved_to, moved}
use Rattle.state.proofs.AllLaws.{by_place, loop-of, place_in_lem}

unfoldable pub moved_row : ℕ → List ℕ → ℕ → ℕ
moved_row i l k = cond (eqb (k / 16) i) (cond (eqb (k % 16) 15) 0 (row l (k + 1))) (row l k)

unfoldable pub row_to : ℕ → ℕ → List ℕ → ℕ → ℕ
row_to i p l k = cond (eqb (k / 16) i && ltb (k % 16) p) (row l (k + 1)) (row l k)

-- the row at place q of loop j
moved_at : (i p : ℕ) (l : List ℕ) (j q : ℕ) → q < 16 → row_to i p l (16 * j + q) ≡ cond (eqb j i && ltb q p) (row l (16 * j + q + 1)) (row l (16 * j + q))
unfolding row_to
moved_at i p l j q h = rw (loop-of j q h, place_in_lem j q h)

move_none : (i : ℕ) (l : List ℕ) → length l ≡ 256 → l ≡ tab (row_to i 0 l) 256
unfolding row_to row
move_none i l e = ext_tab (row_to i 0 l) l 256 0 e (λ k h. sym (rw (le-ltb (k % 16) 0 (omega arith)) (off (eqb (k / 16) i) k)))
  where
    off : (b : Bool) (k : ℕ) → cond (b && false) (get_or l (k + 1) 0) (get_or l k 0) ≡ get_or l k 0
    off true k = refl
    off false k = refl

module _ (i : ℕ) (l now : List ℕ) (h : i < 16) where
  move_more :
      (p : ℕ) → p < 15 → now ≡ tab (row_to i p l) 256
      → set now (16 * i + p) (get_or now (16 * i + p + 1) 0) ≡ tab (row_to i (p + 1) l) 256
  move_more p m e =
      rw (e, read)
      (set-tab (row_to i p l) 256 (16 * i + p) (row l (16 * i + p + 1))
      ∙ tab_ext _ (row_to i (p + 1) l) 256 (by_place (λ k. cond (eqb k (16 * i + p)) (row l (16 * i + p + 1)) (row_to i p l k) ≡ row_to i (p + 1) l k) at))
    where
      read : get_or (tab (row_to i p l) 256) (16 * i + p + 1) 0 ≡ row l (16 * i + p + 1)
      read =
          let next : 16 * i + p + 1 ≡ 16 * i + (p + 1) = omega arith in
          get_or-tab (row_to i p l) 256 (16 * i + p + 1) 0 (omega arith)
          ∙ rw (next, moved_at i p l i (p + 1) (omega arith), le-ltb (p + 1) p (omega arith), eq-eqb i i refl)

      at : (j q : ℕ) → j < 16 → q < 16 → cond (eqb (16 * j + q) (16 * i + p)) (row l (16 * i + p + 1)) (row_to i p l (16 * j + q)) ≡ row_to i (p + 1) l (16 * j + q)
      at j q a b = rw (moved_at i p l j q b, moved_at i (p + 1) l j q b) (go (eqb j i) refl (eqb q p) refl (ltb q p) refl)
        where
          go :
              (x : Bool) → eqb j i ≡ x → (y : Bool) → eqb q p ≡ y → (z : Bool) → ltb q p ≡ z
              → cond (eqb (16 * j + q) (16 * i + p)) (row l (16 * i + p + 1)) (cond (eqb j i && ltb q p) (row l (16 * j + q + 1)) (row l (16 * j + q)))
              ≡ cond (eqb j i && ltb q (p + 1)) (row l (16 * j + q + 1)) (row l (16 * j + q))
          go true x true y z w =
              let u = eqb-true j i x in
              let v = eqb-true q p y in
              rw (x, eq-eqb (16 * j + q) (16 * i + p) (omega arith), lt-ltb q (p + 1) (omega arith), u, v)
          go true x false y true w =
              let v = ltb-true q p w in
              let u = eqb-true j i x in
              rw (x, w, ne_eqb (16 * j + q) (16 * i + p) (λ (f : 16 * j + q ≡ 16 * i + p). omega arith), lt-ltb q (p + 1) (omega arith))
          go true x false y false w =
              let v = ltb-false q p w in
              let ne = eqb-false q p y in
              let u = eqb-true j i x in
              rw (x, w, ne_eqb (16 * j + q) (16 * i + p) (λ (f : 16 * j + q ≡ 16 * i + p). ne (omega arith)), le-ltb q (p + 1) (omega arith))
          go false x y w z v =
              let ne = eqb-false j i x in
              rw (x, ne_eqb (16 * j + q) (16 * i + p) (λ (f : 16 * j + q ≡ 16 * i + p). ne (omega arith)))

  move_all : now ≡ tab (row_to i 15 l) 256 → set now (16 * i + 15) 0 ≡ tab (moved_row i l) 256
  unfolding moved_row
  move_all e =
      rw e
      (set-tab (row_to i 15 l) 256 (16 * i + 15) 0
      ∙ tab_ext _ (moved_row i l) 256 (by_place (λ k. cond (eqb k (16 * i + 15)) 0 (row_to i 15 l k) ≡ moved_row i l k) at))
    where
      at : (j q : ℕ) → j < 16 → q < 16 → cond (eqb (16 * j + q) (16 * i + 15)) 0 (row_to i 15 l (16 * j + q)) ≡ moved_row i l (16 * j + q)
      at j q a b = rw (moved_at i 15 l j q b, loop-of j q b, place_in_lem j q b) (go (eqb j i) refl (eqb q 15) refl)
        where
          go :
              (x : Bool) → eqb j i ≡ x → (y : Bool) → eqb q 15 ≡ y
              → cond (eqb (16 * j + q) (16 * i + 15)) 0 (cond (eqb j i && ltb q 15) (row l (16 * j + q + 1)) (row l (16 * j + q)))
              ≡ cond (eqb j i) (cond (eqb q 15) 0 (row l (16 * j + q + 1))) (row l (16 * j + q))
          go true x true y =
              let u = eqb-true j i x in
              let v = eqb-true q 15 y in
              rw (x, y, eq-eqb (16 * j + q) (16 * i + 15) (omega arith))
          go true x false y =
              let u = eqb-true j i x in
              let ne = eqb-false q 15 y in
              rw (x, y, ne_eqb (16 * j + q) (16 * i + 15) (λ (f : 16 * j + q ≡ 16 * i + 15). ne (omega arith)), lt-ltb q 15 (omega arith))
          go false x y w =
              let ne = eqb-false j i x in
              rw (x, ne_eqb (16 * j + q) (16 * i + 15) (λ (f : 16 * j + q ≡ 16 * i + 15). ne (omega arith)))

pub moved-step : (i p : ℕ) (l : List ℕ) → moved_to i l (p + 1) ≡ set (moved_to i l p) (16 * i + p) (row (moved_to i l p) (16 * i + p + 1))
unfolding moved_to
moved-step i p l = rw add-one

module _ (i : ℕ) (l : List ℕ) (h : i < 16) (e : length l ≡ 256) where
  moved_to_lem : (p : ℕ) → p ≤ 15 → moved_to i l p ≡ tab (row_to i p l) 256
  unfolding moved_to row
  moved_to_lem zero m = move_none i l e
  moved_to_lem (suc p) m = rw (add-one p) at (move_more i l (moved_to i l p) h p m (moved_to_lem p (omega arith)))

  pub moved-row : moved i l ≡ tab (moved_row i l) 256
  unfolding moved
  moved-row = move_all i l (moved_to i l 15) h (moved_to_lem 15 (omega arith))

  pub moved-copied :
      (m : List ℕ) → length m ≡ 256
      → ((k : ℕ) → 16 * i ≤ k → k < 16 * i + 15 → get_or m k 0 ≡ get_or l (k + 1) 0)
      → ((k : ℕ) → k < 16 * i → get_or m k 0 ≡ get_or l k 0)
      → ((k : ℕ) → 16 * i + 15 ≤ k → get_or m k 0 ≡ get_or l k 0)
      → m ≡ moved_to i l 15
  unfolding row
  moved-copied m f copied below above =
      ext_tab (row_to i 15 l) m 256 0 f (by_place (λ k. get_or m k 0 ≡ row_to i 15 l k) at) ∙ sym (moved_to_lem 15 (omega arith))
    where
      at : (j q : ℕ) → j < 16 → q < 16 → get_or m (16 * j + q) 0 ≡ row_to i 15 l (16 * j + q)
      at j q a b = rw (moved_at i 15 l j q b) (go (ltb j i) refl (eqb j i) refl (ltb q 15) refl)
        where
          go :
              (x : Bool) → ltb j i ≡ x → (y : Bool) → eqb j i ≡ y → (z : Bool) → ltb q 15 ≡ z
              → get_or m (16 * j + q) 0 ≡ cond (eqb j i && ltb q 15) (get_or l (16 * j + q + 1) 0) (get_or l (16 * j + q) 0)
          go x u true y true z =
              let v = eqb-true j i y in
              let w = ltb-true q 15 z in
              rw (y, z) (copied (16 * j + q) (omega arith) (omega arith))
          go x u true y false z =
              let v = eqb-true j i y in
              let w = ltb-false q 15 z in
              rw (y, z) (above (16 * j + q) (omega arith))
          go true x false y z w =
              let v = ltb-true j i x in
              rw y (below (16 * j + q) (omega arith))
          go false x false y z w =
              let v = ltb-false j i x in
              let ne = eqb-false j i y in
              rw y (above (16 * j + q) (omega arith))
