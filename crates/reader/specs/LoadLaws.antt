-- Laws of arrays that are filled in order.
--     filled_step       one store more
--     filled_end        filled up to the lesser of n and its length, an array holds the row cut off at n
--     from_fn_tab       an array made by calls that change nothing of what they read, each of which hands back the row's entry
use Rattle.std.specs.Prelude.{ℕ, ◌+◌, ◌<◌, min, ◌≡◌, refl, Bool, true, false, List, set, ltb}
use Rattle.std.proofs.Common.{arith, sym, ◌∙◌, ltb-true, ltb-false}
use Rattle.std.specs.Prelude.{◌≤◌, get_or, zero, suc}
use Rattle.std.proofs.Common.{eq-or-lt_of_le, subst}
use Rattle.std.proofs.Math.Logic.{⊎_elim}
use denote.Param.Members.{Mut, Called}
use Rattle.std.specs.Array.{IsFromFnResult, IsFromFnResultFrom}
use Rattle.laws.specs.Tab.{tab, cut}
use Rattle.laws.specs.TabLaws.{tab_ext, cut_below, cut-above, filled_next, ext_tab}

pub filled_step : {A : Type 0} (f : ℕ → A) (z : A) (i N : ℕ) (l : List A) (v : A) → i < N → l ≡ tab (cut i f z) N → v ≡ f i → set l i v ≡ tab (cut (i + 1) f z) N
filled_step f z i N l v h e q = rw (e, q) (filled_next f z i N h)

pub filled_end : {A : Type 0} (f : ℕ → A) (z : A) (n N i : ℕ) (l : List A) → i ≡ min n N → l ≡ tab (cut i f z) N → l ≡ tab (cut n f z) N
filled_end f z n N i l q e = e ∙ tab_ext (cut i f z) (cut n f z) N (λ j h. go j h (ltb j n) refl)
  where
    go : (j : ℕ) → j < N → (b : Bool) → ltb j n ≡ b → cut i f z j ≡ cut n f z j
    go j h true t =
        let m = ltb-true j n t in
        cut_below i f z j (omega arith) ∙ sym (cut_below n f z j m)
    go j h false t =
        let m = ltb-false j n t in
        cut-above i f z j (omega arith) ∙ sym (cut-above n f z j m)

-- f's calls at the indices in turn hand back the row's entries, and each leaves f as it was
module _ {F A : Type 0} (g : Mut F (ℕ × Unit {0}) A) (f : F) (row : ℕ → A) (N : ℕ) (l : List A) (call : (i : ℕ) (v : A) (after : F) → i < N → Called g f (i, tt) v after → (v ≡ row i) × (after ≡ f)) where
  made_from : (n at : ℕ) → at + n ≡ N → IsFromFnResultFrom g f l at n → (i : ℕ) (d : A) → at ≤ i → i < N → get_or l i d ≡ row i
  made_from zero at e made i d least below = absurd (omega arith)
  made_from (suc n) at e made i d least below =
      let one = call at made.1 made.0 (omega arith) made.3 in
      ⊎_elim
      (λ (q : at ≡ i). rw (sym q) (made.2.1 d ∙ one.0))
      (λ (q : at < i). made_from n (at + 1) (omega arith) (subst (λ (z : F). IsFromFnResultFrom g z l (at + 1) n) one.1 made.4) i d (omega arith) below)
      (eq-or-lt_of_le least)

  pub from_fn_tab : (d : A) → IsFromFnResult g f l N → l ≡ tab row N
  from_fn_tab d made = ext_tab row l N d made.long (λ i below. made_from N 0 (omega arith) made.each i d (omega arith) below)
