-- Laws of membership and of lists that name no index twice.
--     member-here, member-there     the head is a member, and so is every member of the tail
--     member-cases                  a member of a list is its head or a member of the tail
--     not_member_nil                the empty list has no member
--     not_member_head, not_member_tail, not_member_cons      no member: not the head, no member of the tail; and back
--     member-append                 members of the two parts
--     member-take                   a member of a beginning is a member; not_member-take: what is no member is none of a beginning
--     distinct-take                 a beginning of a list that names none twice names none twice
--     distinct_by_places            a list that has no index at two places names none twice
--     member-at                     what stands at a place of the list is a member; member-stands: every member stands at one
use Rattle.std.specs.Prelude.{ℕ, zero, suc, ◌<◌, Bool, true, false, ◌||◌, ◌≡◌, refl, ◌≢◌, ◌⊎◌, List, [], ◌∷◌, ◌++◌, eqb, length, get_or, take}
use Rattle.std.proofs.Common.{true≢false, sym, ◌∙◌, inl, inr, ⊎_elim, not-suc-le-zero, arith, eqb-true, eq-eqb, ne_eqb}
use Rattle.laws.specs.Member.{member, Distinct}

pub not_member_nil : (i : ℕ) → member i [] ≡ false
unfolding member
not_member_nil i = refl

pub member-here : (i : ℕ) (l : List ℕ) → member i (i ∷ l) ≡ true
unfolding member
member-here i l = rw (eq-eqb i i refl)

pub member-there : (i j : ℕ) (l : List ℕ) → member i l ≡ true → member i (j ∷ l) ≡ true
unfolding member
member-there i j l e = go (eqb i j)
  where
    go : (b : Bool) → b || member i l ≡ true
    go true = refl
    go false = e

pub member-cases : (i j : ℕ) (l : List ℕ) → member i (j ∷ l) ≡ true → (i ≡ j) ⊎ (member i l ≡ true)
unfolding member
member-cases i j l e = go (eqb i j) refl
  where
    go : (b : Bool) → eqb i j ≡ b → (i ≡ j) ⊎ (member i l ≡ true)
    go true q = inl (eqb-true i j q)
    go false q = inr (rw q at e)

pub not_member_head : (i j : ℕ) (l : List ℕ) → member i (j ∷ l) ≡ false → i ≢ j
not_member_head i j l e q = true≢false (sym (rw (← q) (member-here i l)) ∙ e)

pub not_member_tail : (i j : ℕ) (l : List ℕ) → member i (j ∷ l) ≡ false → member i l ≡ false
not_member_tail i j l e = go (member i l) refl
  where
    go : (b : Bool) → member i l ≡ b → member i l ≡ false
    go true q = absurd (true≢false (sym (member-there i j l q) ∙ e))
    go false q = q

pub not_member_cons : (i j : ℕ) (l : List ℕ) → i ≢ j → member i l ≡ false → member i (j ∷ l) ≡ false
unfolding member
not_member_cons i j l ne e = rw (ne_eqb i j ne) e

pub member-append : (i : ℕ) (l m : List ℕ) → member i (l ++ m) ≡ member i l || member i m
unfolding member
member-append i [] m = refl
member-append i (j ∷ l) m = go (eqb i j) (member-append i l m)
  where
    go : (b : Bool) → member i (l ++ m) ≡ member i l || member i m → b || member i (l ++ m) ≡ b || member i l || member i m
    go true e = refl
    go false e = e

pub member-take : (k i : ℕ) (l : List ℕ) → member i (take k l) ≡ true → member i l ≡ true
unfolding member
member-take zero i l e = absurd (true≢false (sym e))
member-take (suc k) i [] e = e
member-take (suc k) i (j ∷ l) e =
    ⊎_elim (λ (q : i ≡ j). rw (← q) (member-here i l)) (λ q. member-there i j l (member-take k i l q)) (member-cases i j (take k l) e)

pub not_member-take : (k i : ℕ) (l : List ℕ) → member i l ≡ false → member i (take k l) ≡ false
not_member-take k i l e = go (member i (take k l)) refl
  where
    go : (b : Bool) → member i (take k l) ≡ b → member i (take k l) ≡ false
    go true q = absurd (true≢false (sym (member-take k i l q) ∙ e))
    go false q = q

pub distinct-take : (k : ℕ) (l : List ℕ) → Distinct l → Distinct (take k l)
unfolding Distinct
distinct-take zero l d = tt
distinct-take (suc k) [] d = tt
distinct-take (suc k) (j ∷ l) d = (not_member-take k j l d.0, distinct-take k l d.1)

pub member-at : (l : List ℕ) (a d : ℕ) → a < length l → member (get_or l a d) l ≡ true
member-at [] a d h = absurd (not-suc-le-zero h)
member-at (j ∷ l) zero d h = member-here j l
member-at (j ∷ l) (suc a) d h = member-there (get_or l a d) j l (member-at l a d (omega arith))

pub member-stands : (l : List ℕ) (i d : ℕ) → member i l ≡ true → (a : ℕ) × (a < length l) × (get_or l a d ≡ i)
member-stands [] i d m = absurd (true≢false (sym m ∙ not_member_nil i))
member-stands (j ∷ l) i d m =
    ⊎_elim
    (λ (q : i ≡ j). (0, omega arith, sym q))
    (λ (q : member i l ≡ true). let r = member-stands l i d q in (suc r.0, omega (arith, r.1), r.2))
    (member-cases i j l m)

pub distinct_by_places : (l : List ℕ) → ((a b : ℕ) → a < length l → b < length l → get_or l a 0 ≡ get_or l b 0 → a ≡ b) → Distinct l
unfolding Distinct
distinct_by_places [] once = tt
distinct_by_places (j ∷ l) once =
    (new (member j l) refl, distinct_by_places l (λ a b h k e. let q = once (suc a) (suc b) (omega arith) (omega arith) e in omega arith))
  where
    new : (b : Bool) → member j l ≡ b → member j l ≡ false
    new true m =
        let s = member-stands l j 0 m in
        absurd (omega (arith, once 0 (suc s.0) (omega arith) (omega (arith, s.1)) (sym s.2)))
    new false m = m
