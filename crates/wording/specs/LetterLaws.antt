-- Words in a text: where they stand, and that numbers between other words can't make them.
--     StandsIn w l      w stands somewhere in l, its bytes in a row
--     letters l         l without its digits
--     letters-append, letters-decimal    of two texts put together, and of a number
--     letters_stand     words with no digit that stand in a text stand in its letters
--     has w l           whether w stands in l, as a test
--     stands-has, has-stands    where words stand the test says so, and where it says so they stand
--     stands-within     words that stand in a text stand in a longer one
use Rattle.std.specs.Prelude.{ℕ, Bool, true, false, cond, ◌&&◌, ◌||◌, ◌≡◌, refl, List, [], ◌∷◌, ◌++◌, length, drop, eqb}
use Rattle.std.proofs.lemmas.Bool.{false≢true}
use Rattle.std.proofs.Common.{sym, ap, ◌∙◌, append_assoc, eq-eqb, eqb-true}
use Rattle.laws.specs.Every.{every}
use Rattle.laws.specs.EveryLaws.{both, and_both}
use Rattle.decimal.specs.Decimal.{decimal, digit}
use Rattle.decimal.proofs.DecimalLaws.{decimal-digits}

pub record StandsIn (w l : List ℕ) : Type 0 where
  pub ahead : List ℕ
  pub behind : List ℕ
  pub whole : l ≡ ahead ++ w ++ behind

unfoldable pub letters : List ℕ → List ℕ
letters [] = []
letters (b ∷ l) = cond (digit b) (letters l) (b ∷ letters l)

pub letters-append : (l u : List ℕ) → letters (l ++ u) ≡ letters l ++ letters u
unfolding letters
letters-append [] u = refl
letters-append (b ∷ l) u = go (digit b) (letters-append l u)
  where
    go :
        (d : Bool) → letters (l ++ u) ≡ letters l ++ letters u
        → cond d (letters (l ++ u)) (b ∷ letters (l ++ u)) ≡ cond d (letters l) (b ∷ letters l) ++ letters u
    go true e = e
    go false e = rw e

none_left : (l : List ℕ) → every digit l ≡ true → letters l ≡ []
unfolding letters every
none_left [] e = refl
none_left (b ∷ l) e = let h = both (digit b) _ e in rw h.0 (none_left l h.1)

pub letters-decimal : (v : ℕ) → letters (decimal v) ≡ []
letters-decimal v = none_left (decimal v) (decimal-digits v)

pub letters_stand : (w l : List ℕ) → letters w ≡ w → StandsIn w l → StandsIn w (letters l)
letters_stand w l e s =
    record {
      ahead = letters s.ahead;
      behind = letters s.behind;
      whole = ap letters s.whole ∙ rw (letters-append (s.ahead ++ w) s.behind, letters-append s.ahead w, e);
    }

-- whether l begins with w
unfoldable pub starts : List ℕ → List ℕ → Bool
starts [] l = true
starts (a ∷ w) [] = false
starts (a ∷ w) (b ∷ l) = eqb a b && starts w l

unfoldable pub has : List ℕ → List ℕ → Bool
has w [] = starts w []
has w (b ∷ l) = starts w (b ∷ l) || has w l

starts-has : (w l : List ℕ) → starts w l ≡ true → has w l ≡ true
unfolding has
starts-has w [] e = e
starts-has w (b ∷ l) e = rw e

starts_itself : (w l : List ℕ) → starts w (w ++ l) ≡ true
unfolding starts
starts_itself [] l = refl
starts_itself (a ∷ w) l = and_both _ _ (eq-eqb a a refl) (starts_itself w l)

or_true : (a b : Bool) → b ≡ true → a || b ≡ true
or_true true b e = refl
or_true false b e = e

has-at : (s w u : List ℕ) → has w (s ++ (w ++ u)) ≡ true
unfolding has
has-at [] w u = starts-has w (w ++ u) (starts_itself w u)
has-at (b ∷ s) w u = or_true (starts w (b ∷ (s ++ (w ++ u)))) (has w (s ++ (w ++ u))) (has-at s w u)

pub stands-has : (w l : List ℕ) → StandsIn w l → has w l ≡ true
stands-has w l s = rw (s.whole, append_assoc s.ahead w s.behind) (has-at s.ahead w s.behind)

starts_split : (w l : List ℕ) → starts w l ≡ true → l ≡ w ++ drop (length w) l
unfolding starts
starts_split [] l e = refl
starts_split (a ∷ w) [] e = absurd (false≢true e)
starts_split (a ∷ w) (b ∷ l) e =
    let h = both (eqb a b) (starts w l) e in
    let same : b ≡ a = sym (eqb-true a b h.0) in
    let rest : l ≡ w ++ drop (length w) l = starts_split w l h.1 in
    cc

starts_stand : (w l : List ℕ) → starts w l ≡ true → StandsIn w l
starts_stand w l e = record { ahead = []; behind = drop (length w) l; whole = starts_split w l e }

pub has-stands : (w l : List ℕ) → has w l ≡ true → StandsIn w l
unfolding has
has-stands w [] e = starts_stand w [] e
has-stands w (b ∷ l) e = go (starts w (b ∷ l)) refl (λ h. has-stands w l h)
  where
    go : (c : Bool) → starts w (b ∷ l) ≡ c → (has w l ≡ true → StandsIn w l) → StandsIn w (b ∷ l)
    go true q s = starts_stand w (b ∷ l) q
    go false q s = let r = s (rw q at e) in record { ahead = b ∷ r.ahead; behind = r.behind; whole = ap (λ (u : List ℕ). b ∷ u) r.whole }

pub stands-within : (w l a b : List ℕ) → StandsIn w l → StandsIn w (a ++ l ++ b)
stands-within w l a b s =
    record { ahead = a ++ s.ahead; behind = s.behind ++ b; whole = rw s.whole (simp append_assoc) }
