-- Laws of numbers in decimal.
--     decimal_one, decimal-more    a number below 10, and any other by its number without the last digit
--     length_more         any other has one digit more than that
--     by_digits           induction on a number's digits
--     every-decimal       what holds of each digit holds of every byte of a number
--     digit_is            each digit is one
--     decimal-digits      a number's digits are digits
--     decimal-some        there is at least one
--     decimal_lead        the first is 0 only for 0: no leading zeros
--     value-decimal       they stand for the number
--     decimal_injective   so two numbers with the same digits are the same
--     NoDigit l           l begins with no digit
--     decimal-ends        a number's digits end where no digit follows: number and what follows can be read off
--     decimal-length      a number below 10 ^ k has at most k digits, for k at least 1; decimal_64: one of 64 bits at most 20
--     length-said         how long words with a number are
use Rattle.std.specs.Prelude.{ℕ, zero, suc, ◌+◌, ◌-◌, ◌*◌, ◌/◌, ◌%◌, ◌^◌, ◌≤◌, ◌<◌, ◌≡◌, refl, Bool, true, false, List, [], ◌∷◌, ◌++◌, length, get_or, ltb}
use Rattle.std.proofs.Common.{pow-suc, not-suc-le-zero, div-lt_iff_lt-mul, arith, sym, ap, ◌∙◌, ⊎_elim, length-append, lit<, ltb-false, lt-ltb, le-ltb, le-leb}
use Rattle.std.proofs.lemmas.Bool.{false≢true}
use Rattle.std.proofs.Math.ListN.{get_or-append}
use Rattle.laws.specs.Every.{every}
use Rattle.laws.specs.EveryLaws.{below_or_not, both, and_both, every_append}
use Rattle.decimal.specs.Decimal.{digits_in, decimal, said, digit, read_on, value}

-- more room for digits than there are changes nothing
digits_same : (f g v : ℕ) → v < f → v < g → digits_in f v ≡ digits_in g v
unfolding digits_in
digits_same zero g v h l = absurd (not-suc-le-zero h)
digits_same (suc f) zero v h l = absurd (not-suc-le-zero l)
digits_same (suc f) (suc g) v h l = go (ltb v 10) refl (λ m. digits_same f g (v / 10) (omega arith) (omega arith))
  where
    go :
        (b : Bool) → ltb v 10 ≡ b → (10 ≤ v → digits_in f (v / 10) ≡ digits_in g (v / 10)) → digits_in (suc f) v ≡ digits_in (suc g) v
    go true e same = rw e
    go false e same = rw (e, same (ltb-false v 10 e))

pub decimal_one : (v : ℕ) → v < 10 → decimal v ≡ (48 + v) ∷ []
unfolding decimal digits_in
decimal_one v h = let e : v % 10 ≡ v = omega arith in rw (lt-ltb v 10 h, e)

pub decimal-more : (v : ℕ) → 10 ≤ v → decimal v ≡ decimal (v / 10) ++ (48 + v % 10) ∷ []
unfolding decimal digits_in
decimal-more v h = rw (le-ltb v 10 h, digits_same v (suc (v / 10)) (v / 10) (omega arith) (omega arith))

pub length_more : (v : ℕ) → 10 ≤ v → length (decimal v) ≡ length (decimal (v / 10)) + 1
length_more v h = rw (decimal-more v h) (length-append (decimal (v / 10)) ((48 + v % 10) ∷ []))

-- what holds of each number below 10, and of any other where it holds without the last digit, holds of all
pub by_digits : (P : ℕ → Type 0) → ((v : ℕ) → v < 10 → P v) → ((v : ℕ) → 10 ≤ v → P (v / 10) → P v) → (v : ℕ) → P v
by_digits P one more v = below (suc v) v (omega arith)
  where
    below : (f u : ℕ) → u < f → P u
    below zero u h = absurd (not-suc-le-zero h)
    below (suc f) u h =
        ⊎_elim
        (λ (l : u < 10). one u l)
        (λ (l : 10 ≤ u). more u l (below f (u / 10) (omega arith)))
        (below_or_not u 10)

pub every-decimal : (p : ℕ → Bool) → ((d : ℕ) → d < 10 → p (48 + d) ≡ true) → (v : ℕ) → every p (decimal v) ≡ true
unfolding every
every-decimal p each =
    by_digits (λ v. every p (decimal v) ≡ true)
    (λ v h. rw (decimal_one v h) (and_both _ true (each v h) refl))
    (λ v h all. rw (decimal-more v h) (every_append p (decimal (v / 10)) ((48 + v % 10) ∷ []) all (and_both _ true (each (v % 10) (omega arith)) refl)))

pub digit_is : (d : ℕ) → d < 10 → digit (48 + d) ≡ true
unfolding digit
digit_is d h = and_both _ _ (le-leb 48 (48 + d) (omega arith)) (le-leb (48 + d) 57 (omega arith))

pub decimal-digits : (v : ℕ) → every digit (decimal v) ≡ true
decimal-digits = every-decimal digit digit_is

pub decimal-some : (v : ℕ) → 1 ≤ length (decimal v)
decimal-some =
    by_digits (λ v. 1 ≤ length (decimal v))
    (λ v h. rw (decimal_one v h) (lit< tt))
    (λ v h some. rw (decimal-more v h, length-append) (omega arith))

pub decimal_lead : (v : ℕ) → get_or (decimal v) 0 0 ≡ 48 → v ≡ 0
decimal_lead =
    by_digits (λ v. get_or (decimal v) 0 0 ≡ 48 → v ≡ 0)
    (λ v h e. omega (arith, rw (decimal_one v h) at e))
    (λ v h lead e.
    let f : get_or (decimal (v / 10)) 0 0 ≡ 48 =
    sym (get_or-append (decimal (v / 10)) _ 0 0 (decimal-some (v / 10))) ∙ (rw (decimal-more v h) at e) in
    omega (arith, lead f))

-- one digit more, read
read_snoc : (a : ℕ) (l : List ℕ) (d : ℕ) → read_on a (l ++ (48 + d) ∷ []) ≡ 10 * read_on a l + d
unfolding read_on
read_snoc a [] d = omega arith
read_snoc a (b ∷ l) d = read_snoc (10 * a + (b - 48)) l d

pub value-decimal : (v : ℕ) → value (decimal v) ≡ v
unfolding value read_on
value-decimal =
    by_digits (λ v. value (decimal v) ≡ v)
    (λ v h. rw (decimal_one v h) (omega arith))
    (λ v h e. rw (decimal-more v h) (omega (arith, read_snoc 0 (decimal (v / 10)) (v % 10))))

pub decimal_injective : (u v : ℕ) → decimal u ≡ decimal v → u ≡ v
decimal_injective u v e = sym (value-decimal u) ∙ ap value e ∙ value-decimal v

unfoldable pub NoDigit : List ℕ → Type 0
NoDigit l = digit (get_or l 0 0) ≡ false

digits_end :
    (d e a b : List ℕ) → every digit d ≡ true → every digit e ≡ true → NoDigit a → NoDigit b → d ++ a ≡ e ++ b → (d ≡ e) × (a ≡ b)
unfolding every NoDigit
digits_end [] [] a b p q s t h = (refl, h)
digits_end [] (y ∷ e) a b p q s t h = absurd (false≢true (sym (rw h at s) ∙ (both (digit y) _ q).0))
digits_end (x ∷ d) [] a b p q s t h = absurd (false≢true (sym (rw (← h) at t) ∙ (both (digit x) _ p).0))
digits_end (x ∷ d) (y ∷ e) a b p q s t h =
    let same : x ≡ y = cc in
    let rest : d ++ a ≡ e ++ b = cc in
    let r = digits_end d e a b (both (digit x) _ p).1 (both (digit y) _ q).1 s t rest in
    (rw (same, r.0), r.1)

pub decimal-ends : (u v : ℕ) (a b : List ℕ) → NoDigit a → NoDigit b → decimal u ++ a ≡ decimal v ++ b → (u ≡ v) × (a ≡ b)
decimal-ends u v a b s t h =
    let r = digits_end (decimal u) (decimal v) a b (decimal-digits u) (decimal-digits v) s t h in (decimal_injective u v r.0, r.1)

pub decimal-length : (k v : ℕ) → v < 10 ^ suc k → length (decimal v) ≤ suc k
decimal-length zero v h = rw (decimal_one v (omega (arith, rw pow-suc at h))) (omega arith)
decimal-length (suc k) v h =
    ⊎_elim
    (λ (l : v < 10). rw (decimal_one v l) (omega arith))
    (λ (l : 10 ≤ v).
    let less : v / 10 < 10 ^ suc k = (div-lt_iff_lt-mul (lit< tt)).1 (rw pow-suc at h) in
    rw (decimal-more v l, length-append) (omega (arith, decimal-length k (v / 10) less)))
    (below_or_not v 10)

pub decimal_64 : (v : ℕ) → v < 18446744073709551616 → length (decimal v) ≤ 20
decimal_64 v h = decimal-length 19 v (omega arith)

pub length-said : (w : List ℕ) (v : ℕ) → length (said w v) ≡ length w + length (decimal v)
unfolding said
length-said w v = length-append w (decimal v)
