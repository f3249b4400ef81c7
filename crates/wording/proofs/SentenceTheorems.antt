-- What holds of the sentences, for all numbers: document 02, §2, sentence by sentence.
--     parsed               a sentence's parts, one behind the other
--     sentence_injective   "two refusals that differ in any of these, unknown ones too, never give the same sentence"
--     other-unknown, known_not_unknown    "A number outside the table … gets a sentence with the word `unknown`, and no other has it"
--     sentence_printed     no byte is a line break: each is printed
--     sentence_stop, one_stop    the last byte is a full stop, and no other is
--     pieces_short            how long its pieces are at most
--     sentence_short       how long a sentence is at most
use Rattle.std.specs.Prelude.{ℕ, ◌+◌, ◌≤◌, ◌<◌, true, not, ◌&&◌, ◌≡◌, refl, ◌⊎◌, List, [], ◌∷◌, ◌++◌, length, get_or, drop, eqb, leb}
use Rattle.std.proofs.lemmas.Bool.{false≢true, not-true, eqb-false}
use Rattle.std.proofs.Common.{sym, ap, ◌∙◌, ⊎_elim, inl, inr, append_assoc, append-nil, arith, length-append, le-leb, leb-true, ne_eqb}
use Rattle.std.proofs.lemmas.List.{append_cancel_left}
use Rattle.std.proofs.Math.ListN.{get_or-append}
use Rattle.std.proofs.Math.Seq.{get_or-append_seam}
use Rattle.laws.specs.First.{first}
use Rattle.laws.specs.Every.{every}
use Rattle.laws.specs.EveryLaws.{below_or_not, both, and_both, every_append, every-at}
use Rattle.decimal.specs.Decimal.{words, decimal, said, digit}
use Rattle.decimal.proofs.DecimalLaws.{NoDigit, decimal-ends, every-decimal, decimal-length, decimal_64, length-said}
use Rattle.wording.specs.Sentence.{wordings, last_known, Known, wording, sentence_of, longest}
use Rattle.wording.specs.WordingLaws.{apart, plain}
use Rattle.wording.proofs.WordingLaws.{others, between, place-apart, rule-apart, place-plain, rule-plain, place_short, rule-short}
use Rattle.wording.specs.LetterLaws.{StandsIn, letters, letters-append, letters-decimal, letters_stand, starts, has, stands-has, has-stands, stands-within}
use Rattle.wording.specs.SentenceTheorems.{bare, Pieces}

-- ---- no two alike

pub parsed :
    (k i v : ℕ)
    → sentence_of k i v ≡ words "Refusal " ++ (decimal k ++ ((wording k).place ++ (decimal i ++ ((wording k).rule ++ (decimal v ++ words ".")))))
unfolding sentence_of said
parsed k i v = simp append_assoc

no_digit : (w l : List ℕ) → apart w ≡ true → NoDigit (w ++ l)
unfolding apart NoDigit
no_digit [] l e = absurd (false≢true e)
no_digit (b ∷ w) l e = not-true (digit b) e

stop : NoDigit (words ".")
unfolding NoDigit digit words
stop = refl

pub sentence_injective : (k i v k' i' v' : ℕ) → sentence_of k i v ≡ sentence_of k' i' v' → (k ≡ k') × (i ≡ i') × (v ≡ v')
unfolding words
sentence_injective k i v k' i' v' e =
    let whole = ap (drop 8) (sym (parsed k i v) ∙ e ∙ parsed k' i' v') in
    let first = decimal-ends k k' _ _ (no_digit (wording k).place _ (place-apart k)) (no_digit (wording k').place _ (place-apart k')) whole in
    let placed = append_cancel_left (wording k').place _ _ (rw first.0 at first.1) in
    let second = decimal-ends i i' _ _ (no_digit (wording k').rule _ (rule-apart k')) (no_digit (wording k').rule _ (rule-apart k')) placed in
    let ruled = append_cancel_left (wording k').rule _ _ second.1 in
    (first.0, second.0, (decimal-ends v v' _ _ stop stop ruled).0)

-- ---- the word `unknown`

says-unknown : StandsIn (words "unknown") (wording 0).rule
unfolding words wording starts has
says-unknown = has-stands (words "unknown") (wording 0).rule refl

pub other-unknown : (k i v : ℕ) → (Known k → ⊥) → StandsIn (words "unknown") (sentence_of k i v)
unfolding sentence_of said
other-unknown k i v h =
    rw (others k h, ← append_assoc _ (wording 0).rule (decimal v), append_assoc _ (decimal v) (words "."))
    (stands-within (words "unknown") (wording 0).rule (said (words "Refusal ") k ++ said (wording 0).place i) (decimal v ++ words ".") says-unknown)

sentence_letters : (k i v : ℕ) → letters (sentence_of k i v) ≡ bare (wording k)
unfolding sentence_of said bare
sentence_letters k i v = simp (letters-append, letters-decimal, append-nil)

pub known_not_unknown : (k i v : ℕ) → Known k → StandsIn (words "unknown") (sentence_of k i v) → ⊥
unfolding words wording wordings first letters digit starts has bare
known_not_unknown k i v h s =
    let none = between (λ w. not (has (words "unknown") (bare w))) 1 last_known tt k h.0 (omega arith) in
    let there : StandsIn (words "unknown") (bare (wording k)) = rw sentence_letters at (letters_stand (words "unknown") (sentence_of k i v) refl s) in
    false≢true (sym (not-true _ none) ∙ stands-has (words "unknown") (bare (wording k)) there)

-- ---- one full stop, at the end, and no line break

-- a sentence without its full stop
abbrev body : ℕ → ℕ → ℕ → List ℕ
body k i v = said (words "Refusal ") k ++ said (wording k).place i ++ said (wording k).rule v

digit-plain : (d : ℕ) → d < 10 → plain (48 + d) ≡ true
unfolding plain
digit-plain d h =
    and_both _ _ (and_both _ _ (le-leb 32 (48 + d) (omega arith)) (le-leb (48 + d) 126 (omega arith))) (rw (ne_eqb (48 + d) 46 (λ e. omega arith)))

plain-parts : (b : ℕ) → plain b ≡ true → (32 ≤ b) × (b ≤ 126) × (b ≡ 46 → ⊥)
unfolding plain
plain-parts b e =
    let outer = both (leb 32 b && leb b 126) (not (eqb b 46)) e in
    let inner = both (leb 32 b) (leb b 126) outer.0 in
    (leb-true 32 b inner.0, leb-true b 126 inner.1, eqb-false b 46 (not-true (eqb b 46) outer.1))

said_plain : (w : List ℕ) (v : ℕ) → every plain w ≡ true → every plain (said w v) ≡ true
unfolding said
said_plain w v e = every_append plain w (decimal v) e (every-decimal plain digit-plain v)

body-plain : (k i v : ℕ) → every plain (body k i v) ≡ true
unfolding words every plain
body-plain k i v =
    let named = said (words "Refusal ") k in
    let placed = said (wording k).place i in
    every_append plain (named ++ placed) (said (wording k).rule v)
    (every_append plain named placed (said_plain (words "Refusal ") k refl) (said_plain (wording k).place i (place-plain k)))
    (said_plain (wording k).rule v (rule-plain k))

length-body : (k i v : ℕ) → length (sentence_of k i v) ≡ length (body k i v) + 1
unfolding sentence_of words
length-body k i v = length-append (body k i v) (46 ∷ [])

pub sentence_stop : (k i v j : ℕ) → j + 1 ≡ length (sentence_of k i v) → get_or (sentence_of k i v) j 0 ≡ 46
unfolding sentence_of words
sentence_stop k i v j e = let at : j ≡ length (body k i v) = omega (arith, length-body k i v) in rw at (get_or-append_seam (body k i v) 46 [] 0)

before-stop : (k i v j : ℕ) → j < length (body k i v) → plain (get_or (sentence_of k i v) j 0) ≡ true
unfolding sentence_of
before-stop k i v j h = rw (get_or-append (body k i v) (words ".") 0 j h) (every-at plain (body k i v) j (body-plain k i v) h)

stop_or_not : (k i v j : ℕ) → j < length (sentence_of k i v) → (j < length (body k i v)) ⊎ (j + 1 ≡ length (sentence_of k i v))
stop_or_not k i v j h =
    ⊎_elim
    (λ (l : j < length (body k i v)). inl l)
    (λ (l : length (body k i v) ≤ j). inr (omega (arith, length-body k i v)))
    (below_or_not j (length (body k i v)))

pub sentence_printed :
    (k i v j : ℕ) → j < length (sentence_of k i v) → (32 ≤ get_or (sentence_of k i v) j 0) × (get_or (sentence_of k i v) j 0 ≤ 126)
sentence_printed k i v j h =
    ⊎_elim
    (λ (l : j < length (body k i v)). let p = plain-parts _ (before-stop k i v j l) in (p.0, p.1))
    (λ (l : j + 1 ≡ length (sentence_of k i v)). rw (sentence_stop k i v j l) (omega arith, omega arith))
    (stop_or_not k i v j h)

pub one_stop : (k i v j : ℕ) → j < length (sentence_of k i v) → get_or (sentence_of k i v) j 0 ≡ 46 → j + 1 ≡ length (sentence_of k i v)
one_stop k i v j h e =
    ⊎_elim
    (λ (l : j < length (body k i v)). absurd ((plain-parts _ (before-stop k i v j l)).2 e))
    (λ (l : j + 1 ≡ length (sentence_of k i v)). l)
    (stop_or_not k i v j h)

-- ---- how long a sentence is

pub pieces_short : (k i v : ℕ) → k < 4294967296 → i < 4294967296 → v < 18446744073709551616 → Pieces k i v
pieces_short k i v h l m =
    record {
      number = decimal-length 9 k (omega arith);
      place = place_short k;
      index = decimal-length 9 i (omega arith);
      rule = rule-short k;
      value = decimal_64 v m;
    }

pub sentence_short : (k i v : ℕ) → k < 4294967296 → i < 4294967296 → v < 18446744073709551616 → length (sentence_of k i v) ≤ longest
unfolding words
sentence_short k i v h l m =
    rw (length-body, length-append, length-append, length-said, length-said, length-said) (omega (arith, pieces_short k i v h l m))
