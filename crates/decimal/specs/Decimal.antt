-- Text as bytes: fixed words and numbers in decimal. "All times are whole ticks and all numbers decimal."
--     words       the ASCII bytes of a quoted text
--     decimal v   the ASCII digits of v, the highest first, without leading zeros; 0 is the one digit 0
--     said w v    words and the number after them
--     digit b     whether a byte is a digit
--     value l     the number that a row of digits stands for
--     Stored      what a call leaves that stores text in a lent buffer
use Rattle.std.specs.Prelude.{ℕ, zero, suc, ◌+◌, ◌-◌, ◌*◌, ◌/◌, ◌%◌, ◌≡◌, Bool, true, false, ◌&&◌, List, [], ◌∷◌, ◌++◌, length, ltb, leb}
use Prim.Native.Char.{code}
use Prim.Native.String.{String, [] as empty, ◌∷◌ as ◌then◌}
use Rattle.std.proofs.lemmas.List.Edits.{sets}

unfoldable pub words : String → List ℕ
words empty = []
words (c then s) = code c ∷ words s

-- nothing where the number has one digit, else what g makes of the number without its last digit
abbrev pub higher : Bool → (ℕ → List ℕ) → ℕ → List ℕ
higher true g q = []
higher false g q = g q

-- the digits of v, of which there are at most so many
unfoldable pub digits_in : ℕ → ℕ → List ℕ
digits_in zero v = []
digits_in (suc f) v = higher (ltb v 10) (digits_in f) (v / 10) ++ (48 + v % 10) ∷ []

-- a number has no more digits than it counts, and one where it is 0
unfoldable pub decimal : ℕ → List ℕ
decimal v = digits_in (suc v) v

unfoldable pub said : List ℕ → ℕ → List ℕ
said w v = w ++ decimal v

unfoldable pub digit : ℕ → Bool
digit b = leb 48 b && leb b 57

-- the number that begins as a, read on
unfoldable pub read_on : ℕ → List ℕ → ℕ
read_on a [] = a
read_on a (d ∷ l) = read_on (10 * a + (d - 48)) l

unfoldable pub value : List ℕ → ℕ
value l = read_on 0 l

-- text u is stored in the buffer l from `at` on: `end` is the place after it, and the buffer l' has no other byte changed
pub record Stored (l : List ℕ) (at : ℕ) (u : List ℕ) (end : ℕ) (l' : List ℕ) : Type 0 where
  pub place : end ≡ at + length u
  pub left : l' ≡ sets l at u
