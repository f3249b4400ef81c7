-- Sentences as theorems of the definition. Document 02 leaves the wording free, so their texts are ours; the refusals are those of document 01's tables.
--     Case, cases     a refusal and its sentence: P1 with the second budget 11, P4, a log tick that is too large, two loops
--                     on four cores on the way to the other edition, and two numbers that are not in the table, 0 among them
--     tells           whether the definition says that sentence
--     worked          it does in every case
use Rattle.std.specs.Prelude.{ℕ, Bool, true, ◌&&◌, List, [], ◌∷◌, T}
use Prim.Native.String.{String}
use Rattle.laws.specs.Every.{same_list}
use Rattle.decimal.specs.Decimal.{words, digits_in, decimal, said}
use Rattle.wording.specs.Sentence.{wordings, wording, sentence_of}

pub record Case : Type 0 where
  pub number : ℕ
  pub index : ℕ
  pub value : ℕ
  pub text : String

abbrev refused : ℕ → ℕ → ℕ → String → Case
refused k i v s = record { number = k; index = i; value = v; text = s }

pub cases : List Case
cases =
    refused 7 1 11 "Refusal 7 for loop 1: its budget must be at least 1 tick and at most its separation, not 11."
    ∷ refused 12 0 5 "Refusal 12 for loop 0: its slack must be compliant if it is offered and, if it is found, the smallest that is compliant, or 0 where loops are no more than cores, not 5."
    ∷ refused 15 12 1000000001 "Refusal 15 for entry 12: its tick must be at most 1,000,000,000, not 1000000001."
    ∷ refused 31 0 2 "Refusal 31 for loop 0 onwards: for a conversion the number of loops must be above the number of cores, not 2."
    ∷ refused 0 3 4 "Refusal 0 for place 3: the meaning of this number is unknown here, and the value found is 4."
    ∷ refused 99 0 0 "Refusal 99 for place 0: the meaning of this number is unknown here, and the value found is 0."
    ∷ []

pub tells : Case → Bool
tells c = same_list (sentence_of c.number c.index c.value) (words c.text)

pub tell_all : List Case → Bool
tell_all [] = true
tell_all (c ∷ l) = tells c && tell_all l

pub worked : T (tell_all cases)
unfolding cases tells tell_all same_list words digits_in decimal said wordings wording sentence_of
worked = tt
