-- What the theorems on the sentences speak of.
--     bare                 what a sentence has without its digits
--     Pieces               how long its pieces are at most
use Rattle.std.specs.Prelude.{ℕ, ◌≤◌, List, ◌++◌, length}
use Rattle.decimal.specs.Decimal.{words, decimal}
use Rattle.wording.specs.Sentence.{Wording, wording}
use Rattle.wording.specs.LetterLaws.{letters}

-- what a sentence has without its digits
unfoldable pub bare : Wording → List ℕ
bare w = letters (words "Refusal ") ++ letters w.place ++ letters w.rule ++ letters (words ".")

-- numbers and words of a sentence are no longer than this, where number and index have 32 bits and the value 64
pub record Pieces (k i v : ℕ) : Type 0 where
  pub number : length (decimal k) ≤ 10
  pub place : length (wording k).place ≤ 16
  pub index : length (decimal i) ≤ 10
  pub rule : length (wording k).rule ≤ 160
  pub value : length (decimal v) ≤ 20
