-- What `sentence` answers and leaves behind, from what its code has seen: the sentence stands at the beginning of an array that it fits.
--     text-length     it ends within the array
--     text_is         it is what stands before its end
--     sentence_refused, sentence_done    25 where the lent buffer is shorter, else the length and the sentence
--     room-enough     a buffer as long as the longest sentence is never refused
use Rattle.std.specs.Prelude.{ℕ, ◌≤◌, ◌<◌, ◌≡◌, List, length, drop, take}
use Rattle.std.proofs.Common.{sym, ◌∙◌, zero-add, arith, take_at}
use Rattle.std.proofs.lemmas.List.Edits.{sets}
use Rattle.std.proofs.Math.Seq.{length-sets}
use borrow.Author.Tests.{lt-ltb, le-ltb}
use Rattle.laws.specs.SetsLaws.{sets-whole}
use Rattle.tasks.specs.Answer.{Accepted, Refused}
use Rattle.decimal.specs.Decimal.{Stored}
use Rattle.wording.specs.Sentence.{sentence_of, longest}
use Rattle.wording.proofs.SentenceTheorems.{sentence_short}
use Rattle.wording.specs.Told.{sentence_test, sentence_length, sentence_leaves}

module _ (k i v : ℕ) {l text : List ℕ} {n : ℕ} (fits : length (sentence_of k i v) ≤ length l) (s : Stored l 0 (sentence_of k i v) n text) where
  length_is : n ≡ length (sentence_of k i v)
  length_is = s.place ∙ zero-add (length (sentence_of k i v))

  pub text-length : n ≤ length text
  text-length = rw s.left (omega (arith, length-sets l 0 (sentence_of k i v), length_is))

  pub text_is : take n text ≡ sentence_of k i v
  text_is = rw (s.left, sets-whole l (sentence_of k i v) fits) (take_at (sentence_of k i v) (drop (length (sentence_of k i v)) l) n (sym length_is))

  pub sentence_refused :
      (out : List ℕ) → length out < n
      → (Refused 25 0 ≡ sentence_test k i v (length out)) × (0 ≡ sentence_length k i v (length out)) × (out ≡ sentence_leaves k i v out)
  unfolding sentence_test sentence_length sentence_leaves
  sentence_refused out h =
      let e = lt-ltb (length out) (length (sentence_of k i v)) (omega (arith, length_is)) in (rw e, rw e, rw e)

  pub sentence_done :
      (out : List ℕ) → n ≤ length out
      → (Accepted ≡ sentence_test k i v (length out))
      × (n ≡ sentence_length k i v (length out))
      × (sets out 0 (take n text) ≡ sentence_leaves k i v out)
  unfolding sentence_test sentence_length sentence_leaves
  sentence_done out h =
      let e = le-ltb (length out) (length (sentence_of k i v)) (omega (arith, length_is)) in
      (rw e, rw e length_is, rw (e, text_is) (sets-whole out (sentence_of k i v) (omega (arith, length_is))))

pub room-enough :
    (k i v room : ℕ) → k < 4294967296 → i < 4294967296 → v < 18446744073709551616 → longest ≤ room → sentence_test k i v room ≡ Accepted
unfolding sentence_test
room-enough k i v room h l m r = rw (le-ltb room (length (sentence_of k i v)) (omega (arith, sentence_short k i v h l m)))
