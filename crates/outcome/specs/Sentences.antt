-- Document 02, §2, said a second time, of the bytes that `dahomike_sentence` leaves and of the number that it answers: in lent buffers of at least
-- 256 bytes, for numbers and indices of 32 bits and values of 64.
--     Handed          what a caller hands over: a number, an index, a value and the buffer's length
--     told_by          the bytes that are left, as many as the answer says
--     told_apart      two calls that leave the same told the same number, index and value
--     told_unknown    the word `unknown` stands among the bytes exactly if the number is not in the table
--     told_line       each byte is printed, and exactly the last is a full stop
use Rattle.std.specs.Prelude.{ℕ, ◌+◌, ◌≤◌, ◌<◌, ◌≡◌, refl, ◌↔◌, ◌⊎◌, List, length, get_or, take, drop}
use Rattle.std.proofs.Common.{sym, ◌∙◌, inl, inr, ⊎_elim, arith, take_at}
use Rattle.laws.specs.EveryLaws.{below_or_not}
use Rattle.decimal.specs.Decimal.{words}
use Rattle.wording.specs.Sentence.{last_known, sentence_of}
use Rattle.wording.specs.LetterLaws.{StandsIn}
use Rattle.wording.proofs.SentenceTheorems.{sentence_injective, other-unknown, known_not_unknown, sentence_printed, sentence_stop, one_stop}
use Rattle.wording.proofs.ComposeLaws.{room-enough}
use Rattle.wording.specs.Told.{sentence_leaves}
use Rattle.dahomike_answer.specs.Number.{answer_number}
use Rattle.dahomike.specs.Answers.{sentence_number}

pub record Handed (k i v room : ℕ) : Type 0 where
  pub number : k < 4294967296
  pub index : i < 4294967296
  pub value : v < 18446744073709551616
  pub enough : 256 ≤ room

abbrev pub told_by : ℕ → ℕ → ℕ → List ℕ → List ℕ
told_by k i v out = take (sentence_number k i v (length out)) (sentence_leaves k i v out)

told_is : (k i v : ℕ) (out : List ℕ) → Handed k i v (length out) → told_by k i v out ≡ sentence_of k i v
unfolding sentence_number answer_number sentence_leaves
told_is k i v out h =
    rw (room-enough k i v (length out) h.number h.index h.value h.enough)
    (take_at (sentence_of k i v) (drop (length (sentence_of k i v)) out) _ refl)

-- "two refusals that differ in any of these, unknown ones too, never give the same sentence"
pub told_apart :
    (k i v k' i' v' : ℕ) (out out' : List ℕ) → Handed k i v (length out) → Handed k' i' v' (length out')
    → told_by k i v out ≡ told_by k' i' v' out' → (k ≡ k') × (i ≡ i') × (v ≡ v')
told_apart k i v k' i' v' out out' h h' e =
    sentence_injective k i v k' i' v' (sym (told_is k i v out h) ∙ e ∙ told_is k' i' v' out' h')

module _ (k i v : ℕ) (out : List ℕ) (h : Handed k i v (length out)) where
  -- "A number outside the table … gets a sentence with the word `unknown`, and no other has it."
  pub told_unknown : StandsIn (words "unknown") (told_by k i v out) ↔ ((k < 1) ⊎ (last_known < k))
  told_unknown = rw (told_is k i v out h) (outside, within)
    where
      within : (k < 1) ⊎ (last_known < k) → StandsIn (words "unknown") (sentence_of k i v)
      within o = other-unknown k i v (λ n. ⊎_elim (λ (l : k < 1). omega (arith, n.0)) (λ (l : last_known < k). omega (arith, n.1)) o)

      outside : StandsIn (words "unknown") (sentence_of k i v) → (k < 1) ⊎ (last_known < k)
      outside s =
          ⊎_elim (λ (l : k < 1). inl l)
          (λ (low : 1 ≤ k).
          ⊎_elim (λ (l : last_known < k). inr l) (λ (high : k ≤ last_known). absurd (known_not_unknown k i v (low, high) s)) (below_or_not last_known k))
          (below_or_not k 1)

  pub told_line :
      (j : ℕ) → j < length (told_by k i v out)
      → (32 ≤ get_or (told_by k i v out) j 0)
      × (get_or (told_by k i v out) j 0 ≤ 126)
      × ((get_or (told_by k i v out) j 0 ≡ 46) ↔ (j + 1 ≡ length (told_by k i v out)))
  told_line =
      rw (told_is k i v out h)
      (λ j l. let p = sentence_printed k i v j l in (p.0, p.1, (one_stop k i v j l, sentence_stop k i v j)))
