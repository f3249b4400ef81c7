-- `dahomike::dahomike_sentence` meets its contract: the answer by the cases of what came back, and the buffer as `sentence` leaves it.
use Prim.Native.Nat.{ℕ}
use mathlib.Core.Path.{◌≡◌, refl, ap, ◌∙◌}
use Rattle.std.specs.Prelude.{Result, Ok, Err}
use Rattle.tasks.specs.declared.refusal.Refusal.{Refusal}
use Rattle.wording.specs.Told.{answer_of_composed, length_of_composed, sentence_test, sentence_length}
use Rattle.dahomike_answer.specs.Number.{told_number}
use Rattle.dahomike.specs.Answers.{sentence_number}
use Rattle.dahomike.proofs.AnswerLaws.{told_length, told_refused}
use borrow.Author.Rules.{rules}
use Rattle.dahomike.proofs.dahomike_sentence.Goals as goal

told :
    (k i v room : ℕ) (r : Result ℕ Refusal) → answer_of_composed r ≡ sentence_test k i v room
    → length_of_composed r ≡ sentence_length k i v room → told_number r ≡ sentence_number k i v room
told k i v room (Ok n) q l = told_length k i v room (Ok n) q n refl l
told k i v room (Err o) q l = told_refused k i v room (Err o) q o.number o.index refl

pub returns : goal.returns
returns c =
    let s = c.sentence-told in
    let same : c.map.result ≡ s.result = search rules in
    (c.answer.ensures ∙ ap told_number same ∙ told _ _ _ _ s.result s.ensures.0 s.ensures.1, s.ensures.2)
