-- `dahomike::dahomike_convert` meets its contract: the answer by the cases of what came back, and the buffer as `convert` leaves it.
use Prim.Native.Nat.{ℕ}
use mathlib.Core.List.{List}
use mathlib.Core.Path.{◌≡◌, refl, ap, ◌∙◌}
use Rattle.std.specs.Prelude.{Result, Ok, Err}
use Rattle.tasks.specs.declared.refusal.Refusal.{Refusal}
use Rattle.writer.specs.Written.{answer_of_written, length_of_written}
use Rattle.conversion.specs.Converted.{convert_test, converted_length}
use Rattle.dahomike_answer.specs.Number.{told_number}
use Rattle.dahomike.specs.Answers.{convert_number}
use Rattle.dahomike.proofs.AnswerLaws.{written_length_lem, written_refused}
use borrow.Author.Rules.{rules}
use Rattle.dahomike.proofs.dahomike_convert.Goals as goal

told :
    (e : ℕ) (t : List ℕ) (room : ℕ) (r : Result ℕ Refusal) → answer_of_written r ≡ convert_test e t room
    → length_of_written r ≡ converted_length e t room → told_number r ≡ convert_number e t room
told e t room (Ok n) q l = written_length_lem e t room (Ok n) q n refl l
told e t room (Err o) q l = written_refused e t room (Err o) q o.number o.index refl

pub returns : goal.returns
returns c =
    let s = c.convert-written in
    let same : c.map.result ≡ s.result = search rules in
    (c.answer.ensures ∙ ap told_number same ∙ told _ _ _ s.result s.ensures.0 s.ensures.1, s.ensures.2)
