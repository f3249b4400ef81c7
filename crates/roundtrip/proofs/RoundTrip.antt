-- From bytes to a plan and back, and from a plan to bytes and back, with the theorems of JudgedBack and SameBack.
--     judged-again      a plan that was judged, written and judged again is that plan
--     write_accepts     with room for its bytes a plan is written exactly if it meets none of its numbers
--     table-again       the plan of an accepted table, handed to `write` with room for it, leaves the table and then the buffer's later bytes
--     plan-again        handed to `judge`, they are accepted as the same plan, with zeros in its unused places
use Rattle.std.specs.Prelude.{Ok, Err, ℕ, ◌≤◌, ◌≡◌, List, ◌++◌, ◌↔◌, length, drop}
use Rattle.std.proofs.Math.Path.{refl, sym}
use Rattle.std.proofs.Common.{ap, ap₂, ◌∙◌, take_at, le-ltb}
use Rattle.tasks.specs.declared.Plan.{Plan}
use Rattle.tasks.specs.Answer.{Answer, Accepted}
use Rattle.tasks.specs.Content.{counted_of, content_of, tidy, Same}
use Rattle.tasks.specs.Tests.{or_next, first_met, test_plan}
use Rattle.tasks.specs.AnswerLaws.{first_met-passed}
use Rattle.codec.specs.Table.{content_in, verdict, bytes_of}
use Rattle.table.specs.Judged.{judged_as, counted_in, judged}
use Rattle.writer.specs.Written.{write_test, written_length, written_to}
use Rattle.numbers.specs.ByteLaws.{Bytes}
pub use Rattle.roundtrip.specs.Left.{left_by}
pub use Rattle.roundtrip.proofs.JudgedBack.{rewritten, judged-fits, judged-passes, judged-tidy, plan-back, verdict-back, judged-back}
use Rattle.roundtrip.proofs.JudgedBack.{judged-rewritten}
use Rattle.roundtrip.proofs.SameBack.{same_back}

-- an accepted table's judgement
judged-accepted : (t : List ℕ) → verdict t ≡ Accepted → judged t ≡ judged_as Accepted (judged t).plan (counted_of (content_in t))
unfolding judged counted_in
judged-accepted t a = rw a

pub judged-again : (t : List ℕ) → verdict t ≡ Accepted → judged (bytes_of (content_of (judged t).plan)) ≡ judged t
judged-again t a =
    judged-back (judged t).plan (judged-passes t a)
    ∙ ap₂ (judged_as Accepted) (judged-tidy t a) (ap counted_of (judged-fits t a))
    ∙ sym (judged-accepted t a)

-- ---- the calls: what `write` answers and leaves behind, and what `judge` answers to it

module _ (p : Plan) (room : ℕ) (fits : length (bytes_of (content_of p)) ≤ room) where
  roomy : write_test p room ≡ test_plan p
  unfolding write_test first_met
  roomy = rw (le-ltb room (length (bytes_of (content_of p))) fits) (last (test_plan p))
    where
      last : (b : Answer) → or_next b Accepted ≡ b
      last (Ok tt) = refl
      last (Err r) = refl

  pub write_accepts : (write_test p room ≡ Accepted) ↔ (test_plan p ≡ Accepted)
  write_accepts = (λ e. sym roomy ∙ e, λ e. roomy ∙ e)

-- "an accepted table is rewritten byte by byte", to any buffer that is long enough
module _ (t : List ℕ) (a : verdict t ≡ Accepted) (b : Bytes t) (out : List ℕ) (fits : length t ≤ length out) where
  pub table-again :
      (write_test (judged t).plan (length out) ≡ Accepted)
      × (written_length (judged t).plan (length out) ≡ length t)
      × (written_to (judged t).plan out ≡ t ++ drop (length t) out)
  unfolding written_length written_to
  table-again =
      let w = judged-rewritten t a b in
      let e : write_test (judged t).plan (length out) ≡ Accepted =
      roomy (judged t).plan (length out) (rw w fits) ∙ judged-passes t a in
      (e, rw (e, w), rw (e, w))

-- "a plan written reads back as that plan"
module _ (p : Plan) (out : List ℕ) (a : write_test p (length out) ≡ Accepted) where
  tested : test_plan p ≡ Accepted
  unfolding write_test
  tested = (first_met-passed (test_plan p) _ a).0

  left_are : left_by p out ≡ bytes_of (content_of p)
  unfolding left_by written_length written_to
  left_are = rw a (take_at (bytes_of (content_of p)) _ _ refl)

  pub plan-again : (judged (left_by p out) ≡ judged_as Accepted (tidy p) (counted_of (content_of p))) × Same p (judged (left_by p out)).plan
  plan-again = (rw left_are (judged-back p tested), rw left_are (same_back p tested))
