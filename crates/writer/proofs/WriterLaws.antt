-- The writer's answer and the bytes that it leaves behind, from what its code has seen.
--     write_refused    1, 3 to 13 and 28, write_short 24, write_done the bytes written
--     plan-few         a plan past these fits its arrays
use Rattle.tasks.specs.declared.refusal.Refusal.{Refusal}
use Rattle.std.specs.Prelude.{ℕ, ◌≤◌, ◌<◌, ◌≡◌, List, ◌++◌, length, drop, Result}
use borrow.Author.Tests.{lt-ltb, le-ltb}
use Rattle.tasks.specs.declared.Plan.{Plan}
use Rattle.tasks.specs.Answer.{Accepted, Refused}
use Rattle.tasks.specs.Content.{content_of}
use Rattle.tasks.specs.Tests.{first_met, test_plan}
use Rattle.tasks.proofs.TestsLaws.{tests-limits, plan-passed}
use Rattle.codec.specs.Table.{bytes_of}
use Rattle.writer.specs.Written.{answer_of_written, length_of_written, write_test, written_length, written_to}
use Rattle.writer.specs.WriterLaws.{Writes}

module _ (p : Plan) (out : List ℕ) (r : Result ℕ Refusal) where
  stopped : (k i : ℕ) → write_test p (length out) ≡ Refused k i → answer_of_written r ≡ Refused k i → length_of_written r ≡ 0 → Writes p out r out
  unfolding written_length written_to
  stopped k i e a l = (rw (e, a), rw (e, l), rw e)

  pub write_refused : (k i : ℕ) → test_plan p ≡ Refused k i → answer_of_written r ≡ Refused k i → length_of_written r ≡ 0 → Writes p out r out
  unfolding write_test first_met
  write_refused k i e = stopped k i (rw e)

  module _ (e : test_plan p ≡ Accepted) where
    pub write_short :
        length out < length (bytes_of (content_of p)) → answer_of_written r ≡ Refused 24 0 → length_of_written r ≡ 0 → Writes p out r out
    unfolding write_test first_met
    write_short h = stopped 24 0 (rw (e, lt-ltb (length out) (length (bytes_of (content_of p))) h))

    pub write_done :
        (after : List ℕ) → length (bytes_of (content_of p)) ≤ length out
        → answer_of_written r ≡ Accepted → length_of_written r ≡ length (bytes_of (content_of p))
        → after ≡ bytes_of (content_of p) ++ drop (length (bytes_of (content_of p))) out
        → Writes p out r after
    unfolding write_test first_met written_length written_to
    write_done after h a l w =
        let q : write_test p (length out) ≡ Accepted = rw (e, le-ltb (length out) (length (bytes_of (content_of p))) h) in
        (rw (q, a), rw (q, l), rw q w)

pub plan-few : (p : Plan) → test_plan p ≡ Accepted → (p.cores ≤ 8) × (p.tasks ≤ 16)
unfolding content_of
plan-few p e = let L = tests-limits (content_of p) (plan-passed p e).1 in (L.cores-high, L.tasks-high)
