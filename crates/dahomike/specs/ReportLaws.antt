-- What is written of a plan, from its own arrays: the bytes of the content that it keeps.
--     Reported         a plan that keeps a content which meets none of 3 to 13
use Rattle.std.specs.Prelude.{ℕ, ◌≡◌, Bool, List}
use Rattle.std.proofs.Math.Bool.{true, false}
use Rattle.tasks.specs.declared.Plan.{Plan}
use Rattle.tasks.specs.Answer.{Accepted}
use Rattle.tasks.specs.Content.{Content, plan_of}
use Rattle.tasks.specs.Tests.{tests}
use Rattle.dahomike.specs.Answers.{report_bytes, found_bytes}

pub record Reported (c : Content) (p : Plan) : Type 0 where
  pub plan_is : p ≡ plan_of c
  pub passed : tests c ≡ Accepted

-- the bytes of all entries of a content
abbrev pub bytes_of : Bool → Content → List ℕ
bytes_of true c = found_bytes c
bytes_of false c = report_bytes c
