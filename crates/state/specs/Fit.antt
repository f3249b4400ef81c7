-- What soundness means for a machine, and the lengths of a state's arrays, which every value of its type has.
--     Shaped s     the arrays' lengths; length_mapped: a list is as long as what is made of its elements
--     Fit p M      the plan p and the machine M are those of a sound state
use Rattle.std.specs.Prelude.{ℕ, ◌≤◌, ◌≡◌, List, map, length}
use Rattle.std.proofs.Common.{sym, ◌∙◌}
use Rattle.std.proofs.lemmas.List.{length-map}
use Rattle.tasks.specs.declared.Plan.{Plan}
use Rattle.tasks.specs.Answer.{Accepted}
use Rattle.tasks.specs.Content.{content_of, tidy}
use Rattle.tasks.specs.Tests.{test_plan}
use Rattle.machine.specs.Machine.{Machine}
use Rattle.machine.specs.Sound.{Sound}
use Rattle.state.specs.declared.State.{State}

pub length_mapped : (X Y : Type 0) (f : X → Y) (l : List X) (n : ℕ) → length (map f l) ≡ n → length l ≡ n
length_mapped X Y f l n e = sym (length-map l f) ∙ e

pub record ShapedPlan (p : Plan) : Type 0 where
  pub labels : length p.labels ≡ 8
  pub task : length p.task ≡ 16
  pub slack : length p.slack ≡ 16

pub record Shaped (s : State) : Type 0 where
  pub plan : ShapedPlan s.plan
  pub jobs : length s.jobs ≡ 16
  pub released : length s.released ≡ 16
  pub last : length s.last ≡ 16
  pub remaining : length s.remaining ≡ 256
  pub release : length s.release ≡ 256

pub record Fit (p : Plan) (M : Machine) : Type 0 where
  -- "its table part passes 3 to 13", with zeros in its unused places
  pub accepted : test_plan p ≡ Accepted
  pub tidied : tidy p ≡ p
  -- "its clock is at most 4,000,000,000"
  pub clock-high : M.clock ≤ 4000000000
  -- "each loop holds 0 to 16 jobs"
  pub holds : (i : ℕ) → length (M.lane i).queue ≤ 16
  -- the clauses on releases and remaining work, and nothing held for a loop that isn't in the table
  pub sound : Sound (content_of p).tasks M
