-- What an answer about words that fit says of them.
--     fit_told, misfit_told     they fit; they do not, and the number is that of 18
use Rattle.std.specs.Prelude.{Err, Bool, not, ◌≡◌, refl}
use Rattle.std.proofs.Common.{ap}
use Rattle.std.proofs.Math.Bool.{true, false}
use Rattle.tasks.specs.declared.refusal.Refusal.{Refusal}
use Rattle.tasks.specs.Answer.{Answer, Accepted, Refused}
use Rattle.tasks.specs.Tests.{refuse}
use Rattle.dahomike_answer.specs.Number.{answer_number}

-- words that fit, and words that do not, by what was answered of them
pub fit_told : (b : Bool) → Accepted ≡ refuse 18 (not b) → b ≡ true
fit_told true e = refl
fit_told false e = cc

pub misfit_told : (b : Bool) (q : Refusal) → Err q ≡ refuse 18 (not b) → (b ≡ false) × (answer_number (Err q) 0 ≡ answer_number (Refused 18 0) 0)
misfit_told true q e = cc
misfit_told false q e = (refl, ap (λ (b : Answer). answer_number b 0) e)
