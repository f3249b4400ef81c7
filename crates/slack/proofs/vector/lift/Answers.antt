use Rattle.std.specs.Prelude.{Bool, true, false, cond, ◌≡◌, refl}
use Rattle.std.specs.Int.{from_bool}
use Rattle.slack.specs.Arrays.{lifted}
use Rattle.slack.proofs.vector.lift.Goals as goal

one_more : (b : Bool) → from_bool b ≡ cond b 1 0
one_more true = refl
one_more false = refl

pub returns : goal.returns
unfolding lifted
returns c = rw (c.saturating_sub.ensures, c.from.ensures, one_more)
