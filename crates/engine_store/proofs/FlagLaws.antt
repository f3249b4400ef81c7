-- A flag's word is what std makes of the flag.
use Rattle.std.specs.Prelude.{Bool, true, false, ◌≡◌, refl}
use Rattle.std.specs.Int.{from_bool}
use Rattle.engine_words.specs.Words.{word_of_flag}

pub flag-from : (b : Bool) → from_bool b ≡ word_of_flag b
unfolding word_of_flag
flag-from true = refl
flag-from false = refl
