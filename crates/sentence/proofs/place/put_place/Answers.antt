-- `sentence::put_place` meets its contract: no words before the index are longer than 16 bytes.
use lib.ListN.{length}
use mathlib.Core.Path.{ap}
use native.Mathlib.Omega.{arith}
use Rattle.wording.proofs.WordingLaws.{place_short}
use Rattle.sentence.proofs.place.put_place.Goals as goal

pub put_words-requires : goal.put_words-requires
put_words-requires c = omega (arith, place_short c.args.number, ap length c.place_of.ensures)

pub returns : goal.returns
returns c = rw c.place_of.ensures at c.put_words.ensures
