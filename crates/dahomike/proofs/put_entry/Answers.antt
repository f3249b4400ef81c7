-- `dahomike::put_entry` meets its contract.
use mathlib.Core.Bool.{Bool, true}
use mathlib.Core.List.{◌++◌, List}
use mathlib.Core.Path.{◌≡◌, ◌∙◌}
use Prim.Native.Nat.{ℕ, ◌+◌, ◌*◌}
use lib.Seq.{sets}
use Rattle.laws.specs.SetsLaws.{sets-next}
use Rattle.numbers.specs.Bytes.{digits}
use Rattle.numbers.specs.ByteLaws.{length_digits}
use Rattle.dahomike.specs.Answers.{entry_size, entry_bytes}
use native.Mathlib.Omega.{arith}
use Rattle.dahomike.proofs.put_entry.Goals as goal

joined :
    (w : Bool) (l u v : List ℕ) (i a b c : ℕ) → w ≡ true → u ≡ sets l (12 * i) (digits 4 a)
    → v ≡ sets u (12 * i + 4) (digits 4 b ++ digits 4 c) → v ≡ sets l (entry_size w * i) (entry_bytes w a b c)
joined w l u v i a b c t e q =
    rw t (q ∙ rw e (sets-next l (12 * i) (12 * i + 4) (digits 4 a) (digits 4 b ++ digits 4 c) (omega (arith, length_digits 4 a))))

pub returns-then-wishes : goal.returns-then-wishes
returns-then-wishes c = let a = c.args in
    joined a.wishes a.out.now _ _ a.i a.of.offset a.of.slack a.of.bound c.if-wishes.true c.put4.ensures c.put_pair.ensures
