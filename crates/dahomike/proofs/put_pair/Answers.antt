-- `dahomike::put_pair` meets its contract.
use mathlib.Core.List.{◌++◌, List}
use Prim.Native.Nat.{ℕ, ◌+◌}
use lib.Seq.{sets}
use Rattle.numbers.specs.Bytes.{digits}
use mathlib.Core.Path.{◌≡◌, ◌∙◌}
use Rattle.laws.specs.SetsLaws.{sets-next}
use Rattle.numbers.specs.ByteLaws.{length_digits}
use native.Mathlib.Omega.{arith}
use Rattle.dahomike.proofs.put_pair.Goals as goal

joined : (l u v : List ℕ) (at a b : ℕ) → u ≡ sets l at (digits 4 a) → v ≡ sets u (at + 4) (digits 4 b) → v ≡ sets l at (digits 4 a ++ digits 4 b)
joined l u v at a b e q = q ∙ rw e (sets-next l at (at + 4) (digits 4 a) (digits 4 b) (omega (arith, length_digits 4 a)))

pub returns : goal.returns
returns c = let a = c.args in joined a.out.now _ _ a.at a.of.slack a.of.bound c.put4.ensures c.put4-2.ensures
