-- `numbers::put4` meets its contract.
use native.Mathlib.Omega.{arith}
use Prim.Native.Nat.{ℕ, ◌+◌, ◌≤◌}
use mathlib.Core.List.{List}
use mathlib.Core.Path.{◌≡◌, sym, ◌∙◌}
use lib.ListN.{length, take}
use Rattle.std.proofs.Common.{append_assoc, drop-drop}
use Rattle.std.proofs.Math.Nat.{div-div-eq-div-mul}
use Rattle.std.proofs.lemmas.List.Edits.{sets, sets-eq}
use borrow.Rule.Slice.PartMut.{put_mid}
use Rattle.std.specs.Int.{w32, to_le_bytes}
use Rattle.numbers.specs.Bytes.{digits}
use Rattle.numbers.specs.ByteLaws.{length_digits}
use Rattle.numbers.proofs.put4.Goals as goal

-- four bytes written over the part of the buffer that begins at `at`
put-part : (l u : List ℕ) (at k : ℕ) → k ≡ length u → at + length u ≤ length l → put_mid at k l u ≡ sets l at u
put-part l u at k q h = rw (q, drop-drop (length u) at l) (sym (sets-eq u l at h ∙ append_assoc (take at l) u _))

four : (v : ℕ) → to_le_bytes w32 v ≡ digits 4 v
unfolding digits
four v = rw (div-div-eq-div-mul v 256 256, div-div-eq-div-mul v 65536 256)

pub returns : goal.returns
returns c =
    let a = c.args in
    let bytes = c.copy_from_slice.ensures.after ∙ c.to_le_bytes.ensures ∙ four a.v in
    rw bytes (put-part a.out.now (digits 4 a.v) a.at _ (omega (arith, length_digits 4 a.v)) (omega (arith, length_digits 4 a.v)))
