-- Laws of text that is stored piece by piece. `sets l i v` is l with v stored from i on.
--     words-put      words copied into their part of the buffer
--     words-next     one byte more of words that are copied
--     put_one        the digit of a number below 10
--     put-more       the last digit of any other behind its higher ones
--     put-behind     text v stored behind text u
use Rattle.std.specs.Prelude.{ℕ, ◌+◌, ◌/◌, ◌%◌, ◌≤◌, ◌<◌, ◌≡◌, refl, List, [], ◌∷◌, ◌++◌, length, get_or, set, take}
use Rattle.std.proofs.Common.{add-one, arith, sym, ◌∙◌, append_assoc, length-append, drop-drop, take-suc, length-take-le}
use Rattle.std.proofs.lemmas.List.Edits.{sets, sets-eq}
use borrow.Rule.Slice.PartMut.{put_mid}
use Rattle.laws.specs.SetsLaws.{sets-next}
use Rattle.decimal.specs.Decimal.{decimal, Stored}
use Rattle.decimal.proofs.DecimalLaws.{decimal_one, decimal-more, length_more}

pub words-put :
    (l u w : List ℕ) (at k : ℕ) → u ≡ w → k ≡ length w → at + length w ≤ length l → Stored l at w (at + length w) (put_mid at k l u)
words-put l u w at k e q h =
    record { place = refl; left = rw (e, q, drop-drop (length w) at l) (sym (sets-eq w l at h ∙ append_assoc (take at l) w _)) }

pub words-next :
    (l u w : List ℕ) (at i : ℕ) → u ≡ sets l at (take i w) → i < length w → set u (at + i) (get_or w i 0) ≡ sets l at (take (i + 1) w)
words-next l u w at i e h =
    rw (e, add-one, take-suc w i 0 h)
    (sets-next l at (at + i) (take i w) (get_or w i 0 ∷ []) (omega (arith, length-take-le i w (omega arith))))

pub put_one : (l : List ℕ) (at v : ℕ) → v < 10 → Stored l at (decimal v) (at + 1) (set l at (48 + v))
put_one l at v h = rw (decimal_one v h) (record { place = refl; left = refl })

pub put-more :
    {l u : List ℕ} {at last : ℕ} (v : ℕ) → 10 ≤ v → Stored l at (decimal (v / 10)) last u
    → Stored l at (decimal v) (last + 1) (set u last (48 + v % 10))
put-more {l} {u} {at} {last} v h s =
    record {
      place = omega (arith, length_more v h, s.place);
      left = rw (s.left, decimal-more v h) (sets-next l at last (decimal (v / 10)) ((48 + v % 10) ∷ []) s.place);
    }

pub put-behind :
    {l l₁ l₂ u v : List ℕ} {at from end : ℕ} → Stored l at u from l₁ → Stored l₁ from v end l₂ → Stored l at (u ++ v) end l₂
put-behind {l} {l₁} {l₂} {u} {v} {at} {from} {end} s r =
    record {
      place = omega (arith, length-append u v, s.place, r.place);
      left = rw (r.left, s.left) (sets-next l at from u v s.place);
    }
