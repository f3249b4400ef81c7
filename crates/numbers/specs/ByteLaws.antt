-- Laws of numbers in bytes, over any width k and any row of entries.
--     Bytes t                 every entry of t is a byte
--     number_same             the number at i is a matter of the k bytes from i on
--     number-after            a number behind a prefix
--     number-within           a number before a suffix
--     number-four             a number of four bytes, as a sum
--     number_digits           the k bytes of v < 256 ^ k read back as v, wherever they stand; number-digits-at: with the place by name
--     digits_number           the bytes of the number read at i are the k bytes from i on
--     length_digits, length-entries
--     entries-same            equal rows have equal entries
--     byte-entries, number-entries    what stands in entry i of entries of one size
--     entries-parts           a part of a list is the entries that it is cut into
use Prim.Native.Nat.{ℕ, zero, suc, ◌+◌, ◌*◌, ◌/◌, ◌%◌, ◌^◌, ◌≤◌, ◌<◌}
use Rattle.std.proofs.Math.Nat.{div-add-mod, pow-zero}
use Rattle.std.proofs.Common.{div-lt_iff_lt-mul, pow-suc, add-zero, add-suc, suc-add, zero-add, add_assoc, mul-zero, mul-suc, not-suc-le-zero, eq-or-lt_of_le, le_of_suc-le-suc, one-add, arith, ap, ◌∙◌, ⊎_elim, length-append, lit<, drop-cons, take-add, drop-drop}
use Rattle.std.proofs.Math.Numerals.{towards_suc}
use Rattle.std.specs.Prelude.{◌≡◌, refl, length, take, drop}
use Rattle.std.proofs.Math.Path.{sym}
use mathlib.Core.List.{List, ◌∷◌, ◌++◌, append_assoc}
use Rattle.std.proofs.Math.ListN.{get_or-append}
use Rattle.std.proofs.Math.Seq.{get_or-append-add}
use Rattle.numbers.specs.Bytes.{byte, number, digits, entries}

unfoldable pub Bytes : List ℕ → Type 0
Bytes t = (i : ℕ) → byte t i < 256

pub number_same : (k : ℕ) (t u : List ℕ) (i j : ℕ) → ((d : ℕ) → d < k → byte t (i + d) ≡ byte u (j + d)) → number k t i ≡ number k u j
unfolding number
number_same zero t u i j h = refl
number_same (suc k) t u i j h =
    let e : byte t i ≡ byte u j = simp add-zero at (h 0 (omega arith)) in
    let f : number k t (suc i) ≡ number k u (suc j) =
    number_same k t u (suc i) (suc j) (λ d l. rw (suc-add, suc-add, ← (add-suc i d), ← (add-suc j d)) (h (suc d) (omega arith))) in
    cc

pub number-after : (k : ℕ) (pre t : List ℕ) (i : ℕ) → number k (pre ++ t) (length pre + i) ≡ number k t i
unfolding byte
number-after k pre t i = number_same k (pre ++ t) t (length pre + i) i (λ d l. rw (add_assoc, get_or-append-add))

pub number-within : (k : ℕ) (t post : List ℕ) (i : ℕ) → i + k ≤ length t → number k (t ++ post) i ≡ number k t i
unfolding byte
number-within k t post i h = number_same k (t ++ post) t i i (λ d l. get_or-append t post 0 (i + d) (omega arith))

pub number-four : (t : List ℕ) (i : ℕ) → number 4 t i ≡ byte t i + 256 * byte t (i + 1) + 65536 * byte t (i + 2) + 16777216 * byte t (i + 3)
unfolding number
number-four t i = simp towards_suc (omega arith)

pub length_digits : (k v : ℕ) → length (digits k v) ≡ k
unfolding digits
length_digits zero v = refl
length_digits (suc k) v = ap suc (length_digits k (v / 256))

-- the bytes of v read back, alone
number_alone : (k v : ℕ) → v < 256 ^ k → number k (digits k v) 0 ≡ v
unfolding number digits byte
number_alone zero v h = omega (arith, rw pow-zero at h)
number_alone (suc k) v h =
    let q : v / 256 < 256 ^ k = (div-lt_iff_lt-mul (lit< tt)).1 (rw pow-suc at h) in
    let e : number k (v % 256 ∷ digits k (v / 256)) 1 ≡ v / 256 =
    number_same k (v % 256 ∷ digits k (v / 256)) (digits k (v / 256)) 1 0 (λ d l. rw (one-add, zero-add)) ∙ number_alone k (v / 256) q in
    omega (arith, e, div-add-mod v 256)

pub number_digits : (k v : ℕ) (pre post : List ℕ) → v < 256 ^ k → number k (pre ++ (digits k v ++ post)) (length pre) ≡ v
number_digits k v pre post h =
    ap (number k (pre ++ (digits k v ++ post))) (sym (add-zero (length pre)))
    ∙ number-after k pre (digits k v ++ post) 0
    ∙ number-within k (digits k v) post 0 (omega (arith, length_digits k v))
    ∙ number_alone k v h

pub number-digits-at :
    (k v : ℕ) (pre post : List ℕ) (i : ℕ) → length pre ≡ i → v < 256 ^ k → number k (pre ++ (digits k v ++ post)) i ≡ v
number-digits-at k v pre post i e h = ap (number k (pre ++ (digits k v ++ post))) (sym e) ∙ number_digits k v pre post h

pub digits_number : (k : ℕ) (t : List ℕ) (i : ℕ) → Bytes t → i + k ≤ length t → digits k (number k t i) ≡ take k (drop i t)
unfolding number digits Bytes byte
digits_number zero t i h l = refl
digits_number (suc k) t i h l =
    let low : (byte t i + 256 * number k t (suc i)) % 256 ≡ byte t i = omega (arith, h i) in
    let high : (byte t i + 256 * number k t (suc i)) / 256 ≡ number k t (suc i) = omega (arith, h i) in
    let rest : digits k (number k t (suc i)) ≡ take k (drop (suc i) t) = digits_number k t (suc i) h (omega arith) in
    rw (low, high, rest, drop-cons t i 0 (omega arith))

-- entries of one size k
module _ (k : ℕ) (f : ℕ → List ℕ) (size : (i : ℕ) → length (f i) ≡ k) where
  pub length-entries : (n : ℕ) → length (entries f n) ≡ k * n
  unfolding entries
  length-entries zero = sym (mul-zero k)
  length-entries (suc n) = rw (length-append, size n, length-entries n, mul-suc)

  byte_last : (n j : ℕ) (rest : List ℕ) → j < k → byte (entries f n ++ (f n ++ rest)) (k * n + j) ≡ byte (f n) j
  unfolding byte
  byte_last n j rest h =
      rw (← (length-entries n), get_or-append-add, get_or-append (f n) rest 0 j (omega (arith, size n)))

  pub byte-entries : (n i j : ℕ) (rest : List ℕ) → i < n → j < k → byte (entries f n ++ rest) (k * i + j) ≡ byte (f i) j
  unfolding entries
  byte-entries zero i j rest l h = absurd (not-suc-le-zero l)
  byte-entries (suc n) i j rest l h =
      rw append_assoc
      (⊎_elim (λ (e : i ≡ n). rw e (byte_last n j rest h)) (λ (lt : i < n). byte-entries n i j (f n ++ rest) lt h)
      (eq-or-lt_of_le (le_of_suc-le-suc l)))

  -- w bytes from j on, within entry i
  pub number-entries : (w n i j : ℕ) (rest : List ℕ) → i < n → j + w ≤ k → number w (entries f n ++ rest) (k * i + j) ≡ number w (f i) j
  number-entries w n i j rest l h =
      number_same w (entries f n ++ rest) (f i) (k * i + j) j
      (λ d m. rw add_assoc (byte-entries n i (j + d) rest l (omega arith)))

pub entries-same : (f g : ℕ → List ℕ) (n : ℕ) → ((i : ℕ) → i < n → f i ≡ g i) → entries f n ≡ entries g n
unfolding entries
entries-same f g zero h = refl
entries-same f g (suc n) h =
    let below : entries f n ≡ entries g n = entries-same f g n (λ i l. h i (omega arith)) in
    let here : f n ≡ g n = h n (omega arith) in
    cc

pub entries-parts : (k at n : ℕ) (t : List ℕ) → entries (λ i. take k (drop (at + k * i) t)) n ≡ take (k * n) (drop at t)
unfolding entries
entries-parts k at zero t = rw mul-zero
entries-parts k at (suc n) t =
    rw (entries-parts k at n t, mul-suc, take-add, drop-drop)
