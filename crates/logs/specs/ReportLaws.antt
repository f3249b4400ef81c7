-- Laws of the answer's bytes, which may be written in any order of the entries.
--     length-report      a report is eight bytes
--     byte-stored        what stands where v was stored; byte-before, byte-after: and before and after it
--     Said out e r       the eight bytes of out that are entry e's are those of r
--     said_here          a report stored in its place is said there
--     said-other         and the reports of other entries stay
--     said-length        the length stays
--     said-beyond        the bytes past it stay
--     said_all           where the first n reports are said and later bytes are as they were, the answer is the document's
use Rattle.std.specs.Prelude.{ℕ, zero, suc, ◌+◌, ◌*◌, ◌-◌, ◌/◌, ◌%◌, ◌≤◌, ◌<◌, ◌≡◌, Bool, List, [], ◌∷◌, ◌++◌, set}
use Rattle.std.proofs.Common.{add-zero, add-suc, suc-add, not-suc-le-zero, ◌∙◌, length-append, length-drop, length-set, get_or-set_same, get_or-set_other}
use native.Mathlib.Omega.{arith}
use Rattle.std.proofs.Math.Path.{refl, sym, ap}
use Rattle.std.proofs.Math.Bool.{true, false}
use Rattle.std.proofs.Math.ListN.{length, drop}
use Rattle.std.proofs.Math.Dec.{ltb}
use Rattle.std.proofs.lemmas.List.Edits.{sets}
use Rattle.std.proofs.Math.Seq.{length-sets, ext_get_or, get_or-append-add, get_or-drop}
use borrow.Author.Tests.{ltb-true, ltb-false}
use Rattle.history.specs.Report.{Report, finished, refusal}
use Rattle.numbers.specs.Bytes.{byte, digits, entries}
use Rattle.numbers.specs.ByteLaws.{length-entries, byte-entries}
use Rattle.logs.specs.LogBytes.{report_bytes, reports_to}

pub length-report : (r : Report) → length (report_bytes r) ≡ 8
unfolding report_bytes digits
length-report (finished f) = refl
length-report (refusal k) = refl

pub byte-before : (l : List ℕ) (i : ℕ) (v : List ℕ) (j : ℕ) → j < i → byte (sets l i v) j ≡ byte l j
unfolding byte
byte-before l i [] j h = refl
byte-before l i (a ∷ v) j h = byte-before (set l i a) (suc i) v j (omega arith) ∙ get_or-set_other l i j a 0 (λ e. omega arith)

pub byte-after : (l : List ℕ) (i : ℕ) (v : List ℕ) (j : ℕ) → i + length v ≤ j → byte (sets l i v) j ≡ byte l j
unfolding byte
byte-after l i [] j h = refl
byte-after l i (a ∷ v) j h = byte-after (set l i a) (suc i) v j (omega arith) ∙ get_or-set_other l i j a 0 (λ e. omega arith)

pub byte-stored : (l : List ℕ) (i : ℕ) (v : List ℕ) (j : ℕ) → i + length v ≤ length l → j < length v → byte (sets l i v) (i + j) ≡ byte v j
unfolding byte
byte-stored l i [] j h s = absurd (not-suc-le-zero s)
byte-stored l i (a ∷ v) zero h s =
    rw add-zero (byte-before (set l i a) (suc i) v i (omega arith) ∙ get_or-set_same l i a 0 (omega arith))
byte-stored l i (a ∷ v) (suc j) h s =
    rw (add-suc i j, ← (suc-add i j)) (byte-stored (set l i a) (suc i) v j (omega (arith, length-set l i a)) (omega arith))

unfoldable pub Said : List ℕ → ℕ → Report → Type 0
Said out e r = (j : ℕ) → j < 8 → byte out (8 * e + j) ≡ byte (report_bytes r) j

module _ (out : List ℕ) (e : ℕ) (r : Report) where
  pub said-length : length (sets out (8 * e) (report_bytes r)) ≡ length out
  said-length = length-sets out (8 * e) (report_bytes r)

  pub said-beyond : (j : ℕ) → 8 * e + 8 ≤ j → byte (sets out (8 * e) (report_bytes r)) j ≡ byte out j
  said-beyond j h = byte-after out (8 * e) (report_bytes r) j (omega (arith, length-report r))

  pub said_here : 8 * e + 8 ≤ length out → Said (sets out (8 * e) (report_bytes r)) e r
  unfolding Said
  said_here h j s = byte-stored out (8 * e) (report_bytes r) j (omega (arith, length-report r)) (omega (arith, length-report r))

  pub said-other : (k : ℕ) (q : Report) → (e ≡ k → ⊥) → Said out k q → Said (sets out (8 * e) (report_bytes r)) k q
  unfolding Said
  said-other k q n s j h = go (ltb k e) refl
    where
      go : (b : Bool) → ltb k e ≡ b → byte (sets out (8 * e) (report_bytes r)) (8 * k + j) ≡ byte (report_bytes q) j
      go true t =
          let m = ltb-true k e t in
          byte-before out (8 * e) (report_bytes r) (8 * k + j) (omega arith) ∙ s j h
      go false t =
          let m = ltb-false k e t in
          said-beyond (8 * k + j) (omega (arith, n)) ∙ s j h

module _ (R : ℕ → Report) (n : ℕ) where
  reports : List ℕ
  reports = entries (λ e. report_bytes (R e)) n

  length-reports : length reports ≡ 8 * n
  unfolding reports
  length-reports = length-entries 8 (λ e. report_bytes (R e)) (λ e. length-report (R e)) n

  pub said_all :
      (out out₀ : List ℕ) → length out ≡ length out₀ → 8 * n ≤ length out₀
      → ((e : ℕ) → e < n → Said out e (R e))
      → ((j : ℕ) → 8 * n ≤ j → byte out j ≡ byte out₀ j)
      → out ≡ reports_to R n out₀
  unfolding reports_to Said byte reports
  said_all out out₀ same room said beyond =
      ext_get_or 0 out (reports ++ drop (8 * n) out₀)
      (simp (length-append, length-drop) (omega (arith, length-reports)))
      (λ j h. at j (ltb j (8 * n)) refl)
    where
      at : (j : ℕ) (b : Bool) → ltb j (8 * n) ≡ b → byte out j ≡ byte (reports ++ drop (8 * n) out₀) j
      at j true t =
          let m = ltb-true j (8 * n) t in
          let cut : 8 * (j / 8) + j % 8 ≡ j = omega arith in
          ap (byte out) (sym cut)
          ∙ said (j / 8) (omega arith) (j % 8) (omega arith)
          ∙ sym (byte-entries 8 (λ e. report_bytes (R e)) (λ e. length-report (R e)) n (j / 8) (j % 8) (drop (8 * n) out₀) (omega arith) (omega arith))
          ∙ ap (byte (reports ++ drop (8 * n) out₀)) cut
      at j false t =
          let m = ltb-false j (8 * n) t in
          let up : length reports + (j - 8 * n) ≡ j = omega (arith, length-reports) in
          let over : 8 * n + (j - 8 * n) ≡ j = omega arith in
          beyond j m
          ∙ sym
          (ap (byte (reports ++ drop (8 * n) out₀)) (sym up)
          ∙ get_or-append-add reports (drop (8 * n) out₀) (j - 8 * n) 0
          ∙ get_or-drop (8 * n) out₀ (j - 8 * n) 0
          ∙ ap (byte out₀) over)
