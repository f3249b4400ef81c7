-- What one scan for several tests knows.
--     scan-more          the scan of rising numbers, one index more
--     scan_fields, scan_wishes    the scan of range_tests
--     range_none, range_lower, range_kept    of no task, of one more that meets a lower number, and of one that doesn't
--     seen_none, seen-some    what is kept, by whether a number is
use Rattle.std.specs.Prelude.{Ok, Err, ℕ, ◌+◌, ◌<◌, ◌≤◌, ◌≡◌, Bool, ltb, eqb}
use Rattle.std.proofs.Math.Path.{refl}
use Rattle.std.proofs.Common.{sym, ap, ◌∙◌, ⊎_elim}
use Rattle.std.proofs.Math.Bool.{true, false, cond}
use mathlib.Core.List.{List, [], ◌∷◌}
use native.Mathlib.Omega.{arith}
use borrow.Author.Tests.{lt-ltb, le-ltb, ne_eqb, eqb-true}
use Rattle.laws.specs.First.{first}
use Rattle.laws.specs.FirstLaws.{first_or_none, none_more, found_at, found_stays}
use Rattle.tasks.specs.Answer.{Answer, Accepted, Refused}
use Rattle.tasks.specs.Tests.{refuse_at, lowest, or_next, first_met, number_of, index_of}
use Rattle.tasks.specs.declared.Task.{Task}
use Rattle.tasks.specs.NumberLaws.{lowest-met}
use Rattle.tasks.specs.AnswerLaws.{lowest-found, lowest-none}
use Rattle.fields.specs.Stages.{nothing, met_by, fields_test, wishes_test}
use Rattle.fields.specs.ScanLaws.{seen, scan, first_met_at, Rising, range_tests}

seen-refused : (k i h j : ℕ) → Refused h j ≡ seen k i → (k ≡ h) × (i ≡ j)
unfolding seen
seen-refused k i h j e = go (eqb k nothing) refl
  where
    go : (b : Bool) → eqb k nothing ≡ b → (k ≡ h) × (i ≡ j)
    go true z = let w : Refused h j ≡ Accepted = rw z at e in (cc, cc)
    go false z = let w : Refused h j ≡ Refused k i = rw z at e in (sym (ap number_of w), sym (ap index_of w))

seen-accepted : (k i : ℕ) → Accepted ≡ seen k i → k ≡ nothing
unfolding seen
seen-accepted k i e = go (eqb k nothing) refl
  where
    go : (b : Bool) → eqb k nothing ≡ b → k ≡ nothing
    go true z = eqb-true k nothing z
    go false z = let w : Accepted ≡ Refused k i = rw z at e in cc

pub seen_none : (k i : ℕ) → k ≡ nothing → seen k i ≡ Accepted
unfolding seen
seen_none k i e = rw e

pub seen-some : (k i : ℕ) → (k ≡ nothing → ⊥) → seen k i ≡ Refused k i
unfolding seen
seen-some k i h = rw (ne_eqb k nothing h)

-- one index more
lowest-more : (k : ℕ) (p : ℕ → Bool) (n : ℕ) → lowest k p (n + 1) ≡ or_next (lowest k p n) (refuse_at k (p n) n)
lowest-more k p n = ⊎_elim (λ (e : first p n ≡ n). none e (p n) refl) (λ (h : first p n < n). found h) (first_or_none p n)
  where
    found : first p n < n → lowest k p (n + 1) ≡ or_next (lowest k p n) (refuse_at k (p n) n)
    found h =
        rw (lowest-found k p n (first p n) refl h)
        (lowest-found k p (n + 1) (first p n) (found_stays p n (n + 1) h (omega arith)) (omega arith))

    none : first p n ≡ n → (b : Bool) → p n ≡ b → lowest k p (n + 1) ≡ or_next (lowest k p n) (refuse_at k (p n) n)
    none e true t = rw (lowest-none k p n e, t) (lowest-found k p (n + 1) n (found_at p n (n + 1) e t (omega arith)) (omega arith))
    none e false t = rw (lowest-none k p n e, t) (lowest-none k p (n + 1) (none_more p n e t))

below-nothing : (h : ℕ) (l : List (ℕ × (ℕ → Bool))) → Rising h l → h < nothing
unfolding Rising
below-nothing h [] r = r
below-nothing h (t ∷ l) r = omega (arith, r.0, below-nothing t.0 l r.1)

met-above : (h : ℕ) (l : List (ℕ × (ℕ → Bool))) → Rising h l → (n : ℕ) → h < first_met_at l n
unfolding first_met_at Rising
met-above h [] r n = r
met-above h (t ∷ l) r n = go (met-above t.0 l r.1 n) (t.1 n) refl
  where
    go : t.0 < first_met_at l n → (b : Bool) → t.1 n ≡ b → h < first_met_at (t ∷ l) n
    go m true e = rw e r.0
    go m false e = rw e (omega (arith, r.0, m))

module _ (n k i : ℕ) where
  scan-above : (h : ℕ) (l : List (ℕ × (ℕ → Bool))) → Rising h l → scan l n ≡ seen k i → h < k
  unfolding scan Rising
  scan-above h [] r e = omega (arith, seen-accepted k i e, r)
  scan-above h (t ∷ l) r e = go (scan-above t.0 l r.1) (lowest t.0 t.1 n) refl
    where
      go : (scan l n ≡ seen k i → t.0 < k) → (a : Answer) → lowest t.0 t.1 n ≡ a → h < k
      go above (Ok tt) q = omega (arith, r.0, above (rw q at e))
      go above (Err m) q = omega (arith, r.0, (lowest-met t.0 t.1 n m.number m.index q).0, (seen-refused k i m.number m.index (rw q at e)).0)

  pub scan-more :
      (h : ℕ) (l : List (ℕ × (ℕ → Bool))) → Rising h l → scan l n ≡ seen k i
      → scan l (n + 1) ≡ cond (ltb (first_met_at l n) k) (seen (first_met_at l n) n) (seen k i)
  unfolding scan first_met_at Rising
  scan-more h [] r e = rw (le-ltb nothing k (omega (arith, seen-accepted k i e))) e
  scan-more h (t ∷ l) r e = go (scan-more t.0 l r.1) (lowest t.0 t.1 n) refl (t.1 n) refl
    where
      go :
          (scan l n ≡ seen k i → scan l (n + 1) ≡ cond (ltb (first_met_at l n) k) (seen (first_met_at l n) n) (seen k i))
          → (a : Answer) → lowest t.0 t.1 n ≡ a → (b : Bool) → t.1 n ≡ b
          → scan (t ∷ l) (n + 1) ≡ cond (ltb (first_met_at (t ∷ l) n) k) (seen (first_met_at (t ∷ l) n) n) (seen k i)
      go rest (Err m) q b p =
          let w : Err m ≡ seen k i = rw q at e in
          let late : k ≤ first_met_at (t ∷ l) n = omega (arith, (seen-refused k i m.number m.index w).0, (lowest-met t.0 t.1 n m.number m.index q).0, from b p) in
          rw (lowest-more t.0 t.1 n, q, le-ltb (first_met_at (t ∷ l) n) k late) w
        where
          from : (b : Bool) → t.1 n ≡ b → t.0 ≤ first_met_at (t ∷ l) n
          from true p = rw p (omega arith)
          from false p = rw p (omega (arith, met-above t.0 l r.1 n))
      go rest (Ok tt) q true p =
          rw (
            lowest-more t.0 t.1 n,
            q,
            p,
            lt-ltb t.0 k (scan-above t.0 l r.1 (rw q at e)),
          )
          (sym (seen-some t.0 n (λ z. omega (arith, z, below-nothing t.0 l r.1))))
      go rest (Ok tt) q false p = rw (lowest-more t.0 t.1 n, q, p) (rest (rw q at e))

pub scan_fields : (e : ℕ) (task : ℕ → Task) (n : ℕ) → scan (range_tests e false task) n ≡ fields_test e task n
unfolding scan range_tests fields_test first_met
scan_fields e task n = refl

pub scan_wishes : (e : ℕ) (task : ℕ → Task) (n : ℕ) → scan (range_tests e true task) n ≡ wishes_test e task n
unfolding scan range_tests wishes_test first_met
scan_wishes e task n = refl

module _ (edition : ℕ) (wishes : Bool) (task : ℕ → Task) where
  pub range_none : scan (range_tests edition wishes task) 0 ≡ seen nothing 0
  unfolding scan range_tests seen lowest first
  range_none = last wishes
    where
      last : (b : Bool) → scan (range_tests edition b task) 0 ≡ seen nothing 0
      last true = refl
      last false = refl

  met_at : (n : ℕ) → first_met_at (range_tests edition wishes task) n ≡ met_by edition wishes (task n)
  unfolding first_met_at range_tests met_by
  met_at n = last wishes
    where
      last : (b : Bool) → first_met_at (range_tests edition b task) n ≡ met_by edition b (task n)
      last true = refl
      last false = refl

  rising : Rising 0 (range_tests edition wishes task)
  unfolding range_tests Rising
  rising = last wishes
    where
      last : (b : Bool) → Rising 0 (range_tests edition b task)
      last true = (omega arith, (omega arith, (omega arith, (omega arith, omega arith))))
      last false = (omega arith, (omega arith, (omega arith, (omega arith, omega arith))))

  module _ (n k i : ℕ) (e : scan (range_tests edition wishes task) n ≡ seen k i) where
    more :
        scan (range_tests edition wishes task) (n + 1)
        ≡ cond (ltb (met_by edition wishes (task n)) k) (seen (met_by edition wishes (task n)) n) (seen k i)
    more = rw (← met_at n) (scan-more n k i 0 (range_tests edition wishes task) rising e)

    -- q is the task's number, and k' and i' are kept from now on
    module _ {q k' i' : ℕ} (m : q ≡ met_by edition wishes (task n)) where
      pub range_lower : q < k → k' ≡ q → i' ≡ n → scan (range_tests edition wishes task) (n + 1) ≡ seen k' i'
      range_lower h a b = rw (a, b, m) (more ∙ rw (lt-ltb (met_by edition wishes (task n)) k (rw m at h)))

      pub range_kept : k ≤ q → k' ≡ k → i' ≡ i → scan (range_tests edition wishes task) (n + 1) ≡ seen k' i'
      range_kept h a b = rw (a, b) (more ∙ rw (le-ltb (met_by edition wishes (task n)) k (rw m at h)))
