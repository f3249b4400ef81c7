-- What a log run writes of each entry, and its two counts; and that it says just what *taken* and *finishes* say.
--     report                      finished with a tick, or refused with a number
--     finish_tick                  the first tick by which the loop was named often enough
--     taken_count, refused_count    how many entries are taken, how many refused
--     finish-tick, report-finished        an entry that finishes with f is written so
--     finished-report             and an entry that is written so finishes with f, by demand 3
--     report-refused, refused-report      the same of a refused entry
--     counts_all                  every entry is counted once
use Rattle.std.specs.Prelude.{ℕ, suc, ◌+◌, ◌<◌, List, length}
use Rattle.std.proofs.Math.Path.{◌≡◌, refl, sym}
use Rattle.std.proofs.Common.{◌∙◌, le_of_eq, arith}
use borrow.Author.Tests.{le-leb, lt-leb}
use Rattle.laws.specs.FirstLaws.{first_unique}
use Rattle.laws.specs.SumLaws.{count_not}
use Rattle.tasks.specs.TaskSet.{TaskSet}
use Rattle.history.specs.Engine.{Outcome, taken, refused, is_taken, Engine, clock}
use Rattle.history.specs.Log.{Entry, outcome, whole, Finishes, Claim}
use Rattle.history.specs.Report.{finish_tick, refused_count, report, report_of, taken_count, finished, refusal}

module _ (E : Engine) (l : List Entry) where
  pub counts_all : taken_count E l + refused_count E l ≡ length l
  unfolding taken_count refused_count
  counts_all = count_not (λ e. is_taken (outcome E l e)) (length l)

  pub finish-tick : (e f : ℕ) → Finishes E l e f → finish_tick E l e ≡ f
  unfolding finish_tick
  finish-tick e f F =
      first_unique _ (suc (clock (whole E l))) f (omega (arith, F.1.made)) (le-leb _ _ (le_of_eq (sym F.1.enough)))
      (λ g h. lt-leb _ _ (F.1.first_so g h))

  pub report-finished : (e f : ℕ) → Finishes E l e f → report E l e ≡ finished f
  unfolding report
  report-finished e f F = rw (F.0, finish-tick e f F)

  pub report-refused : (e k : ℕ) → outcome E l e ≡ refused k → report E l e ≡ refusal k
  unfolding report
  report-refused e k q = rw q

  pub finished-report : (s : TaskSet) (x : ℕ → ℕ) → Claim E s x l → (e f : ℕ) → e < length l → report E l e ≡ finished f → Finishes E l e f
  unfolding report
  finished-report s x C e f h r = go (outcome E l e) refl (finish_tick E l e) refl r
    where
      go : (o : Outcome) → outcome E l e ≡ o → (g : ℕ) → finish_tick E l e ≡ g → report_of o g ≡ finished f → Finishes E l e f
      go taken q g t r =
          let T = C.in_time e h q in
          let same : T.0 ≡ f = sym (finish-tick e T.0 T.1) ∙ t ∙ cc in
          rw (sym same) T.1
      go (refused k) q g t r = let z : ◌≡◌ {A = ℕ} 0 1 = cc in absurd (omega arith)

  pub refused-report : (e k : ℕ) → report E l e ≡ refusal k → outcome E l e ≡ refused k
  unfolding report
  refused-report e k r = go (outcome E l e) refl (finish_tick E l e) r
    where
      go : (o : Outcome) → outcome E l e ≡ o → (g : ℕ) → report_of o g ≡ refusal k → outcome E l e ≡ refused k
      go taken q g r = let z : ◌≡◌ {A = ℕ} 0 1 = cc in absurd (omega arith)
      go (refused n) q g r = cc
