-- A log run, by its code: the columns of its plan, entry after entry, and the leaps after the last.
--     split_columns                    a plan's columns
--     taken_to p l e                    how many of the first e entries are taken; taken_none, taken_more, taken-few
--     Begun, EntersTo                  before the first entry; what the code that enters e entries gives
--     enters_none, enters_ready, enters_more, enters_few      no entry; the next may be entered; one more, of which no more are taken
--     Started, Runs                    begun with nothing pending; what the code of the whole run gives
--     run_begun                        before the first entry, by the columns of a plan
--     run-clock                        the clock after the last entry
--     run-ready, run_end               after the last entry: the leaps until nothing is pending may be made, and then the answer is the document's
use Prim.Native.Nat.{ℕ, zero, suc, ◌+◌, ◌-◌, ◌*◌, ◌≤◌, ◌<◌}
use Rattle.std.specs.Prelude.{Bool, ◌≡◌, List, length, replicate}
use Rattle.std.proofs.Math.Bool.{true, false, cond}
use Rattle.std.proofs.Math.Path.{refl}
use Rattle.std.proofs.Common.{subst, ◌∙◌}
use Rattle.std.proofs.Math.Numerals.{add-one}
use native.Mathlib.Omega.{arith}
use Rattle.laws.specs.Tab.{tab, cut}
use Rattle.laws.specs.TabLaws.{get_or-tab, cut_below}
use Rattle.laws.specs.Sum.{sum, count}
use Rattle.tasks.specs.declared.Plan.{Plan}
use Rattle.tasks.specs.TaskSet.{row}
use Rattle.tasks.specs.Answer.{Accepted}
use Rattle.tasks.specs.Tests.{test_plan}
use Rattle.state.proofs.FitLaws.{in_count, plan-limits}
use Rattle.tasks.specs.Content.{task_of, content_of}
use Rattle.history.specs.Engine.{is_taken}
use Rattle.history.specs.Log.{Entry, wait, calls, outcome}
use Rattle.history.specs.Report.{report}
use Rattle.history.specs.LogClock.{longest}
use Rattle.history.specs.OnMachine.{machine_engine}
use Rattle.logs.specs.LogBytes.{entries_in, reports_to}
use Rattle.running.specs.Running.{Arrays, arrays, Book}
use Rattle.running.specs.Leap.{Standing, Ready, Advanced}
use Rattle.running.specs.Entered.{Fitting, Entered, standing, entered-clock, entered-ready}
use Rattle.running.specs.EndLaws.{end_reports, entered-none}
use Rattle.running.specs.HandLaws.{Columns, takes}
use Rattle.running.specs.EnterCode.{Entering, Enters}

pub plan-few : (p : Plan) → test_plan p ≡ Accepted → p.tasks ≤ 16
plan-few p a = omega (arith, in_count p, (plan-limits p a).tasks-high)

module _ (p : Plan) where
  column : (f : ℕ → ℕ) (i : ℕ) → i < p.tasks → i < 16 → row (tab (cut p.tasks f 0) 16) i ≡ f i
  unfolding row
  column f i h low = get_or-tab (cut p.tasks f 0) 16 i 0 low ∙ cut_below p.tasks f 0 i h

  pub split_columns :
      {separations budgets offsets : List ℕ} → p.tasks ≤ 16
      → separations ≡ tab (cut p.tasks (λ i. (task_of p.task i).separation) 0) 16
      → budgets ≡ tab (cut p.tasks (λ i. (task_of p.task i).budget) 0) 16
      → offsets ≡ tab (cut p.tasks (λ i. (task_of p.task i).offset) 0) 16
      → Columns p p.tasks separations budgets offsets
  split_columns few a b c =
      record {
        tasks_are = refl;
        separations_are = λ i h. rw a (column (λ i. (task_of p.task i).separation) i h (omega arith));
        budgets_are = λ i h. rw b (column (λ i. (task_of p.task i).budget) i h (omega arith));
        offsets_are = λ i h. rw c (column (λ i. (task_of p.task i).offset) i h (omega arith));
      }

module _ (p : Plan) (l : List Entry) where
  unfoldable pub taken_to : ℕ → ℕ
  taken_to e = count (λ k. is_taken (outcome (machine_engine (content_of p).tasks) l k)) e

  pub taken_none : 0 ≡ taken_to 0
  unfolding taken_to count sum
  taken_none = refl

  pub taken_more : (e : ℕ) {a b : ℕ} → a ≡ taken_to e → b ≡ takes p l e → a + b ≡ taken_to (e + 1)
  unfolding taken_to count sum
  taken_more e q r = rw (q, r, add-one e)

  pub taken-few : (e : ℕ) → taken_to e ≤ e
  unfolding taken_to count sum
  taken-few zero = omega arith
  taken-few (suc e) = omega (arith, taken-few e, one (is_taken (outcome (machine_engine (content_of p).tasks) l e)))
    where
      one : (b : Bool) → cond {A = ℕ} b 1 0 ≤ 1
      one true = omega arith
      one false = omega arith

pub record Begun (p : Plan) (out₀ log : List ℕ) (m cores tasks : ℕ) (separations budgets offsets : List ℕ) (W : Arrays)
    (released : List Bool) (last : List ℕ) : Type 0 where
  pub entered : Entered p (entries_in log) out₀ 0 0 W released last
  pub all : m ≡ length (entries_in log)
  pub long : length log ≡ 2 + 9 * length (entries_in log)
  pub cores_are : cores ≡ p.cores
  pub columns : Columns p tasks separations budgets offsets

-- after the entries of a log that was begun
module _ {p : Plan} {out₀ log : List ℕ} {e cores tasks clock : ℕ} {separations budgets offsets : List ℕ} {U W : Arrays} {started released : List Bool} {first last : List ℕ}
    (B : Begun p out₀ log e cores tasks separations budgets offsets U started first)
    (X : Entered p (entries_in log) out₀ e clock W released last) where
  abbrev l : List Entry
  l = entries_in log

  pub run-clock : clock ≤ 1000000000
  run-clock = entered-clock X (omega (arith, B.all))

  ready : (to : ℕ) → to ≤ 4000000000 → Ready (standing X) log cores offsets clock to W
  ready to far =
      rw B.cores_are
      (entered-ready X refl B.long (λ i h. B.columns.offsets_are i (omega (arith, B.columns.tasks_are))) (omega (arith, B.all)) far)

  pub run-ready : (x : Standing) × Ready x log cores offsets clock (clock + 1600000) W
  run-ready = (standing X, ready (clock + 1600000) (omega (arith, run-clock)))

  pub run_end :
      {W' : Arrays} → Advanced log cores offsets clock (clock + 1600000) W (clock + 1600000) W'
      → W'.out ≡ reports_to (report (machine_engine (content_of p).tasks) l) (length l) out₀
  run_end {W'} A = go (clock + 1600000) (omega arith) (omega (arith, run-clock)) A
    where
      go :
          (to : ℕ) → clock + 1600000 ≤ to → to ≤ 4000000000 → Advanced log cores offsets clock to W to W'
          → W'.out ≡ reports_to (report (machine_engine (content_of p).tasks) l) (length l) out₀
      go to far-on far G = let R = G (standing X) (ready to far) in said R.owned_by R.stands.book
        where
          said :
              (O : ℕ → List ℕ) → Book p l out₀ e (wait (to - clock) (calls l e)) O W'.out
              → W'.out ≡ reports_to (report (machine_engine (content_of p).tasks) l) (length l) out₀
          said O K =
              let enough : longest ≤ to - clock = omega arith in
              end_reports X.fitting enough (subst (λ n. Book p l out₀ n (wait (to - clock) (calls l n)) O W'.out) B.all K)

-- ---- all entries

abbrev pub EntersTo :
    List ℕ → ℕ → ℕ → ℕ → List ℕ → List ℕ → List ℕ → Arrays → List Bool → List ℕ → ℕ → ℕ → ℕ → Arrays → List Bool → List ℕ → Type 0
EntersTo log m cores tasks separations budgets offsets W released last e clock took W' released' last' =
    (p : Plan) (out₀ : List ℕ) → Begun p out₀ log m cores tasks separations budgets offsets W released last
    → Entered p (entries_in log) out₀ e clock W' released' last' × (took ≡ taken_to p (entries_in log) e)

module _ {log : List ℕ} {m cores tasks : ℕ} {separations budgets offsets : List ℕ} {W : Arrays} {released : List Bool} {last : List ℕ} where
  pub enters_none : EntersTo log m cores tasks separations budgets offsets W released last 0 0 0 W released last
  enters_none p out₀ X = (X.entered, taken_none p (entries_in log))

  module _ {e clock took : ℕ} {W' : Arrays} {released' : List Bool} {last' : List ℕ}
      (S : EntersTo log m cores tasks separations budgets offsets W released last e clock took W' released' last') (h : e < m) where
    entering :
        (p : Plan) (out₀ : List ℕ) → Begun p out₀ log m cores tasks separations budgets offsets W released last
        → Entering p out₀ log e clock cores tasks separations budgets offsets W' released' last'
    entering p out₀ X =
        record {
          entered = (S p out₀ X).0;
          less = omega (arith, X.all);
          long = X.long;
          cores_are = X.cores_are;
          columns = X.columns;
        }

    pub enters_ready :
        ((p : Plan) × ((out₀ : List ℕ) × Begun p out₀ log m cores tasks separations budgets offsets W released last))
        → ((p : Plan) × ((out₀ : List ℕ) × Entering p out₀ log e clock cores tasks separations budgets offsets W' released' last'))
    enters_ready P = (P.0, (P.1.0, entering P.0 P.1.0 P.1.1))

    module _ {now one : ℕ} {W'' : Arrays} {released'' : List Bool} {last'' : List ℕ}
        (T : Enters log e clock cores tasks separations budgets offsets W' released' last' now one W'' released'' last'') where
      pub enters_more : EntersTo log m cores tasks separations budgets offsets W released last (e + 1) now (took + one) W'' released'' last''
      enters_more p out₀ X =
          let t = T p out₀ (entering p out₀ X) in
          (t.0, taken_more p (entries_in log) e (S p out₀ X).1 t.1)

      pub enters_few :
          ((p : Plan) × ((out₀ : List ℕ) × Begun p out₀ log m cores tasks separations budgets offsets W released last)) → took + one ≤ e + 1
      enters_few P = let t = (enters_more P.0 P.1.0 P.1.1).1 in rw t (taken-few P.0 (entries_in log) (e + 1))

-- begun with nothing pending
abbrev pub Started : Plan → List ℕ → List ℕ → ℕ → ℕ → ℕ → List ℕ → List ℕ → List ℕ → Type 0
Started p out log m cores tasks separations budgets offsets =
    Begun p out log m cores tasks separations budgets offsets
    (arrays (replicate 16 0) (replicate 256 0) (replicate 16 0) (replicate 16 0) 0 out) (replicate 16 false) (replicate 16 0)

-- the run of all entries, and of what is pending after them
abbrev pub Runs : List ℕ → ℕ → ℕ → ℕ → List ℕ → List ℕ → List ℕ → List ℕ → ℕ → List ℕ → Type 0
Runs log m cores tasks separations budgets offsets out took out' =
    (p : Plan) → Started p out log m cores tasks separations budgets offsets
    → (took ≡ taken_to p (entries_in log) (length (entries_in log)))
    × (out' ≡ reports_to (report (machine_engine (content_of p).tasks) (entries_in log)) (length (entries_in log)) out)

pub run_begun :
    {p : Plan} {out log : List ℕ} {m : ℕ} {separations budgets offsets : List ℕ} → Fitting p (entries_in log) out → m ≡ length (entries_in log)
    → length log ≡ 2 + 9 * length (entries_in log)
    → separations ≡ tab (cut p.tasks (λ i. (task_of p.task i).separation) 0) 16
    → budgets ≡ tab (cut p.tasks (λ i. (task_of p.task i).budget) 0) 16
    → offsets ≡ tab (cut p.tasks (λ i. (task_of p.task i).offset) 0) 16
    → Started p out log m p.cores p.tasks separations budgets offsets
run_begun {p} F all long a b c =
    record {
      entered = entered-none F;
      all = all;
      long = long;
      cores_are = refl;
      columns = split_columns p (plan-few p F.accepted) a b c;
    }
