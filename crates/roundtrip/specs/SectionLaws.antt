-- A table's bytes taken apart into its sections, and put together again.
--     verdict-parts      an accepted table has a known edition, the length that its counts give, and content that passes 3 to 13 and 28
--     parts-verdict      a table that has these is accepted
--     table-parts        a table of that length is its edition, its counts and the bytes of its sections
--     table_fits         what a table says that meets none of 3 to 13 fits a plan
--     slack_read         offered slack, as the content has it
--     labels-again, tasks-again, slack-again    the entries written of what is read are the sections' bytes
use Rattle.std.specs.Prelude.{ℕ, suc, ◌+◌, ◌*◌, ◌<◌, ◌≡◌, refl, Bool, true, false, cond, List, [], ◌∷◌, ◌++◌, ◌⊎◌, length, drop, eqb}
use Rattle.std.proofs.Math.Nat.{one-mul}
use Rattle.std.proofs.Common.{arith, sym, ◌∙◌, append_assoc, ⊎_elim, take-append-drop, length-drop, drop-cons, take_all, drop-drop, eqb-true, eq-eqb, ne_eqb}
use Rattle.std.proofs.Math.Path.{ap}
use Rattle.std.proofs.Math.ListN.{take}
use Rattle.std.proofs.lemmas.Bool.{not-false}
use Rattle.laws.specs.Tab.{cut}
use Rattle.laws.specs.TabLaws.{cut_below, cut-above}
use Rattle.tasks.specs.Answer.{Accepted}
use Rattle.tasks.specs.TaskSet.{found, row}
use Rattle.tasks.specs.Content.{no_task}
use Rattle.tasks.specs.Tests.{first_met, bad_edition, tests}
use Rattle.tasks.specs.Terms.{Passed}
use Rattle.tasks.proofs.TestsLaws.{tests-passed}
use Rattle.tasks.proofs.FoundLaws.{found-past}
use Rattle.tasks.specs.AnswerLaws.{refuse-passed, first_met-passed}
use Rattle.numbers.specs.Bytes.{byte, number, digits, entries}
use Rattle.codec.specs.Table.{task_size, tasks_from, slack_from, table_length, counted_length, edition_in, core_count, task_count, tasks_at, slack_count, slack_at, task_in, task_set_in, content_in, test1, test2, verdict, task_bytes}
use Rattle.numbers.specs.ByteLaws.{Bytes, digits_number, entries-same, entries-parts}
use Rattle.codec.specs.TaskLaws.{entry-inside, edition_in_lem, task-again}
use Rattle.tasks.specs.Terms.{Fits}

pub record Parts (t : List ℕ) : Type 0 where
  pub edition : bad_edition (edition_in t) ≡ false
  pub long : length t ≡ counted_length t
  pub content : tests (content_in t) ≡ Accepted

pub verdict-parts : (t : List ℕ) → verdict t ≡ Accepted → Parts t
unfolding verdict test1 test2
verdict-parts t a =
    let r = first_met-passed _ _ a in
    let s = first_met-passed _ _ r.1 in
    record {
      edition = refuse-passed _ _ r.0;
      long = eqb-true _ _ (not-false _ (refuse-passed _ _ s.0));
      content = (first_met-passed _ _ s.1).0;
    }

pub parts-verdict : (t : List ℕ) → Parts t → verdict t ≡ Accepted
unfolding verdict test1 test2 first_met
parts-verdict t p = rw (p.edition, eq-eqb _ _ p.long, p.content)

-- the bytes from a on: one, v, and the rest from b on
step : (t : List ℕ) (a b v : ℕ) → a < length t → byte t a ≡ v → b ≡ suc a → drop a t ≡ v ∷ drop b t
unfolding byte
step t a b v h e q = drop-cons t a 0 h ∙ rw (e, q)

-- the bytes from a on: k of them, and the rest, of which more is known
skip : (t rest : List ℕ) (a b k : ℕ) → b ≡ a + k → drop b t ≡ rest → drop a t ≡ take k (drop a t) ++ rest
skip t rest a b k q e = sym (rw (← e, q, ← (drop-drop k a t)) (take-append-drop k (drop a t)))

-- the same with the counts by name
parts_at :
    (t : List ℕ) (e m n x : ℕ) → byte t 0 ≡ e → byte t 1 ≡ m → byte t (tasks_from m) ≡ n → byte t (slack_from e m n) ≡ x
    → length t ≡ table_length e m n x
    → t
    ≡ (e ∷ m ∷ take m (drop 2 t))
    ++ (n ∷ take (task_size e * n) (drop (tasks_from m + 1) t))
    ++ (x ∷ take (4 * x) (drop (slack_from e m n + 1) t))
parts_at t e m n x ee em en ex l =
    let last : drop (slack_from e m n + 1) t ≡ take (4 * x) (drop (slack_from e m n + 1) t) =
    sym (take_all (4 * x) (drop (slack_from e m n + 1) t) (omega (arith, length-drop (slack_from e m n + 1) t))) in
    let u5 : drop (slack_from e m n) t ≡ x ∷ take (4 * x) (drop (slack_from e m n + 1) t) =
    step t (slack_from e m n) (slack_from e m n + 1) x (omega arith) ex (omega arith) ∙ ap (λ r. x ∷ r) last in
    let u4 = skip t (x ∷ take (4 * x) (drop (slack_from e m n + 1) t)) (tasks_from m + 1) (slack_from e m n) (task_size e * n) refl u5 in
    let u3 = step t (tasks_from m) (tasks_from m + 1) n (omega arith) en (omega arith) ∙ ap (λ r. n ∷ r) u4 in
    let u2 = skip t _ 2 (tasks_from m) m refl u3 in
    step t 0 1 e (omega arith) ee refl
    ∙ ap (λ r. e ∷ r) (step t 1 2 m (omega arith) em refl)
    ∙ ap (λ r. e ∷ m ∷ r) (u2 ∙ sym (append_assoc (take m (drop 2 t)) _ _))

pub table-parts :
    (t : List ℕ) → length t ≡ counted_length t
    → t
    ≡ (edition_in t ∷ core_count t ∷ take (core_count t) (drop 2 t))
    ++ (task_count t ∷ take (task_size (edition_in t) * task_count t) (drop (tasks_at t) t))
    ++ (slack_count t ∷ take (4 * slack_count t) (drop (slack_at t) t))
unfolding core_count task_count tasks_at slack_count slack_at
table-parts t l = parts_at t (edition_in t) (core_count t) (task_count t) (slack_count t) refl refl refl refl l

-- one byte
label-part : (t : List ℕ) (at : ℕ) → at < length t → byte t at ∷ [] ≡ take 1 (drop at t)
unfolding byte
label-part t at h = rw (drop-cons t at 0 h)

pub slack_read :
    (t : List ℕ) (i : ℕ) → i < slack_count t → (slack_count t ≡ 0) ⊎ (slack_count t ≡ task_count t)
    → (content_in t).slack i ≡ number 4 t (slack_at t + 4 * i)
unfolding content_in
slack_read t i h o =
    rw (ne_eqb (slack_count t) 0 (λ e. omega (arith, e)))
    (cut_below (task_count t) (λ j. number 4 t (slack_at t + 4 * j)) 0 i
    (⊎_elim (λ (e : slack_count t ≡ 0). omega arith) (λ (e : slack_count t ≡ task_count t). omega arith) o))

module _ (t : List ℕ) (b : Bytes t) (l : length t ≡ counted_length t) where
  pub labels-again : entries (λ i. (content_in t).label i ∷ []) (core_count t) ≡ take (core_count t) (drop 2 t)
  unfolding content_in
  labels-again =
      entries-same _ (λ i. take 1 (drop (2 + 1 * i) t)) (core_count t)
      (λ i h.
      rw (cut_below (core_count t) (λ j. byte t (2 + j)) 0 i h, one-mul) (label-part t (2 + i) (omega arith)))
      ∙ entries-parts 1 2 (core_count t) t
      ∙ rw one-mul

  pub tasks-again : entries (λ i. task_bytes (edition_in t) ((content_in t).tasks.task i)) (task_count t) ≡ take (task_size (edition_in t) * task_count t) (drop (tasks_at t) t)
  unfolding content_in task_set_in tasks_at
  tasks-again =
      entries-same _ (λ i. take (task_size (edition_in t)) (drop (tasks_at t + task_size (edition_in t) * i) t)) (task_count t)
      (λ i h.
      rw (cut_below (task_count t) (λ j. task_in (edition_in t) t (tasks_at t + task_size (edition_in t) * j)) no_task i h)
      (task-again (edition_in t) t (tasks_at t + task_size (edition_in t) * i) b (omega (arith, entry-inside (edition_in t) i (task_count t) h))))
      ∙ entries-parts (task_size (edition_in t)) (tasks_at t) (task_count t) t

  pub slack-again :
      (slack_count t ≡ 0) ⊎ (slack_count t ≡ task_count t)
      → entries (λ i. digits 4 ((content_in t).slack i)) (slack_count t) ≡ take (4 * slack_count t) (drop (slack_at t) t)
  unfolding slack_at
  slack-again o =
      entries-same _ (λ i. take 4 (drop (slack_at t + 4 * i) t)) (slack_count t)
      (λ i h. ap (digits 4) (slack_read t i h o) ∙ digits_number 4 t (slack_at t + 4 * i) b (omega arith))
      ∙ entries-parts 4 (slack_at t) (slack_count t) t

-- either row is 0 at i
either_zero : (b : Bool) (f g : ℕ → ℕ) (i : ℕ) → f i ≡ 0 → g i ≡ 0 → cond b f g i ≡ 0
either_zero true f g i e q = e
either_zero false f g i e q = q

pub table_fits : (t : List ℕ) → tests (content_in t) ≡ Accepted → Fits (content_in t)
unfolding content_in task_set_in
table_fits t a =
    let q : Passed (content_in t) = tests-passed (content_in t) a in
    record {
      cores-high = q.limits.cores-high;
      tasks-high = q.limits.tasks-high;
      label-past = cut-above (core_count t) (λ i. byte t (2 + i)) 0;
      task-past = cut-above (task_count t) _ no_task;
      slack-past =
          λ i h.
          either_zero
          (eqb (slack_count t) 0)
          (row (found (task_set_in t)))
          (cut (task_count t) (λ j. number 4 t (slack_at t + 4 * j)) 0)
          i
          (found-past (task_set_in t) q.limits i h)
          (cut-above (task_count t) (λ j. number 4 t (slack_at t + 4 * j)) 0 i h);
      deadlines = edition_in_lem t;
      offers = q.offers;
    }
