-- Laws of the bytes of a plan.
--     length-bytes   how many bytes a content has; length-plan: and a plan
--     plan-bytes     a plan's bytes, without mention of its unused places
--     plan_written   they are what is left when the edition and the three sections are stored one behind the other
use Rattle.std.specs.Prelude.{ℕ, ◌≤◌, ◌<◌, ◌≡◌, refl, Bool, List, [], ◌∷◌, ◌++◌, length, drop, set}
use Rattle.std.proofs.Common.{not-suc-le-zero, arith, sym, ◌∙◌, length-append}
use Rattle.std.proofs.Math.Path.{ap}
use Rattle.std.proofs.Math.Bool.{true, false, cond}
use Rattle.std.proofs.lemmas.List.Edits.{sets}
use Rattle.laws.specs.TabLaws.{cut_below}
use Rattle.tasks.specs.declared.Plan.{Plan}
use Rattle.tasks.specs.TaskSet.{row}
use Rattle.tasks.specs.Content.{Content, content_of, task_of}
use Rattle.tasks.proofs.ContentLaws.{used-task}
use Rattle.numbers.specs.Bytes.{digits, entries}
use Rattle.codec.specs.Table.{task_size, tasks_from, slack_from, table_length, task_bytes, bytes_of}
use Rattle.numbers.specs.ByteLaws.{length_digits, length-entries, entries-same}
use Rattle.laws.specs.SetsLaws.{sets-three, sets-whole}
use Rattle.codec.specs.TaskLaws.{length-task, bytes-edition}

pub length-bytes : (c : Content) → length (bytes_of c) ≡ table_length c.edition c.tasks.cores c.tasks.count c.offers
unfolding bytes_of
length-bytes c =
    simp length-append
    (omega (
      arith,
      length-entries 1 (λ i. c.label i ∷ []) (λ i. refl) c.tasks.cores,
      length-entries (task_size c.edition) (λ i. task_bytes c.edition (c.tasks.task i)) (λ i. length-task _ _) c.tasks.count,
      length-entries 4 (λ i. digits 4 (c.slack i)) (λ i. length_digits 4 _) c.offers,
    ))

module _ (p : Plan) where
  pub length-plan : length (bytes_of (content_of p)) ≡ table_length p.edition p.cores p.tasks (cond p.offered p.tasks 0)
  unfolding content_of
  length-plan = length-bytes (content_of p)

  pub plan-bytes :
      bytes_of (content_of p)
      ≡ (p.edition ∷ p.cores ∷ entries (λ i. row p.labels i ∷ []) p.cores)
      ++ (p.tasks ∷ entries (λ i. task_bytes p.edition (task_of p.task i)) p.tasks)
      ++ (cond p.offered p.tasks 0 ∷ entries (λ i. digits 4 (row p.slack i)) (cond p.offered p.tasks 0))
  unfolding bytes_of content_of
  plan-bytes =
      rw (
        entries-same (λ i. (content_of p).label i ∷ []) (λ i. row p.labels i ∷ []) p.cores (λ i l. ap (λ x. x ∷ []) (cut_below p.cores (row p.labels) 0 i l)),
        entries-same (λ i. task_bytes p.edition ((content_of p).tasks.task i)) (λ i. task_bytes p.edition (task_of p.task i)) p.tasks
            (λ i l. ap (task_bytes p.edition) (used-task p i l) ∙ bytes-edition p.edition (task_of p.task i)),
        entries-same (λ i. digits 4 ((content_of p).slack i)) (λ i. digits 4 (row p.slack i)) (cond p.offered p.tasks 0)
            (λ i l. ap (digits 4) (cut_below p.tasks (row p.slack) 0 i (offered-below p.offered i l))),
      )
    where
      offered-below : (b : Bool) (i : ℕ) → i < cond b p.tasks 0 → i < p.tasks
      offered-below true i l = l
      offered-below false i l = absurd (not-suc-le-zero l)

  pub plan_written :
      (l l₁ l₂ l₃ : List ℕ) (x : ℕ) → x ≡ cond p.offered p.tasks 0 → length (bytes_of (content_of p)) ≤ length l
      → l₁ ≡ sets (set l 0 p.edition) 1 (p.cores ∷ entries (λ i. row p.labels i ∷ []) p.cores)
      → l₂ ≡ sets l₁ (tasks_from p.cores) (p.tasks ∷ entries (λ i. task_bytes p.edition (task_of p.task i)) p.tasks)
      → l₃ ≡ sets l₂ (slack_from p.edition p.cores p.tasks) (x ∷ entries (λ i. digits 4 (row p.slack i)) x)
      → l₃ ≡ bytes_of (content_of p) ++ drop (length (bytes_of (content_of p))) l
  plan_written l l₁ l₂ l₃ x q room e₁ e₂ e₃ =
      sets-three l l₁ l₂ l₃ 0 (tasks_from p.cores) (slack_from p.edition p.cores p.tasks)
      (p.edition ∷ p.cores ∷ entries (λ i. row p.labels i ∷ []) p.cores)
      (p.tasks ∷ entries (λ i. task_bytes p.edition (task_of p.task i)) p.tasks)
      _ e₁ e₂ (rw q at e₃)
      (omega (arith, length-entries 1 (λ i. row p.labels i ∷ []) (λ i. refl) p.cores))
      (omega (arith, length-entries (task_size p.edition) (λ i. task_bytes p.edition (task_of p.task i)) (λ i. length-task _ _) p.tasks))
      ∙ ap (sets l 0) (sym plan-bytes)
      ∙ sets-whole l (bytes_of (content_of p)) room
