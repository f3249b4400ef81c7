-- Laws of a task's entry: the only ones that look at a task's fields.
--     size_low          it has 12 bytes or more; size-deadline: with a deadline 16
--     length-plain      its first three numbers have 12
--     size_times        entries of n tasks have 16 × n bytes or fewer; entry-inside: one that is among them ends within them
--     edition_in_lem        a table's tasks are as its edition has them
--     length-task       how many bytes it has
--     bytes-edition     it looks at a deadline that the edition has
--     task-same         what is read at a place is a matter of the bytes of the entry there
--     NarrowTask        the task's numbers are below 2 ^ 32, of which an entry has four bytes each; limits_narrow: so they are within the limits
--     task-back         such a task is read back from its entry as the edition has it
--     task-again        the entry of the task read at a place is the bytes from there on
use Rattle.std.specs.Prelude.{ℕ, ◌+◌, ◌*◌, ◌^◌, ◌≤◌, ◌<◌, ◌≡◌, Bool, true, false, take, drop}
use Rattle.std.proofs.Common.{add_assoc, arith, sym, length-append, take-add, drop-drop}
use Rattle.std.proofs.Math.Path.{refl}
use Rattle.std.proofs.Math.Bool.{cond}
use mathlib.Core.List.{List, [], ◌++◌, append_assoc, append-nil}
use Rattle.std.proofs.Math.ListN.{length}
use Rattle.tasks.specs.declared.Task.{Task}
use Rattle.tasks.specs.Content.{has_deadlines, in_edition, Content}
use Rattle.tasks.proofs.ContentLaws.{by_edition, cut-edition}
use Rattle.tasks.specs.Terms.{Passed}
use Rattle.numbers.specs.Bytes.{byte, number, digits}
use Rattle.codec.specs.Table.{task_size, edition_in, task_count, task_in, plain_bytes, task_bytes, task_set_in, content_in}
use Rattle.numbers.specs.ByteLaws.{Bytes, number_same, number_digits, number-digits-at, digits_number, length_digits}

pub length-plain : (k : Task) → length (plain_bytes k) ≡ 12
unfolding plain_bytes digits
length-plain k = refl

module _ (e : ℕ) where
  pub size_low : 12 ≤ task_size e
  unfolding task_size
  size_low = by_edition (λ b. 12 ≤ cond b 16 12) e (omega arith) (omega arith)

  pub size-deadline : has_deadlines e ≡ true → task_size e ≡ 16
  unfolding task_size
  size-deadline q = rw q

  pub size_times : (n : ℕ) → task_size e * n ≤ 16 * n
  unfolding task_size
  size_times n = by_edition (λ b. cond b 16 12 * n ≤ 16 * n) e (omega arith) (omega arith)

  pub entry-inside : (i n : ℕ) → i < n → task_size e * i + task_size e ≤ task_size e * n
  unfolding task_size
  entry-inside i n h = by_edition (λ b. cond b 16 12 * i + cond b 16 12 ≤ cond b 16 12 * n) e (omega arith) (omega arith)

  pub length-task : (k : Task) → length (task_bytes e k) ≡ task_size e
  unfolding task_bytes plain_bytes digits task_size
  length-task k = by_edition (λ b. length (plain_bytes k ++ cond b (digits 4 k.deadline) []) ≡ cond b 16 12) e refl refl

  pub bytes-edition : (k : Task) → task_bytes e (in_edition e k) ≡ task_bytes e k
  unfolding task_bytes plain_bytes
  bytes-edition k =
      by_edition (λ b. plain_bytes k ++ cond b (digits 4 (cond b k.deadline 0)) [] ≡ plain_bytes k ++ cond b (digits 4 k.deadline) []) e refl refl

-- tasks with equal fields are the same
task_ext : (k l : Task) → k.separation ≡ l.separation → k.budget ≡ l.budget → k.offset ≡ l.offset → k.deadline ≡ l.deadline → k ≡ l
task_ext k l e f g h = λ i. record { separation = e i; budget = f i; offset = g i; deadline = h i }

pub task-same :
    (e : ℕ) (t u : List ℕ) (i j : ℕ) → ((d : ℕ) → d < task_size e → byte t (i + d) ≡ byte u (j + d)) → task_in e t i ≡ task_in e u j
unfolding task_in
task-same e t u i j h =
    task_ext (task_in e t i) (task_in e u j)
    (number_same 4 t u i j (λ d l. h d (omega (arith, size_low e))))
    (number_same 4 t u (i + 4) (j + 4) (λ d l. rw (add_assoc, add_assoc) (h (4 + d) (omega (arith, size_low e)))))
    (number_same 4 t u (i + 8) (j + 8) (λ d l. rw (add_assoc, add_assoc) (h (8 + d) (omega (arith, size_low e)))))
    (go (has_deadlines e) refl)
  where
    go : (b : Bool) → has_deadlines e ≡ b → cond b (number 4 t (i + 12)) 0 ≡ cond b (number 4 u (j + 12)) 0
    go true q =
        number_same 4 t u (i + 12) (j + 12) (λ d l. rw (add_assoc, add_assoc) (h (12 + d) (omega (arith, size-deadline e q))))
    go false q = refl

pub record NarrowTask (e : ℕ) (k : Task) : Type 0 where
  pub separation : k.separation < 256 ^ 4
  pub budget : k.budget < 256 ^ 4
  pub offset : k.offset < 256 ^ 4
  pub deadline : has_deadlines e ≡ true → k.deadline < 256 ^ 4

pub limits_narrow : (c : Content) → Passed c → (i : ℕ) → i < c.tasks.count → NarrowTask c.edition (c.tasks.task i)
limits_narrow c P i h =
    let L = P.limits in
    record {
      separation = omega (arith, L.separation-high i h);
      budget = omega (arith, L.separation-high i h, L.budget-high i h);
      offset = omega (arith, L.separation-high i h, L.offset-high i h);
      deadline = λ d. omega (arith, P.deadline-high d i h);
    }

pub task-back : (e : ℕ) (k : Task) → NarrowTask e k → task_in e (task_bytes e k) 0 ≡ in_edition e k
unfolding task_in task_bytes plain_bytes
task-back e k n =
    task_ext (task_in e (task_bytes e k) 0) (in_edition e k)
    (rw (append_assoc, append_assoc) (number_digits 4 k.separation [] _ n.separation))
    (rw (append_assoc, append_assoc) (number-digits-at 4 k.budget (digits 4 k.separation) _ 4 (length_digits 4 _) n.budget))
    (rw append_assoc (number-digits-at 4 k.offset (digits 4 k.separation ++ digits 4 k.budget) _ 8 eight n.offset))
    (go (has_deadlines e) refl)
  where
    eight : length (digits 4 k.separation ++ digits 4 k.budget) ≡ 8
    eight = omega (arith, length-append (digits 4 k.separation) (digits 4 k.budget), length_digits 4 k.separation, length_digits 4 k.budget)

    go : (b : Bool) → has_deadlines e ≡ b → cond b (number 4 (plain_bytes k ++ cond b (digits 4 k.deadline) []) 12) 0 ≡ cond b k.deadline 0
    go true q =
        rw (← (append-nil (digits 4 k.deadline)))
        (number-digits-at 4 k.deadline (plain_bytes k) [] 12 (length-plain k) (n.deadline q))
    go false q = refl

pub task-again :
    (e : ℕ) (t : List ℕ) (at : ℕ) → Bytes t → at + task_size e ≤ length t → task_bytes e (task_in e t at) ≡ take (task_size e) (drop at t)
unfolding task_bytes task_in task_size plain_bytes
task-again e t at b h = go (has_deadlines e) refl
  where
    plain : at + 12 ≤ length t → digits 4 (number 4 t at) ++ digits 4 (number 4 t (at + 4)) ++ digits 4 (number 4 t (at + 8)) ≡ take 12 (drop at t)
    plain l =
        rw (
          digits_number 4 t at b (omega arith),
          digits_number 4 t (at + 4) b (omega arith),
          digits_number 4 t (at + 8) b (omega arith),
          ← (drop-drop 4 at t),
          ← (drop-drop 8 at t),
          ← (take-add 4 4 (drop at t)),
        )
        (sym (take-add 8 4 (drop at t)))

    go :
        (d : Bool) → has_deadlines e ≡ d
        → (digits 4 (number 4 t at) ++ digits 4 (number 4 t (at + 4)) ++ digits 4 (number 4 t (at + 8)))
        ++ cond d (digits 4 (cond d (number 4 t (at + 12)) 0)) []
        ≡ take (cond d 16 12) (drop at t)
    go true q =
        rw (plain (omega (arith, size_low e)), digits_number 4 t (at + 12) b (omega (arith, size-deadline e q)), ← (drop-drop 12 at t))
        (sym (take-add 12 4 (drop at t)))
    go false q = rw (append-nil _) (plain (omega (arith, size_low e)))

pub edition_in_lem : (t : List ℕ) (i : ℕ) → in_edition (content_in t).edition ((content_in t).tasks.task i) ≡ (content_in t).tasks.task i
unfolding content_in task_set_in task_in
edition_in_lem t i = cut-edition (edition_in t) (task_count t) _ i
