-- Laws of the printed text: how long it is, and what its functions' code leaves.
--     length-pair, length-task-line    a line's length by those of its numbers
--     refusal-short    a refusal's line fits the buffer
--     line_in           a loop's line from a plan's own arrays
--     line_in_lem          it is the line of what the plan says
--     stored-none, stored_next     pieces of text stored one behind the other; lines_next: a plan's lines
--     within           an accepted plan has at most 8 cores and 16 loops
--     counts-short, lines_short    an accepted plan's first line is at most 17 bytes long, and each other at most 49
--     line-room        there is room for each of its lines
--     plan-text        those lines from its own arrays
--     name_in           a name in the last line, from an array
--     names-short      each takes at most 3 bytes
--     counted-line     the last line from an array
use Prim.Native.Nat.{ℕ, zero, suc, ◌+◌, ◌*◌, ◌≤◌, ◌<◌}
use Rattle.std.specs.Prelude.{◌≡◌, refl, Bool, length, take}
use Rattle.std.proofs.Common.{sym, ap, ◌∙◌, add-one, length-take, get_or-take}
use mathlib.Core.List.{List, ◌++◌}
use native.Mathlib.Omega.{arith}
use Rattle.std.proofs.Math.ListN.{length-append}
use Rattle.decimal.specs.Decimal.{words, decimal, said, Stored}
use Rattle.decimal.proofs.DecimalLaws.{length-said, decimal-length}
use Rattle.decimal.proofs.PutLaws.{put-behind}
use Rattle.laws.specs.TabLaws.{cut_below}
use Rattle.tasks.specs.declared.Task.{Task}
use Rattle.tasks.specs.declared.Plan.{Plan}
use Rattle.tasks.specs.Answer.{Accepted}
use Rattle.tasks.specs.TaskSet.{core_for_each, bound_by, bound, row}
use Rattle.tasks.specs.Limits.{Bounded}
use Rattle.tasks.specs.Content.{late_of, late, content_of, task_of}
use Rattle.tasks.proofs.ContentLaws.{used-task, late-edition, late-high}
use Rattle.tasks.specs.Tests.{test_plan}
use Rattle.tasks.proofs.TestsLaws.{tests-passed, tests-limits, tests-bounded, slack-high, plan-passed}
use Rattle.numbers.specs.Bytes.{entries}
use Rattle.numbers.specs.ByteLaws.{entries-same}
use Rattle.text.specs.Printed.{pair_line, counts_line, task_line, refusal_line, line_of, plan_lines, counted_line}

pub length-pair : (w : List ℕ) (a : ℕ) (v : List ℕ) (b : ℕ) → length (pair_line w a v b) ≡ length w + length (decimal a) + (length v + length (decimal b)) + 1
unfolding pair_line words
length-pair w a v b = rw (length-append, length-append, length-said, length-said)

pub length-task-line :
    (i x b l : ℕ) → length (task_line i x b l) ≡ 26 + length (decimal i) + length (decimal x) + length (decimal b) + length (decimal l)
unfolding task_line words
length-task-line i x b l = simp (length-append, length-said) (omega arith)

pub refusal-short : (k i : ℕ) → k < 256 → i < 65536 → length (refusal_line k i) ≤ 1024
unfolding refusal_line words
refusal-short k i h l =
    omega (
      arith,
      length-pair (words "refused ") k (words " at ") i,
      decimal-length 2 k (omega arith),
      decimal-length 4 i (omega arith),
    )

unfoldable pub line_in : Bool → ℕ → List Task → List ℕ → ℕ → List ℕ
line_in each e task slack i =
    let t = task_of task i in
    let x = row slack i in
    task_line i x (bound_by each t x) (late_of e t (bound_by each t x))

-- pieces stored one behind the other: none yet, and one more
pub stored-none : (f : ℕ → List ℕ) (l : List ℕ) (at : ℕ) → Stored l at (entries f 0) at l
unfolding entries
stored-none f l at = record { place = omega arith; left = refl }

pub stored_next :
    (f : ℕ → List ℕ) (i : ℕ) {l u v : List ℕ} {from at end : ℕ}
    → Stored l from (entries f i) at u → Stored u at (f i) end v → Stored l from (entries f (i + 1)) end v
unfolding entries
stored_next f i s r = rw add-one (put-behind s r)

pub lines_next :
    (each : Bool) (v : ℕ) (task : List Task) (slack : List ℕ) (i b d : ℕ) {l u w : List ℕ} {from at end : ℕ}
    → b ≡ bound_by each (task_of task i) (row slack i) → d ≡ late_of v (task_of task i) b
    → Stored l from (entries (line_in each v task slack) i) at u → Stored u at (task_line i (row slack i) b d) end w
    → Stored l from (entries (line_in each v task slack) (i + 1)) end w
unfolding line_in
lines_next each v task slack i b d e q s r = stored_next (line_in each v task slack) i s (rw (q, e) at r)

module _ (p : Plan) (passed : test_plan p ≡ Accepted) where
  pub within : (p.cores ≤ 8) × (p.tasks ≤ 16)
  unfolding content_of
  within = let L = tests-limits (content_of p) (plan-passed p passed).1 in (L.cores-high, L.tasks-high)

  each : Bool
  each = core_for_each p.cores p.tasks

  pub line_in_lem : (i : ℕ) → i < p.tasks → line_in (core_for_each p.cores p.tasks) p.edition p.task p.slack i ≡ line_of (content_of p) i
  unfolding line_in line_of content_of bound late each
  line_in_lem i h =
      rw (cut_below p.tasks (row p.slack) 0 i h, used-task p i h)
      (ap (task_line i _ _) (sym (late-edition p.edition (task_of p.task i) (bound_by each (task_of p.task i) (row p.slack i)))))

  bound-small : (i : ℕ) → i < p.tasks → bound (content_of p).tasks (content_of p).slack i ≤ 1600000
  unfolding content_of Bounded
  bound-small i h =
      let a = (plan-passed p passed).1 in
      omega (arith, tests-bounded (content_of p) a i h, (tests-limits (content_of p) a).separation-high i h)

  line-short : (i : ℕ) → i < p.tasks → length (line_of (content_of p) i) ≤ 49
  unfolding line_of late content_of
  line-short i h =
      let c = content_of p in
      let b = bound-small i h in
      omega (
        arith,
        length-task-line i (c.slack i) (bound c.tasks c.slack i) (late c i),
        decimal-length 1 i (omega (arith, within)),
        decimal-length 6 (c.slack i) (omega (arith, slack-high (content_of p) (tests-passed (content_of p) (plan-passed p passed).1) i h)),
        decimal-length 6 (bound c.tasks c.slack i) (omega arith),
        decimal-length 6 (late c i) (omega (arith, late-high c.edition (c.tasks.task i) (bound c.tasks c.slack i))),
      )

  pub lines_short : (i : ℕ) → i ≤ p.tasks → length (entries (line_in (core_for_each p.cores p.tasks) p.edition p.task p.slack) i) ≤ 49 * i
  unfolding entries
  lines_short zero h = omega arith
  lines_short (suc i) h =
      rw (length-append, line_in_lem i h) (omega (arith, lines_short i (omega arith), line-short i h))

  pub counts-short : length (counts_line p.cores p.tasks) ≤ 17
  unfolding counts_line words
  counts-short =
      omega (
        arith,
        length-pair (words "cores ") p.cores (words " loops ") p.tasks,
        decimal-length 0 p.cores (omega (arith, within)),
        decimal-length 1 p.tasks (omega (arith, within)),
      )

  -- `own` is what the code has worked out
  module _ (own : Bool) (eo : own ≡ core_for_each p.cores p.tasks) where
    own-lines :
        (i : ℕ) → i < p.tasks
        → length (entries (line_in own p.edition p.task p.slack) i) + length (line_in own p.edition p.task p.slack i) ≤ 49 * suc i
    unfolding entries
    own-lines i h =
        rw eo
        (omega (
          arith,
          lines_short (suc i) h,
          length-append
              (entries (line_in (core_for_each p.cores p.tasks) p.edition p.task p.slack) i)
              (line_in (core_for_each p.cores p.tasks) p.edition p.task p.slack i),
        ))

    pub line-room :
        (i b d at : ℕ) → i < p.tasks → b ≡ bound_by own (task_of p.task i) (row p.slack i)
        → d ≡ late_of p.edition (task_of p.task i) b
        → at ≡ length (counts_line p.cores p.tasks) + length (entries (line_in own p.edition p.task p.slack) i)
        → at + length (task_line i (row p.slack i) b d) ≤ 1024
    unfolding line_in
    line-room i b d at h e q r =
        rw (q, e)
        (omega (arith, within, counts-short, own-lines i h))

    pub plan-text : plan_lines (content_of p) ≡ counts_line p.cores p.tasks ++ entries (line_in own p.edition p.task p.slack) p.tasks
    unfolding plan_lines content_of
    plan-text = rw eo (ap (λ (l : List ℕ). counts_line p.cores p.tasks ++ l) (sym (entries-same _ _ p.tasks line_in_lem)))

-- ---- the last line

unfoldable pub name_in : List ℕ → ℕ → List ℕ
name_in counted a = said (words " ") (row counted a)

pub names-short : (counted : List ℕ) (i : ℕ) → ((a : ℕ) → a < i → row counted a < 16) → length (entries (name_in counted) i) ≤ 3 * i
unfolding entries name_in words
names-short counted zero low = omega arith
names-short counted (suc i) low =
    rw length-append
    (omega (
      arith,
      names-short counted i (λ a h. low a (omega arith)),
      length-said (words " ") (row counted i),
      decimal-length 1 (row counted i) (omega (arith, low i (omega arith))),
    ))

pub counted-line : (counted : List ℕ) (count : ℕ) → count ≤ length counted → counted_line (take count counted) ≡ words "counted" ++ entries (name_in counted) count ++ words "\n"
unfolding counted_line name_in row
counted-line counted count h =
    let long : length (take count counted) ≡ count = length-take count counted ∙ omega arith in
    rw (long, entries-same _ (name_in counted) count (λ a l. ap (said (words " ")) (get_or-take count counted a 0 l)))
