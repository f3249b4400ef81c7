-- The text as a whole: which text the answer of a judgement calls for, and the input that is cut off.
--     judged-passed     an accepted judgement's plan meets none of a plan's numbers
--     printed-plan, printed-refusal    the text by the judgement's answer
--     count-few         at most eight loops are named
--     plan-short        an accepted plan's text but for its last line is at most 801 bytes long
--     text-short        an accepted plan's text fits the buffer
--     text-whole        text stored from the buffer's beginning on
--     long-text         bytes past 5,360 change nothing
use Rattle.std.specs.Prelude.{ℕ, ◌+◌, ◌*◌, ◌≤◌, ◌<◌, ◌≡◌, refl, Bool, true, false, not, length, get_or, drop, take, ltb}
use Rattle.std.proofs.Math.Path.{sym, ap}
use Rattle.std.proofs.Common.{ap₂, ◌∙◌, zero-add, arith, length-append, length-take, get_or-take, length-take-le, lit<, ne_eqb, ltb-true, ltb-false}
use mathlib.Core.List.{List, [], ◌∷◌, ◌++◌}
use Rattle.std.proofs.Math.ListN.{get_or-eq_default}
use Rattle.tasks.specs.declared.Plan.{Plan}
use Rattle.tasks.specs.Answer.{Accepted, Refused}
use Rattle.tasks.specs.TaskSet.{row}
use Rattle.tasks.specs.Content.{content_of}
use Rattle.tasks.specs.Tests.{refuse, first_met, bad_edition, tests, test_plan}
use Rattle.tasks.specs.AnswerLaws.{refuse-met, first_met_pass, first_met-stop}
use Rattle.numbers.specs.Bytes.{byte}
use Rattle.numbers.specs.ByteLaws.{Bytes}
use Rattle.codec.specs.Table.{task_size, edition_in, core_count, task_count, slack_count, tasks_at, slack_at, content_in, test1, test2, verdict}
use Rattle.table.specs.declared.Judgement.{Judgement}
use Rattle.table.specs.Judged.{judged}
use Rattle.codec.specs.TaskLaws.{size_times}
use Rattle.table.specs.NamesLaws.{names_are, names-few, names-count, names-first}
use Rattle.laws.specs.SetsLaws.{sets-whole}
use Rattle.roundtrip.proofs.RoundTrip.{judged-fits, judged-passes}
use Rattle.decimal.specs.Decimal.{words, Stored}
use Rattle.text.specs.Printed.{refusal_line, counted_line, plan_lines, plan_text, printed}
use Rattle.text.specs.PrintedLaws.{within, lines_short, counts-short, plan-text, names-short, counted-line}

module _ (t : List ℕ) (j : Judgement) (e : j ≡ judged t) where
  verdict_is : j.answer ≡ verdict t
  unfolding judged
  verdict_is = ap (λ (r : Judgement). r.answer) e

  content_is : j.answer ≡ Accepted → content_of j.plan ≡ content_in t
  content_is a = ap (λ (r : Judgement). content_of r.plan) e ∙ judged-fits t (sym verdict_is ∙ a)

  pub judged-passed : j.answer ≡ Accepted → test_plan j.plan ≡ Accepted
  judged-passed a = ap (λ (r : Judgement). test_plan r.plan) e ∙ judged-passes t (sym verdict_is ∙ a)

  pub printed-plan : j.answer ≡ Accepted → plan_lines (content_of j.plan) ++ counted_line (take j.count j.counted) ≡ printed t
  unfolding printed plan_text
  printed-plan a =
      let v = sym verdict_is ∙ a in
      rw v (ap₂ ◌++◌ (ap plan_lines (content_is a)) (ap counted_line (names-first t j e ∙ names_are t v)))

  pub count-few : j.count ≤ 8
  count-few = omega (arith, names-count t j e, names-few t)

  pub printed-refusal : (k i : ℕ) → j.answer ≡ Refused k i → refusal_line k i ≡ printed t
  unfolding printed
  printed-refusal k i a = let v = sym verdict_is ∙ a in rw v

pub plan-short : (p : Plan) → test_plan p ≡ Accepted → length (plan_lines (content_of p)) ≤ 801
plan-short p a =
    rw (plan-text p a _ refl, length-append)
    (omega (arith, within p a, counts-short p a, lines_short p a p.tasks (omega arith)))

pub text-short :
    (p : Plan) (counted : List ℕ) (count : ℕ) → test_plan p ≡ Accepted → count ≤ 8 → count ≤ length counted → ((a : ℕ) → a < count → row counted a < 16)
    → length (plan_lines (content_of p) ++ counted_line (take count counted)) ≤ 1024
unfolding words
text-short p counted count a few fits low =
    rw (counted-line counted count fits)
    (simp length-append (omega (arith, plan-short p a, names-short counted count low)))

pub text-whole :
    (t l : List ℕ) {u l' : List ℕ} {r : ℕ} → u ≡ printed t → length u ≤ 1024 → length l ≡ 1024 → Stored l 0 u r l'
    → (r ≡ length (printed t)) × (l' ≡ printed t ++ drop (length (printed t)) l)
text-whole t l {u} e h n s = rw (← e) (s.place ∙ zero-add _, s.left ∙ sets-whole l u (omega arith))

-- ---- input that is longer than any table

-- no table is longer than its counts give in edition 2, each at most 255: 1 + 1 + 255 + 1 + 16 × 255 + 1 + 4 × 255 = 5,359 bytes
long_second : (t : List ℕ) → Bytes t → 5360 ≤ length t → test2 t ≡ Refused 2 0
unfolding test2 slack_at tasks_at core_count task_count slack_count Bytes
long_second t b h =
    refuse-met 2 _
    (ap not (ne_eqb (length t) (slack_at t + 4 * slack_count t) (λ e. omega (arith, e, size_times (edition_in t) (task_count t), b 1, b (2 + core_count t), b (tasks_at t + task_size (edition_in t) * task_count t)))))

-- so a longer input is refused by its first byte: 1, or else 2
abbrev by_first : Bool → ℕ
by_first true = 1
by_first false = 2

long-verdict : (t : List ℕ) → Bytes t → 5360 ≤ length t → verdict t ≡ Refused (by_first (bad_edition (edition_in t))) 0
unfolding verdict test1
long-verdict t b h = go (bad_edition (edition_in t)) refl
  where
    go : (q : Bool) → bad_edition (edition_in t) ≡ q → first_met (refuse 1 (bad_edition (edition_in t)) ∷ test2 t ∷ tests (content_in t) ∷ []) ≡ Refused (by_first (bad_edition (edition_in t))) 0
    go true e = rw e (first_met-stop _ _ 1 0 refl)
    go false e = rw e (first_met_pass Accepted _ refl ∙ first_met-stop _ _ 2 0 (long_second t b h))

-- a refused table's text is a matter of its refusal
refused-text : (t u : List ℕ) (k i : ℕ) → verdict t ≡ Refused k i → verdict u ≡ Refused k i → printed t ≡ printed u
unfolding printed
refused-text t u k i e q = rw (e, q)

bytes_take : (n : ℕ) (t : List ℕ) → Bytes t → Bytes (take n t)
unfolding Bytes byte
bytes_take n t b i = go (ltb i n) refl
  where
    go : (q : Bool) → ltb i n ≡ q → get_or (take n t) i 0 < 256
    go true e = rw (get_or-take n t i 0 (ltb-true i n e)) (b i)
    go false e = rw (get_or-eq_default (take n t) 0 {n = i} (omega (arith, ltb-false i n e, length-take n t))) (lit< tt)

pub long-text : (t : List ℕ) → Bytes t → 5360 ≤ length t → printed (take 5360 t) ≡ printed t
unfolding byte
long-text t b h =
    let same : byte (take 5360 t) 0 ≡ byte t 0 = get_or-take 5360 t 0 0 (lit< tt) in
    refused-text (take 5360 t) t _ 0
    (long-verdict (take 5360 t) (bytes_take 5360 t b) (omega (arith, length-take-le 5360 t h)) ∙ rw same)
    (long-verdict t b h)
