-- Laws of the names that a judgement hands back.
--     names_are       where the table is accepted, they are the loops counted at its slack; names-length: none where loops are no more than cores, else
--                     m − 1; names-few: never more than seven
--     names-count     how many it says
--     names-first     the first so many of its places have them; names-low: each is below 16
use Rattle.std.specs.Prelude.{Ok, Err, ℕ, ◌-◌, ◌≤◌, ◌<◌, ◌≡◌, Bool, take}
use Rattle.std.proofs.Math.Path.{refl, ap}
use Rattle.std.proofs.Common.{sym, ◌∙◌, leb-false}
use Rattle.std.proofs.Math.Bool.{true, false, cond}
use Rattle.std.proofs.lemmas.Bool.{false≢true}
use mathlib.Core.List.{List, []}
use native.Mathlib.Omega.{arith}
use Rattle.std.proofs.Math.ListN.{length, get_or}
use Rattle.laws.specs.TabLaws.{get_or-tab, take-tab}
use Rattle.laws.specs.Member.{member}
use Rattle.laws.specs.MemberLaws.{member-at}
use Rattle.tasks.specs.Answer.{Answer, Accepted, Refused}
use Rattle.tasks.specs.TaskSet.{counted, core_for_each, row}
use Rattle.tasks.specs.Content.{counted_of}
use Rattle.tasks.specs.Tests.{tests}
use Rattle.tasks.specs.AnswerLaws.{first_met-passed}
use Rattle.tasks.proofs.AmountLaws.{counted-below, counted-length}
use Rattle.tasks.specs.Limits.{Limits}
use Rattle.tasks.proofs.TestsLaws.{tests-limits}
use Rattle.codec.specs.Table.{content_in, test1, test2, verdict}
use Rattle.table.specs.declared.Judgement.{Judgement}
use Rattle.table.specs.Judged.{counted_in, judged}

module _ (t : List ℕ) where
  pub names_are : verdict t ≡ Accepted → counted_in t ≡ counted_of (content_in t)
  unfolding counted_in
  names_are a = rw a

  limits : verdict t ≡ Accepted → Limits (content_in t).tasks
  unfolding verdict
  limits a = tests-limits (content_in t) (first_met-passed (tests (content_in t)) _ (first_met-passed (test2 t) _ (first_met-passed (test1 t) _ a).1).1).0

  pub names-length :
      verdict t ≡ Accepted
      → length (counted_in t) ≡ cond (core_for_each (content_in t).tasks.cores (content_in t).tasks.count) 0 ((content_in t).tasks.cores - 1)
  unfolding counted_of
  names-length a = ap length (names_are a) ∙ go (core_for_each (content_in t).tasks.cores (content_in t).tasks.count) refl
    where
      go :
          (b : Bool) → core_for_each (content_in t).tasks.cores (content_in t).tasks.count ≡ b
          → length (cond b [] (counted (content_in t).tasks (content_in t).slack)) ≡ cond b 0 ((content_in t).tasks.cores - 1)
      go true each = refl
      go false more = counted-length (content_in t).tasks (content_in t).slack (leb-false _ _ more)

  names-none : (k i : ℕ) → verdict t ≡ Refused k i → length (counted_in t) ≡ 0
  unfolding counted_in
  names-none k i e = rw e

  -- what holds of the names of an accepted table, and where there are none, holds
  names-cases : (P : Type 0) → (verdict t ≡ Accepted → P) → (length (counted_in t) ≡ 0 → P) → P
  names-cases P some none = go (verdict t) refl
    where
      go : (a : Answer) → verdict t ≡ a → P
      go (Ok tt) e = some e
      go (Err r) e = none (names-none r.number r.index e)

  pub names-few : length (counted_in t) ≤ 7
  names-few = names-cases _ (λ e. few e (core_for_each (content_in t).tasks.cores (content_in t).tasks.count) (names-length e)) (λ z. omega arith)
    where
      few : verdict t ≡ Accepted → (b : Bool) → length (counted_in t) ≡ cond b 0 ((content_in t).tasks.cores - 1) → length (counted_in t) ≤ 7
      few e true n = omega arith
      few e false n = omega (arith, (limits e).cores-high)

  names-loops : (a : ℕ) → a < length (counted_in t) → get_or (counted_in t) a 0 < 16
  unfolding counted_of member
  names-loops a h =
      names-cases _
      (λ e.
      omega (
        arith,
        below (core_for_each (content_in t).tasks.cores (content_in t).tasks.count)
            (ap (member (get_or (counted_in t) a 0)) (sym (names_are e)) ∙ member-at (counted_in t) a 0 h),
        (limits e).tasks-high,
      ))
      (λ z. absurd (omega arith))
    where
      below :
          (b : Bool) → member (get_or (counted_in t) a 0) (cond b [] (counted (content_in t).tasks (content_in t).slack)) ≡ true
          → get_or (counted_in t) a 0 < (content_in t).tasks.count
      below true m = absurd (false≢true m)
      below false m = counted-below (content_in t).tasks (content_in t).slack (get_or (counted_in t) a 0) m

  module _ (j : Judgement) (e : j ≡ judged t) where
    pub names-count : j.count ≡ length (counted_in t)
    unfolding judged
    names-count = ap (λ (r : Judgement). r.count) e

    pub names-first : take j.count j.counted ≡ counted_in t
    unfolding judged row
    names-first = rw e (take-tab (counted_in t) 8 0 (omega (arith, names-few)))

    pub names-low : (a : ℕ) → a < j.count → row j.counted a < 16
    unfolding judged row
    names-low a h =
        let low : a < length (counted_in t) = omega (arith, names-count) in
        rw (e, get_or-tab (λ i. get_or (counted_in t) i 0) 8 a 0 (omega (arith, names-few))) (names-loops a low)
