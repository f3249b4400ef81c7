-- When a release is taken, and what a step's answer names: the calls' answers in the machine's words.
--     reached-room        in a machine that is reached 23 is never met where 22 isn't
--     named-runs          a step's answer names loop i on some core exactly where the machine chose it
use Rattle.std.specs.Prelude.{ℕ, zero, suc, ◌+◌, ◌-◌, ◌≤◌, ◌<◌, ◌≡◌, refl, Bool, true, false, List, ◌++◌, get_or, replicate, ltb, eqb}
use Rattle.std.proofs.Common.{sym, ◌∙◌, arith, length-append, get_or-append-add, ltb-true, ltb-false, ne_eqb}
use Rattle.std.proofs.Math.Bool.{or-false}
use Rattle.std.proofs.Math.ListN.{length, length-take, get_or-append, get_or-eq_default}
use Rattle.std.proofs.lemmas.List.{length-replicate}
use Rattle.laws.specs.Tab.{tab}
use Rattle.laws.specs.TabLaws.{ext_tab, get_or_alike}
use Rattle.laws.specs.Member.{member}
use Rattle.laws.specs.MemberLaws.{member-append}
use Rattle.tasks.specs.Answer.{Accepted}
use Rattle.tasks.specs.TaskSet.{TaskSet}
use Rattle.tasks.specs.Content.{Content}
use Rattle.tasks.specs.Tests.{tests}
use Rattle.tasks.proofs.TestsLaws.{tests-limits, tests-compliant, tests-bounded}
use Rattle.machine.specs.Machine.{Machine, too_soon, full, chosen, idle, on_core, runs}
use Rattle.machine.specs.Reached.{Reached}
use Rattle.machine.proofs.Theorem.{never_full}

module _ (k : Content) (a : tests k ≡ Accepted) (M : Machine) (r : Reached k.tasks M) (i : ℕ) where
  pub reached-room : i < k.tasks.count → too_soon k.tasks M i ≡ false → full M i ≡ false
  reached-room = never_full k.tasks k.slack (tests-limits k a) (tests-compliant k a) (tests-bounded k a) M r i

-- ---- what an answer names

-- a list read at n places, d past its end
padded : (l : List ℕ) (d n : ℕ) → length l ≤ n → tab (λ k. get_or l k d) n ≡ l ++ replicate (n - length l) d
padded l d n h =
    sym
    (ext_tab (λ k. get_or l k d) (l ++ replicate (n - length l) d) n d
    (length-append l (replicate (n - length l) d) ∙ rw (length-replicate (n - length l) d) (omega arith))
    (λ k m. at k (ltb k (length l)) refl))
  where
    at : (k : ℕ) (b : Bool) → ltb k (length l) ≡ b → get_or (l ++ replicate (n - length l) d) k d ≡ get_or l k d
    at k true e = get_or-append l (replicate (n - length l) d) d k (ltb-true k (length l) e)
    at k false e =
        let far : length l ≤ k = ltb-false k (length l) e in
        let there : length l + (k - length l) ≡ k = omega arith in
        (rw there at (get_or-append-add l (replicate (n - length l) d) (k - length l) d))
        ∙ get_or_alike (n - length l) (k - length l) d
        ∙ sym (get_or-eq_default l d far)

never_named : (i d m : ℕ) → eqb i d ≡ false → member i (replicate m d) ≡ false
unfolding member
never_named i d zero e = refl
never_named i d (suc m) e = rw e (never_named i d m e)

module _ (s : TaskSet) (M : Machine) (few : s.cores ≤ 8) where
  short : length (chosen s M) ≤ 8
  unfolding chosen
  short = rw length-take (omega arith)

  pub named-runs : (i : ℕ) → (i ≡ idle → ⊥) → member i (tab (on_core s M) 8) ≡ runs s M i
  unfolding on_core runs
  named-runs i h =
      rw (
        padded (chosen s M) 255 8 short,
        member-append i (chosen s M) (replicate (8 - length (chosen s M)) 255),
        never_named i 255 (8 - length (chosen s M)) (ne_eqb i 255 h),
      )
      (or-false (member i (chosen s M)))
