-- Who runs, and on which core. Document 01: "They take the cores in that order, the earliest on the lowest label": what `chosen`, a beginning of the
-- ranked heads, gives.
--     earlier-runs      of two heads the one that goes ahead runs if the other does
--     core_runs         the loop on a busy core, one of the m, runs; runs_core: and a loop that runs is on one of them
--     cores-first       the busy cores come first
--     cores-order       of two busy cores the lower one has the loop that goes ahead; earlier_core: and back
use Rattle.std.specs.Prelude.{ℕ, ◌≤◌, ◌<◌, Bool, ◌≡◌}
use Rattle.std.proofs.Math.Bool.{true, false}
use Rattle.std.proofs.Math.Path.{refl}
use Rattle.std.proofs.Common.{arith}
use Rattle.std.proofs.Math.ListN.{length, get_or-eq_default}
use Rattle.std.proofs.Math.Dec.{ltb}
use borrow.Author.Tests.{ltb-true, ltb-false}
use Rattle.laws.specs.MemberLaws.{member-at, member-stands}
use Rattle.laws.specs.RankLaws.{Sorted, sorted-at, sorted-places, chosen_in, chosen-length, chosen-sorted, ahead-chosen}
use Rattle.tasks.specs.TaskSet.{TaskSet}
use Rattle.machine.specs.Machine.{Machine, waiting, before, chosen, idle, on_core, runs}
use Rattle.machine.specs.BeforeLaws.{Earlier}
use Rattle.machine.proofs.BeforeLaws.{heads-order}
use Rattle.machine.proofs.EarlierLaws.{earlier-ahead, ahead-earlier}
use Rattle.machine.specs.Cores.{Busy}

module _ (s : TaskSet) (M : Machine) where
  chosen_in_order : Sorted (before s M) (chosen s M)
  unfolding chosen
  chosen_in_order = chosen-sorted (before s M) (waiting M) s.cores s.count (heads-order s M)

  pub earlier-runs : (i j : ℕ) → Earlier s M i j → i < s.count → waiting M i ≡ true → runs s M j ≡ true → runs s M i ≡ true
  unfolding runs chosen
  earlier-runs i j e h wait r =
      ahead-chosen (before s M) (waiting M) s.cores s.count (heads-order s M) j i r h wait (earlier-ahead s M i j e)

  -- no table has a loop with the number that stands for an idle core
  module _ (few : s.count ≤ idle) where
    place-of : (k : ℕ) → Busy s M k → k < length (chosen s M)
    unfolding on_core
    place-of k h = go (ltb k (length (chosen s M))) refl
      where
        go : (b : Bool) → ltb k (length (chosen s M)) ≡ b → k < length (chosen s M)
        go true e = ltb-true k (length (chosen s M)) e
        go false e = absurd (omega (arith, get_or-eq_default (chosen s M) idle (ltb-false k (length (chosen s M)) e)))

    at_place : (k : ℕ) → k < length (chosen s M) → runs s M (on_core s M k) ≡ true
    unfolding on_core runs
    at_place k h = member-at (chosen s M) k idle h

    pub core_runs : (k : ℕ) → Busy s M k → (k < s.cores) × (runs s M (on_core s M k) ≡ true)
    unfolding chosen
    core_runs k h = (omega (arith, place-of k h, chosen-length (before s M) (waiting M) s.cores s.count), at_place k (place-of k h))

    pub cores-first : (a b : ℕ) → a < b → Busy s M b → Busy s M a
    unfolding runs chosen
    cores-first a b less h =
        (chosen_in (before s M) (waiting M) s.cores s.count (on_core s M a) (at_place a (omega (arith, place-of b h)))).0

    pub cores-order : (a b : ℕ) → a < b → Busy s M b → Earlier s M (on_core s M a) (on_core s M b)
    unfolding on_core
    cores-order a b less h =
        ahead-earlier s M (on_core s M a) (on_core s M b) (sorted-at (before s M) (chosen s M) chosen_in_order a b idle less (place-of b h))

    pub earlier_core : (a b : ℕ) → Busy s M a → Earlier s M (on_core s M a) (on_core s M b) → a < b
    unfolding on_core
    earlier_core a b h e =
        sorted-places (before s M) (chosen s M) chosen_in_order a b idle (place-of a h) (earlier-ahead s M (on_core s M a) (on_core s M b) e)

  pub runs_core : (i : ℕ) → runs s M i ≡ true → (k : ℕ) × (k < s.cores) × (on_core s M k ≡ i)
  unfolding runs on_core chosen
  runs_core i r =
      let p = member-stands (chosen s M) i idle r in
      (p.0, omega (arith, p.1, chosen-length (before s M) (waiting M) s.cores s.count), p.2)
