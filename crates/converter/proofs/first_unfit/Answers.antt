-- `converter::first_unfit` meets its contract: where the search of the used places ends, the scan ends.
use Rattle.std.proofs.Common.{rules, ℕ, ◌≡◌, cond, ◌≤◌, ◌<◌, length, Bool, true, false, List, take, get_or, arith, sym, ◌∙◌, get_or-take, length-take-le}
use borrow.Author.Tests.{tests}
use Rattle.std.specs.declared.option.Option.{Option}
use Rattle.std.specs.declared.option.Option.TheVariants.{None, Some}
use Rattle.std.specs.Option.{MatchOption, unwrap_or}
use Rattle.std.specs.List.{AllWithin, HoldsAt}
use Rattle.std.proofs.lemmas.Iterator.{IsFirst-from_position, YieldsList-from_slice}
use Rattle.laws.specs.First.{first}
use Rattle.laws.specs.FirstLaws.{none_first, first_unique}
use Rattle.tasks.specs.declared.Task.{Task}
use Rattle.tasks.specs.Content.{has_deadlines, task_of, no_task}
use Rattle.conversion.specs.Converted.{no_offset, other_deadline}
use Rattle.converter.proofs.first_unfit.Goals as goal

module _ {A : Type 0} (test : A → Bool) (l : List A) (n : ℕ) (d : A) (room : n ≤ length l) where
  abbrev Passes : Bool → A → Type 0
  Passes b x = test x ≡ b

  within : (i : ℕ) (b : Bool) → i < n → Passes b (get_or (take n l) i d) → test (get_or l i d) ≡ b
  within i b h p = rw (sym (get_or-take n l i d h)) p

  -- the place found, or n, is where the scan of the first n elements ends
  found : (r : Option ℕ) → MatchOption r (AllWithin (Passes false) (take n l) 0 (length (take n l))) (λ i. (i < length (take n l)) × HoldsAt (Passes true) (take n l) i × AllWithin (Passes false) (take n l) 0 i)
      → unwrap_or r n ≡ first (λ i. test (get_or l i d)) n
  found None none = sym (none_first _ n (λ i h. within i false h (none i d (omega arith) (omega (arith, length-take-le n l room)))))
  found (Some i) one =
      let below : i < n = omega (arith, one.0, length-take-le n l room) in
      sym (first_unique _ n i below (within i true below (one.1 d)) (λ j h. within j false (omega arith) (one.2 j d (omega arith) h)))

pub returns : goal.returns
unfolding task_of no_task
returns c =
    let a = c.args in
    let test = λ (t : Task). cond (has_deadlines a.edition) (no_offset t) (other_deadline t) in
    c.unwrap_or.ensures
    ∙ found test a.task a.tasks no_task (omega arith) _
    (IsFirst-from_position _ _ _ (λ t. test t ≡ true) (λ t. test t ≡ false) c.position.ensures.ran (YieldsList-from_slice _ c.iter.ensures.rest) (λ x q k. search (rules, tests)) (λ x q k. search (rules, tests)))
