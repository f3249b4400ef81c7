use mathlib.Core.Bool.{Bool, true}
use mathlib.Core.List.{List}
use Rattle.slack.specs.ArraysLaws.{sweep_none, sweep_old, sweep_set}
use borrow.Author.Tests.{eq-eqb, ne_eqb}
use mathlib.Core.Bool.{not}
use lib.Dec.{ltb, eqb}
use Rattle.laws.specs.First.{first}
use Rattle.laws.specs.Tab.{tab}
use Rattle.tasks.specs.TaskSet.{row}
use Rattle.slack.specs.Arrays.{lifted, upto}
use Rattle.slack.specs.ArraysLaws.{changed_more, changed_same}
use native.Mathlib.Omega.{arith}
use Prim.Native.Nat.{ℕ, ◌<◌, ◌+◌}
use mathlib.Core.Path.{◌≡◌, refl, sym, ◌∙◌}
use lib.ListN.{set}
use Rattle.slack.proofs.vector.Divided.raise.Goals.{else-new-old, then-new-old}
use Rattle.slack.proofs.vector.Divided.raise.Goals as goal

-- one turn: the entry at i, `old` before and `new` after, and whether an entry has changed
module _ (f g : ℕ → ℕ) (l : List ℕ) (i old new : ℕ) (h : i < 16) (inv : l ≡ tab (upto i f g) 16) (o : old ≡ row l i) (v : new ≡ f i) where
  was : old ≡ g i
  was = o ∙ sweep_old f g l i h inv

  stored : set l i new ≡ tab (upto (i + 1) f g) 16
  stored = rw v (sweep_set f g l i h inv)

  flagged : (new ≡ old → ⊥) → true ≡ ltb (first (λ k. not (eqb (g k) (f k))) (i + 1)) (i + 1)
  flagged n =
      sym (changed_more (λ k. not (eqb (g k) (f k))) i (rw (ne_eqb (g i) (f i) (λ e. n (v ∙ sym e ∙ sym was)))))

  unflagged :
      (b : Bool) → new ≡ old → b ≡ ltb (first (λ k. not (eqb (g k) (f k))) i) i →
      b ≡ ltb (first (λ k. not (eqb (g k) (f k))) (i + 1)) (i + 1)
  unflagged b e k = changed_same (λ k. not (eqb (g k) (f k))) i b k (rw (eq-eqb (g i) (f i) (sym was ∙ sym e ∙ v)))

pub loop-i-init : goal.loop-i-init
unfolding first
loop-i-init c = (sweep_none _ _ c.requires.0, refl)

pub loop-i-preserved : goal.loop-i-preserved
unfolding row
loop-i-preserved c =
    let a = c.args in
    let l = c.loop-i in
    let f : ℕ → ℕ = λ k. lifted a.whole a.over (row a.self.now.quotient k) (row a.self.now.rest k) in
    let g : ℕ → ℕ = row a.slack.now in
    let v = c.lift-new.ensures in (
      stored f g l.slack l.i _ _ (omega arith) l.invariant.0 refl v,
      elim c.if-new-old.branch [ then-new-old w ↦ w.changed-is ∙ flagged f g l.slack l.i _ _ (omega arith) l.invariant.0 refl v w.if-new-old.true | else-new-old w ↦ w.changed-is ∙ unflagged f g l.slack l.i _ _ (omega arith) l.invariant.0 refl v _ w.if-new-old.false l.invariant.1 ],
    )
