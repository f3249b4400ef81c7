-- One loop's potential: the work that it owes by a threshold y, times H, and a straight line for what it may still release. T, C, Y are the
-- loop's separation, budget and offset, x its slack, U its share, H the least common multiple of all T and nxt its next release.
--     served-owed           a tick takes H off what a loop owes if it runs with an early head
--     early-served          after a tick the head is early only if it was before
--     chain-line            the chain lemma: the potential of a chain from r on is at most the line from r on
--     release-line          a taken release does not raise the potential
--     calm                  after a tick in which the loop runs if its head is early, the potential is that of a loop with nothing pending
--                           and, where the head was early, the loop's weight
use Prim.Native.Nat.{ℕ, zero, suc, ◌+◌, ◌-◌, ◌*◌, ◌≤◌}
use Rattle.std.specs.Prelude.{Bool, ◌&&◌, ◌≡◌}
use Rattle.std.proofs.Math.Bool.{true, false, cond}
use Rattle.std.proofs.lemmas.Bool.{false≢true}
use Rattle.std.proofs.Math.Path.{refl}
use Rattle.std.proofs.Common.{ap, le_refl, mul-le-mul_left, mul-le-mul_right}
use mathlib.Core.List.{List, [], ◌∷◌, ◌++◌}
use native.Mathlib.Omega.{arith}
use Rattle.std.proofs.Math.Dec.{leb}
use borrow.Author.Tests.{leb-true, leb-false, le-leb}
use Rattle.machine.specs.Machine.{Job, job, left_of, served}
use Rattle.machine.specs.Queue.{Chain, InTime}
use Rattle.machine.specs.Owed.{early, owed, line}

pub line-later : (U T Y y nxt nxt' : ℕ) → nxt ≤ nxt' → line U T Y y nxt' ≤ line U T Y y nxt
line-later U T Y y nxt nxt' h = mul-le-mul_left U (omega arith)

owed-left : (H Y y a v : ℕ) (q : List Job) → leb (a + Y) y ≡ true → owed H Y y (left_of a v q) ≡ H * v + owed H Y y q
owed-left H Y y a zero q e = omega arith
owed-left H Y y a (suc v) q e = rw e

left-late : (H Y y a v : ℕ) (q : List Job) → leb (a + Y) y ≡ false → owed H Y y (left_of a v q) ≡ owed H Y y q
left-late H Y y a zero q e = refl
left-late H Y y a (suc v) q e = rw e (omega arith)

pub served-owed :
    (T C H Y y nxt r : ℕ) (b : Bool) (q : List Job) → Chain T C nxt r q
    → owed H Y y (cond b (served q) q) + H * cond (b && early Y y q) 1 0 ≤ owed H Y y q
unfolding served
served-owed T C H Y y nxt r false q c = omega arith
served-owed T C H Y y nxt r true [] c = omega arith
served-owed T C H Y y nxt r true (job a zero ∷ q) c = absurd (omega arith)
served-owed T C H Y y nxt r true (job a (suc v) ∷ q) c = go (leb (a + Y) y) refl
  where
    go : (b : Bool) → leb (a + Y) y ≡ b → owed H Y y (left_of a v q) + H * cond b 1 0 ≤ cond b (H * suc v) 0 + owed H Y y q
    go true e = omega (arith, owed-left H Y y a v q e)
    go false e = omega (arith, left-late H Y y a v q e)

pub early-served :
    (T C Y y nxt r : ℕ) (b : Bool) (q : List Job) → Chain T C nxt r q → early Y y (cond b (served q) q) ≡ true → early Y y q ≡ true
unfolding served
early-served T C Y y nxt r false q c e = e
early-served T C Y y nxt r true [] c e = e
early-served T C Y y nxt r true (job a zero ∷ q) c e = absurd (omega arith)
early-served T C Y y nxt r true (job a (suc (suc v)) ∷ q) c e = e
early-served T C Y y nxt r true (job a (suc zero) ∷ []) c e = absurd (false≢true e)
early-served T C Y y nxt r true (job a (suc zero) ∷ job a' w ∷ q) c e =
    le-leb (a + Y) y (omega (arith, leb-true (a' + Y) y e))

module _ (T C Y U H : ℕ) (even : U * T ≡ H * C) (offset-high : Y ≤ T) where
  -- T ticks of the line pay for a job of at most C
  paid : (w k z z' : ℕ) → w ≤ C → k ≤ U * z → T + z ≤ z' → H * w + k ≤ U * z'
  paid w k z z' small le less = omega (arith, mul-le-mul_left H small, mul-le-mul_left U less)

  pub chain-line : (y nxt r : ℕ) (q : List Job) → Chain T C nxt r q → owed H Y y q + line U T Y y nxt ≤ line U T Y y r
  chain-line y nxt r [] c = omega (arith, line-later U T Y y r nxt c)
  chain-line y nxt r (job a w ∷ q) c = go (leb (a + Y) y) refl (chain-line y nxt (a + T) q c.3)
    where
      go :
          (b : Bool) → leb (a + Y) y ≡ b → owed H Y y q + line U T Y y nxt ≤ line U T Y y (a + T)
          → cond b (H * w) 0 + owed H Y y q + line U T Y y nxt ≤ line U T Y y r
      go true e ih =
          omega (arith, paid w _ (y + (T - Y) - (a + T)) (y + (T - Y) - r) c.2 ih (omega (arith, leb-true (a + Y) y e)))
      go false e ih = omega (arith, line-later U T Y y r (a + T) (omega arith))

  pub release-line :
      (y t c : ℕ) (q : List Job) → c ≤ C
      → owed H Y y (q ++ job t c ∷ []) + line U T Y y (t + T) ≤ owed H Y y q + line U T Y y t
  release-line y t c [] small = go (leb (t + Y) y) refl
    where
      go : (b : Bool) → leb (t + Y) y ≡ b → cond b (H * c) 0 + 0 + line U T Y y (t + T) ≤ 0 + line U T Y y t
      go true e =
          omega (arith, paid c _ (y + (T - Y) - (t + T)) (y + (T - Y) - t) small (le_refl _) (omega (arith, leb-true (t + Y) y e)))
      go false e = omega (arith, line-later U T Y y t (t + T) (omega arith))
  release-line y t c (job a w ∷ q) small = omega (arith, release-line y t c q small)

  -- v is left of a head that ran, and z ticks from its priority point to the threshold
  ran : (x d v z k : ℕ) → U ≤ H → suc v ≤ C → v + z ≤ d + x + C → k ≤ U * z → H * v + k ≤ U * (d + (T - Y)) + U * (x + Y)
  ran x d v z k less small fits le = go (C - v) (T - Y) (omega arith) (omega arith)
    where
      go : (e S : ℕ) → C ≡ v + e → T ≡ S + Y → H * v + k ≤ U * (d + S) + U * (x + Y)
      go e S p q =
          omega (
            arith,
            ap (λ i. H * i) p,
            ap (λ i. U * i) p,
            ap (λ i. U * i) q,
            mul-le-mul_left U fits,
            mul-le-mul_right e less,
          )

  -- the tick ends at t + 1, the threshold is t + 1 + d, and nxt is the next release after the tick
  module _ (x t d nxt : ℕ) (less : U ≤ H) (later : suc t ≤ nxt) where
    calm-none : line U T Y (suc t + d) nxt ≤ U * (d + (T - Y))
    calm-none = mul-le-mul_left U (omega arith)

    calm-late :
        (r a w : ℕ) (b : Bool) (q : List Job) → Chain T C nxt r (job a w ∷ q) → leb (a + Y) (suc t + d) ≡ false
        → owed H Y (suc t + d) (cond b (served (job a w ∷ q)) (job a w ∷ q)) + line U T Y (suc t + d) nxt ≤ U * (d + (T - Y))
    calm-late r a w b q c e =
        omega (
          arith,
          served-owed T C H Y (suc t + d) nxt r b (job a w ∷ q) c,
          left-late H Y (suc t + d) a w q e,
          rest (leb (a + Y) (suc t + d)) e,
          chain-line (suc t + d) nxt (a + T) q c.3,
          mul-le-mul_left U short,
        )
      where
        rest : (f : Bool) → f ≡ false → cond f (H * w) 0 + owed H Y (suc t + d) q ≡ owed H Y (suc t + d) q
        rest f e = rw e (omega arith)

        short : suc t + d + (T - Y) - (a + T) ≤ d + (T - Y)
        short = omega (arith, leb-false (a + Y) (suc t + d) e)

    calm-early :
        (r a w : ℕ) (q : List Job) → Chain T C nxt r (job a w ∷ q) → t + w ≤ a + (Y + x + C) → leb (a + Y) (suc t + d) ≡ true
        → owed H Y (suc t + d) (served (job a w ∷ q)) + line U T Y (suc t + d) nxt ≤ U * (d + (T - Y)) + U * (x + Y)
    unfolding served
    calm-early r a zero q c h e = absurd (omega arith)
    calm-early r a (suc v) q c h e =
        omega (
          arith,
          owed-left H Y (suc t + d) a v q e,
          ran x d v (suc t + d + (T - Y) - (a + T)) _ less c.2 (omega (arith, leb-true (a + Y) (suc t + d) e))
              (chain-line (suc t + d) nxt (a + T) q c.3),
        )

    pub calm :
        (r : ℕ) (b : Bool) (q : List Job) → Chain T C nxt r q → InTime t (Y + x + C) q → (early Y (suc t + d) q ≡ true → b ≡ true)
        → owed H Y (suc t + d) (cond b (served q) q) + line U T Y (suc t + d) nxt
        ≤ U * (d + (T - Y)) + cond (early Y (suc t + d) q) (U * (x + Y)) 0
    unfolding served
    calm r true [] c h runs = omega (arith, calm-none)
    calm r false [] c h runs = omega (arith, calm-none)
    calm r b (job a w ∷ q) c h runs = go (leb (a + Y) (suc t + d)) refl
      where
        go :
            (f : Bool) → leb (a + Y) (suc t + d) ≡ f
            → owed H Y (suc t + d) (cond b (served (job a w ∷ q)) (job a w ∷ q)) + line U T Y (suc t + d) nxt
            ≤ U * (d + (T - Y)) + cond f (U * (x + Y)) 0
        go true e = rw (runs e) (calm-early r a w q c h e)
        go false e = omega (arith, calm-late r a w b q c e)
