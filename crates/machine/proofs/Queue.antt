-- One loop's queue: its order, and that its head is in time for the loop's bound. T, C are the loop's separation and budget.
--     chain-later, chain_since, chain-served, chain-joined
--                            a chain stays one: with a later nxt; seen from an earlier r; after a tick; with one release more
--     chain_length           as many jobs as q has take as many T
--     in_time_served         it stays so in a tick in which it runs, and so does the job behind it where it finishes
--     in_time_joined         and in a taken release
--     all_in_time            with the head every job of the queue is in time
--     in_time_response       a head that finishes has finish tick − release tick at most b
--     in_time_room           a queue whose separation has passed is shorter than 16, if b is at most 16 × T
use Prim.Native.Nat.{ℕ, zero, suc, ◌+◌, ◌*◌, ◌≤◌, ◌<◌}
use Rattle.std.specs.Prelude.{Bool, true, false, ◌≡◌, refl, length, leb}
use Rattle.std.proofs.Math.Option.{Option, none, some}
use mathlib.Core.List.{List, [], ◌∷◌, ◌++◌}
use Rattle.std.proofs.Common.{le_trans, le_refl, mul-le-mul_right, leb-true, leb-false, ltb-false}
use native.Mathlib.Omega.{arith}
use Rattle.machine.specs.Machine.{Job, job, within, served, response}
use Rattle.machine.specs.Reached.{AllInTime}
use Rattle.machine.specs.Queue.{next, Chain, InTime}

pub next-later : (T t : ℕ) (last : Option ℕ) → next T t last ≤ next T (suc t) last
next-later T t none = omega arith
next-later T t (some l) = omega arith

pub next-clock : (T t : ℕ) (last : Option ℕ) → t ≤ next T t last
next-clock T t none = omega arith
next-clock T t (some l) = omega arith

-- where 22 isn't met a release can be taken now
pub next-free : (T t : ℕ) (last : Option ℕ) → within T t last ≡ false → next T t last ≡ t
next-free T t none e = refl
next-free T t (some l) e = omega (arith, ltb-false)

-- and after it not before T ticks have passed
pub next-taken : (T t : ℕ) → next T t (some t) ≡ t + T
next-taken T t = omega arith

module _ (T C : ℕ) where
  pub chain-later : (nxt nxt' r : ℕ) (q : List Job) → nxt ≤ nxt' → Chain T C nxt r q → Chain T C nxt' r q
  chain-later nxt nxt' r [] h c = le_trans c h
  chain-later nxt nxt' r (job a w ∷ q) h c = (c.0, c.1, c.2, chain-later nxt nxt' (a + T) q h c.3)

  pub chain_since : (nxt r r' : ℕ) (q : List Job) → r' ≤ r → Chain T C nxt r q → Chain T C nxt r' q
  chain_since nxt r r' [] h c = le_trans h c
  chain_since nxt r r' (job a w ∷ q) h c = (le_trans h c.0, c.1, c.2, c.3)

  pub chain-served : (nxt r : ℕ) (q : List Job) → Chain T C nxt r q → Chain T C nxt r (served q)
  unfolding served
  chain-served nxt r [] c = c
  chain-served nxt r (job a zero ∷ q) c = chain_since nxt (a + T) r q (omega arith) c.3
  chain-served nxt r (job a (suc zero) ∷ q) c = chain_since nxt (a + T) r q (omega arith) c.3
  chain-served nxt r (job a (suc (suc w)) ∷ q) c = (c.0, omega arith, omega arith, c.3)

  pub chain-joined : (t c r : ℕ) (q : List Job) → 1 ≤ c → c ≤ C → Chain T C t r q → Chain T C (t + T) r (q ++ job t c ∷ [])
  chain-joined t c r [] low high h = (h, low, high, le_refl _)
  chain-joined t c r (job a w ∷ q) low high h = (h.0, h.1, h.2, chain-joined t c (a + T) q low high h.3)

  pub chain_length : (nxt r : ℕ) (q : List Job) → Chain T C nxt r q → r + length q * T ≤ nxt
  chain_length nxt r [] c = omega arith
  chain_length nxt r (job a w ∷ q) c = omega (arith, chain_length nxt (a + T) q c.3)

pub in_time_joined : (t b c : ℕ) (q : List Job) → c ≤ b → InTime t b q → InTime t b (q ++ job t c ∷ [])
in_time_joined t b c [] le h = omega arith
in_time_joined t b c (job a w ∷ q) le h = h

module _ (T C b nxt : ℕ) (small : C ≤ T) where
  pub in_time_served : (t r : ℕ) (q : List Job) → Chain T C nxt r q → InTime t b q → InTime (suc t) b (served q)
  unfolding served
  in_time_served t r [] c h = tt
  in_time_served t r (job a zero ∷ q) c h = absurd (omega arith)
  in_time_served t r (job a (suc (suc w)) ∷ q) c h = omega arith
  in_time_served t r (job a (suc zero) ∷ []) c h = tt
  in_time_served t r (job a (suc zero) ∷ job a' w ∷ q) c h = omega arith

  -- the job behind is released T or more later and has at most C left
  in_time_behind : (t a w : ℕ) (q : List Job) → t + w ≤ a + b → Chain T C nxt (a + T) q → InTime (t + w) b q
  in_time_behind t a w [] h c = tt
  in_time_behind t a w (job a' w' ∷ q) h c = omega arith

  pub all_in_time : (t r : ℕ) (q : List Job) → Chain T C nxt r q → InTime t b q → AllInTime t b q
  all_in_time t r [] c h = tt
  all_in_time t r (job a w ∷ q) c h = (h, all_in_time (t + w) (a + T) q c.3 (in_time_behind t a w q h c.3))

  pub in_time_response : (t r : ℕ) (q : List Job) → Chain T C nxt r q → InTime t b q → response (suc t) q ≤ b
  unfolding response
  in_time_response t r [] c h = omega arith
  in_time_response t r (job a zero ∷ q) c h = absurd (omega arith)
  in_time_response t r (job a (suc zero) ∷ q) c h = omega arith
  in_time_response t r (job a (suc (suc w)) ∷ q) c h = omega arith

  -- with 16 jobs the head would be 16 × T old, and its bound past
  pub in_time_room : (r : ℕ) (q : List Job) → b ≤ 16 * T → Chain T C nxt r q → InTime nxt b q → length q < 16
  in_time_room r [] le c h = omega arith
  in_time_room r (job a w ∷ q) le c h = go (leb 15 (length q)) refl
    where
      go : (f : Bool) → leb 15 (length q) ≡ f → suc (length q) < 16
      go true e = absurd (omega (arith, chain_length T C nxt (a + T) q c.3, mul-le-mul_right T (leb-true 15 (length q) e)))
      go false e = omega (arith, leb-false 15 (length q) e)
