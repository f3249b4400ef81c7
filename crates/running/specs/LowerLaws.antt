-- Laws of ticks in which nobody finishes.
--     lowered-runs           the same loops run in the machine after them
--     wait-wait              some steps and then some more
--     wait-lowered           so many steps after a history lead there, if every running head has more work than that
use Prim.Native.Nat.{ℕ, zero, suc, pred, ◌+◌, ◌-◌, ◌≤◌, ◌<◌}
use Rattle.std.specs.Prelude.{Bool, cond, ◌≡◌}
use Rattle.std.proofs.Math.Bool.{true, false}
use Rattle.std.proofs.Math.Path.{refl, ap, fun_ext}
use Rattle.std.proofs.Common.{sym, ◌∙◌, arith}
use mathlib.Core.List.{List, [], ◌∷◌}
use Rattle.tasks.specs.TaskSet.{TaskSet}
use Rattle.machine.specs.Machine.{Job, job, Machine, pending, waiting, head_release, released, chosen, runs, left_of, served, advanced, tick}
use Rattle.machine.proofs.EarlierLaws.{before_same}
use Rattle.state.proofs.ViewLaws.{machine_ext}
use Rattle.history.specs.Engine.{Call, step, state}
use Rattle.history.specs.Log.{wait}
use Rattle.history.specs.OnMachine.{machine_engine}
use Rattle.heads.specs.Order.{head_work}
use Rattle.running.specs.Lower.{lower_head, lowered}

module _ (s : TaskSet) (M : Machine) (run : ℕ → Bool) (k : ℕ) where
  lowered-waiting : waiting (lowered run k M) ≡ waiting M
  unfolding waiting lowered
  lowered-waiting = fun_ext (λ i. at (run i) (M.lane i).queue)
    where
      at : (b : Bool) (q : List Job) → pending (cond b (lower_head k q) q) ≡ pending q
      at true [] = refl
      at true (job r w ∷ q) = refl
      at false q = refl

  lowered-released : released (lowered run k M) ≡ released M
  unfolding lowered
  lowered-released = fun_ext (λ i. at (run i) (M.lane i).queue)
    where
      at : (b : Bool) (q : List Job) → head_release (cond b (lower_head k q) q) ≡ head_release q
      at true [] = refl
      at true (job r w ∷ q) = refl
      at false q = refl

  lowered-chosen : chosen s (lowered run k M) ≡ chosen s M
  unfolding chosen
  lowered-chosen = rw (before_same s M (lowered run k M) lowered-released, lowered-waiting)

  pub lowered-runs : (i : ℕ) → runs s (lowered run k M) i ≡ runs s M i
  unfolding runs
  lowered-runs i = rw lowered-chosen

lowered_none : (M : Machine) (run : ℕ → Bool) → lowered run 0 M ≡ M
unfolding lowered
lowered_none M run =
    machine_ext (lowered run 0 M) M (omega arith)
    (λ i. ap (λ (q : List Job). record { last = (M.lane i).last; queue = q }) (at (run i) (M.lane i).queue))
  where
    at : (b : Bool) (q : List Job) → cond b (lower_head 0 q) q ≡ q
    at true [] = refl
    at true (job r w ∷ q) = let e : w - 0 ≡ w = omega arith in ap (λ (v : ℕ). job r v ∷ q) e
    at false q = refl

module _ (s : TaskSet) (M : Machine) where
  -- whether every running head has more than k ticks of work
  abbrev pub MoreThan : ℕ → Type 0
  MoreThan k = (i : ℕ) → runs s M i ≡ true → k < head_work (M.lane i).queue

  lowered-tick : (k : ℕ) → MoreThan (suc k) → tick s (lowered (runs s M) k M) ≡ lowered (runs s M) (suc k) M
  unfolding tick advanced lowered served
  lowered-tick k more =
      machine_ext (tick s (lowered (runs s M) k M)) (lowered (runs s M) (suc k) M) (omega arith)
      (λ i. ap (λ (q : List Job). record { last = (M.lane i).last; queue = q })
      (rw (lowered-runs s M (runs s M) k i) (at (runs s M i) (M.lane i).queue (more i))))
    where
      one : (r v : ℕ) (q : List Job) → 1 ≤ v → left_of r v q ≡ job r v ∷ q
      one r zero q h = absurd (omega arith)
      one r (suc v) q h = refl

      at :
          (b : Bool) (q : List Job) → (b ≡ true → suc k < head_work q)
          → cond b (served (cond b (lower_head k q) q)) (cond b (lower_head k q) q) ≡ cond b (lower_head (suc k) q) q
      at true [] h = refl
      at true (job r w ∷ q) h =
          let m = h refl in
          let e : pred (w - k) ≡ w - suc k = omega arith in
          rw e (one r (w - suc k) q (omega arith))
      at false q h = refl

pub wait-lowered :
    (s : TaskSet) (h : List Call) (k : ℕ) → MoreThan s (state (machine_engine s) h) k
    → state (machine_engine s) (wait k h) ≡ lowered (runs s (state (machine_engine s) h)) k (state (machine_engine s) h)
wait-lowered s h zero more = sym (lowered_none (state (machine_engine s) h) (runs s (state (machine_engine s) h)))
wait-lowered s h (suc k) more =
    ap (tick s) (wait-lowered s h k (λ i r. omega (arith, more i r)))
    ∙ lowered-tick s (state (machine_engine s) h) k more

pub wait-wait : (a b : ℕ) (h : List Call) → wait a (wait b h) ≡ wait (a + b) h
wait-wait zero b h = let z : 0 + b ≡ b = omega arith in ap (λ (n : ℕ). wait n h) (sym z)
wait-wait (suc a) b h =
    let z : suc a + b ≡ suc (a + b) = omega arith in
    ap (λ (g : List Call). step ∷ g) (wait-wait a b h) ∙ ap (λ (n : ℕ). wait n h) (sym z)
