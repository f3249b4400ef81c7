-- A leap's code reaches where it says.
--     ready-waits, ready_busy      nobody beyond the table waits, and a head has work left
--     leap_ticks                   how many ticks a leap takes: at least one, and not past its end
--     turning-none                 the heads that are left, nobody noted
--     gone_to                       the loops of the first places of a list
--     done_ended, done_new, all-gone      the loops that were taken out are those that finish, each once
--     turning_end                  all of them noted, the leap is made
use Prim.Native.Nat.{ℕ, zero, suc, pred, ◌+◌, ◌-◌, ◌≤◌, ◌<◌, min}
use Rattle.std.specs.Prelude.{Bool, cond, not, ◌&&◌, ◌||◌, ◌≡◌, ◌≢◌}
use Rattle.std.proofs.Math.Bool.{true, false, and-true, or-true, and-eq-true_iff}
use Rattle.std.proofs.Common.{true≢false, sym, subst, ◌∙◌, eq-or-lt_of_le, le_of_suc-le-suc}
use Rattle.std.proofs.lemmas.Bool.{false≢true}
use Rattle.std.proofs.Math.Path.{refl, ap, fun_ext}
use Rattle.std.proofs.Math.Logic.{⊎_elim}
use mathlib.Core.List.{List, [], ◌∷◌}
use native.Mathlib.Omega.{arith}
use Rattle.std.proofs.Math.Dec.{leb, eqb}
use borrow.Author.Tests.{le-leb, lt-leb, eqb-true, eqb-false, eq-eqb, ne_eqb}
use Rattle.tasks.specs.declared.Plan.{Plan}
use Rattle.tasks.specs.TaskSet.{TaskSet, row}
use Rattle.tasks.specs.Content.{content_of}
use Rattle.tasks.specs.Limits.{Limits}
use Rattle.machine.specs.Machine.{Job, job, Machine, pending, waiting, runs, left_of, served, advanced, tick}
use Rattle.machine.proofs.Sound.{reached-sound}
use Rattle.machine.proofs.Choice.{earliest}
use Rattle.state.proofs.FitLaws.{in_cores, plan-limits}
use Rattle.history.specs.Engine.{Engine, Call, step, state}
use Rattle.history.proofs.EngineLaws.{clock-wait}
use Rattle.history.specs.Log.{wait}
use Rattle.history.specs.OnMachine.{machine_engine}
use Rattle.history.proofs.Balance.{reached}
use Rattle.history.proofs.Owners.{finishing}
use Rattle.choice.specs.Key.{key_of}
use Rattle.heads.specs.Order.{head_work, Heads, lowest, work_after, HeadsRun, Finishes}
use Rattle.heads.specs.OrderLaws.{loop_in, loop-at, owns_key, runs-place}
use Rattle.heads.specs.HeadLaws.{Ticks, over, heads-remain, after-here, over-here}
use Rattle.running.specs.Lower.{lower_head, lowered}
use Rattle.running.specs.LowerLaws.{MoreThan, lowered-runs, wait-lowered}
use Rattle.running.specs.Running.{Arrays, arrays, Book}
use Rattle.running.specs.WaitLaws.{waits-known}
use Rattle.running.specs.BookLaws.{book-wait, ended, owners_now, stage-none, book-tick}
use Rattle.running.specs.Leap.{Standing, Ready, Reaches, Turning}

-- the least of some ticks and the first places' work
lowest-room : (left : List ℕ) (room k : ℕ) → lowest left room k ≤ room
unfolding lowest
lowest-room left room zero = omega arith
lowest-room left room (suc k) = omega (arith, lowest-room left room k)

lowest-at : (left : List ℕ) (room k a : ℕ) → a < k → lowest left room k ≤ row left a
unfolding lowest
lowest-at left room zero a h = absurd (omega arith)
lowest-at left room (suc k) a h =
    ⊎_elim
    (λ (q : a ≡ k). rw q (omega arith))
    (λ (q : a < k). omega (arith, lowest-at left room k a q))
    (eq-or-lt_of_le (le_of_suc-le-suc h))

lowest-some : (left : List ℕ) (room k : ℕ) → 1 ≤ room → ((a : ℕ) → a < k → 1 ≤ row left a) → 1 ≤ lowest left room k
unfolding lowest
lowest-some left room zero r h = r
lowest-some left room (suc k) r h = omega (arith, lowest-some left room k r (λ a l. h a (omega arith)), h k (omega arith))

-- the loops in the first a places of a list
unfoldable pub gone_to : List ℕ → ℕ → ℕ → Bool
gone_to done zero j = false
gone_to done (suc a) j = gone_to done a j || eqb j (row done a)

gone_in : (done : List ℕ) (j a : ℕ) → gone_to done a j ≡ true → (b : ℕ) × (b < a) × (j ≡ row done b)
unfolding gone_to
gone_in done j zero q = absurd (false≢true q)
gone_in done j (suc a) q = go (gone_to done a j) refl (eqb j (row done a)) refl (gone_in done j a)
  where
    go :
        (y : Bool) → gone_to done a j ≡ y → (z : Bool) → eqb j (row done a) ≡ z → (gone_to done a j ≡ true → (b : ℕ) × (b < a) × (j ≡ row done b))
        → (b : ℕ) × (b < suc a) × (j ≡ row done b)
    go true y z w ih = let r = ih y in (r.0, omega (arith, r.1), r.2)
    go false y true w ih = (a, omega arith, eqb-true j (row done a) w)
    go false y false w ih = absurd (false≢true (sym (rw (y, w)) ∙ q))

pub in_gone : (done : List ℕ) (a b : ℕ) → b < a → gone_to done a (row done b) ≡ true
unfolding gone_to
in_gone done zero b l = absurd (omega arith)
in_gone done (suc a) b l =
    ⊎_elim
    (λ (e : b ≡ a). rw (e, eq-eqb (row done a) (row done a) refl) (or-true (gone_to done a (row done a))))
    (λ (m : b < a). rw (in_gone done a b m))
    (eq-or-lt_of_le (le_of_suc-le-suc l))

module _ {x : Standing} {bytes : List ℕ} {cores : ℕ} {offsets : List ℕ} {clock to : ℕ} {W : Arrays} (R : Ready x bytes cores offsets clock to W) where
  abbrev key : List ℕ
  key = W.key

  abbrev left : List ℕ
  left = W.left

  abbrev n : ℕ
  n = W.heads

  abbrev p : Plan
  p = x.plan

  abbrev s : TaskSet
  s = (content_of p).tasks

  abbrev E : Engine
  E = machine_engine s

  abbrev h : List Call
  h = x.made

  abbrev M : Machine
  M = state E h

  abbrev A : Heads s M (λ i. false) key left n
  A = R.stands.heads_are

  limits : Limits s
  limits = plan-limits p R.frame.accepted

  few : s.count ≤ 16
  few = limits.tasks-high

  pub ready-waits : (i : ℕ) → waiting M i ≡ true → i < s.count
  ready-waits = waits-known s h

  waits-low : (i : ℕ) → waiting M i ≡ true → i < 16
  waits-low i w = omega (arith, ready-waits i w, few)

  pub ready_busy : (i : ℕ) → waiting M i ≡ true → 1 ≤ head_work (M.lane i).queue
  unfolding waiting
  ready_busy i w = go (M.lane i).queue refl
    where
      go : (q : List Job) → (M.lane i).queue ≡ q → 1 ≤ head_work q
      go [] z = absurd (false≢true (sym (ap pending z) ∙ w))
      go (job a v ∷ q) z = (rw z at ((reached-sound s (reached s h)).lanes i (ready-waits i w)).rising).2

  place_busy : (a : ℕ) → a < n → 1 ≤ row left a
  place_busy a l = let y = A.sound a l in rw y.1.work_is (ready_busy y.0 y.1.waits)

  module _ (less : clock < to) {r d : ℕ} (r-is : r ≡ min cores W.heads) (d-is : d ≡ lowest W.left (to - clock) r) where
    pub leap_ticks : (1 ≤ d) × (clock + d ≤ to)
    leap_ticks = (
      rw d-is (lowest-some left (to - clock) r (omega arith) (λ a l. place_busy a (omega arith))),
      omega (arith, d-is, lowest-room left (to - clock) r),
    )

    enough : (i : ℕ) → runs s M i ≡ true → d ≤ head_work (M.lane i).queue
    enough i q =
        let y = runs-place limits ready-waits A i q in
        let z = A.sound y.0 y.1 in
        let e : z.0 ≡ i = owns_key waits-low A y.0 i y.1 (omega (arith, ((earliest s M).heads i q).0, few)) y.3 in
        rw (d-is, sym e, sym z.1.work_is)
        (lowest-at left (to - clock) r y.0 (omega (arith, y.1, y.2, in_cores p, R.frame.cores_are)))

    module _ {k : ℕ} (d-next : d ≡ suc k) where
      more : MoreThan s M k
      more i q = omega (arith, enough i q)

      abbrev g : List Call
      g = wait k h

      abbrev N : Machine
      N = state E (step ∷ g)

      -- the machine before the last tick
      there : state E g ≡ lowered (runs s M) k M
      there = wait-lowered s h k more

      runs-there : (i : ℕ) → runs s (state E g) i ≡ runs s M i
      runs-there i = rw there (lowered-runs s M (runs s M) k i)

      queue-there : (i : ℕ) → ((state E g).lane i).queue ≡ cond (runs s M i) (lower_head k (M.lane i).queue) (M.lane i).queue
      unfolding lowered
      queue-there i = ap (λ (a : Machine). (a.lane i).queue) there

      queue-after : (i : ℕ) → (N.lane i).queue ≡ cond (runs s M i) (served ((state E g).lane i).queue) ((state E g).lane i).queue
      unfolding tick advanced
      queue-after i = rw (runs-there i)

      pub leap_makes : Ticks s M N d
      unfolding served
      leap_makes =
          record {
            ran = λ i a w q r z.
                queue-after i ∙ rw (queue-there i, r, z) (ap (λ (v : ℕ). left_of a v q) (last w));
            idle = λ i r. queue-after i ∙ rw (queue-there i, r);
            some = leap_ticks.0;
            enough = enough;
          }
        where
          last : (w : ℕ) → pred (w - k) ≡ w - d
          last w = omega arith

      over-ended : (i : ℕ) → ended s g i ≡ over s M d i
      unfolding ended over
      over-ended i = rw (runs-there i, queue-there i) (go (runs s M i) refl (M.lane i).queue refl)
        where
          go :
              (b : Bool) → runs s M i ≡ b → (q : List Job) → (M.lane i).queue ≡ q
              → runs s M i && finishing (cond (runs s M i) (lower_head k (M.lane i).queue) (M.lane i).queue) ≡ runs s M i && eqb (head_work (M.lane i).queue) d
          go true r [] z = absurd (omega (arith, leap_ticks.0, rw z at (enough i r)))
          go true r (job a w ∷ q) z = rw (r, z) (same (eqb w d) refl (rw z at (enough i r)))
            where
              same : (c : Bool) → eqb w d ≡ c → d ≤ w → leb (w - k) 1 ≡ eqb w d
              same true e l = rw e (le-leb (w - k) 1 (omega (arith, eqb-true w d e)))
              same false e l = rw e (lt-leb (w - k) 1 (far l (eqb-false w d e)))
                where
                  far : d ≤ w → (w ≡ d → ⊥) → 1 < w - k
                  far l ne = ⊎_elim (λ (y : d ≡ w). absurd (ne (sym y))) (λ (y : d < w). omega arith) (eq-or-lt_of_le l)
          go false r q z = rw r

      module _ {key' left' : List ℕ} {c : ℕ} (S : HeadsRun W.key W.left W.heads cores d key' left' c) where
        remain : HeadsRun key left n s.cores d key' left' c
        remain = subst (λ m. HeadsRun key left n m d key' left' c) (R.frame.cores_are ∙ sym (in_cores p)) S

        -- before anybody is noted
        pub turning-none : (now : ℕ) → now ≡ clock + d → Turning x g (λ i. false) now (arrays W.jobs W.owners key' left' c W.out)
        turning-none now e =
            record {
              answered = W.out;
              before = kept;
              now_is = omega (arith, R.clock_is, clock-wait k h);
              limit = omega (arith, leap_ticks.1, R.limit);
              counts_are = R.stands.counts_are;
              owners_are = R.stands.owners_are;
              heads_are =
                  subst (λ f. Heads s N f key' left' c)
                  (fun_ext (λ j. sym (and-true (ended s g j) ∙ over-ended j)))
                  (heads-remain leap_makes limits ready-waits ready_busy A remain);
              stage = stage-none R.frame.room kept;
            }
          where
            kept : Book p x.log x.lent x.entered g x.owners W.out
            kept = book-wait k more R.stands.book

        module _ {done : List ℕ} {f : ℕ} (D : Finishes W.key W.left W.heads cores d done f) where
          finishes : Finishes key left n s.cores d done f
          finishes = subst (λ m. Finishes key left n m d done f) (R.frame.cores_are ∙ sym (in_cores p)) D

          abbrev is_over : ℕ → Bool
          is_over = ended s g

          -- the loop of a place that was taken out
          done-loop : (a : ℕ) → (l : a < f) → row done a ≡ (A.sound (finishes.source a) (finishes.source-low a l)).0
          done-loop a l =
              finishes.loops a l ∙ loop-at waits-low A (finishes.source a) (finishes.source-low a l)

          pub done_ended : (a : ℕ) → a < f → is_over (row done a) ≡ true
          done_ended a l = go (over s M d (A.sound b u).0) refl
            where
              b : ℕ
              b = finishes.source a

              u : b < n
              u = finishes.source-low a l

              go : (y : Bool) → over s M d (A.sound b u).0 ≡ y → is_over (row done a) ≡ true
              go true q = ap is_over (done-loop a l) ∙ over-ended (A.sound b u).0 ∙ q
              go false q =
                  absurd
                  (omega (arith, over-here leap_makes limits ready-waits ready_busy A remain b u false q, finishes.none_left a l))

          -- two places have different loops
          apart : (a b : ℕ) → a < b → b < f → row done a ≢ row done b
          apart a b l m e =
              let u = A.sound (finishes.source a) (finishes.source-low a (omega arith)) in
              let v = A.sound (finishes.source b) (finishes.source-low b m) in
              let same : u.0 ≡ v.0 = sym (done-loop a (omega arith)) ∙ e ∙ done-loop b m in
              omega (
                arith,
                A.rises (finishes.source a) (finishes.source b) (finishes.source-rises a b l m) (finishes.source-low b m),
                u.1.key_is,
                v.1.key_is,
                ap (key_of s M) same,
              )

          pub done_new : (a : ℕ) → a < f → gone_to done a (row done a) ≡ false
          unfolding gone_to
          done_new a l = go a (omega arith)
            where
              go : (b : ℕ) → b ≤ a → gone_to done b (row done a) ≡ false
              go zero m = refl
              go (suc b) m = rw (go b (omega arith), ne_eqb (row done a) (row done b) (λ e. apart b a m l (sym e)))

          -- a loop that finishes stands in a place that was taken out
          over-gone : (j : ℕ) → over s M d j ≡ true → gone_to done f j ≡ true
          unfolding over
          over-gone j o =
              let both = (and-eq-true_iff (runs s M j) (eqb (head_work (M.lane j).queue) d)).0 o in
              let r = runs-place limits ready-waits A j both.0 in
              let low : j < 16 = omega (arith, ((earliest s M).heads j both.0).0, few) in
              let e : (A.sound r.0 r.1).0 ≡ j = owns_key waits-low A r.0 j r.1 low r.3 in
              let w : work_after left s.cores d r.0 ≡ 0 =
              after-here leap_makes limits ready-waits ready_busy A remain r.0 r.1
              ∙ rw (e, both.0) (omega (arith, eqb-true (head_work (M.lane j).queue) d both.1)) in
              let q = finishes.all r.0 r.1 w in
              let same : row done q.0 ≡ j =
              finishes.loops q.0 q.1 ∙ ap (loop_in key) q.2 ∙ loop-at waits-low A r.0 r.1 ∙ e in
              rw (sym same) (in_gone done f q.0 q.1)

          pub all-gone : (j : ℕ) → gone_to done f j ≡ is_over j
          all-gone j = go (gone_to done f j) refl (is_over j) refl
            where
              go : (y : Bool) → gone_to done f j ≡ y → (z : Bool) → is_over j ≡ z → gone_to done f j ≡ is_over j
              go true q z w =
                  let r = gone_in done j f q in
                  q ∙ sym (ap is_over r.2 ∙ done_ended r.0 r.1)
              go false q true w = absurd (true≢false (sym (over-gone j (sym (over-ended j) ∙ w)) ∙ q))
              go false q false w = q ∙ sym w

          pub turning_end :
              {now : ℕ} {W' : Arrays} → Turning x g (gone_to done f) now W' → Reaches x d W'
          turning_end {W' = W'} X =
              rw d-next
              (record {
                owned_by = owners_now x.owners (gone_to done f);
                stands =
                    record {
                      counts_are = X.counts_are;
                      owners_are = X.owners_are;
                      heads_are = subst (λ q. Heads s N q W'.key W'.left W'.heads) (fun_ext (λ j. rw (all-gone j) (nobody (is_over j)))) X.heads_are;
                      book =
                          book-tick R.frame.room X.before all-gone X.stage;
                    };
              })
            where
              nobody : (b : Bool) → b && not b ≡ false
              nobody true = refl
              nobody false = refl
