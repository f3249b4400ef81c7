-- A loop that finishes in the last tick of a leap, by its code.
--     next-whole        its queue afterwards is that of the owners behind the first
--     finish-room, finish-low, finish-long, finish-place      what its code needs
--     finish-none, finish-more      what it gives: the loop has no job left, or its next job is a head
use Rattle.std.specs.Prelude.{ℕ, zero, suc, ◌+◌, ◌-◌, ◌*◌, ◌≤◌, ◌<◌, Bool, true, cond, not, ◌&&◌, ◌||◌, ◌≡◌, ◌≢◌, get_or, set, eqb}
use Rattle.std.proofs.Math.Bool.{false, and-eq-true_iff}
use Rattle.std.proofs.Common.{true≢false, sym, subst, ◌∙◌, arith, leb-true, eqb-true, eq-eqb}
use Rattle.std.proofs.lemmas.Bool.{false≢true}
use Rattle.std.proofs.Math.Path.{refl, ap, fun_ext}
use mathlib.Core.List.{List, [], ◌∷◌}
use Rattle.std.proofs.Math.ListN.{length, drop}
use Rattle.std.proofs.lemmas.List.Edits.{sets}
use Rattle.tasks.specs.declared.Task.{Task}
use Rattle.tasks.specs.declared.Plan.{Plan}
use Rattle.tasks.specs.TaskSet.{TaskSet, row}
use Rattle.tasks.specs.Content.{content_of}
use Rattle.machine.specs.Machine.{Job, job, Machine, pending, waiting, runs, served, advanced, tick}
use Rattle.machine.specs.Sound.{Rising}
use Rattle.machine.proofs.Sound.{reached-sound}
use Rattle.state.specs.Fit.{Fit}
use Rattle.state.proofs.KeptLaws.{reached-fit}
use Rattle.state.proofs.FitLaws.{in_task, in_count, plan-limits}
use Rattle.service.specs.Serve.{moved}
use Rattle.history.specs.Engine.{Engine, Call, step, state}
use Rattle.history.specs.Log.{Entry, no_entry, tick_at, demand_at}
use Rattle.history.specs.Report.{finished}
use Rattle.history.specs.OnMachine.{machine_engine}
use Rattle.history.proofs.Balance.{reached, machine_clock}
use Rattle.history.proofs.Owners.{finishing}
use Rattle.logs.specs.declared.read.Release.{Release}
use Rattle.logs.specs.LogStages.{Releases}
use Rattle.logs.specs.LogBytes.{entry_count, entry_in, report_bytes}
use Rattle.logs.specs.LogLaws.{entries-length, entry_at}
use Rattle.choice.specs.Key.{head_key, key_of}
use Rattle.heads.specs.Order.{head_work, Heads, Inserted}
use Rattle.heads.specs.HeadLaws.{without, inserted, left_out}
use Rattle.heads.specs.RoomLaws.{room_for}
use Rattle.running.specs.Running.{Arrays, arrays, owners_in, counts_in, Whole, Rooted}
use Rattle.running.specs.WaitLaws.{waits-known}
use Rattle.running.specs.OwnerLaws.{owner_at, moved-owners, count_at, less_one, counts-less}
use Rattle.running.specs.BookLaws.{book-few, ended, owners_now, and_one, Stage, ended-known, some_owner, first-early, stage-more}
use Rattle.running.specs.Leap.{Standing, Frame, Turning}

-- a queue whose head has its last tick of work
served-last : (l : List Entry) (T C t r : ℕ) (os : List ℕ) (q : List Job) → Rising T C t r q → Rooted l os q → finishing q ≡ true → Whole l (drop 1 os) (served q)
unfolding served
served-last l T C t r [] [] c p f = absurd (false≢true f)
served-last l T C t r [] (j ∷ q) c p f = absurd p
served-last l T C t r (o ∷ os) [] c p f = absurd p
served-last l T C t r (o ∷ os) (job a zero ∷ q) c p f = p.1
served-last l T C t r (o ∷ os) (job a (suc zero) ∷ q) c p f = p.1
served-last l T C t r (o ∷ os) (job a (suc (suc w)) ∷ q) c p f = absurd (omega (arith, leb-true (suc (suc w)) 1 f))

module _ {x : Standing} {g : List Call} {gone : ℕ → Bool} {now : ℕ} {W : Arrays} {bytes : List ℕ} {cores : ℕ} {offsets : List ℕ}
    (F : Frame x bytes cores offsets) (X : Turning x g gone now W) where
  abbrev p : Plan
  p = x.plan

  abbrev l : List Entry
  l = x.log

  abbrev s : TaskSet
  s = (content_of p).tasks

  abbrev E : Engine
  E = machine_engine s

  abbrev O : ℕ → List ℕ
  O = x.owners

  abbrev N : Machine
  N = state E (step ∷ g)

  abbrev now-owners : ℕ → List ℕ
  now-owners = owners_now O gone

  abbrev over : ℕ → Bool
  over = ended s g

  -- nobody beyond the table waits
  waits-low : (j : ℕ) → waiting N j ≡ true → j < 16
  waits-low j w = omega (arith, waits-known s (step ∷ g) j w, (plan-limits p F.accepted).tasks-high)

  module _ {i : ℕ} (fin : ended (content_of x.plan).tasks g i ≡ true) (new : gone i ≡ false) where
    known : i < s.count
    known = ended-known F.room X.before i fin

    low : i < 16
    low = omega (arith, known, (plan-limits p F.accepted).tasks-high)

    next-whole : Whole l (drop 1 (O i)) (N.lane i).queue
    unfolding ended tick advanced
    next-whole =
        let both = (and-eq-true_iff (runs s (state E g) i) (finishing ((state E g).lane i).queue)).0 fin in
        rw both.0
        (served-last l (s.task i).separation (s.task i).budget (state E g).clock 0 (O i) ((state E g).lane i).queue
        ((reached-sound s (reached s g)).lanes i known).rising (X.before.rooted i known) both.1)

    -- the owners of loop i are still all there
    owners-here : now-owners i ≡ O i
    owners-here = rw new

    abbrev first : ℕ
    first = get_or (O i) 0 0

    pub first_read : row W.owners (16 * i) ≡ first
    first_read =
        let e : 16 * i + 0 ≡ 16 * i = omega arith in
        rw X.owners_are ((rw e at (owner_at now-owners i 0 low (omega arith))) ∙ ap (λ (os : List ℕ). get_or os 0 0) owners-here)

    pub finish-room : 8 * row W.owners (16 * i) + 8 ≤ length W.out
    finish-room =
        omega (
          arith,
          first_read,
          first-early F.room X.before i fin,
          F.room,
          X.stage.long,
        )

    here : O i ≡ first ∷ drop 1 (O i)
    here = some_owner F.room X.before i fin

    count-now : row W.jobs i ≡ length (O i)
    count-now = rw X.counts_are (count_at now-owners i low ∙ ap length owners-here)

    pub finish-low : (i < 16) × (1 ≤ row W.jobs i)
    finish-low = (low, omega (arith, count-now, some (O i) here))
      where
        some : (os : List ℕ) → os ≡ first ∷ drop 1 (O i) → 1 ≤ length os
        some os e = rw e (omega arith)

    offset-is : row offsets i ≡ (s.task i).offset
    offset-is =
        let h : i < p.tasks = omega (arith, known, in_count p) in
        F.offsets_are i h ∙ sym (ap (λ (t : Task). t.offset) (in_task p i h))

    -- with i's first owner taken off
    abbrev then-owners : ℕ → List ℕ
    then-owners = owners_now O (and_one gone i)

    owners-step : (λ j. cond (eqb j i) (drop 1 (now-owners j)) (now-owners j)) ≡ then-owners
    owners-step = fun_ext (λ j. at j (eqb j i) refl (gone j) refl)
      where
        at :
            (j : ℕ) (b : Bool) → eqb j i ≡ b → (c : Bool) → gone j ≡ c
            → cond b (drop 1 (cond c (drop 1 (O j)) (O j))) (cond c (drop 1 (O j)) (O j)) ≡ cond (c || b) (drop 1 (O j)) (O j)
        at j true e true c = absurd (true≢false (sym c ∙ ap gone (eqb-true j i e) ∙ new))
        at j true e false c = refl
        at j false e true c = refl
        at j false e false c = refl

    pub finish-counts : (jobs' : List ℕ) → jobs' ≡ set W.jobs i (row W.jobs i - 1) → jobs' ≡ counts_in then-owners
    finish-counts jobs' q =
        q
        ∙ ap (λ (a : List ℕ). set a i (row a i - 1)) X.counts_are
        ∙ counts-less now-owners i low
        ∙ ap counts_in owners-step

    fits-before : Fit p (state E g)
    fits-before =
        reached-fit p F.accepted F.tidied (state E g) (reached s g) (omega (arith, machine_clock s g, X.now_is, X.limit))

    pub finish-owners : (owners' : List ℕ) → owners' ≡ moved i W.owners → owners' ≡ owners_in then-owners
    finish-owners owners' q =
        q
        ∙ ap (moved i) X.owners_are
        ∙ moved-owners now-owners i low
        (rw owners-here (book-few fits-before X.before i))
        ∙ ap owners_in owners-step

    then-here : then-owners i ≡ drop 1 (O i)
    then-here = rw (new, eq-eqb i i refl)

    count-then : row W.jobs i - 1 ≡ length (drop 1 (O i))
    count-then = omega (arith, count-now, less_one (O i))

    abbrev second : ℕ
    second = get_or (drop 1 (O i)) 0 0

    second-read : (owners' : List ℕ) → owners' ≡ owners_in then-owners → row owners' (16 * i) ≡ second
    second-read owners' q =
        let e : 16 * i + 0 ≡ 16 * i = omega arith in
        rw q ((rw e at (owner_at then-owners i 0 low (omega arith))) ∙ ap (λ (os : List ℕ). get_or os 0 0) then-here)

    out_step : (λ j. over j && not (and_one gone i j)) ≡ without (λ j. over j && not (gone j)) i
    out_step = fun_ext (λ j. at (over j) (gone j) (eqb j i))
      where
        at : (a b c : Bool) → a && not (b || c) ≡ (a && not b) && not c
        at true true c = refl
        at true false c = refl
        at false b c = refl

    out-here : over i && not (gone i) ≡ true
    out-here = rw (fin, new)

    stage_then : (out' : List ℕ) → out' ≡ sets W.out (8 * row W.owners (16 * i)) (report_bytes (finished now)) → Stage p l x.lent x.entered g O (and_one gone i) out'
    stage_then out' q =
        subst (Stage p l x.lent x.entered g O (and_one gone i))
        (sym (q ∙ rw (first_read, X.now_is)))
        (stage-more F.room X.before i fin new X.stage)

    module _ {jobs' owners' out' : List ℕ} (jq : jobs' ≡ set W.jobs i (row W.jobs i - 1)) (oq : owners' ≡ moved i W.owners)
        (uq : out' ≡ sets W.out (8 * row W.owners (16 * i)) (report_bytes (finished now))) where
      turned :
          {key' left' : List ℕ} {n' : ℕ} → Heads s N (without (λ j. over j && not (gone j)) i) key' left' n'
          → Turning x g (and_one gone i) now (arrays jobs' owners' key' left' n' out')
      turned A =
          record {
            answered = X.answered;
            before = X.before;
            now_is = X.now_is;
            limit = X.limit;
            counts_are = finish-counts jobs' jq;
            owners_are = finish-owners owners' oq;
            heads_are = rw out_step A;
            stage = stage_then out' uq;
          }

      -- no job is left
      pub finish-none : row W.jobs i - 1 ≡ 0 → Turning x g (and_one gone i) now (arrays jobs' owners' W.key W.left W.heads out')
      unfolding waiting
      finish-none z =
          turned
          (left_out i X.heads_are
          (empty (drop 1 (O i)) (sym count-then ∙ z) (N.lane i).queue next-whole))
        where
          empty : (os : List ℕ) → length os ≡ 0 → (q : List Job) → Whole l os q → pending q ≡ false
          empty [] e [] w = refl
          empty [] e (j ∷ q) w = absurd w
          empty (o ∷ os) e q w = absurd (omega arith)

      module _ (more : row W.jobs i - 1 ≢ 0) where
        -- the next job is as it was released
        record Next : Type 0 where
          waits : waiting N i ≡ true
          key_is : key_of s N i ≡ head_key (tick_at l second) (s.task i).offset i
          work_is : head_work (N.lane i).queue ≡ demand_at l second
          early : second < x.entered

        next : Next
        unfolding waiting key_of
        next = go (drop 1 (O i)) refl (N.lane i).queue refl
          where
            go : (os : List ℕ) → drop 1 (O i) ≡ os → (q : List Job) → (N.lane i).queue ≡ q → Next
            go [] z q y = absurd (more (count-then ∙ ap length z))
            go (o ∷ os) z [] y = absurd (rw (z, y) at next-whole)
            go (o ∷ os) z (job a w ∷ q) y =
                let v = rw (z, y) at next-whole in
                record {
                  waits = rw y;
                  key_is = rw (y, z, v.0);
                  work_is = rw (y, z) v.1;
                  early = rw z (rw z at (rw here at (X.before.small i)).1).0;
                }

        pub finish-long : 2 + 9 * row owners' (16 * i) + 9 ≤ length bytes
        finish-long = omega (arith, second-read owners' (finish-owners owners' oq), next.early, F.in_log, F.long)

        pub finish-place : W.heads < 16
        finish-place =
            room_for waits-low X.heads_are i low out-here

        pub finish-more :
            {r : Release} → Releases bytes (row owners' (16 * i)) r → {key' left' : List ℕ}
            → Inserted W.key W.left W.heads (head_key r.tick (row offsets i) i) r.demand key' left'
            → Turning x g (and_one gone i) now (arrays jobs' owners' key' left' (W.heads + 1) out')
        finish-more {r} R {key'} {left'} I =
            turned
            (inserted i X.heads_are waits-low next.waits out-here
            (subst (λ v. Inserted W.key W.left W.heads v (head_work (N.lane i).queue) key' left') (sym key-same)
            (subst (λ w. Inserted W.key W.left W.heads (head_key r.tick (row offsets i) i) w key' left') (sym work-same) I)))
          where
            at : row owners' (16 * i) ≡ second
            at = second-read owners' (finish-owners owners' oq)

            counted : second < entry_count bytes
            counted = omega (arith, next.early, F.in_log, ap (λ (a : List Entry). length a) F.log_is, entries-length bytes)

            entry : get_or l second no_entry ≡ entry_in bytes (row owners' (16 * i))
            entry = rw (F.log_is, at) (entry_at bytes second counted)

            key-same : key_of s N i ≡ head_key r.tick (row offsets i) i
            key-same = next.key_is ∙ rw (R.tick, offset-is) (ap (λ (y : Entry). head_key y.tick (s.task i).offset i) entry)

            work-same : head_work (N.lane i).queue ≡ r.demand
            work-same = next.work_is ∙ ap (λ (y : Entry). y.demand) entry ∙ sym R.demand
