-- Laws of the heads' arrays.
--     Ticks, over       the machine some ticks later, in which the same loops ran and none finished before the last; the loops that finished then
--     heads-remain           the places that are left are that machine's heads, but for the loops that finished
--     inserted          a loop that was out is in; left_out: one without a job may count as in
use Prim.Native.Nat.{ℕ, zero, suc, ◌+◌, ◌-◌, ◌≤◌, ◌<◌}
use Rattle.std.specs.Prelude.{Bool, not, ◌&&◌, ◌≡◌, ◌≢◌, ◌⊎◌, ltb}
use Rattle.std.proofs.Math.Bool.{true, false, cond, and-false}
use Rattle.std.proofs.Common.{true≢false, ap, subst, ◌∙◌, inl, inr, eq-or-lt_of_le}
use Rattle.std.proofs.lemmas.Bool.{false≢true}
use Rattle.std.proofs.Math.Path.{refl, sym}
use Rattle.std.proofs.Math.Logic.{⊎_elim}
use mathlib.Core.List.{List, [], ◌∷◌}
use native.Mathlib.Omega.{arith}
use Rattle.std.proofs.Math.Dec.{eqb}
use borrow.Author.Tests.{ltb-true, ltb-false, eqb-true, eqb-false, eq-eqb}
use Rattle.tasks.specs.TaskSet.{TaskSet, row}
use Rattle.tasks.specs.Limits.{Limits}
use Rattle.machine.specs.Machine.{Job, job, Machine, pending, waiting, runs, left_of}
use Rattle.machine.proofs.Choice.{earliest}
use Rattle.choice.specs.Key.{key_of}
use Rattle.heads.specs.Order.{head_work, Head, Heads, work_after, HeadsRun, Inserted}
use Rattle.heads.specs.OrderLaws.{owns_key, place-runs, place-idle}

-- N is M after d ticks in which the same loops run and none finishes before the last
pub record Ticks (s : TaskSet) (M N : Machine) (d : ℕ) : Type 0 where
  pub ran : (i a w : ℕ) (q : List Job) → runs s M i ≡ true → (M.lane i).queue ≡ job a w ∷ q → (N.lane i).queue ≡ left_of a (w - d) q
  pub idle : (i : ℕ) → runs s M i ≡ false → (N.lane i).queue ≡ (M.lane i).queue
  pub some : 1 ≤ d
  pub enough : (i : ℕ) → runs s M i ≡ true → d ≤ head_work (M.lane i).queue

-- the loops whose heads finish with the last of these ticks
unfoldable pub over : TaskSet → Machine → ℕ → ℕ → Bool
over s M d i = runs s M i && eqb (head_work (M.lane i).queue) d

module _ {s : TaskSet} {M N : Machine} {d : ℕ} (T : Ticks s M N d) where
  -- a loop that waits and does not finish: its head's key stays, and its work
  record Still (i : ℕ) : Type 0 where
    waits : waiting N i ≡ true
    key-same : key_of s N i ≡ key_of s M i
    work-same : head_work (N.lane i).queue ≡ cond (runs s M i) (head_work (M.lane i).queue - d) (head_work (M.lane i).queue)

  still : (i : ℕ) → waiting M i ≡ true → over s M d i ≡ false → Still i
  unfolding waiting key_of over
  still i w o = go (M.lane i).queue refl (runs s M i) refl
    where
      one : (r v : ℕ) (q : List Job) → 1 ≤ v → left_of r v q ≡ job r v ∷ q
      one r zero q h = absurd (omega arith)
      one r (suc v) q h = refl

      go : (q : List Job) → (M.lane i).queue ≡ q → (b : Bool) → runs s M i ≡ b → Still i
      go [] z b r = absurd (false≢true (sym (ap pending z) ∙ w))
      go (job a v ∷ q) z true r =
          let ne : v ≢ d = λ e. true≢false (sym (rw (z, r, eq-eqb v d e)) ∙ o) in
          let en : d ≤ v = rw z at (T.enough i r) in
          let n : (N.lane i).queue ≡ job a (v - d) ∷ q = T.ran i a v q r z ∙ one a (v - d) q (more v en ne) in
          record { waits = rw n; key-same = rw (n, z); work-same = rw (n, z, r) }
        where
          more : (v : ℕ) → d ≤ v → v ≢ d → 1 ≤ v - d
          more v h ne = ⊎_elim (λ (e : d ≡ v). absurd (ne (sym e))) (λ (l : d < v). omega arith) (eq-or-lt_of_le h)
      go (job a v ∷ q) z false r =
          let n = T.idle i r in
          record { waits = rw (n, z); key-same = rw n; work-same = rw (n, r) }

  -- whoever waits afterwards and did not finish waited before
  waited : (i : ℕ) → waiting N i ≡ true → waiting M i ≡ true
  unfolding waiting
  waited i w = go (runs s M i) refl
    where
      go : (b : Bool) → runs s M i ≡ b → pending (M.lane i).queue ≡ true
      go true r = ((earliest s M).heads i r).1
      go false r = sym (ap pending (T.idle i r)) ∙ w

  module _ {key left : List ℕ} {n : ℕ} (L : Limits s) (known : (i : ℕ) → waiting M i ≡ true → i < s.count)
      (busy : (i : ℕ) → waiting M i ≡ true → 1 ≤ head_work (M.lane i).queue) (A : Heads s M (λ i. false) key left n)
      {key' left' : List ℕ} {c : ℕ} (S : HeadsRun key left n s.cores d key' left' c) where
    -- whether place b's loop runs, and what it has left
    module _ (b : ℕ) (h : b < n) where
      abbrev i : ℕ
      i = (A.sound b h).0

      runs_here : runs s M (A.sound b h).0 ≡ ltb b s.cores
      runs_here = go (ltb b s.cores) refl
        where
          go : (x : Bool) → ltb b s.cores ≡ x → runs s M (A.sound b h).0 ≡ ltb b s.cores
          go true e =
              place-runs L known A b (A.sound b h).0 h (ltb-true _ _ e) (A.sound b h).1.key_is
              (omega (arith, L.tasks-high, known (A.sound b h).0 (A.sound b h).1.waits))
              ∙ sym e
          go false e = place-idle L known A b (A.sound b h).0 h (ltb-false _ _ e) (A.sound b h).1.key_is ∙ sym e

      pub after-here :
          work_after left s.cores d b
          ≡ cond (runs s M (A.sound b h).0) (head_work (M.lane (A.sound b h).0).queue - d) (head_work (M.lane (A.sound b h).0).queue)
      unfolding work_after
      after-here = rw (runs_here, (A.sound b h).1.work_is)

      -- with work left it did not finish, and with none it did
      pub over-here : (x : Bool) → over s M d (A.sound b h).0 ≡ x → cond x 0 1 ≤ work_after left s.cores d b
      unfolding over
      over-here true e = omega arith
      over-here false e = rw after-here (go (runs s M (A.sound b h).0) refl)
        where
          go : (r : Bool) → runs s M (A.sound b h).0 ≡ r → 1 ≤ cond r (head_work (M.lane (A.sound b h).0).queue - d) (head_work (M.lane (A.sound b h).0).queue)
          go true r =
              let ne = eqb-false _ _ (rw r at e) in
              ⊎_elim
              (λ (q : d ≡ head_work (M.lane (A.sound b h).0).queue). absurd (ne (sym q)))
              (λ (q : d < head_work (M.lane (A.sound b h).0).queue). omega arith)
              (eq-or-lt_of_le (T.enough (A.sound b h).0 r))
          go false r = busy (A.sound b h).0 (A.sound b h).1.waits

      pub not_over : 1 ≤ work_after left s.cores d b → over s M d (A.sound b h).0 ≡ false
      unfolding over
      not_over w = go (runs s M (A.sound b h).0) refl (eqb (head_work (M.lane (A.sound b h).0).queue) d) refl
        where
          go :
              (r : Bool) → runs s M (A.sound b h).0 ≡ r → (x : Bool) → eqb (head_work (M.lane (A.sound b h).0).queue) d ≡ x
              → runs s M (A.sound b h).0 && eqb (head_work (M.lane (A.sound b h).0).queue) d ≡ false
          go true r true x = absurd (omega (arith, eqb-true (head_work (M.lane (A.sound b h).0).queue) d x, rw (after-here, r) at w))
          go true r false x = rw (r, x)
          go false r x y = rw r

    place-of : (i : ℕ) → waiting M i ≡ true → over s M d i ≡ false → (b : ℕ) × (b < n) × (row key b ≡ key_of s M i) × (1 ≤ work_after left s.cores d b)
    place-of i w o =
        let r = A.complete i w refl in
        let e : (A.sound r.0 r.1).0 ≡ i = owns_key (λ j v. omega (arith, L.tasks-high, known j v)) A r.0 i r.1 (omega (arith, L.tasks-high, known i w)) r.2 in
        (r.0, r.1, r.2, over-here r.0 r.1 false (ap (over s M d) e ∙ o))

    pub heads-remain : Heads s N (over s M d) key' left' c
    heads-remain =
        record {
          rises = λ a b l h.
              rw (S.keys a (omega arith), S.keys b h) (A.rises (S.from a) (S.from b) (S.from-rises a b l h) (S.from_low b h));
          sound = λ a h.
              let f = S.from_low a h in
              let x = A.sound (S.from a) f in
              let o = not_over (S.from a) f (S.some a h) in
              let t = still x.0 x.1.waits o in (
                x.0,
                record {
                  waits = t.waits;
                  inside = o;
                  key_is = S.keys a h ∙ x.1.key_is ∙ sym t.key-same;
                  work_is = S.works a h ∙ after-here (S.from a) f ∙ sym t.work-same;
                },
              );
          complete = λ i w o.
              let v = waited i w in
              let r = place-of i v o in
              let p = S.all r.0 r.1 r.3 in
              (p.0, p.1, S.keys p.0 p.1 ∙ ap (row key) p.2 ∙ r.2 ∙ sym (still i v o).key-same);
        }

-- ---- one more

-- a set without i
abbrev pub without : (ℕ → Bool) → ℕ → ℕ → Bool
without out i j = out j && not (eqb j i)

module _ {s : TaskSet} {M : Machine} {out : ℕ → Bool} {key left : List ℕ} {n : ℕ} (i : ℕ) (A : Heads s M out key left n) where
  still-out : (j : ℕ) → out j ≡ false → without out i j ≡ false
  still-out j e = rw e

  came_in : (j : ℕ) → without out i j ≡ false → (out j ≡ false) ⊎ (j ≡ i)
  came_in j e = go (out j) refl (eqb j i) refl
    where
      go : (a : Bool) → out j ≡ a → (b : Bool) → eqb j i ≡ b → (out j ≡ false) ⊎ (j ≡ i)
      go true p true q = inr (eqb-true j i q)
      go true p false q = absurd (true≢false (sym (rw (p, q)) ∙ e))
      go false p b q = inl p

  -- a loop without a job need not be put in
  pub left_out : waiting M i ≡ false → Heads s M (without out i) key left n
  left_out w =
      record {
        rises = A.rises;
        sound = λ a h. let x = A.sound a h in (x.0, record { waits = x.1.waits; inside = still-out x.0 x.1.inside; key_is = x.1.key_is; work_is = x.1.work_is });
        complete = λ j v o.
            ⊎_elim (λ (q : out j ≡ false). A.complete j v q) (λ (q : j ≡ i). absurd (true≢false (sym v ∙ ap (waiting M) q ∙ w))) (came_in j o);
      }

  module _ (low : (j : ℕ) → waiting M j ≡ true → j < 16) (w : waiting M i ≡ true) (o : out i ≡ true) {key' left' : List ℕ}
      (I : Inserted key left n (key_of s M i) (head_work (M.lane i).queue) key' left') where
    -- no place has i's key yet
    other : (a : ℕ) → a < n → row key a ≢ key_of s M i
    other a h e =
        let x = A.sound a h in
        true≢false (sym o ∙ ap out (sym (owns_key low A a i h (low i w) e)) ∙ x.1.inside)

    less-key : (a : ℕ) → a < I.at → row key a < key_of s M i
    less-key a h =
        ⊎_elim
        (λ (q : row key a ≡ key_of s M i). absurd (other a (omega (arith, I.at_low)) q))
        (λ (q : row key a < key_of s M i). q)
        (eq-or-lt_of_le (I.less a h))

    -- place a afterwards: one before, the new one, or one after it
    cases : (P : ℕ → Type 0) → ((a : ℕ) → a < I.at → P a) → P I.at → ((a : ℕ) → I.at ≤ a → a < n → P (a + 1)) → (a : ℕ) → a < n + 1 → P a
    cases P f g k a h = go (ltb a I.at) refl (eqb a I.at) refl
      where
        go : (x : Bool) → ltb a I.at ≡ x → (y : Bool) → eqb a I.at ≡ y → P a
        go true e y q = f a (ltb-true _ _ e)
        go false e true q = rw (eqb-true a I.at q) g
        go false e false q =
            let far : I.at < a = beyond (ltb-false a I.at e) (eqb-false a I.at q) in
            let back : a - 1 + 1 ≡ a = omega arith in
            subst P back (k (a - 1) (omega arith) (omega arith))
          where
            beyond : I.at ≤ a → (a ≡ I.at → ⊥) → I.at < a
            beyond l ne = ⊎_elim (λ (z : I.at ≡ a). absurd (ne (sym z))) (λ (z : I.at < a). z) (eq-or-lt_of_le l)

    new_in : without out i i ≡ false
    new_in = rw (eq-eqb i i refl) (and-false (out i))

    pub inserted : Heads s M (without out i) key' left' (n + 1)
    inserted =
        record {
          rises = λ a b l h. rising a (omega arith) b h l;
          sound =
              cases (λ a. (j : ℕ) × Head s M (without out i) (row key' a) (row left' a) j)
              (λ a h. kept a (omega (arith, I.at_low)) a (I.below a h))
              (i, record { waits = w; inside = new_in; key_is = I.here.0; work_is = I.here.1 })
              (λ a l h. kept a h (a + 1) (I.above a l h));
          complete = λ j v q.
              ⊎_elim
              (λ (e : out j ≡ false). moved j (A.complete j v e))
              (λ (e : j ≡ i). (I.at, omega (arith, I.at_low), I.here.0 ∙ ap (key_of s M) (sym e)))
              (came_in j q);
        }
      where
        kept :
            (a : ℕ) → a < n → (b : ℕ) → (row key' b ≡ row key a) × (row left' b ≡ row left a)
            → (j : ℕ) × Head s M (without out i) (row key' b) (row left' b) j
        kept a h b e =
            let x = A.sound a h in (
              x.0,
              record {
                waits = x.1.waits;
                inside = still-out x.0 x.1.inside;
                key_is = e.0 ∙ x.1.key_is;
                work_is = e.1 ∙ x.1.work_is;
              },
            )

        moved : (j : ℕ) → (a : ℕ) × (a < n) × (row key a ≡ key_of s M j) → (a : ℕ) × (a < n + 1) × (row key' a ≡ key_of s M j)
        moved j r = go (ltb r.0 I.at) refl
          where
            go : (x : Bool) → ltb r.0 I.at ≡ x → (a : ℕ) × (a < n + 1) × (row key' a ≡ key_of s M j)
            go true e = (r.0, omega (arith, r.1), (I.below r.0 (ltb-true _ _ e)).0 ∙ r.2)
            go false e = (r.0 + 1, omega (arith, r.1), (I.above r.0 (ltb-false _ _ e) r.1).0 ∙ r.2)

        rising : (a : ℕ) → a < n + 1 → (b : ℕ) → b < n + 1 → a < b → row key' a < row key' b
        rising =
            cases (λ a. (b : ℕ) → b < n + 1 → a < b → row key' a < row key' b)
            (λ a h.
            cases (λ b. a < b → row key' a < row key' b)
            (λ b g l. rw ((I.below a h).0, (I.below b g).0) (A.rises a b l (omega (arith, I.at_low))))
            (λ l. rw ((I.below a h).0, I.here.0) (less-key a h))
            (λ b g k l. rw ((I.below a h).0, (I.above b g k).0) (omega (arith, less-key a h, I.more b g k))))
            (cases (λ b. I.at < b → row key' I.at < row key' b)
            (λ b g l. absurd (omega arith))
            (λ l. absurd (omega arith))
            (λ b g k l. rw (I.here.0, (I.above b g k).0) (I.more b g k)))
            (λ a g k.
            cases (λ b. a + 1 < b → row key' (a + 1) < row key' b)
            (λ b h l. absurd (omega arith))
            (λ l. absurd (omega arith))
            (λ b h m l. rw ((I.above a g k).0, (I.above b h m).0) (A.rises a b (omega arith) m)))

-- ---- another machine with the same heads

pub record SameHead (s : TaskSet) (M N : Machine) (j : ℕ) : Type 0 where
  pub waits : waiting N j ≡ waiting M j
  pub key : key_of s N j ≡ key_of s M j
  pub work : head_work (N.lane j).queue ≡ head_work (M.lane j).queue

pub heads-same :
    {s : TaskSet} {M N : Machine} {out : ℕ → Bool} {key left : List ℕ} {n : ℕ} → ((j : ℕ) → out j ≡ false → SameHead s M N j)
    → ((j : ℕ) → waiting M j ≡ true → out j ≡ false) → Heads s M (λ j. false) key left n → Heads s N out key left n
heads-same same inside A =
    record {
      rises = A.rises;
      sound = λ a h.
          let x = A.sound a h in
          let o = inside x.0 x.1.waits in
          let t = same x.0 o in (
            x.0,
            record { waits = t.waits ∙ x.1.waits; inside = o; key_is = x.1.key_is ∙ sym t.key; work_is = x.1.work_is ∙ sym t.work },
          );
      complete = λ j w o.
          let t = same j o in
          let r = A.complete j (sym t.waits ∙ w) refl in
          (r.0, r.1, r.2 ∙ sym t.key);
    }
