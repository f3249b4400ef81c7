-- A queue's clauses of soundness, place by place, and the clauses' tests as facts.
--     rising-from, rising-at, rising-next      Rising, from each place and the next, and back
--     newest-from, newest-at                   Newest, from the last place, and back
--     loop_facts, facts_loop                   what loop_test tests, from it and back
--     place_facts, facts_place                 what place_test tests, from it and back
use Prim.Native.Nat.{ℕ, zero, suc, ◌+◌, ◌-◌, ◌≤◌, ◌<◌}
use Rattle.std.specs.Prelude.{Bool, cond, ◌&&◌, ◌||◌, ◌≡◌, List, [], ◌∷◌, length, get_or, ltb}
use Rattle.std.proofs.Math.Bool.{true, false, not}
use Rattle.std.proofs.Common.{true≢false, sym, ap, ◌∙◌, not-suc-le-zero, arith}
use Rattle.std.proofs.Math.Path.{refl}
use Rattle.std.proofs.Math.Option.{Option, some}
use Rattle.std.proofs.Math.Dec.{leb, eqb}
use borrow.Author.Tests.{ltb-true, ltb-false, lt-ltb, le-ltb, leb-true, le-leb, eqb-true, eq-eqb, eqb-false, ne_eqb, not-true}
use Rattle.machine.specs.Machine.{Job, job, release_tick, remaining}
use Rattle.machine.specs.Sound.{Rising, Newest}
use Rattle.state.specs.State.{no_job}
use Rattle.state.specs.SoundState.{loop_test, place_test}
use Rattle.laws.specs.EveryLaws.{both, and_both}
use Rattle.state.specs.QueueLaws.{LoopFacts, PlaceFacts}

pub rising-from :
    (T C t r : ℕ) (q : List Job)
    → ((p : ℕ) → p < length q → (release_tick (get_or q p no_job) ≤ t) × (1 ≤ remaining (get_or q p no_job)) × (remaining (get_or q p no_job) ≤ C))
    → ((p : ℕ) → suc p < length q → release_tick (get_or q p no_job) + T ≤ release_tick (get_or q (suc p) no_job))
    → (1 ≤ length q → r ≤ release_tick (get_or q 0 no_job))
    → Rising T C t r q
rising-from T C t r [] f g h = tt
rising-from T C t r (job a w ∷ q) f g h =
    let here = f 0 (omega arith) in (
      h (omega arith),
      here.0,
      here.1,
      here.2,
      rising-from T C t (a + T) q (λ p l. f (suc p) (omega arith)) (λ p l. g (suc p) (omega arith)) (λ l. g 0 (omega arith)),
    )

pub rising-at :
    (T C t r : ℕ) (q : List Job) → Rising T C t r q → (p : ℕ) → p < length q
    → (release_tick (get_or q p no_job) ≤ t) × (1 ≤ remaining (get_or q p no_job)) × (remaining (get_or q p no_job) ≤ C)
rising-at T C t r [] c p h = absurd (not-suc-le-zero h)
rising-at T C t r (job a w ∷ q) c zero h = (c.1, c.2, c.3)
rising-at T C t r (job a w ∷ q) c (suc p) h = rising-at T C t (a + T) q c.4 p (omega arith)

pub rising-next :
    (T C t r : ℕ) (q : List Job) → Rising T C t r q → (p : ℕ) → suc p < length q
    → release_tick (get_or q p no_job) + T ≤ release_tick (get_or q (suc p) no_job)
rising-next T C t r [] c p h = absurd (not-suc-le-zero h)
rising-next T C t r (job a w ∷ []) c p h = absurd (omega arith)
rising-next T C t r (job a w ∷ job b v ∷ q) c zero h = c.4.0
rising-next T C t r (job a w ∷ job b v ∷ q) c (suc p) h = rising-next T C t (a + T) (job b v ∷ q) c.4 p (omega arith)

-- the last place of a queue of two jobs or more
last-place : (j : Job) (q : List Job) → 1 ≤ length q → get_or (j ∷ q) (length (j ∷ q) - 1) no_job ≡ get_or q (length q - 1) no_job
last-place j q h = let e : suc (length q) - 1 ≡ suc (length q - 1) = omega arith in rw e

pub newest-from :
    (last : Option ℕ) (q : List Job) → (1 ≤ length q → last ≡ some (release_tick (get_or q (length q - 1) no_job))) → Newest last q
newest-from last [] h = tt
newest-from last (job a w ∷ []) h = h (omega arith)
newest-from last (job a w ∷ job b v ∷ q) h =
    newest-from last (job b v ∷ q)
    (λ l. h (omega arith) ∙ ap (λ (j : Job). some (release_tick j)) (last-place (job a w) (job b v ∷ q) l))

pub newest-at :
    (last : Option ℕ) (q : List Job) → Newest last q → 1 ≤ length q → last ≡ some (release_tick (get_or q (length q - 1) no_job))
newest-at last [] n h = absurd (not-suc-le-zero h)
newest-at last (job a w ∷ []) n h = n
newest-at last (job a w ∷ job b v ∷ q) n h =
    newest-at last (job b v ∷ q) n (omega arith)
    ∙ ap (λ (j : Job). some (release_tick j)) (sym (last-place (job a w) (job b v ∷ q) (omega arith)))

-- ---- the tests as facts

pub either : (a b : Bool) → a || b ≡ true → a ≡ false → b ≡ true
either true b e f = absurd (true≢false f)
either false b e f = e

pub or_else : (a b : Bool) → (a ≡ false → b ≡ true) → a || b ≡ true
or_else true b f = refl
or_else false b f = f refl

module _ (known : Bool) (t n : ℕ) (flag : Bool) (last newest : ℕ) where
  pub loop_facts : loop_test known t n flag last newest ≡ true → LoopFacts known t n flag last newest
  unfolding loop_test
  loop_facts e =
      let a = both _ _ e in
      let b = both _ _ a.1 in
      let c = both _ _ b.1 in
      let d = both _ _ c.1 in
      record {
        few = leb-true _ _ a.0;
        outside = λ f. let g = both _ _ (either known _ b.0 f) in (eqb-true _ _ g.0, not-true _ g.1);
        clear = λ f. eqb-true _ _ (either flag _ c.0 f);
        past = leb-true _ _ d.0;
        recent = λ h. let g = both _ _ (either (eqb n 0) _ d.1 (ne_eqb n 0 (λ z. omega arith))) in (g.0, eqb-true _ _ g.1);
      }

  pub facts_loop : LoopFacts known t n flag last newest → loop_test known t n flag last newest ≡ true
  unfolding loop_test
  facts_loop F =
      and_both _ _ (le-leb n 16 F.few)
      (and_both _ _ (or_else known _ (λ f. outside f))
      (and_both _ _ (or_else flag _ (λ f. eq-eqb last 0 (F.clear f)))
      (and_both _ _ (le-leb last t F.past)
      (or_else (eqb n 0) _ (λ f. recent (eqb-false n 0 f))))))
    where
      outside : known ≡ false → eqb n 0 && not flag ≡ true
      outside f = rw (eq-eqb n 0 (F.outside f).0, (F.outside f).1)

      recent : (n ≡ 0 → ⊥) → flag && eqb last newest ≡ true
      recent ne = let r = F.recent (some-job n ne) in rw (r.0, eq-eqb last newest r.1)
        where
          some-job : (m : ℕ) → (m ≡ 0 → ⊥) → 1 ≤ m
          some-job zero f = absurd (f refl)
          some-job (suc m) f = omega arith

module _ (T C t n p previous r w : ℕ) where
  pub place_facts : place_test T C t n p previous r w ≡ true → PlaceFacts T C t n p previous r w
  unfolding place_test
  place_facts e =
      record {
        rises = λ h l. let a = both (eqb p 0 || leb (previous + T) r) (leb r t && (leb 1 w && leb w C)) (rw (lt-ltb p n h) at e) in leb-true _ _ (either (eqb p 0) _ a.0 (ne_eqb p 0 (λ z. omega arith)));
        used = λ h.
            let a = both (eqb p 0 || leb (previous + T) r) (leb r t && (leb 1 w && leb w C)) (rw (lt-ltb p n h) at e) in
            let b = both _ _ a.1 in
            let c = both _ _ b.1 in
            (leb-true _ _ b.0, leb-true _ _ c.0, leb-true _ _ c.1);
        unused = λ h. let a = both (eqb r 0) (eqb w 0) (rw (le-ltb p n h) at e) in (eqb-true _ _ a.0, eqb-true _ _ a.1);
      }

  pub facts_place : PlaceFacts T C t n p previous r w → place_test T C t n p previous r w ≡ true
  unfolding place_test
  facts_place F = go (ltb p n) refl
    where
      first-or : p < n → eqb p 0 || leb (previous + T) r ≡ true
      first-or h = split p refl
        where
          split : (m : ℕ) → p ≡ m → eqb p 0 || leb (previous + T) r ≡ true
          split zero z = rw (eq-eqb p 0 z)
          split (suc m) z = or_else (eqb p 0) _ (λ f. le-leb _ _ (F.rises h (omega arith)))

      go : (b : Bool) → ltb p n ≡ b → cond b ((eqb p 0 || leb (previous + T) r) && (leb r t && (leb 1 w && leb w C))) (eqb r 0 && eqb w 0) ≡ true
      go true e =
          let h = ltb-true p n e in
          let u = F.used h in
          rw (first-or h, le-leb r t u.0, le-leb 1 w u.1, le-leb w C u.2)
      go false e = let z = F.unused (ltb-false p n e) in rw (eq-eqb r 0 z.0, eq-eqb w 0 z.1)
