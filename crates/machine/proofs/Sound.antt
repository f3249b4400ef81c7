-- Document 01's *sound*, of a machine's lanes: every machine that is reached from an opening is sound, under any choice of who runs.
--     opened-sound, admitted-sound, advanced-sound      the opening is sound; a taken release and a tick keep it
--     reached-sound         so every machine that is reached is sound
use Rattle.std.specs.Prelude.{ℕ, zero, suc, ◌+◌, ◌≤◌, Bool, true, false, cond, ◌≡◌, refl, List, [], ◌∷◌, ◌++◌}
use Rattle.std.proofs.Math.Option.{Option, none, some}
use Rattle.std.proofs.Common.{le_trans, le_refl, arith, ltb-false, ne_eqb}
use Rattle.tasks.specs.TaskSet.{TaskSet}
use Rattle.machine.specs.Machine.{Job, job, Machine, opened, within, too_soon, Allowed, joined, admitted, served, advanced}
use Rattle.machine.specs.Reached.{EarliestFirst, Reached, opening, release, ticked}
use Rattle.machine.proofs.Release.{each}
use Rattle.machine.specs.Sound.{Rising, Newest, Past, SoundLane, Sound}

rising_since : (T C t r r' : ℕ) (q : List Job) → r' ≤ r → Rising T C t r q → Rising T C t r' q
rising_since T C t r r' [] h c = tt
rising_since T C t r r' (job a w ∷ q) h c = (le_trans h c.0, c.1, c.2, c.3, c.4)

rising-later : (T C t r : ℕ) (q : List Job) → Rising T C t r q → Rising T C (suc t) r q
rising-later T C t r [] c = tt
rising-later T C t r (job a w ∷ q) c = (c.0, omega arith, c.2, c.3, rising-later T C t (a + T) q c.4)

rising-served : (T C t r : ℕ) (q : List Job) → Rising T C t r q → Rising T C t r (served q)
unfolding served
rising-served T C t r [] c = tt
rising-served T C t r (job a zero ∷ q) c = rising_since T C t (a + T) r q (omega arith) c.4
rising-served T C t r (job a (suc zero) ∷ q) c = rising_since T C t (a + T) r q (omega arith) c.4
rising-served T C t r (job a (suc (suc w)) ∷ q) c = (c.0, c.1, omega arith, omega arith, c.4)

newest-served : (last : Option ℕ) (q : List Job) → Newest last q → Newest last (served q)
unfolding served
newest-served last [] n = tt
newest-served last (job a zero ∷ []) n = tt
newest-served last (job a (suc zero) ∷ []) n = tt
newest-served last (job a (suc (suc w)) ∷ []) n = n
newest-served last (job a zero ∷ job a' w' ∷ q) n = n
newest-served last (job a (suc zero) ∷ job a' w' ∷ q) n = n
newest-served last (job a (suc (suc w)) ∷ job a' w' ∷ q) n = n

past-later : (t : ℕ) (last : Option ℕ) → Past t last → Past (suc t) last
past-later t none p = tt
past-later t (some l) p = omega arith

newest-joined : (t c : ℕ) (q : List Job) → Newest (some t) (q ++ job t c ∷ [])
newest-joined t c [] = refl
newest-joined t c (job a w ∷ []) = refl
newest-joined t c (job a w ∷ job a' w' ∷ q) = newest-joined t c (job a' w' ∷ q)

-- where 22 isn't met the clock is T or more after every pending release, so the new one rises by T too
rising-joined :
    (T C t c r : ℕ) (last : Option ℕ) (q : List Job) → within T t last ≡ false → 1 ≤ c → c ≤ C → r ≤ t → Newest last q
    → Rising T C t r q → Rising T C t r (q ++ job t c ∷ [])
rising-joined T C t c r last [] free low high h n p = (h, le_refl t, low, high, tt)
rising-joined T C t c r last (job a w ∷ []) free low high h n p =
    (p.0, p.1, p.2, p.3, (ltb-false t (a + T) (rw n at free), le_refl t, low, high, tt))
rising-joined T C t c r last (job a w ∷ job a' w' ∷ q) free low high h n p =
    (p.0, p.1, p.2, p.3, rising-joined T C t c (a + T) last (job a' w' ∷ q) free low high (omega (arith, p.4.0, p.4.1)) n p.4)

pub opened-sound : (s : TaskSet) → Sound s opened
unfolding opened
opened-sound s = record { lanes = λ i h. record { rising = tt; newest = tt; past = tt }; unused = λ i h. refl }

pub admitted-sound : (s : TaskSet) (M : Machine) (i c : ℕ) → Allowed s M i c → Sound s M → Sound s (admitted i c M)
unfolding admitted joined too_soon
admitted-sound s M i c A S =
    record {
      lanes =
          each s.count M i c (λ j l. SoundLane (s.task j).separation (s.task j).budget M.clock l) S.lanes
          (record {
            rising =
                rising-joined (s.task i).separation (s.task i).budget M.clock c 0 (M.lane i).last (M.lane i).queue A.apart
                A.demand-low A.demand-high (omega arith) (S.lanes i A.in_table).newest (S.lanes i A.in_table).rising;
            newest = newest-joined M.clock c (M.lane i).queue;
            past = le_refl M.clock;
          });
      unused = λ j h. rw (ne_eqb j i (λ e. absurd (omega (arith, A.in_table)))) (S.unused j h);
    }

pub advanced-sound : (s : TaskSet) (M : Machine) (run : ℕ → Bool) → EarliestFirst s M run → Sound s M → Sound s (advanced run M)
unfolding advanced
advanced-sound s M run E S =
    record {
      lanes = λ i h.
          record {
            rising = later (run i) i (S.lanes i h).rising;
            newest = kept (run i) i (S.lanes i h).newest;
            past = past-later M.clock (M.lane i).last (S.lanes i h).past;
          };
      unused = λ i h. rw (idle i h (run i) refl) (S.unused i h);
    }
  where
    later :
        (b : Bool) (i : ℕ) → Rising (s.task i).separation (s.task i).budget M.clock 0 (M.lane i).queue
        → Rising (s.task i).separation (s.task i).budget (suc M.clock) 0 (cond b (served (M.lane i).queue) (M.lane i).queue)
    later true i p =
        rising-served (s.task i).separation (s.task i).budget (suc M.clock) 0 (M.lane i).queue
        (rising-later (s.task i).separation (s.task i).budget M.clock 0 (M.lane i).queue p)
    later false i p = rising-later (s.task i).separation (s.task i).budget M.clock 0 (M.lane i).queue p

    kept :
        (b : Bool) (i : ℕ) → Newest (M.lane i).last (M.lane i).queue
        → Newest (M.lane i).last (cond b (served (M.lane i).queue) (M.lane i).queue)
    kept true i n = newest-served (M.lane i).last (M.lane i).queue n
    kept false i n = n

    idle : (i : ℕ) → s.count ≤ i → (b : Bool) → run i ≡ b → run i ≡ false
    idle i h true e = absurd (omega (arith, (E.heads i e).0))
    idle i h false e = e

pub reached-sound : (s : TaskSet) {M : Machine} → Reached s M → Sound s M
reached-sound s opening = opened-sound s
reached-sound s (release {M = M} i c a r) = admitted-sound s M i c a (reached-sound s r)
reached-sound s (ticked {M = M} run e r) = advanced-sound s M run e (reached-sound s r)
