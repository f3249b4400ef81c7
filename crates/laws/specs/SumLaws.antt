-- Laws of sums over rows, over the indices at which a test holds, and over the indices that a list names.
--     sum_step         one index more, at n + 1
--     sum_ext          rows that agree below n have the same sum
--     sum_mono         a row that is at most another below n has at most its sum
--     sum_less         and less, if they differ somewhere below n
--     sum_zero         a row of zeros
--     sum_const        a constant row
--     sum_add          the sum of two rows, entry by entry
--     sum_mul          a row times a number
--     sum_le_mul       entries at most b: the sum is at most n * b
--     term_le_sum      an entry is at most the sum
--     sum_but_one      rows that agree but at k
--     sum-upto         the sum below fewer is at most the sum below more
--     count_ext, count_mono, count_less, count_le      the same of the number of indices at which a test holds
--     count_none, count-all, count_not, count_pos      it is 0, it is n, the indices at which the test fails, it isn't 0
--     count-full       where it is n, the test holds at every index
--     sum_in p f n      the sum of f over the indices below n at which p holds
--     sum_in_mono, sum_in_le      the same of that sum; it is at most the whole one
--     sum_in-count      of a constant row; sum_in-rest: with the indices at which p fails it is the whole sum
--     sum_over_ext, sum_over_mono, sum_over_const
--     sum_over-append   over two lists, one behind the other; sum_over-take: over the first k of a list, place by place
--     sum_over_members  over a list that names no index twice, all below n, it is the sum over its members; count_members: their number
use Rattle.std.specs.Prelude.{ℕ, zero, suc, ◌+◌, ◌*◌, ◌≤◌, ◌<◌, Bool, true, false, cond, not, ◌≡◌, refl, ◌≢◌, List, [], ◌∷◌, ◌++◌, length, get_or, take}
use Rattle.std.proofs.Common.{sym, ◌∙◌, ⊎_elim, not-suc-le-zero, le_of_suc-le-suc, eq-or-lt_of_le, mul-add, suc-mul, mul_comm, le_refl, add-one, arith, take-suc, eq-eqb, ne_eqb}
use Rattle.std.proofs.Math.Arith.{le-zero}
use Rattle.laws.specs.Sum.{sum, count, sum_over}
use Rattle.laws.specs.Member.{member, Distinct}
use Rattle.laws.specs.MemberLaws.{member-here, member-there}

pub sum_step : (f : ℕ → ℕ) (n : ℕ) → sum f (n + 1) ≡ sum f n + f n
unfolding sum
sum_step f n = rw add-one

pub sum_ext : (f g : ℕ → ℕ) (n : ℕ) → ((i : ℕ) → i < n → f i ≡ g i) → sum f n ≡ sum g n
unfolding sum
sum_ext f g zero same = refl
sum_ext f g (suc n) same = omega (arith, sum_ext f g n (λ i h. same i (omega arith)), same n (omega arith))

pub sum_mono : (f g : ℕ → ℕ) (n : ℕ) → ((i : ℕ) → i < n → f i ≤ g i) → sum f n ≤ sum g n
unfolding sum
sum_mono f g zero le = omega arith
sum_mono f g (suc n) le = omega (arith, sum_mono f g n (λ i h. le i (omega arith)), le n (omega arith))

pub sum_less : (f g : ℕ → ℕ) (n : ℕ) → ((i : ℕ) → i < n → f i ≤ g i) → (k : ℕ) → k < n → f k ≢ g k → sum f n < sum g n
unfolding sum
sum_less f g zero le k h ne = absurd (not-suc-le-zero h)
sum_less f g (suc n) le k h ne =
    ⊎_elim
    (λ (q : k ≡ n). omega (arith, sum_mono f g n (λ i l. le i (omega arith)), le n (omega arith), rw q at ne))
    (λ (q : k < n). omega (arith, sum_less f g n (λ i l. le i (omega arith)) k q ne, le n (omega arith)))
    (eq-or-lt_of_le (le_of_suc-le-suc h))

pub sum_zero : (f : ℕ → ℕ) (n : ℕ) → ((i : ℕ) → i < n → f i ≡ 0) → sum f n ≡ 0
unfolding sum
sum_zero f zero none = refl
sum_zero f (suc n) none = omega (arith, sum_zero f n (λ i h. none i (omega arith)), none n (omega arith))

pub sum_const : (b n : ℕ) → sum (λ i. b) n ≡ n * b
unfolding sum
sum_const b zero = omega arith
sum_const b (suc n) = omega (arith, sum_const b n, suc-mul n b)

pub sum_add : (f g : ℕ → ℕ) (n : ℕ) → sum (λ i. f i + g i) n ≡ sum f n + sum g n
unfolding sum
sum_add f g zero = refl
sum_add f g (suc n) = omega (arith, sum_add f g n)

pub sum_mul : (k : ℕ) (f : ℕ → ℕ) (n : ℕ) → sum (λ i. k * f i) n ≡ k * sum f n
unfolding sum
sum_mul k f zero = omega arith
sum_mul k f (suc n) = omega (arith, sum_mul k f n, mul-add k (sum f n) (f n))

pub sum_le_mul : (f : ℕ → ℕ) (b n : ℕ) → ((i : ℕ) → i < n → f i ≤ b) → sum f n ≤ n * b
sum_le_mul f b n le = omega (arith, sum_mono f (λ i. b) n le, sum_const b n)

pub sum-upto : (f : ℕ → ℕ) (m n : ℕ) → m ≤ n → sum f m ≤ sum f n
unfolding sum
sum-upto f m zero h = rw (le-zero h) (omega arith)
sum-upto f m (suc n) h =
    ⊎_elim (λ (q : m ≡ suc n). rw q (le_refl _)) (λ (q : m < suc n). omega (arith, sum-upto f m n (omega arith))) (eq-or-lt_of_le h)

pub term_le_sum : (f : ℕ → ℕ) (n i : ℕ) → i < n → f i ≤ sum f n
unfolding sum
term_le_sum f n i h = omega (arith, sum-upto f (suc i) n h)

pub sum_but_one : (f g : ℕ → ℕ) (n k : ℕ) → k < n → ((i : ℕ) → i < n → i ≢ k → f i ≡ g i) → sum f n + g k ≡ sum g n + f k
unfolding sum
sum_but_one f g zero k h same = absurd (not-suc-le-zero h)
sum_but_one f g (suc n) k h same =
    ⊎_elim
    (λ (q : k ≡ n). rw q (omega (arith, sum_ext f g n (λ i l. same i (omega arith) (omega arith)))))
    (λ (q : k < n). omega (arith, sum_but_one f g n k q (λ i l ne. same i (omega arith) ne), same n (omega arith) (omega arith)))
    (eq-or-lt_of_le (le_of_suc-le-suc h))

pub count_ext : (p q : ℕ → Bool) (n : ℕ) → ((i : ℕ) → i < n → p i ≡ q i) → count p n ≡ count q n
unfolding count
count_ext p q n same = sum_ext (λ i. cond (p i) 1 0) (λ i. cond (q i) 1 0) n (λ i h. rw (same i h))

-- the entries of a row where a test holds are at most those of another where a wider test holds
within : (b c : Bool) (x y : ℕ) → (b ≡ true → c ≡ true) → (b ≡ true → x ≤ y) → cond b x 0 ≤ cond c y 0
within false c x y sub le = omega arith
within true c x y sub le = rw (sub refl) (le refl)

unfoldable pub sum_in : (ℕ → Bool) → (ℕ → ℕ) → ℕ → ℕ
sum_in p f n = sum (λ i. cond (p i) (f i) 0) n

pub sum_in_mono :
    (p q : ℕ → Bool) (f g : ℕ → ℕ) (n : ℕ) → ((i : ℕ) → i < n → p i ≡ true → q i ≡ true) → ((i : ℕ) → i < n → p i ≡ true → f i ≤ g i)
    → sum_in p f n ≤ sum_in q g n
unfolding sum_in
sum_in_mono p q f g n sub le = sum_mono (λ i. cond (p i) (f i) 0) (λ i. cond (q i) (g i) 0) n (λ i h. within (p i) (q i) (f i) (g i) (sub i h) (le i h))

pub sum_in-count : (p : ℕ → Bool) (b n : ℕ) → sum_in p (λ i. b) n ≡ count p n * b
unfolding sum_in count
sum_in-count p b n =
    sum_ext (λ i. cond (p i) b 0) (λ i. b * cond (p i) 1 0) n (λ i h. one (p i)) ∙ sum_mul b (λ i. cond (p i) 1 0) n ∙ mul_comm b (count p n)
  where
    one : (c : Bool) → cond c b 0 ≡ b * cond c 1 0
    one true = omega arith
    one false = omega arith

pub sum_in-rest : (p : ℕ → Bool) (f : ℕ → ℕ) (n : ℕ) → sum_in p f n + sum_in (λ i. not (p i)) f n ≡ sum f n
unfolding sum_in
sum_in-rest p f n =
    sym (sum_add (λ i. cond (p i) (f i) 0) (λ i. cond (not (p i)) (f i) 0) n)
    ∙ sum_ext (λ i. cond (p i) (f i) 0 + cond (not (p i)) (f i) 0) f n (λ i h. one (p i) (f i))
  where
    one : (c : Bool) (x : ℕ) → cond c x 0 + cond (not c) x 0 ≡ x
    one true x = omega arith
    one false x = omega arith

pub sum_in_le : (p : ℕ → Bool) (f : ℕ → ℕ) (n : ℕ) → sum_in p f n ≤ sum f n
sum_in_le p f n = omega (arith, sum_in-rest p f n)

pub count_mono : (p q : ℕ → Bool) (n : ℕ) → ((i : ℕ) → i < n → p i ≡ true → q i ≡ true) → count p n ≤ count q n
unfolding count sum_in
count_mono p q n sub = sum_in_mono p q (λ i. 1) (λ i. 1) n sub (λ i h e. omega arith)

pub count_less :
    (p q : ℕ → Bool) (n : ℕ) → ((i : ℕ) → i < n → p i ≡ true → q i ≡ true) → (k : ℕ) → k < n → p k ≡ false → q k ≡ true
    → count p n < count q n
unfolding count
count_less p q n sub k h e f =
    sum_less
    (λ i. cond (p i) 1 0)
    (λ i. cond (q i) 1 0)
    n
    (λ i l. within (p i) (q i) 1 1 (sub i l) (λ _. omega arith))
    k
    h
    (rw (e, f) (λ z. omega arith))

pub count_le : (p : ℕ → Bool) (n : ℕ) → count p n ≤ n
unfolding count
count_le p n = omega (arith, sum_le_mul (λ i. cond (p i) 1 0) 1 n (λ i h. one (p i)))
  where
    one : (c : Bool) → cond c 1 0 ≤ 1
    one true = omega arith
    one false = omega arith

pub count_none : (p : ℕ → Bool) (n : ℕ) → ((i : ℕ) → i < n → p i ≡ false) → count p n ≡ 0
unfolding count
count_none p n none = sum_zero (λ i. cond (p i) 1 0) n (λ i h. rw (none i h))

pub count-all : (p : ℕ → Bool) (n : ℕ) → ((i : ℕ) → i < n → p i ≡ true) → count p n ≡ n
unfolding count
count-all p n all = sum_ext (λ i. cond (p i) 1 0) (λ i. 1) n (λ i h. rw (all i h)) ∙ omega (arith, sum_const 1 n)

pub count_not : (p : ℕ → Bool) (n : ℕ) → count p n + count (λ i. not (p i)) n ≡ n
unfolding count sum_in
count_not p n = sum_in-rest p (λ i. 1) n ∙ omega (arith, sum_const 1 n)

pub count_pos : (p : ℕ → Bool) (n i : ℕ) → i < n → p i ≡ true → 0 < count p n
unfolding count
count_pos p n i h e = omega (arith, rw e at (term_le_sum (λ j. cond (p j) 1 0) n i h))

pub count-full : (p : ℕ → Bool) (n : ℕ) → count p n ≡ n → (i : ℕ) → i < n → p i ≡ true
count-full p n full i h = go (p i) refl
  where
    go : (b : Bool) → p i ≡ b → p i ≡ true
    go true e = e
    go false e = absurd (omega (arith, count_less p (λ j. true) n (λ j l _. refl) i h e refl, count_le (λ j. true) n))

pub sum_over_mono : (f g : ℕ → ℕ) (l : List ℕ) → ((i : ℕ) → member i l ≡ true → f i ≤ g i) → sum_over f l ≤ sum_over g l
unfolding sum_over
sum_over_mono f g [] le = omega arith
sum_over_mono f g (i ∷ l) le = omega (arith, sum_over_mono f g l (λ j e. le j (member-there j i l e)), le i (member-here i l))

pub sum_over_ext : (f g : ℕ → ℕ) (l : List ℕ) → ((i : ℕ) → member i l ≡ true → f i ≡ g i) → sum_over f l ≡ sum_over g l
unfolding sum_over
sum_over_ext f g [] same = refl
sum_over_ext f g (i ∷ l) same = omega (arith, sum_over_ext f g l (λ j e. same j (member-there j i l e)), same i (member-here i l))

pub sum_over_const : (b : ℕ) (l : List ℕ) → sum_over (λ i. b) l ≡ length l * b
unfolding sum_over
sum_over_const b [] = omega arith
sum_over_const b (i ∷ l) = omega (arith, sum_over_const b l, suc-mul (length l) b)

pub sum_over-append : (f : ℕ → ℕ) (l m : List ℕ) → sum_over f (l ++ m) ≡ sum_over f l + sum_over f m
unfolding sum_over
sum_over-append f [] m = omega arith
sum_over-append f (i ∷ l) m = omega (arith, sum_over-append f l m)

pub sum_over-take : (f : ℕ → ℕ) (l : List ℕ) (k : ℕ) → k ≤ length l → sum_over f (take k l) ≡ sum (λ a. f (get_or l a 0)) k
unfolding sum_over sum
sum_over-take f l zero h = refl
sum_over-take f l (suc k) h =
    rw (take-suc l k 0 h, sum_over-append f (take k l) (get_or l k 0 ∷ []), sum_over-take f l k (omega arith)) (omega arith)

pub sum_over_members :
    (f : ℕ → ℕ) (l : List ℕ) (n : ℕ) → Distinct l → ((i : ℕ) → member i l ≡ true → i < n) → sum_over f l ≡ sum_in (λ i. member i l) f n
unfolding sum_over sum_in member Distinct
sum_over_members f [] n d below = sym (sum_zero (λ i. cond (member i []) (f i) 0) n (λ i h. refl))
sum_over_members f (j ∷ l) n d below =
    let one : sum (λ i. cond (member i (j ∷ l)) (f i) 0) n + cond (member j l) (f j) 0 ≡ sum (λ i. cond (member i l) (f i) 0) n + cond (member j (j ∷ l)) (f j) 0 =
    sum_but_one
    (λ i. cond (member i (j ∷ l)) (f i) 0)
    (λ i. cond (member i l) (f i) 0)
    n
    j
    (below j (member-here j l))
    (λ i h ne. rw (ne_eqb i j ne)) in
    let ih = sum_over_members f l n d.1 (λ i e. below i (member-there i j l e)) in
    omega (arith, rw (d.0, eq-eqb j j refl) at one)

pub count_members : (l : List ℕ) (n : ℕ) → Distinct l → ((i : ℕ) → member i l ≡ true → i < n) → count (λ i. member i l) n ≡ length l
unfolding count sum_in
count_members l n d below = omega (arith, sum_over_members (λ i. 1) l n d below, sum_over_const 1 l)
