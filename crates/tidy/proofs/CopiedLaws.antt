-- The first n of a list's entries copied over an array of z alone.
use Rattle.std.specs.Prelude.{ℕ, ◌-◌, ◌+◌, ◌≤◌, ◌<◌, ◌≡◌, List, ◌++◌, length, get_or, take, drop, replicate}
use Rattle.std.proofs.Common.{arith, sym, ◌∙◌, ⊎_elim, length-append, length-take, length-drop, get_or-take}
use Rattle.std.proofs.Math.ListN.{get_or-append}
use Rattle.std.proofs.lemmas.List.{get_or-append_right, get_or-drop, length-replicate}
use Rattle.laws.specs.Tab.{tab, cut}
use Rattle.laws.specs.TabLaws.{ext_tab, cut_below, cut-above, get_or_alike}
use Rattle.laws.specs.EveryLaws.{below_or_not}

pub copied :
    {A : Type 0} (l r : List A) (z : A) (n N : ℕ) → r ≡ take n l → n ≤ length l → n ≤ N
    → r ++ drop n (replicate N z) ≡ tab (cut n (λ i. get_or l i z) z) N
copied l r z n N e h k =
    rw e
    (ext_tab (cut n (λ i. get_or l i z) z) (take n l ++ drop n (replicate N z)) N z
    (omega (arith, length-append (take n l) (drop n (replicate N z)), long, length-drop n (replicate N z), length-replicate N z))
    (λ i _. ⊎_elim (λ (b : i < n). front i b) (λ (b : n ≤ i). behind i b) (below_or_not i n)))
  where
    long : length (take n l) ≡ n
    long = length-take n l ∙ omega arith

    front : (i : ℕ) → i < n → get_or (take n l ++ drop n (replicate N z)) i z ≡ cut n (λ j. get_or l j z) z i
    front i b =
        get_or-append (take n l) (drop n (replicate N z)) z i (omega (arith, long))
        ∙ get_or-take n l i z b
        ∙ sym (cut_below n (λ j. get_or l j z) z i b)

    behind : (i : ℕ) → n ≤ i → get_or (take n l ++ drop n (replicate N z)) i z ≡ cut n (λ j. get_or l j z) z i
    behind i b =
        get_or-append_right (take n l) (drop n (replicate N z)) n i z long b
        ∙ get_or-drop n (replicate N z) (i - n) z
        ∙ get_or_alike N (n + (i - n)) z
        ∙ sym (cut-above n (λ j. get_or l j z) z i b)
