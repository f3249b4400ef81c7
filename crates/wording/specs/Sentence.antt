-- Document 02, §2: the sentence that tells a refusal. "A new part composes each refusal of 01 into one English sentence with the loop, core or
-- entry and the offending number in it. It is handed the refusal number, the index and the value found there (0 where none is meant)."
--     Wording, fixed      the fixed words of a sentence: those before the index, and those between index and value
--     wordings            those of 1, 2, 3 and so on, in this order
--     other_wording        those of every other number
--     last_known, Known k  the last number in the table of refusal numbers, and that k is in it
--     wording k           the words of k
--     sentence_of k i v    the sentence of number k, index i and value v
--     longest             no sentence of a number and an index of 32 bits and a value of 64 bits is longer
use Rattle.std.specs.Prelude.{ℕ, zero, suc, ◌≤◌, List, [], ◌∷◌, ◌++◌, get_or}
use Prim.Native.String.{String}
use Rattle.decimal.specs.Decimal.{words, said}

pub record Wording : Type 0 where
  pub place : List ℕ
  pub rule : List ℕ

abbrev pub fixed : String → String → Wording
fixed place rule = record { place = words place; rule = words rule }

-- document 01's numbers, and 25 to 31: what the index counts, and what would be right. Where document 01 gives no index, 0 is where the count begins
unfoldable pub wordings : List Wording
wordings =
    fixed " for byte " ": the edition must be 1 or 2, in a conversion the one that the table is not in, not "
    ∷ fixed " for byte " " onwards: the table must have 4 bytes and 1 more for each core, 12 for each loop (16 in edition 2) and 4 for each entry of slack, not "
    ∷ fixed " for core " " onwards: the number of cores must be 2 to 8, not "
    ∷ fixed " for core " ": its label must be 0 to 63 and above the label of the core before, not "
    ∷ fixed " for loop " " onwards: the number of loops must be at least 1, on a wish sheet above the number of cores, and at most 16, not "
    ∷ fixed " for loop " ": its separation must be 1 to 100,000 ticks, not "
    ∷ fixed " for loop " ": its budget must be at least 1 tick and at most its separation, not "
    ∷ fixed " for loop " ": its offset must be at most its separation, not "
    ∷ fixed " for loop " " onwards: the least common multiple of all separations must be 1 to 1,000,000, not "
    ∷ fixed " for loop " " onwards: the shares must add up to at least 1 and at most the number of cores times the least common multiple of all separations, not "
    ∷ fixed " for loop " " onwards: the slack count must be 0 or, where slack may be offered, the number of loops, not "
    ∷ fixed " for loop " ": its slack must be compliant if it is offered and, if it is found, the smallest that is compliant, or 0 where loops are no more than cores, not "
    ∷ fixed " for loop " ": its bound must be at most 16 times its separation, not "
    ∷ fixed " for entry " " onwards: the log must have 2 bytes and 9 more for each entry that it counts, not "
    ∷ fixed " for entry " ": its tick must be at most 1,000,000,000, not "
    ∷ fixed " for entry " " onwards: the lent answer must have at least 8 bytes for each entry, not "
    ∷ fixed " for entry " ": its tick must be at least the largest tick before it, not "
    ∷ fixed " for loop " " onwards: the engine's state must be sound, which it is not at tick "
    ∷ fixed " for loop " " onwards: the clock must be below 4,000,000,000 for a release or a step, not "
    ∷ fixed " for release " ": it must be of a loop in the table, not of loop "
    ∷ fixed " for release " ": its demand must be at least 1 tick and at most its loop's budget, not "
    ∷ fixed " for release " ": the ticks since its loop's last taken release must be at least the loop's separation, not "
    ∷ fixed " for release " ": its loop must hold fewer than 16 unfinished jobs, not "
    ∷ fixed " for byte " " onwards: the lent buffer must be at least as long as what is to be written, not "
    ∷ fixed " for byte " " onwards: the buffer lent for a sentence must be at least as long as the sentence, for which 256 bytes are always enough, not "
    ∷ fixed " for loop " ": its wish must be at least its budget and at most 16 times its separation, not "
    ∷ fixed " for loop " " onwards: whole offsets and compliant slack must exist with every bound at most its wish, and the number of such solutions is "
    ∷ fixed " for loop " ": its deadline must be 1 to 1,600,000 ticks, not "
    ∷ fixed " for loop " ": on the way to edition 2, its offset must be at least 1 tick, not "
    ∷ fixed " for loop " ": on the way to edition 1, its deadline must equal its offset, not "
    ∷ fixed " for loop " " onwards: for a conversion the number of loops must be above the number of cores, not "
    ∷ []

-- "A number outside the table … gets a sentence with the word `unknown`"
abbrev pub other_wording : Wording
other_wording = fixed " for place " ": the meaning of this number is unknown here, and the value found is "

-- "the table, which 25 and each later number joins"
abbrev pub last_known : ℕ
last_known = 31

abbrev pub Known : ℕ → Type 0
Known k = (1 ≤ k) × (k ≤ last_known)

unfoldable pub wording : ℕ → Wording
wording zero = other_wording
wording (suc j) = get_or wordings j other_wording

-- number, index and value, each behind its words: `Refusal 7 for loop 1: its budget must be at least 1 tick and at most its separation, not 11.`
unfoldable pub sentence_of : ℕ → ℕ → ℕ → List ℕ
sentence_of k i v = said (words "Refusal ") k ++ said (wording k).place i ++ said (wording k).rule v ++ words "."

-- what a caller lends who wants every sentence
abbrev pub longest : ℕ
longest = 256
