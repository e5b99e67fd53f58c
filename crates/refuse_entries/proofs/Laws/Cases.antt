-- The definitions computed: words, rows and whole states, each class once and the state that passes. Assumes nothing.
use Rattle.std.specs.Prelude.{ℕ, ◌+◌, ◌*◌, ◌^◌, Bool, not, ◌&&◌, List, T, eqb, set, replicate}
use Rattle.base_sets.specs.Members.{members, digits_from}
use Rattle.def_kinds.specs.Reasons.{are_reasons}
use Rattle.base_tests.specs.Tests.{any_below, any_of}
use Rattle.def_transfer.specs.Accepted.{not_anumber, not_yet_handed_out}
use Rattle.lent_sets.specs.Rows.{upto, row_word, set_word, number, row_number, word_of, set_at, put_word, put_row, put_set}
use Rattle.refuse_entries.specs.Words.{has_entry, word_out_of_range, word_unfit, row_out_of_range, row_in_use, row_too_new, row_unfit, next_out_of_range, access_out_of_range, identifiers, wrong_lengths, values_out_of_range, rows_out_of_range, values_unfit, rows_unfit, state_out_of_range, state_unfit, state_refusal}

-- no entry anywhere
abbrev values : List ℕ
values = replicate 1024 0

-- two rows, of which none is defined
-- so the identifiers in the list are 0 and 1
abbrev sets : List ℕ
sets = replicate 32 0

-- an entry at the last fresh number below next 4, and one with every reason at the own value of identifier 1
abbrev entries : List ℕ
entries = set (set values 3 6) 513 (8 * 4095 + 1)

-- identifier 0 is not defined, identifier 1 has both of these values
abbrev defined : List ℕ
defined = put_set sets 1 (2 ^ 3 + 2 ^ 513)

-- whether the answer is r
abbrev gives : ℕ → List ℕ → List ℕ → ℕ → ℕ → Bool
gives r vs ss next access = eqb (state_refusal vs ss next access) r

-- a word: no number, no kind, no reason, past 32 bits; the last that pass; no entry at all
words_3 : T
    (word_out_of_range 2 0 1
    && word_out_of_range 2 514 1
    && word_out_of_range 2 513 7
    && word_out_of_range 2 513 (8 * 4096 + 1)
    && word_out_of_range 2 513 (8 * 2 ^ 32 + 1)
    && not (word_out_of_range 2 513 (8 * 4095 + 6))
    && not (word_out_of_range 2 1023 8))
unfolding not_anumber are_reasons has_entry word_out_of_range
words_3 = tt

-- a word: the first number not handed out, the last that is, an own value, an unused word, an empty one
words_4 : T (word_unfit 4 4 1 && not (word_unfit 4 3 1) && not (word_unfit 4 513 1) && word_unfit 4 9 8 && not (word_unfit 4 9 0))
unfolding not_yet_handed_out has_entry word_unfit
words_4 = tt

-- a row: a member that is no number, the last that is; a member not handed out, the last that is; bits in a row that is not defined
rows_3_4 : T
    (row_out_of_range 2 (put_set sets 1 (2 ^ 514)) 1
    && not (row_out_of_range 2 (put_set sets 1 (2 ^ 513)) 1)
    && row_unfit 4 (put_set sets 1 (2 ^ 4)) 1
    && not (row_unfit 4 (put_set sets 1 (2 ^ 3)) 1)
    && row_unfit 4 (set sets 16 2) 1
    && row_unfit 4 (set sets 31 1) 1
    && not (row_unfit 4 sets 1))
unfolding any_of any_below not_anumber not_yet_handed_out digits_from members upto row_word set_word number row_number word_of set_at put_word put_row put_set row_out_of_range row_in_use row_too_new row_unfit
rows_3_4 = tt

-- a whole state: accepted; lists of wrong lengths; next and access out of range; 3 before 4; an unused word
states : T
    (gives 0 entries defined 4 2
    && gives 1 (replicate 1023 0) sets 0 0
    && gives 1 values (replicate 17 0) 4 0
    && gives 3 values sets 0 0
    && gives 3 values sets 513 0
    && gives 3 values sets 4 3
    && gives 3 (set (set values 1000 8) 1023 7) sets 4 0
    && state_unfit 2 4 (set values 1000 8) sets)
unfolding any_of any_below not_anumber not_yet_handed_out are_reasons digits_from members upto row_word set_word number row_number word_of set_at put_word put_row put_set has_entry word_out_of_range word_unfit row_out_of_range row_in_use row_too_new row_unfit next_out_of_range access_out_of_range identifiers wrong_lengths values_out_of_range rows_out_of_range values_unfit rows_unfit state_out_of_range state_unfit state_refusal
states = tt
