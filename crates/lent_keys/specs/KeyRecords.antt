-- Keys of effects as the code holds them, and as records of words. Assumes nothing: these are definitions.
use Rattle.std.specs.Prelude.{ℕ, zero, suc, ◌+◌, ◌*◌, List, [], ◌∷◌, eqb, length, Option, None, Some}
use Rattle.base_tests.specs.Tests.{ite}
use Rattle.def_effects.specs.Keys.{EffectKey}
use Rattle.lent_tables.specs.declared.Table.{Table}
use Rattle.lent_tables.specs.Words.{field, put_field}
use Rattle.lent_keys.specs.declared.Key.{Key}
use Rattle.lent_keys.specs.declared.Numbers.{Numbers}
use Rattle.lent_keys.specs.declared.WholeKey.{WholeKey}

-- the key that the code holds, with the identifiers of the captures beside it
-- only a key that has captures takes them
unfoldable pub key_with : Key → List ℕ → EffectKey
key_with k is = record {
  code = k.code;
  from = k.from;
  into = k.into;
  kind = k.kind;
  reason = k.reason;
  function = k.function;
  identity = k.identity;
  captures = ite k.captured is [];
}

-- n numbers of a run that begins at word w of record i, s words apart, from its number k on
-- the identifiers of captures: five words apart in an effect, one in a key
unfoldable pub numbers_in : Table → List ℕ → ℕ → ℕ → ℕ → ℕ → ℕ → List ℕ
numbers_in t c i w s k zero = []
numbers_in t c i w s k (suc n) = field t c i (w + k * s) ∷ numbers_in t c i w s (suc k) n

-- the list with numbers written from number k of such a run on
-- those that the record has no room for are not written
unfoldable pub put_numbers : Table → List ℕ → ℕ → ℕ → ℕ → ℕ → List ℕ → List ℕ
put_numbers t c i w s k [] = c
put_numbers t c i w s k (x ∷ xs) = put_numbers t (put_field t c i (w + k * s) x) i w s (suc k) xs

-- ---- a key as a record of 28 words: 1 where there is one; code; source, destination and function each as 0 or 1 and a number;
-- ---- kind; reason; identity; the count of captures; sixteen identifiers

-- a number that may be absent: 0, or 1 and the number
-- two words, so that every number can stand there
unfoldable pub option_in : Table → List ℕ → ℕ → ℕ → Option ℕ
option_in t c i w = ite (eqb (field t c i w) 0) None (Some (field t c i (w + 1)))

-- the first word of a number that may be absent
-- 0 for none
abbrev flag_of : Option ℕ → ℕ
flag_of None = 0
flag_of (Some n) = 1

-- its second word
abbrev number_of : Option ℕ → ℕ
number_of None = 0
number_of (Some n) = n

-- the list with a number that may be absent written at word w of record i
-- both words, so that nothing of an older one stays
unfoldable pub put_option : Table → List ℕ → ℕ → ℕ → Option ℕ → List ℕ
put_option t c i w o = put_field t (put_field t c i w (flag_of o)) i (w + 1) (number_of o)

-- the key that stands in record i, with given captures
-- "cached numbers": each fresh number with its key or none
unfoldable pub key_head_in : Table → List ℕ → ℕ → List ℕ → EffectKey
key_head_in t c i is = record {
  code = field t c i 1;
  from = option_in t c i 2;
  into = option_in t c i 4;
  kind = field t c i 6;
  reason = field t c i 7;
  function = option_in t c i 8;
  identity = field t c i 10;
  captures = is;
}

-- the key of record i, or none
-- word 0 says whether there is one
unfoldable pub key_in : Table → List ℕ → ℕ → Option EffectKey
key_in t c i = ite (eqb (field t c i 0) 0) None (Some (key_head_in t c i (numbers_in t c i 12 1 0 (field t c i 11))))

-- the list with a key written as record i, but for its captures
unfoldable pub put_head : Table → List ℕ → ℕ → EffectKey → List ℕ
put_head t c i k =
    put_field t (put_option t (put_field t (put_field t (put_option t (put_option t (put_field t (put_field t c i 0 1) i 1 k.code) i 2 k.from) i 4 k.into) i 6 k.kind) i 7 k.reason) i 8 k.function) i 10 k.identity

-- the list with a key written as record i
-- all its words but those of captures that it does not have
unfoldable pub put_key : Table → List ℕ → ℕ → EffectKey → List ℕ
put_key t c i k = put_numbers t (put_field t (put_head t c i k) i 11 (length k.captures)) i 12 1 0 k.captures

-- the numbers of a run that the code holds
abbrev pub listed : Numbers → List ℕ
listed r = numbers_in r.table r.words.now r.row r.first r.step 0 r.count

-- the key that the code holds with the identifiers beside it
abbrev pub whole : WholeKey → EffectKey
whole k = key_with k.head (listed k.beside)
