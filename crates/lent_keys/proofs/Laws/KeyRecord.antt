-- A key as a record of words: its captures, read, written. Assumes nothing.
use Prim.Native.Nat.{ℕ, suc, ◌+◌, ◌*◌, ◌≤◌, ◌<◌}
use Rattle.std.specs.Prelude.{◌≡◌, true, length, Option}
use Rattle.std.proofs.Common.{sym, ◌∙◌}
use Rattle.std.proofs.Math.Path.{ap, ap₂}
use mathlib.Core.List.{List, []}
use native.Mathlib.Omega.{arith}
use Rattle.def_effects.specs.declared.Place.{Place}
use Rattle.def_effects.specs.Places.{identifiers}
use Rattle.def_effects.specs.Keys.{effect_key}
use Rattle.lent_tables.specs.declared.Table.{Table}
use Rattle.lent_tables.specs.Words.{field, put_field}
use Rattle.lent_effects.specs.declared.AliasingEffect.{AliasingEffect as Head}
use Rattle.lent_effects.specs.Records.{counted_places, effect_with, head_in, effect_in}
use Rattle.lent_keys.specs.declared.Key.{Key}
use Rattle.lent_keys.specs.declared.Numbers.{Numbers}
use Rattle.lent_keys.specs.KeyRecords.{key_with, numbers_in, listed, put_numbers, option_in, put_option, key_head_in, put_head, put_key}
use Rattle.lent_keys.proofs.Laws.Number.{listed_from, numbers_more, numbers_none, numbers_all, numbers_count, places_numbers}

-- ---- the captures of a key

-- the identifiers of places that are counted, as a run
pub places_listed : (t : Table) (c : List ℕ) (i w n : ℕ) → n ≡ field t c i w → numbers_in t c i (w + 1) 5 0 n ≡ identifiers (counted_places t c i w)
unfolding counted_places
places_listed t c i w n h = ap (numbers_in t c i (w + 1) 5 0) h ∙ sym (places_numbers t c i (w + 1) 0 (field t c i w))

-- the key of a record's effect
pub effect_key_is : (t : Table) (c : List ℕ) (i : ℕ) (key : Key) (e : Head) (is : List ℕ) → e ≡ head_in t c i → ((cs : List Place) → key_with key (identifiers cs) ≡ effect_key (effect_with e cs))
    → is ≡ identifiers (counted_places t c i 17) → key_with key is ≡ effect_key (effect_in t c i)
unfolding effect_in
effect_key_is t c i key e is g h k = ap (key_with key) k ∙ h (counted_places t c i 17) ∙ ap (λ (x : Head). effect_key (effect_with x (counted_places t c i 17))) g

-- ---- a key as a record

-- the key of a record, of the words that were read
pub reads_head : (t : Table) (c : List ℕ) (i n k r d : ℕ) (f o g : Option ℕ)
    → n ≡ field t c i 1 → f ≡ option_in t c i 2 → o ≡ option_in t c i 4 → k ≡ field t c i 6 → r ≡ field t c i 7 → g ≡ option_in t c i 8 → d ≡ field t c i 10
    → (is : List ℕ) → key_with (record { code = n; from = f; into = o; kind = k; reason = r; function = g; identity = d; captured = true }) is ≡ key_head_in t c i is
unfolding key_with key_head_in
reads_head t c i n k r d f o g h1 h2 h3 h4 h5 h6 h7 is = λ j. record {
  code = h1 j;
  from = h2 j;
  into = h3 j;
  kind = h4 j;
  reason = h5 j;
  function = h6 j;
  identity = h7 j;
  captures = is;
}

-- ---- a key written

module _ (t : Table) (c : List ℕ) (i : ℕ) (r : Numbers) where
  -- a loop that writes a run begins with all of it
  pub write_start : put_numbers t c i 12 1 0 (listed_from r 0) ≡ put_numbers t c i 12 1 0 (listed r)
  write_start = ap (put_numbers t c i 12 1 0) (numbers_all r.table r.words.now r.row r.first r.step r.count)

  -- a turn writes one number of it
  pub write_more : (d : List ℕ) (k m x : ℕ) → k < r.count → x ≡ field r.table r.words.now r.row (r.first + k * r.step) → m ≡ k → d ≡ put_field t c i (12 + m) x
      → put_numbers t d i 12 1 (k + 1) (listed_from r (k + 1)) ≡ put_numbers t c i 12 1 k (listed_from r k)
  unfolding put_numbers
  write_more d k m x l e f g =
      let s : k + 1 ≡ suc k = omega arith in
      let p : 12 + m ≡ 12 + k * 1 = omega arith in
      ap₂ (λ (a : List ℕ) (y : ℕ). put_numbers t a i 12 1 y (listed_from r (k + 1))) (g ∙ ap₂ (put_field t c i) p e) s
      ∙ ap (put_numbers t c i 12 1 k) (sym (numbers_more r.table r.words.now r.row r.first r.step k r.count l))

  -- at the end none is left
  pub write_none : (k : ℕ) → r.count ≤ k → c ≡ put_numbers t c i 12 1 k (listed_from r k)
  unfolding put_numbers
  write_none k l = ap (put_numbers t c i 12 1 k) (sym (numbers_none r.table r.words.now r.row r.first r.step k r.count l))

-- the writes of a key before its captures
pub writes_head : (t : Table) (c c1 c2 c3 c4 c5 c6 c7 c8 : List ℕ) (i : ℕ) (key : Key)
    → c1 ≡ put_field t c i 0 1 → c2 ≡ put_field t c1 i 1 key.code → c3 ≡ put_option t c2 i 2 key.from → c4 ≡ put_option t c3 i 4 key.into
    → c5 ≡ put_field t c4 i 6 key.kind → c6 ≡ put_field t c5 i 7 key.reason → c7 ≡ put_option t c6 i 8 key.function → c8 ≡ put_field t c7 i 10 key.identity
    → c8 ≡ put_head t c i (key_with key [])
unfolding put_head key_with
writes_head t c c1 c2 c3 c4 c5 c6 c7 c8 i key h1 h2 h3 h4 h5 h6 h7 h8 = cc

-- the writes of a key
-- its head, the count of captures that it takes, and their identifiers
pub writes_key : (t : Table) (c c1 c2 c3 : List ℕ) (i : ℕ) (key : Key) (is : List ℕ) (q : Numbers) → listed q ≡ (key_with key is).captures
    → c1 ≡ put_head t c i (key_with key []) → c2 ≡ put_field t c1 i 11 q.count → c3 ≡ put_numbers t c2 i 12 1 0 (listed q) → c3 ≡ put_key t c i (key_with key is)
unfolding put_key put_head key_with
writes_key t c c1 c2 c3 i key is q l h1 h2 h3 =
    h3 ∙ ap₂ (λ (d : List ℕ) (js : List ℕ). put_numbers t d i 12 1 0 js)
    (h2 ∙ ap₂ (λ (d : List ℕ) (y : ℕ). put_field t d i 11 y) h1 (sym (numbers_count q.table q.words.now q.row q.first q.step 0 q.count) ∙ ap length l)) l
