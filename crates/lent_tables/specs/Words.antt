-- Tables of records in a list of words: each record has as many words as the table is wide. Assumes nothing: these are definitions.
use Rattle.std.specs.Prelude.{ℕ, zero, suc, ◌+◌, ◌*◌, Bool, ◌&&◌, ◌||◌, List, [], ◌∷◌, ltb, leb, get_or, set}
use Rattle.base_tests.specs.Tests.{ite}
use Rattle.def_effects.specs.declared.Place.{Place}
use Rattle.lent_tables.specs.declared.Table.{Table}

-- whether a table has a word w in a record i
-- several tables stand in one list: without this test a large number would lead into the next one
unfoldable pub within : Table → ℕ → ℕ → Bool
within t i w = ltb i t.count && ltb w t.width

-- where word w of record i stands
-- records follow one another without gaps
unfoldable pub index : Table → ℕ → ℕ → ℕ
index t i w = t.base + i * t.width + w

-- where a table ends: the first word after its last record
-- what follows it in the list begins there or later
unfoldable pub end : Table → ℕ
end t = t.base + t.count * t.width

-- whether two tables have no word in common: one ends before the other begins
-- a write into one of them then leaves the other
unfoldable pub apart : Table → Table → Bool
apart t u = leb (end t) u.base || leb (end u) t.base

-- word w of record i, 0 where the table has no such word or the list ends before it
-- reading is total, so that a caller need not know that a number lies in its range
unfoldable pub field : Table → List ℕ → ℕ → ℕ → ℕ
field t c i w = ite (within t i w) (get_or c (index t i w) 0) 0

-- the list with word w of record i written; as it was where there is no such word
unfoldable pub put_field : Table → List ℕ → ℕ → ℕ → ℕ → List ℕ
put_field t c i w x = ite (within t i w) (set c (index t i w) x) c

-- the list vs with n words of record i copied into it: word w of the record to word v, and so on
-- what vs has no room for is not written
unfoldable pub copied_words : Table → List ℕ → ℕ → ℕ → ℕ → List ℕ → ℕ → List ℕ
copied_words t c i w zero vs v = vs
copied_words t c i w (suc n) vs v = copied_words t c i (suc w) n (set vs v (field t c i w)) (suc v)

-- ---- places: "identifier, `Effect` in declared order from 0, reactive 0 or 1, start, end"

-- the place that begins at word w of record i
unfoldable pub place_in : Table → List ℕ → ℕ → ℕ → Place
place_in t c i w = record {
  identifier = field t c i w;
  effect = field t c i (w + 1);
  reactive = field t c i (w + 2);
  span = record { start = field t c i (w + 3); end = field t c i (w + 4) };
}

-- the list with a place written at word w of record i
unfoldable pub put_place : Table → List ℕ → ℕ → ℕ → Place → List ℕ
put_place t c i w p =
    put_field t (put_field t (put_field t (put_field t (put_field t c i w p.identifier) i (w + 1) p.effect) i (w + 2) p.reactive) i (w + 3) p.span.start) i (w + 4) p.span.end

-- n places of a run that begins at word w of record i, from its place k on
-- a run of places stands in one record, five words each
unfoldable pub places_in : Table → List ℕ → ℕ → ℕ → ℕ → ℕ → List Place
places_in t c i w k zero = []
places_in t c i w k (suc n) = place_in t c i (w + k * 5) ∷ places_in t c i w (suc k) n

-- the list with places written from place k of such a run on
-- words that the record has no room for are not written
unfoldable pub put_places : Table → List ℕ → ℕ → ℕ → ℕ → List Place → List ℕ
put_places t c i w k [] = c
put_places t c i w k (p ∷ ps) = put_places t (put_place t c i (w + k * 5) p) i w (suc k) ps
