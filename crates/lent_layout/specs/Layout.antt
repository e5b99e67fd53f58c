-- The tables in lent words: how wide their records are, and how many there can be. Assumes nothing: these are definitions.
-- Nothing else says a size of the layout. A context has a slice for each of its tables (`specs/Context.antt`), in which the table begins at word 0.
use Rattle.std.specs.Prelude.{ℕ}
use Rattle.lent_tables.specs.declared.Table.{Table}

-- identifiers: "flags (1 ref, 2 hoisted), name 1..512 or 0, access start, end"
-- "identifiers (at most 512)"
abbrev pub identifiers : Table
identifiers = record { base = 0; count = 512; width = 4 }

-- functions: flags (1 effects known, 2 tracked side effect), count of context places, count of places mutated inside, 32 such places
-- "functions (64)"; the context places stand in a table of their own, since they change
abbrev pub functions : Table
functions = record { base = 0; count = 64; width = 163 }

-- the context places of each function, sixteen of five words
-- "each function has its own copy of its context places"
abbrev pub contexts : Table
contexts = record { base = 0; count = 64; width = 80 }

-- the function of each fresh number: 0, or 1 and the function
-- "function links"
abbrev pub links : Table
links = record { base = 0; count = 512; width = 2 }

-- the key under which each fresh number was handed out, or none
-- "cached numbers"
abbrev pub cached : Table
cached = record { base = 0; count = 512; width = 28 }

-- the order of the cached keys: word j is the number whose key comes j-th
-- so that a key is found by halves, and two entries of one key stand side by side
abbrev pub key_order : Table
key_order = record { base = 0; count = 512; width = 1 }

-- interned effects: the first effect under a key
-- they are appended, in the order in which they come
abbrev pub interned : Table
interned = record { base = 0; count = 2048; width = 98 }

-- the order of the interned effects: word j is the record that comes j-th by its key
abbrev pub effect_order : Table
effect_order = record { base = 0; count = 2048; width = 1 }

-- how many words the tables have, of a context with room for all, that an instruction may write into
-- context places, links, keys, both orders
abbrev pub most_saved : ℕ
most_saved = 23040

-- how many diagnostics there can be
-- "10 a 257th diagnostic or instance"
abbrev pub diagnostics : ℕ
diagnostics = 256

-- ---- effects in lists of their own, and what stands beside them

-- how many words the record of an effect has
-- candidates, interned effects and the output list have the same
abbrev pub effect_words : ℕ
effect_words = 98

-- candidates, one record each
-- "candidates (64)"
abbrev pub candidate_table : Table
candidate_table = record { base = 0; count = 64; width = 98 }

-- as many words as the most candidates have
abbrev pub candidate_words : ℕ
candidate_words = 6272

-- "The output list has 1,120 records (32 + 64 × 17, so it suffices)"
abbrev pub output : Table
output = record { base = 0; count = 1120; width = 98 }

-- how many words an output list has
abbrev pub output_words : ℕ
output_words = 109760

-- the captures of an effect beside its head: one record of 81 words, a count and sixteen places
-- the code hands them down as a slice, since an enum holds no list
abbrev pub one_run : Table
one_run = record { base = 0; count = 1; width = 81 }

-- the places that a function mutates inside, in a slice: a count and 32 places
-- one record of 161 words
abbrev pub inside_run : Table
inside_run = record { base = 0; count = 1; width = 161 }
