-- An instruction as it is lent, and what the code copies. Assumes nothing: these are definitions.
use Rattle.std.specs.Prelude.{ℕ, List, set}
use Rattle.def_effects.specs.declared.Place.{Place}
use Rattle.def_transfer.specs.Instruction.{Instruction, own_of}
use Rattle.lent_tables.specs.Words.{field, copied_words}
use Rattle.lent_effects.specs.Records.{counted_places}
use Rattle.lent_layout.specs.Layout as Layout
use Rattle.lent_layout.specs.Context.{ContextWords}
use Rattle.lent_context.specs.Lent.{effects_in}
use Rattle.lent_layout.specs.Layout.{candidate_table, inside_run}

-- "An instruction is its candidates with their places and captures, its lvalue, and its own function if it has one."
-- as it is lent: records of candidates, how many, a place, a number
unfoldable pub instruction_of : List ℕ → ℕ → Place → ℕ → Instruction
instruction_of xs count lvalue own = record { candidates = effects_in candidate_table xs 0 count; lvalue = lvalue; own = own_of own }

-- the places of such a slice
abbrev pub inside_places : List ℕ → List Place
inside_places ws = counted_places inside_run ws 0 0

-- the count, then all 160 words of the places that a function mutates inside
-- a slice as the places of a run stand in; the context changes while they are gone through
unfoldable pub copied_inside : ContextWords → ℕ → List ℕ → List ℕ
copied_inside c f ws = copied_words Layout.functions c.functions f 3 160 (set ws 0 (field Layout.functions c.functions f 2)) 1
