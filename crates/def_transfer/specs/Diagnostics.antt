-- Diagnostics: records, no text. Assumes nothing: these are definitions.
use Rattle.std.specs.Prelude.{ℕ, Bool, true, false, ◌&&◌, ◌||◌, eqb}
use Rattle.def_effects.specs.Places.{no_span, eq_span}
-- "A lent slice of structs holds message case, sentence number .., name number and label spans." The identifier is part of its identity;
-- the two label spans are told apart by their role: the access before the declaration, and the place itself.
pub use Rattle.def_effects.specs.declared.Diagnostic.{Diagnostic}

-- "Message case 0 is a value that cannot be modified; case 1 is an access before the declaration, with sentence 0."
abbrev pub cannot_be_modified : ℕ
cannot_be_modified = 0

abbrev pub accessed_before : ℕ
accessed_before = 1

-- "Sharing of numbers follows `intern_aliasing_diagnostic`": the identity is identifier, message and help.
-- The help of case 0 is the sentence; that of case 1 holds the name.
unfoldable pub same_identity : Diagnostic → Diagnostic → Bool
same_identity a b =
    eqb a.identifier b.identifier && (eqb a.case b.case && (elim (eqb a.case cannot_be_modified) [ true ↦ eqb a.sentence b.sentence | false ↦ eqb a.name b.name ]))

-- The labels with their texts: a label's text holds the name.
unfoldable pub same_labels : Diagnostic → Diagnostic → Bool
same_labels a b =
    eq_span a.access b.access && (eq_span a.own b.own && ((eq_span a.access no_span && eq_span a.own no_span) || eqb a.name b.name))
