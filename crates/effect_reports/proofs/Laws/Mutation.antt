-- Laws by which the code of mutations meets the definition. Assumes nothing.
use Prim.Native.Nat.{ℕ, suc, ◌+◌, ◌<◌}
use native.Mathlib.Omega.{arith}
use Rattle.std.specs.Prelude.{◌≡◌, Bool, length, Option}
use Rattle.std.specs.Option.{MatchOption, unwrap_or}
use Rattle.std.specs.List.{AllWithin, HoldsAt}
use Rattle.std.proofs.Math.Path.{refl, sym, ap}
use Rattle.std.proofs.Common.{◌∙◌}
use Rattle.std.proofs.Math.Bool.{true, false}
use mathlib.Core.List.{List, ◌∷◌}
use Rattle.std.proofs.lemmas.Iterator.{index_from_first}
use Rattle.def_kinds.specs.declared.AbstractValue.{AbstractValue}
use Rattle.def_kinds.specs.Kinds.{is_frozen}
use Rattle.def_kinds.specs.Reasons.{has_reason, first_in, in_sentence_order, get_write_error_reason}
use Rattle.def_effects.specs.declared.Span.{Span}
use Rattle.def_effects.specs.declared.Place.{Place}
use Rattle.def_effects.specs.declared.Diagnostic.{Diagnostic}
use Rattle.def_effects.specs.declared.AliasingDiagnostic.{AliasingDiagnostic}
use Rattle.def_effects.specs.declared.MutateVariant.{MutateVariant}
use Rattle.def_effects.specs.declared.MutationResult.{MutationResult}
use Rattle.def_effects.specs.declared.MutationResult.TheVariants as Result
use Rattle.def_effects.specs.Places.{no_span}
use Rattle.def_effects.specs.Mutation.{is_strict, result_of}
use Rattle.def_effects.specs.Effects.{AliasingEffect, MutateFrozen, MutateGlobal}
use Rattle.def_transfer.specs.Monad.{Res, ok, refused, M, Done, ◌>>=◌, return, when◌then◌else◌}
use Rattle.def_transfer.specs.Tables.{World}
use Rattle.def_transfer.specs.State.{ask, kind, kind_with_span}
use Rattle.def_transfer.specs.Context.{intern_diagnostic}
use Rattle.def_transfer.specs.Step.{modified, hoisted_access, mutate, report_modified, report_hoisted, report, mutating}
use Rattle.lent_context.specs.Lent as Lent
use Rattle.lent_effects.specs.declared.AliasingEffect.TheVariants as Head
use Rattle.lent_effects.specs.Records.{effect_with}
use Rattle.laws_monad.proofs.Laws.Answers.{bind_ok, bind_fails, if_true, if_false}
use Rattle.lent_world.specs.World.{lent}
use Rattle.effect_acts.specs.declared.Next.TheVariants.{Nothing, Itself, Derived}
use Rattle.effect_acts.specs.Acts.{follow}
use Rattle.effect_reports.specs.Mutations.{access_label}

-- ---- the sentence of a set of reasons

-- the sentence is the place of the first reason that the set has
module _ (s : ℕ) where
  first_here : (r : ℕ) (rs : List ℕ) → has_reason s r ≡ true → first_in (r ∷ rs) s ≡ 0
  unfolding first_in
  first_here r rs h = ap (λ (b : Bool). elim b as (λ x. ℕ) [ true ↦ 0 | false ↦ suc (first_in rs s) ]) h

  first_later : (r : ℕ) (rs : List ℕ) → has_reason s r ≡ false → first_in (r ∷ rs) s ≡ first_in rs s + 1
  unfolding first_in
  first_later r rs h =
      ap (λ (b : Bool). elim b as (λ x. ℕ) [ true ↦ 0 | false ↦ suc (first_in rs s) ]) h
      ∙ (let z : suc (first_in rs s) ≡ first_in rs s + 1 = omega arith in z)

  -- what the search of the reasons finds
  pub sentence_is : (r : Option ℕ)
      → MatchOption r (AllWithin (λ x. has_reason s x ≡ false) in_sentence_order 0 (length in_sentence_order))
      (λ i. (i < length in_sentence_order) × HoldsAt (λ x. has_reason s x ≡ true) in_sentence_order i × AllWithin (λ x. has_reason s x ≡ false) in_sentence_order 0 i)
      → unwrap_or r 10 ≡ get_write_error_reason s
  unfolding get_write_error_reason first_in
  sentence_is r h = sym (index_from_first (λ rs. first_in rs s) _ _ refl first_here first_later in_sentence_order r h)

-- ---- the diagnostics

-- a value that cannot be modified
pub modified_is : (p : Place) (name k : ℕ) (a : AbstractValue) → k ≡ get_write_error_reason a.reason
    → record { identifier = p.identifier; case = 0; sentence = k; name = name; access = record { start = 4294967295; end = 4294967295 }; own = p.span } ≡ modified p name a
modified_is p name k a h = ap (λ (n : ℕ). record { identifier = p.identifier; case = 0; sentence = n; name = name; access = no_span; own = p.span }) h

-- an access before the declaration
-- its labels are the access span, unless it equals the place's, then the place's
pub hoisted_is : (p : Place) (name : ℕ) (access label : Span) → label ≡ access_label access p.span
    → record { identifier = p.identifier; case = 1; sentence = 0; name = name; access = label; own = p.span } ≡ hoisted_access p name access
hoisted_is p name access label h = ap (λ (x : Span). record { identifier = p.identifier; case = 1; sentence = 0; name = name; access = x; own = p.span }) h

-- ---- a mutation that is an error is reported

module _ (again : AliasingEffect → M (World lent) Done) (w : World lent) (p : Place) (name : ℕ) (d : Diagnostic) (m : name ≡ Lent.name_of w.rest.context p.identifier) where
  module _ (a : AbstractValue) (q : d ≡ modified p name a) where
    -- the diagnostic of the definition is the code's
    -- what follows it is the rest of the report
    modified_rest : (y : Res (World lent) Done) → (intern_diagnostic d >>= λ x. when is_frozen a.kind then again (MutateFrozen p x) else again (MutateGlobal p x)) w ≡ y → report_modified again p a w ≡ y
    unfolding report_modified ask
    modified_rest y g =
        bind_ok _ _ _ _ _ _ (ap (λ (k : ℕ). ok k w) (sym m))
        (ap (λ (x : Diagnostic). (intern_diagnostic x >>= λ z. when is_frozen a.kind then again (MutateFrozen p z) else again (MutateGlobal p z)) w) (sym q) ∙ g)

    -- a 257th diagnostic or instance
    pub modified_refused : (n : ℕ) (u : World lent) → intern_diagnostic d w ≡ refused n u → report_modified again p a w ≡ refused n u
    modified_refused n u g = modified_rest _ (bind_fails _ _ _ _ _ g)

    module _ (x : AliasingDiagnostic) (u : World lent) (g : intern_diagnostic d w ≡ ok x u) (b : Bool) (f : b ≡ is_frozen a.kind) (e : AliasingEffect) (cs : List Place) where
      -- a value that is surely Frozen
      pub modified_frozen : b ≡ true → report_modified again p a w ≡ follow again e cs (Derived (Head.MutateFrozen p x)) u
      unfolding follow effect_with
      modified_frozen h = modified_rest _ (bind_ok _ _ _ _ _ _ g (if_true _ _ _ _ _ (sym f ∙ h) refl))

      -- any other
      pub modified_global : b ≡ false → report_modified again p a w ≡ follow again e cs (Derived (Head.MutateGlobal p x)) u
      unfolding follow effect_with
      modified_global h = modified_rest _ (bind_ok _ _ _ _ _ _ g (if_false _ _ _ _ _ (sym f ∙ h) refl))

  module _ (access : Span) (v : access ≡ Lent.access_span w.rest.context p.identifier) (q : d ≡ hoisted_access p name access) where
    -- the diagnostic of the definition is the code's
    -- what follows it is the rest of the report
    hoisted_rest : (y : Res (World lent) Done) → (intern_diagnostic d >>= λ x. again (MutateFrozen p x)) w ≡ y → report_hoisted again p w ≡ y
    unfolding report_hoisted ask
    hoisted_rest y g =
        bind_ok _ _ _ _ _ _ (ap (λ (k : ℕ). ok k w) (sym m)) (bind_ok _ _ _ _ _ _ (ap (λ (k : Span). ok k w) (sym v))
        (ap (λ (x : Diagnostic). (intern_diagnostic x >>= λ z. again (MutateFrozen p z)) w) (sym q) ∙ g))

    -- a 257th diagnostic or instance
    pub hoisted_refused : (n : ℕ) (u : World lent) → intern_diagnostic d w ≡ refused n u → report_hoisted again p w ≡ refused n u
    hoisted_refused n u g = hoisted_rest _ (bind_fails _ _ _ _ _ g)

    -- an access before the declaration
    pub hoisted_goes : (x : AliasingDiagnostic) (u : World lent) → intern_diagnostic d w ≡ ok x u → (e : AliasingEffect) (cs : List Place) → report_hoisted again p w ≡ follow again e cs (Derived (Head.MutateFrozen p x)) u
    unfolding follow effect_with
    hoisted_goes x u g e cs = hoisted_rest _ (bind_ok _ _ _ _ _ _ g refl)

-- ---- what a mutation lists, by its result

module _ (again : AliasingEffect → M (World lent) Done) (e : AliasingEffect) (cs : List Place) (w : World lent) (p : Place) (y : MutationResult) where
  -- no mutation
  pub result_none : y ≡ Result.None → report again e p y w ≡ follow again e cs Nothing w
  unfolding report follow
  result_none h = ap (λ (k : MutationResult). report again e p k w) h

  -- a mutation of a ref
  pub result_ref : y ≡ Result.MutateRef → report again e p y w ≡ follow again e cs Nothing w
  unfolding report follow
  result_ref h = ap (λ (k : MutationResult). report again e p k w) h

  -- a mutation that may be
  pub result_mutate : y ≡ Result.Mutate → report again e p y w ≡ follow again e cs Itself w
  unfolding report follow
  result_mutate h = ap (λ (k : MutationResult). report again e p k w) h

  module _ (a : AbstractValue) (u : World lent) (k : kind p.identifier w ≡ ok a u) (m : Res (World lent) Done) where
    -- a mutation of a Global
    pub result_global : y ≡ Result.MutateGlobal → report_modified again p a u ≡ m → report again e p y w ≡ m
    unfolding report
    result_global h g = ap (λ (x : MutationResult). report again e p x w) h ∙ bind_ok _ _ _ _ _ _ k g

    module _ (b : Bool) (q : b ≡ Lent.is_hoisted u.rest.context p.identifier) (h : y ≡ Result.MutateFrozen) where
      -- a mutation of a frozen place that is hoisted
      pub result_hoisted : b ≡ true → report_hoisted again p u ≡ m → report again e p y w ≡ m
      unfolding report ask
      result_hoisted t g =
          ap (λ (x : MutationResult). report again e p x w) h
          ∙ bind_ok _ _ _ _ _ _ k (bind_ok _ _ _ _ _ _ refl (if_true _ _ _ _ _ (sym q ∙ t) g))

      -- of one that is not
      pub result_frozen : b ≡ false → report_modified again p a u ≡ m → report again e p y w ≡ m
      unfolding report ask
      result_frozen t g =
          ap (λ (x : MutationResult). report again e p x w) h
          ∙ bind_ok _ _ _ _ _ _ k (bind_ok _ _ _ _ _ _ refl (if_false _ _ _ _ _ (sym q ∙ t) g))

-- ---- a mutation of a place

module _ (again : AliasingEffect → M (World lent) Done) (e : AliasingEffect) (cs : List Place) (w : World lent) (variant : MutateVariant) (p : Place) (b : Bool) (q : b ≡ Lent.is_ref w.rest.context p.identifier) where
  -- a ref
  pub mutation_ref : b ≡ true → mutating again variant e p w ≡ follow again e cs Nothing w
  unfolding mutating mutate ask return report follow
  mutation_ref h =
      bind_ok _ _ _ _ _ _ (bind_ok _ _ _ _ _ _ refl (if_true _ _ _ _ _ (sym q ∙ h) refl)) refl

  -- any other place
  pub mutation_goes : (a : AbstractValue) (u : World lent) (s : Bool) (y : MutationResult) (m : Res (World lent) Done) → b ≡ false
      → kind_with_span p.identifier p.span w ≡ ok a u
      → s ≡ is_strict variant → y ≡ result_of s a.kind → report again e p y u ≡ m
      → mutating again variant e p w ≡ m
  unfolding mutating mutate ask return
  mutation_goes a u s y m h k f z g =
      bind_ok _ _ _ _ _ _
      (bind_ok _ _ _ _ _ _ refl (if_false _ _ _ _ _ (sym q ∙ h) (bind_ok _ _ _ _ _ _ k refl)))
      (ap (λ (x : MutationResult). report again e p x u) (ap (λ (t : Bool). result_of t a.kind) (sym f) ∙ sym z) ∙ g)
