-- Reach and entries of a call are those of the plain tables that it is lent. Assumes nothing.
use Rattle.std.specs.Prelude.{ℕ, ◌≡◌, refl, Option}
use Rattle.std.proofs.Common.{sym, ap, ◌∙◌, subst}
use mathlib.Core.List.{List, Memᴰ}
use Rattle.def_effects.specs.declared.Place.{Place}
use Rattle.def_effects.specs.declared.Session.{Session}
use Rattle.def_effects.specs.Places.{identifiers}
use Rattle.def_transfer.specs.Tables.{Tables, State}
use Rattle.def_transfer.specs.Instruction.{Instruction}
use Rattle.def_transfer.specs.Reach.{Node, val, id, entry, Reach, in_candidate, lvalue, in_created, its_values, its_own, its_context, cached, fresh}
use Rattle.def_transfer.specs.Pure.{Context, pure}
use Rattle.lent_world.specs.World.{lent}
use Rattle.lent_context.specs.Abstract.{abstract}
use Rattle.lent_context.proofs.Laws.Abstract.{key_is, link_is, places_is}
use Rattle.call_outcome.specs.Calls.{Call, lent_instruction}
use Rattle.call_outcome.specs.Isolation.{state_of, reach}
use Rattle.call_means.specs.Meaning.{plain_world}

-- the reach of a call's instruction, taken in the plain tables
abbrev pub plain_reach : Call → Node → Type 0
plain_reach c = Reach pure (lent_instruction c) c.session (abstract c.context) (plain_world c).state

-- an entry of the lent state is the plain one
pub entry_plain : (c : Call) (n : Node) → entry lent (state_of c) n ≡ entry pure (plain_world c).state n
entry_plain c (val v) = refl
entry_plain c (id i) = refl

-- ---- over tables that read as the plain ones do, reach is the plain one

module _ {T : Tables} (ins : Instruction) (session : Session) (c : T.Context) (m : Context) (keys : (v : ℕ) → T.key_at c v ≡ pure.key_at m v) (links : (v : ℕ) → T.link_of c v ≡ pure.link_of m v)
    (places : (f : ℕ) → T.context_of c f ≡ pure.context_of m f) (s : State T) (t : State pure) (same : T.set_of s.sets ≡ t.sets) where
  set_at_is : (i : ℕ) → T.set_of s.sets i ≡ t.sets i
  set_at_is i = ap (λ (f : ℕ → Option ℕ). f i) same

  over : (x : Node) → Reach T ins session c s x → Reach pure ins session m t x
  over x (in_candidate a) = in_candidate a
  over x lvalue = lvalue
  over x (in_created {f = f} {j = j} p m) = in_created p (subst (λ (l : List Place). Memᴰ j (identifiers l)) (places f) m)
  over x (its_values {i = i} r e m) = its_values (over _ r) (sym (set_at_is i) ∙ e) m
  over x (its_own r) = its_own (over _ r)
  over x (its_context {v = v} {f = f} {j = j} r e m) = its_context (over _ r) (sym (links v) ∙ e) (subst (λ (l : List Place). Memᴰ j (identifiers l)) (places f) m)
  over x (cached {n = v} e d m) = cached (sym (keys v) ∙ e) d m
  over x (fresh l m) = fresh l m

  back : (x : Node) → Reach pure ins session m t x → Reach T ins session c s x
  back x (in_candidate a) = in_candidate a
  back x lvalue = lvalue
  back x (in_created {f = f} {j = j} p m) = in_created p (subst (λ (l : List Place). Memᴰ j (identifiers l)) (sym (places f)) m)
  back x (its_values {i = i} r e m) = its_values (back _ r) (set_at_is i ∙ e) m
  back x (its_own r) = its_own (back _ r)
  back x (its_context {v = v} {f = f} {j = j} r e m) = its_context (back _ r) (links v ∙ e) (subst (λ (l : List Place). Memᴰ j (identifiers l)) (sym (places f)) m)
  back x (cached {n = v} e d m) = cached (keys v ∙ e) d m
  back x (fresh l m) = fresh l m

-- one set of entries
pub reach_plain : (c : Call) (n : Node) → (reach c n → plain_reach c n) × (plain_reach c n → reach c n)
reach_plain c n = (
  over (lent_instruction c) c.session c.context (abstract c.context) (key_is c.context) (link_is c.context) (places_is c.context) (state_of c) (plain_world c).state refl n,
  back (lent_instruction c) c.session c.context (abstract c.context) (key_is c.context) (link_is c.context) (places_is c.context) (state_of c) (plain_world c).state refl n,
)
