-- The worked cases of document 01, proved together by one computed test of the definition. Assumes nothing.
use Rattle.std.specs.Prelude.{ℕ, ◌+◌, ◌*◌, Bool, true, false, not, ◌&&◌, List, [], ◌∷◌, eqb, T, Option, None, Some}
use Rattle.base_sets.specs.Members.{singleton, union}
use Rattle.def_kinds.specs.declared.ValueKind.{ValueKind}
use Rattle.def_kinds.specs.declared.ValueKind.TheVariants.{Mutable, Frozen, Primitive, MaybeFrozen, Global, Context}
use Rattle.def_kinds.specs.declared.AbstractValue.{AbstractValue}
use Rattle.def_kinds.specs.Kinds as Kinds
use Rattle.def_kinds.specs.Reasons as Reasons
use Rattle.def_kinds.specs.Values.{mk}
use Rattle.def_effects.specs.declared.Place.{Place}
use Rattle.def_effects.specs.Places.{no_span}
use Rattle.def_effects.specs.Effects.{AliasingEffect, Freeze, Mutate, MutateTransitive, Capture, Alias, MaybeAlias, Create, code_of}
use Rattle.def_effects.specs.Keys.{eq_list}
use Rattle.def_transfer.specs.Monad.{Res, ok, refused}
use Rattle.def_transfer.specs.Tables.{State, Rest, World}
use Rattle.def_transfer.specs.State.{kind_with_span, freeze, infer_phi}
use Rattle.def_transfer.specs.Context.{diagnostic_of}
use Rattle.def_transfer.specs.Instruction.{Instruction, apply_signature}
use Rattle.def_transfer.specs.Merge.{Entries, entries_of, merge}
use Rattle.def_transfer.specs.Pure.{pure, at, Function}
use Rattle.def_transfer.proofs.Laws.Computing.{computing}

-- ---- worlds to start from

abbrev place : ℕ → Place
place i = record { identifier = i; effect = 0; reactive = 0; span = record { start = 10 * i; end = 10 * i + 1 } }

abbrev place_at : ℕ → ℕ → Place
place_at i s = record { identifier = i; effect = 0; reactive = 0; span = record { start = s; end = s + 1 } }

abbrev empty : State pure
empty = record { values = λ v. None; sets = λ i. None; is_function_expression = false }

abbrev with_value : ℕ → ValueKind → ℕ → State pure → State pure
with_value v k r s = record { values = at s.values v (Some (mk k r)); sets = s.sets; is_function_expression = s.is_function_expression }

abbrev with_set : ℕ → ℕ → State pure → State pure
with_set i l s = record { values = s.values; sets = at s.sets i (Some l); is_function_expression = s.is_function_expression }

-- place 0 has one value, of that kind and reasons
abbrev one : ValueKind → ℕ → State pure
one k r = with_set 0 (singleton 1) (with_value 1 k r empty)

-- place 0 has a Mutable and a Primitive value
abbrev two : State pure
two = with_set 0 (union (singleton 1) (singleton 2)) (with_value 1 Mutable 2048 (with_value 2 Primitive 4 empty))

abbrev no_function : Function
no_function = record { context = []; inside = []; tracked = false }

-- an empty context: next number, whether each identifier is hoisted, whether a freeze is transitive, links and functions
abbrev rest : ℕ → Bool → Bool → (ℕ → Option ℕ) → (ℕ → Function) → Rest pure
rest next hoisted transitive links functions = record {
  session = record { next = next; access = 0; span = no_span; entries = 0 };
  context = record {
    interned = [];
    cached = λ n. None;
    links = links;
    functions = functions;
    identifiers = λ i. record { ref = false; hoisted = hoisted; access = no_span; name = 0 };
    transitive = transitive;
    diagnostics = [];
  };
  work = record { initialized = []; listed = []; freeze_entries = 0; entries = 0 };
}

abbrev on : State pure → World pure
on s = record { state = s; rest = rest 1 false false (λ v. None) (λ f. no_function) }

abbrev hoisted : State pure → World pure
hoisted s = record { state = s; rest = rest 1 true false (λ v. None) (λ f. no_function) }

abbrev from : ℕ → State pure → World pure
from next s = record { state = s; rest = rest next false false (λ v. None) (λ f. no_function) }

abbrev ins : List AliasingEffect → Instruction
ins es = record { candidates = es; lvalue = place 0; own = None }

-- ---- what is looked at

pub answer : {A : Type 0} → Res (World pure) A → ℕ
answer (ok a w) = 0
answer (refused n w) = n

pub end : {A : Type 0} → Res (World pure) A → World pure
end (ok a w) = w
end (refused n w) = w

pub said : Res (World pure) Bool → Bool
said (ok b w) = b
said (refused n w) = false

pub found : Res (World pure) AbstractValue → AbstractValue
found (ok a w) = a
found (refused n w) = mk MaybeFrozen 0

pub codes : List AliasingEffect → List ℕ
codes [] = []
codes (e ∷ es) = code_of e ∷ codes es

-- the instance numbers of the diagnostics that are listed
pub instances : List AliasingEffect → List ℕ
instances [] = []
instances (e ∷ es) = (diagnostic_of (record { identity = 99; instance = 99 }) e).instance ∷ instances es

-- the codes of the effects that a call lists
abbrev lists : List AliasingEffect → World pure → List ℕ
lists es w = codes (end (apply_signature (ins es) w)).rest.work.listed

abbrev refusal : List AliasingEffect → World pure → ℕ
refusal es w = answer (apply_signature (ins es) w)

pub is : AbstractValue → ValueKind → ℕ → Bool
is a k r = eqb (Kinds.code_of a.kind) (Kinds.code_of k) && eqb a.reason r

pub has_value : World pure → ℕ → ValueKind → ℕ → Bool
has_value w v k r = elim (w.state.values v) [ None ↦ false | Some a ↦ is a k r ]

pub has_set : World pure → ℕ → ℕ → Bool
has_set w i l = elim (w.state.sets i) [ None ↦ false | Some m ↦ eqb m l ]

abbrev access_of : World pure → ℕ
access_of w = w.rest.session.access

pub same_kind : ValueKind → ValueKind → Bool
same_kind a b = eqb (Kinds.code_of a) (Kinds.code_of b)

pub is_none : Option Entries → Bool
is_none None = true
is_none (Some s) = false

-- case 18: p = {f}, f Mutable with context x = {f, g}, g Mutable without function; p is place 0, x is place 1
abbrev loop : ℕ → ℕ → World pure
loop f g = record {
  state = with_set 1 (union (singleton f) (singleton g)) (with_set 0 (singleton f) (with_value f Mutable 2048 (with_value g Mutable 2048 empty)));
  rest = rest 100 false true (at (λ v. None) f (Some 0)) (λ k. record { context = place 1 ∷ []; inside = []; tracked = false });
}

pub all : List Bool → Bool
all [] = true
all (b ∷ bs) = b && all bs

-- ---- the table

abbrev cases : List Bool
cases =
    -- 2 Mutable with Frozen: MaybeFrozen. 3 Context with Mutable: Context. 4 Global with Primitive: Global.
    same_kind (Kinds.join_kind Mutable Frozen) MaybeFrozen
    ∷ same_kind (Kinds.join_kind Context Mutable) Context
    ∷ same_kind (Kinds.join_kind Global Primitive) Global
    -- 5 Undefined place: Mutable {Other}, recorded.
    ∷ (let x = kind_with_span 7 (place 7).span (on empty) in is (found x) Mutable 2048 && eqb (access_of (end x)) 8)
    -- 6 Defined, empty set: the same, nothing recorded.
    ∷ (let x = kind_with_span 7 (place 7).span (on (with_set 7 0 empty)) in is (found x) Mutable 2048 && eqb (access_of (end x)) 0)
    -- 7 Freeze of {Mutable, Primitive}: both Frozen.
    ∷ (let x = freeze 0 Reasons.State (on two) in said x && (has_value (end x) 1 Frozen 2 && has_value (end x) 2 Frozen 2))
    -- 8 Freeze of Frozen {State}: false, reason kept.
    ∷ (let x = freeze 0 Reasons.HookCaptured (on (one Frozen 2)) in not (said x) && has_value (end x) 1 Frozen 2)
    -- 9 Phi of undefined operands: place unchanged.
    ∷ has_set (end (infer_phi 0 (3 ∷ 4 ∷ []) (on (one Frozen 2)))) 0 (singleton 1)
    -- 10 Mutate of MaybeFrozen, no ref: MutateGlobal; hoisted: MutateFrozen.
    ∷ eq_list (lists (Mutate (place 0) 0 ∷ []) (on (one MaybeFrozen 2))) (15 ∷ [])
    ∷ eq_list (lists (Mutate (place 0) 0 ∷ []) (hoisted (one MaybeFrozen 2))) (14 ∷ [])
    -- 11 Create twice into 0: 6.
    ∷ eqb (refusal (Create (place 0) Mutable 1 ∷ Create (place 0) Frozen 2 ∷ []) (on empty)) 6
    -- 12 Alias into an uninitialized place: 7; Capture is not refused.
    ∷ eqb (refusal (Alias (place 0) (place 1) ∷ []) (on empty)) 7
    ∷ eqb (refusal (Capture (place 0) (place 1) ∷ []) (on empty)) 0
    -- 13 Primitive source: MaybeAlias emitted, Capture not.
    ∷ eq_list (lists (MaybeAlias (place 0) (place 1) ∷ Capture (place 0) (place 1) ∷ []) (on (one Primitive 4))) (7 ∷ [])
    -- 14 A state merged with itself: None.
    ∷ is_none (merge (entries_of pure two) (entries_of pure two))
    -- 15 Empty list, no own function: only the lvalue step.
    ∷ (let w = end (apply_signature (ins []) (on empty)) in has_set w 0 (singleton 512) && (has_value w 512 Mutable 2048 && eq_list (codes w.rest.work.listed) []))
    -- 17 Next 511 serves one Create; then 9.
    ∷ eqb (refusal (Create (place 0) Mutable 1 ∷ []) (from 511 empty)) 0
    ∷ eqb (refusal (Create (place 0) Mutable 1 ∷ Create (place 1) Frozen 2 ∷ []) (from 511 empty)) 9
    -- The first effect under a key is used ever after, spans included: a Frozen place mutated at span A, at span B, and transitively at span B
    -- lists MutateFrozen with the diagnostics 0, 0 and 1.
    ∷ eq_list (instances (end (apply_signature (ins (Mutate (place_at 0 5) 0 ∷ Mutate (place_at 0 6) 0 ∷ MutateTransitive (place_at 0 6) ∷ [])) (on (one Frozen 2)))).rest.work.listed) (0 ∷ 0 ∷ 1 ∷ [])
    -- 18 f above g: 3 entries.
    ∷ eqb (end (apply_signature (ins (Freeze (place 0) 1 ∷ [])) (loop 9 8))).rest.session.entries 3
    ∷ []

pub table : T (all cases)
unfolding computing answer end said found codes instances is has_value has_set same_kind is_none all
table = tt

-- 18 f below g never ends in the Rust: 11.
pub endless : T (eqb (refusal (Freeze (place 0) 1 ∷ []) (loop 8 9)) 11)
unfolding computing answer
endless = tt
