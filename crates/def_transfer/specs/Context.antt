-- The context's tables: interned effects, cached numbers, links, diagnostics; and what the instruction did so far.
-- Assumes nothing: these are definitions.
use Rattle.std.specs.Prelude.{ℕ, suc, Bool, List, [], leb, Option, None, Some}
use Rattle.def_effects.specs.declared.Place.{Place}
use Rattle.def_effects.specs.declared.AliasingDiagnostic.{AliasingDiagnostic}
use Rattle.def_effects.specs.declared.Session.{Session}
use Rattle.def_effects.specs.Effects.{AliasingEffect, Freeze, Mutate, MutateConditionally, MutateTransitive, MutateTransitiveConditionally, Capture, Alias, MaybeAlias, Assign, Create, CreateFrom, ImmutableCapture, CreateFunction, MutateFrozen, MutateGlobal, Impure, Render}
use Rattle.def_effects.specs.Keys.{EffectKey, effect_key}
use Rattle.def_transfer.specs.Monad.{M, Done, ◌>>◌, return, refuse, when◌then◌else◌, ◌>>=◌}
use Rattle.def_transfer.specs.Diagnostics.{Diagnostic}
use Rattle.def_transfer.specs.Tables.{Tables, Work, Rest, World}
use Rattle.def_transfer.specs.State.{ask, change, on_session}

-- the diagnostic of an effect, or another where it has none
abbrev pub diagnostic_of : AliasingDiagnostic → AliasingEffect → AliasingDiagnostic
diagnostic_of other (Freeze p r) = other
diagnostic_of other (Mutate p r) = other
diagnostic_of other (MutateConditionally p) = other
diagnostic_of other (MutateTransitive p) = other
diagnostic_of other (MutateTransitiveConditionally p) = other
diagnostic_of other (Capture f i) = other
diagnostic_of other (Alias f i) = other
diagnostic_of other (MaybeAlias f i) = other
diagnostic_of other (Assign f i) = other
diagnostic_of other (Create i k r) = other
diagnostic_of other (CreateFrom f i) = other
diagnostic_of other (ImmutableCapture f i) = other
diagnostic_of other (CreateFunction cs f i) = other
diagnostic_of other (MutateFrozen p d) = d
diagnostic_of other (MutateGlobal p d) = d
diagnostic_of other (Impure p d) = d
diagnostic_of other (Render p) = other

-- the first effect x under the key of e, with e's own diagnostic: "only the diagnostic of MutateFrozen, MutateGlobal and Impure is refreshed"
abbrev pub refreshed : AliasingEffect → AliasingEffect → AliasingEffect
refreshed e (Freeze p r) = Freeze p r
refreshed e (Mutate p r) = Mutate p r
refreshed e (MutateConditionally p) = MutateConditionally p
refreshed e (MutateTransitive p) = MutateTransitive p
refreshed e (MutateTransitiveConditionally p) = MutateTransitiveConditionally p
refreshed e (Capture f i) = Capture f i
refreshed e (Alias f i) = Alias f i
refreshed e (MaybeAlias f i) = MaybeAlias f i
refreshed e (Assign f i) = Assign f i
refreshed e (Create i k r) = Create i k r
refreshed e (CreateFrom f i) = CreateFrom f i
refreshed e (ImmutableCapture f i) = ImmutableCapture f i
refreshed e (CreateFunction cs f i) = CreateFunction cs f i
refreshed e (MutateFrozen p d) = MutateFrozen p (diagnostic_of d e)
refreshed e (MutateGlobal p d) = MutateGlobal p (diagnostic_of d e)
refreshed e (Impure p d) = Impure p (diagnostic_of d e)
refreshed e (Render p) = Render p

abbrev pub with_next : ℕ → Session → Session
with_next n s = record { next = n; access = s.access; span = s.span; entries = s.entries }

module _ {T : Tables} where
  abbrev pub on_context : (T.Context → T.Context) → Rest T → Rest T
  on_context f r = record { session = r.session; context = f r.context; work = r.work }

  abbrev pub on_work : (Work T → Work T) → Rest T → Rest T
  on_work f r = record { session = r.session; context = r.context; work = f r.work }

  -- ---- interned effects

  unfoldable pub put_effect : AliasingEffect → M (World T) Done
  put_effect e = change (on_context λ c. T.add_effect c e)

  -- "a 2,049th key to intern": 8
  unfoldable pub intern_new : AliasingEffect → Option AliasingEffect → M (World T) AliasingEffect
  intern_new e (Some x) = return (refreshed e x)
  intern_new e None = do
    n ← ask (λ r. T.interned_count r.context)
    when leb 2048 n then refuse 8 else (put_effect e >> return e)

  -- "The first effect under a key of `effect_key` is used ever after, spans included" (`intern_effect`)
  unfoldable pub intern_effect : AliasingEffect → M (World T) AliasingEffect
  intern_effect e = do
    o ← ask (λ r. T.find_effect r.context (effect_key e))
    intern_new e o

  -- ---- value numbers

  unfoldable pub set_next : ℕ → M (World T) Done
  set_next n = change (on_session (with_next n))

  -- "a fresh number is needed at next 512": 9 (`ValueId::new`)
  unfoldable pub fresh_number : M (World T) ℕ
  fresh_number = do
    n ← ask (λ r. r.session.next)
    when leb 512 n then refuse 9 else (set_next (suc n) >> return n)

  unfoldable pub cache : EffectKey → ℕ → M (World T) Done
  cache k n = change (on_context λ c. T.put_key c n k)

  unfoldable pub or_fresh : EffectKey → Option ℕ → M (World T) ℕ
  or_fresh k (Some n) = return n
  or_fresh k None = do
    n ← fresh_number
    cache k n
    return n

  -- the number cached under a key, or a fresh one (`get_or_create_value_id`)
  unfoldable pub get_or_create_value_id : EffectKey → M (World T) ℕ
  get_or_create_value_id k = do
    o ← ask (λ r. T.find_number r.context k)
    or_fresh k o

  -- ---- links and contexts of functions

  unfoldable pub link_to : ℕ → ℕ → M (World T) Done
  link_to v f = change (on_context λ c. T.put_link c v f)

  unfoldable pub function_context : ℕ → Rest T → List Place
  function_context f r = T.context_of r.context f

  -- the context places of a value's function, none where it has none
  unfoldable pub linked_context : ℕ → Rest T → List Place
  linked_context v r = elim (T.link_of r.context v) [ None ↦ [] | Some f ↦ function_context f r ]

  -- "turns a Capture context place of its function into Read": each place of that identifier, in the function's own copy
  unfoldable pub make_read : ℕ → ℕ → M (World T) Done
  make_read f i = change (on_context λ c. T.make_read c f i)

  -- ---- diagnostics (`intern_aliasing_diagnostic`)

  unfoldable pub put_diagnostic : ℕ → Diagnostic → M (World T) Done
  put_diagnostic n d = change (on_context λ c. T.add_diagnostic c n d)

  -- "a 257th diagnostic or instance": 10
  unfoldable pub new_identity : Option ℕ → M (World T) ℕ
  new_identity (Some n) = return n
  new_identity None = do
    n ← ask (λ r. T.identity_count r.context)
    when leb 256 n then refuse 10 else return n

  unfoldable pub new_instance : ℕ → Diagnostic → Option ℕ → M (World T) ℕ
  new_instance identity d (Some n) = return n
  new_instance identity d None = do
    n ← ask (λ r. T.instance_count r.context)
    when leb 256 n then refuse 10 else (put_diagnostic identity d >> return n)

  unfoldable pub intern_diagnostic : Diagnostic → M (World T) AliasingDiagnostic
  intern_diagnostic d = do
    o ← ask (λ r. T.find_identity r.context d)
    identity ← new_identity o
    p ← ask (λ r. T.find_instance r.context identity d)
    instance ← new_instance identity d p
    return (record { identity = identity; instance = instance })

  -- ---- the instruction under way

  -- the effect is listed
  unfoldable pub emit : AliasingEffect → M (World T) Done
  emit e = change (on_work λ k. record { initialized = k.initialized; listed = T.put_listed k.listed e; freeze_entries = k.freeze_entries; entries = k.entries })

  unfoldable pub is_initialized : ℕ → M (World T) Bool
  is_initialized i = ask (λ r. T.is_initialized r.work.initialized i)

  unfoldable pub put_initialized : ℕ → M (World T) Done
  put_initialized i = change (on_work λ k. record { initialized = T.put_initialized k.initialized i; listed = k.listed; freeze_entries = k.freeze_entries; entries = k.entries })

  -- "into a place already initialized in this instruction": 6
  unfoldable pub begin : ℕ → M (World T) Done
  begin i = do
    b ← is_initialized i
    when b then refuse 6 else put_initialized i

  -- "each Freeze starts from zero"
  unfoldable pub start_freeze : M (World T) Done
  start_freeze = change (on_work λ k. record { initialized = k.initialized; listed = k.listed; freeze_entries = 0; entries = k.entries })

  -- "the walk of one Freeze would make its 4,097th entry": 11
  unfoldable pub count_entry : M (World T) Done
  count_entry = do
    full ← ask (λ r. leb 4096 r.work.freeze_entries)
    when full then refuse 11 else change (on_work λ k. record { initialized = k.initialized; listed = k.listed; freeze_entries = suc k.freeze_entries; entries = T.one_more k.entries })
