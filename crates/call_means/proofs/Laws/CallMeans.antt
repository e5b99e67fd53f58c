-- An accepted call means the definition on plain tables: the same refusal, or the same effects in order, and tables that mean the same.
-- Assumes nothing.
use Rattle.std.specs.Prelude.{ℕ, ◌*◌, ◌≤◌, ◌<◌, ◌≡◌, refl, length, Option, None, Some}
use Rattle.std.proofs.Common.{le_trans, arith, sym, ap, ◌∙◌, subst}
use Rattle.base_tests.specs.Tests.{All}
use Rattle.base_tests.proofs.Laws.Choice.{ite_eq}
use Rattle.def_effects.specs.Keys.{effect_key}
use Rattle.def_transfer.specs.Monad.{Res, ok, refused, M, Done, and_then, ◌>>=◌, ◌>>◌, restore, atomically}
use Rattle.def_transfer.specs.Tables.{Tables, World}
use Rattle.def_transfer.specs.State.{change}
use Rattle.def_transfer.specs.Instruction.{Instruction, run, apply_signature}
use Rattle.def_transfer.specs.Pure.{pure}
use Rattle.def_transfer.proofs.Laws.Pure.{found_key}
use Rattle.lent_layout.specs.Context.{ContextWords}
use Rattle.lent_context.specs.Lent as Lent
use Rattle.lent_context.specs.Lent.{effects_in}
use Rattle.lent_world.specs.World.{lent}
use Rattle.refuse_entries.specs.Words.{identifiers}
use Rattle.refuse_entries.proofs.Laws.Accepted.{accepted_lent}
use Rattle.call_parts.specs.Instructions.{instruction_of}
use Rattle.laws_counts.proofs.Laws.Grows.{after}
use Rattle.laws_counts.proofs.Laws.Steps.{mutated}
use Rattle.laws_counts.proofs.Laws.Counts.{Fits, listed_most, entries_most, append_length}
use Rattle.call_outcome.specs.Calls.{Call, Outcome, candidate_count, call_class, lent_instruction, lent_world, refused_with, concluded, outcome}
use Rattle.call_means.specs.Meaning.{plain_world, MeansEnd, MeansPlain}
use Rattle.call_outcome.proofs.Laws.Class.{class_0}
use Rattle.call_outcome.proofs.Laws.Keys.{unused}
use Rattle.laws_suffices.proofs.Laws.Suffices.{accepted_fits}
use Rattle.def_faithful.proofs.Laws.Means.{Any, Rel}
use Rattle.def_faithful.proofs.Laws.Steps.{Fine}
use Rattle.def_faithful.proofs.Laws.Runs.{call_means}
use Rattle.lent_context.specs.Abstract.{abstract}
use Rattle.lent_world.proofs.Laws.LentFaithful.{lent_faithful}
use Rattle.lent_world.proofs.Laws.Held.{Holds}
use Rattle.call_means.proofs.Laws.Accepting.{candidates_fine, lvalue_named}
use Rattle.call_means.proofs.Laws.Padding.{words_missing, places_missing, whole, whole_fit, short_run, whole_run}
use Rattle.laws_room.proofs.Laws.Near.{ended, beside, besides}
use Rattle.laws_room.proofs.Laws.LentShort.{longer, pad_means}
use Rattle.lent_layout.specs.Layout.{output}

-- ---- bounds, over plain tables

module _ {T : Tables} where
  abbrev pub Told : Res (World T) Done → Type 0
  Told (ok a w) = w.rest.session.entries ≡ w.rest.work.entries
  Told (refused n w) = Unit {0}

  then_told : (m n : M (World T) Done) → ((w : World T) → Told (n w)) → (w : World T) → Told ((m >> n) w)
  unfolding ◌>>◌ ◌>>=◌ and_then
  then_told m n h w = go (m w)
    where
      go : (r : Res (World T) Done) → Told (and_then r (λ _. n))
      go (ok a u) = h u
      go (refused k u) = tt

  atomic_told : (m : M (World T) Done) → ((w : World T) → Told (m w)) → (w : World T) → Told (atomically m w)
  unfolding atomically restore
  atomic_told m h w = go (m w) (h w)
    where
      go : (r : Res (World T) Done) → Told r → Told (restore w r)
      go (ok a u) t = t
      go (refused k u) t = tt

  pub call_told : (ins : Instruction) (w : World T) → Told (apply_signature ins w)
  unfolding apply_signature run change
  call_told ins = then_told _ _ (atomic_told _ (then_told _ _ (then_told _ _ (then_told _ _ (λ w. refl)))))

plain_fits : (ins : Instruction) (c : ContextWords) → Fits lent ins c → Fits pure ins (abstract c)
unfolding mutated Lent.mutated_inside
plain_fits ins c f = record { few = f.few; captures = f.captures; inside = go ins.own f.inside }
  where
    go : (o : Option ℕ) → mutated lent o c ≤ 32 → mutated pure o (abstract c) ≤ 32
    go None l = l
    go (Some g) l = l

-- ---- the call

-- acceptance says enough of the candidates and of the lvalue
pub call_fine : (c : Call) → call_class c ≡ 0 → All (λ e. Fine (identifiers c.sets) (effect_key e)) (lent_instruction c).candidates × ((lent_instruction c).lvalue.identifier < identifiers c.sets)
unfolding instruction_of
call_fine c e =
    let a = class_0 c.values c.sets c.flag c.context c.session c.candidates c.lvalue c.own c.output c.scratch64 c.scratch32 e in (
      candidates_fine (identifiers c.sets) c.context.function_count c.context c.candidates (candidate_count c.candidates) c.lvalue c.own a.3 (accepted_fits c e).captures,
      lvalue_named (identifiers c.sets) c.context.function_count c.context c.candidates (candidate_count c.candidates) c.lvalue c.own a.3,
    )

-- with room for all effects, the two worlds mean the same as the call begins, and so do its two runs
pub call_related : (c : Call) (e : call_class c ≡ 0) (l : identifiers c.sets ≤ 512)
    → Rel (lent_faithful (identifiers c.sets) l) Any (apply_signature (lent_instruction c) (beside (whole c e) (lent_world c))) (apply_signature (lent_instruction c) (plain_world c))
unfolding lent_faithful instruction_of Lent.key_at
call_related c e l =
    let a = class_0 c.values c.sets c.flag c.context c.session c.candidates c.lvalue c.own c.output c.scratch64 c.scratch32 e in
    let b = accepted_lent c.values c.sets c.session.next c.session.access a.1 in
    call_means {F = lent_faithful (identifiers c.sets) l} (lent_instruction c) (call_fine c e).0 (call_fine c e).1
    (beside (whole c e) (lent_world c)) (plain_world c)
    (record {
      state = record { fit_values = b.values_length; values = refl; fit_sets = b.sets_length; sets = refl; flag = refl };
      session = record { low = b.next_low; next = refl; access = refl; span = refl; entries = λ h. refl };
      fit = whole_fit c e;
      context = pad_means (words_missing c e) (places_missing c e) c.context;
      unused = unused (identifiers c.sets) c.context c.session.next a.2;
    })

-- the call itself ends so, but for the words that are missing
pub call_ends : (c : Call) (e : call_class c ≡ 0) (l : identifiers c.sets ≤ 512)
    → Rel (lent_faithful (identifiers c.sets) l) Any (besides (longer (words_missing c e) (places_missing c e) (ended (short_run c e))) (short_run c e)) (apply_signature (lent_instruction c) (plain_world c))
call_ends c e l = subst (λ (r : Res (World lent) Done). Rel (lent_faithful (identifiers c.sets) l) Any r (apply_signature (lent_instruction c) (plain_world c))) (whole_run c e) (call_related c e l)

-- related ends mean the same, within the bounds; the words behind two lists of the context mean nothing
ends_mean : (c : Call) (l : identifiers c.sets ≤ 512) (m n : ℕ) (r : Res (World lent) Done) (s : Res (World pure) Done) → Rel (lent_faithful (identifiers c.sets) l) Any (besides (longer m n (ended r)) r) s
    → length (after s).listed ≤ 1120 → (after s).entries ≤ 4294967295 → Told s → MeansEnd c (concluded c r) s
unfolding lent_faithful
ends_mean c l m n (ok a w) (ok b u) h few rare told =
    let held : Holds w.rest.work.listed u.rest.work.listed = h.2.rest.work.listed few in
    record {
      refusal = refl;
      count = held.count;
      effects = ap (effects_in output w.rest.work.listed.words 0) held.count ∙ held.effects;
      behind = λ k q. held.behind k (let z = held.count in let y : length u.rest.work.listed * 98 ≤ k = subst (λ (x : ℕ). x * 98 ≤ k) z q in y);
      entries = h.2.rest.work.entries rare;
      session = λ j. record { next = h.2.rest.session.next j; access = h.2.rest.session.access j; span = h.2.rest.session.span j; entries = h.2.rest.session.entries (omega arith) j };
      flag = h.2.state.flag;
      values = h.2.state.values;
      sets = h.2.state.sets;
      context = sym (pad_means m n w.rest.context) ∙ h.2.rest.context;
    }
ends_mean c l m n (ok a w) (refused k u) h few rare told = absurd h
ends_mean c l m n (refused i w) (ok b u) h few rare told = absurd h
ends_mean c l m n (refused i w) (refused k u) h few rare told = ap (λ (x : ℕ). refused_with x c) h.0

-- a call that earns none of 1 to 5 does what the definition does on plain tables
pub call_is : (c : Call) → MeansPlain c (outcome c)
unfolding outcome
call_is c e =
    let a = class_0 c.values c.sets c.flag c.context c.session c.candidates c.lvalue c.own c.output c.scratch64 c.scratch32 e in
    let l : identifiers c.sets ≤ 512 = (accepted_lent c.values c.sets c.session.next c.session.access a.1).most in
    let f : Fits pure (lent_instruction c) (abstract c.context) = plain_fits (lent_instruction c) c.context (accepted_fits c e) in
    let m = f.few in
    let few : length (after (apply_signature (lent_instruction c) (plain_world c))).listed ≤ 1120 =
    le_trans (listed_most {T = pure} (λ c. found_key c.interned) length (λ l e. let q = append_length l e in omega arith) (lent_instruction c) (plain_world c) f refl) (omega arith) in
    let rare : (after (apply_signature (lent_instruction c) (plain_world c))).entries ≤ 4294967295 = le_trans (entries_most {T = pure} (λ c. found_key c.interned) (λ n. omega arith) (lent_instruction c) (plain_world c)) (omega arith) in
    subst (λ (o : Outcome). MeansEnd c o (apply_signature (lent_instruction c) (plain_world c))) (sym (ite_eq (call_class c) 0 (concluded c (apply_signature (lent_instruction c) (lent_world c))) (refused_with (call_class c) c) e))
    (ends_mean c l (words_missing c e) (places_missing c e) (apply_signature (lent_instruction c) (lent_world c)) (apply_signature (lent_instruction c) (plain_world c))
    (call_ends c e l) few rare (call_told (lent_instruction c) (plain_world c)))

-- so what is known of a plain world and an instruction is known of every accepted call that is lent them: the worked cases among others
pub carried : (c : Call) → call_class c ≡ 0 → (ins : Instruction) → lent_instruction c ≡ ins → (u : World pure) → plain_world c ≡ u → MeansEnd c (outcome c) (apply_signature ins u)
carried c e ins p u q = subst (λ (w : World pure). MeansEnd c (outcome c) (apply_signature ins w)) q (subst (λ (i : Instruction). MeansEnd c (outcome c) (apply_signature i (plain_world c))) p (call_is c e))

-- whatever ends as the definition's outcome means it
pub meant : (c : Call) (x : Outcome) → x ≡ outcome c → MeansPlain c x
meant c x e = subst (λ (o : Outcome). MeansPlain c o) (sym e) (call_is c)
