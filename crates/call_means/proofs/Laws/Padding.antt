-- A context with the room that is asked for is as good as one with room for all effects: with the words that are missing put behind its effects and
-- behind their order, it fits, and the call ends as before but for these words. Assumes nothing.
use Prim.Native.Nat.{ℕ, ◌+◌, ◌-◌, ◌*◌, ◌≤◌, ◌<◌}
use Rattle.std.proofs.Common.{arith, sym, ap, ◌∙◌, subst, length-append}
use Rattle.std.specs.Prelude.{◌≡◌, refl, List, [], ◌∷◌, ◌++◌, length}
use Rattle.std.proofs.Math.Logic.{⊎_elim}
use Rattle.base_tests.proofs.Laws.Choice.{ite_lt, ite_ge}
use Rattle.base_tests.proofs.Laws.Order.{lt_or_ge}
use Rattle.lent_copies.specs.Copies.{zeros}
use Rattle.lent_copies.proofs.Laws.Copy.{zeros_length}
use Rattle.def_transfer.specs.Monad.{Res, ok, refused, Done}
use Rattle.def_transfer.specs.Tables.{World}
use Rattle.def_transfer.specs.Instruction.{apply_signature}
use Rattle.lent_layout.specs.Layout as Layout
use Rattle.lent_layout.specs.Context.{ContextWords, with_effects}
use Rattle.lent_context.specs.Lent.{interned_count}
use Rattle.lent_world.specs.World.{lent}
use Rattle.lent_world.proofs.Laws.Frames.{ordered_same, numbered_same}
use Rattle.lent_world.proofs.Laws.ContextFaithful.{FitContext}
use Rattle.laws_room.specs.Room.{needs}
use Rattle.laws_room.proofs.Laws.Near.{ended, beside, besides}
use Rattle.laws_room.proofs.Laws.Both.{field_behind}
use Rattle.laws_room.proofs.Laws.LentShort.{longer}
use Rattle.laws_room.proofs.Laws.Padded.{lent_short}
use Rattle.call_parts.specs.Instructions.{instruction_of}
use Rattle.call_outcome.specs.Calls.{Call, room_for, call_class, lent_instruction, lent_world}
use Rattle.refuse_entries.specs.Words.{identifiers}
use Rattle.refuse_order.proofs.Laws.Accepted.{in_order_is}
use Rattle.call_outcome.proofs.Laws.Class.{class_0, lengths_right, RightLength, right_length, order_right}
use Rattle.call_outcome.proofs.Laws.Keys.{numbered}

-- so many words and no more behind a list
filled : (c : List ℕ) (n : ℕ) → length c ≤ n → length (c ++ zeros (n - length c)) ≡ n
filled c n l = length-append c (zeros (n - length c)) ∙ ap (λ (m : ℕ). length c + m) (zeros_length (n - length c)) ∙ (let z : length c + (n - length c) ≡ n = omega arith in z)

-- nothing put behind a list
none_behind : (c : List ℕ) → c ++ zeros 0 ≡ c
unfolding zeros
none_behind [] = refl
none_behind (x ∷ c) = ap (λ (l : List ℕ). x ∷ l) (none_behind c)

-- nor behind the lists of a context
as_long : (c : ContextWords) → longer 0 0 c ≡ c
as_long c = ap (λ (l : List ℕ). with_effects l (c.effect_order ++ zeros 0) c.effect_count c) (none_behind c.effects) ∙ ap (λ (l : List ℕ). with_effects c.effects l c.effect_count c) (none_behind c.effect_order)

module _ (c : Call) (e : call_class c ≡ 0) where
  -- the words that are missing of the effects, and of their order
  abbrev pub words_missing : ℕ
  words_missing = 200704 - length c.context.effects

  abbrev pub places_missing : ℕ
  places_missing = 2048 - length c.context.effect_order

  -- the context with room for all effects
  abbrev pub whole : ContextWords
  whole = longer words_missing places_missing c.context

  -- what the lengths of an accepted call say
  right : RightLength (identifiers c.sets) (room_for c.context c.candidates) c.context
  right =
      let a = class_0 c.values c.sets c.flag c.context c.session c.candidates c.lvalue c.own c.output c.scratch64 c.scratch32 e in
      right_length (identifiers c.sets) (room_for c.context c.candidates) c.context (lengths_right c a.0).0

  -- it fits
  pub whole_fit : FitContext whole
  whole_fit =
      let r = right in
      let a = class_0 c.values c.sets c.flag c.context c.session c.candidates c.lvalue c.own c.output c.scratch64 c.scratch32 e in
      record {
        links = let a = r.links.room_there in let b = r.links.most in omega arith;
        keys = let a = r.keys.room_there in let b = r.keys.most in omega arith;
        key_order = let a = r.key_order.room_there in let b = r.key_order.most in omega arith;
        effects = filled c.context.effects 200704 r.effects.most;
        effect_order = filled c.context.effect_order 2048 (let b = r.effect_order.most in omega arith);
        diagnostics = r.diagnostics;
        ordered = ordered_same c.context whole (field_behind c.context.effects words_missing Layout.interned) (field_behind c.context.effect_order places_missing Layout.effect_order) refl
            (in_order_is c.context (order_right (identifiers c.sets) c.context c.session.next a.2));
        numbered = numbered_same c.context whole (λ j v. refl) (λ j v. refl) refl (numbered (identifiers c.sets) c.context c.session.next a.2);
      }

  -- how the call's transfer ends, and how it ends with room for all effects
  abbrev pub short_run : Res (World lent) Done
  short_run = apply_signature (lent_instruction c) (lent_world c)

  pub whole_run : apply_signature (lent_instruction c) (beside whole (lent_world c)) ≡ besides (longer words_missing places_missing (ended short_run)) short_run
  unfolding room_for instruction_of
  whole_run = ⊎_elim full some_room (lt_or_ge 2048 need)
    where
      need : ℕ
      need = interned_count c.context + needs (lent_instruction c).candidates

      -- room for all effects is asked for: nothing is missing
      full : 2048 < need → apply_signature (lent_instruction c) (beside whole (lent_world c)) ≡ besides (longer words_missing places_missing (ended short_run)) short_run
      full l =
          let r = right in
          let a : 2048 * 98 ≤ length c.context.effects = subst (λ (n : ℕ). n * 98 ≤ length c.context.effects) (ite_lt 2048 need 2048 need l) r.effects.room_there in
          let b : 2048 * 1 ≤ length c.context.effect_order = subst (λ (n : ℕ). n * 1 ≤ length c.context.effect_order) (ite_lt 2048 need 2048 need l) r.effect_order.room_there in
          let y : words_missing ≡ 0 = omega arith in
          let z : places_missing ≡ 0 = omega arith in
          subst (λ (m : ℕ). apply_signature (lent_instruction c) (beside (longer m places_missing c.context) (lent_world c)) ≡ besides (longer m places_missing (ended short_run)) short_run) (sym y)
          (subst (λ (n : ℕ). apply_signature (lent_instruction c) (beside (longer 0 n c.context) (lent_world c)) ≡ besides (longer 0 n (ended short_run)) short_run) (sym z)
          (ap (λ (x : ContextWords). apply_signature (lent_instruction c) (beside x (lent_world c))) (as_long c.context) ∙ bare short_run))
        where
          bare : (r : Res (World lent) Done) → r ≡ besides (longer 0 0 (ended r)) r
          bare (ok a w) = ap (λ (x : ContextWords). ok a (beside x w)) (sym (as_long w.rest.context))
          bare (refused n w) = ap (λ (x : ContextWords). refused n (beside x w)) (sym (as_long w.rest.context))

      -- there is room for what the candidates need
      some_room : need ≤ 2048 → apply_signature (lent_instruction c) (beside whole (lent_world c)) ≡ besides (longer words_missing places_missing (ended short_run)) short_run
      some_room l =
          let r = right in
          let a : need * 98 ≤ length c.context.effects = subst (λ (n : ℕ). n * 98 ≤ length c.context.effects) (ite_ge 2048 need 2048 need l) r.effects.room_there in
          let b : need * 1 ≤ length c.context.effect_order = subst (λ (n : ℕ). n * 1 ≤ length c.context.effect_order) (ite_ge 2048 need 2048 need l) r.effect_order.room_there in
          lent_short need words_missing places_missing (lent_instruction c) (lent_world c) a (omega arith) (omega arith)
