-- Theorem 2 of the lent tables: a context with records for what the candidates need does what the same one does with more records. Assumes nothing.
use Rattle.std.specs.Prelude.{ℕ, ◌+◌, ◌≤◌, ◌≡◌, length}
use Rattle.std.proofs.Common.{◌∙◌}
use Rattle.std.proofs.Math.Path.{refl, ap}
use Rattle.def_transfer.specs.Tables.{World}
use Rattle.def_transfer.specs.Instruction.{Instruction, apply_signature}
use Rattle.lent_layout.specs.Context.{ContextWords}
use Rattle.lent_context.specs.Lent as Lent
use Rattle.lent_world.specs.World.{lent}
use Rattle.laws_room.specs.Room.{needs}
use Rattle.laws_room.proofs.Laws.Near.{Padded, ended, beside, besides, Close}
use Rattle.laws_room.proofs.Laws.Steps.{signature_near}
use Rattle.laws_room.proofs.Laws.Lent.{lent_measured}
use Rattle.laws_room.proofs.Laws.LentShort.{words_for, longer, Pads, found_alike, effect_pads, key_pads, link_pads, read_pads, diagnostic_pads}

module _ (room m n : ℕ) where
  -- ---- so the lent tables are padded

  -- only the searches along the order of the effects read what is longer
  pub lent_padded : Padded lent
  unfolding lent_measured Lent.key_at Lent.find_number Lent.key_spot Lent.key_here Lent.is_keyed Lent.link_of Lent.context_of Lent.mutated_inside Lent.has_tracked_side_effect Lent.is_ref Lent.is_hoisted Lent.access_span Lent.name_of Lent.is_transitive Lent.identity_count Lent.find_identity Lent.find_instance
  lent_padded = record {
    measured = lent_measured;
    room = room;
    Pad = Pads room m n;
    interned_count = λ p. ap Lent.interned_count p.more;
    find_effect = λ {c} {d} p k. ap (λ (x : ContextWords). Lent.find_effect x k) p.more ∙ found_alike m n c k;
    key_at = λ p v. ap (λ (x : ContextWords). Lent.key_at x v) p.more;
    find_number = λ p k. ap (λ (x : ContextWords). Lent.find_number x k) p.more;
    link_of = λ p v. ap (λ (x : ContextWords). Lent.link_of x v) p.more;
    context_of = λ p f. ap (λ (x : ContextWords). Lent.context_of x f) p.more;
    mutated_inside = λ p f. ap (λ (x : ContextWords). Lent.mutated_inside x f) p.more;
    has_tracked_side_effect = λ p f. ap (λ (x : ContextWords). Lent.has_tracked_side_effect x f) p.more;
    is_ref = λ p i. ap (λ (x : ContextWords). Lent.is_ref x i) p.more;
    is_hoisted = λ p i. ap (λ (x : ContextWords). Lent.is_hoisted x i) p.more;
    access_span = λ p i. ap (λ (x : ContextWords). Lent.access_span x i) p.more;
    name_of = λ p i. ap (λ (x : ContextWords). Lent.name_of x i) p.more;
    is_transitive = λ p. ap Lent.is_transitive p.more;
    identity_count = λ p. ap Lent.identity_count p.more;
    instance_count = λ p. ap Lent.instance_count p.more;
    find_identity = λ p x. ap (λ (y : ContextWords). Lent.find_identity y x) p.more;
    find_instance = λ p i x. ap (λ (y : ContextWords). Lent.find_instance y i x) p.more;
    add_effect = effect_pads room m n;
    put_key = key_pads room m n;
    put_link = link_pads room m n;
    make_read = read_pads room m n;
    add_diagnostic = diagnostic_pads room m n;
  }

  -- a context with records for what the candidates need is as good as one with m words more for effects and n for their order: the same answer or
  -- the same refusal, and the same world but for as many zeros at the end of the two
  pub lent_short : (ins : Instruction) (w : World lent) → words_for room ≤ length w.rest.context.effects → room ≤ length w.rest.context.effect_order
      → w.rest.context.effect_count + needs ins.candidates ≤ room
      → apply_signature ins (beside (longer m n w.rest.context) w) ≡ besides (longer m n (ended (apply_signature ins w))) (apply_signature ins w)
  unfolding lent_padded lent_measured
  lent_short ins w e o h = x.same ∙ ap (λ (d : ContextWords). besides d (apply_signature ins w)) x.pad.more
    where
      p : Pads room m n w.rest.context (longer m n w.rest.context)
      p = record { effects = e; order = o; more = refl }

      x : Close lent_padded (needs ins.candidates) (longer m n w.rest.context) (apply_signature ins w) (apply_signature ins (beside (longer m n w.rest.context) w))
      x = (signature_near ins).near w (longer m n w.rest.context) p h

-- with room for 2,048 effects there are as many words as there can be
pub words_today : words_for 2048 ≡ 200704
words_today = refl
