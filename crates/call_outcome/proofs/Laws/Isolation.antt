-- Demand 3 of the call: two runs from accepted states that agree on the instruction's reach end alike. Assumes nothing.
use Rattle.std.specs.Prelude.{ℕ, ◌+◌, ◌*◌, ◌/◌, ◌%◌, ◌≤◌, ◌≡◌, refl, not, ◌||◌, eqb, length}
use Rattle.std.proofs.Common.{arith, ◌∙◌}
use Rattle.std.proofs.Math.Path.{sym, ap, ap₂, subst}
use Rattle.std.proofs.Math.Logic.{⊎_elim}
use Rattle.base_tests.proofs.Laws.Choice.{ite_eq, ite_ne}
use Rattle.base_tests.proofs.Laws.Order.{same_or_not}
use Rattle.lent_copies.specs.Copies.{zeros}
use Rattle.def_transfer.specs.Monad.{Res, ok, refused, Done}
use Rattle.def_transfer.specs.Tables.{World}
use Rattle.def_transfer.specs.Instruction.{Instruction, apply_signature}
use Rattle.def_transfer.specs.Reach.{Ends}
use Rattle.def_transfer.specs.Reach as Reach
use Rattle.lent_layout.specs.Context.{ContextWords}
use Rattle.lent_world.specs.World.{lent}
use Rattle.lent_world.proofs.Laws.LentIsolation.{Sized, lent_isolation}
use Rattle.refuse_entries.specs.Words.{identifiers}
use Rattle.refuse_entries.proofs.Laws.Accepted.{accepted_lent}
use Rattle.refuse_class.specs.Class.{lower}
use Rattle.refuse_words.specs.Classes.{earns}
use Rattle.refuse_instruction.specs.EffectClasses.{instruction_class}
use Rattle.refuse_records.specs.Accepting.{context_class}
use Rattle.call_outcome.specs.Calls.{Call, Outcome, room_for, context_wrong, lengths_wrong, candidate_count, call_class, lent_instruction, lent_world, refused_with, ends_in, concluded, outcome}
use Rattle.call_undo.specs.Saves.{saved_words}
use Rattle.call_outcome.specs.Attempts.{lengths_of}
use Rattle.call_outcome.specs.Isolation.{state_of, reach, Twins, Alike, Isolation}
use Rattle.call_outcome.proofs.Laws.Class.{class_0, lengths_right, right_length}

-- two runs of the call
-- lent the same instruction, equal context and session
module _ (c d : Call) (t : Twins c d) where
  -- they earn the same class
  -- of their states only the number of identifiers counts, since both are accepted
  same_class : call_class c ≡ call_class d
  unfolding call_class identifiers lengths_wrong
  same_class =
      ap₂ lower lengths
      (ap₂ lower (t.accepted ∙ sym t.accepted')
      (ap₂ lower
      (λ j. context_class (t.identifiers j / 16) (t.context j) (t.session j).next)
      (λ j. instruction_class (t.identifiers j / 16) (t.context j).function_count (t.context j) (t.candidates j) (candidate_count (t.candidates j)) (t.lvalue j) (t.own j))))
    where
      lengths : earns 1 (lengths_wrong c) ≡ earns 1 (lengths_wrong d)
      lengths = λ j. earns 1
          (context_wrong (t.identifiers j / 16) (room_for (t.context j) (t.candidates j)) (t.context j)
          || (not (eqb (length (t.candidates j) % 98) 0)
          || (not (eqb (t.output j) 109760)
          || (not (eqb (t.scratch32 j) (saved_words (lengths_of (t.context j)))) || not (eqb (t.scratch64 j) (1024 + t.identifiers j))))))

  -- both are refused with the same number
  refused_alike : (m n : ℕ) → m ≡ n → Alike c d (refused_with m c) (refused_with n d)
  refused_alike m n e = record {
    applied = λ j. record { refusal = e j; count = 0; entries = 0; session = t.session j; flag = t.agree.flags j };
    output = ap zeros t.output;
    context = t.context;
    entries = t.agree.entries;
    outside = λ k h. refl;
    outside' = λ k h. refl;
  }

  -- both end
  ends_alike : (w u : World lent) → Ends lent (reach c) (state_of c) (state_of d) w u → Alike c d (ends_in w c) (ends_in u d)
  ends_alike w u h = record {
    applied = λ j. record {
      refusal = 0;
      count = (h.same j).work.listed.count;
      entries = (h.same j).work.entries;
      session = (h.same j).session;
      flag = h.agree.flags j;
    };
    output = λ j. (h.same j).work.listed.words;
    context = λ j. (h.same j).context;
    entries = h.agree.entries;
    outside = h.left;
    outside' = h.right;
  }

  -- however the transfer ends
  concluded_alike : (x y : Res (World lent) Done) → Reach.Alike lent (reach c) (state_of c) (state_of d) x y → Alike c d (concluded c x) (concluded d y)
  concluded_alike (ok a w) (ok b u) h = ends_alike w u h
  concluded_alike (ok a w) (refused n u) h = absurd h
  concluded_alike (refused m w) (ok b u) h = absurd h
  concluded_alike (refused m w) (refused n u) h = refused_alike m n h.0

  -- no class refuses them
  runs_alike : call_class c ≡ 0 → Alike c d (concluded c (apply_signature (lent_instruction c) (lent_world c))) (concluded d (apply_signature (lent_instruction d) (lent_world d)))
  unfolding identifiers
  runs_alike z =
      concluded_alike (apply_signature (lent_instruction c) (lent_world c)) (apply_signature (lent_instruction d) (lent_world d))
      (subst (λ (i : Instruction). Reach.Alike lent (reach c) (state_of c) (state_of d) (apply_signature (lent_instruction c) (lent_world c)) (apply_signature i (lent_world d))) same
      (lent_isolation (length c.sets / 16) (lent_instruction c) (lent_world c) (lent_world d) fits fits' t.session t.context t.agree))
    where
      same : lent_instruction c ≡ lent_instruction d
      same = λ j. Rattle.call_parts.specs.Instructions.instruction_of (t.candidates j) (candidate_count (t.candidates j)) (t.lvalue j) (t.own j)

      links : 1024 ≤ length c.context.links
      links =
          let l = lengths_right c (class_0 c.values c.sets c.flag c.context c.session c.candidates c.lvalue c.own c.output c.scratch64 c.scratch32 z).0 in
          (right_length (identifiers c.sets) (room_for c.context c.candidates) c.context l.0).links.room_there

      fits : Sized (length c.sets / 16) (lent_world c)
      fits =
          let h = accepted_lent c.values c.sets c.session.next c.session.access t.accepted in record {
            values = h.values_length;
            sets = h.sets_length;
            links = links;
          }

      fits' : Sized (length c.sets / 16) (lent_world d)
      fits' =
          let h = accepted_lent d.values d.sets d.session.next d.session.access t.accepted' in record {
            values = h.values_length;
            sets = h.sets_length ∙ ap (λ (n : ℕ). 16 * (n / 16)) (sym t.identifiers);
            links = omega (arith, links, ap (λ (x : ContextWords). length x.links) t.context);
          }

  -- they end alike
  pub alike : Alike c d (outcome c) (outcome d)
  unfolding outcome
  alike = ⊎_elim runs stops (same_or_not (call_class c) 0)
    where
      runs : call_class c ≡ 0 → Alike c d (outcome c) (outcome d)
      runs z =
          subst (λ (x : Outcome). Alike c d x (outcome d)) (sym (ite_eq (call_class c) 0 (concluded c (apply_signature (lent_instruction c) (lent_world c))) (refused_with (call_class c) c) z))
          (subst (Alike c d (concluded c (apply_signature (lent_instruction c) (lent_world c)))) (sym (ite_eq (call_class d) 0 (concluded d (apply_signature (lent_instruction d) (lent_world d))) (refused_with (call_class d) d) (sym same_class ∙ z)))
          (runs_alike z))

      stops : (call_class c ≡ 0 → ⊥) → Alike c d (outcome c) (outcome d)
      stops n =
          subst (λ (x : Outcome). Alike c d x (outcome d)) (sym (ite_ne (call_class c) 0 (concluded c (apply_signature (lent_instruction c) (lent_world c))) (refused_with (call_class c) c) n))
          (subst (Alike c d (refused_with (call_class c) c)) (sym (ite_ne (call_class d) 0 (concluded d (apply_signature (lent_instruction d) (lent_world d))) (refused_with (call_class d) d) (λ z. n (same_class ∙ z))))
          (refused_alike (call_class c) (call_class d) same_class))

-- demand 3 of the call
-- of what it answers and leaves, which is the outcome
pub isolated : (c : Call) (x : Outcome) → x ≡ outcome c → Isolation c x
isolated c x e d t = subst (λ (y : Outcome). Alike c d y (outcome d)) (sym e) (alike c d t)
