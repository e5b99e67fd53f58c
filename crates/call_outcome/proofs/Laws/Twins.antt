-- Twins turned round are twins: "it is then the other's reach too". Assumes nothing.
use Rattle.std.specs.Prelude.{◌≡◌}
use Rattle.std.proofs.Common.{sym, subst}
use Rattle.def_transfer.specs.Reach.{Node, Reach}
use Rattle.def_transfer.proofs.Laws.Isolation.{reach_same}
use Rattle.lent_world.specs.World.{lent}
use Rattle.call_parts.specs.Instructions.{instruction_of}
use Rattle.call_outcome.specs.Calls.{Call, candidate_count, lent_instruction}
use Rattle.call_outcome.specs.Isolation.{state_of, reach, Twins}

module _ (c d : Call) (t : Twins c d) where
  -- the reach in d's state is that of d's own call, which is lent the same instruction, context and session
  there : (n : Node) → Reach lent (lent_instruction c) c.session c.context (state_of d) n ≡ reach d n
  there n = λ j. Reach lent (instruction_of (t.candidates j) (candidate_count (t.candidates j)) (t.lvalue j) (t.own j)) (t.session j) (t.context j) (state_of d) n

  -- twins have one reach
  pub twins_reach : (n : Node) → (reach c n → reach d n) × (reach d n → reach c n)
  twins_reach n =
      let s = reach_same (lent_instruction c) c.session c.context (state_of c) (state_of d) t.agree.entries n in
      ((λ r. subst (λ (X : Type 0). X) (there n) (s.0 r)), (λ r. s.1 (subst (λ (X : Type 0). X) (sym (there n)) r)))

  pub twins_turned : Twins d c
  twins_turned = record {
    candidates = sym t.candidates;
    lvalue = sym t.lvalue;
    own = sym t.own;
    context = sym t.context;
    session = sym t.session;
    output = sym t.output;
    scratch64 = sym t.scratch64;
    scratch32 = sym t.scratch32;
    identifiers = sym t.identifiers;
    accepted = t.accepted';
    accepted' = t.accepted;
    agree = record { entries = λ n r. sym (t.agree.entries n ((twins_reach n).1 r)); flags = sym t.agree.flags };
  }
