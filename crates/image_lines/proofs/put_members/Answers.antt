-- `image_lines::put_members` meets its contract: the first value or a dash, then each turn writes the first of the members that are left. Assumes nothing.
use Rattle.std.proofs.Common.{arith, rules, refl, sym, ap, ◌∙◌, ◌∷◌, length}
use Rattle.lent_members.specs.Members.{rest}
use Rattle.image_text.proofs.Laws.Loops.{members_empty, members_start, members_turn, members_done}
use Rattle.image_lines.proofs.put_members.Goals as goal

pub returns-in-None-clause-written : goal.returns-in-None-clause-written
returns-in-None-clause-written c =
    let e = sym c.members-values.ensures ∙ c.in-None.ensures.steps.0 in
    members_done _ _ _ e (members_empty _ _ _ (ap length e) (search rules))

pub loop-m-init : goal.loop-m-init
loop-m-init c =
    let r = ap rest c.into_iter-m-iterator.ensures.into_iter_gives in
    let e = sym c.members-values.ensures ∙ c.in-Some.ensures.steps ∙ ap (λ l. c.in-Some.first ∷ l) (sym r) in
    (tt, tt, c.put_number.ensures.kept, members_turn _ _ _ _ _ _ e c.put_number.ensures.written (members_start _ _ _ _ refl (λ z. omega (arith, z, ap length e)) refl))

pub loop-m-preserved : goal.loop-m-preserved
loop-m-preserved c =
    (tt, tt, c.loop-m.invariant.2 ∙ c.put_number-in-loop-m.ensures.kept, members_turn _ _ _ _ _ _ c.in-Some-m.ensures.steps c.put_number-in-loop-m.ensures.written c.loop-m.invariant.3)

pub returns-in-None-m-clause-written : goal.returns-in-None-m-clause-written
returns-in-None-m-clause-written c = members_done _ _ _ c.in-None-m.ensures.steps.0 c.loop-m.invariant.3
