-- `lent_effect_read::effect_in` meets its contract: one law for each arm. Assumes nothing.
use mathlib.Core.Path.{ap, ◌∙◌}
use Rattle.def_kinds.specs.Kinds.{kind_at}
use Rattle.lent_effects.proofs.Laws.Head.{head_0, head_1, head_2, head_3, head_4, head_5, head_6, head_7, head_8, head_9, head_10, head_11, head_13, head_14, head_15, head_16, head_rest}
use Rattle.lent_effect_read.proofs.effect_in.Goals as goal

pub returns-in-0 : goal.returns-in-0
returns-in-0 c = head_0 _ _ _ _ c.field-code.ensures _ _ c.in-0.is c.place_in.ensures c.field.ensures

pub returns-in-1 : goal.returns-in-1
returns-in-1 c = head_1 _ _ _ _ c.field-code.ensures _ _ c.in-1.is c.place_in-in-1.ensures c.field-in-1.ensures

pub returns-in-2 : goal.returns-in-2
returns-in-2 c = head_2 _ _ _ _ c.field-code.ensures _ c.in-2.is c.place_in-in-2.ensures

pub returns-in-3 : goal.returns-in-3
returns-in-3 c = head_3 _ _ _ _ c.field-code.ensures _ c.in-3.is c.place_in-in-3.ensures

pub returns-in-4 : goal.returns-in-4
returns-in-4 c = head_4 _ _ _ _ c.field-code.ensures _ c.in-4.is c.place_in-in-4.ensures

pub returns-in-5 : goal.returns-in-5
returns-in-5 c = head_5 _ _ _ _ c.field-code.ensures _ _ c.in-5.is c.place_in-in-5.ensures c.place_in-in-5-2.ensures

pub returns-in-6 : goal.returns-in-6
returns-in-6 c = head_6 _ _ _ _ c.field-code.ensures _ _ c.in-6.is c.place_in-in-6.ensures c.place_in-in-6-2.ensures

pub returns-in-7 : goal.returns-in-7
returns-in-7 c = head_7 _ _ _ _ c.field-code.ensures _ _ c.in-7.is c.place_in-in-7.ensures c.place_in-in-7-2.ensures

pub returns-in-8 : goal.returns-in-8
returns-in-8 c = head_8 _ _ _ _ c.field-code.ensures _ _ c.in-8.is c.place_in-in-8.ensures c.place_in-in-8-2.ensures

pub returns-in-9 : goal.returns-in-9
returns-in-9 c =
    head_9 _ _ _ _ c.field-code.ensures _ _ _ c.in-9.is c.place_in-in-9.ensures (c.of_code.ensures ∙ ap kind_at c.field-in-9.ensures) c.field-in-9-2.ensures

pub returns-in-10 : goal.returns-in-10
returns-in-10 c = head_10 _ _ _ _ c.field-code.ensures _ _ c.in-10.is c.place_in-in-10.ensures c.place_in-in-10-2.ensures

pub returns-in-11 : goal.returns-in-11
returns-in-11 c = head_11 _ _ _ _ c.field-code.ensures _ _ c.in-11.is c.place_in-in-11.ensures c.place_in-in-11-2.ensures

pub returns-in-13 : goal.returns-in-13
returns-in-13 c = head_13 _ _ _ _ c.field-code.ensures _ _ c.in-13.is c.field-in-13.ensures c.place_in-in-13.ensures

pub returns-in-14 : goal.returns-in-14
returns-in-14 c = head_14 _ _ _ _ c.field-code.ensures _ _ c.in-14.is c.place_in-in-14.ensures c.diagnostic_in.ensures

pub returns-in-15 : goal.returns-in-15
returns-in-15 c = head_15 _ _ _ _ c.field-code.ensures _ _ c.in-15.is c.place_in-in-15.ensures c.diagnostic_in-in-15.ensures

pub returns-in-16 : goal.returns-in-16
returns-in-16 c = head_16 _ _ _ _ c.field-code.ensures _ _ c.in-16.is c.place_in-in-16.ensures c.diagnostic_in-in-16.ensures

pub returns-in_default : goal.returns-in_default
returns-in_default c = head_rest _ _ _ _ c.field-code.ensures _ c.in_default.in_default-own.rest.0.0.0.0.0.0.0.0.0.0.0.0.0.0.0.1 c.in_default.in_default-own.rest.0.0.0.0.0.0.0.0.0.0.0.0.0.0.1 c.in_default.in_default-own.rest.0.0.0.0.0.0.0.0.0.0.0.0.0.1 c.in_default.in_default-own.rest.0.0.0.0.0.0.0.0.0.0.0.0.1 c.in_default.in_default-own.rest.0.0.0.0.0.0.0.0.0.0.0.1 c.in_default.in_default-own.rest.0.0.0.0.0.0.0.0.0.0.1 c.in_default.in_default-own.rest.0.0.0.0.0.0.0.0.0.1 c.in_default.in_default-own.rest.0.0.0.0.0.0.0.0.1 c.in_default.in_default-own.rest.0.0.0.0.0.0.0.1 c.in_default.in_default-own.rest.0.0.0.0.0.0.1 c.in_default.in_default-own.rest.0.0.0.0.0.1 c.in_default.in_default-own.rest.0.0.0.0.1 c.in_default.in_default-own.rest.0.0.0.1 c.in_default.in_default-own.rest.0.0.1 c.in_default.in_default-own.rest.0.1 c.in_default.in_default-own.rest.1 c.place_in-in_default.ensures
