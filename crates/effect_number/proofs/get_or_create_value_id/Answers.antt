use Rattle.std.proofs.Common.{refl}
use Rattle.effect_intern.proofs.Laws.Interning.{number_asked, number_put, number_found, number_none, number_new}
use Rattle.effect_number.proofs.get_or_create_value_id.Goals as goal

pub returns-in-Some-clause-does : goal.returns-in-Some-clause-does
returns-in-Some-clause-does c = number_found _ _ _ _ _ _ _ (number_asked _ _ _ c.number_at.result c.find_key-spot.ensures c.number_at.ensures) _ c.in-Some.is

pub returns-then-next-ge512-clause-does : goal.returns-then-next-ge512-clause-does
returns-then-next-ge512-clause-does c = number_none _ _ _ _ _ _ _ (number_asked _ _ _ c.number_at.result c.find_key-spot.ensures c.number_at.ensures) c.in_default.is c.if-next-ge512.true

pub returns-clause-does : goal.returns-clause-does
returns-clause-does c =
    number_new _ _ _ _ _ _ _ (number_asked _ _ _ c.number_at.result c.find_key-spot.ensures c.number_at.ensures) _ _ c.in_default.is c.if-next-ge512.false (number_put _ _ _ _ _ _ c.find_key-spot.ensures c.place_of.ensures c.put_key.ensures.does) refl
