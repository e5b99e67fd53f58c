use Rattle.std.proofs.Common.{refl, ◌∙◌}
use Rattle.lent_effects.specs.Records.{captures_of}
use Rattle.effect_intern.proofs.Laws.Interning.{intern_found, intern_full, intern_new_is}
use Rattle.effect_intern.proofs.intern_effect.Goals as goal

pub returns-then-n-ge2048-clause-does : goal.returns-then-n-ge2048-clause-does
returns-then-n-ge2048-clause-does c =
    intern_full _ _ _ _ _ c.args.e (captures_of c.args.captures.now) _ (c.new.ensures ∙ c.key_of.ensures (captures_of c.args.captures.now)) _ c.find_effect.ensures _ c.in-Err.is c.if-n-ge2048.true

pub returns-in-Ok-clause-does : goal.returns-in-Ok-clause-does
returns-in-Ok-clause-does c =
    intern_found _ _ _ _ _ c.args.e (captures_of c.args.captures.now) _ (c.new.ensures ∙ c.key_of.ensures (captures_of c.args.captures.now)) _ c.find_effect.ensures _ _ _ _ c.in-Ok.is c.record_at-k.ensures c.interned_in-x.ensures c.refresh.ensures

pub returns-else-n-ge2048-clause-does : goal.returns-else-n-ge2048-clause-does
returns-else-n-ge2048-clause-does c =
    intern_new_is _ _ _ _ _ c.args.e (captures_of c.args.captures.now) _ (c.new.ensures ∙ c.key_of.ensures (captures_of c.args.captures.now)) _ c.find_effect.ensures _ _ _ _ c.in-Err.is refl c.put_effect.ensures c.insert.ensures c.if-n-ge2048.false
