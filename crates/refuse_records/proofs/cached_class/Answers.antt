use Rattle.refuse_records.proofs.Laws.Accepting.{cached_many, cached_counted}
use Rattle.refuse_records.proofs.cached_class.Goals as goal

pub returns-then-too_many_captures : goal.returns-then-too_many_captures
returns-then-too_many_captures c = cached_many _ _ _ _ _ _ c.if-v-eq0.false c.field.ensures c.if-field-eq0.false c.too_many_captures.ensures c.if-too_many_captures.true

pub returns : goal.returns
returns c = cached_counted _ _ _ _ _ _ c.if-v-eq0.false c.field.ensures c.if-field-eq0.false c.too_many_captures.ensures _ c.if-too_many_captures.false c.key_class.ensures
