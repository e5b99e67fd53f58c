use Rattle.std.proofs.Common.{refl}
use mathlib.Core.Path.{ap}
use Prim.Native.Nat.{◌*◌}
use Rattle.lent_context.proofs.Laws.Code.{read_other, read_kept, read_made}
use Rattle.lent_context.proofs.read_place.Goals as goal

pub returns-then-field-i : goal.returns-then-field-i
returns-then-field-i c = read_other _ _ _ _ _ _ _ refl (ap (λ (x : _). x * 5) refl) c.field.ensures c.if-field-i.true

pub returns-then-field-ne3 : goal.returns-then-field-ne3
returns-then-field-ne3 c =
    read_kept _ _ _ _ _ _ _ refl (ap (λ (x : _). x * 5) refl) c.field.ensures c.if-field-i.false _ c.field-2.ensures c.if-field-ne3.true

pub returns : goal.returns
returns c =
    read_made _ _ _ _ _ _ _ refl (ap (λ (x : _). x * 5) refl) c.field.ensures c.if-field-i.false _ c.field-2.ensures c.if-field-ne3.false _ c.put_field.ensures
