-- Numbers that may be absent: read and written. Assumes nothing.
use Rattle.std.specs.Prelude.{ℕ, ◌+◌, ◌≡◌, List, None, Some, Option}
use Rattle.std.proofs.Common.{sym, ap, ap₂, ◌∙◌}
use Rattle.base_tests.proofs.Laws.Choice.{ite_eq, ite_ne}
use Rattle.lent_tables.specs.declared.Table.{Table}
use Rattle.lent_tables.specs.Words.{field, put_field}
use Rattle.lent_keys.specs.KeyRecords.{option_in, put_option}

-- ---- numbers that may be absent

-- an absent number is read
-- its first word is 0
pub option_absent : (t : Table) (c : List ℕ) (i w m x : ℕ) → m ≡ w → x ≡ field t c i m → x ≡ 0 → None ≡ option_in t c i w
unfolding option_in
option_absent t c i w m x e h z = sym (ite_eq (field t c i w) 0 None (Some (field t c i (w + 1))) (ap (field t c i) (sym e) ∙ sym h ∙ z))

-- a number is read
-- its first word is not 0
pub option_present : (t : Table) (c : List ℕ) (i w m n x y : ℕ) → m ≡ w → x ≡ field t c i m → (x ≡ 0 → ⊥) → n ≡ w → y ≡ field t c i (n + 1) → (Some y) ≡ option_in t c i w
unfolding option_in
option_present t c i w m n x y e h z f g =
    ap Some (g ∙ ap (λ (k : ℕ). field t c i (k + 1)) f)
    ∙ sym (ite_ne (field t c i w) 0 None (Some (field t c i (w + 1))) (λ q. z (h ∙ ap (field t c i) e ∙ q)))

-- an absent number is written
pub writes_absent : (t : Table) (c c1 c2 : List ℕ) (i w m n : ℕ) (o : Option ℕ) → o ≡ None → m ≡ w → n ≡ w → c1 ≡ put_field t c i m 0 → c2 ≡ put_field t c1 i (n + 1) 0 → c2 ≡ put_option t c i w o
unfolding put_option
writes_absent t c c1 c2 i w m n o g e f h k =
    k ∙ ap₂ (λ (d : List ℕ) (x : ℕ). put_field t d i (x + 1) 0) (h ∙ ap (λ (x : ℕ). put_field t c i x 0) e) f
    ∙ sym (ap (λ (x : Option ℕ). put_option t c i w x) g)

-- a number is written
pub writes_present : (t : Table) (c c1 c2 : List ℕ) (i w m n x : ℕ) (o : Option ℕ) → o ≡ Some x → m ≡ w → n ≡ w → c1 ≡ put_field t c i m 1 → c2 ≡ put_field t c1 i (n + 1) x → c2 ≡ put_option t c i w o
unfolding put_option
writes_present t c c1 c2 i w m n x o g e f h k =
    k ∙ ap₂ (λ (d : List ℕ) (y : ℕ). put_field t d i (y + 1) x) (h ∙ ap (λ (y : ℕ). put_field t c i y 1) e) f
    ∙ sym (ap (λ (y : Option ℕ). put_option t c i w y) g)
