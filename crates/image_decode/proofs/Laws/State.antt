-- Values and pairs of an image put into the tables of a state: a law for each way through the code. Assumes nothing.
use Rattle.std.specs.Prelude.{ℕ, ◌≤◌, ◌^◌, ◌%◌, ◌≡◌, refl, Bool, true, false, List, [], length}
use Rattle.std.proofs.Common.{sym, ap, ap₂, ◌∙◌, subst, eq-eqb, ne_eqb}
use Rattle.std.specs.Int.Bits.{bit_or, or_zero_l}
use Rattle.lent_sets.specs.Rows.{number, row_number, set_at, put_set, add_set}
use Rattle.base_sets.specs.Members.{bits_of}
use Rattle.lent_sets.proofs.Laws.Row.{add_length, add_number, add_row}
use Rattle.lent_sets.proofs.Laws.Code.{put_cut, add_none}
use Rattle.def_image.specs.Layout.{cell}
use Rattle.def_image.specs.Decode.{member_of}
use Rattle.image_decode.specs.Decoded.{decoded_pair}

-- value 0 is no member
-- "value 0 .. means defined with an empty set"
pub member_none : (l : List ℕ) (v : ℕ) → v ≡ 0 → l ≡ add_set l (member_of v)
unfolding member_of set_at row_number number
member_none l v e = add_none [] 0 l refl ∙ ap (add_set l) (sym (ap (λ (b : Bool). elim b [ true ↦ 0 | false ↦ 2 ^ v ]) (eq-eqb v 0 e)))

-- any other value is
pub member_some : (l m : List ℕ) (v : ℕ) → (v ≡ 0 → ⊥) → m ≡ add_set l (2 ^ v) → m ≡ add_set l (member_of v)
unfolding member_of
member_some l m v e h = h ∙ ap (add_set l) (sym (ap (λ (b : Bool). elim b [ true ↦ 0 | false ↦ 2 ^ v ]) (ne_eqb v 0 e)))

-- a pair is put
-- the set in hand starts from nothing and gets the row, then the value
pub pair_is : (im ss qs k l m : List ℕ) (j i v : ℕ) → 16 ≤ length k → number 16 k 0 ≡ 0 → i ≡ cell im 2 j 0 → v ≡ cell im 2 j 1
    → l ≡ add_set k (bits_of (set_at ss i)) → m ≡ add_set l (member_of v) → qs ≡ put_set ss i (number 16 m 0) → qs ≡ decoded_pair im j ss
unfolding decoded_pair
pair_is im ss qs k l m j i v h z p q e f g =
    g
    ∙ ap (put_set ss i)
    (ap (λ (x : List ℕ). number 16 x 0) f
    ∙ add_number l (member_of v) (subst (λ (n : ℕ). 16 ≤ n) (sym (ap length e ∙ add_length k (bits_of (set_at ss i)))) h)
    ∙ ap (λ (x : ℕ). bit_or x (member_of v) % 2 ^ 1024) (add_row ss i k l h e ∙ ap (λ (x : ℕ). bit_or x (bits_of (set_at ss i))) z ∙ or_zero_l (bits_of (set_at ss i))))
    ∙ put_cut ss i (bit_or (bits_of (set_at ss i)) (member_of v))
    ∙ ap₂ (λ (x y : ℕ). put_set ss x (bit_or (bits_of (set_at ss x)) (member_of y))) p q
