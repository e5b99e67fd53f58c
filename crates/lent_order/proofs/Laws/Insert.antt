-- Laws by which moving words up, one by one or a run at once, meets the definition. Assumes nothing.
use Rattle.std.specs.Prelude.{ℕ, zero, suc, ◌+◌, ◌-◌, ◌*◌, ◌≤◌, ◌<◌, ◌≡◌, true, List, [], ◌∷◌, ◌++◌, length, get_or, set, take, drop}
use Rattle.std.proofs.Common.{arith, sym, ap, ap₂, ◌∙◌, append_assoc, length-drop, length-set, get_or-drop, take-suc}
use Rattle.std.proofs.Math.Seq.{paste}
use Rattle.std.proofs.lemmas.List.{take-set-le, drop-set, drop-set-add}
use Rattle.std.proofs.lemmas.List.Edits.{paste_none}
use Rattle.lent_tables.specs.declared.Table.{Table}
use Rattle.lent_tables.specs.Words.{within, index, field, put_field}
use Rattle.lent_tables.proofs.Laws.Word.{within_yes, field_in, put_in}
use Rattle.lent_order.specs.Order.{order_at, moved_up, inserted}

-- a word of the order
pub order_read : (t : Table) (xs : List ℕ) (j i x : ℕ) → i ≡ j → x ≡ field t xs i 0 → x ≡ order_at t xs j
unfolding order_at
order_read t xs j i x e h = h ∙ ap (λ (k : ℕ). field t xs k 0) e

-- one word moves up
pub moves : (t : Table) (xs ys : List ℕ) (p k v w x : ℕ) → p < k → v ≡ k - 1 → x ≡ field t xs v 0 → w ≡ k → ys ≡ put_field t xs w 0 x → moved_up t p (k - p) xs ≡ moved_up t p (k - 1 - p) ys
unfolding moved_up
moves t xs ys p k v w x l e f g h =
    let m : k - p ≡ suc (k - 1 - p) = omega arith in
    let a : p + suc (k - 1 - p) ≡ w = omega arith in
    let b : p + (k - 1 - p) ≡ v = omega arith in
    ap (λ (d : ℕ). moved_up t p d xs) m
    ∙ ap₂ (λ (i q : ℕ). moved_up t p (k - 1 - p) (put_field t xs i 0 q)) a (ap (λ (i : ℕ). field t xs i 0) b ∙ sym f)
    ∙ ap (moved_up t p (k - 1 - p)) (sym h)

-- none is left to move
pub none_left : (t : Table) (ys : List ℕ) (p k : ℕ) → k ≤ p → moved_up t p (k - p) ys ≡ ys
unfolding moved_up
none_left t ys p k l = ap (λ (d : ℕ). moved_up t p d ys) (let m : k - p ≡ 0 = omega arith in m)

-- all have moved, and the number is put in
pub moved_all : (t : Table) (xs ys zs : List ℕ) (p q r n k : ℕ) → k ≤ p → moved_up t p (n - p) xs ≡ moved_up t p (k - p) ys → q ≡ p → zs ≡ put_field t ys q 0 r → zs ≡ inserted t p r n xs
unfolding inserted moved_up
moved_all t xs ys zs p q r n k l e f h =
    let m : k - p ≡ 0 = omega arith in
    h ∙ ap (λ (i : ℕ). put_field t ys i 0 r) f ∙ ap (λ (us : List ℕ). put_field t us p 0 r) (sym (e ∙ ap (λ (d : ℕ). moved_up t p d ys) m))

-- ---- a run that is moved at once

-- its last word is moved first: what is left is a shorter run
run_more : (c : List ℕ) (b d : ℕ) → b + suc d < length c
    → paste c (b + 1) (drop b c) (suc d) ≡ paste (set c (b + suc d) (get_or c (b + d) 0)) (b + 1) (drop b (set c (b + suc d) (get_or c (b + d) 0))) d
run_more c b d l =
    ap₂ (λ (u v : List ℕ). (low ++ u) ++ v) last (ap (λ (i : ℕ). drop i c) (let z : b + 1 + suc d ≡ b + suc d + 1 = omega arith in z))
    ∙ ap (λ (u : List ℕ). u ++ high) (sym (append_assoc low run (x ∷ [])))
    ∙ append_assoc (low ++ run) (x ∷ []) high
    ∙ sym (ap₂ (λ (u v : List ℕ). u ++ v) (ap₂ (λ (u v : List ℕ). u ++ v) before between) behind)
  where
    x : ℕ
    x = get_or c (b + d) 0

    low : List ℕ
    low = take (b + 1) c

    run : List ℕ
    run = take d (drop b c)

    high : List ℕ
    high = drop (b + suc d + 1) c

    last : take (suc d) (drop b c) ≡ run ++ (x ∷ [])
    last = take-suc (drop b c) d 0 (let z = length-drop b c in omega arith) ∙ ap (λ (y : ℕ). run ++ (y ∷ [])) (get_or-drop b c d 0)

    before : take (b + 1) (set c (b + suc d) x) ≡ low
    before = take-set-le (b + 1) c (b + suc d) x (omega arith)

    between : take d (drop b (set c (b + suc d) x)) ≡ run
    between = ap (take d) (drop-set-add b c (suc d) x) ∙ take-set-le d (drop b c) (suc d) x (omega arith)

    behind : drop (b + 1 + d) (set c (b + suc d) x) ≡ x ∷ high
    behind = ap (λ (i : ℕ). drop i (set c (b + suc d) x)) (let z : b + 1 + d ≡ b + suc d = omega arith in z) ∙ drop-set c (b + suc d) x l

-- a run that the table and the list have, of records of one word, is moved as a whole
pub moved_whole : (t : Table) (p d : ℕ) (c : List ℕ) → t.width ≡ 1 → p + d < t.count → t.base + p + d < length c
    → paste c (t.base + p + 1) (drop (t.base + p) c) d ≡ moved_up t p d c
unfolding moved_up index
moved_whole t p zero c w h l = sym (paste_none c (t.base + p + 1) (drop (t.base + p) c))
moved_whole t p (suc d) c w h l =
    run_more c (t.base + p) d l
    ∙ (let long = length-set c (t.base + p + suc d) (get_or c (t.base + p + d) 0) in
    moved_whole t p d (set c (t.base + p + suc d) (get_or c (t.base + p + d) 0)) w (omega arith) (omega arith))
    ∙ ap (moved_up t p d) (sym one)
  where
    place : (i k : ℕ) → k ≡ t.base + i → index t i 0 ≡ k
    place i k e = ap (λ (n : ℕ). t.base + i * n + 0) w ∙ (let z : t.base + i * 1 + 0 ≡ k = omega arith in z)

    has : (i : ℕ) → i < t.count → within t i 0 ≡ true
    has i m = within_yes t i 0 m (omega arith)

    one : put_field t c (p + suc d) 0 (field t c (p + d) 0) ≡ set c (t.base + p + suc d) (get_or c (t.base + p + d) 0)
    one =
        put_in t c (p + suc d) 0 (field t c (p + d) 0) (has (p + suc d) (omega arith))
        ∙ ap₂ (λ (i y : ℕ). set c i y) (place (p + suc d) (t.base + p + suc d) (omega arith))
        (field_in t c (p + d) 0 (has (p + d) (omega arith)) ∙ ap (λ (i : ℕ). get_or c i 0) (place (p + d) (t.base + p + d) (omega arith)))
