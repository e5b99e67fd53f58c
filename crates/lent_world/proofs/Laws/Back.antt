-- Numbers, keys, links, effects and diagnostics that were written are read back. Assumes nothing.
use Prim.Native.Nat.{ℕ, zero, suc, ◌+◌, ◌*◌, ◌≤◌, ◌<◌}
use Rattle.std.specs.Prelude.{◌≡◌, eqb, get_or, set, Option, None, Some}
use Rattle.std.proofs.Math.Path.{refl, ap, ap₂}
use Rattle.std.proofs.Common.{◌∙◌, leb→le, get_or-set_same, get_or-set_other}
use mathlib.Core.List.{List, [], ◌∷◌, ◌++◌}
use native.Mathlib.Omega.{arith}
use Rattle.std.proofs.Math.ListN.{length}
use Rattle.base_tests.specs.Tests.{ite}
use Rattle.def_effects.specs.declared.Place.{Place}
use Rattle.def_effects.specs.Places.{identifiers}
use Rattle.def_effects.specs.Effects.{AliasingEffect, Freeze, Mutate, MutateConditionally, MutateTransitive, MutateTransitiveConditionally, Capture, Alias, MaybeAlias, Assign, Create, CreateFrom, ImmutableCapture, CreateFunction, MutateFrozen, MutateGlobal, Impure, Render}
use Rattle.def_effects.specs.Keys.{EffectKey, effect_key}
use Rattle.def_transfer.specs.Pure.{Interned}
use Rattle.lent_tables.specs.declared.Table.{Table}
use Rattle.lent_tables.specs.Words.{field, put_field}
use Rattle.lent_tables.proofs.Laws.Word.{put_length}
use Rattle.lent_effects.specs.Records.{effect_in, put_effect}
use Rattle.lent_effects.proofs.Laws.EffectFrames.{effect_cong, effect_record}
use Rattle.lent_keys.specs.KeyRecords.{numbers_in, put_numbers, option_in, put_option, key_head_in, key_in, put_head}
use Rattle.lent_keys.specs.KeyRecords as Keys
use Rattle.lent_keys.proofs.Laws.KeyFrames.{numbers_keep}
use Rattle.lent_layout.specs.declared.Numbered.{Numbered}
use Rattle.lent_layout.specs.Context.{interned_of, unused}
use Rattle.lent_context.specs.Lent.{effects_in, diagnostic_in, diagnostics_in}
use Rattle.lent_tables.proofs.Laws.Back.{Held, held_as, word_back, word_beside}
use Rattle.lent_effects.proofs.Laws.Back.{capture_count, effect_back}
use Rattle.def_faithful.specs.Ranges.{Short}

-- ---- numbers, one after the other

module _ (t : Table) (i : ℕ) where
  numbers_length : (c : List ℕ) (w k : ℕ) (xs : List ℕ) → length (put_numbers t c i w 1 k xs) ≡ length c
  numbers_length c w k xs = numbers_keep t i (λ (d : List ℕ). length d ≡ length c) (λ d v x h. put_length t d i v x ∙ h) c w 1 k xs refl

  -- words before them stay
  numbers_beside : (c : List ℕ) (w k : ℕ) (xs : List ℕ) (v : ℕ) → v < w + k * 1 → field t (put_numbers t c i w 1 k xs) i v ≡ field t c i v
  unfolding put_numbers
  numbers_beside c w k [] v l = refl
  numbers_beside c w k (x ∷ xs) v l = numbers_beside (put_field t c i (w + k * 1) x) w (suc k) xs v (let z : v < w + suc k * 1 = omega arith in z) ∙ word_beside t i c (w + k * 1) x v (λ e. omega arith)

  -- each of them is read
  numbers_at : (c : List ℕ) (w k : ℕ) (xs : List ℕ) (j v : ℕ) → v ≡ w + (k + j) → j < length xs → i < t.count → w + k + length xs ≤ t.width → Held t i c → field t (put_numbers t c i w 1 k xs) i v ≡ get_or xs j 0
  unfolding put_numbers
  numbers_at c w k [] j v e l row wide held = absurd (omega arith)
  numbers_at c w k (x ∷ xs) zero v e l row wide held =
      let q : v ≡ w + k * 1 = omega arith in
      let room : w + k * 1 < t.width = let z : w + k + suc (length xs) ≤ t.width = wide in omega arith in
      ap (λ (u : ℕ). field t (put_numbers t (put_field t c i (w + k * 1) x) i w 1 (suc k) xs) i u) q
      ∙ numbers_beside (put_field t c i (w + k * 1) x) w (suc k) xs (w + k * 1) (let z : w + k * 1 < w + suc k * 1 = omega arith in z) ∙ word_back t i c (w + k * 1) x row room held
  numbers_at c w k (x ∷ xs) (suc j) v e l row wide held =
      numbers_at (put_field t c i (w + k * 1) x) w (suc k) xs j v (let z : v ≡ w + (suc k + j) = omega arith in z) (let z : j < length xs = omega arith in z) row
      (let z : w + k + suc (length xs) ≤ t.width = wide in let y : w + suc k + length xs ≤ t.width = omega arith in y)
      (held_as t i c (put_field t c i (w + k * 1) x) (put_length t c i (w + k * 1) x) held)

  -- and so they are all
  numbers_all : (d : List ℕ) (w k : ℕ) (xs : List ℕ) → ((j : ℕ) → j < length xs → field t d i (w + (k + j) * 1) ≡ get_or xs j 0) → numbers_in t d i w 1 k (length xs) ≡ xs
  unfolding numbers_in
  numbers_all d w k [] h = refl
  numbers_all d w k (x ∷ xs) h =
      ap₂ (λ (y : ℕ) (ys : List ℕ). y ∷ ys) (ap (λ (u : ℕ). field t d i u) (let z : w + k * 1 ≡ w + (k + 0) * 1 = omega arith in z) ∙ h 0 (omega arith))
      (numbers_all d w (suc k) xs (λ j l. ap (λ (u : ℕ). field t d i u) (let z : w + (suc k + j) * 1 ≡ w + (k + suc j) * 1 = omega arith in z) ∙ h (suc j) (omega arith)))

-- ---- options and keys

abbrev flag : Option ℕ → ℕ
flag None = 0
flag (Some x) = 1

abbrev amount : Option ℕ → ℕ
amount None = 0
amount (Some x) = x

option_is : (t : Table) (d : List ℕ) (i w : ℕ) (o : Option ℕ) → field t d i w ≡ flag o → field t d i (w + 1) ≡ amount o → option_in t d i w ≡ o
unfolding option_in
option_is t d i w None p q = ap₂ (λ (x y : ℕ). ite (eqb x 0) None (Some y)) p q
option_is t d i w (Some x) p q = ap₂ (λ (x y : ℕ). ite (eqb x 0) None (Some y)) p q

-- a key but for its captures, as words
abbrev head_words : EffectKey → ℕ → List ℕ
head_words k n =
    1 ∷ k.code ∷ flag k.from ∷ amount k.from ∷ flag k.into ∷ amount k.into ∷ k.kind ∷ k.reason ∷ flag k.function ∷ amount k.function ∷ k.identity ∷ n ∷ []

head_words_is : (t : Table) (c : List ℕ) (i : ℕ) (k : EffectKey) → put_field t (put_head t c i k) i 11 (length k.captures) ≡ put_numbers t c i 0 1 0 (head_words k (length k.captures))
unfolding put_head put_option put_numbers
head_words_is t c i k = refl

pub key_back : (t : Table) (c : List ℕ) (i : ℕ) (k : EffectKey) → t.width ≡ 28 → i < t.count → Held t i c → length k.captures ≤ 16 → key_in t (Keys.put_key t c i k) i ≡ Some k
unfolding key_in key_head_in Keys.put_key
key_back t c i k wide row held few = λ j. ite (eqb (head 0 0 refl (omega arith) j) 0) None (Some (record {
  code = head 1 1 refl (omega arith) j;
  from = option_is t d i 2 k.from (head 2 2 refl (omega arith)) (head 3 3 refl (omega arith)) j;
  into = option_is t d i 4 k.into (head 4 4 refl (omega arith)) (head 5 5 refl (omega arith)) j;
  kind = head 6 6 refl (omega arith) j;
  reason = head 7 7 refl (omega arith) j;
  function = option_is t d i 8 k.function (head 8 8 refl (omega arith)) (head 9 9 refl (omega arith)) j;
  identity = head 10 10 refl (omega arith) j;
  captures = (ap (numbers_in t d i 12 1 0) (head 11 11 refl (omega arith)) ∙ numbers_all t i d 12 0 k.captures (λ m l. numbers_at t i b 12 0 k.captures m _ (omega arith) l row (omega arith) held_b)) j;
}))
  where
    b : List ℕ
    b = put_field t (put_head t c i k) i 11 (length k.captures)

    d : List ℕ
    d = put_numbers t b i 12 1 0 k.captures

    held_b : Held t i b
    held_b = held_as t i c b (ap length (head_words_is t c i k) ∙ numbers_length t i c 0 0 (head_words k (length k.captures))) held

    head : (m v : ℕ) → v ≡ m → m < 12 → field t d i v ≡ get_or (head_words k (length k.captures)) m 0
    head m v e l =
        numbers_beside t i b 12 0 k.captures v (omega arith) ∙ ap (λ (x : List ℕ). field t x i v) (head_words_is t c i k)
        ∙ numbers_at t i c 0 0 (head_words k (length k.captures)) m v (omega arith) l row (omega arith) held

pub link_back : (t : Table) (c : List ℕ) (i x : ℕ) → t.width ≡ 2 → i < t.count → Held t i c → option_in t (put_option t c i 0 (Some x)) i 0 ≡ Some x
unfolding put_option
link_back t c i x wide row held =
    option_is t _ i 0 (Some x) (word_beside t i (put_field t c i 0 1) 1 x 0 (λ e. omega arith) ∙ word_back t i c 0 1 row (let z : 0 < t.width = omega arith in z) held)
    (word_back t i (put_field t c i 0 1) 1 x row (let z : 1 < t.width = omega arith in z) (held_as t i c (put_field t c i 0 1) (put_length t c i 0 1) held))

-- ---- effects

identifiers_length : (ps : List Place) → length (identifiers ps) ≡ length ps
identifiers_length [] = refl
identifiers_length (p ∷ ps) = ap suc (identifiers_length ps)

pub captures_few : (e : AliasingEffect) → Short (effect_key e) → capture_count e ≤ 16
captures_few (Freeze p r) s = omega arith
captures_few (Mutate p r) s = omega arith
captures_few (MutateConditionally p) s = omega arith
captures_few (MutateTransitive p) s = omega arith
captures_few (MutateTransitiveConditionally p) s = omega arith
captures_few (Capture f i) s = omega arith
captures_few (Alias f i) s = omega arith
captures_few (MaybeAlias f i) s = omega arith
captures_few (Assign f i) s = omega arith
captures_few (Create i k r) s = omega arith
captures_few (CreateFrom f i) s = omega arith
captures_few (ImmutableCapture f i) s = omega arith
captures_few (CreateFunction cs f i) s = let l : length (identifiers cs) ≤ 16 = leb→le (length (identifiers cs)) 16 s in let e = identifiers_length cs in omega arith
captures_few (MutateFrozen p d) s = omega arith
captures_few (MutateGlobal p d) s = omega arith
captures_few (Impure p d) s = omega arith
captures_few (Render p) s = omega arith

effects_append : (t : Table) (c d : List ℕ) (e : AliasingEffect) (k n : ℕ) → ((j : ℕ) → j < k + n → effect_in t d j ≡ effect_in t c j) → effect_in t d (k + n) ≡ e → effects_in t d k (suc n) ≡ effects_in t c k n ++ (e ∷ [])
unfolding effects_in
effects_append t c d e k zero h p = ap (λ (x : AliasingEffect). x ∷ []) (ap (effect_in t d) (let z : k ≡ k + 0 = omega arith in z) ∙ p)
effects_append t c d e k (suc n) h p =
    ap₂ (λ (x : AliasingEffect) (xs : List AliasingEffect). x ∷ xs) (h k (omega arith))
    (effects_append t c d e (suc k) n (λ j l. h j (omega arith)) (ap (effect_in t d) (let z : suc k + n ≡ k + suc n = omega arith in z) ∙ p))

-- an effect written after the last of m
pub effect_appended : (t : Table) (c : List ℕ) (m : ℕ) (e : AliasingEffect) → t.width ≡ 98 → m < t.count → Held t m c → Short (effect_key e) → effects_in t (put_effect t c m e) 0 (suc m) ≡ effects_in t c 0 m ++ (e ∷ [])
effect_appended t c m e wide row held s =
    effects_append t c (put_effect t c m e) e 0 m
    (λ j l. effect_cong t c (put_effect t c m e) j (λ v. effect_record t c m e j v (λ q. omega arith)))
    (ap (effect_in t (put_effect t c m e)) (let z : 0 + m ≡ m = omega arith in z) ∙ effect_back t c m wide row held e (captures_few e s))

pub effects_length : (t : Table) (c : List ℕ) (k n : ℕ) → length (effects_in t c k n) ≡ n
unfolding effects_in
effects_length t c k zero = refl
effects_length t c k (suc n) = ap suc (effects_length t c (suc k) n)

-- ---- diagnostics

-- a record that was written is read, where the slice has it
diagnostic_back : (ds : List Numbered) (k : ℕ) (x : Numbered) → k < length ds → diagnostic_in (set ds k x) k ≡ interned_of x
unfolding diagnostic_in
diagnostic_back ds k x l = ap interned_of (get_or-set_same ds k x unused l)

-- and the others stay
diagnostic_beside : (ds : List Numbered) (k : ℕ) (x : Numbered) (j : ℕ) → (j ≡ k → ⊥) → diagnostic_in (set ds k x) j ≡ diagnostic_in ds j
unfolding diagnostic_in
diagnostic_beside ds k x j n = ap interned_of (get_or-set_other ds k j x unused n)

diagnostics_append : (ds es : List Numbered) (x : Interned) (k n : ℕ) → ((j : ℕ) → j < k + n → diagnostic_in es j ≡ diagnostic_in ds j) → diagnostic_in es (k + n) ≡ x → diagnostics_in es k (suc n) ≡ diagnostics_in ds k n ++ (x ∷ [])
unfolding diagnostics_in
diagnostics_append ds es x k zero h p = ap (λ (y : Interned). y ∷ []) (ap (diagnostic_in es) (let z : k ≡ k + 0 = omega arith in z) ∙ p)
diagnostics_append ds es x k (suc n) h p =
    ap₂ (λ (y : Interned) (ys : List Interned). y ∷ ys) (h k (omega arith))
    (diagnostics_append ds es x (suc k) n (λ j l. h j (omega arith)) (ap (diagnostic_in es) (let z : suc k + n ≡ k + suc n = omega arith in z) ∙ p))

-- a record written after the last of m
pub diagnostic_appended : (ds : List Numbered) (m : ℕ) (x : Numbered) → m < length ds → diagnostics_in (set ds m x) 0 (suc m) ≡ diagnostics_in ds 0 m ++ (interned_of x ∷ [])
diagnostic_appended ds m x l =
    diagnostics_append ds (set ds m x) (interned_of x) 0 m (λ j q. diagnostic_beside ds m x j (λ e. omega arith))
    (ap (diagnostic_in (set ds m x)) (let z : 0 + m ≡ m = omega arith in z) ∙ diagnostic_back ds m x l)

pub diagnostics_length : (ds : List Numbered) (k n : ℕ) → length (diagnostics_in ds k n) ≡ n
unfolding diagnostics_in
diagnostics_length ds k zero = refl
diagnostics_length ds k (suc n) = ap suc (diagnostics_length ds (suc k) n)
