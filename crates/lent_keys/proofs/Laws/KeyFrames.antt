-- What a write of an option or of a key leaves, and that lists with the same words hold the same. Assumes nothing.
use Rattle.std.specs.Prelude.{ℕ, suc, ◌+◌, ◌*◌, ◌≤◌, ◌<◌, ◌≡◌, refl, true, ◌⊎◌, eqb, length, get_or, Option, None, Some}
use Rattle.std.proofs.Common.{ap, ◌∙◌}
use mathlib.Core.List.{List, [], ◌∷◌}
use Rattle.base_tests.specs.Tests.{ite}
use Rattle.def_effects.specs.Keys.{EffectKey}
use Rattle.lent_tables.specs.declared.Table.{Table}
use Rattle.lent_tables.specs.Words.{end, apart, field, put_field}
use Rattle.lent_tables.proofs.Laws.Word.{put_length, put_record, put_apart, put_outside}
use Rattle.lent_keys.specs.KeyRecords.{numbers_in, put_numbers, option_in, put_option, key_head_in, key_in, put_head, put_key}
use Rattle.lent_keys.proofs.Laws.Number.{numbers_cong}

-- ---- records with the same words

-- the same words hold the same number that may be absent
pub option_cong : (t : Table) (c d : List ℕ) (i w : ℕ) → ((v : ℕ) → field t d i v ≡ field t c i v) → option_in t d i w ≡ option_in t c i w
unfolding option_in
option_cong t c d i w h = λ j. ite (eqb (h w j) 0) None (Some (h (w + 1) j))

-- and the same words of a key
pub head_cong : (t : Table) (c d : List ℕ) (i : ℕ) → ((v : ℕ) → field t d i v ≡ field t c i v) → key_head_in t d i (numbers_in t d i 12 1 0 (field t d i 11)) ≡ key_head_in t c i (numbers_in t c i 12 1 0 (field t c i 11))
unfolding key_head_in
head_cong t c d i h = λ j. record {
  code = h 1 j;
  from = option_cong t c d i 2 h j;
  into = option_cong t c d i 4 h j;
  kind = h 6 j;
  reason = h 7 j;
  function = option_cong t c d i 8 h j;
  identity = h 10 j;
  captures = (numbers_cong t c d i 12 1 0 (field t d i 11) h ∙ ap (numbers_in t c i 12 1 0) (h 11)) j;
}

-- and the same key
pub key_cong : (t : Table) (c d : List ℕ) (i : ℕ) → ((v : ℕ) → field t d i v ≡ field t c i v) → key_in t d i ≡ key_in t c i
unfolding key_in
key_cong t c d i h = λ j. ite (eqb (h 0 j) 0) None (Some (head_cong t c d i h j))

-- ---- what a write of a key leaves

-- what each write of a word of record i keeps, a write of an option, of numbers and of a key keeps
module _ (t : Table) (i : ℕ) (P : List ℕ → Type 0) (s : (d : List ℕ) (w x : ℕ) → P d → P (put_field t d i w x)) where
  -- a number that may be absent
  pub option_keeps : (c : List ℕ) (w : ℕ) (o : Option ℕ) → P c → P (put_option t c i w o)
  unfolding put_option
  option_keeps c w o h = s _ _ _ (s _ _ _ h)

  -- numbers
  pub numbers_keep : (c : List ℕ) (w a k : ℕ) (xs : List ℕ) → P c → P (put_numbers t c i w a k xs)
  unfolding put_numbers
  numbers_keep c w a k [] h = h
  numbers_keep c w a k (x ∷ xs) h = numbers_keep (put_field t c i (w + k * a) x) w a (suc k) xs (s c (w + k * a) x h)

  -- a key but for its captures
  pub head_keeps : (c : List ℕ) (k : EffectKey) → P c → P (put_head t c i k)
  unfolding put_head
  head_keeps c k h = s _ _ _ (option_keeps _ _ _ (s _ _ _ (s _ _ _ (option_keeps _ _ _ (option_keeps _ _ _ (s _ _ _ (s _ _ _ h)))))))

  -- a key
  pub key_keeps : (c : List ℕ) (k : EffectKey) → P c → P (put_key t c i k)
  unfolding put_key
  key_keeps c k h = numbers_keep _ _ _ _ _ (s _ _ _ (head_keeps _ _ h))

-- a number that may be absent, written, keeps the list's length
pub option_length : (t : Table) (c : List ℕ) (i : ℕ) (w : ℕ) (o : Option ℕ) → length (put_option t c i w o) ≡ length c
option_length t c i w o = option_keeps t i (λ (d : List ℕ). length d ≡ length c) (λ d v x h. put_length t d i v x ∙ h) c w o refl

-- it leaves every word of a table that stands apart
pub option_apart : (t u : Table) (c : List ℕ) (i : ℕ) (w : ℕ) (o : Option ℕ) (j v : ℕ) → apart t u ≡ true → field u (put_option t c i w o) j v ≡ field u c j v
option_apart t u c i w o j v a = option_keeps t i (λ (d : List ℕ). field u d j v ≡ field u c j v) (λ d y x h. put_apart t u d i y x j v a ∙ h) c w o refl

-- it leaves every word of another record
pub option_record : (t : Table) (c : List ℕ) (i : ℕ) (w : ℕ) (o : Option ℕ) (j v : ℕ) → (i ≡ j → ⊥) → field t (put_option t c i w o) j v ≡ field t c j v
option_record t c i w o j v n = option_keeps t i (λ (d : List ℕ). field t d j v ≡ field t c j v) (λ d y x h. put_record t d i y x j v n ∙ h) c w o refl

-- it leaves every place of the list before the table or after it
pub option_outside : (t : Table) (c : List ℕ) (i : ℕ) (w : ℕ) (o : Option ℕ) (m : ℕ) → (m < t.base) ⊎ (end t ≤ m) → get_or (put_option t c i w o) m 0 ≡ get_or c m 0
option_outside t c i w o m a = option_keeps t i (λ (d : List ℕ). get_or d m 0 ≡ get_or c m 0) (λ d y x h. put_outside t d i y x m a ∙ h) c w o refl

-- a key written keeps the list's length
pub key_length : (t : Table) (c : List ℕ) (i : ℕ) (k : EffectKey) → length (put_key t c i k) ≡ length c
key_length t c i k = key_keeps t i (λ (d : List ℕ). length d ≡ length c) (λ d v x h. put_length t d i v x ∙ h) c k refl

-- it leaves every word of a table that stands apart
pub key_apart : (t u : Table) (c : List ℕ) (i : ℕ) (k : EffectKey) (j v : ℕ) → apart t u ≡ true → field u (put_key t c i k) j v ≡ field u c j v
key_apart t u c i k j v a = key_keeps t i (λ (d : List ℕ). field u d j v ≡ field u c j v) (λ d y x h. put_apart t u d i y x j v a ∙ h) c k refl

-- it leaves every word of another record
pub key_record : (t : Table) (c : List ℕ) (i : ℕ) (k : EffectKey) (j v : ℕ) → (i ≡ j → ⊥) → field t (put_key t c i k) j v ≡ field t c j v
key_record t c i k j v n = key_keeps t i (λ (d : List ℕ). field t d j v ≡ field t c j v) (λ d y x h. put_record t d i y x j v n ∙ h) c k refl

-- it leaves every place of the list before the table or after it
pub key_outside : (t : Table) (c : List ℕ) (i : ℕ) (k : EffectKey) (m : ℕ) → (m < t.base) ⊎ (end t ≤ m) → get_or (put_key t c i k) m 0 ≡ get_or c m 0
key_outside t c i k m a = key_keeps t i (λ (d : List ℕ). get_or d m 0 ≡ get_or c m 0) (λ d y x h. put_outside t d i y x m a ∙ h) c k refl
