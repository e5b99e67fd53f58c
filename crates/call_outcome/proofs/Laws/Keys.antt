-- The cached keys of an accepted context: they are in order, and no number from the next one on has one. Assumes nothing.
use Rattle.std.specs.Prelude.{ℕ, ◌+◌, ◌-◌, ◌*◌, ◌≤◌, ◌<◌, ◌≡◌, Bool, None}
use native.Mathlib.Omega.{arith}
use Rattle.std.proofs.Math.Path.{refl, ap}
use Rattle.std.proofs.Common.{◌∙◌, eq-eqb}
use Rattle.std.proofs.Math.Bool.{true, false, not}
use Rattle.std.proofs.Math.Logic.{⊎_elim}
use Rattle.std.proofs.Math.ListN.{get_or}
use Rattle.base_tests.specs.Tests.{ite}
use Rattle.base_tests.proofs.Laws.Choice.{ite_lt, ite_ge, ite_no}
use Rattle.base_tests.proofs.Laws.Order.{lt_or_ge}
use Rattle.lent_tables.specs.Words.{within, index, field}
use Rattle.lent_tables.proofs.Laws.Word.{within_no_record}
use Rattle.lent_layout.specs.Layout as Layout
use Rattle.lent_layout.specs.Context.{ContextWords}
use Rattle.lent_context.specs.Lent.{key_at, is_keyed}
use Rattle.lent_context.proofs.Laws.Numbered.{Numbered, keyless_at}
use Rattle.refuse_class.proofs.Laws.Class.{lower_0}
use Rattle.refuse_words.specs.Classes.{word_class, words_below, record_class, stray_from, stray_after}
use Rattle.refuse_words.proofs.Laws.Class.{lowest_0}
use Rattle.refuse_tables.specs.TableClasses.{no_key_class}
use Rattle.refuse_key_order.proofs.Laws.Accepted.{in_order_is}
use Rattle.refuse_records.specs.Accepting.{handed_out, cached_class, keys_class, tables_class, context_class}
use Rattle.call_outcome.proofs.Laws.Class.{word_0, tables_right}

-- no more numbers are handed out than there are, nor than next says
few_out : (next : ℕ) → handed_out next ≤ 512
few_out next = ⊎_elim (λ h. let z = ite_lt 512 next 512 next h in omega arith) (λ h. let z = ite_ge 512 next 512 next h in omega arith) (lt_or_ge 512 next)

low_out : (next : ℕ) → handed_out next ≤ next
low_out next = ⊎_elim (λ h. let z = ite_lt 512 next 512 next h in omega arith) (λ h. let z = ite_ge 512 next 512 next h in omega arith) (lt_or_ge 512 next)

module _ (n : ℕ) (c : ContextWords) (next : ℕ) (e : context_class n c next ≡ 0) where
  -- how many numbers are handed out
  abbrev pub out : ℕ
  out = handed_out next

  -- the keys earn no class
  keys_right : keys_class n c.function_count c next ≡ 0
  unfolding tables_class
  keys_right = (lower_0 _ _ (lower_0 _ _ (lower_0 _ _ (lower_0 _ _ (lower_0 _ _ (tables_right n c next e)).1).1).1).1).0

  -- a record after those that are handed out is zero
  zero_record : (v : ℕ) → out ≤ v → v < 512 → get_or c.keys (0 + v * 28 + 0) 0 ≡ 0
  unfolding keys_class stray_after stray_from index
  zero_record v l h =
      let z : 0 + v * 28 + 0 ≡ 0 + out * 28 + 0 + (v - out) * 28 = omega arith in
      ap (λ (x : ℕ). get_or c.keys x 0) z
      ∙ word_0 (get_or c.keys (0 + out * 28 + 0 + (v - out) * 28) 0) (lowest_0 ((512 - out) * 28) _ (lower_0 _ _ (lower_0 _ _ keys_right).1).0 ((v - out) * 28) (omega arith))

  zero_word : (v : ℕ) → out ≤ v → field Layout.cached c.keys v 0 ≡ 0
  unfolding field index
  zero_word v l = ⊎_elim (λ h. either (within Layout.cached v 0) _ (zero_record v l h)) (λ h. ite_no (within Layout.cached v 0) _ 0 (within_no_record Layout.cached v 0 h)) (lt_or_ge v 512)
    where
      either : (b : Bool) (x : ℕ) → x ≡ 0 → ite b x 0 ≡ 0
      either true x q = q
      either false x q = refl

  none_after : (v : ℕ) → out ≤ v → is_keyed c v ≡ false
  unfolding is_keyed
  none_after v l = ap not (eq-eqb (field Layout.cached c.keys v 0) 0 (zero_word v l))

  -- number 0 has no key
  none_first : is_keyed c 0 ≡ false
  unfolding is_keyed keys_class cached_class no_key_class record_class words_below
  none_first = ⊎_elim handed (none_after 0) (lt_or_ge 0 out)
    where
      handed : 0 < out → is_keyed c 0 ≡ false
      handed l =
          let a : cached_class n c.function_count c.keys 0 ≡ 0 = lowest_0 out (cached_class n c.function_count c.keys) (lower_0 _ _ keys_right).0 0 l in
          let b : no_key_class c.keys 0 ≡ 0 = a in
          ap not (eq-eqb (field Layout.cached c.keys 0 0) 0 (word_0 (field Layout.cached c.keys 0 0) (lowest_0 28 (λ w. word_class None (field Layout.cached c.keys 0 w)) b 0 (omega arith))))

  pub numbered : Numbered c
  unfolding keys_class
  numbered = in_order_is c out (few_out next) (lower_0 _ _ (lower_0 _ _ keys_right).1).1 none_after none_first

  pub unused : (v : ℕ) → next ≤ v → key_at c v ≡ None
  unused v l = keyless_at c v (none_after v (let z = low_out next in omega arith))
