-- What the lowest of some classes keeps: no class below 2, none above 4, so that a test may return at its first refusal. Assumes nothing.
use Prim.Native.Nat.{ℕ, zero, suc, ◌≤◌}
use Rattle.std.specs.Prelude.{◌≡◌, refl, Bool, true, false, not, ◌⊎◌, List, eqb, ltb, Option, None, Some}
use Rattle.std.proofs.Common.{sym, subst, inl, inr, ⊎_elim, arith}
use Rattle.base_tests.proofs.Laws.Order.{lt_or_ge, same_or_not}
use Rattle.lent_tables.specs.declared.Table.{Table}
use Rattle.lent_tables.specs.Words.{field}
use Rattle.refuse_class.specs.Class.{lower}
use Rattle.refuse_class.proofs.Laws.Class.{lower_none, lower_alone, lower_first, lower_second}
use Rattle.refuse_words.specs.Classes.{lowest_below, earns, word_class, words_below, record_class}

-- the lower of two classes is one of them
pub lower_either : (a b : ℕ) → (lower a b ≡ a) ⊎ (lower a b ≡ b)
lower_either a b =
    ⊎_elim
    (λ e. inr (sym (lower_none a b e)))
    (λ h. ⊎_elim
    (λ e. inl (sym (lower_alone a b h e)))
    (λ k. ⊎_elim (λ l. inr (sym (lower_second a b h k l))) (λ l. inl (sym (lower_first a b h k l))) (lt_or_ge b a))
    (same_or_not b 0))
    (same_or_not a 0)

-- a class of 0, or from 2 to 4
-- every test but those of a length and of an Apply among candidates earns such
pub data Class : ℕ → Type 0 where
  nothing : {n : ℕ} → n ≡ 0 → Class n
  something : {n : ℕ} → 2 ≤ n → n ≤ 4 → Class n

-- a class of 0, or from 2 on
pub data Later : ℕ → Type 0 where
  nothing : {n : ℕ} → n ≡ 0 → Later n
  something : {n : ℕ} → 2 ≤ n → Later n

-- a class from 2 to 4 is one from 2 on
-- what holds of all from 2 on holds of it
pub class_later : (n : ℕ) → Class n → Later n
class_later n (Class.nothing e) = Later.nothing e
class_later n (Class.something a b) = Later.something a

module _ (P : ℕ → Type 0) where
  -- what holds of two classes holds of the lower
  pub lower_keeps : (a b : ℕ) → P a → P b → P (lower a b)
  lower_keeps a b p q = ⊎_elim (λ e. subst P (sym e) p) (λ e. subst P (sym e) q) (lower_either a b)

  -- what holds of 0 and of each class holds of the lowest
  pub lowest_keeps : (n : ℕ) (f : ℕ → ℕ) → P 0 → ((k : ℕ) → P (f k)) → P (lowest_below n f)
  unfolding lowest_below
  lowest_keeps zero f z h = z
  lowest_keeps (suc n) f z h = lower_keeps (lowest_below n f) (f n) (lowest_keeps n f z h) (h n)

-- a test earns nothing or its class
-- for a class from 2 to 4
pub earns_class : (n : ℕ) (b : Bool) → 2 ≤ n → n ≤ 4 → Class (earns n b)
earns_class n true h k = Class.something h k
earns_class n false h k = Class.nothing refl

-- a word earns nothing, 3 or 4
pub word_class_is : (o : Option ℕ) (x : ℕ) → Class (word_class o x)
unfolding word_class
word_class_is None x = earns_class 4 (not (eqb x 0)) (omega arith) (omega arith)
word_class_is (Some l) x = earns_class 3 (not (ltb x l)) (omega arith) (omega arith)

-- a record earns nothing, 3 or 4
pub record_class_is : (t : Table) (c : List ℕ) (limit : ℕ → Option ℕ) (i : ℕ) → Class (record_class t c limit i)
unfolding record_class words_below
record_class_is t c limit i = lowest_keeps Class t.width (λ w. word_class (limit w) (field t c i w)) (Class.nothing refl) (λ w. word_class_is (limit w) (field t c i w))

-- 2 is the lower of 2 and any class from 2 on
pub two_first : (b : ℕ) → Later b → 2 ≡ lower 2 b
two_first b (Later.nothing e) = lower_alone 2 b (λ z. absurd (omega arith)) e
two_first b (Later.something h) = lower_first 2 b (λ z. absurd (omega arith)) (λ z. absurd (omega arith)) h

-- a class up to 4 is the lower of it and 4
-- what is refused already need not be looked for twice
pub four_last : (a : ℕ) (b : Bool) → (a ≡ 0 → ⊥) → Class a → a ≡ lower a (earns 4 b)
four_last a b n (Class.nothing e) = absurd (n e)
four_last a true n (Class.something h k) = lower_first a 4 n (λ z. absurd (omega arith)) k
four_last a false n (Class.something h k) = lower_alone a 0 n refl
