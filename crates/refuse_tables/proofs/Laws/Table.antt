-- Laws by which the code of identifiers, functions and links meets the definitions: a law for each way through a function. Assumes nothing.
use Rattle.std.specs.Prelude.{ℕ, zero, suc, ◌≤◌, ◌<◌, ◌≡◌, Bool, ◌&&◌, List, eqb, ltb, Option, None, Some}
use Rattle.std.proofs.Math.Path.{refl, sym, ap}
use Rattle.std.proofs.Common.{ap₂, ◌∙◌, le-ltb}
use Rattle.std.proofs.Math.Bool.{true, false, not}
use Rattle.std.proofs.Math.Logic.{⊎_elim}
use native.Mathlib.Omega.{arith}
use borrow.Author.Tests.{ne_eqb}
use Rattle.base_tests.proofs.Laws.Order.{same_or_not}
use Rattle.base_tests.specs.Tests.{ite}
use Rattle.lent_tables.specs.Words.{within, field}
use Rattle.lent_tables.proofs.Laws.Word.{field_out}
use Rattle.lent_layout.specs.Layout as Layout
use Rattle.refuse_class.specs.Class.{lower}
use Rattle.refuse_words.specs.Classes.{earns, word_class, used_if, any, run_limit, words_below, record_class}
use Rattle.refuse_words.proofs.Laws.Class.{lowest_none}
use Rattle.refuse_words.proofs.Laws.Stray.{lowest_rest}
use Rattle.refuse_tables.specs.TableClasses.{identifier_limit, identifier_class, function_limit, needs_known, places_class, function_class}

-- ---- limits

-- a use, as the code tests it
pub used_flag : (flag : ℕ) (l : Option ℕ) → used_if (ite (not (eqb flag 0)) 1 0) l ≡ used_if flag l
used_flag zero l = refl
used_flag (suc n) l = ap (λ (b : Bool). used_if (ite (not b) 1 0) l) (ne_eqb (suc n) 0 (λ e. omega arith))

-- a limit where a test holds
pub used_test : (b : Bool) (l : Option ℕ) → used_if (ite b 1 0) l ≡ ite b l None
used_test true l = refl
used_test false l = refl

-- ---- identifiers

module _ (flags w : ℕ) where
  -- the flags
  pub identifier_flags_is : w ≡ 0 → Some 4 ≡ identifier_limit flags w
  unfolding identifier_limit
  identifier_flags_is e = sym (ap (identifier_limit flags) e)

  -- the name
  -- 512, or 0
  pub identifier_name_is : w ≡ 1 → Some 513 ≡ identifier_limit flags w
  unfolding identifier_limit
  identifier_name_is e = sym (ap (identifier_limit flags) e)

-- one past the last that a table has: its words are 0
module _ (c : List ℕ) (i : ℕ) (l : 512 ≤ i) where
  past_word : (w : ℕ) → field Layout.identifiers c i w ≡ 0
  unfolding within
  past_word w = field_out Layout.identifiers c i w (ap (λ (b : Bool). b && ltb w 4) (le-ltb i 512 l))

  past_class : (w : ℕ) → word_class (identifier_limit 0 w) 0 ≡ 0
  unfolding word_class identifier_limit
  past_class zero = refl
  past_class (suc zero) = refl
  past_class (suc (suc zero)) = refl
  past_class (suc (suc (suc zero))) = refl
  past_class (suc (suc (suc (suc w)))) = refl

  pub identifier_past : identifier_class c i ≡ 0
  unfolding identifier_class record_class words_below
  identifier_past =
      sym (lowest_rest (λ w. word_class (identifier_limit (field Layout.identifiers c i 0) w) (field Layout.identifiers c i w)) 0 4 (omega arith)
      (λ w h k. ap₂ (λ (f x : ℕ). word_class (identifier_limit f w) x) (past_word 0) (past_word w) ∙ past_class w))
      ∙ sym (lowest_none (λ w. word_class (identifier_limit (field Layout.identifiers c i 0) w) (field Layout.identifiers c i w)))

-- ---- functions

module _ (identifiers inside w : ℕ) where
  -- the flags
  pub function_flags_is : w ≡ 0 → Some 4 ≡ function_limit identifiers inside w
  unfolding function_limit
  function_flags_is e = sym (ap (function_limit identifiers inside) e)

  -- a count
  pub function_count_is : w < 3 → (w ≡ 0 → ⊥) → any ≡ function_limit identifiers inside w
  unfolding function_limit
  function_count_is l z =
      ⊎_elim
      (λ e. sym (ap (function_limit identifiers inside) e))
      (λ n. let e : w ≡ 2 = omega arith in sym (ap (function_limit identifiers inside) e))
      (same_or_not w 1)

-- the class of a function is that of its parts
pub function_is : (identifiers : ℕ) (c places : List ℕ) (f flags n inside ws ps ks cs a b r : ℕ) (k : Bool) → flags ≡ field Layout.functions c f 0 → n ≡ field Layout.functions c f 1 → inside ≡ field Layout.functions c f 2
    → ws ≡ record_class Layout.functions c (function_limit identifiers inside) f → ps ≡ record_class Layout.contexts places (run_limit identifiers n) f
    → k ≡ needs_known flags inside → ks ≡ earns 3 k → cs ≡ places_class n inside → a ≡ lower ks ps → b ≡ lower ws a → r ≡ lower cs b → r ≡ function_class identifiers c places f
unfolding function_class
function_is identifiers c places f flags n inside ws ps ks cs a b r k hf hn hi hw hp hk he hc ha hb hr =
    hr
    ∙ ap₂ lower (hc ∙ ap₂ places_class hn hi)
    (hb ∙ ap₂ lower (hw ∙ ap (λ (x : ℕ). record_class Layout.functions c (function_limit identifiers x) f) hi)
    (ha ∙ ap₂ lower (he ∙ ap (earns 3) (hk ∙ ap₂ needs_known hf hi)) (hp ∙ ap (λ (x : ℕ). record_class Layout.contexts places (run_limit identifiers x) f) hn)))
