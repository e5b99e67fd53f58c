-- Laws by which the code of a context's classes meets the definitions: a law for each way through a function. Assumes nothing.
use Rattle.std.specs.Prelude.{ℕ, ◌≡◌, refl, Bool, true, false, ◌&&◌, ◌||◌, List, get_or, Option, Some}
use Rattle.std.proofs.Math.Path.{sym, ap}
use Rattle.std.proofs.Common.{ap₂, ◌∙◌, arith, ne_eqb}
use Rattle.std.proofs.Math.Bool.{not}
use Rattle.std.proofs.Math.Dec.{eqb}
use Rattle.def_effects.specs.Places.{no_span, eq_span}
use Rattle.lent_tables.specs.Words.{field}
use Rattle.def_transfer.specs.Pure.{Interned}
use Rattle.lent_layout.specs.declared.Numbered.{Numbered}
use Rattle.lent_layout.specs.Layout as Layout
use Rattle.lent_layout.specs.Context.{ContextWords}
use Rattle.lent_context.specs.Lent.{interned_count, instance_count, diagnostic_in}
use Rattle.base_tests.proofs.Laws.Choice.{ite_yes, ite_no}
use Rattle.base_tests.proofs.Laws.Bool.{or_neither}
use Rattle.refuse_class.specs.Class.{lower}
use Rattle.refuse_class.proofs.Laws.Class.{lower_none}
use Rattle.refuse_words.specs.Classes.{lowest_below, earns, word_class, stray_after, record_class}
use Rattle.refuse_words.proofs.Laws.Order.{Class, class_later, earns_class, word_class_is, record_class_is, lower_keeps, lowest_keeps, two_first, four_last}
use Rattle.refuse_tables.specs.TableClasses.{identifier_class, function_class, link_class, key_limit, key_lacks, key_class, no_key_class, diagnostic_limit, label_class, numbers_of, numbered_class, message_class}
use Rattle.refuse_repeats.specs.Repeats.{diagnostic_twice}
use Rattle.refuse_order.specs.Order.{order_class}
use Rattle.refuse_key_order.specs.KeyOrder.{key_order_class}
use Rattle.refuse_records.specs.Accepting.{too_many_captures, cached_class, handed_out, diagnostic_class, unused_from, interned_class, identifiers_class, functions_class, links_class, keys_class, diagnostics_class, effects_class, counts_wrong, tables_class, context_class}

-- ---- a class, and 4 where a record repeats another

-- what is refused already
first_wrong : (a x : ℕ) (b : Bool) → x ≡ a → (x ≡ 0 → ⊥) → Class a → x ≡ lower a (earns 4 b)
first_wrong a x b h n k = h ∙ four_last a b (λ e. n (h ∙ e)) k

-- what is not
first_right : (a x r : ℕ) (b t : Bool) → x ≡ a → x ≡ 0 → t ≡ b → r ≡ earns 4 t → r ≡ lower a (earns 4 b)
first_right a x r b t h z e g = g ∙ ap (earns 4) e ∙ lower_none a (earns 4 b) (sym h ∙ z)

-- ---- a diagnostic

-- the numbers of a record earn nothing, 3 or 4
numbered_class_is : (limit : ℕ → Option ℕ) (x : Interned) → Class (numbered_class limit x)
unfolding numbered_class
numbered_class_is limit x = lowest_keeps Class 9 (λ w. word_class (limit w) (get_or (numbers_of x) w 0)) (Class.nothing refl) (λ w. word_class_is (limit w) (get_or (numbers_of x) w 0))

-- a diagnostic's numbers earn nothing, 3 or 4
message_class_is : (identifiers : ℕ) (x : Interned) → Class (message_class identifiers x)
unfolding message_class label_class
message_class_is identifiers x =
    lower_keeps Class (numbered_class (diagnostic_limit identifiers x.diagnostic.case) x) (label_class x.diagnostic.case x.diagnostic.access.start x.diagnostic.access.end)
    (numbered_class_is (diagnostic_limit identifiers x.diagnostic.case) x)
    (earns_class 4 (eqb x.diagnostic.case 0 && not (eq_span (record { start = x.diagnostic.access.start; end = x.diagnostic.access.end }) no_span)) (omega arith) (omega arith))

module _ (identifiers : ℕ) (ds : List Numbered) (k : ℕ) (y : Interned) (x : ℕ) (e : y ≡ diagnostic_in ds k) (h : x ≡ message_class identifiers y) where
  -- a diagnostic that is refused by its numbers
  pub diagnostic_wrong : (x ≡ 0 → ⊥) → x ≡ diagnostic_class identifiers ds k
  unfolding diagnostic_class
  diagnostic_wrong n = first_wrong (message_class identifiers (diagnostic_in ds k)) x (diagnostic_twice ds k) (h ∙ ap (message_class identifiers) e) n (message_class_is identifiers (diagnostic_in ds k))

  -- a diagnostic that is not
  pub diagnostic_right : (r : ℕ) (t : Bool) → x ≡ 0 → t ≡ diagnostic_twice ds k → r ≡ earns 4 t → r ≡ diagnostic_class identifiers ds k
  unfolding diagnostic_class
  diagnostic_right r t z g q = first_right (message_class identifiers (diagnostic_in ds k)) x r (diagnostic_twice ds k) t (h ∙ ap (message_class identifiers) e) z g q

-- ---- a cached number

module _ (identifiers functions : ℕ) (c : List ℕ) (v : ℕ) where
  -- the words of a key earn nothing, 3 or 4
  key_class_is : Class (key_class identifiers functions c v)
  unfolding key_class
  key_class_is =
      lower_keeps Class (record_class Layout.cached c (key_limit identifiers functions (field Layout.cached c v 1) (field Layout.cached c v 11)) v) (earns 3 (key_lacks (field Layout.cached c v 1) (field Layout.cached c v 2) (field Layout.cached c v 4) (field Layout.cached c v 8)))
      (record_class_is Layout.cached c (key_limit identifiers functions (field Layout.cached c v 1) (field Layout.cached c v 11)) v)
      (earns_class 3 (key_lacks (field Layout.cached c v 1) (field Layout.cached c v 2) (field Layout.cached c v 4) (field Layout.cached c v 8)) (omega arith) (omega arith))

  -- a key, beside its count
  abbrev keyed : ℕ
  keyed = key_class identifiers functions c v

  module _ (x : ℕ) (many : Bool) (n : v ≡ 0 → ⊥) (f : x ≡ field Layout.cached c v 0) (z : x ≡ 0 → ⊥) (g : many ≡ too_many_captures c v) where
    -- a key is there
    present : (b : Bool) → many ≡ b → lower (earns 2 b) keyed ≡ cached_class identifiers functions c v
    unfolding cached_class
    present b h =
        ap (λ (t : Bool). lower (earns 2 t) keyed) (sym h ∙ g)
        ∙ sym (ite_no (eqb v 0 || eqb (field Layout.cached c v 0) 0) (no_key_class c v) (lower (earns 2 (too_many_captures c v)) keyed)
        (or_neither (eqb v 0) (eqb (field Layout.cached c v 0) 0) (ne_eqb v 0 n) (ne_eqb (field Layout.cached c v 0) 0 (λ e. z (f ∙ e)))))

    -- too many captures
    -- nothing else earns 1
    pub cached_many : many ≡ true → 2 ≡ cached_class identifiers functions c v
    cached_many l = two_first keyed (class_later keyed key_class_is) ∙ present true l

    -- not too many: the rest decides
    pub cached_counted : (y : ℕ) → many ≡ false → y ≡ key_class identifiers functions c v → y ≡ cached_class identifiers functions c v
    cached_counted y l h = h ∙ lower_none 0 keyed refl ∙ present false l

-- ---- the tables

-- identifiers
pub identifiers_are : (identifiers : ℕ) (c : ContextWords) (a b r : ℕ) → a ≡ lowest_below identifiers (identifier_class c.identifiers) → b ≡ stray_after Layout.identifiers c.identifiers identifiers → r ≡ lower a b → r ≡ identifiers_class identifiers c
unfolding identifiers_class
identifiers_are identifiers c a b r h g q = q ∙ ap₂ lower h g

-- functions
pub functions_are : (identifiers functions : ℕ) (c : ContextWords) (a b d l r : ℕ) → a ≡ lowest_below functions (function_class identifiers c.functions c.contexts) → b ≡ stray_after Layout.functions c.functions functions → d ≡ stray_after Layout.contexts c.contexts functions
    → l ≡ lower b d → r ≡ lower a l → r ≡ functions_class identifiers functions c
unfolding functions_class
functions_are identifiers functions c a b d l r h g k p q = q ∙ ap₂ lower h (p ∙ ap₂ lower g k)

-- links
pub links_are : (functions : ℕ) (c : ContextWords) (next n a b r : ℕ) → n ≡ handed_out next → a ≡ lowest_below n (link_class functions c.links) → b ≡ stray_after Layout.links c.links n → r ≡ lower a b → r ≡ links_class functions c next
unfolding links_class
links_are functions c next n a b r e h g q = q ∙ ap₂ lower h g ∙ ap (λ (x : ℕ). lower (lowest_below x (link_class functions c.links)) (stray_after Layout.links c.links x)) e

-- keys
pub keys_are : (identifiers functions : ℕ) (c : ContextWords) (next n a b o r s : ℕ) → n ≡ handed_out next → a ≡ lowest_below n (cached_class identifiers functions c.keys) → b ≡ stray_after Layout.cached c.keys n → o ≡ key_order_class c n → s ≡ lower b o → r ≡ lower a s → r ≡ keys_class identifiers functions c next
unfolding keys_class
keys_are identifiers functions c next n a b o r s e h g k p q =
    q ∙ ap₂ lower h (p ∙ ap₂ lower g k) ∙ ap (λ (x : ℕ). lower (lowest_below x (cached_class identifiers functions c.keys)) (lower (stray_after Layout.cached c.keys x) (key_order_class c x))) e

-- diagnostics
pub diagnostics_are : (identifiers : ℕ) (c : ContextWords) (a b r : ℕ) → a ≡ lowest_below (instance_count c) (diagnostic_class identifiers c.diagnostics) → b ≡ unused_from c.diagnostics (instance_count c) → r ≡ lower a b → r ≡ diagnostics_class identifiers c
unfolding diagnostics_class
diagnostics_are identifiers c a b r h g q = q ∙ ap₂ lower h g

-- interned effects, and their order
pub effects_are : (identifiers functions : ℕ) (c : ContextWords) (a b o r s : ℕ) → a ≡ lowest_below (interned_count c) (interned_class identifiers functions c) → b ≡ stray_after Layout.interned c.effects (interned_count c) → o ≡ order_class c → s ≡ lower b o → r ≡ lower a s → r ≡ effects_class identifiers functions c
unfolding effects_class
effects_are identifiers functions c a b o r s h g k p q = q ∙ ap₂ lower h (p ∙ ap₂ lower g k)

-- ---- the whole

-- the options and all tables
-- the lowest class of seven
pub tables_are : (identifiers : ℕ) (c : ContextWords) (next o a b d e f g l1 l2 l3 l4 l5 r : ℕ) → o ≡ word_class (Some 4) c.options → a ≡ identifiers_class identifiers c → b ≡ functions_class identifiers c.function_count c
    → d ≡ links_class c.function_count c next → e ≡ keys_class identifiers c.function_count c next → f ≡ diagnostics_class identifiers c → g ≡ effects_class identifiers c.function_count c
    → l1 ≡ lower f g → l2 ≡ lower e l1 → l3 ≡ lower d l2 → l4 ≡ lower b l3 → l5 ≡ lower a l4 → r ≡ lower o l5 → r ≡ tables_class identifiers c next
unfolding tables_class
tables_are identifiers c next o a b d e f g l1 l2 l3 l4 l5 r ho ha hb hd he hf hg h1 h2 h3 h4 h5 h =
    h ∙ ap₂ lower ho (h5 ∙ ap₂ lower ha (h4 ∙ ap₂ lower hb (h3 ∙ ap₂ lower hd (h2 ∙ ap₂ lower he (h1 ∙ ap₂ lower hf hg)))))

module _ (identifiers : ℕ) (c : ContextWords) (next : ℕ) (b : Bool) (h : b ≡ counts_wrong c) where
  -- a count is wrong
  pub context_counts : b ≡ true → 2 ≡ context_class identifiers c next
  unfolding context_class
  context_counts e = sym (ite_yes (counts_wrong c) 2 (tables_class identifiers c next) (sym h ∙ e))

  -- all counts are right
  pub context_tables : (r : ℕ) → b ≡ false → r ≡ tables_class identifiers c next → r ≡ context_class identifiers c next
  unfolding context_class
  context_tables r e g = g ∙ sym (ite_no (counts_wrong c) 2 (tables_class identifiers c next) (sym h ∙ e))
