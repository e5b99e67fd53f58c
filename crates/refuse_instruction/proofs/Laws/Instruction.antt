-- Laws by which the class of an effect and of an instruction come from their parts. Assumes nothing.
use Rattle.std.specs.Prelude.{ℕ, ◌≤◌, ◌<◌, ◌≡◌, Bool, true, false, ◌&&◌, ◌||◌, List, eqb, leb}
use Rattle.std.proofs.Math.Path.{refl, sym, ap, ap₂}
use Rattle.std.proofs.Common.{◌∙◌, arith, lt-ltb, le-ltb}
use Rattle.std.proofs.Math.Bool.{not}
use Rattle.std.proofs.Math.Dec.{ltb}
use Rattle.base_tests.specs.Tests.{ite}
use Rattle.base_tests.proofs.Laws.Choice.{ite_eq, ite_ne}
use Rattle.def_effects.specs.declared.Place.{Place}
use Rattle.lent_tables.specs.declared.Table.{Table}
use Rattle.lent_tables.specs.Words.{field}
use Rattle.lent_layout.specs.Context.{ContextWords}
use Rattle.lent_context.specs.Lent.{instance_count, diagnostic_in}
use Rattle.refuse_class.specs.Class.{lower}
use Rattle.refuse_class.proofs.Laws.Class.{lower_none}
use Rattle.base_tests.proofs.Laws.Bool.{or_first, or_second}
use Rattle.refuse_words.specs.Classes.{lowest_below, earns, record_class}
use Rattle.refuse_words.proofs.Laws.Order.{Class, Later, class_later, earns_class, record_class_is, lower_keeps, lowest_keeps, two_first}
use Rattle.refuse_instruction.specs.EffectClasses.{uses, effect_limit, count_class, numbers_class, effect_class, place_class, instruction_class}
use Rattle.lent_layout.specs.Layout.{candidate_table}

-- ---- an effect

module _ (identifiers functions : ℕ) (c : ContextWords) (apply : ℕ) (t : Table) (xs : List ℕ) (i : ℕ) where
  -- the class of an effect that is no Apply
  abbrev parts : ℕ
  parts =
      lower (count_class (field t xs i 0) (field t xs i 17))
      (lower (record_class t xs (effect_limit identifiers functions (instance_count c) (field t xs i 0) (field t xs i 17)) i)
      (numbers_class c (field t xs i 0) (field t xs i 15) (field t xs i 16)))

  -- an Apply
  pub effect_apply : (code : ℕ) → code ≡ field t xs i 0 → code ≡ 12 → apply ≡ effect_class identifiers functions c apply t xs i
  unfolding effect_class
  effect_apply code h e = sym (ite_eq (field t xs i 0) 12 apply parts (sym h ∙ e))

  -- any other effect
  pub effect_other : (code n d ws x y ns cs l r : ℕ) → code ≡ field t xs i 0 → (code ≡ 12 → ⊥) → n ≡ field t xs i 17 → d ≡ instance_count c
      → ws ≡ record_class t xs (effect_limit identifiers functions d code n) i → x ≡ field t xs i 15 → y ≡ field t xs i 16 → ns ≡ numbers_class c code x y → cs ≡ count_class code n
      → l ≡ lower ws ns → r ≡ lower cs l → r ≡ effect_class identifiers functions c apply t xs i
  unfolding effect_class
  effect_other code n d ws x y ns cs l r hc z hn hd hw hx hy hs ht hl hr =
      hr ∙ ap₂ lower (ht ∙ ap₂ count_class hc hn) (hl ∙ ap₂ lower (hw ∙ same) (hs ∙ ap₂ (numbers_class c code) hx hy ∙ ap (λ (k : ℕ). numbers_class c k (field t xs i 15) (field t xs i 16)) hc))
      ∙ sym (ite_ne (field t xs i 0) 12 apply parts (λ e. z (hc ∙ e)))
    where
      -- the words of the record, by the numbers that the code has read
      same : record_class t xs (effect_limit identifiers functions d code n) i ≡ record_class t xs (effect_limit identifiers functions (instance_count c) (field t xs i 0) (field t xs i 17)) i
      same = ap (λ (m : ℕ). record_class t xs (effect_limit identifiers functions m code n) i) hd ∙ ap₂ (λ (a b : ℕ). record_class t xs (effect_limit identifiers functions (instance_count c) a b) i) hc hn

  -- the parts of an effect earn nothing, or 2 to 4
  parts_class : Class parts
  unfolding count_class numbers_class
  parts_class =
      lower_keeps Class (count_class (field t xs i 0) (field t xs i 17)) _
      (earns_class 2 (eqb (uses (field t xs i 0) 7) 1 && ltb 16 (field t xs i 17)) (omega arith) (omega arith))
      (lower_keeps Class (record_class t xs (effect_limit identifiers functions (instance_count c) (field t xs i 0) (field t xs i 17)) i) _
      (record_class_is t xs (effect_limit identifiers functions (instance_count c) (field t xs i 0) (field t xs i 17)) i)
      (earns_class 3 (eqb (uses (field t xs i 0) 6) 1 && not (eqb (field t xs i 15) (diagnostic_in c.diagnostics (field t xs i 16)).identity)) (omega arith) (omega arith)))

  -- an effect earns what an Apply does, or what its parts do
  chosen : (P : ℕ → Type 0) → P apply → P parts → (b : Bool) → P (ite b apply parts)
  chosen P p q true = p
  chosen P p q false = q

  -- an effect earns nothing, or 2 to 4, where an Apply does
  pub effect_class_is : Class apply → Class (effect_class identifiers functions c apply t xs i)
  unfolding effect_class
  effect_class_is a = chosen Class a parts_class (eqb (field t xs i 0) 12)

  -- an effect earns nothing, or 2 or more, where an Apply does
  pub effect_later : Later apply → Later (effect_class identifiers functions c apply t xs i)
  unfolding effect_class
  effect_later a = chosen Later a (class_later parts parts_class) (eqb (field t xs i 0) 12)

-- ---- a place by value, and the own function

module _ (identifiers : ℕ) (p : Place) where
  -- the identifier is past the last
  pub place_identifier_is : identifiers ≤ p.identifier → 3 ≡ place_class identifiers p
  unfolding place_class
  place_identifier_is l =
      sym (ap (earns 3) (or_first (not (ltb p.identifier identifiers)) (not (ltb p.effect 8) || not (ltb p.reactive 2)) (ap not (le-ltb p.identifier identifiers l))))

  module _ (k : p.identifier < identifiers) where
    -- the other two words decide
    rest : earns 3 (not (ltb p.effect 8) || not (ltb p.reactive 2)) ≡ place_class identifiers p
    unfolding place_class
    rest = sym (ap (earns 3) (or_second (not (ltb p.identifier identifiers)) (not (ltb p.effect 8) || not (ltb p.reactive 2)) (ap not (lt-ltb p.identifier identifiers k))))

    -- the effect is past the last
    pub place_effect_is : 8 ≤ p.effect → 3 ≡ place_class identifiers p
    place_effect_is l = sym (ap (earns 3) (or_first (not (ltb p.effect 8)) (not (ltb p.reactive 2)) (ap not (le-ltb p.effect 8 l)))) ∙ rest

    module _ (j : p.effect < 8) where
      -- reactive is neither 0 nor 1
      pub place_reactive_is : 2 ≤ p.reactive → 3 ≡ place_class identifiers p
      place_reactive_is l =
          sym (ap (earns 3) (or_second (not (ltb p.effect 8)) (not (ltb p.reactive 2)) (ap not (lt-ltb p.effect 8 j)) ∙ ap not (le-ltb p.reactive 2 l))) ∙ rest

  -- a place earns nothing or 3
  pub place_class_is : Class (place_class identifiers p)
  unfolding place_class
  place_class_is = earns_class 3 (not (ltb p.identifier identifiers) || (not (ltb p.effect 8) || not (ltb p.reactive 2))) (omega arith) (omega arith)

-- ---- the instruction

module _ (identifiers functions : ℕ) (c : ContextWords) (xs : List ℕ) (count : ℕ) (lvalue : Place) (own : ℕ) where
  -- what an instruction earns beside its count
  abbrev beside : ℕ
  beside = lower (lowest_below count (effect_class identifiers functions c 5 candidate_table xs)) (lower (place_class identifiers lvalue) (earns 3 (not (leb own functions))))

  -- too many candidates
  -- the first way through the code: nothing else earns 1
  pub instruction_many : 64 < count → 2 ≡ instruction_class identifiers functions c xs count lvalue own
  unfolding instruction_class
  instruction_many l =
      two_first beside
      (lower_keeps Later (lowest_below count (effect_class identifiers functions c 5 candidate_table xs)) _
      (lowest_keeps Later count (effect_class identifiers functions c 5 candidate_table xs) (Later.nothing refl) (λ k. effect_later identifiers functions c 5 candidate_table xs k (Later.something (omega arith))))
      (lower_keeps Later (place_class identifiers lvalue) (earns 3 (not (leb own functions))) (class_later (place_class identifiers lvalue) (place_class_is identifiers lvalue)) (class_later (earns 3 (not (leb own functions))) (earns_class 3 (not (leb own functions)) (omega arith) (omega arith)))))
      ∙ sym (ap (λ (b : Bool). lower (earns 2 b) beside) (lt-ltb 64 count l))

  -- no more than 64
  pub instruction_rest : (m a b d e r : ℕ) → count ≤ 64 → m ≡ count → a ≡ lowest_below m (effect_class identifiers functions c 5 candidate_table xs) → b ≡ place_class identifiers lvalue
      → d ≡ earns 3 (not (leb own functions)) → e ≡ lower b d → r ≡ lower a e → r ≡ instruction_class identifiers functions c xs count lvalue own
  unfolding instruction_class
  instruction_rest m a b d e r l hm ha hb hd he hr =
      hr ∙ ap₂ lower (ha ∙ ap (λ (k : ℕ). lowest_below k (effect_class identifiers functions c 5 candidate_table xs)) hm) (he ∙ ap₂ lower hb hd)
      ∙ lower_none 0 beside refl
      ∙ sym (ap (λ (b : Bool). lower (earns 2 b) beside) (le-ltb 64 count l))
