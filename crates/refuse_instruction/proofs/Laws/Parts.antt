-- The first 18 words of an effect's record, part by part, are all of them. Assumes nothing.
use Rattle.std.specs.Prelude.{ℕ, ◌+◌, ◌≡◌, List, Option, Some}
use Rattle.std.proofs.Math.Path.{refl, sym, ap, ap₂}
use Rattle.std.proofs.Common.{◌∙◌}
use Rattle.lent_tables.specs.declared.Table.{Table}
use Rattle.lent_tables.specs.Words.{field}
use Rattle.refuse_class.specs.Class.{lower}
use Rattle.refuse_class.proofs.Laws.Class.{lower_none}
use Rattle.refuse_words.specs.Classes.{lowest_below, word_class, used_if, place_limit, words_below}
use Rattle.refuse_instruction.specs.EffectClasses.{uses, middle_limit, effect_limit}
use Rattle.refuse_instruction.specs.Parts.{place_word, middle_word}
use Rattle.refuse_instruction.proofs.Laws.Split.{lower_assoc, lowest_split}

-- ---- the lowest of five, and of seven

pub lowest_five : (f : ℕ → ℕ) (a b c d e x y z r : ℕ) → a ≡ f 0 → b ≡ f 1 → c ≡ f 2 → d ≡ f 3 → e ≡ f 4 → x ≡ lower d e → y ≡ lower c x → z ≡ lower b y → r ≡ lower a z → r ≡ lowest_below 5 f
unfolding lowest_below
lowest_five f a b c d e x y z r ha hb hc hd he hx hy hz hr =
    hr ∙ ap (lower a) (hz ∙ ap (lower b) (hy ∙ ap (lower c) hx))
    ∙ sym (lower_assoc a b (lower c (lower d e))) ∙ sym (lower_assoc (lower a b) c (lower d e)) ∙ sym (lower_assoc (lower (lower a b) c) d e)
    ∙ ap (λ (m : ℕ). lower (lower (lower (lower m b) c) d) e) (lower_none 0 a refl)
    ∙ (λ j. lower (lower (lower (lower (lower 0 (ha j)) (hb j)) (hc j)) (hd j)) (he j))

pub lowest_seven : (f : ℕ → ℕ) (a b c d e g h v w x y z r : ℕ) → a ≡ f 0 → b ≡ f 1 → c ≡ f 2 → d ≡ f 3 → e ≡ f 4 → g ≡ f 5 → h ≡ f 6
    → v ≡ lower g h → w ≡ lower e v → x ≡ lower d w → y ≡ lower c x → z ≡ lower b y → r ≡ lower a z → r ≡ lowest_below 7 f
unfolding lowest_below
lowest_seven f a b c d e g h v w x y z r ha hb hc hd he hg hh hv hw hx hy hz hr =
    hr ∙ ap (lower a) (hz ∙ ap (lower b) (hy ∙ ap (lower c) (hx ∙ ap (lower d) (hw ∙ ap (lower e) hv))))
    ∙ sym (lower_assoc a b (lower c (lower d (lower e (lower g h))))) ∙ sym (lower_assoc (lower a b) c (lower d (lower e (lower g h)))) ∙ sym (lower_assoc (lower (lower a b) c) d (lower e (lower g h)))
    ∙ sym (lower_assoc (lower (lower (lower a b) c) d) e (lower g h)) ∙ sym (lower_assoc (lower (lower (lower (lower a b) c) d) e) g h)
    ∙ ap (λ (m : ℕ). lower (lower (lower (lower (lower (lower m b) c) d) e) g) h) (lower_none 0 a refl)
    ∙ (λ j. lower (lower (lower (lower (lower (lower (lower 0 (ha j)) (hb j)) (hc j)) (hd j)) (he j)) (hg j)) (hh j))

-- ---- a word

-- of a place
pub word_of_place : (t : Table) (xs : List ℕ) (i first u identifiers k x y v : ℕ) (p l : Option ℕ) → p ≡ place_limit identifiers k → l ≡ used_if u p → v ≡ first + k → y ≡ field t xs i v → x ≡ word_class l y → x ≡ place_word t xs i first u identifiers k
unfolding place_word
word_of_place t xs i first u identifiers k x y v p l hp hl hv hy hx = hx ∙ ap₂ word_class (hl ∙ ap (used_if u) hp) (hy ∙ ap (field t xs i) hv)

-- of those after the places
pub word_of_middle : (t : Table) (xs : List ℕ) (i functions diagnostics code k x y : ℕ) (l : Option ℕ) → l ≡ middle_limit functions diagnostics code k → y ≡ field t xs i (11 + k) → x ≡ word_class l y → x ≡ middle_word t xs i functions diagnostics code k
unfolding middle_word
word_of_middle t xs i functions diagnostics code k x y l hl hy hx = hx ∙ ap₂ word_class hl hy

-- ---- all of them

-- tests that agree on five numbers, and on seven
five_same : (f g : ℕ → ℕ) → f 0 ≡ g 0 → f 1 ≡ g 1 → f 2 ≡ g 2 → f 3 ≡ g 3 → f 4 ≡ g 4 → lowest_below 5 f ≡ lowest_below 5 g
unfolding lowest_below
five_same f g a b c d e = λ j. lower (lower (lower (lower (lower 0 (a j)) (b j)) (c j)) (d j)) (e j)

seven_same : (f g : ℕ → ℕ) → f 0 ≡ g 0 → f 1 ≡ g 1 → f 2 ≡ g 2 → f 3 ≡ g 3 → f 4 ≡ g 4 → f 5 ≡ g 5 → f 6 ≡ g 6 → lowest_below 7 f ≡ lowest_below 7 g
unfolding lowest_below
seven_same f g a b c d e x y = λ j. lower (lower (lower (lower (lower (lower (lower 0 (a j)) (b j)) (c j)) (d j)) (e j)) (x j)) (y j)

one_word : (f : ℕ → ℕ) → f 0 ≡ lowest_below 1 f
unfolding lowest_below
one_word f = lower_none 0 (f 0) refl

module _ (t : Table) (xs : List ℕ) (i identifiers functions diagnostics code n : ℕ) where
  -- the class of word w
  abbrev each : ℕ → ℕ
  each w = word_class (effect_limit identifiers functions diagnostics code n w) (field t xs i w)

  tag_part : word_class (Some 18) (field t xs i 0) ≡ lowest_below 1 each
  unfolding effect_limit
  tag_part = one_word each

  first_part : lowest_below 5 (place_word t xs i 1 (uses code 0) identifiers) ≡ lowest_below 5 (λ k. each (1 + k))
  unfolding effect_limit place_word
  first_part = five_same _ _ refl refl refl refl refl

  second_part : lowest_below 5 (place_word t xs i 6 (uses code 1) identifiers) ≡ lowest_below 5 (λ k. each (1 + (5 + k)))
  unfolding effect_limit place_word
  second_part = five_same _ _ refl refl refl refl refl

  middle_part : lowest_below 7 (middle_word t xs i functions diagnostics code) ≡ lowest_below 7 (λ k. each (1 + (5 + (5 + k))))
  unfolding effect_limit middle_word
  middle_part = seven_same _ _ refl refl refl refl refl refl refl

  pub head_is : (a tag u first v second rest x y r : ℕ) → a ≡ field t xs i 0 → tag ≡ word_class (Some 18) a → u ≡ uses code 0 → first ≡ lowest_below 5 (place_word t xs i 1 u identifiers)
      → v ≡ uses code 1 → second ≡ lowest_below 5 (place_word t xs i 6 v identifiers) → rest ≡ lowest_below 7 (middle_word t xs i functions diagnostics code) → x ≡ lower second rest → y ≡ lower first x → r ≡ lower tag y
      → r ≡ words_below t xs (effect_limit identifiers functions diagnostics code n) i 18
  unfolding words_below
  head_is a tag u first v second rest x y r ha ht hu hf hv hs hm hx hy hr =
      hr
      ∙ ap₂ lower (ht ∙ ap (word_class (Some 18)) ha ∙ tag_part)
      (hy
      ∙ ap₂ lower (hf ∙ ap (λ (z : ℕ). lowest_below 5 (place_word t xs i 1 z identifiers)) hu ∙ first_part)
      (hx ∙ ap₂ lower (hs ∙ ap (λ (z : ℕ). lowest_below 5 (place_word t xs i 6 z identifiers)) hv ∙ second_part) (hm ∙ middle_part)
      ∙ sym (lowest_split (λ k. each (1 + (5 + k))) 5 7))
      ∙ sym (lowest_split (λ k. each (1 + k)) 5 12))
      ∙ sym (lowest_split each 1 17)
