-- Laws by which the code of a context's tables meets the definitions. Assumes nothing.
use Rattle.std.specs.Prelude.{ℕ, suc, ◌+◌, ◌-◌, ◌*◌, ◌/◌, ◌%◌, ◌≤◌, ◌<◌, ◌≡◌, Bool, ◌&&◌, List, Option, Some}
use Rattle.std.proofs.Common.{arith, add-one, ap, ◌∙◌}
use Rattle.std.proofs.Math.Path.{sym, ap₂}
use Rattle.std.proofs.Math.Dec.{eqb}
use borrow.Author.Tests.{eq-eqb, ne_eqb}
use Rattle.base_tests.proofs.Laws.Bool.{and_true, and_false}
use Rattle.base_tests.specs.Tests.{ite}
use Rattle.def_effects.specs.declared.Span.{Span}
use Rattle.def_effects.specs.declared.Place.{Place}
use Rattle.def_effects.specs.Places as Places
use Rattle.lent_tables.specs.declared.Table.{Table}
use Rattle.lent_tables.specs.Words.{field, put_field, place_in}
use Rattle.lent_keys.specs.KeyRecords.{option_in, put_option}
use Rattle.lent_layout.specs.Layout as Layout
use Rattle.lent_layout.specs.Context.{ContextWords, with_links, with_contexts}
use Rattle.lent_context.specs.Lent.{link_of, put_link, has_tracked_side_effect, read_place, read_places, make_read, is_ref, is_hoisted, access_span, name_of}

-- ---- plain reads: the code widens a number, and reads a word

-- whether a function has a tracked side effect is a bit of its flags
-- the function's number is widened
pub tracked_is : (c : ContextWords) (f i x : ℕ) → i ≡ f → x ≡ field Layout.functions c.functions i 0 → eqb (x / 2 % 2) 1 ≡ has_tracked_side_effect c f
unfolding has_tracked_side_effect
tracked_is c f i x e g = ap (λ (y : ℕ). eqb (y / 2 % 2) 1) (g ∙ ap (λ (j : ℕ). field Layout.functions c.functions j 0) e)

-- whether an identifier is a ref is a bit of its flags
-- the identifier's number is widened
pub ref_is : (c : ContextWords) (f i x : ℕ) → i ≡ f → x ≡ field Layout.identifiers c.identifiers i 0 → eqb (x % 2) 1 ≡ is_ref c f
unfolding is_ref
ref_is c f i x e g = ap (λ (y : ℕ). eqb (y % 2) 1) (g ∙ ap (λ (j : ℕ). field Layout.identifiers c.identifiers j 0) e)

-- whether an identifier is hoisted is a bit of its flags
-- the identifier's number is widened
pub hoisted_is : (c : ContextWords) (f i x : ℕ) → i ≡ f → x ≡ field Layout.identifiers c.identifiers i 0 → eqb (x / 2 % 2) 1 ≡ is_hoisted c f
unfolding is_hoisted
hoisted_is c f i x e g = ap (λ (y : ℕ). eqb (y / 2 % 2) 1) (g ∙ ap (λ (j : ℕ). field Layout.identifiers c.identifiers j 0) e)

-- the name of an identifier is a word
-- the identifier's number is widened
pub name_is : (c : ContextWords) (f i x : ℕ) → i ≡ f → x ≡ field Layout.identifiers c.identifiers i 1 → x ≡ name_of c f
unfolding name_of
name_is c f i x e g = g ∙ ap (λ (j : ℕ). field Layout.identifiers c.identifiers j 1) e

-- the access span of an identifier is two words
-- the identifier's number is widened for each
pub access_is : (c : ContextWords) (f i x j y : ℕ) → i ≡ f → x ≡ field Layout.identifiers c.identifiers i 2 → j ≡ f → y ≡ field Layout.identifiers c.identifiers j 3 → ◌≡◌ {A = Span} (record { start = x; end = y }) (access_span c f)
unfolding access_span
access_is c f i x j y e g h k = ap₂ (λ (u v : ℕ). record { start = u; end = v }) (g ∙ ap (λ (n : ℕ). field Layout.identifiers c.identifiers n 2) e) (k ∙ ap (λ (n : ℕ). field Layout.identifiers c.identifiers n 3) h)

-- the function of a value is a number that may be absent
-- the value's number is widened
pub link_is : (c : ContextWords) (v i : ℕ) (o : Option ℕ) → i ≡ v → o ≡ option_in Layout.links c.links i 0 → o ≡ link_of c v
unfolding link_of
link_is c v i o e g = g ∙ ap (λ (j : ℕ). option_in Layout.links c.links j 0) e

-- a value gets a function
-- the value's number is widened
pub link_put : (c : ContextWords) (ls : List ℕ) (v f i : ℕ) → i ≡ v → ls ≡ put_option Layout.links c.links i 0 (Some f) → with_links ls c ≡ put_link c v f
unfolding put_link
link_put c ls v f i e g = ap (λ (l : List ℕ). with_links l c) (g ∙ ap (λ (j : ℕ). put_option Layout.links c.links j 0 (Some f)) e)

-- a word of a record of any table, and a place
-- the record's number is widened
module _ (t : Table) (c : List ℕ) (f w : ℕ) where
  -- a word at a place that the code writes out
  -- the record's number is widened
  pub count_is : (i x : ℕ) → i ≡ f → x ≡ field t c i w → x ≡ field t c f w
  count_is i x e g = g ∙ ap (λ (j : ℕ). field t c j w) e

  -- a word at a place that is five times a number
  pub word_is : (i v x : ℕ) → i ≡ f → v ≡ w → x ≡ field t c i (v * 5) → x ≡ field t c f (w * 5)
  word_is i v x e h g = g ∙ ap₂ (λ (j u : ℕ). field t c j (u * 5)) e h

  -- a place of a run
  -- the record's number is widened
  pub place_is : (p : Place) (i k : ℕ) → i ≡ f → p ≡ place_in t c i (w + k * 5) → p ≡ place_in t c f (w + k * 5)
  place_is p i k e g = g ∙ ap (λ (j : ℕ). place_in t c j (w + k * 5)) e

-- ---- Capture places made Read

module _ (f i k : ℕ) (c : List ℕ) (a w x : ℕ) (e : a ≡ f) (g : w ≡ k * 5) (h : x ≡ field Layout.contexts c a w) where
  -- the identifier of the place is the word that the code read
  here : field Layout.contexts c f (k * 5) ≡ x
  here = ap₂ (λ (u v : ℕ). field Layout.contexts c u v) (sym e) (sym g) ∙ sym h

  -- a place of another identifier stays
  pub read_other : (x ≡ i → ⊥) → c ≡ read_place f i k c
  unfolding read_place
  read_other n = sym (ap (λ (b : Bool). ite (b && eqb (field Layout.contexts c f (k * 5 + 1)) Places.Capture) (put_field Layout.contexts c f (k * 5 + 1) Places.Read) c) (ap (λ (y : ℕ). eqb y i) here ∙ ne_eqb x i n))

  module _ (s : x ≡ i) (y : ℕ) (q : y ≡ field Layout.contexts c a (w + 1)) where
    -- the place's effect is the word that the code read
    there : field Layout.contexts c f (k * 5 + 1) ≡ y
    there = ap₂ (λ (u v : ℕ). field Layout.contexts c u (v + 1)) (sym e) (sym g) ∙ sym q

    -- one that is no Capture stays
    pub read_kept : (y ≡ 3 → ⊥) → c ≡ read_place f i k c
    unfolding read_place
    read_kept n =
        sym (ap (λ (b : Bool). ite b (put_field Layout.contexts c f (k * 5 + 1) Places.Read) c)
        (and_false (eqb (field Layout.contexts c f (k * 5)) i) (eqb (field Layout.contexts c f (k * 5 + 1)) 3) (ap (λ (z : ℕ). eqb z 3) there ∙ ne_eqb y 3 n)))

    -- a Capture of the identifier is made Read
    pub read_made : y ≡ 3 → (d : List ℕ) → d ≡ put_field Layout.contexts c a (w + 1) 2 → d ≡ read_place f i k c
    unfolding read_place
    read_made n d p =
        p ∙ ap₂ (λ (u v : ℕ). put_field Layout.contexts c u (v + 1) 2) e g
        ∙ sym (ap (λ (b : Bool). ite b (put_field Layout.contexts c f (k * 5 + 1) Places.Read) c)
        (and_true (eqb (field Layout.contexts c f (k * 5)) i) (eqb (field Layout.contexts c f (k * 5 + 1)) 3) (ap (λ (z : ℕ). eqb z i) here ∙ eq-eqb x i s) (ap (λ (z : ℕ). eqb z 3) there ∙ eq-eqb y 3 n)))

-- one more place, as a loop counts
pub reads_more : (f i k n : ℕ) (c d : List ℕ) → k < n → d ≡ read_place f i k c → read_places f i k (n - k) c ≡ read_places f i (k + 1) (n - (k + 1)) d
unfolding read_places
reads_more f i k n c d h e =
    let m : n - k ≡ suc (n - (k + 1)) = omega arith in
    ap (λ (z : ℕ). read_places f i k z c) m ∙ ap₂ (λ (z : ℕ) (y : List ℕ). read_places f i z (n - (k + 1)) y) (sym (add-one k)) (sym e)

-- the last place is done
-- the loop's end is the whole
pub reads_none : (f i k n : ℕ) (c d : List ℕ) → n ≤ k → read_places f i 0 (n - 0) c ≡ read_places f i k (n - k) d → d ≡ read_places f i 0 n c
unfolding read_places
reads_none f i k n c d h g =
    let m : n - k ≡ 0 = omega arith in
    let a : n - 0 ≡ n = omega arith in
    sym (g ∙ ap (λ (z : ℕ). read_places f i k z d) m) ∙ ap (λ (z : ℕ). read_places f i 0 z c) a

-- all the context places of a function
pub reads_made : (f i n : ℕ) (c : ContextWords) (ps : List ℕ) → n ≡ field Layout.functions c.functions f 1 → ps ≡ read_places f i 0 n c.contexts → with_contexts ps c ≡ make_read c f i
unfolding make_read
reads_made f i n c ps e h = ap (λ (l : List ℕ). with_contexts l c) (h ∙ ap (λ (z : ℕ). read_places f i 0 z c.contexts) e)
