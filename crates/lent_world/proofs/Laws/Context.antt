-- What each of the five changes of a context leaves of cached keys, links and context places.
-- Each change writes into slices of its own, so the others are as they were. Assumes nothing.
use Rattle.std.specs.Prelude.{ℕ, zero, suc, ◌+◌, ◌*◌, ◌≤◌, ◌<◌, ◌≡◌, refl, ◌⊎◌, List, ◌∷◌, eqb, length, None, Some}
use Rattle.std.proofs.Common.{sym, ap, ap₂, ◌∙◌, inl, inr, ⊎_elim, arith}
use Rattle.base_tests.specs.Tests.{ite}
use Rattle.base_tests.proofs.Laws.Order.{lt_or_ge, same_or_not}
use Rattle.def_effects.specs.Places.{identifiers}
use Rattle.def_effects.specs.Effects.{AliasingEffect}
use Rattle.def_effects.specs.Keys.{EffectKey}
use Rattle.def_transfer.specs.Diagnostics.{Diagnostic}
use Rattle.def_transfer.specs.Lawful.{SameLinks}
use Rattle.lent_tables.specs.declared.Table.{Table}
use Rattle.lent_tables.specs.Words.{index, field, put_field, place_in, places_in}
use Rattle.lent_tables.proofs.Laws.Word.{put_length, put_out, put_same, put_other, within_yes, within_no_record}
use Rattle.lent_keys.specs.KeyRecords.{option_in, put_option}
use Rattle.lent_keys.specs.KeyRecords as Keys
use Rattle.lent_layout.specs.Layout as Layout
use Rattle.lent_layout.specs.Context.{ContextWords}
use Rattle.lent_context.specs.Lent.{added_at, add_effect, key_at, cached_at, put_key, link_of, put_link, context_of, make_read, add_diagnostic}
use Rattle.lent_world.specs.World.{lent}
use Rattle.lent_keys.proofs.Laws.KeyFrames.{option_cong, key_cong, key_record, option_record}
use Rattle.lent_context.proofs.Laws.ReadMade.{read_keeps}

-- ---- interned effects and diagnostics

-- an effect added leads nowhere new
pub effect_same : (c : ContextWords) (e : AliasingEffect) → SameLinks lent c (add_effect c e)
unfolding key_at link_of context_of add_effect added_at
effect_same c e = record { keys = λ n k p. p; links = λ v f p. p; contexts = λ f. refl }

-- nor does a diagnostic
pub diagnostic_same : (c : ContextWords) (n : ℕ) (d : Diagnostic) → SameLinks lent c (add_diagnostic c n d)
unfolding key_at link_of context_of add_diagnostic
diagnostic_same c n d = record { keys = λ m k p. p; links = λ v f p. p; contexts = λ f. refl }

-- ---- context places made Read

-- they leave the identifier of every place
-- it is the first of a place's five words, and the second is written
read_identifier : (c : ContextWords) (f i g k : ℕ) → field Layout.contexts (make_read c f i).contexts g (0 + k * 5) ≡ field Layout.contexts c.contexts g (0 + k * 5)
read_identifier c f i g k =
    read_keeps f i (λ (d : List ℕ). field Layout.contexts d g (0 + k * 5) ≡ field Layout.contexts c.contexts g (0 + k * 5))
    (λ d m x h. put_other Layout.contexts d f (m * 5 + 1) x g (0 + k * 5) (λ e. let z : m * 5 + 1 ≡ 0 + k * 5 = e.1 in omega arith) ∙ h) c refl

-- places with the same identifiers in their words have the same identifiers
run_identifiers : (t : Table) (c d : List ℕ) (i w k n : ℕ) → ((m : ℕ) → field t d i (w + m * 5) ≡ field t c i (w + m * 5)) → identifiers (places_in t d i w k n) ≡ identifiers (places_in t c i w k n)
unfolding places_in place_in
run_identifiers t c d i w k zero h = refl
run_identifiers t c d i w k (suc n) h = ap₂ (λ (x : ℕ) (xs : List ℕ). x ∷ xs) (h k) (run_identifiers t c d i w (suc k) n h)

-- context places made Read lead nowhere new: each function keeps the identifiers of its own
-- their count stands with the function, which is not written
pub read_same : (c : ContextWords) (f i : ℕ) → SameLinks lent c (make_read c f i)
unfolding key_at link_of context_of make_read
read_same c f i = record {
  keys = λ n k p. p;
  links = λ v g p. p;
  contexts = λ g. run_identifiers Layout.contexts c.contexts (make_read c f i).contexts g 0 0 (field Layout.functions c.functions g 1) (read_identifier c f i g);
}

-- ---- cached numbers

-- a key written leaves the other keys
pub key_put : (c : ContextWords) (n m : ℕ) (k j : EffectKey) → key_at (put_key c n k) m ≡ Some j → (n ≡ m) ⊎ (key_at c m ≡ Some j)
unfolding key_at put_key cached_at
key_put c n m k j e =
    ⊎_elim inl (λ d. inr (sym (key_cong Layout.cached c.keys (Keys.put_key Layout.cached c.keys n k) m (λ v. key_record Layout.cached c.keys n k m v d)) ∙ e)) (same_or_not n m)

-- and it leaves the links
pub key_links : (c : ContextWords) (n : ℕ) (k : EffectKey) (v f : ℕ) → link_of (put_key c n k) v ≡ Some f → link_of c v ≡ Some f
unfolding link_of put_key cached_at
key_links c n k v f e = e

-- and the context places
pub key_contexts : (c : ContextWords) (n : ℕ) (k : EffectKey) (g : ℕ) → identifiers (context_of (put_key c n k) g) ≡ identifiers (context_of c g)
unfolding context_of put_key cached_at
key_contexts c n k g = refl

-- ---- function links

-- a link written leaves the keys
pub link_keys : (c : ContextWords) (v f n : ℕ) (k : EffectKey) → key_at (put_link c v f) n ≡ Some k → key_at c n ≡ Some k
unfolding key_at put_link
link_keys c v f n k e = e

-- and the context places
pub link_contexts : (c : ContextWords) (v f g : ℕ) → identifiers (context_of (put_link c v f) g) ≡ identifiers (context_of c g)
unfolding context_of put_link
link_contexts c v f g = refl

-- a link written leaves the other links
link_other : (c : ContextWords) (v f x : ℕ) → (v ≡ x → ⊥) → link_of (put_link c v f) x ≡ link_of c x
unfolding link_of put_link
link_other c v f x d = option_cong Layout.links c.links (put_option Layout.links c.links v 0 (Some f)) x 0 (λ w. option_record Layout.links c.links v 0 (Some f) x w d)

-- past the table nothing is written
-- there are 512 fresh numbers
link_past : (ls : List ℕ) (v f : ℕ) → 512 ≤ v → put_option Layout.links ls v 0 (Some f) ≡ ls
unfolding put_option
link_past ls v f h =
    put_out Layout.links (put_field Layout.links ls v 0 1) v 1 f (within_no_record Layout.links v 1 h)
    ∙ put_out Layout.links ls v 0 1 (within_no_record Layout.links v 0 h)

-- what was written is read, where the slice holds the whole table
-- one that ends between the two words of a link would take the first and not the second
link_same : (ls : List ℕ) (v f : ℕ) → v < 512 → 1024 ≤ length ls → option_in Layout.links (put_option Layout.links ls v 0 (Some f)) v 0 ≡ Some f
unfolding put_option option_in index
link_same ls v f h l =
    let d : List ℕ = put_field Layout.links ls v 0 1 in
    let n : length d ≡ length ls = put_length Layout.links ls v 0 1 in
    let p : field Layout.links (put_field Layout.links d v 1 f) v 0 ≡ 1 =
    put_other Layout.links d v 1 f v 0 (λ e. let z : ◌≡◌ {A = ℕ} 1 0 = e.1 in omega arith)
    ∙ put_same Layout.links ls v 0 1 (within_yes Layout.links v 0 h (omega arith)) (omega arith) in
    let q : field Layout.links (put_field Layout.links d v 1 f) v 1 ≡ f =
    put_same Layout.links d v 1 f (within_yes Layout.links v 1 h (omega arith)) (omega arith) in
    ap₂ (λ (x y : ℕ). ite (eqb x 0) None (Some y)) p q

-- what a link leads to after one is written: the function of that, or what it led to before
pub link_put : (c : ContextWords) (v f x g : ℕ) → 1024 ≤ length c.links → link_of (put_link c v f) x ≡ Some g → (f ≡ g) ⊎ (link_of c x ≡ Some g)
unfolding link_of put_link
link_put c v f x g l e = ⊎_elim same (λ d. inr (sym (link_other c v f x d) ∙ e)) (same_or_not v x)
  where
    some_eq : (a b : ℕ) → Some a ≡ Some b → a ≡ b
    some_eq a b e = cc

    same : v ≡ x → (f ≡ g) ⊎ (option_in Layout.links c.links x 0 ≡ Some g)
    same p = ⊎_elim
        (λ h. inl (some_eq f g (sym (link_same c.links v f h l) ∙ ap (λ (y : ℕ). option_in Layout.links (put_option Layout.links c.links v 0 (Some f)) y 0) p ∙ e)))
        (λ h. inr (ap (λ (d : List ℕ). option_in Layout.links d x 0) (sym (link_past c.links v f h)) ∙ e))
        (lt_or_ge v 512)
