-- Laws by which the code of cached keys meets the definitions: a law for each way through a function. Assumes nothing.
use Rattle.std.specs.Prelude.{ℕ, ◌≡◌, Bool, ◌||◌, List}
use Rattle.std.proofs.Math.Path.{sym, ap, ap₂}
use Rattle.std.proofs.Common.{◌∙◌, ne_eqb}
use Rattle.std.proofs.Math.Dec.{eqb}
use Rattle.lent_tables.specs.Words.{field}
use Rattle.lent_layout.specs.Layout as Layout
use Rattle.base_tests.proofs.Laws.Bool.{or_second}
use Rattle.refuse_class.specs.Class.{lower}
use Rattle.refuse_words.specs.Classes.{earns, record_class}
use Rattle.refuse_tables.specs.TableClasses.{key_uses, key_limit, part_lacks, key_lacks, key_class}

-- ---- what a key lacks

module _ (code source destination function d : ℕ) (hd : d ≡ key_uses code 1) where
  module _ (n : d ≡ 0 → ⊥) (s : ℕ) (hs : s ≡ key_uses code 0) (a : Bool) (ha : a ≡ part_lacks s source) where
    -- the other tests decide
    cached : part_lacks (key_uses code 0) source || (eqb destination 0 || part_lacks (key_uses code 3) function) ≡ key_lacks code source destination function
    unfolding key_lacks
    cached = sym (or_second (eqb (key_uses code 1) 0) (part_lacks (key_uses code 0) source || (eqb destination 0 || part_lacks (key_uses code 3) function)) (ne_eqb (key_uses code 1) 0 (λ e. n (hd ∙ e))))

-- the class of a cached key by its words is that of its parts
pub key_is : (identifiers functions : ℕ) (c : List ℕ) (v code source destination function n ws ls r : ℕ) (k : Bool) → code ≡ field Layout.cached c v 1 → source ≡ field Layout.cached c v 2 → destination ≡ field Layout.cached c v 4
    → function ≡ field Layout.cached c v 8 → n ≡ field Layout.cached c v 11 → ws ≡ record_class Layout.cached c (key_limit identifiers functions code n) v
    → k ≡ key_lacks code source destination function → ls ≡ earns 3 k → r ≡ lower ws ls → r ≡ key_class identifiers functions c v
unfolding key_class
key_is identifiers functions c v code source destination function n ws ls r k hc hs hd hf hn hw hk hl hr =
    hr
    ∙ ap₂ lower (hw ∙ ap₂ (λ (x y : ℕ). record_class Layout.cached c (key_limit identifiers functions x y) v) hc hn)
    (hl ∙ ap (earns 3) (hk ∙ ap₂ (λ (x y : ℕ). key_lacks x y destination function) hc hs ∙ ap₂ (key_lacks (field Layout.cached c v 1) (field Layout.cached c v 2)) hd hf))
