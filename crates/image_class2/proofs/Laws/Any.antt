-- What the search of the sections finds is what `any_below` finds of their numbers. Assumes nothing.
use Rattle.std.specs.Prelude.{ℕ, List, zero, suc, ◌<◌, ◌≡◌, refl, Bool, true, false, length, get_or}
use Rattle.std.specs.Bool.{MatchBool}
use Rattle.std.specs.List.{AllWithin, HoldsAt}
use Rattle.std.proofs.Common.{arith, sym, ap, ◌∙◌}
use Rattle.base_tests.specs.Tests.{any_below}
use Rattle.base_tests.proofs.Laws.Below.{any_yes, any_no}
use Rattle.image_class2.specs.declared.Section.TheVariants.{Identifiers}
use Rattle.image_class2.specs.Sections.{number_of, sections}

-- what the search of a list answers that has n numbers, each at its place
searched : {A : Type 0} (v : A → ℕ) (d : A) (xs : List A) (n : ℕ) (f : ℕ → Bool) (r : Bool) → length xs ≡ n → ((k : ℕ) → k < n → v (get_or xs k d) ≡ k)
    → MatchBool r ((k : ℕ) × (k < length xs) × HoldsAt (λ x. f (v x) ≡ true) xs k) (AllWithin (λ x. f (v x) ≡ false) xs 0 (length xs)) → r ≡ any_below n f
searched v d xs n f true l e h = let lt : h.0 < n = (let m = h.1 in omega arith) in sym (any_yes n f h.0 lt (sym (ap f (e h.0 lt)) ∙ h.2 d))
searched v d xs n f false l e h = sym (any_no n f (λ k lt. sym (ap f (e k lt)) ∙ h k d (omega arith) (omega arith)))

section_at : (k : ℕ) → k < 6 → number_of (get_or sections k Identifiers) ≡ k
section_at zero h = refl
section_at (suc zero) h = refl
section_at (suc (suc zero)) h = refl
section_at (suc (suc (suc zero))) h = refl
section_at (suc (suc (suc (suc zero)))) h = refl
section_at (suc (suc (suc (suc (suc zero))))) h = refl
section_at (suc (suc (suc (suc (suc (suc k)))))) h = absurd (omega arith)

-- the six sections
pub any_section_is : (f : ℕ → Bool) (r : Bool) → MatchBool r ((k : ℕ) × (k < length sections) × HoldsAt (λ s. f (number_of s) ≡ true) sections k) (AllWithin (λ s. f (number_of s) ≡ false) sections 0 (length sections)) → r ≡ any_below 6 f
any_section_is f r h = searched number_of Identifiers sections 6 f r refl section_at h
