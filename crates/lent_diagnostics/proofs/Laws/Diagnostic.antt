-- Laws by which the code of diagnostics meets the definitions. Assumes nothing.
use Rattle.std.specs.Prelude.{ℕ, zero, suc, max, map, ◌+◌, ◌-◌, ◌≤◌, ◌<◌, ◌≡◌, refl, Bool, ◌&&◌, eqb, Option, None, Some}
use Rattle.std.specs.List.{range_with_len, fold, reduce}
use Rattle.std.specs.Option.{MatchOption, IsSomeAnd, option_map, unwrap_or}
use Rattle.std.proofs.lemmas.Iterator.Adapters.{option_map_id}
use native.Mathlib.Omega.{arith}
use Rattle.std.proofs.Common.{add-one, ◌∙◌}
use Rattle.std.proofs.Math.Path.{sym, ap}
use Rattle.std.proofs.Math.Bool.{true, false}
use mathlib.Core.List.{List}
use Rattle.def_effects.specs.declared.Diagnostic.{Diagnostic}
use Rattle.def_transfer.specs.Diagnostics.{same_identity, same_labels}
use Rattle.def_transfer.specs.Pure.{Interned, identities, find_identity as first_identity, find_instance as first_instance}
use Rattle.lent_layout.specs.declared.Numbered.{Numbered}
use Rattle.lent_context.specs.Lent.{diagnostic_in, diagnostics_in}

-- whether a record is the instance
-- the definition's test
abbrev pub is_instance : ℕ → Diagnostic → Interned → Bool
is_instance i d x = eqb i x.identity && same_labels d x.diagnostic

-- ---- how many identities there are

-- the larger of three numbers, from the left as from the right
larger_three : (a b c : ℕ) → max (max a (b + 1)) c ≡ max a (max (suc b) c)
larger_three a b c = omega arith

module _ (c : List Numbered) where
  -- one more than the identity of record k
  abbrev pub above : ℕ → ℕ
  above k = (diagnostic_in c k).identity + 1

  -- the highest of n records from k on, or a number before them
  -- the definition counts from the right, the code from the left
  highest_from : (n k m : ℕ) → fold max m (map above (range_with_len k n)) ≡ max m (identities (diagnostics_in c k n))
  unfolding identities diagnostics_in
  highest_from zero k m = omega arith
  highest_from (suc n) k m =
      highest_from n (k + 1) (max m (above k))
      ∙ ap (λ (j : ℕ). max (max m (above k)) (identities (diagnostics_in c j n))) (add-one k)
      ∙ larger_three m (diagnostic_in c k).identity (identities (diagnostics_in c (suc k) n))

  -- the highest of n records
  pub identities_are : (n : ℕ) → unwrap_or (reduce max (map above (range_with_len 0 n))) 0 ≡ identities (diagnostics_in c 0 n)
  unfolding identities diagnostics_in
  identities_are zero = refl
  identities_are (suc n) =
      highest_from n 1 (above 0)
      ∙ ap (λ (z : ℕ). max z (identities (diagnostics_in c 1 n))) (add-one (diagnostic_in c 0).identity)

-- ---- the two searches

-- a search of the records from k on, of which n are left: a test, and what is made of the place of the first that passes
module _ (test : ℕ → Bool) (a : ℕ → ℕ) (search : ℕ → ℕ → Option ℕ) (none : (k : ℕ) → search k 0 ≡ None)
    (next : (k n : ℕ) → search k (suc n) ≡ elim (test k) as (λ b. Option ℕ) [ true ↦ Some (a k) | false ↦ search (suc k) n ]) where
  -- the first k do not pass
  passed : (n k : ℕ) → k ≤ n → ((j : ℕ) → 0 ≤ j → j < k → test j ≡ false) → search 0 n ≡ search k (n - k)
  passed n zero l h = let m : n ≡ n - 0 = omega arith in ap (search 0) m
  passed n (suc k) l h =
      let m : n - k ≡ suc (n - suc k) = omega arith in
      passed n k (omega arith) (λ j z b. h j z (omega arith))
      ∙ ap (search k) m
      ∙ next k (n - suc k)
      ∙ ap (λ (b : Bool). elim b as (λ x. Option ℕ) [ true ↦ Some (a k) | false ↦ search (suc k) (n - suc k) ]) (h k (omega arith) (omega arith))

  -- what the search of the numbers below n finds
  searched : (n : ℕ) (r : Option ℕ) → MatchOption r ((k : ℕ) → 0 ≤ k → k < n → test k ≡ false) (λ i. (0 ≤ i) × (i < n) × (test i ≡ true) × ((k : ℕ) → 0 ≤ k → k < i → test k ≡ false)) → option_map a r ≡ search 0 n
  searched n None h = let m : n - n ≡ 0 = omega arith in sym (passed n n (omega arith) h ∙ ap (search n) m ∙ none n)
  searched n (Some i) h =
      let m : n - i ≡ suc (n - suc i) = omega (arith, h.1) in
      sym (passed n i (omega (arith, h.1)) h.3
      ∙ ap (search i) m
      ∙ next i (n - suc i)
      ∙ ap (λ (b : Bool). elim b as (λ x. Option ℕ) [ true ↦ Some (a i) | false ↦ search (suc i) (n - suc i) ]) h.2)

-- what a function that computes `a` makes of the value in a `Some`
pub mapped : (P : ℕ → ℕ → Type 0) (a : ℕ → ℕ) (r o : Option ℕ) → MatchOption r (o ≡ None) (λ x. IsSomeAnd o (P x)) → ((x y : ℕ) → P x y → y ≡ a x) → o ≡ option_map a r
mapped P a None o h k = h
mapped P a (Some x) None h k = absurd h
mapped P a (Some x) (Some y) h k = ap Some (k x y h)

module _ (c : List Numbered) (n : ℕ) (r : Option ℕ) where
  -- the search of an identity
  pub identity_is : (d : Diagnostic)
      → MatchOption r ((k : ℕ) → 0 ≤ k → k < n → same_identity d (diagnostic_in c k).diagnostic ≡ false)
      (λ i. (0 ≤ i) × (i < n) × (same_identity d (diagnostic_in c i).diagnostic ≡ true) × ((k : ℕ) → 0 ≤ k → k < i → same_identity d (diagnostic_in c k).diagnostic ≡ false))
      → option_map (λ k. (diagnostic_in c k).identity) r ≡ first_identity (diagnostics_in c 0 n) d
  unfolding first_identity diagnostics_in
  identity_is d h = searched (λ k. same_identity d (diagnostic_in c k).diagnostic) (λ k. (diagnostic_in c k).identity) (λ k m. first_identity (diagnostics_in c k m) d) (λ k. refl) (λ k m. refl) n r h

  -- the search of an instance
  pub instance_is : (i : ℕ) (d : Diagnostic)
      → MatchOption r ((k : ℕ) → 0 ≤ k → k < n → is_instance i d (diagnostic_in c k) ≡ false)
      (λ j. (0 ≤ j) × (j < n) × (is_instance i d (diagnostic_in c j) ≡ true) × ((k : ℕ) → 0 ≤ k → k < j → is_instance i d (diagnostic_in c k) ≡ false))
      → r ≡ first_instance 0 (diagnostics_in c 0 n) i d
  unfolding first_instance diagnostics_in
  instance_is i d h = sym (option_map_id r) ∙ searched (λ k. is_instance i d (diagnostic_in c k)) (λ k. k) (λ k m. first_instance k (diagnostics_in c k m) i d) (λ k. refl) (λ k m. refl) n r h
