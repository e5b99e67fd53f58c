-- Laws by which what the searches of diagnostics before one find is the definition. Assumes nothing.
use Rattle.std.specs.Prelude.{ℕ, suc, ◌≤◌, ◌≡◌, refl, Bool, ◌&&◌, eqb, Option, None, Some}
use Rattle.std.proofs.Common.{arith, ◌∙◌, ⊎_elim}
use Rattle.std.proofs.Math.Path.{sym, ap, ap₂}
use Rattle.std.proofs.Math.Bool.{true, false, not}
use mathlib.Core.List.{List, [], ◌∷◌}
use borrow.Author.Tests.{eq-eqb, ne_eqb}
use Rattle.def_effects.specs.declared.Diagnostic.{Diagnostic}
use Rattle.def_transfer.specs.Diagnostics.{same_labels}
use Rattle.base_tests.specs.Tests.{is_some}
use Rattle.def_transfer.specs.Pure.{Interned, identities, find_identity, find_instance}
use Rattle.lent_layout.specs.declared.Numbered.{Numbered}
use Rattle.lent_layout.specs.Context.{interned_of}
use Rattle.lent_context.specs.Lent.{diagnostic_in, diagnostics_in}
use Rattle.base_tests.proofs.Laws.Bool.{or_first, or_second}
use Rattle.base_tests.proofs.Laws.Order.{same_or_not}
use Rattle.refuse_repeats.specs.Repeats.{number_or, right_identity, diagnostic_twice}

module _ (c : List Numbered) (n : ℕ) (d : Diagnostic) (o : Option ℕ) (h : o ≡ find_identity (diagnostics_in c 0 n) d) where
  -- no message is equal
  right_next : (r : ℕ) → o ≡ None → r ≡ identities (diagnostics_in c 0 n) → r ≡ right_identity c n d
  unfolding right_identity
  right_next r e g = g ∙ ap (number_or (identities (diagnostics_in c 0 n))) (sym e ∙ h)

  -- a message is equal
  right_found : (x : ℕ) → o ≡ Some x → x ≡ right_identity c n d
  unfolding right_identity
  right_found x e = ap (number_or (identities (diagnostics_in c 0 n))) (sym e ∙ h)

-- the library's test is the definitions'
some_is : (o : Option ℕ) → Rattle.std.specs.Option.is_some o ≡ is_some o
some_is None = refl
some_is (Some a) = refl

-- an identity that is not below those of some records is none of theirs
none_yet : (i : ℕ) (ds : List Interned) (n : ℕ) (d : Diagnostic) → identities ds ≤ n → find_instance i ds n d ≡ None
unfolding find_instance identities
none_yet i [] n d l = refl
none_yet i (x ∷ xs) n d l =
    ap (λ (b : Bool). elim (b && same_labels d x.diagnostic) as (λ _. Option ℕ) [ true ↦ Some i | false ↦ find_instance (suc i) xs n d ]) (ne_eqb n x.identity (λ e. omega arith))
    ∙ none_yet (suc i) xs n d (omega arith)

module _ (c : List Numbered) (k : ℕ) (x : Numbered) (g : interned_of x ≡ diagnostic_in c k) where
  -- the identity of a record that was read
  identity_is : x.identity ≡ (diagnostic_in c k).identity
  identity_is = ap (λ (y : Interned). y.identity) g

  -- its diagnostic
  diagnostic_is : x.diagnostic ≡ (diagnostic_in c k).diagnostic
  diagnostic_is = ap (λ (y : Interned). y.diagnostic) g

  -- the identity that it has to have
  same_test : (m : ℕ) → m ≡ right_identity c k x.diagnostic → eqb x.identity m ≡ eqb (diagnostic_in c k).identity (right_identity c k (diagnostic_in c k).diagnostic)
  same_test m h = ap₂ eqb identity_is (h ∙ ap (right_identity c k) diagnostic_is)

  -- another identity than it has to have
  diagnostic_wrong : (m : ℕ) → m ≡ right_identity c k x.diagnostic → (x.identity ≡ m → ⊥) → true ≡ diagnostic_twice c k
  unfolding diagnostic_twice
  diagnostic_wrong m h n =
      sym (or_first (not (eqb (diagnostic_in c k).identity (right_identity c k (diagnostic_in c k).diagnostic))) (is_some (find_instance 0 (diagnostics_in c 0 k) (diagnostic_in c k).identity (diagnostic_in c k).diagnostic))
      (ap not (sym (same_test m h) ∙ ne_eqb x.identity m n)))

  -- the right identity: an equal record decides
  diagnostic_right : (m : ℕ) (r : Bool) → m ≡ right_identity c k x.diagnostic → x.identity ≡ m → r ≡ is_some (find_instance 0 (diagnostics_in c 0 k) x.identity x.diagnostic) → r ≡ diagnostic_twice c k
  unfolding diagnostic_twice
  diagnostic_right m r h e q =
      q ∙ ap₂ (λ (i : ℕ) (d : Diagnostic). is_some (find_instance 0 (diagnostics_in c 0 k) i d)) identity_is diagnostic_is
      ∙ sym (or_second (not (eqb (diagnostic_in c k).identity (right_identity c k (diagnostic_in c k).diagnostic))) (is_some (find_instance 0 (diagnostics_in c 0 k) (diagnostic_in c k).identity (diagnostic_in c k).diagnostic))
      (ap not (sym (same_test m h) ∙ eq-eqb x.identity m e)))

  -- a message that is new: it has the next identity, or another
  pub diagnostic_new : (o : Option ℕ) (m : ℕ) → o ≡ find_identity (diagnostics_in c 0 k) x.diagnostic → o ≡ None → m ≡ identities (diagnostics_in c 0 k) → not (eqb x.identity m) ≡ diagnostic_twice c k
  diagnostic_new o m h e q = ⊎_elim next other (same_or_not x.identity m)
    where
      right : m ≡ right_identity c k x.diagnostic
      right = right_next c k x.diagnostic o h m e q

      next : x.identity ≡ m → not (eqb x.identity m) ≡ diagnostic_twice c k
      next z = ap not (eq-eqb x.identity m z) ∙ diagnostic_right m false right z (sym (ap is_some (none_yet 0 (diagnostics_in c 0 k) x.identity x.diagnostic (omega arith))))

      other : (x.identity ≡ m → ⊥) → not (eqb x.identity m) ≡ diagnostic_twice c k
      other n = ap not (ne_eqb x.identity m n) ∙ diagnostic_wrong m right n

  -- a message that is not: another identity, or an equal record before it
  module _ (o : Option ℕ) (m : ℕ) (h : o ≡ find_identity (diagnostics_in c 0 k) x.diagnostic) (e : o ≡ Some m) where
    pub diagnostic_other : (x.identity ≡ m → ⊥) → true ≡ diagnostic_twice c k
    diagnostic_other n = diagnostic_wrong m (right_found c k x.diagnostic o h m e) n

    pub diagnostic_same : (i : Option ℕ) (r : Bool) → x.identity ≡ m → i ≡ find_instance 0 (diagnostics_in c 0 k) x.identity x.diagnostic → r ≡ Rattle.std.specs.Option.is_some i → r ≡ diagnostic_twice c k
    diagnostic_same i r z g q = diagnostic_right m r (right_found c k x.diagnostic o h m e) z (q ∙ some_is i ∙ ap is_some g)
