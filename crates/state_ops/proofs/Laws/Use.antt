-- The ways through the code of a use. Assumes nothing.
use Rattle.std.specs.Prelude.{ℕ, ◌≡◌, Bool, true, false, List, eqb}
use Rattle.std.proofs.Common.{sym, ◌∙◌, eq-eqb, ne_eqb}
use Rattle.std.proofs.Math.Path.{ap}
use Rattle.base_tests.specs.Tests.{ite, is_some}
use Rattle.def_effects.specs.declared.Span.{Span}
use Rattle.def_effects.specs.declared.Session.{Session}
use Rattle.lent_sets.specs.Rows.{set_at}
use Rattle.lent_work.specs.Access.{access_of}
use Rattle.state_ops.specs.Use.{after_use}

module _ (ss : List ℕ) (s : Session) (i : ℕ) (span : Span) where
  pub use_defined : (b : Bool) → b ≡ is_some (set_at ss i) → b ≡ true → s ≡ after_use ss s i span
  unfolding after_use
  use_defined b e t = ap (λ x. ite x s (ite (eqb s.access 0) (record { next = s.next; access = access_of i; span = span; entries = s.entries }) s)) (sym (sym e ∙ t))

  pub use_again : (b : Bool) → b ≡ is_some (set_at ss i) → b ≡ false → (s.access ≡ 0 → ⊥) → s ≡ after_use ss s i span
  unfolding after_use
  use_again b e t h =
      ap (λ x. ite x (record { next = s.next; access = access_of i; span = span; entries = s.entries }) s) (sym (ne_eqb s.access 0 h))
      ∙ ap (λ x. ite x s (ite (eqb s.access 0) (record { next = s.next; access = access_of i; span = span; entries = s.entries }) s)) (sym (sym e ∙ t))

  pub use_first : (b : Bool) (a : ℕ) → b ≡ is_some (set_at ss i) → b ≡ false → s.access ≡ 0 → a ≡ access_of i → record { next = s.next; access = a; span = span; entries = s.entries } ≡ after_use ss s i span
  unfolding after_use
  use_first b a e t h f =
      ap (λ x. record { next = s.next; access = x; span = span; entries = s.entries }) f
      ∙ ap (λ x. ite x (record { next = s.next; access = access_of i; span = span; entries = s.entries }) s) (sym (eq-eqb s.access 0 h))
      ∙ ap (λ x. ite x s (ite (eqb s.access 0) (record { next = s.next; access = access_of i; span = span; entries = s.entries }) s)) (sym (sym e ∙ t))
