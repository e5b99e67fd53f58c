-- Case 9* of document 01, of the call: "Phi of undefined operands: place unchanged." Assumes nothing.
use Prim.Native.Nat.{ℕ, zero, suc}
use Rattle.std.specs.Prelude.{◌≡◌, ◌||◌, eqb, Option, None}
use Rattle.std.proofs.Math.Path.{refl, ap}
use Rattle.std.proofs.Common.{◌∙◌}
use Rattle.std.proofs.Math.Bool.{true, false}
use mathlib.Core.List.{List, [], ◌∷◌}
use Rattle.base_tests.specs.Tests.{All, any_of}
use Rattle.base_sets.specs.Members.{union, bits_of}
use Rattle.def_effects.specs.declared.Session.{Session}
use Rattle.def_transfer.specs.Monad.{Res, Done}
use Rattle.def_transfer.specs.Tables.{World}
use Rattle.def_transfer.specs.Pure.{pure}
use Rattle.def_transfer.specs.State as State
use Rattle.lent_sets.specs.Rows.{set_at, put_set}
use Rattle.state_ops.specs.Lists.{unions, phi_sets}
use Rattle.state_ops.proofs.Laws.Text.{phi_lists}
use Rattle.state_calls.specs.Calls as Calls
use Rattle.state_calls.specs.Calls.{Lent, outcome_of, call_with, rest_of, refusal_of, outside}

module _ (vs ss : List ℕ) (s : Session) (place : ℕ) where
  unions_none : (operands : List ℕ) → All (λ i. set_at ss i ≡ None) operands → unions ss operands 0 ≡ 0
  unfolding unions
  unions_none [] a = refl
  unions_none (i ∷ is) a = ap (λ (o : Option ℕ). unions ss is (union 0 (bits_of o))) a.0 ∙ unions_none is a.1

  stays : (operands : List ℕ) → All (λ i. set_at ss i ≡ None) operands → phi_sets ss place operands ≡ ss
  unfolding phi_sets
  stays operands a = ap (λ (x : ℕ). elim (eqb x 0) as (λ b. List ℕ) [ true ↦ ss | false ↦ put_set ss place x ]) (unions_none operands a)

  -- every place is as it was, refused or not
  pub case_9 : (operands : List ℕ) → All (λ i. set_at ss i ≡ None) operands → (Calls.infer_phi vs ss s place operands).sets ≡ ss
  unfolding Calls.infer_phi call_with outcome_of
  case_9 operands a = go (refusal_of vs ss s (outside ss place || any_of (outside ss) operands) false)
    where
      go : (n : ℕ) → (call_with false n tt (State.infer_phi place operands) vs ss s).sets ≡ ss
      go zero = ap (λ (r : Res (World Lent) Done). (outcome_of tt r).sets) (phi_lists pure false (rest_of false s) vs ss place operands) ∙ stays operands a
      go (suc n) = refl
