-- In the plain world of two lent lists a place has the kind and the set that the lists give it. Assumes nothing.
use Rattle.std.specs.Prelude.{ℕ, ◌≡◌, Bool, List}
use Rattle.std.proofs.Math.Path.{refl}
use Rattle.def_effects.specs.declared.Session.{Session}
use Rattle.def_transfer.specs.Monad.{ok}
use Rattle.def_transfer.specs.State.{set_of, peek, kind_of}
use Rattle.lent_values.specs.Cells.{value_at}
use Rattle.lent_sets.specs.Rows.{set_at}
use Rattle.state_calls.specs.Plain.{plainly}

module _ (ref : Bool) (vs ss : List ℕ) (s : Session) (i : ℕ) where
  pub peek_plainly : peek i (plainly ref vs ss s) ≡ ok (kind_of (value_at vs) (set_at ss i)) (plainly ref vs ss s)
  unfolding peek
  peek_plainly = refl

  pub set_plainly : set_of i (plainly ref vs ss s) ≡ ok (set_at ss i) (plainly ref vs ss s)
  unfolding set_of
  set_plainly = refl
