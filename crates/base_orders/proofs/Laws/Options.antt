-- Joins of entries that may be absent, and of tables of them, are joins. Assumes nothing.
use Rattle.std.specs.Prelude.{ℕ, ◌≡◌, Option, None, Some}
use Rattle.std.proofs.Math.Path.{refl, ap, fun_ext}
use Rattle.base_orders.specs.Join.{Joins}
use Rattle.base_orders.specs.Options.{join_option, join_table}

module _ {A : Type 0} (◌⊔◌ : A → A → A) (J : Joins A ◌⊔◌) where
  option_same : (x : Option A) → join_option ◌⊔◌ x x ≡ x
  unfolding join_option
  option_same None = refl
  option_same (Some a) = ap Some (J.same a)

  option_comm : (x y : Option A) → join_option ◌⊔◌ x y ≡ join_option ◌⊔◌ y x
  unfolding join_option
  option_comm None None = refl
  option_comm None (Some b) = refl
  option_comm (Some a) None = refl
  option_comm (Some a) (Some b) = ap Some (J.comm a b)

  option_assoc : (x y z : Option A) → join_option ◌⊔◌ (join_option ◌⊔◌ x y) z ≡ join_option ◌⊔◌ x (join_option ◌⊔◌ y z)
  unfolding join_option
  option_assoc None y z = refl
  option_assoc (Some a) None z = refl
  option_assoc (Some a) (Some b) None = refl
  option_assoc (Some a) (Some b) (Some c) = ap Some (J.assoc a b c)

  pub option_joins : Joins (Option A) (join_option ◌⊔◌)
  option_joins = record { same = option_same; comm = option_comm; assoc = option_assoc }

  pub table_joins : Joins (ℕ → Option A) (join_table ◌⊔◌)
  unfolding join_table
  table_joins = record {
    same = λ f. fun_ext (λ i. option_same (f i));
    comm = λ f g. fun_ext (λ i. option_comm (f i) (g i));
    assoc = λ f g h. fun_ext (λ i. option_assoc (f i) (g i) (h i));
  }
