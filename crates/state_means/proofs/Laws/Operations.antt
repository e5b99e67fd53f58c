-- The operations on a state that the transfer does not use do the same over faithful tables as over plain ones. Assumes nothing.
use Rattle.std.specs.Prelude.{ℕ, ◌<◌, max, refl, eqb, Option, None, Some}
use Rattle.std.proofs.Common.{sym, ap₂, ◌∙◌, lit<}
use mathlib.Core.List.{List, [], ◌∷◌}
use Rattle.std.proofs.lemmas.Nat.{or_lt}
use Rattle.base_sets.specs.Members.{union, bits_of}
use Rattle.lent_sets.proofs.Laws.Bit.{bit_low, bit_or_is}
use Rattle.def_transfer.specs.Tables.{Tables}
use Rattle.def_transfer.specs.State.{is_defined, may_write, append_sets, append_alias, union_of, infer_phi}
use Rattle.def_faithful.specs.Ranges.{IsSet, Pointing}
use Rattle.def_faithful.specs.Faithful.{Faithful}
use Rattle.def_faithful.proofs.Laws.Means.{Any, Means, plain, bind_means, bind_set, return_means, done_means, if_means, set_of_means, point_means}

-- the empty set, and the union of two
empty_set : IsSet 0
empty_set = record { small = lit< tt; even = refl }

union_set : (s t : ℕ) → IsSet s → IsSet t → IsSet (union s t)
union_set s t p q = record { small = or_lt 1024 s t p.small q.small; even = sym (bit_low (union s t)) ∙ bit_or_is s t 0 ∙ ap₂ max (bit_low s ∙ p.even) (bit_low t ∙ q.even) }

bits_set : (o : Option ℕ) → Pointing o → IsSet (bits_of o)
bits_set None p = empty_set
bits_set (Some s) p = p

module _ {n : ℕ} {T : Tables} {F : Faithful n T} where
  pub is_defined_means : (i : ℕ) → Means F Any (is_defined i) (is_defined i)
  unfolding is_defined
  is_defined_means i = search plain

  pub may_write_means : (i : ℕ) → Means F Any (may_write i) (may_write i)
  unfolding may_write
  may_write_means i = search plain

  append_sets_means : (place : ℕ) (o t : Option ℕ) → place < n → Pointing o → Pointing t → Means F Any (append_sets place o t) (append_sets place o t)
  unfolding append_sets
  append_sets_means place None t l p q = done_means
  append_sets_means place (Some x) None l p q = done_means
  append_sets_means place (Some x) (Some y) l p q = point_means place (union x y) l (union_set x y p q)

  pub append_alias_means : (place value : ℕ) → place < n → Means F Any (append_alias place value) (append_alias place value)
  unfolding append_alias
  append_alias_means place value l = bind_set (set_of_means place) (λ o p. bind_set (set_of_means value) (λ t q. append_sets_means place o t l p q))

  union_of_means : (is : List ℕ) (s : ℕ) → IsSet s → Means F IsSet (union_of is s) (union_of is s)
  unfolding union_of
  union_of_means [] s p = return_means s p
  union_of_means (i ∷ is) s p = bind_set (set_of_means i) (λ o q. union_of_means is (union s (bits_of o)) (union_set s (bits_of o) p (bits_set o q)))

  pub infer_phi_means : (place : ℕ) (operands : List ℕ) → place < n → Means F Any (infer_phi place operands) (infer_phi place operands)
  unfolding infer_phi
  infer_phi_means place operands l = bind_means (union_of_means operands 0 empty_set) (λ s p. if_means (eqb s 0) done_means (point_means place s l p))
