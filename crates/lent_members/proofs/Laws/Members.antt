-- The next member of a row by its number, and what an iterator over the members has left, before and after it gives one. Assumes nothing.
use Prim.Native.Nat.{ℕ, ◌+◌, ◌-◌, ◌/◌, ◌^◌, ◌≤◌, ◌<◌}
use Rattle.std.specs.Prelude.{◌≡◌, refl, Bool, true, false, List, [], ◌∷◌, ltb, Option, None, Some}
use Rattle.std.proofs.Common.{arith, sym, ap, ◌∙◌, subst, add-one, lt-ltb, le-ltb, ltb-true, ltb-false}
use Rattle.std.proofs.lemmas.Option.{none-some, same_Some}
use Rattle.base_tests.specs.Tests.{ite, is_some}
use Rattle.base_tests.proofs.Laws.Choice.{ite_yes, ite_no}
use Rattle.base_sets.specs.Members.{digits_from, values_of, bits_of}
use Rattle.lent_sets.specs.Rows.{member, next_member, left, row_number, set_at}
use Rattle.lent_sets.proofs.Laws.Set.{members_left, left_skip, left_here, left_none, left_seek}
use Rattle.lent_sets.proofs.Laws.Row.{row_fits, bit_row, row_is, none_of, some_of, set_zero, next_ge, next_is}
use Rattle.lent_members.specs.Members.{member_from}

-- the next member by its number: one below 1,024 is a member
module _ (rs : List ℕ) (i v u : ℕ) (e : u ≡ next_member rs i v) where
  pub from_found : u < 1024 → Some u ≡ member_from rs i v
  unfolding member_from
  from_found l = sym (ap (λ (k : ℕ). ite (ltb k 1024) (Some k) None) (sym e) ∙ ite_yes _ _ _ (lt-ltb u 1024 l))

  pub from_past : 1024 ≤ u → None ≡ member_from rs i v
  unfolding member_from
  from_past l = sym (ap (λ (k : ℕ). ite (ltb k 1024) (Some k) None) (sym e) ∙ ite_no _ _ _ (le-ltb u 1024 l))

  same_left : left (row_number rs i) v ≡ left (row_number rs i) u
  unfolding next_member
  same_left = left_seek (member rs i) (row_number rs i) (1024 - v) v u (λ k a b. sym (bit_row rs i k (omega arith))) e

  here_left : u < 1024 → left (row_number rs i) v ≡ u ∷ left (row_number rs i) (u + 1)
  here_left l =
      let g = next_ge rs i v u e in
      same_left
      ∙ left_here (row_number rs i) u (subst (λ (x : ℕ). 0 < x) (sym (bit_row rs i u l)) (next_is rs i v u e (omega arith) l))
      ∙ ap (λ (k : ℕ). u ∷ left (row_number rs i) k) (sym (add-one u))

  past_left : 1024 ≤ u → left (row_number rs i) v ≡ []
  past_left l = same_left ∙ left_none 1024 (row_number rs i) u (row_fits rs i) l

-- what an answer says of that number, and of the members that are left
module _ (rs : List ℕ) (i v : ℕ) (o : Option ℕ) (e : o ≡ member_from rs i v) where
  pub some_from : (u : ℕ) → o ≡ Some u → (u ≡ next_member rs i v) × (u < 1024)
  unfolding member_from
  some_from u h = go (ltb (next_member rs i v) 1024) refl (sym e ∙ h)
    where
      go : (b : Bool) → ltb (next_member rs i v) 1024 ≡ b → ite b (Some (next_member rs i v)) None ≡ Some u → (u ≡ next_member rs i v) × (u < 1024)
      go true l q =
          let n : u ≡ next_member rs i v = sym (same_Some _ _ q) in
          (n, rw n (ltb-true _ _ l))
      go false l q = absurd (none-some u q)

  pub none_from : o ≡ None → 1024 ≤ next_member rs i v
  unfolding member_from
  none_from h = go (ltb (next_member rs i v) 1024) refl (sym e ∙ h)
    where
      go : (b : Bool) → ltb (next_member rs i v) 1024 ≡ b → ite b (Some (next_member rs i v)) None ≡ None → 1024 ≤ next_member rs i v
      go true l q = absurd (none-some _ (sym q))
      go false l q = ltb-false _ _ l

  pub some_left : (u : ℕ) → o ≡ Some u → (left (row_number rs i) v ≡ u ∷ left (row_number rs i) (u + 1)) × (v ≤ u) × (u < 1024)
  some_left u h =
      let m = some_from u h in
      (here_left rs i v u m.0 m.1, next_ge rs i v u m.0, m.1)

  pub none_left : o ≡ None → left (row_number rs i) v ≡ []
  none_left h = past_left rs i v _ refl (none_from h)

-- all members of a set that is defined, from 1 on; none of one that is not
module _ (rs : List ℕ) (i : ℕ) where
  pub all_left : is_some (set_at rs i) ≡ true → left (row_number rs i) 1 ≡ values_of (set_at rs i)
  unfolding left
  all_left h =
      let s : ℕ = bits_of (set_at rs i) in
      let d : set_at rs i ≡ Some s = some_of (set_at rs i) h in
      let r = row_is rs i s d in
      let half : row_number rs i / 2 ^ 1 ≡ s / 2 ^ 1 = omega arith in
      ap (λ (n : ℕ). digits_from n 1 n) half
      ∙ sym (left_skip s 0 (set_zero rs i s d)) ∙ sym (members_left s) ∙ sym (ap values_of d)

  pub no_left : is_some (set_at rs i) ≡ false → left (row_number rs i) 1024 ≡ values_of (set_at rs i)
  no_left h = left_none 1024 (row_number rs i) 1024 (row_fits rs i) (omega arith) ∙ sym (ap values_of (none_of (set_at rs i) h))
