-- What the next member of a row says of its refusals: none is 1,024 or more. Assumes nothing.
use Rattle.std.specs.Prelude.{◌≡◌, refl, Bool, true, false, List, ℕ, ◌+◌, ◌<◌, ltb, max, Option, None, Some}
use Rattle.std.specs.Option.{is_some, MatchOption}
use Rattle.std.proofs.Common.{arith, sym, ◌∙◌, lt-ltb, le-ltb}
use Rattle.base_tests.specs.Tests as Tests
use Rattle.lent_sets.specs.Rows.{set_at}
use Rattle.lent_members.specs.Members.{member_from}
use Rattle.lent_members.proofs.Laws.Members.{some_from, none_from}
use Rattle.refuse_entries.specs.Words.{row_out_of_range, row_too_new}
use Rattle.refuse_entries.proofs.Laws.Row.{out_search, new_max}

module _ (ss : List ℕ) (i : ℕ) (d : Tests.is_some (set_at ss i) ≡ true) where
  pub out_found : (n : ℕ) (o : Option ℕ) → n < 512 → o ≡ member_from ss i (512 + n) → is_some o ≡ row_out_of_range n ss i
  out_found n None h e = sym (le-ltb _ 1024 (none_from ss i (512 + n) None e refl)) ∙ out_search n ss i _ d h refl
  out_found n (Some v) h e =
      let m = some_from ss i (512 + n) (Some v) e v refl in
      sym (lt-ltb v 1024 m.1) ∙ out_search n ss i v d h m.0

  pub new_found : (next from : ℕ) (o : Option ℕ) (b : Bool) → from ≡ max next 1 → o ≡ member_from ss i from → MatchOption o (b ≡ false) (λ v. b ≡ ltb v 512) → b ≡ row_too_new next ss i
  new_found next from None b f e h =
      let m = none_from ss i from None e refl in
      h ∙ sym (le-ltb _ 512 (omega arith)) ∙ new_max next from ss i _ d f refl
  new_found next from (Some v) b f e h = h ∙ new_max next from ss i v d f (some_from ss i from (Some v) e v refl).0
