-- An order table: places 0 to n - 1, each with the number of a record. Where neighbours ascend by their keys and each number lies below n,
-- the table is a permutation of the records, no two records have one key, a search by halves finds a record just if there is one under the key,
-- and what is put in where the search ended keeps all that. Assumes nothing.
use Rattle.std.specs.Prelude.{ℕ, zero, suc, ◌≤◌, ◌<◌, ◌≡◌, refl, ◌⊎◌, eqb, Result, Ok, Err}
use Rattle.std.proofs.Common.{arith, sym, ap, ◌∙◌, subst, inl, inr, ⊎_elim}
use Rattle.base_tests.specs.Tests.{ite}
use Rattle.base_tests.proofs.Laws.Choice.{ite_eq, ite_ne}
use Rattle.std.specs.declared.cmp.Ordering.{Ordering}
use Rattle.std.specs.declared.cmp.Ordering.TheVariants.{Less, Equal, Greater}
use Rattle.base_search.specs.Search.{along}
use Rattle.base_search.proofs.Laws.Search.{Falls, Between, Splits, Finds, along_splits, along_finds}
use Rattle.base_tests.proofs.Laws.Order.{lt_or_ge}

-- keys that are compared: a strict order, equal where neither is less
pub record Comparing (K : Type 0) : Type 0 where
  pub compare : K → K → Ordering
  pub same : (a : K) → compare a a ≡ Equal
  pub equal : (a b : K) → compare a b ≡ Equal → a ≡ b
  pub less_more : (a b : K) → compare a b ≡ Less → compare b a ≡ Greater
  pub more_less : (a b : K) → compare a b ≡ Greater → compare b a ≡ Less
  pub less_trans : (a b c : K) → compare a b ≡ Less → compare b c ≡ Less → compare a c ≡ Less

-- equal, or lower, or higher
three : (i j : ℕ) → (i ≡ j) ⊎ ((i < j) ⊎ (j < i))
three zero zero = inl refl
three zero (suc j) = inr (inl (omega arith))
three (suc i) zero = inr (inr (omega arith))
three (suc i) (suc j) = ⊎_elim (λ e. inl (ap suc e)) (λ h. inr (⊎_elim (λ a. inl (omega arith)) (λ a. inr (omega arith)) h)) (three i j)

nothing : {A : Type 0} → ⊥ → A
nothing z = absurd z

-- Less is not Same
not_same : Less ≡ Equal → ⊥
not_same e = let z : ◌≡◌ {A = ℕ} 0 1 = cc in omega arith

-- ---- numbers below n, no two alike, are all of them

-- a place of a number in a table
abbrev pub Place : (ℕ → ℕ) → ℕ → ℕ → Type 0
Place f n r = (j : ℕ) × (j < n) × (f j ≡ r)

-- no two places of the first n have one number
abbrev pub Distinct : (ℕ → ℕ) → ℕ → Type 0
Distinct f n = (i j : ℕ) → i < n → j < n → f i ≡ f j → i ≡ j

-- the table without its last place, where the number n, if it stands before it, gives way to the last one's
unfoldable shorter : (ℕ → ℕ) → ℕ → ℕ → ℕ
shorter f n j = ite (eqb (f j) n) (f n) (f j)

module _ (f : ℕ → ℕ) (n : ℕ) (inside : (j : ℕ) → j < suc n → f j < suc n) (distinct : Distinct f (suc n)) where
  -- what stands there instead
  at_n : (j : ℕ) → f j ≡ n → shorter f n j ≡ f n
  unfolding shorter
  at_n j e = ite_eq (f j) n _ _ e

  elsewhere : (j : ℕ) → (f j ≡ n → ⊥) → shorter f n j ≡ f j
  unfolding shorter
  elsewhere j e = ite_ne (f j) n _ _ e

  equal_or : (x : ℕ) → (x ≡ n) ⊎ (x ≡ n → ⊥)
  equal_or x = ⊎_elim inl (λ h. inr (λ e. ⊎_elim {C = ⊥} (λ a. omega arith) (λ a. omega arith) h)) (three x n)

  shorter_inside : (j : ℕ) → j < n → shorter f n j < n
  shorter_inside j l = ⊎_elim yes no (equal_or (f j))
    where
      yes : f j ≡ n → shorter f n j < n
      yes e =
          let a = at_n j e in
          let b = inside n (omega arith) in
          let c : f n ≡ n → ⊥ = λ q. (let d = distinct j n (omega arith) (omega arith) (e ∙ sym q) in omega arith) in
          let d = c in
          ⊎_elim (λ q. nothing (c q)) (λ q. let z = three (f n) n in ⊎_elim (λ x. nothing (q x)) (λ y. ⊎_elim (λ u. omega arith) (λ u. omega arith) y) z) (equal_or (f n))

      no : (f j ≡ n → ⊥) → shorter f n j < n
      no e =
          let a = elsewhere j e in
          let b = inside j (omega arith) in
          ⊎_elim (λ x. nothing (e x)) (λ y. ⊎_elim (λ u. omega arith) (λ u. omega arith) y) (three (f j) n)

  shorter_distinct : Distinct (shorter f n) n
  shorter_distinct i j l m e = ⊎_elim (λ p. ⊎_elim (λ q. both p q) (λ q. first p q) (equal_or (f j))) (λ p. ⊎_elim (λ q. second p q) (λ q. neither p q) (equal_or (f j))) (equal_or (f i))
    where
      both : f i ≡ n → f j ≡ n → i ≡ j
      both p q = distinct i j (omega arith) (omega arith) (p ∙ sym q)

      first : f i ≡ n → (f j ≡ n → ⊥) → i ≡ j
      first p q = let x = distinct n j (omega arith) (omega arith) (sym (at_n i p) ∙ e ∙ elsewhere j q) in omega arith

      second : (f i ≡ n → ⊥) → f j ≡ n → i ≡ j
      second p q = let x = distinct n i (omega arith) (omega arith) (sym (at_n j q) ∙ sym e ∙ elsewhere i p) in omega arith

      neither : (f i ≡ n → ⊥) → (f j ≡ n → ⊥) → i ≡ j
      neither p q = distinct i j (omega arith) (omega arith) (sym (elsewhere i p) ∙ e ∙ elsewhere j q)

  -- a number of the table, from where it stands in the shorter one
  back : (r : ℕ) → r < suc n → ((s : ℕ) → s < n → Place (shorter f n) n s) → Place f (suc n) r
  back r l h = ⊎_elim last other (three r (f n))
    where
      last : r ≡ f n → Place f (suc n) r
      last e = (n, omega arith, sym e)

      -- the number n itself stands where the last one's stands in the shorter table
      top : r ≡ n → (r ≡ f n → ⊥) → Place f (suc n) r
      top e d =
          let b = inside n (omega arith) in
          let x : f n < n = ⊎_elim (λ q. nothing (d (e ∙ sym q))) (λ y. ⊎_elim (λ u. u) (λ u. omega arith) y) (three (f n) n) in
          let p = h (f n) x in
          ⊎_elim (λ q. (p.0, (let m = p.1 in omega arith), q ∙ sym e)) (λ q. let y = distinct p.0 n (let m = p.1 in omega arith) (omega arith) (sym (elsewhere p.0 q) ∙ p.2) in let m = p.1 in nothing (omega arith)) (equal_or (f p.0))

      low : r < n → (r ≡ f n → ⊥) → Place f (suc n) r
      low m d =
          let p = h r m in
          ⊎_elim (λ q. nothing (d (sym p.2 ∙ at_n p.0 q))) (λ q. (p.0, (let m = p.1 in omega arith), sym (elsewhere p.0 q) ∙ p.2)) (equal_or (f p.0))

      split : (r ≡ f n → ⊥) → Place f (suc n) r
      split d = ⊎_elim (λ e. top e d) (λ y. ⊎_elim (λ u. low u d) (λ u. nothing (omega arith)) y) (three r n)

      other : (r < f n) ⊎ (f n < r) → Place f (suc n) r
      other y = split (λ e. ⊎_elim {C = ⊥} (λ u. omega arith) (λ u. omega arith) y)

-- every number below n has a place
pub all_placed : (n : ℕ) (f : ℕ → ℕ) → ((j : ℕ) → j < n → f j < n) → Distinct f n → (r : ℕ) → r < n → Place f n r
all_placed zero f inside distinct r l = nothing (omega arith)
all_placed (suc n) f inside distinct r l = back f n inside distinct r l (all_placed n (shorter f n) (shorter_inside f n inside distinct) (shorter_distinct f n inside distinct))

-- ---- an ascending order

module _ {K : Type 0} (C : Comparing K) (key : ℕ → K) (ord : ℕ → ℕ) (n : ℕ) where
  -- neighbours ascend: what the acceptance test looks at, in n - 1 comparisons
  abbrev pub Ascends : Type 0
  Ascends = (j : ℕ) → suc j < n → C.compare (key (ord j)) (key (ord (suc j))) ≡ Less

  module _ (up : Ascends) where
    -- so any two do
    pub any_two : (i j : ℕ) → i < j → j < n → C.compare (key (ord i)) (key (ord j)) ≡ Less
    any_two i zero l m = nothing (omega arith)
    any_two i (suc j) l m = step (any_two i j) (three i j)
      where
        step : (i < j → j < n → C.compare (key (ord i)) (key (ord j)) ≡ Less) → (i ≡ j) ⊎ ((i < j) ⊎ (j < i)) → C.compare (key (ord i)) (key (ord (suc j))) ≡ Less
        step again (inl e) = subst (λ (x : ℕ). C.compare (key (ord x)) (key (ord (suc j))) ≡ Less) (sym e) (up j m)
        step again (inr (inl h)) = C.less_trans (key (ord i)) (key (ord j)) (key (ord (suc j))) (again h (omega arith)) (up j m)
        step again (inr (inr h)) = nothing (omega arith)

    -- no two places have one number, nor two numbers one key
    pub places_distinct : Distinct ord n
    places_distinct i j l m e = go (three i j)
      where
        differ : (a b : ℕ) → a < b → b < n → ord a ≡ ord b → ⊥
        differ a b x y z = not_same (sym (any_two a b x y) ∙ ap (λ (r : ℕ). C.compare (key (ord a)) (key r)) (sym z) ∙ C.same (key (ord a)))

        go : (i ≡ j) ⊎ ((i < j) ⊎ (j < i)) → i ≡ j
        go (inl x) = x
        go (inr (inl x)) = nothing (differ i j x m e)
        go (inr (inr x)) = nothing (differ j i x l (sym e))

    -- what is sought compares as the search asks
    pub sought_falls : (k : K) → Falls (λ j. C.compare k (key (ord j))) n
    sought_falls k = record {
      more = λ i j l m e. more i j m e (three i j) l;
      less = λ i j l m e. less i j m e (three i j) l;
    }
      where
        more : (i j : ℕ) → j < n → C.compare k (key (ord j)) ≡ Greater → (i ≡ j) ⊎ ((i < j) ⊎ (j < i)) → i ≤ j → C.compare k (key (ord i)) ≡ Greater
        more i j m e (inl x) l = subst (λ (z : ℕ). C.compare k (key (ord z)) ≡ Greater) (sym x) e
        more i j m e (inr (inl x)) l = C.less_more (key (ord i)) k (C.less_trans (key (ord i)) (key (ord j)) k (any_two i j x m) (C.more_less k (key (ord j)) e))
        more i j m e (inr (inr x)) l = nothing (omega arith)

        less : (i j : ℕ) → j < n → C.compare k (key (ord i)) ≡ Less → (i ≡ j) ⊎ ((i < j) ⊎ (j < i)) → i ≤ j → C.compare k (key (ord j)) ≡ Less
        less i j m e (inl x) l = subst (λ (z : ℕ). C.compare k (key (ord z)) ≡ Less) x e
        less i j m e (inr (inl x)) l = C.less_trans k (key (ord i)) (key (ord j)) e (any_two i j x m)
        less i j m e (inr (inr x)) l = nothing (omega arith)

    -- numbers of which each has a place
    module _ (Has : ℕ → Type 0) (placed : (r : ℕ) → Has r → Place ord n r) where
      -- "two entries of one key": there are none
      pub placed_distinct : (r s : ℕ) → Has r → Has s → key r ≡ key s → r ≡ s
      placed_distinct r s l m e = go (placed r l) (placed s m)
        where
          go : Place ord n r → Place ord n s → r ≡ s
          go p q = sym p.2 ∙ ap ord (meet (three p.0 q.0)) ∙ q.2
            where
              clash : (a b : ℕ) → a < b → b < n → key (ord a) ≡ key (ord b) → ⊥
              clash a b x y z = not_same (sym (any_two a b x y) ∙ ap (C.compare (key (ord a))) (sym z) ∙ C.same (key (ord a)))

              one : key (ord p.0) ≡ key (ord q.0)
              one = ap key p.2 ∙ e ∙ ap key (sym q.2)

              meet : (p.0 ≡ q.0) ⊎ ((p.0 < q.0) ⊎ (q.0 < p.0)) → p.0 ≡ q.0
              meet (inl x) = x
              meet (inr (inl x)) = nothing (clash p.0 q.0 x q.1 one)
              meet (inr (inr x)) = nothing (clash q.0 p.0 x p.1 (sym one))

      module _ (named : (j : ℕ) → j < n → Has (ord j)) where
        -- what a search says: the one number under the key, or that there is none
        abbrev pub Tells : K → Result ℕ ℕ → Type 0
        Tells k (Ok j) = (key (ord j) ≡ k) × (j < n) × ((r : ℕ) → Has r → key r ≡ k → r ≡ ord j)
        Tells k (Err p) = (p ≤ n) × ((r : ℕ) → Has r → key r ≡ k → ⊥) × Between (λ j. C.compare k (key (ord j))) n p

        pub search_tells : (k : K) → Tells k (along (λ j. C.compare k (key (ord j))) n)
        search_tells k = go (along (λ j. C.compare k (key (ord j))) n) (along_finds (λ j. C.compare k (key (ord j))) n) (along_splits (λ j. C.compare k (key (ord j))) n (sought_falls k))
          where
            away : (p : ℕ) → Between (λ j. C.compare k (key (ord j))) n p → (r : ℕ) → Place ord n r → key r ≡ k → ⊥
            away p b r q e = ⊎_elim {C = ⊥} (λ x. clash Greater (b.lower q.0 x) (λ z. let u : ◌≡◌ {A = ℕ} 0 1 = cc in omega arith)) (λ x. clash Less (b.upper q.0 x q.1) not_same) (lt_or_ge q.0 p)
              where
                is_same : C.compare k (key (ord q.0)) ≡ Equal
                is_same = ap (C.compare k) (ap key q.2 ∙ e) ∙ C.same k

                clash : (o : Ordering) → C.compare k (key (ord q.0)) ≡ o → (o ≡ Equal → ⊥) → ⊥
                clash o x y = y (sym x ∙ is_same)

            go : (s : Result ℕ ℕ) → Finds (λ j. C.compare k (key (ord j))) 0 n s → Splits (λ j. C.compare k (key (ord j))) n s → Tells k s
            go (Ok j) h b = (sym (C.equal k (key (ord j)) h.0), h.2, λ r l e. placed_distinct r (ord j) l (named j h.2) (e ∙ C.equal k (key (ord j)) h.0))
            go (Err p) h b = (h.1, (λ r l e. away p b r (placed r l) e), b)

    module _ (inside : (j : ℕ) → j < n → ord j < n) where
      -- every record has a place
      pub record_placed : (r : ℕ) → r < n → Place ord n r
      record_placed = all_placed n ord inside places_distinct

      -- so of records numbered below n a search tells
      abbrev pub Says : K → Result ℕ ℕ → Type 0
      Says k s = Tells (λ r. r < n) record_placed inside k s

      pub search_says : (k : K) → Says k (along (λ j. C.compare k (key (ord j))) n)
      search_says = search_tells (λ r. r < n) record_placed inside
