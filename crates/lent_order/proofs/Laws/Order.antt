-- What putting a number into an order leaves: the order with it put in; and all else as it was. Assumes nothing.
use Prim.Native.Nat.{ℕ, zero, suc, ◌+◌, ◌-◌, ◌≤◌, ◌<◌}
use native.Mathlib.Omega.{arith}
use Rattle.std.specs.Prelude.{◌≡◌, true, ◌⊎◌, length, get_or}
use Rattle.std.proofs.Math.Path.{refl, sym}
use Rattle.std.proofs.Common.{ap, ap₂, ◌∙◌, subst}
use mathlib.Core.List.{List}
use Rattle.std.proofs.Math.Logic.{⊎_elim}
use Rattle.base_tests.proofs.Laws.Order.{lt_or_ge}
use Rattle.base_search.proofs.Laws.Search.{Between}
use Rattle.base_search.proofs.Laws.Ascending.{Comparing, Ascends}
use Rattle.base_search.proofs.Laws.Inserting.{inserted_before, inserted_there, inserted_after, inserted_ascends}
use Rattle.base_search.proofs.Laws.Inserting as Inserting
use Rattle.lent_tables.specs.declared.Table.{Table}
use Rattle.lent_tables.specs.Words.{index, end, apart, field, put_field}
use Rattle.lent_tables.proofs.Laws.Word.{within_yes, inside, put_length, put_same, put_record, put_apart, put_outside}
use Rattle.lent_order.specs.Order.{order_at, moved_up, inserted}

-- ---- what each write of a word of the order keeps, putting in keeps

moved_keeps : (t : Table) (P : List ℕ → Type 0) → ((d : List ℕ) (j x : ℕ) → P d → P (put_field t d j 0 x)) → (p d : ℕ) (c : List ℕ) → P c → P (moved_up t p d c)
unfolding moved_up
moved_keeps t P s p zero c h = h
moved_keeps t P s p (suc d) c h = moved_keeps t P s p d _ (s c _ _ h)

pub insert_keeps : (t : Table) (P : List ℕ → Type 0) → ((d : List ℕ) (j x : ℕ) → P d → P (put_field t d j 0 x)) → (p r n : ℕ) (c : List ℕ) → P c → P (inserted t p r n c)
unfolding inserted
insert_keeps t P s p r n c h = s _ _ _ (moved_keeps t P s p (n - p) c h)

pub insert_length : (t : Table) (p r n : ℕ) (c : List ℕ) → length (inserted t p r n c) ≡ length c
insert_length t p r n c = insert_keeps t (λ (d : List ℕ). length d ≡ length c) (λ d j x e. put_length t d j 0 x ∙ e) p r n c refl

pub insert_apart : (t u : Table) (p r n : ℕ) (c : List ℕ) (j v : ℕ) → apart t u ≡ true → field u (inserted t p r n c) j v ≡ field u c j v
insert_apart t u p r n c j v a = insert_keeps t (λ (d : List ℕ). field u d j v ≡ field u c j v) (λ d i x e. put_apart t u d i 0 x j v a ∙ e) p r n c refl

pub insert_outside : (t : Table) (p r n : ℕ) (c : List ℕ) (k : ℕ) → (k < t.base) ⊎ (end t ≤ k) → get_or (inserted t p r n c) k 0 ≡ get_or c k 0
insert_outside t p r n c k o = insert_keeps t (λ (d : List ℕ). get_or d k 0 ≡ get_or c k 0) (λ d i x e. put_outside t d i 0 x k o ∙ e) p r n c refl

-- ---- what the order is then

module _ (t : Table) where
  -- places up to p, and those past p + d, stay
  moved_low : (p d j : ℕ) (c : List ℕ) → j ≤ p → field t (moved_up t p d c) j 0 ≡ field t c j 0
  unfolding moved_up
  moved_low p zero j c l = refl
  moved_low p (suc d) j c l = moved_low p d j _ l ∙ put_record t c (p + suc d) 0 _ j 0 (λ e. omega arith)

  pub moved_high : (p d j : ℕ) (c : List ℕ) → p + d < j → field t (moved_up t p d c) j 0 ≡ field t c j 0
  unfolding moved_up
  moved_high p zero j c l = refl
  moved_high p (suc d) j c l = moved_high p d j _ (omega arith) ∙ put_record t c (p + suc d) 0 _ j 0 (λ e. omega arith)

  -- the place after the last of n + 1, and all behind it, stay
  pub insert_past : (p r n j : ℕ) (c : List ℕ) → p ≤ n → n < j → order_at t (inserted t p r n c) j ≡ order_at t c j
  unfolding order_at inserted
  insert_past p r n j c l h = put_record t (moved_up t p (n - p) c) p 0 r j 0 (λ e. omega arith) ∙ moved_high p (n - p) j c (omega arith)

  module _ (wide : 0 < t.width) where
    -- the words from p on stand one higher
    moved_up_is : (p d j : ℕ) (c : List ℕ) → p ≤ j → j < p + d → p + d < t.count → end t ≤ length c → field t (moved_up t p d c) (suc j) 0 ≡ field t c j 0
    unfolding moved_up
    moved_up_is p zero j c l m q long = absurd (let z : ⊥ = omega arith in z)
    moved_up_is p (suc d) j c l m q long = ⊎_elim (low (moved_up_is p d j c1 l)) top (lt_or_ge j (p + d))
      where
        c1 : List ℕ
        c1 = put_field t c (p + suc d) 0 (field t c (p + d) 0)

        long1 : length c1 ≡ length c
        long1 = put_length t c (p + suc d) 0 (field t c (p + d) 0)

        low : (j < p + d → p + d < t.count → end t ≤ length c1 → field t (moved_up t p d c1) (suc j) 0 ≡ field t c1 j 0) → j < p + d → field t (moved_up t p d c1) (suc j) 0 ≡ field t c j 0
        low again h = again h (omega arith) (subst (λ (n : ℕ). end t ≤ n) (sym long1) long) ∙ put_record t c (p + suc d) 0 _ j 0 (λ e. omega arith)

        top : p + d ≤ j → field t (moved_up t p d c1) (suc j) 0 ≡ field t c j 0
        top h =
            let e : j ≡ p + d = omega arith in
            let f : suc j ≡ p + suc d = omega arith in
            moved_high p d (suc j) c1 (omega arith)
            ∙ ap (λ (i : ℕ). field t c1 i 0) f
            ∙ put_same t c (p + suc d) 0 (field t c (p + d) 0) (within_yes t (p + suc d) 0 q wide) (at_end (p + suc d) q)
            ∙ ap (λ (i : ℕ). field t c i 0) (sym e)
          where
            at_end : (i : ℕ) → i < t.count → index t i 0 < length c
            at_end i h = inside t c i 0 (within_yes t i 0 h wide) long

    module _ (c : List ℕ) (p r n : ℕ) (l : p ≤ n) (room : n < t.count) (long : end t ≤ length c) where
      moved_long : end t ≤ length (moved_up t p (n - p) c)
      moved_long = subst (λ (m : ℕ). end t ≤ m) (sym (moved_keeps t (λ (d : List ℕ). length d ≡ length c) (λ d j x e. put_length t d j 0 x ∙ e) p (n - p) c refl)) long

      there : order_at t (inserted t p r n c) p ≡ r
      unfolding order_at inserted
      there =
          let w = within_yes t p 0 (omega arith) wide in
          put_same t (moved_up t p (n - p) c) p 0 r w (inside t (moved_up t p (n - p) c) p 0 w moved_long)

      -- place j after putting in, of n + 1
      pub insert_is : (j : ℕ) → j ≤ n → order_at t (inserted t p r n c) j ≡ Inserting.inserted (order_at t c) p r j
      unfolding order_at inserted
      insert_is j m = ⊎_elim low (λ h. high j h m) (lt_or_ge j p)
        where
          low : j < p → order_at t (inserted t p r n c) j ≡ Inserting.inserted (order_at t c) p r j
          low h =
              put_record t (moved_up t p (n - p) c) p 0 r j 0 (λ e. omega arith) ∙ moved_low p (n - p) j c (omega arith)
              ∙ sym (inserted_before (λ i. field t c i 0) p r j h)

          at_p : (j : ℕ) → j ≡ p → order_at t (inserted t p r n c) j ≡ Inserting.inserted (order_at t c) p r j
          at_p j e = ap (order_at t (inserted t p r n c)) e ∙ there ∙ sym (inserted_there (order_at t c) p r) ∙ ap (Inserting.inserted (order_at t c) p r) (sym e)

          high : (j : ℕ) → p ≤ j → j ≤ n → order_at t (inserted t p r n c) j ≡ Inserting.inserted (order_at t c) p r j
          high zero h m = at_p zero (omega arith)
          high (suc j) h m = ⊎_elim (λ q. above q) (λ q. at_p (suc j) (omega arith)) (lt_or_ge p (suc j))
            where
              above : p < suc j → order_at t (inserted t p r n c) (suc j) ≡ Inserting.inserted (order_at t c) p r (suc j)
              above q =
                  put_record t (moved_up t p (n - p) c) p 0 r (suc j) 0 (λ e. omega arith)
                  ∙ moved_up_is p (n - p) j c (omega arith) (omega arith) (omega arith) long
                  ∙ sym (inserted_after (λ i. field t c i 0) p r j (omega arith))

      -- so an ascending order stays one
      pub insert_ascends : {K : Type 0} (C : Comparing K) (key : ℕ → K) → Ascends C key (order_at t c) n → Between (λ j. C.compare (key r) (key (order_at t c j))) n p
          → Ascends C key (order_at t (inserted t p r n c)) (suc n)
      insert_ascends C key up b j m =
          ap₂ (λ (x y : ℕ). C.compare (key x) (key y)) (insert_is j (omega arith)) (insert_is (suc j) (omega arith))
          ∙ inserted_ascends C key (order_at t c) n p r l up b j m

      -- what holds of the number put in and of those that were there holds of each
      pub insert_each : (P : ℕ → Type 0) → P r → ((j : ℕ) → j < n → P (order_at t c j)) → (j : ℕ) → j < suc n → P (order_at t (inserted t p r n c) j)
      insert_each P e h j m = subst P (sym (insert_is j (omega arith))) (⊎_elim low (λ q. high j q m) (lt_or_ge j p))
        where
          low : j < p → P (Inserting.inserted (order_at t c) p r j)
          low q = subst P (sym (inserted_before (order_at t c) p r j q)) (h j (omega arith))

          at_p : (j : ℕ) → j ≡ p → P (Inserting.inserted (order_at t c) p r j)
          at_p j q = subst (λ (x : ℕ). P (Inserting.inserted (order_at t c) p r x)) (sym q) (subst P (sym (inserted_there (order_at t c) p r)) e)

          high : (j : ℕ) → p ≤ j → j < suc n → P (Inserting.inserted (order_at t c) p r j)
          high zero q m = at_p zero (omega arith)
          high (suc j) q m = ⊎_elim (λ a. subst P (sym (inserted_after (order_at t c) p r j (omega arith))) (h j (omega arith))) (λ a. at_p (suc j) (omega arith)) (lt_or_ge p (suc j))

      -- and each place names one of n + 1 records, where each named one of n
      pub insert_inside : r ≤ n → ((j : ℕ) → j < n → order_at t c j < n) → (j : ℕ) → j < suc n → order_at t (inserted t p r n c) j < suc n
      insert_inside e h = insert_each (λ x. x < suc n) (omega arith) (λ j l. let z = h j l in omega arith)
