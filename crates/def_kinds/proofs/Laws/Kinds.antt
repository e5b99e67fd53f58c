-- The order laws of kinds, reasons and abstract values: the join is idempotent, commutative and associative,
-- so "above or equal" is a partial order and the join the least upper bound. Assumes nothing.
use Rattle.std.specs.Prelude.{◌≡◌, refl, Bool, false, ◌&&◌, ℕ, zero, suc, ◌+◌, ◌-◌, ◌^◌, ◌%◌, ◌<◌, ◌≤◌, T, eqb, ltb}
use Rattle.std.proofs.Common.{sym, ap, ◌∙◌, lt_of_lt_of_le, arith, pow_mono, pow-add, eqb→eq, ltb→lt, eq-eqb as eqb-true, ne_eqb as eqb-false}
use Rattle.std.proofs.Math.Nat.{div-eq_of_lt, mul-mod_left}
use Rattle.std.proofs.Math.Dec.{eqb_refl}
use Rattle.base_tests.proofs.Laws.Bool.{both, both_left, both_right}
use Rattle.base_orders.specs.Join.{Joins, Above}
use Rattle.base_orders.proofs.Laws.Join.{above_refl, above_trans, above_antisym, join_above_left, join_above_right, join_least}
use Rattle.base_orders.proofs.Laws.Union.{or_joins}
use Rattle.def_kinds.specs.declared.ValueKind.{ValueKind}
use Rattle.def_kinds.specs.declared.ValueKind.TheVariants.{Mutable, Frozen, Primitive, MaybeFrozen, Global, Context}
use Rattle.def_kinds.specs.declared.AbstractValue.{AbstractValue}
use Rattle.def_kinds.specs.Kinds.{code_of, kind_at, join_table, join_kind}
use Rattle.def_kinds.specs.Reasons.{join_reasons, has_reason, single}
use Rattle.def_kinds.specs.Values.{mk, join, contains, above}

-- ---- kinds and their numbers

pub kind_at_code : (k : ValueKind) → kind_at (code_of k) ≡ k
unfolding kind_at
kind_at_code Mutable = refl
kind_at_code Frozen = refl
kind_at_code Primitive = refl
kind_at_code MaybeFrozen = refl
kind_at_code Global = refl
kind_at_code Context = refl

pub code_injective : (a b : ValueKind) → code_of a ≡ code_of b → a ≡ b
code_injective a b e = sym (kind_at_code a) ∙ ap kind_at e ∙ kind_at_code b

abbrev pub eq_kind : ValueKind → ValueKind → Bool
eq_kind a b = eqb (code_of a) (code_of b)

pub eq_kind_eq : (a b : ValueKind) → T (eq_kind a b) → a ≡ b
eq_kind_eq a b t = code_injective a b (eqb→eq (code_of a) (code_of b) t)

-- the test passes at each kind
abbrev pub every : (ValueKind → Bool) → Bool
every f = f Mutable && (f Frozen && (f Primitive && (f MaybeFrozen && (f Global && f Context))))

pub every_at : (f : ValueKind → Bool) → T (every f) → (k : ValueKind) → T (f k)
every_at f t Mutable = both_left (f Mutable) _ t
every_at f t Frozen = both_left (f Frozen) _ (both_right (f Mutable) _ t)
every_at f t Primitive = both_left (f Primitive) _ (both_right (f Frozen) _ (both_right (f Mutable) _ t))
every_at f t MaybeFrozen = both_left (f MaybeFrozen) _ (both_right (f Primitive) _ (both_right (f Frozen) _ (both_right (f Mutable) _ t)))
every_at f t Global = both_left (f Global) _ (both_right (f MaybeFrozen) _ (both_right (f Primitive) _ (both_right (f Frozen) _ (both_right (f Mutable) _ t))))
every_at f t Context = both_right (f Global) _ (both_right (f MaybeFrozen) _ (both_right (f Primitive) _ (both_right (f Frozen) _ (both_right (f Mutable) _ t))))

pub code_lt : (k : ValueKind) → code_of k < 6
code_lt k = ltb→lt (code_of k) 6 (every_at (λ k. ltb (code_of k) 6) tt k)

-- a number that is none of the other five kinds' reads as MaybeFrozen
pub kind_at_rest : (n : ℕ) → (n ≡ 0 → ⊥) → (n ≡ 1 → ⊥) → (n ≡ 2 → ⊥) → (n ≡ 4 → ⊥) → (n ≡ 5 → ⊥) → kind_at n ≡ MaybeFrozen
unfolding kind_at
kind_at_rest zero a b c d e = absurd (a refl)
kind_at_rest (suc zero) a b c d e = absurd (b refl)
kind_at_rest (suc (suc zero)) a b c d e = absurd (c refl)
kind_at_rest (suc (suc (suc zero))) a b c d e = refl
kind_at_rest (suc (suc (suc (suc zero)))) a b c d e = absurd (d refl)
kind_at_rest (suc (suc (suc (suc (suc zero))))) a b c d e = absurd (e refl)
kind_at_rest (suc (suc (suc (suc (suc (suc n)))))) a b c d e = refl

-- ---- one computed test over the table

-- idempotent at a, commutative at a and b, associative at a, b and c
lawful : ValueKind → ValueKind → ValueKind → Bool
lawful a b c = eq_kind (join_kind a a) a && (eq_kind (join_kind a b) (join_kind b a) && eq_kind (join_kind (join_kind a b) c) (join_kind a (join_kind b c)))

tested : T (every λ a. every λ b. every λ c. lawful a b c)
unfolding lawful join_kind join_table kind_at
tested = tt

lawful_at : (a b c : ValueKind) → T (lawful a b c)
lawful_at a b c = every_at (λ c. lawful a b c) (every_at (λ b. every λ c. lawful a b c) (every_at (λ a. every λ b. every λ c. lawful a b c) tested a) b) c

pub kind_joins : Joins ValueKind join_kind
unfolding lawful
kind_joins = record {
  same = λ a. eq_kind_eq (join_kind a a) a (both_left (eq_kind (join_kind a a) a) _ (lawful_at a a a));
  comm = λ a b. eq_kind_eq (join_kind a b) (join_kind b a) (both_left (eq_kind (join_kind a b) (join_kind b a)) _ (both_right (eq_kind (join_kind a a) a) _ (lawful_at a b a)));
  assoc = λ a b c. eq_kind_eq _ _ (both_right (eq_kind (join_kind a b) (join_kind b a)) _ (both_right (eq_kind (join_kind a a) a) _ (lawful_at a b c)));
}

-- ---- abstract values: a pair of joins

pub value_joins : Joins AbstractValue join
unfolding join
value_joins = record {
  same = λ a i. mk (kind_joins.same a.kind i) (or_joins.same a.reason i);
  comm = λ a b i. mk (kind_joins.comm a.kind b.kind i) (or_joins.comm a.reason b.reason i);
  assoc = λ a b c i. mk (kind_joins.assoc a.kind b.kind c.kind i) (or_joins.assoc a.reason b.reason c.reason i);
}

-- the test `above` says just that joining the second onto the first leaves the first
pub above_says : (a b : AbstractValue) → T (above a b) → Above join a b
unfolding above join contains
above_says a b t i =
    let k : Bool = eq_kind (join_kind a.kind b.kind) a.kind in
    let r : Bool = eqb (join_reasons a.reason b.reason) a.reason in
    mk (eq_kind_eq (join_kind a.kind b.kind) a.kind (both_left k r t) i)
    (eqb→eq (join_reasons a.reason b.reason) a.reason (both_right k r t) i)

eqb_of : (m n : ℕ) → m ≡ n → T (eqb m n)
eqb_of m n e = rw e (eqb_refl n)

pub above_test : (a b : AbstractValue) → Above join a b → T (above a b)
unfolding above join contains
above_test a b e =
    both (eq_kind (join_kind a.kind b.kind) a.kind) (eqb (join_reasons a.reason b.reason) a.reason)
    (eqb_of _ _ (ap (λ (v : AbstractValue). code_of v.kind) e)) (eqb_of _ _ (ap (λ (v : AbstractValue). v.reason) e))

-- the two ways through the test: by the kinds alone, then by the reasons
pub above_same : (a b : AbstractValue) (k : ValueKind) (m n : ℕ) → k ≡ join_kind a.kind b.kind → m ≡ code_of k → n ≡ code_of a.kind → m ≡ n → above a b ≡ contains a b
unfolding above
above_same a b k m n p q r e = rw (← p) (rw (← q, ← r, e) (rw (eqb-true n n refl)))

pub above_other : (a b : AbstractValue) (k : ValueKind) (m n : ℕ) → k ≡ join_kind a.kind b.kind → m ≡ code_of k → n ≡ code_of a.kind → (m ≡ n → ⊥) → above a b ≡ false
unfolding above
above_other a b k m n p q r e = rw (← p) (rw (← q, ← r) (rw (eqb-false m n e)))

-- ---- the order of abstract values, in the words of the test

pub value_above_refl : (a : AbstractValue) → T (above a a)
value_above_refl a = above_test a a (above_refl join value_joins a)

pub value_above_trans : (a b c : AbstractValue) → T (above a b) → T (above b c) → T (above a c)
value_above_trans a b c p q = above_test a c (above_trans join value_joins a b c (above_says a b p) (above_says b c q))

pub value_above_antisym : (a b : AbstractValue) → T (above a b) → T (above b a) → a ≡ b
value_above_antisym a b p q = above_antisym join value_joins a b (above_says a b p) (above_says b a q)

pub value_join_above_left : (a b : AbstractValue) → T (above (join a b) a)
value_join_above_left a b = above_test (join a b) a (join_above_left join value_joins a b)

pub value_join_above_right : (a b : AbstractValue) → T (above (join a b) b)
value_join_above_right a b = above_test (join a b) b (join_above_right join value_joins a b)

pub value_join_least : (a b c : AbstractValue) → T (above c a) → T (above c b) → T (above c (join a b))
value_join_least a b c p q = above_test c (join a b) (join_least join value_joins a b c (above_says c a p) (above_says c b q))

-- ---- a set of 32 bits has no reason past bit 31

pub no_reason : (s n : ℕ) → s < 2 ^ 32 → 32 ≤ n → has_reason s n ≡ false
unfolding has_reason
no_reason s n h l = rw (div-eq_of_lt (lt_of_lt_of_le h (pow_mono l)))

-- nor is there a set of a reason past bit 31
pub no_single : (n : ℕ) → 32 ≤ n → 0 ≡ single n
no_single n h =
    let e : n ≡ n - 32 + 32 = omega arith in
    sym (ap (λ (k : ℕ). 2 ^ k % 4294967296) e ∙ ap (λ (x : ℕ). x % 4294967296) (pow-add 2 (n - 32) 32) ∙ mul-mod_left (2 ^ (n - 32)) 4294967296)
