-- What a call on two lent states does where it is not refused: it is the order of states, merge and merge_from of their entries, and the merged
-- state is the least above both. Where it is refused, all is as it was. Assumes nothing.
use Prim.Native.Nat.{ℕ, zero, suc, ◌≤◌}
use Rattle.std.proofs.Common.{arith, ◌∙◌, subst, inl, inr, ⊎_elim}
use Rattle.std.specs.Prelude.{◌≡◌, true, not, ◌||◌, List, ◌⊎◌, T, eqb, length, None, Some}
use Rattle.std.proofs.Math.Path.{refl, sym, ap}
use Rattle.std.proofs.Math.Bool.{Bool, false}
use Rattle.base_tests.specs.Tests.{ite}
use Rattle.base_tests.proofs.Laws.Choice.{ite_eq, ite_ne, the}
use Rattle.lent_sets.proofs.Laws.Row.{Fit}
use Rattle.base_tests.proofs.Laws.Order.{same_or_not}
use Rattle.def_effects.specs.declared.Session.{Session}
use Rattle.def_transfer.specs.Monad.{Done}
use Rattle.def_transfer.specs.Merge.{Entries, nothing, above, adds, joined, clear_access}
use Rattle.def_transfer.specs.Merge as Merge
use Rattle.laws_merge.proofs.Laws.Merge.{adds_not_above, joined_above_left, joined_above_right, joined_least}
use Rattle.refuse_entries.specs.Words.{state_refusal, identifiers, entries}
use Rattle.refuse_entries.proofs.Laws.Accepted.{refusal_one, accepted_lent}
use Rattle.state_adds.specs.Lists.{merge_values, merge_sets, rows_of, merged_values, merged_sets}
use Rattle.state_adds.proofs.Laws.MergeList.{rows_of_is, merged_joined, merged_from, into_joined, into_merge, into_nothing}
use Rattle.state_calls.specs.Calls.{Outcome}
use Rattle.refuse_class.specs.Class.{lower}
use Rattle.state_pairs.specs.MergeCalls.{Compared, wrong_length, pair_refusal, third_refusal, refusing, kept_flag, merge_answer, session_answer, is_above, merge, merge_from}
use Rattle.state_pairs.proofs.Laws.MergeCall.{length_fits, length_wrong, length_0, is_refused, is_done, flag_kept, flag_none}
use Rattle.refuse_class.proofs.Laws.Class.{lower_none, lower_alone, lower_first, lower_0}

-- ---- the number of a call: "order 1 to 5 over the whole input"

-- the numbers with which a state can be refused, and 0
-- `refusal_one` says that there are no others
abbrev Class : ℕ → Type 0
Class n = (n ≡ 0) ⊎ ((n ≡ 1) ⊎ ((n ≡ 3) ⊎ (n ≡ 4)))

-- 1 where either of two is 1, else 3 where either is 3, else 4 where either is 4
-- the table of document 01, for what a state can earn
abbrev pub first_of : ℕ → ℕ → ℕ
first_of a b = ite (eqb a 1 || eqb b 1) 1 (ite (eqb a 3 || eqb b 3) 3 (ite (eqb a 4 || eqb b 4) 4 0))

lower_at : (a b x y : ℕ) → a ≡ x → b ≡ y → lower x y ≡ first_of x y → lower a b ≡ first_of a b
lower_at a b x y p q e = ap (λ (n : ℕ). lower n b) p ∙ ap (lower x) q ∙ e ∙ sym (ap (λ (n : ℕ). first_of n b) p ∙ ap (first_of x) q)

lower_classes : (a b : ℕ) → Class a → Class b → lower a b ≡ first_of a b
unfolding lower
lower_classes a b (inl p) (inl q) = lower_at a b 0 0 p q refl
lower_classes a b (inl p) (inr (inl q)) = lower_at a b 0 1 p q refl
lower_classes a b (inl p) (inr (inr (inl q))) = lower_at a b 0 3 p q refl
lower_classes a b (inl p) (inr (inr (inr q))) = lower_at a b 0 4 p q refl
lower_classes a b (inr (inl p)) (inl q) = lower_at a b 1 0 p q refl
lower_classes a b (inr (inl p)) (inr (inl q)) = lower_at a b 1 1 p q refl
lower_classes a b (inr (inl p)) (inr (inr (inl q))) = lower_at a b 1 3 p q refl
lower_classes a b (inr (inl p)) (inr (inr (inr q))) = lower_at a b 1 4 p q refl
lower_classes a b (inr (inr (inl p))) (inl q) = lower_at a b 3 0 p q refl
lower_classes a b (inr (inr (inl p))) (inr (inl q)) = lower_at a b 3 1 p q refl
lower_classes a b (inr (inr (inl p))) (inr (inr (inl q))) = lower_at a b 3 3 p q refl
lower_classes a b (inr (inr (inl p))) (inr (inr (inr q))) = lower_at a b 3 4 p q refl
lower_classes a b (inr (inr (inr p))) (inl q) = lower_at a b 4 0 p q refl
lower_classes a b (inr (inr (inr p))) (inr (inl q)) = lower_at a b 4 1 p q refl
lower_classes a b (inr (inr (inr p))) (inr (inr (inl q))) = lower_at a b 4 3 p q refl
lower_classes a b (inr (inr (inr p))) (inr (inr (inr q))) = lower_at a b 4 4 p q refl

-- a wrong length comes before all else, and a right one says nothing
lower_length : (m n x : ℕ) → lower (wrong_length m n) x ≡ ite (eqb m n) x 1
lower_length m n x = ⊎_elim
    (λ e. sym (lower_none (wrong_length m n) x (sym (length_fits m n e))) ∙ sym (ite_eq m n x 1 e))
    (λ h. ap (λ (k : ℕ). lower k x) (sym (length_wrong m n h)) ∙ sym one ∙ sym (ite_ne m n x 1 h))
    (same_or_not m n)
  where
    no : ◌≡◌ {A = ℕ} 1 0 → ⊥
    no e = omega arith

    one : 1 ≡ lower 1 x
    one = ⊎_elim (λ z. lower_alone 1 x no z) (λ h. lower_first 1 x no h (omega arith)) (same_or_not x 0)

-- two states: 1 where their sets differ in length, else the lower class of the two
pub pair_number : (vs ss ws ts : List ℕ) (s : Session)
    → pair_refusal vs ss ws ts s ≡ ite (eqb (length ts) (length ss)) (first_of (state_refusal vs ss s.next s.access) (state_refusal ws ts s.next s.access)) 1
unfolding pair_refusal
pair_number vs ss ws ts s =
    lower_length (length ts) (length ss) _
    ∙ ap (λ (x : ℕ). ite (eqb (length ts) (length ss)) x 1)
    (lower_classes _ _ (refusal_one vs ss s.next s.access) (refusal_one ws ts s.next s.access))

-- two lengths, the same
lower_lengths : (m n k l x : ℕ) → lower (lower (wrong_length m n) (wrong_length k l)) x ≡ ite (eqb m n) (ite (eqb k l) x 1) 1
lower_lengths m n k l x = ⊎_elim
    (λ e. ap (λ (y : ℕ). lower y x) (lower_length m n (wrong_length k l) ∙ ite_eq m n (wrong_length k l) 1 e) ∙ lower_length k l x ∙ sym (ite_eq m n (ite (eqb k l) x 1) 1 e))
    (λ h. ap (λ (y : ℕ). lower y x) (lower_length m n (wrong_length k l) ∙ ite_ne m n (wrong_length k l) 1 h ∙ length_wrong m n h) ∙ lower_length m n x ∙ ite_ne m n x 1 h ∙ sym (ite_ne m n (ite (eqb k l) x 1) 1 h))
    (same_or_not m n)

-- a third state: 1 where it has another length, else the number of the two
pub third_number : (vs ss ws ts : List ℕ) (s : Session) (vc sc : List ℕ)
    → lower (third_refusal ss vc sc) (pair_refusal vs ss ws ts s) ≡ ite (eqb (length vc) 1024) (ite (eqb (length sc) (length ss)) (pair_refusal vs ss ws ts s) 1) 1
unfolding third_refusal
third_number vs ss ws ts s vc sc = lower_lengths (length vc) 1024 (length sc) (length ss) (pair_refusal vs ss ws ts s)

-- ---- two states that are not refused

-- what is known of their lists: 1,024 words of values each, and 16 words for each of the same identifiers, of which there are at most 512
pub record Pair (vs ss ws ts : List ℕ) : Type 0 where
  pub values1 : length vs ≡ 1024
  pub values2 : length ws ≡ 1024
  pub sets1 : Fit (identifiers ss) ss
  pub sets2 : Fit (identifiers ss) ts
  pub most : identifiers ss ≤ 512

module _ (vs ss ws ts : List ℕ) (s : Session) where
  -- both are accepted, and have as many identifiers
  pub pair_accepted : pair_refusal vs ss ws ts s ≡ 0 → (length ts ≡ length ss) × (state_refusal vs ss s.next s.access ≡ 0) × (state_refusal ws ts s.next s.access ≡ 0)
  unfolding pair_refusal
  pair_accepted z =
      let a = lower_0 (wrong_length (length ts) (length ss)) _ z in
      let b = lower_0 (state_refusal vs ss s.next s.access) _ a.1 in
      (length_0 (length ts) (length ss) a.0, b.0, b.1)

  pub pair_fits : pair_refusal vs ss ws ts s ≡ 0 → Pair vs ss ws ts
  pair_fits z =
      let a = pair_accepted z in
      let l = accepted_lent vs ss s.next s.access a.1 in
      let m = accepted_lent ws ts s.next s.access a.2 in
      record { values1 = l.values_length; values2 = m.values_length; sets1 = l.sets_length; sets2 = a.0 ∙ l.sets_length; most = l.most }

-- the third state of a merge is as long as the first
pub third_fits : (ss vc sc : List ℕ) → third_refusal ss vc sc ≡ 0 → (length vc ≡ 1024) × (length sc ≡ length ss)
unfolding third_refusal
third_fits ss vc sc z =
    let a = lower_0 (wrong_length (length vc) 1024) _ z in
    (length_0 (length vc) 1024 a.0, length_0 (length sc) (length ss) a.1)

-- ---- is_above

module _ (vs ss ws ts : List ℕ) (s : Session) where
  -- its number is that of the two states
  pub above_number : (is_above vs ss ws ts s).refusal ≡ pair_refusal vs ss ws ts s
  unfolding is_above refusing
  above_number = go (pair_refusal vs ss ws ts s)
    where
      go : (n : ℕ) → (refusing {A = Compared} n (λ k. record { refusal = k; answer = false }) (record { refusal = 0; answer = above (entries vs ss) (entries ws ts) })).refusal ≡ n
      go zero = refl
      go (suc n) = refl

  -- a refusal answers false
  pub above_no : ((is_above vs ss ws ts s).refusal ≡ 0 → ⊥) → (is_above vs ss ws ts s).answer ≡ false
  unfolding is_above
  above_no h = sym (ap (λ (x : Compared). x.answer) (is_refused (λ k. the Compared (record { refusal = k; answer = false })) _ _ _ above_number h))

  -- the answer says whether the first is above or equal to the second
  pub above_answers : (is_above vs ss ws ts s).refusal ≡ 0 → (is_above vs ss ws ts s).answer ≡ above (entries vs ss) (entries ws ts)
  unfolding is_above
  above_answers z = sym (ap (λ (x : Compared). x.answer) (is_done (λ k. the Compared (record { refusal = k; answer = false })) _ (pair_refusal vs ss ws ts s) (sym above_number ∙ z)))

-- ---- merge

module _ (vs ss ws ts : List ℕ) (s : Session) (vc sc : List ℕ) where
  -- its number is the lower one of the third state's and of the other two
  pub merge_number : (merge vs ss ws ts s vc sc).refusal ≡ lower (third_refusal ss vc sc) (pair_refusal vs ss ws ts s)
  unfolding merge refusing
  merge_number = go (lower (third_refusal ss vc sc) (pair_refusal vs ss ws ts s))
    where
      b : Bool
      b = adds (entries vs ss) (entries ws ts)

      go : (n : ℕ) → (refusing {A = Outcome Bool} n (λ k. record { refusal = k; answer = false; values = vc; sets = sc; session = s }) (record { refusal = 0; answer = b; values = merged_values b vc vs ws; sets = merged_sets b sc ss ts; session = s })).refusal ≡ n
      go zero = refl
      go (suc n) = refl

  -- the session stays, refused or not
  pub merge_session : (merge vs ss ws ts s vc sc).session ≡ s
  unfolding merge refusing
  merge_session = go (lower (third_refusal ss vc sc) (pair_refusal vs ss ws ts s))
    where
      b : Bool
      b = adds (entries vs ss) (entries ws ts)

      go : (n : ℕ) → (refusing {A = Outcome Bool} n (λ k. record { refusal = k; answer = false; values = vc; sets = sc; session = s }) (record { refusal = 0; answer = b; values = merged_values b vc vs ws; sets = merged_sets b sc ss ts; session = s })).session ≡ s
      go zero = refl
      go (suc n) = refl

  -- a refusal leaves the third state
  pub merge_untouched : ((merge vs ss ws ts s vc sc).refusal ≡ 0 → ⊥) → ((merge vs ss ws ts s vc sc).answer ≡ false) × ((merge vs ss ws ts s vc sc).values ≡ vc) × ((merge vs ss ws ts s vc sc).sets ≡ sc)
  unfolding merge
  merge_untouched h =
      let r = is_refused (λ k. the (Outcome Bool) (record { refusal = k; answer = false; values = vc; sets = sc; session = s })) _ _ _ merge_number h in
      (sym (ap (λ (x : Outcome Bool). x.answer) r), sym (ap (λ (x : Outcome Bool). x.values) r), sym (ap (λ (x : Outcome Bool). x.sets) r))

  -- ---- the function-expression flag, of the answer that the contract cites

  module _ (left right : Bool) where
    -- "a merge keeps the left function-expression flag": where the second adds to the first, the third state has the first one's, whatever the second's is
    pub merge_keeps_left_flag : (merge vs ss ws ts s vc sc).answer ≡ true → (merge_answer left right (merge vs ss ws ts s vc sc)).flag ≡ left
    merge_keeps_left_flag e = sym (flag_kept left right _ e)

    -- "which is empty at None": the empty state's flag is no
    pub merge_none_flag : (merge vs ss ws ts s vc sc).answer ≡ false → (merge_answer left right (merge vs ss ws ts s vc sc)).flag ≡ false
    merge_none_flag e = sym (flag_none left right _ e)

    -- so a refusal answers no flag
    pub merge_refused_flag : ((merge vs ss ws ts s vc sc).refusal ≡ 0 → ⊥) → (merge_answer left right (merge vs ss ws ts s vc sc)).flag ≡ false
    merge_refused_flag h = merge_none_flag (merge_untouched h).0

  module _ (z : (merge vs ss ws ts s vc sc).refusal ≡ 0) where
    numbers : (third_refusal ss vc sc ≡ 0) × (pair_refusal vs ss ws ts s ≡ 0)
    numbers = lower_0 _ _ (sym merge_number ∙ z)

    pair : Pair vs ss ws ts
    pair = pair_fits vs ss ws ts s numbers.1

    third : (length vc ≡ 1024) × (Fit (identifiers ss) sc)
    third = let t = third_fits ss vc sc numbers.0 in (t.0, t.1 ∙ pair.sets1)

    -- the answer says whether the second adds anything to the first
    pub merge_answers : (merge vs ss ws ts s vc sc).answer ≡ adds (entries vs ss) (entries ws ts)
    unfolding merge
    merge_answers = sym (ap (λ (x : Outcome Bool). x.answer) (is_done (λ k. the (Outcome Bool) (record { refusal = k; answer = false; values = vc; sets = sc; session = s })) _ _ (sym merge_number ∙ z)))

    -- so it is false exactly if the first is above or equal to the second
    pub merge_answers_above : (merge vs ss ws ts s vc sc).answer ≡ not (above (entries vs ss) (entries ws ts))
    merge_answers_above = merge_answers ∙ adds_not_above (entries vs ss) (entries ws ts)

    -- the lists of the third state, by the answer
    third_lists : (b : Bool) → (merge vs ss ws ts s vc sc).answer ≡ b → ((merge vs ss ws ts s vc sc).values ≡ merged_values b vc vs ws) × ((merge vs ss ws ts s vc sc).sets ≡ merged_sets b sc ss ts)
    unfolding merge
    third_lists b e =
        let r = is_done (λ k. the (Outcome Bool) (record { refusal = k; answer = false; values = vc; sets = sc; session = s })) _ _ (sym merge_number ∙ z) in
        let a : adds (entries vs ss) (entries ws ts) ≡ b = sym merge_answers ∙ e in (
          sym (ap (λ (x : Outcome Bool). x.values) r) ∙ ap (λ (x : Bool). merged_values x vc vs ws) a,
          sym (ap (λ (x : Outcome Bool). x.sets) r) ∙ ap (λ (x : Bool). merged_sets x sc ss ts) a,
        )

    third_entries : (b : Bool) → (merge vs ss ws ts s vc sc).answer ≡ b → entries (merge vs ss ws ts s vc sc).values (merge vs ss ws ts s vc sc).sets ≡ entries (merged_values b vc vs ws) (merged_sets b sc ss ts)
    third_entries b e =
        let l = third_lists b e in
        ap (λ (x : List ℕ). entries x (merge vs ss ws ts s vc sc).sets) l.0 ∙ ap (entries (merged_values b vc vs ws)) l.1

    -- at yes the third state is what merge of the entries yields
    pub merge_yields : (merge vs ss ws ts s vc sc).answer ≡ true → Merge.merge (entries vs ss) (entries ws ts) ≡ Some (entries (merge vs ss ws ts s vc sc).values (merge vs ss ws ts s vc sc).sets)
    merge_yields e =
        into_merge (identifiers ss) vs ss ws ts vc sc pair.values1 pair.values2 third.0 pair.sets1 pair.sets2 third.1 pair.most true (sym e ∙ merge_answers)
        ∙ ap Some (sym (third_entries true e))

    -- at no merge of the entries yields none, and the third state is empty
    pub merge_yields_none : (merge vs ss ws ts s vc sc).answer ≡ false → (Merge.merge (entries vs ss) (entries ws ts) ≡ None) × (entries (merge vs ss ws ts s vc sc).values (merge vs ss ws ts s vc sc).sets ≡ nothing)
    merge_yields_none e = (
      into_merge (identifiers ss) vs ss ws ts vc sc pair.values1 pair.values2 third.0 pair.sets1 pair.sets2 third.1 pair.most false (sym e ∙ merge_answers),
      third_entries false e ∙ into_nothing (identifiers ss) vs ss ws ts vc sc pair.values1 pair.values2 third.0 pair.sets1 pair.sets2 third.1 pair.most,
    )

    -- "merge yields None exactly if the other adds nothing"
    pub merge_no_when : adds (entries vs ss) (entries ws ts) ≡ false → (merge vs ss ws ts s vc sc).answer ≡ false
    merge_no_when e = merge_answers ∙ e

    pub merge_no_only : (merge vs ss ws ts s vc sc).answer ≡ false → adds (entries vs ss) (entries ws ts) ≡ false
    merge_no_only e = sym merge_answers ∙ e

    -- the third state is the joined one at yes
    pub merge_joined : (merge vs ss ws ts s vc sc).answer ≡ true → entries (merge vs ss ws ts s vc sc).values (merge vs ss ws ts s vc sc).sets ≡ joined (entries vs ss) (entries ws ts)
    merge_joined e =
        third_entries true e
        ∙ into_joined (identifiers ss) vs ss ws ts vc sc pair.values1 pair.values2 third.0 pair.sets1 pair.sets2 third.1 pair.most

    -- so it is above or equal to both, and below or equal to each state that is
    pub merge_above_first : (merge vs ss ws ts s vc sc).answer ≡ true → T (above (entries (merge vs ss ws ts s vc sc).values (merge vs ss ws ts s vc sc).sets) (entries vs ss))
    merge_above_first e = subst (λ (x : Entries). T (above x (entries vs ss))) (sym (merge_joined e)) (joined_above_left (entries vs ss) (entries ws ts))

    pub merge_above_second : (merge vs ss ws ts s vc sc).answer ≡ true → T (above (entries (merge vs ss ws ts s vc sc).values (merge vs ss ws ts s vc sc).sets) (entries ws ts))
    merge_above_second e = subst (λ (x : Entries). T (above x (entries ws ts))) (sym (merge_joined e)) (joined_above_right (entries vs ss) (entries ws ts))

    pub merge_least : (merge vs ss ws ts s vc sc).answer ≡ true → (u : Entries) → T (above u (entries vs ss)) → T (above u (entries ws ts)) → T (above u (entries (merge vs ss ws ts s vc sc).values (merge vs ss ws ts s vc sc).sets))
    merge_least e u p q = subst (λ (x : Entries). T (above u x)) (sym (merge_joined e)) (joined_least (entries vs ss) (entries ws ts) u p q)

-- ---- merge_from

module _ (vs ss ws ts : List ℕ) (s : Session) where
  -- its number is that of the two states
  pub from_number : (merge_from vs ss ws ts s).refusal ≡ pair_refusal vs ss ws ts s
  unfolding merge_from refusing
  from_number = go (pair_refusal vs ss ws ts s)
    where
      go : (n : ℕ) → (refusing {A = Outcome Done} n (λ k. record { refusal = k; answer = tt; values = vs; sets = ss; session = s }) (record { refusal = 0; answer = tt; values = merge_values vs ws; sets = merge_sets (rows_of ss) ss ts; session = clear_access s })).refusal ≡ n
      go zero = refl
      go (suc n) = refl

  -- a refusal leaves the first state and the session
  pub from_untouched : ((merge_from vs ss ws ts s).refusal ≡ 0 → ⊥) → ((merge_from vs ss ws ts s).values ≡ vs) × ((merge_from vs ss ws ts s).sets ≡ ss) × ((merge_from vs ss ws ts s).session ≡ s)
  unfolding merge_from
  from_untouched h =
      let r = is_refused (λ k. the (Outcome Done) (record { refusal = k; answer = tt; values = vs; sets = ss; session = s })) _ _ _ from_number h in
      (sym (ap (λ (x : Outcome Done). x.values) r), sym (ap (λ (x : Outcome Done). x.sets) r), sym (ap (λ (x : Outcome Done). x.session) r))

  -- "a merge keeps the left function-expression flag": refused or not, the first state has its own flag, whatever the second's is
  pub from_keeps_left_flag : (left right : Bool) → (session_answer left right (merge_from vs ss ws ts s)).flag ≡ left
  unfolding kept_flag
  from_keeps_left_flag left right = refl

  module _ (z : (merge_from vs ss ws ts s).refusal ≡ 0) where
    from_pair : Pair vs ss ws ts
    from_pair = pair_fits vs ss ws ts s (sym from_number ∙ z)

    from_lists : ((merge_from vs ss ws ts s).values ≡ merge_values vs ws) × ((merge_from vs ss ws ts s).sets ≡ merge_sets (identifiers ss) ss ts) × ((merge_from vs ss ws ts s).session ≡ clear_access s)
    unfolding merge_from
    from_lists =
        let r = is_done (λ k. the (Outcome Done) (record { refusal = k; answer = tt; values = vs; sets = ss; session = s })) _ _ (sym from_number ∙ z) in (
          sym (ap (λ (x : Outcome Done). x.values) r),
          sym (ap (λ (x : Outcome Done). x.sets) r) ∙ ap (λ (n : ℕ). merge_sets n ss ts) (rows_of_is (identifiers ss) ss from_pair.sets1 from_pair.most),
          sym (ap (λ (x : Outcome Done). x.session) r),
        )

    -- "as in release, the access is cleared"
    pub from_session : (merge_from vs ss ws ts s).session ≡ clear_access s
    from_session = from_lists.2

    -- the first state's entries are joined with the second's
    pub from_joined : entries (merge_from vs ss ws ts s).values (merge_from vs ss ws ts s).sets ≡ joined (entries vs ss) (entries ws ts)
    from_joined =
        ap (λ (x : List ℕ). entries x (merge_from vs ss ws ts s).sets) from_lists.0
        ∙ ap (entries (merge_values vs ws)) from_lists.1
        ∙ merged_joined (identifiers ss) vs ss ws ts from_pair.values1 from_pair.values2 from_pair.sets1 from_pair.sets2

    -- which is merge_from of the entries
    pub from_merges : entries (merge_from vs ss ws ts s).values (merge_from vs ss ws ts s).sets ≡ Merge.merge_from (entries vs ss) (entries ws ts)
    from_merges =
        ap (λ (x : List ℕ). entries x (merge_from vs ss ws ts s).sets) from_lists.0
        ∙ ap (entries (merge_values vs ws)) from_lists.1
        ∙ merged_from (identifiers ss) vs ss ws ts from_pair.values1 from_pair.values2 from_pair.sets1 from_pair.sets2

    -- so it is above or equal to both, and below or equal to each state that is
    pub from_above_first : T (above (entries (merge_from vs ss ws ts s).values (merge_from vs ss ws ts s).sets) (entries vs ss))
    from_above_first = subst (λ (x : Entries). T (above x (entries vs ss))) (sym from_joined) (joined_above_left (entries vs ss) (entries ws ts))

    pub from_above_second : T (above (entries (merge_from vs ss ws ts s).values (merge_from vs ss ws ts s).sets) (entries ws ts))
    from_above_second = subst (λ (x : Entries). T (above x (entries ws ts))) (sym from_joined) (joined_above_right (entries vs ss) (entries ws ts))

    pub from_least : (u : Entries) → T (above u (entries vs ss)) → T (above u (entries ws ts)) → T (above u (entries (merge_from vs ss ws ts s).values (merge_from vs ss ws ts s).sets))
    from_least u p q = subst (λ (x : Entries). T (above u x)) (sym from_joined) (joined_least (entries vs ss) (entries ws ts) u p q)
