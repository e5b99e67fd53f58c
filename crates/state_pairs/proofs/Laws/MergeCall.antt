-- How a call on two states comes to its outcome: the ways through the code, a law each. Assumes nothing.
use Prim.Native.Nat.{ℕ, zero, suc}
use Rattle.std.proofs.Common.{arith, ap₂, ◌∙◌, ⊎_elim}
use Rattle.std.specs.Prelude.{◌≡◌, refl, Bool, true, List, length, Option, Result, Ok, Err, IsErrAnd}
use Rattle.std.proofs.Math.Path.{sym, ap}
use Rattle.std.proofs.Math.Bool.{false}
use Rattle.base_tests.proofs.Laws.Choice.{ite_eq, ite_ne, the}
use Rattle.base_tests.proofs.Laws.Order.{same_or_not}
use Rattle.def_effects.specs.declared.Session.{Session}
use Rattle.def_transfer.specs.Monad.{Done}
use Rattle.def_transfer.specs.Merge.{above, adds, clear_access}
use Rattle.refuse_entries.specs.Words.{state_refusal, entries}
use Rattle.state_adds.specs.Lists.{merge_values, merge_sets, rows_of, merged_values, merged_sets}
use Rattle.state_calls.specs.Calls.{Outcome}
use Rattle.state_pairs.specs.MergeCalls as MergeCalls
use Rattle.refuse_class.specs.Class.{lower}
use Rattle.state_pairs.specs.MergeCalls.{wrong_length, pair_refusal, third_refusal, refusing, kept_flag, merged_flag, Compared, Merged, Joined, above_said, merge_said, from_said, merge_answer, session_answer}
use Rattle.state_pairs.specs.declared.SessionAnswer.{SessionAnswer}
use Rattle.std.specs.Bool.{then_some}
use Rattle.def_refusals.specs.declared.Refusal.{Refusal}
use Rattle.def_refusals.specs.Verdicts.{number_of}
use Rattle.def_refusals.proofs.Laws.Verdicts.{number_some}

-- ---- a length

module _ (m n : ℕ) where
  pub length_fits : m ≡ n → 0 ≡ wrong_length m n
  unfolding wrong_length
  length_fits e = sym (ite_eq m n 0 1 e)

  pub length_wrong : (m ≡ n → ⊥) → 1 ≡ wrong_length m n
  unfolding wrong_length
  length_wrong h = sym (ite_ne m n 0 1 h)

  pub length_0 : wrong_length m n ≡ 0 → m ≡ n
  length_0 z = ⊎_elim (λ e. e) (λ h. absurd (let d : ◌≡◌ {A = ℕ} 1 0 = length_wrong h ∙ z in omega arith)) (same_or_not m n)

-- ---- the refusal of two states, and of a third

-- the parts are those that the code asks for
-- either state's number, and whether the lengths differ
pub pair_is : (vs ss ws ts : List ℕ) (s : Session) (d a b l r : ℕ) → d ≡ wrong_length (length ts) (length ss) → a ≡ state_refusal vs ss s.next s.access → b ≡ state_refusal ws ts s.next s.access
    → l ≡ lower a b → r ≡ lower d l → r ≡ pair_refusal vs ss ws ts s
unfolding pair_refusal
pair_is vs ss ws ts s d a b l r e f g h k = k ∙ ap₂ lower e (h ∙ ap₂ lower f g)

pub third_is : (ss vc sc : List ℕ) (a b r : ℕ) → a ≡ wrong_length (length vc) 1024 → b ≡ wrong_length (length sc) (length ss) → r ≡ lower a b → r ≡ third_refusal ss vc sc
unfolding third_refusal
third_is ss vc sc a b r e f h = h ∙ ap₂ lower e f

-- ---- refused, or done

module _ {A : Type 0} (kept : ℕ → A) (does : A) where
  pub is_refused : (n k : ℕ) → n ≡ k → (n ≡ 0 → ⊥) → kept n ≡ refusing k kept does
  unfolding refusing
  is_refused zero k e h = absurd (h refl)
  is_refused (suc n) k e h = ap (λ (x : ℕ). refusing x kept does) e

  pub is_done : (k : ℕ) → k ≡ 0 → does ≡ refusing k kept does
  unfolding refusing
  is_done k z = sym (ap (λ (x : ℕ). refusing x kept does) z)

-- ---- the flag of the third state

module _ (left right : Bool) where
  pub flag_kept : (b : Bool) → b ≡ true → left ≡ merged_flag b left right
  unfolding kept_flag merged_flag
  flag_kept b e = sym (ap (λ (x : Bool). merged_flag x left right) e)

  pub flag_none : (b : Bool) → b ≡ false → false ≡ merged_flag b left right
  unfolding merged_flag
  flag_none b e = sym (ap (λ (x : Bool). merged_flag x left right) e)

-- ---- how each call ends

module _ (vs ss ws ts : List ℕ) (s : Session) where
  pub above_refused : (r : Refusal) → number_of r ≡ pair_refusal vs ss ws ts s → the Compared (record { refusal = number_of r; answer = false }) ≡ MergeCalls.is_above vs ss ws ts s
  unfolding MergeCalls.is_above
  above_refused r e = is_refused (λ k. record { refusal = k; answer = false }) _ (number_of r) (pair_refusal vs ss ws ts s) e (number_some r)

  pub above_ends : (b : Bool) → 0 ≡ pair_refusal vs ss ws ts s → b ≡ above (entries vs ss) (entries ws ts) → the Compared (record { refusal = 0; answer = b }) ≡ MergeCalls.is_above vs ss ws ts s
  unfolding MergeCalls.is_above
  above_ends b e g =
      ap (λ (x : Bool). the Compared (record { refusal = 0; answer = x })) g
      ∙ is_done (λ k. record { refusal = k; answer = false }) _ (pair_refusal vs ss ws ts s) (sym e)

  pub from_refused : (left right : Bool) (r : Refusal) → number_of r ≡ pair_refusal vs ss ws ts s
      → (the Joined (record { refusal = number_of r; session = s; flag = left }) ≡ session_answer left right (MergeCalls.merge_from vs ss ws ts s)) × (vs ≡ (MergeCalls.merge_from vs ss ws ts s).values) × (ss ≡ (MergeCalls.merge_from vs ss ws ts s).sets)
  unfolding MergeCalls.merge_from kept_flag
  from_refused left right r e =
      let q = is_refused (λ k. the (Outcome Done) (record { refusal = k; answer = tt; values = vs; sets = ss; session = s })) _ (number_of r) (pair_refusal vs ss ws ts s) e (number_some r) in
      (ap (session_answer left right) q, ap (λ (x : Outcome Done). x.values) q, ap (λ (x : Outcome Done). x.sets) q)

  pub from_ends : (left right : Bool) (vs' ss' : List ℕ) → 0 ≡ pair_refusal vs ss ws ts s → vs' ≡ merge_values vs ws → ss' ≡ merge_sets (rows_of ss) ss ts
      → (the Joined (record { refusal = 0; session = clear_access s; flag = left }) ≡ session_answer left right (MergeCalls.merge_from vs ss ws ts s)) × (vs' ≡ (MergeCalls.merge_from vs ss ws ts s).values) × (ss' ≡ (MergeCalls.merge_from vs ss ws ts s).sets)
  unfolding MergeCalls.merge_from kept_flag
  from_ends left right vs' ss' e f g =
      let q = is_done (λ k. the (Outcome Done) (record { refusal = k; answer = tt; values = vs; sets = ss; session = s })) _ (pair_refusal vs ss ws ts s) (sym e) in
      (ap (session_answer left right) q, f ∙ ap (λ (x : Outcome Done). x.values) q, g ∙ ap (λ (x : Outcome Done). x.sets) q)

module _ (vs ss ws ts : List ℕ) (s : Session) (vc sc : List ℕ) where
  pub merge_refused : (left right : Bool) (r : Refusal) → number_of r ≡ lower (third_refusal ss vc sc) (pair_refusal vs ss ws ts s)
      → (the Merged (record { refusal = number_of r; answer = false; flag = false }) ≡ merge_answer left right (MergeCalls.merge vs ss ws ts s vc sc)) × (vc ≡ (MergeCalls.merge vs ss ws ts s vc sc).values) × (sc ≡ (MergeCalls.merge vs ss ws ts s vc sc).sets)
  unfolding MergeCalls.merge merged_flag
  merge_refused left right r e =
      let q = is_refused (λ k. the (Outcome Bool) (record { refusal = k; answer = false; values = vc; sets = sc; session = s })) _ (number_of r) _ e (number_some r) in
      (ap (merge_answer left right) q, ap (λ (x : Outcome Bool). x.values) q, ap (λ (x : Outcome Bool). x.sets) q)

  -- the third state has its flag where the second adds to the first
  flagged : (left right b : Bool) → the Merged (merge_said (Ok (then_some b left))) ≡ record { refusal = 0; answer = b; flag = merged_flag b left right }
  unfolding kept_flag merged_flag
  flagged left right true = refl
  flagged left right false = refl

  pub merge_ends : (left right b : Bool) (o : Option Bool) (vd sd : List ℕ) → 0 ≡ lower (third_refusal ss vc sc) (pair_refusal vs ss ws ts s)
      → (b ≡ adds (entries vs ss) (entries ws ts)) × (vd ≡ merged_values b vc vs ws) × (sd ≡ merged_sets b sc ss ts) → o ≡ then_some b left
      → (merge_said (Ok o) ≡ merge_answer left right (MergeCalls.merge vs ss ws ts s vc sc)) × (vd ≡ (MergeCalls.merge vs ss ws ts s vc sc).values) × (sd ≡ (MergeCalls.merge vs ss ws ts s vc sc).sets)
  unfolding MergeCalls.merge
  merge_ends left right b o vd sd e h k =
      let q = is_done (λ k. the (Outcome Bool) (record { refusal = k; answer = false; values = vc; sets = sc; session = s })) _ _ (sym e) in (
        ap (λ (x : Option Bool). merge_said (Ok x)) k
            ∙ flagged left right b
            ∙ ap (λ (x : Bool). the Merged (record { refusal = 0; answer = x; flag = merged_flag x left right })) h.0
            ∙ ap (merge_answer left right) q,
        h.1 ∙ ap (λ (x : Bool). merged_values x vc vs ws) h.0 ∙ ap (λ (x : Outcome Bool). x.values) q,
        h.2 ∙ ap (λ (x : Bool). merged_sets x sc ss ts) h.0 ∙ ap (λ (x : Outcome Bool). x.sets) q,
      )

-- ---- a Result that is the refusal that a test came to

pub above_err : (w : Result Bool Refusal) (r : Refusal) → IsErrAnd w (λ e. e ≡ r) → above_said w ≡ record { refusal = number_of r; answer = false }
above_err (Err e) r h = ap (λ (x : Refusal). the Compared (record { refusal = number_of x; answer = false })) h
above_err (Ok b) r h = absurd h

pub merge_err : (w : Result (Option Bool) Refusal) (r : Refusal) → IsErrAnd w (λ e. e ≡ r) → merge_said w ≡ record { refusal = number_of r; answer = false; flag = false }
merge_err (Err e) r h = ap (λ (x : Refusal). the Merged (record { refusal = number_of x; answer = false; flag = false })) h
merge_err (Ok b) r h = absurd h

pub from_err : (s : Session) (left : Bool) (w : Result SessionAnswer Refusal) (r : Refusal) → IsErrAnd w (λ e. e ≡ r) → from_said s left w ≡ record { refusal = number_of r; session = s; flag = left }
from_err s left (Err e) r h = ap (λ (x : Refusal). the Joined (record { refusal = number_of x; session = s; flag = left })) h
from_err s left (Ok b) r h = absurd h
