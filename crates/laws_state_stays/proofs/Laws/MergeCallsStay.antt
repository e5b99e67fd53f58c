-- Accepted states stay accepted under the public calls on two states, of the outcomes that their contracts cite. Assumes nothing.
use Rattle.std.specs.Prelude.{◌≡◌, List, false}
use Rattle.std.proofs.Math.Path.{refl}
use Prim.Native.Nat.{ℕ, zero, suc}
use Rattle.std.proofs.Math.Bool.{Bool}
use Rattle.std.proofs.Common.{arith}
use Rattle.def_effects.specs.declared.Session.{Session}
use Rattle.def_transfer.specs.Merge.{adds, clear_access}
use Rattle.state_adds.specs.Lists.{merge_values, merge_sets, rows_of, merged_values, merged_sets}
use Rattle.refuse_entries.specs.Words.{entries, state_refusal}
use Rattle.def_transfer.specs.Monad.{Done}
use Rattle.state_calls.specs.Calls.{Outcome}
use Rattle.refuse_class.specs.Class.{lower}
use Rattle.state_pairs.specs.MergeCalls.{pair_refusal, third_refusal, refusing, merge, merge_from}
use Rattle.refuse_class.proofs.Laws.Class.{lower_0}
use Rattle.state_pairs.proofs.Laws.Theorems.{pair_accepted, third_fits}
use Rattle.laws_state_stays.specs.Stays.{Stays}
use Rattle.laws_state_stays.proofs.Laws.Merged.{merge_stays, merge_into_stays, clear_stays}

module _ (vs ss ws ts : List ℕ) (s : Session) where
  -- the first state after a merge_from, refused or not, with its session
  -- a refused call leaves the premise; else both states were accepted
  pub merge_from_stays : state_refusal vs ss s.next s.access ≡ 0 → Stays (merge_from vs ss ws ts s)
  unfolding merge_from refusing
  merge_from_stays h = go (pair_refusal vs ss ws ts s) refl
    where
      go : (n : ℕ) → pair_refusal vs ss ws ts s ≡ n → Stays (refusing {A = Outcome Done} n (λ n. record { refusal = n; answer = tt; values = vs; sets = ss; session = s }) (record { refusal = 0; answer = tt; values = merge_values vs ws; sets = merge_sets (rows_of ss) ss ts; session = clear_access s }))
      go zero z = let a = pair_accepted vs ss ws ts s z in clear_stays _ _ _ _ (merge_stays vs ss ws ts s.next s.access s.access a.1 a.2 a.0)
      go (suc n) z = h

  -- the third state after a merge that was not refused: accepted with the session that stays, whether the second added or not
  pub merge_third_stays : (vc sc : List ℕ) → (merge vs ss ws ts s vc sc).refusal ≡ 0 → Stays (merge vs ss ws ts s vc sc)
  unfolding merge refusing
  merge_third_stays vc sc = go (lower (third_refusal ss vc sc) (pair_refusal vs ss ws ts s)) refl
    where
      outcome : ℕ → Outcome Bool
      outcome n = refusing {A = Outcome Bool} n (λ n. record { refusal = n; answer = false; values = vc; sets = sc; session = s }) (record {
        refusal = 0;
        answer = adds (entries vs ss) (entries ws ts);
        values = merged_values (adds (entries vs ss) (entries ws ts)) vc vs ws;
        sets = merged_sets (adds (entries vs ss) (entries ws ts)) sc ss ts;
        session = s;
      })

      go : (n : ℕ) → lower (third_refusal ss vc sc) (pair_refusal vs ss ws ts s) ≡ n → (outcome n).refusal ≡ 0 → Stays (outcome n)
      go zero z e =
          let l = lower_0 (third_refusal ss vc sc) (pair_refusal vs ss ws ts s) z in
          let a = pair_accepted vs ss ws ts s l.1 in
          let t = third_fits ss vc sc l.0 in
          merge_into_stays vs ss ws ts s.next s.access s.access a.1 a.2 a.0 (adds (entries vs ss) (entries ws ts)) vc sc t.0 t.1
      go (suc n) z e = absurd (omega arith)
