-- What the calls on two states mean on plain tables follows from what their contracts said: a law for each call. Assumes nothing.
use Rattle.std.specs.Prelude.{ℕ, ◌≡◌, refl, Bool, true, false, List, Some}
use Rattle.std.proofs.Common.{sym, ap, ap₂, ◌∙◌}
use Rattle.def_effects.specs.declared.Session.{Session}
use Rattle.def_transfer.specs.Merge as Merge
use Rattle.refuse_entries.specs.Words.{entries}
use Rattle.state_pairs.specs.MergeCalls.{Compared, Joined, Merged, merge_answer, session_answer, is_above, merge, merge_from}
use Rattle.state_pairs.specs.Plain.{yielded, MergesPlain, MergesFromPlain, AbovePlain}
use Rattle.state_pairs.proofs.Laws.Theorems.{above_answers, merge_yields, merge_yields_none, from_merges}

module _ (vs ss ws ts : List ℕ) (s : Session) where
  pub above_promise : (r : Compared) → r ≡ is_above vs ss ws ts s → (r ≡ is_above vs ss ws ts s) × AbovePlain (entries vs ss) (entries ws ts) r
  above_promise r h = (h, λ z. ap (λ (x : Compared). x.answer) h ∙ above_answers vs ss ws ts s (sym (ap (λ (x : Compared). x.refusal) h) ∙ z))

  pub from_promise : (left right : Bool) (r : Joined) (us rs : List ℕ)
      → (r ≡ session_answer left right (merge_from vs ss ws ts s)) × (us ≡ (merge_from vs ss ws ts s).values) × (rs ≡ (merge_from vs ss ws ts s).sets)
      → (r ≡ session_answer left right (merge_from vs ss ws ts s)) × (us ≡ (merge_from vs ss ws ts s).values) × (rs ≡ (merge_from vs ss ws ts s).sets) × MergesFromPlain (entries vs ss) (entries ws ts) r (entries us rs)
  from_promise left right r us rs h = (
    h.0,
    h.1,
    h.2,
    λ z. ap₂ entries h.1 h.2 ∙ from_merges vs ss ws ts s (sym (ap (λ (x : Joined). x.refusal) h.0) ∙ z),
  )

  module _ (vc sc : List ℕ) where
    pub merge_promise : (left right : Bool) (r : Merged) (us rs : List ℕ)
        → (r ≡ merge_answer left right (merge vs ss ws ts s vc sc)) × (us ≡ (merge vs ss ws ts s vc sc).values) × (rs ≡ (merge vs ss ws ts s vc sc).sets)
        → (r ≡ merge_answer left right (merge vs ss ws ts s vc sc)) × (us ≡ (merge vs ss ws ts s vc sc).values) × (rs ≡ (merge vs ss ws ts s vc sc).sets) × MergesPlain (entries vs ss) (entries ws ts) r (entries us rs)
    merge_promise left right r us rs h = (h.0, h.1, h.2, record { yields = yields; empty = empty })
      where
        number : r.refusal ≡ (merge vs ss ws ts s vc sc).refusal
        number = ap (λ (x : Merged). x.refusal) h.0

        answer : r.answer ≡ (merge vs ss ws ts s vc sc).answer
        answer = ap (λ (x : Merged). x.answer) h.0

        by : (b : Bool) → (merge vs ss ws ts s vc sc).answer ≡ b → (merge vs ss ws ts s vc sc).refusal ≡ 0 → Merge.merge (entries vs ss) (entries ws ts) ≡ yielded b (entries us rs)
        by true e z = merge_yields vs ss ws ts s vc sc z e ∙ ap₂ (λ (x y : List ℕ). Some (entries x y)) (sym h.1) (sym h.2)
        by false e z = (merge_yields_none vs ss ws ts s vc sc z e).0

        yields : r.refusal ≡ 0 → Merge.merge (entries vs ss) (entries ws ts) ≡ yielded r.answer (entries us rs)
        yields z = by (merge vs ss ws ts s vc sc).answer refl (sym number ∙ z) ∙ ap (λ (b : Bool). yielded b (entries us rs)) (sym answer)

        empty : r.refusal ≡ 0 → r.answer ≡ false → entries us rs ≡ Merge.nothing
        empty z e = ap₂ entries h.1 h.2 ∙ (merge_yields_none vs ss ws ts s vc sc (sym number ∙ z) (sym answer ∙ e)).1
