-- Case 14* of document 01, of the call: "A state merged with itself: None." Assumes nothing.
use Rattle.std.specs.Prelude.{ℕ, ◌≡◌, refl, Bool, true, false, not, List, T}
use Rattle.std.proofs.Common.{ap, ◌∙◌}
use Rattle.def_effects.specs.declared.Session.{Session}
use Rattle.def_transfer.specs.Merge.{above}
use Rattle.laws_merge.proofs.Laws.Merge.{state_above_refl}
use Rattle.refuse_entries.specs.Words.{entries}
use Rattle.state_pairs.specs.MergeCalls.{merge}
use Rattle.state_pairs.proofs.Laws.Theorems.{merge_answers_above}

passed : (b : Bool) → T b → b ≡ true
passed true t = refl
passed false t = absurd t

pub case_14 : (vs ss : List ℕ) (s : Session) (vc sc : List ℕ) → (merge vs ss vs ss s vc sc).refusal ≡ 0 → (merge vs ss vs ss s vc sc).answer ≡ false
case_14 vs ss s vc sc z = merge_answers_above vs ss vs ss s vc sc z ∙ ap not (passed (above (entries vs ss) (entries vs ss)) (state_above_refl (entries vs ss)))
