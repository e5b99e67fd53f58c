-- What the calls on two states mean on plain tables, where a state is its entries: the merges and the order of states themselves.
-- Assumes nothing: these are definitions.
use Rattle.std.specs.Prelude.{◌≡◌, Bool, true, false, Option, None, Some}
use Rattle.def_transfer.specs.Merge.{Entries, above, nothing}
use Rattle.def_transfer.specs.Merge as Merge
use Rattle.state_pairs.specs.MergeCalls.{Compared, Merged, Joined}

-- what merge yields, by the answer
abbrev pub yielded : Bool → Entries → Option Entries
yielded true e = Some e
yielded false e = None

-- where a merge is not refused: "`merge` writes a third lent state, which is empty at None"
pub record MergesPlain (first second : Entries) (r : Merged) (third : Entries) : Type 0 where
  pub yields : r.refusal ≡ 0 → Merge.merge first second ≡ yielded r.answer third
  pub empty : r.refusal ≡ 0 → r.answer ≡ false → third ≡ nothing

-- where it is not refused merge_from leaves what the definition's leaves
abbrev pub MergesFromPlain : Entries → Entries → Joined → Entries → Type 0
MergesFromPlain first second r left = r.refusal ≡ 0 → left ≡ Merge.merge_from first second

-- "One state is above or equal to another if .."
abbrev pub AbovePlain : Entries → Entries → Compared → Type 0
AbovePlain first second r = r.refusal ≡ 0 → r.answer ≡ above first second
