-- `image_decode::decode_pair` meets its contract: the set in hand starts from nothing and gets the row, then the value. Assumes nothing.
use mathlib.Core.Path.{refl}
use lib.Dec.{lit≤}
use Rattle.lent_sets.specs.Rows.{number}
use Rattle.image_decode.proofs.Laws.State.{pair_is}
use Rattle.image_decode.proofs.decode_pair.Goals as goal

pub returns : goal.returns
unfolding number
returns c =
    pair_is _ _ _ _ _ _ c.args.k _ _ (lit≤ tt) refl c.cell-i.ensures c.cell-v.ensures c.add_set.ensures c.add_member.ensures c.put_set.ensures
