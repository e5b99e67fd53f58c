-- `image_decode_candidates::decode_creation` meets its contract: code, destination, function, count, captures. Assumes nothing.
use Rattle.std.proofs.Common.{refl}
use Rattle.image_decode.proofs.Laws.Candidate.{creation_is}
use Rattle.image_decode_candidates.proofs.decode_creation.Goals as goal

pub returns : goal.returns
returns c =
    creation_is _ _ _ _ _ _ _ _ c.args.k _ _ _ _ _ refl c.cell-first.ensures c.cell-n.ensures c.put_field.ensures c.second_at.ensures c.put_place.ensures c.cell.ensures c.put_field-2.ensures c.put_field-3.ensures c.put_run.ensures
