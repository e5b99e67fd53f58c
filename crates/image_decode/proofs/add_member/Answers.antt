-- `image_decode::add_member` meets its contract: value 0 adds nothing. Assumes nothing.
use Rattle.image_decode.proofs.Laws.State.{member_none, member_some}
use Rattle.image_decode.proofs.add_member.Goals as goal

pub returns-then-v-ne0 : goal.returns-then-v-ne0
returns-then-v-ne0 c =
    member_some _ _ c.args.v c.if-v-ne0.true c.add_value.ensures

pub returns-else-v-ne0 : goal.returns-else-v-ne0
returns-else-v-ne0 c = member_none _ c.args.v c.if-v-ne0.false
