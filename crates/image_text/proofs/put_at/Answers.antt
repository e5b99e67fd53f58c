use Rattle.image_text.proofs.Laws.Text.{put_inside, put_outside}
use Rattle.image_text.proofs.put_at.Goals as goal

pub returns-then-at-buffer : goal.returns-then-at-buffer
returns-then-at-buffer c = put_inside _ _ _ c.if-at-buffer.true

pub returns : goal.returns
returns c = put_outside _ _ _ c.if-at-buffer.false
