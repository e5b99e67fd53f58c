-- `image_class2::any_misplaced` meets its contract: what the search of the sections finds. Assumes nothing.
use Rattle.std.proofs.Common.{rules, true, false, ◌≡◌}
use Rattle.std.proofs.lemmas.Iterator.{cases_from_any, YieldsList-from_slice}
use Rattle.def_image.specs.Refusals.{misplaced}
use Rattle.image_class2.specs.Sections.{number_of, sections}
use Rattle.image_class2.proofs.Laws.Any.{any_section_is}
use Rattle.image_class2.proofs.any_misplaced.Goals as goal

pub returns : goal.returns
returns c = any_section_is (misplaced c.args.im.now) c.any.result
    (cases_from_any _ _ _ (λ s. misplaced c.args.im.now (number_of s) ≡ true) (λ s. misplaced c.args.im.now (number_of s) ≡ false) c.any.ensures.ran (YieldsList-from_slice sections c.iter.ensures.rest)
    (λ x q k. search rules) (λ x q k. search rules))
