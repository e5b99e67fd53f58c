-- To compute with the definitions: a declaration that unfolds `computing` unfolds them all, those of the transfer too. Assumes nothing.
use Rattle.def_transfer.proofs.Laws.Computing as TransferX
use Rattle.def_image.specs.Layout as LayoutX
use Rattle.def_image.specs.Refusals as RefusalsX
use Rattle.def_image.specs.Decode as DecodeX
use Rattle.def_image.specs.Listing as ListingX
use Rattle.def_image.specs.Infer as InferX

unfoldable pub computing : Unit {0}
unfolding TransferX.computing LayoutX.wrong_length LayoutX.words_of LayoutX.bytes_of LayoutX.word LayoutX.size_of LayoutX.count_of LayoutX.offset_of LayoutX.end_of LayoutX.start_of LayoutX.cell RefusalsX.used_words RefusalsX.are_flags RefusalsX.details_of RefusalsX.stray_first RefusalsX.any_record RefusalsX.any_neighbours RefusalsX.is_apply RefusalsX.creates_function RefusalsX.uses RefusalsX.wrong_edition RefusalsX.too_many_records RefusalsX.misplaced RefusalsX.wrong_end RefusalsX.long_function RefusalsX.long_candidate RefusalsX.wrong_header RefusalsX.earns_two RefusalsX.is_in RefusalsX.is_number RefusalsX.passes_end RefusalsX.bad_header RefusalsX.bad_identifier RefusalsX.bad_value RefusalsX.bad_pair RefusalsX.bad_place RefusalsX.needs_known RefusalsX.bad_function RefusalsX.limit_of RefusalsX.bad_word RefusalsX.bad_candidate RefusalsX.earns_three RefusalsX.stray_access RefusalsX.not_yet_fresh RefusalsX.values_unordered RefusalsX.pairs_unordered RefusalsX.empty_not_alone RefusalsX.stray_in_function RefusalsX.stray_word RefusalsX.stray_in_candidate RefusalsX.earns_four RefusalsX.earns_five RefusalsX.refusal_of_words RefusalsX.refusal_of DecodeX.list_from DecodeX.entry_of DecodeX.member_of DecodeX.with_pair DecodeX.place_at DecodeX.places_from DecodeX.value_table DecodeX.set_table DecodeX.identifier_at DecodeX.function_at DecodeX.transitive DecodeX.world_of DecodeX.makers DecodeX.effect_at DecodeX.instruction_of ListingX.ascii ListingX.decimal_before ListingX.decimal ListingX.shown ListingX.shown_all ListingX.line ListingX.lines_from ListingX.effect_lines ListingX.value_line ListingX.set_line ListingX.refusal_line ListingX.shown_lines ListingX.ok_lines ListingX.listing InferX.infer_words InferX.infer
computing = tt
