-- To compute with the definitions: a declaration that unfolds `computing` unfolds them all. Assumes nothing.
use Rattle.base_orders.specs.Options as Options
use Rattle.base_sets.specs.Members as Members
use Rattle.def_kinds.specs.Kinds as Kinds
use Rattle.def_kinds.specs.Reasons as Reasons
use Rattle.def_kinds.specs.Values as Values
use Rattle.def_effects.specs.Places as Places
use Rattle.def_effects.specs.Keys as Keys
use Rattle.def_effects.specs.Mutation as Mutation
use Rattle.def_transfer.specs.Monad as Monad
use Rattle.def_transfer.specs.Diagnostics as Diagnostics
use Rattle.def_transfer.specs.State as State
use Rattle.def_transfer.specs.Context as Context
use Rattle.def_transfer.specs.Walk as Walk
use Rattle.def_transfer.specs.Step as Step
use Rattle.def_transfer.specs.Instruction as Instruction
use Rattle.def_transfer.specs.Merge as Merge
use Rattle.def_transfer.specs.Pure as Pure
use Rattle.base_tests.specs.Tests.{all_below, any_below}

unfoldable pub computing : Unit {0}
unfolding Options.join_option Options.join_table Members.digits_from Members.members Kinds.kind_at Kinds.join_table Kinds.join_kind Reasons.is_reason Reasons.are_reasons Reasons.has_reason Reasons.first_in Reasons.primary_reason Reasons.get_write_error_reason Values.join Values.contains Values.above Places.eq_span Keys.eq_option Keys.eq_list Keys.eq_key Mutation.result_of Monad.and_then Monad.◌>>=◌ Monad.◌>>◌ Monad.return Monad.refuse Monad.done Monad.when◌then◌else◌ Monad.each Monad.restore Monad.atomically Diagnostics.same_identity Diagnostics.same_labels State.join_values State.kind_of State.set_of State.value_of State.peek State.initialize State.point State.ask State.change State.record_access State.is_defined State.kind_with_span State.kind State.may_write State.define State.or_insert State.assign_set State.assign State.append_sets State.append_alias State.freeze_value State.to_freeze State.freeze State.union_of State.infer_phi Context.put_effect Context.intern_new Context.intern_effect Context.set_next Context.fresh_number Context.cache Context.or_fresh Context.get_or_create_value_id Context.link_to Context.function_context Context.linked_context Context.make_read Context.put_diagnostic Context.new_identity Context.new_instance Context.intern_diagnostic Context.emit Context.is_initialized Context.put_initialized Context.begin Context.start_freeze Context.count_entry Walk.freeze_and_enter Walk.enter_place Walk.enter_context Walk.freeze_function_captures_transitive Walk.walk Step.flow_of Step.create Step.is_written Step.any_written Step.any_ref Step.update_context Step.by_flow Step.mutate Step.flowing Step.report_modified Step.report_hoisted Step.report Step.mutating Step.freezing Step.creating Step.capturing_immutably Step.list_created Step.creating_from Step.assigning Step.creating_function Step.act Step.apply_effect Instruction.has Instruction.report_early Instruction.early_error Instruction.early_errors Instruction.define_lvalue Instruction.start_instruction Instruction.run Instruction.apply_signature all_below any_below Merge.joined Merge.value_above Merge.set_above Merge.above Merge.adds_value Merge.adds_set Merge.adds Merge.merge Merge.merge_from Pure.at Pure.find_effect Pure.is_key Pure.first_cached Pure.read_only Pure.identities Pure.find_identity Pure.find_instance
computing = tt
