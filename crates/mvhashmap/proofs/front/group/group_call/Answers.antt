-- `mvhashmap::front::group::group_call` meets its contract.
-- Assumes nothing.
use Rattle.types.proofs.ValueLaws.{read_words}
use Rattle.versioned_data.proofs.Passed.{passed}
use Rattle.mvhashmap.proofs.AnswerPuts.{done_always, group_put, written_put, written_refused}
use Rattle.mvhashmap.proofs.AnswerDones.{set_raw_base_values_done, update_tagged_base_value_done, mark_group_done, remove_group_done}
use Rattle.mvhashmap.proofs.AskedGroup.{asks_last_committed, asks_group_base, asks_exchange, asks_group_write, asks_group_estimate, asks_group_remove, asks_group_fetch, asks_group_size, asks_finalize, group_write_served, group_estimate_served, group_remove_served, group_fetch_served, group_size_served, finalize_served, exchange_tag, group_fetch_tag, group_base_inside, exchange_inside, group_write_inside, group_base_fine, group_kinds}
use Rattle.mvhashmap.proofs.ServedGroup.{serves_group_edit, serves_group_commit, serves_group_write, serves_group_fetch, serves_group_size, serves_finalize, serves_last_committed}
use Rattle.mvhashmap.proofs.front.group.group_call.Goals as goal

pub returns-in-LastCommitted : goal.returns-in-LastCommitted
returns-in-LastCommitted c =
    record { served = serves_last_committed _ _ _ _ c.requires.valid _ (asks_last_committed _ _ c.requires.asked _ c.in-LastCommitted.is) c.get_last_committed_group.ensures.answered }

pub members_at-requires : goal.members_at-requires
members_at-requires c = record { inside = group_base_inside _ _ c.requires.asked _ _ _ c.in-GroupBase.is }

pub set_raw_base_values-requires : goal.set_raw_base_values-requires
set_raw_base_values-requires c =
    record { valid = c.requires.valid; members = rw c.members_at.ensures.members (group_base_fine _ _ c.requires.asked _ _ _ c.in-GroupBase.is) }

pub returns-in-GroupBase : goal.returns-in-GroupBase
returns-in-GroupBase c =
    record {
      served = serves_group_commit _ _ _ _ _ c.requires.valid _ 0 _ (asks_group_base _ _ c.requires.asked _ _ _ c.in-GroupBase.is) (set_raw_base_values_done _ _) _ _
          (rw c.members_at.ensures.members at c.set_raw_base_values.ensures.ruled) c.done.ensures.put;
    }

pub read-v-requires : goal.read-v-requires
read-v-requires c = record { inside = exchange_inside _ _ c.requires.asked _ _ _ c.in-Exchange.is }

pub update_tagged_base_value_with_layout-requires : goal.update_tagged_base_value_with_layout-requires
update_tagged_base_value_with_layout-requires c = record { valid = c.requires.valid; tag = exchange_tag _ _ c.requires.asked _ _ _ c.in-Exchange.is }

pub returns-in-Exchange : goal.returns-in-Exchange
returns-in-Exchange c =
    record {
      served = serves_group_commit _ _ _ _ _ c.requires.valid _ 0 _ (asks_exchange _ _ c.requires.asked _ _ _ c.in-Exchange.is) (update_tagged_base_value_done _ _ _) _ _
          (rw (read_words c.args.t.now c.in-Exchange.value c.read-v.result (λ i. (c.type_inv.t i).fits) (exchange_inside _ _ c.requires.asked _ _ _ c.in-Exchange.is) c.read-v.ensures.value) at c.update_tagged_base_value_with_layout.ensures.exchanged) c.done-in-Exchange.ensures.put;
    }

pub members_at-requires-in-GroupWrite : goal.members_at-requires-in-GroupWrite
members_at-requires-in-GroupWrite c = record { inside = group_write_inside _ _ c.requires.asked _ _ _ _ _ c.in-GroupWrite.is }

pub write-requires : goal.write-requires
write-requires c = record { valid = c.requires.valid; served = group_write_served _ _ c.requires.asked _ _ _ _ _ c.in-GroupWrite.is }

pub returns-in_err-w-in-GroupWrite : goal.returns-in_err-w-in-GroupWrite
returns-in_err-w-in-GroupWrite c =
    record {
      served = serves_group_write _ _ _ _ _ c.requires.valid _ _ _ _ (asks_group_write _ _ c.requires.asked _ _ _ _ _ c.in-GroupWrite.is) _ _
          (rw c.members_at-in-GroupWrite.ensures.members at c.write.ensures.written) (rw (passed _ _ c.from_residual.ensures.1) (written_refused _ _ _ c.in_err-w-in-GroupWrite.was));
    }

pub returns-in_ok-w-in-GroupWrite : goal.returns-in_ok-w-in-GroupWrite
returns-in_ok-w-in-GroupWrite c =
    record {
      served = serves_group_write _ _ _ _ _ c.requires.valid _ _ _ _ (asks_group_write _ _ c.requires.asked _ _ _ _ _ c.in-GroupWrite.is) _ _
          (rw c.members_at-in-GroupWrite.ensures.members at c.write.ensures.written) (written_put _ _ _ c.in_ok-w-in-GroupWrite.was _ c.put_written.ensures.put);
    }

pub mark_estimate-requires : goal.mark_estimate-requires
mark_estimate-requires c = record { valid = c.requires.valid; served = group_estimate_served _ _ c.requires.asked _ _ c.in-GroupEstimate.is }

pub returns-in-GroupEstimate : goal.returns-in-GroupEstimate
returns-in-GroupEstimate c =
    record { served = serves_group_edit _ _ _ _ _ c.requires.valid _ _ _ (asks_group_estimate _ _ c.requires.asked _ _ c.in-GroupEstimate.is) mark_group_done _ _ c.mark_estimate.ensures.edited c.done-in-GroupEstimate.ensures.put }

pub remove-requires : goal.remove-requires
remove-requires c = record { valid = c.requires.valid; served = group_remove_served _ _ c.requires.asked _ _ c.in-GroupRemove.is }

pub returns-in-GroupRemove : goal.returns-in-GroupRemove
returns-in-GroupRemove c =
    record { served = serves_group_edit _ _ _ _ _ c.requires.valid _ _ _ (asks_group_remove _ _ c.requires.asked _ _ c.in-GroupRemove.is) remove_group_done _ _ c.remove.ensures.edited (done_always _ _ c.put_bare.ensures.put) }

pub fetch_tagged_data-requires : goal.fetch_tagged_data-requires
fetch_tagged_data-requires c =
    record { valid = c.requires.valid; tag = group_fetch_tag _ _ c.requires.asked _ _ _ c.in-GroupFetch.is; served = group_fetch_served _ _ c.requires.asked _ _ _ c.in-GroupFetch.is }

pub returns-in-GroupFetch : goal.returns-in-GroupFetch
returns-in-GroupFetch c =
    record { served = serves_group_fetch _ _ _ _ _ c.requires.valid _ _ _ (asks_group_fetch _ _ c.requires.asked _ _ _ c.in-GroupFetch.is) _ c.fetch_tagged_data.ensures.read (group_put _ _ _ c.put_group_output.ensures.put) }

pub get_group_size-requires : goal.get_group_size-requires
get_group_size-requires c = record { valid = c.requires.valid; served = group_size_served _ _ c.requires.asked _ _ c.in-GroupSize.is }

pub returns-in-GroupSize : goal.returns-in-GroupSize
returns-in-GroupSize c =
    record { served = serves_group_size _ _ _ _ _ c.requires.valid _ _ (asks_group_size _ _ c.requires.asked _ _ c.in-GroupSize.is) _ c.get_group_size.ensures.read (group_put _ _ _ c.put_group_output-in-GroupSize.ensures.put) }

pub finalize_group-requires-clause-served : goal.finalize_group-requires-clause-served
finalize_group-requires-clause-served c = finalize_served _ _ c.requires.asked _ _ c.in-Finalize.is

pub returns-in-Finalize : goal.returns-in-Finalize
returns-in-Finalize c =
    record { served = serves_finalize _ _ _ _ _ c.requires.valid _ _ (asks_finalize _ _ c.requires.asked _ _ c.in-Finalize.is) _ c.finalize_group.ensures.finalized }

pub unreachable-requires : goal.unreachable-requires
unreachable-requires c =
    group_kinds _ c.requires.group c.in_default.not-LastCommitted c.in_default.not-GroupBase c.in_default.not-Exchange c.in_default.not-GroupWrite
    c.in_default.not-GroupEstimate c.in_default.not-GroupRemove c.in_default.not-GroupFetch c.in_default.not-GroupSize c.in_default.not-Finalize
