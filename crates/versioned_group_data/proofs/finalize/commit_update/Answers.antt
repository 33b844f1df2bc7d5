-- `versioned_group_data::finalize::commit_update` meets its contract.
-- Assumes nothing.
use Rattle.std.proofs.Common.{arith, ap, ◌∙◌, refl}
use Rattle.model.specs.Fine.{fine_members}
use Rattle.versioned_group_data.proofs.GroupFinalizing.{update_at, run_none, run_low, tried_members, ruled_absent, ruled_tried}
use Rattle.versioned_group_data.proofs.CollectedGroups.{members_inside, members_from, members_bits_fit, members_count, members_fine, set_length, members_back}
use Rattle.versioned_group_data.proofs.CommitSteps.{key_word}
use Rattle.versioned_group_data.proofs.finalize.commit_update.Goals as goal

pub returns-then-run-eq0 : goal.returns-then-run-eq0
returns-then-run-eq0 c =
    record { committed = ruled_absent _ c.requires.valid _ _ (key_word _ c.ranges.key.fits) (run_none _ c.requires.valid _ _ _ _ c.new.ensures.shifted c.find_update-run.ensures.run c.if-run-eq0.true) }

pub overflow_add-first : goal.overflow_add-first
overflow_add-first c =
    record { fits = omega (arith, run_low _ c.requires.valid _ _ _ _ c.new.ensures.shifted c.find_update-run.ensures.run) }

pub collect_tags-requires : goal.collect_tags-requires
collect_tags-requires c =
    let w = update_at _ c.requires.valid _ _ _ _ c.new.ensures.shifted c.find_update-run.ensures.run c.if-run-eq0.false in
    record { inside = members_inside _ c.requires.valid _ _ w.update w.found _ _ w.start w.size; within = omega arith; from = members_from _ c.requires.valid _ _ w.update w.found _ _ w.start w.size; fits = members_bits_fit _ c.requires.valid _ _ w.update w.found _ _ w.start w.size }

pub collect_values-requires : goal.collect_values-requires
collect_values-requires c =
    let w = update_at _ c.requires.valid _ _ _ _ c.new.ensures.shifted c.find_update-run.ensures.run c.if-run-eq0.false in
    record { inside = members_inside _ c.requires.valid _ _ w.update w.found _ _ w.start w.size; room = omega (arith, members_count _ c.requires.valid _ _ w.update w.found _ _ w.start w.size) }

pub invariant_of-members : goal.invariant_of-members
invariant_of-members c =
    let w = update_at _ c.requires.valid _ _ _ _ c.new.ensures.shifted c.find_update-run.ensures.run c.if-run-eq0.false in
    record { inside = omega (arith, members_count _ c.requires.valid _ _ w.update w.found _ _ w.start w.size, set_length _ c.requires.valid _ _ w.update w.found _ _ w.start w.size _ c.collect_tags.ensures.bits _ c.set_words-set.ensures.words) }

pub try_commit-requires : goal.try_commit-requires
try_commit-requires c =
    let w = update_at _ c.requires.valid _ _ _ _ c.new.ensures.shifted c.find_update-run.ensures.run c.if-run-eq0.false in
    record {
      valid = c.requires.valid;
      members = ap (fine_members 0) (members_back _ c.requires.valid _ _ w.update w.found _ _ w.start w.size _ c.collect_tags.ensures.bits _ c.set_words-set.ensures.words _ refl _ c.collect_values.ensures.copied) ∙ members_fine _ c.requires.valid _ _ w.update w.found _ _ w.start w.size;
      few = omega arith;
    }

pub returns : goal.returns
returns c =
    let w = update_at _ c.requires.valid _ _ _ _ c.new.ensures.shifted c.find_update-run.ensures.run c.if-run-eq0.false in
    record {
      committed = ruled_tried _ c.requires.valid _ _ (key_word _ c.ranges.key.fits) w.update w.found _ _ (tried_members _ _ _ _ _ _ _ _ (members_back _ c.requires.valid _ _ w.update w.found _ _ w.start w.size _ c.collect_tags.ensures.bits _ c.set_words-set.ensures.words _ refl _ c.collect_values.ensures.copied) c.try_commit.ensures.tried);
    }
