-- `versioned_group_data::exchange::update_tagged_base_value_with_layout` meets its contract.
-- Assumes nothing.
use borrow.Author.Rules.{rules}
use Rattle.versioned_group_data.proofs.BaseExchanges.{base_found, committed_told, base_inside, value_inside, base_length, words_wide, inside_as, exchange_absent, exchange_before, exchange_none, exchange_over, exchange_done}
use Rattle.types.specs.ValueWithLayout.{words_of}
use Rattle.versioned_group_data.proofs.exchange.update_tagged_base_value_with_layout.Goals as goal

pub returns-in_default : goal.returns-in_default
returns-in_default c =
    record { exchanged = exchange_absent _ c.requires.valid _ _ _ _ (base_found _ _ _ _ _ _ c.zero_idx.ensures.base c.find_member.ensures.found c.in_default.is) }

pub is_exchanged-requires : goal.is_exchanged-requires
is_exchanged-requires c =
    record { inside = base_inside _ c.requires.valid _ _ (words_of c.args.value) (words_wide c.args.value) _ (base_found _ _ _ _ _ _ c.zero_idx.ensures.base c.find_member.ensures.found c.in-Ok.is) }

pub returns-then-is_exchanged : goal.returns-then-is_exchanged
returns-then-is_exchanged c =
    record { exchanged = exchange_before _ c.requires.valid _ _ _ (words_wide c.args.value) _ (base_found _ _ _ _ _ _ c.zero_idx.ensures.base c.find_member.ensures.found c.in-Ok.is) _ c.is_exchanged.ensures.exchanged c.if-is_exchanged.true }

pub returns-in_default-find_committed : goal.returns-in_default-find_committed
returns-in_default-find_committed c =
    record { exchanged = exchange_none _ c.requires.valid _ _ _ (words_wide c.args.value) _ (base_found _ _ _ _ _ _ c.zero_idx.ensures.base c.find_member.ensures.found c.in-Ok.is) _ c.is_exchanged.ensures.exchanged _ c.if-is_exchanged.false (committed_told _ _ _ _ _ c.find_committed.ensures.found c.in_default-find_committed.is) }

pub is_exchanged-requires-2 : goal.is_exchanged-requires-2
is_exchanged-requires-2 c =
    record { inside = value_inside _ c.requires.valid _ _ (words_of c.args.value) (words_wide c.args.value) _ (base_found _ _ _ _ _ _ c.zero_idx.ensures.base c.find_member.ensures.found c.in-Ok.is) _ (committed_told _ _ _ _ _ c.find_committed.ensures.found c.in-Ok-find_committed.is) }

pub returns-then-is_exchanged-2 : goal.returns-then-is_exchanged-2
returns-then-is_exchanged-2 c =
    record { exchanged = exchange_over _ c.requires.valid _ _ _ (words_wide c.args.value) _ (base_found _ _ _ _ _ _ c.zero_idx.ensures.base c.find_member.ensures.found c.in-Ok.is) _ (committed_told _ _ _ _ _ c.find_committed.ensures.found c.in-Ok-find_committed.is) _ _ c.is_exchanged.ensures.exchanged c.is_exchanged-2.ensures.exchanged c.if-is_exchanged.false c.if-is_exchanged-2.true }

pub write_value-requires : goal.write_value-requires
write_value-requires c =
    record { slot = base_inside _ c.requires.valid _ _ (words_of c.args.value) (words_wide c.args.value) _ (base_found _ _ _ _ _ _ c.zero_idx.ensures.base c.find_member.ensures.found c.in-Ok.is) }

pub write_value-requires-2 : goal.write_value-requires-2
write_value-requires-2 c =
    let f = base_found _ _ _ _ _ _ c.zero_idx.ensures.base c.find_member.ensures.found c.in-Ok.is in
    let l = base_length _ c.requires.valid _ _ (words_of c.args.value) (words_wide c.args.value) _ f _ c.write_value.ensures.written in
    let a = inside_as _ _ _ l (base_inside _ c.requires.valid _ _ (words_of c.args.value) (words_wide c.args.value) _ f) in
    let b = inside_as _ _ _ l (value_inside _ c.requires.valid _ _ (words_of c.args.value) (words_wide c.args.value) _ f _ (committed_told _ _ _ _ _ c.find_committed.ensures.found c.in-Ok-find_committed.is)) in
    record { slot = search rules }

pub returns : goal.returns
returns c =
    record { exchanged = exchange_done _ c.requires.valid _ _ _ (words_wide c.args.value) _ (base_found _ _ _ _ _ _ c.zero_idx.ensures.base c.find_member.ensures.found c.in-Ok.is) _ (committed_told _ _ _ _ _ c.find_committed.ensures.found c.in-Ok-find_committed.is) _ _ c.is_exchanged.ensures.exchanged c.is_exchanged-2.ensures.exchanged c.if-is_exchanged.false c.if-is_exchanged-2.false _ _ c.write_value.ensures.written c.write_value-2.ensures.written }
