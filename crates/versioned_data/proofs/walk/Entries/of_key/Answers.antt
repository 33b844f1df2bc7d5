-- `versioned_data::walk::Entries::of_key` meets its contract.
-- Assumes nothing.
use Rattle.versioned_data.proofs.WalkSteps.{from_none, from_other, from_own}
use Rattle.versioned_data.proofs.walk.Entries.of_key.Goals as goal

pub returns-in_default-clause-other : goal.returns-in_default-clause-other
returns-in_default-clause-other c = from_none _ _ (record { valid = c.args.self.rows.valid; fine = c.args.self.fine }) _ _ c.requires.met c.in_default.is

pub returns-then-key_at-key-clause-other : goal.returns-then-key_at-key-clause-other
returns-then-key_at-key-clause-other c = from_other _ _ (record { valid = c.args.self.rows.valid; fine = c.args.self.fine }) _ _ c.requires.met _ c.in-Some.is _ c.key_at.ensures.key c.if-key_at-key.true

pub returns-clause-met : goal.returns-clause-met
returns-clause-met c = from_own _ _ (record { valid = c.args.self.rows.valid; fine = c.args.self.fine }) _ _ c.requires.met _ c.in-Some.is _ c.key_at.ensures.key c.if-key_at-key.false
