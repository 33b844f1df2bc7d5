-- `versioned_data::walk::Entries::deltas`: each call stands a row further on.
use Rattle.std.proofs.Common.{length, ◌-◌}
use Rattle.versioned_data.specs.Rows.{rows_of, position_in}
use Rattle.versioned_data.proofs.walk.Entries.+deltas.Given as goal

abbrev pub decreases-deltas : goal.decreases-deltas
decreases-deltas l = length (rows_of l.self.now.rows.units l.self.now.rows.words.now) - position_in l.self.now.rows.units l.self.now.rows.words.now l.page l.cell
