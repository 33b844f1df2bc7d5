-- `versioned_data::put::Added::write` meets its contract.
-- Assumes nothing.
use mathlib.Core.Path.{◌∙◌, ap}
use mathlib.Core.List.{List}
use Prim.Native.Nat.{ℕ}
use lib.Seq.{sets}
use native.Mathlib.Omega.{arith}
use Rattle.versioned_data.proofs.EntryWrites.{copy_part, delta_body, delta_long}
use Rattle.versioned_data.proofs.put.AddedContent.write.Goals as goal

pub returns : goal.returns
returns c =
    record { put = copy_part _ _ _ _ _ (omega (arith, c.requires.room)) (omega (arith, c.args.self.inside)) c.copy_from_slice.ensures.after ∙ ap (λ (l : List ℕ). sets c.args.s.now c.args.b l) (delta_body _ c.args.self.valid c.args.self.words c.args.self.inside); long = delta_long _ c.args.self.valid c.args.self.words c.args.self.inside }
