use native.Mathlib.Omega.{arith}
use Rattle.request.proofs.DataRules.{not_first, refused_length, refused_count, data_room, index_inside, refused_index, refused_field, none_refused}
use Rattle.request.proofs.data.data_refusal.Goals as goal

pub returns-then-t-fixed : goal.returns-then-t-fixed
returns-then-t-fixed c = record { refused = refused_length _ _ c.requires.kind c.requires.first c.requires.last _ c.cells_of-cells.ensures.cells (λ e. let h = c.if-t-fixed.true in omega (arith, e)) }

pub returns-then-count_in-fixed : goal.returns-then-count_in-fixed
returns-then-count_in-fixed c =
    record { refused = refused_count _ _ c.requires.kind c.requires.first c.requires.last _ c.cells_of-cells.ensures.cells _ c.count_in.ensures.count (λ e. let h = c.if-count_in-fixed.true in omega (arith, e)) }

pub fields_ok-requires : goal.fields_ok-requires
fields_ok-requires c =
    record {
      room = data_room _ _ c.requires.kind c.requires.first c.requires.last _ c.cells_of-cells.ensures.cells (let l = c.if-t-fixed.false in omega arith);
      last = c.requires.last;
    }

pub returns-then-not-fields_ok : goal.returns-then-not-fields_ok
returns-then-not-fields_ok c =
    record { refused = refused_field _ _ c.requires.kind c.requires.first c.requires.last _ c.cells_of-cells.ensures.cells _ c.count_in.ensures.count c.if-t-fixed.false c.if-count_in-fixed.false _ c.fields_ok.ensures.rule c.if-not-fields_ok.true }

pub returns-in-Base : goal.returns-in-Base
returns-in-Base c =
    record {
      refused = none_refused _ _ c.requires.kind c.requires.first c.requires.last _ c.cells_of-cells.ensures.cells _ c.count_in.ensures.count c.if-t-fixed.false c.if-count_in-fixed.false _ c.fields_ok.ensures.rule c.if-not-fields_ok.false c.in-Base.is;
    }

pub index_refusal-requires : goal.index_refusal-requires
index_refusal-requires c =
    record { inside = index_inside _ _ c.requires.kind c.requires.first c.requires.last _ c.cells_of-cells.ensures.cells (let l = c.if-t-fixed.false in omega arith) }

pub returns-in_default : goal.returns-in_default
returns-in_default c =
    record {
      refused = refused_index _ _ c.requires.kind c.requires.first c.requires.last _ c.cells_of-cells.ensures.cells _ c.count_in.ensures.count c.if-t-fixed.false c.if-count_in-fixed.false _ c.fields_ok.ensures.rule _ c.index_refusal.ensures.served c.if-not-fields_ok.false
          (not_first _ c.requires.first c.in_default.not-Base);
    }
