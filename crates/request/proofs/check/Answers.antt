use mathlib.Core.Path.{sym, ◌∙◌}
use native.Mathlib.Omega.{arith}
use borrow.Author.Tests.{eqb-true}
use Rattle.request.proofs.CheckSteps.{check_empty, check_shape, check_row, check_whole, check_words, check_room, check_fields, check_index, check_accepted}
use Rattle.request.proofs.check.Goals as goal

pub returns-then-is_empty : goal.returns-then-is_empty
returns-then-is_empty c =
    record { checked = check_empty _ (omega (arith, eqb-true _ 0 (sym c.is_empty.ensures ∙ c.if-is_empty.true))) }

pub returns-then-not-shape_ok : goal.returns-then-not-shape_ok
returns-then-not-shape_ok c =
    record { checked = check_shape _ _ c.head_of-head.ensures.head _ c.shape_ok.ensures.rule c.if-not-shape_ok.true }

pub request_of-request-requires : goal.request_of-request-requires
request_of-request-requires c =
    record { whole = check_words _ _ c.head_of-head.ensures.head _ c.shape_ok.ensures.rule c.if-not-shape_ok.false }

pub fields_ok-requires : goal.fields_ok-requires
fields_ok-requires c =
    record { room = check_room _ _ c.head_of-head.ensures.head _ c.shape_ok.ensures.rule c.if-not-shape_ok.false _ c.request_of-request.ensures.asked }

pub returns-then-not-fields_ok : goal.returns-then-not-fields_ok
returns-then-not-fields_ok c =
    record {
      checked = check_fields _ _ c.head_of-head.ensures.head _ c.shape_ok.ensures.rule c.if-not-shape_ok.false _ c.request_of-request.ensures.asked
          _ c.fields_ok.ensures.rule c.if-not-fields_ok.true;
    }

pub index_ok-requires : goal.index_ok-requires
index_ok-requires c =
    record {
      row = check_row _ _ c.head_of-head.ensures.head _ c.shape_ok.ensures.rule c.if-not-shape_ok.false;
      whole = check_whole _ _ c.head_of-head.ensures.head _ c.shape_ok.ensures.rule c.if-not-shape_ok.false;
    }

pub returns-then-not-index_ok : goal.returns-then-not-index_ok
returns-then-not-index_ok c =
    record {
      checked = check_index _ _ c.head_of-head.ensures.head _ c.shape_ok.ensures.rule c.if-not-shape_ok.false _ c.request_of-request.ensures.asked
          _ c.fields_ok.ensures.rule c.if-not-fields_ok.false _ c.index_ok.ensures.served c.if-not-index_ok.true;
    }

pub returns : goal.returns
returns c =
    record {
      checked = check_accepted _ _ c.head_of-head.ensures.head _ c.shape_ok.ensures.rule c.if-not-shape_ok.false _ c.request_of-request.ensures.asked
          _ c.fields_ok.ensures.rule c.if-not-fields_ok.false _ c.index_ok.ensures.served c.if-not-index_ok.false;
    }
