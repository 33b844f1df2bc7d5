pub mod RefusalLaws
pub mod UnitLaws
pub mod FlagLaws
pub mod IndexLaws
pub mod ValueLaws
pub mod AnswersTold
