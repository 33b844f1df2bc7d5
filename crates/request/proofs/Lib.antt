pub mod AskedRules
pub mod CheckAnswers
mod FieldRules
mod IndexRules
pub mod KindNumbers
pub mod CheckPasses
mod CheckSteps
mod CheckSamples
pub mod Shapes
pub mod TableRule
pub mod SetTags
pub mod MemberViews
pub mod TableTails
mod DataRules
pub mod DataFields
