pub mod Labelled
pub mod CensusTold
pub mod Counted
pub mod Refused
pub mod Parts
pub mod Endings
pub mod Sites
pub mod BlockCounts
pub mod LaidOut
mod WorkedRules
pub mod EachOf
pub mod RulesNamed
pub mod StepsNamed
pub mod LayoutGrows
pub mod NumbersFit
pub mod QuotedFits
pub mod ProgramFits
