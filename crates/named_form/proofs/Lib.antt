pub mod Depth
pub mod Folds
pub mod Kept
pub mod KeptByEach
pub mod Labels
pub mod Library
mod PlainPlans
pub mod PlanParts
mod PlansBroken
mod PlansValid
pub mod Programs
mod ProgramsBroken
mod ProgramsValid
pub mod Rising
pub mod RunsThatEnd
pub mod RunsThatFail
mod RunsThatStop
pub mod StepLaws
pub mod StoppedStates
pub mod StorageHeld
mod StorageSizes
pub mod Tallied
pub mod Variables
pub mod Waiting
pub mod WorldsKept
