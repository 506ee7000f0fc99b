pub mod Linked
pub mod OneStepMore
