pub mod FlatOf
pub mod Tables
pub mod StepTypes
