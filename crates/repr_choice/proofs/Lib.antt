mod Marking
mod StepNumbers
mod Refusing
mod Whole
