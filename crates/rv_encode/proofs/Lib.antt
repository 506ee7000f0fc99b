pub mod FromWords
