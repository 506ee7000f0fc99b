mod Assigning
mod CoreText
mod CopyingData
mod CopyingNodes
mod Distinct
mod Examples
pub mod Expansions
mod GoodDraftsAreValid
mod GoodDrafts
mod GoodCalls
mod GoodCores
mod OfData
mod Positions
mod LibraryData
mod LibraryFacts
pub mod Reading
mod Scoping
mod SoundForms
mod Unbroken
mod ValidCore
mod ConstantsInOrder
pub mod NumbersBehind
pub mod AddedDrafts
pub mod Adding
pub mod DrawnInOrder
pub mod OwnNames
pub mod TemplateViews
pub mod Arms
pub mod Backwards
pub mod Beginning
pub mod Bodies
pub mod Bounds
pub mod CallsMade
pub mod CaseParts
pub mod CasesTurn
pub mod ClausesTurn
pub mod Collecting
pub mod CondParts
pub mod Defining
pub mod Definitions
pub mod DoParts
pub mod Due
pub mod EndFault
pub mod Expanding
pub mod Entering
pub mod Flagged
pub mod FormsDone
pub mod Heading
pub mod Heads
pub mod HeldCalls
pub mod HeldTests
pub mod ByKind
pub mod LastClause
pub mod KnownCalls
pub mod KnownHeads
pub mod KnownNames
pub mod LastMade
pub mod Least
pub mod MadeLetrecs
pub mod MadeTests
pub mod Lists
pub mod MadeForms
pub mod MadeClauses
pub mod LambdaHeads
pub mod MadeBodies
pub mod MadeLambdas
pub mod MadeLoops
pub mod NextsPut
pub mod MadePrograms
pub mod MadeLets
pub mod LetTurns
pub mod LoopTurns
pub mod MadeTemplates
pub mod Named
pub mod NextValues
pub mod Noting
pub mod Coming
pub mod NumberedNames
pub mod Numbering
pub mod Operators
pub mod Parameters
pub mod Pairs
pub mod Parts
pub mod Running
pub mod Scopes
pub mod Stacks
pub mod Targets
pub mod TemplateSteps
pub mod Templates
pub mod TopForms
pub mod Twice
mod Worked
mod FormsBehind
mod OwnVariable
mod TextInOrder
mod DefinitionsPicked
mod WholeMade
mod FirstNames
mod VariablesInOrder
pub mod IndexOfNames
pub mod Joined
mod UsesInOrder
mod SymbolsInOrder
mod ChosenPicked
pub mod Spelled
pub mod DefinedWords
pub mod Flags
mod SymbolsListed
mod WholeAssembled
pub mod WholeCore
