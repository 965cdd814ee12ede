-- What terms read as: formulas with their types, by the names in sight.
pub mod Names
pub mod Outcome
pub mod Binders
pub mod Printed
pub mod OperatorReadings
pub mod TermReading
pub mod ScopeReading
pub mod RightReading
pub mod Speaking
pub mod Built
pub mod GivesTakes
pub mod Rewritings
pub mod KeptReading
pub mod ConjunctsInOrder
pub mod ToldNames
pub mod ReadingLaws
pub mod ReadingExamples
