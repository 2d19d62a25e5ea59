pub mod BestLanguages
pub mod PageSteps
pub mod MarkedPages
pub mod MarksInText
pub mod WordEdges
pub mod Contents
pub mod SecondPages
pub mod KeptForms
