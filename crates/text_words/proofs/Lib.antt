mod LetterWords
mod Letters
mod Taken
mod Unsigned
mod WordSlices
