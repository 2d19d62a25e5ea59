pub mod TextMaps
pub mod ExceptionsLemmas
pub mod TaggedSlots
pub mod InvariantLemmas
pub mod PatternsLemmas
pub mod EntryTests
pub mod MakerInvariant
