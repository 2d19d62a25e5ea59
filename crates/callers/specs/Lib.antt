pub mod Discretionaries
pub mod OwnExceptions
pub mod Paragraphs
pub mod Room
pub mod SoftHyphens
