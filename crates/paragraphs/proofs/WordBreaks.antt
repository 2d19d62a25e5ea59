-- A name has no breaks, and any other word has those of its pieces.
use Rattle.std.proofs.Common.{◌≡◌, ℕ, true, false, cond, List, [], ap, sym}
use Rattle.text_words.specs.Names.{is_name}
use Rattle.hyphenation_breaks.specs.Break.{Break}
use Rattle.paragraphs.specs.Parts.{piece_breaks, word_breaks}

pub name_breaks : (breaks_of : List ℕ → List Break) (word : List ℕ) → is_name word ≡ true → [] ≡ word_breaks breaks_of word
name_breaks breaks_of word is = sym (ap (λ t. cond t [] (piece_breaks breaks_of word)) is)

pub other_breaks : (breaks_of : List ℕ → List Break) (word : List ℕ) → is_name word ≡ false → piece_breaks breaks_of word ≡ word_breaks breaks_of word
other_breaks breaks_of word other = sym (ap (λ t. cond t [] (piece_breaks breaks_of word)) other)
