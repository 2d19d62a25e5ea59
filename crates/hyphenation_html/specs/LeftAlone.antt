-- Which text of a page is left as it is. A text whose element is not known is, too: `places_in`.
-- Source: HTML Living Standard, 3.2.6.3 (translate). The names of elements are those of the constant, and the class is a setting.
use Rattle.std.specs.Prelude.{ℕ, ◌||◌, Bool, not, List}
use Rattle.html_pieces.specs.Bytes.{names_in}
use Rattle.html_pieces.specs.Elements.{Selection, Element}
use Rattle.html_pieces.specs.Forms.{begins_with_order_mark}
use Rattle.hyphenation_html.specs.declared.left_alone.TheConstants.{LEFT_ALONE_NAMES}

-- The elements whose text is left alone, by their names or a class.
abbrev pub left_alone_elements : List ℕ → Selection
left_alone_elements class = record { names = names_in LEFT_ALONE_NAMES; class = class }

-- The text of an element is left alone where it or an element around is one of these, and where it may not be translated.
abbrev pub has_text_left_alone : Element → Bool
has_text_left_alone element = element.is_selected || not element.is_translated

-- A text in an element is left alone by its element, or begins with U+FEFF: before the byte order mark of a page there is no mark.
abbrev pub is_left_alone : Element → List ℕ → Bool
is_left_alone element text = has_text_left_alone element || begins_with_order_mark text
