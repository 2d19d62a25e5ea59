-- The name of a tag, and the elements whose content is no markup.
use Rattle.std.specs.Prelude.{ℕ, ◌==◌, ◌||◌, Bool, List, drop, take_while, slice_index, not, codes, Option, Some, None, if◌then◌else◌}
use Rattle.html_pieces.specs.Bytes.{ends_name, is_same_name}
use Rattle.html_pieces.specs.declared.tokenizer.RawElement.{RawElement}
use Rattle.html_pieces.specs.declared.tokenizer.RawElement.TheVariants.{Script, Style, Textarea, Title, Xmp, Iframe, Noembed, Noframes}

-- The bytes of a tag begin with "</".
abbrev pub is_end_tag : List ℕ → Bool
is_end_tag tag = slice_index tag 1 == 47

-- The name of a tag is between "<" or "</" and the first byte that ends a name.
unfoldable pub name_of : List ℕ → List ℕ
name_of tag = take_while (λ b. not (ends_name b)) (if is_end_tag tag then drop 2 tag else drop 1 tag)

-- The end tag of this element, as far as its name.
abbrev pub raw_end_tag : RawElement → List ℕ
raw_end_tag Script = codes "</script"
raw_end_tag Style = codes "</style"
raw_end_tag Textarea = codes "</textarea"
raw_end_tag Title = codes "</title"
raw_end_tag Xmp = codes "</xmp"
raw_end_tag Iframe = codes "</iframe"
raw_end_tag Noembed = codes "</noembed"
raw_end_tag Noframes = codes "</noframes"

-- The elements whose start tag leaves the data state. (13.2.6.4.4 The "in head" insertion mode, 13.2.6.4.7 "in body".)
unfoldable pub raw_element : List ℕ → Option RawElement
raw_element name =
    if is_same_name name (codes "script") then Some Script
    else if is_same_name name (codes "style") then Some Style
    else if is_same_name name (codes "textarea") then Some Textarea
    else if is_same_name name (codes "title") then Some Title
    else if is_same_name name (codes "xmp") then Some Xmp
    else if is_same_name name (codes "iframe") then Some Iframe
    else if is_same_name name (codes "noembed") then Some Noembed
    else if is_same_name name (codes "noframes") then Some Noframes
    else None

-- The elements that hold SVG and MathML, in which CDATA sections are taken and "/>" closes an element.
unfoldable pub is_foreign_root : List ℕ → Bool
is_foreign_root name = is_same_name name (codes "svg") || is_same_name name (codes "math")
