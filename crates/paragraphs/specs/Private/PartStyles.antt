-- The indent and the price that a part takes from the style of its paragraph.
use Rattle.std.specs.Prelude.{ℕ, Bool, if◌then◌else◌, List, []}
use Rattle.paragraphs.specs.declared.style.Style.{Style}
use Rattle.paragraphs.specs.declared.style.Indent.{Indent}
use Rattle.paragraphs.specs.declared.style.Indent.TheVariants.{First, Other, Inside}

-- The indent of a line that begins with a part.
abbrev pub indent_of : Style → Indent → List ℕ
indent_of style First = style.first.now
indent_of style Other = style.indent.now
indent_of style Inside = []

-- The cost of a line's end after a part, at which a word is broken or not.
abbrev pub price_of : Style → Bool → ℕ
price_of style broken = if broken then style.price else 0
