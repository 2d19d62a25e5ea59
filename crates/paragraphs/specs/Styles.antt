-- The style that the code holds, as texts.
use Rattle.paragraphs.specs.declared.style.Style.{Style}
use Rattle.paragraphs.specs.Parts as words

-- A style as texts.
abbrev pub style_of : Style → words.Style
style_of style = record { first = style.first.now; indent = style.indent.now; price = style.price }
