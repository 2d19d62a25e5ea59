-- Drawings as a document in SVG.
-- Source of the elements: SVG 1.1 of the W3C.
use Rattle.std.specs.Prelude.{◌≡◌, ℕ, List, ◌++◌, codes, decimal}
use Rattle.std.specs.List.{concat}
use Rattle.explanations.specs.declared.svg.Drawing.{Drawing}
use Rattle.explanations.specs.declared.svg.TheConstants.{STYLE}

-- The elements that a drawing in code holds.
abbrev pub drawn : Drawing → List ℕ
drawn drawing = drawing.svg.items

-- The beginning of a document of this width and height in pixels, with its title, style sheet and background.
unfoldable pub document_begin : ℕ → ℕ → List ℕ
document_begin width height =
    codes "<svg xmlns='http://www.w3.org/2000/svg' viewBox='0 0 " ++ (decimal width ++ (codes " " ++ (decimal height
    ++ (codes "' role='img' xml:space='preserve'><title>Why words break where they do</title><style>"
    ++ (STYLE.now ++ codes "</style><rect width='100%' height='100%' fill='#fff'/><text>")))))

-- The document of drawings, of this width and height.
abbrev pub document_of : ℕ → ℕ → List (List ℕ) → List ℕ
document_of width height drawings = document_begin width height ++ (concat drawings ++ codes "</text></svg>\n")

-- The text is a document of drawings, one below the other. It has some width and height.
abbrev pub IsDocument : List (List ℕ) → List ℕ → Type 0
IsDocument drawings text = (width : ℕ) × ((height : ℕ) × (text ≡ document_of width height drawings))
