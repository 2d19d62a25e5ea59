-- How a page is cut into pieces: text, character references, tags, and what is neither. Source: HTML Living Standard, 13.2.5
-- Tokenization; for XML, Extensible Markup Language 1.0, 2.5 to 2.8 and 3.1. The states have the standard's names, and each
-- line the rule of its section. A rule that the standard gives by "reconsume" is here with what the next state does with the
-- byte.
use Rattle.std.specs.Prelude.{ℕ, true, false, ◌==◌, ◌||◌, ◌&&◌, ◌++◌, ◌+◌, ◌-◌, not, nat_lt, Bool, List, [], ◌∷◌, nat_eq, codes, Option, Some, None, if◌then◌else◌}
use Rattle.std.specs.Option.{option_map_or}
use Rattle.std.specs.List.{ends_with}
use Rattle.std.specs.Cmp.Lexicographic.{pointwise}
use Rattle.html_pieces.specs.Bytes.{is_white_space, is_alphanumeric, is_continuation, ends_name, is_same_name, is_xml, is_name_start}
use Rattle.html_pieces.specs.Names.{is_end_tag, name_of, raw_end_tag, raw_element, is_foreign_root}
use Rattle.html_pieces.specs.declared.bytes.PageForm.{PageForm}
use Rattle.html_pieces.specs.declared.tokenizer.RawElement.{RawElement}
use Rattle.html_pieces.specs.declared.tokenizer.RawElement.TheVariants.{Script}
use Rattle.html_pieces.specs.declared.tokenizer.State.{State}
use Rattle.html_pieces.specs.declared.tokenizer.State.TheVariants.{Data, CharacterReference, ReferenceName, ReferenceEnd, TagOpen, EndTagOpen, TagName, BeforeAttributeName, AttributeName, AfterAttributeName, BeforeAttributeValue, DoubleQuotedValue, SingleQuotedValue, UnquotedValue, AfterQuotedValue, SelfClosingTag, TagEnd, EmptyTagEnd, MarkupDeclarationOpen, MarkupDeclarationDash, BogusComment, DoctypeSubset, DoctypeSubsetEnd, ProcessingInstruction, ProcessingInstructionMark, CommentStart, CommentStartDash, Comment, CommentEndDash, CommentEnd, CommentEndBang, CdataSection, CdataSectionBracket, CdataSectionEnd, MarkupEnd, Raw, ScriptEscaped, ScriptDoubleEscaped, Plaintext}
use Rattle.html_pieces.specs.declared.tokenizer.PieceKind.{PieceKind}
use Rattle.html_pieces.specs.declared.tokenizer.Piece as declared
use Rattle.html_pieces.specs.declared.tokenizer.PieceKind.TheVariants.{Text, Reference, StartTag, EmptyTag, EndTag, Other}

-- ---- the states of a tag

-- Between the attributes of a tag, where any other byte leads to a state (13.2.5.32, 34, 40).
abbrev pub in_tag : ℕ → State → State
in_tag b other =
    if is_white_space b then BeforeAttributeName
    else if b == 47 then SelfClosingTag
    else if b == 62 then TagEnd
    else other

-- In the name of an attribute or after it (13.2.5.33, 34), where space leads to a state.
abbrev pub in_attribute : ℕ → State
in_attribute b =
    if is_white_space b then AfterAttributeName
    else if b == 47 then SelfClosingTag
    else if b == 62 then TagEnd
    else if b == 61 then BeforeAttributeValue
    else AttributeName

-- Before the value of an attribute (13.2.5.35).
abbrev pub before_value : ℕ → State
before_value b =
    if is_white_space b then BeforeAttributeValue
    else if b == 34 then DoubleQuotedValue
    else if b == 39 then SingleQuotedValue
    else if b == 62 then TagEnd
    else UnquotedValue

-- An unquoted value (13.2.5.38), to which a '/' belongs.
abbrev pub in_unquoted_value : ℕ → State
in_unquoted_value b =
    if is_white_space b then BeforeAttributeName
    else if b == 62 then TagEnd
    else UnquotedValue

-- ---- the states of text that is no markup

-- The byte ends a name, and what is before it since the last "<" is this tag without its end.
abbrev pub ends_tag : List ℕ → List ℕ → ℕ → Bool
ends_tag tag front b = ends_name b && is_same_name front tag

-- The element is a script.
abbrev pub is_script : RawElement → Bool
is_script Script = true
is_script _ = false

-- 13.2.5.2, 3, 4 and 9 to 19: up to the element's own end tag. A script's "<!--" leads to the escaped state.
unfoldable pub in_raw : RawElement → List ℕ → ℕ → Option State
in_raw element front b =
    if b == 60 then None
    else if ends_tag (raw_end_tag element) front b then Some (in_tag b TagName)
    else if b == 45 && is_same_name front (codes "<!-") && is_script element then Some ScriptEscaped
    else Some (Raw element)

-- 13.2.5.20 to 25
unfoldable pub in_escaped : List ℕ → ℕ → Option State
in_escaped front b =
    if b == 60 then None
    else if ends_tag (codes "</script") front b then Some (in_tag b TagName)
    else if ends_tag (codes "<script") front b then Some ScriptDoubleEscaped
    else if b == 62 && ends_with nat_eq front (codes "--") then Some (Raw Script)
    else Some ScriptEscaped

-- 13.2.5.26 to 31
unfoldable pub in_double_escaped : List ℕ → ℕ → Option State
in_double_escaped front b =
    if b == 60 then None
    else if ends_tag (codes "</script") front b then Some ScriptEscaped
    else if b == 62 && ends_with nat_eq front (codes "--") then Some (Raw Script)
    else Some ScriptDoubleEscaped

-- ---- all states

-- The state after a byte, where `front` is what the piece has before it; none where the piece ended before the byte. `foreign`
-- says that the piece is in SVG or MathML.
unfoldable pub next : PageForm → Bool → State → List ℕ → ℕ → Option State
next form foreign Data front b = if b == 60 || b == 38 then None else Some Data
-- 13.2.5.72: '&' with what follows, and a ';' if there is one. Which names there are is not asked.
next form foreign CharacterReference front b = if is_alphanumeric b || b == 35 then Some ReferenceName else None
next form foreign ReferenceName front b =
    if is_alphanumeric b then Some ReferenceName
    else if b == 59 then Some ReferenceEnd
    else None
-- 13.2.5.6 and 7
next form foreign TagOpen front b =
    if is_name_start form b then Some TagName
    else if b == 47 then Some EndTagOpen
    else if b == 33 then Some MarkupDeclarationOpen
    else if b == 63 then Some (if is_xml form then ProcessingInstruction else BogusComment)
    else None
next form foreign EndTagOpen front b =
    if is_name_start form b then Some TagName
    else if b == 62 then Some MarkupEnd
    else Some BogusComment
-- 13.2.5.8, 32 to 40
next form foreign TagName front b = Some (in_tag b TagName)
next form foreign BeforeAttributeName front b = Some (in_tag b AttributeName)
next form foreign AttributeName front b = Some (in_attribute b)
next form foreign AfterAttributeName front b = Some (in_attribute b)
next form foreign BeforeAttributeValue front b = Some (before_value b)
next form foreign DoubleQuotedValue front b = if b == 34 then Some AfterQuotedValue else Some DoubleQuotedValue
next form foreign SingleQuotedValue front b = if b == 39 then Some AfterQuotedValue else Some SingleQuotedValue
next form foreign UnquotedValue front b = Some (in_unquoted_value b)
next form foreign AfterQuotedValue front b = Some (in_tag b AttributeName)
next form foreign SelfClosingTag front b = if b == 62 then Some EmptyTagEnd else Some (in_tag b AttributeName)
-- 13.2.5.42, where a DOCTYPE (53 to 68) ends as a bogus comment does (41): at the first '>'. HTML takes CDATA sections only in
-- SVG and MathML. In XML a DOCTYPE may have a part in brackets. It ends at the first ']' that a '>' follows, with nothing but
-- ']' and space between.
next form foreign MarkupDeclarationOpen front b =
    if b == 45 then Some MarkupDeclarationDash
    else if b == 62 then Some MarkupEnd
    else Some BogusComment
next form foreign MarkupDeclarationDash front b =
    if b == 45 then Some CommentStart
    else if b == 62 then Some MarkupEnd
    else Some BogusComment
next form foreign BogusComment front b =
    if b == 62 then Some MarkupEnd
    else if b == 91 && (is_xml form || foreign) && pointwise nat_eq front (codes "<![CDATA") then Some CdataSection
    else if b == 91 && is_xml form then Some DoctypeSubset
    else Some BogusComment
next form foreign DoctypeSubset front b = if b == 93 then Some DoctypeSubsetEnd else Some DoctypeSubset
next form foreign DoctypeSubsetEnd front b =
    if b == 62 then Some MarkupEnd
    else if b == 93 || is_white_space b then Some DoctypeSubsetEnd
    else Some DoctypeSubset
-- XML 1.0, 2.6: a processing instruction ends at "?>".
next form foreign ProcessingInstruction front b = if b == 63 then Some ProcessingInstructionMark else Some ProcessingInstruction
next form foreign ProcessingInstructionMark front b =
    if b == 62 then Some MarkupEnd
    else if b == 63 then Some ProcessingInstructionMark
    else Some ProcessingInstruction
-- 13.2.5.43 to 45 and 50 to 52. The states 46 to 49 end no comment in another place. In XML (2.5) only "-->" ends one, and its
-- dashes are not those of "<!--".
next form foreign CommentStart front b =
    if b == 45 then Some CommentStartDash
    else if b == 62 && not (is_xml form) then Some MarkupEnd
    else Some Comment
next form foreign CommentStartDash front b =
    if b == 45 then Some CommentEnd
    else if b == 62 && not (is_xml form) then Some MarkupEnd
    else Some Comment
next form foreign Comment front b = if b == 45 then Some CommentEndDash else Some Comment
next form foreign CommentEndDash front b = if b == 45 then Some CommentEnd else Some Comment
next form foreign CommentEnd front b =
    if b == 62 then Some MarkupEnd
    else if b == 33 && not (is_xml form) then Some CommentEndBang
    else if b == 45 then Some CommentEnd
    else Some Comment
next form foreign CommentEndBang front b =
    if b == 45 then Some CommentEndDash
    else if b == 62 then Some MarkupEnd
    else Some Comment
-- 13.2.5.69 to 71
next form foreign CdataSection front b = if b == 93 then Some CdataSectionBracket else Some CdataSection
next form foreign CdataSectionBracket front b = if b == 93 then Some CdataSectionEnd else Some CdataSection
next form foreign CdataSectionEnd front b =
    if b == 93 then Some CdataSectionEnd
    else if b == 62 then Some MarkupEnd
    else Some CdataSection
next form foreign (Raw element) front b = in_raw element front b
next form foreign ScriptEscaped front b = in_escaped front b
next form foreign ScriptDoubleEscaped front b = in_double_escaped front b
-- 13.2.5.5: all that is left is text.
next form foreign Plaintext front b = Some Plaintext
next form foreign ReferenceEnd front b = None
next form foreign TagEnd front b = None
next form foreign EmptyTagEnd front b = None
next form foreign MarkupEnd front b = None

-- The same, where a byte that is not the first of its character goes with it: no rule looks at one.
abbrev pub state_after : PageForm → Bool → State → List ℕ → ℕ → Option State
state_after form foreign state front b = if is_continuation b then Some state else next form foreign state front b

-- ---- pieces

-- A piece of a page.
pub record Piece : Type 0 where
  pub kind : PieceKind
  pub bytes : List ℕ

-- The same of a piece as the code holds it.
abbrev pub as_piece : declared.Piece → Piece
as_piece held = record { kind = held.kind; bytes = held.text.now }

-- The kind of a piece, by the state at its end and its bytes. One that the end of the page cuts off is no tag.
unfoldable pub kind_of : State → List ℕ → PieceKind
kind_of Data front = Text
kind_of CharacterReference front = Reference
kind_of ReferenceName front = Reference
kind_of ReferenceEnd front = Reference
kind_of TagEnd front = if is_end_tag front then EndTag else StartTag
kind_of EmptyTagEnd front = if is_end_tag front then EndTag else EmptyTag
kind_of _ front = Other

-- The piece that ends in a state.
abbrev pub piece : State → List ℕ → Piece
piece state front = record { kind = kind_of state front; bytes = front }

-- The state in which the content of an element begins in HTML.
abbrev pub content_of : List ℕ → State
content_of name = if is_same_name name (codes "plaintext") then Plaintext else option_map_or Raw (raw_element name) Data

-- The state after a tag: in HTML, outside of SVG and MathML, that of its element's content. HTML ignores the slash of "/>".
abbrev pub content_after_tag : PageForm → Bool → List ℕ → State
content_after_tag form foreign tag = if is_xml form || foreign || is_end_tag tag then Data else content_of (name_of tag)

-- Where a piece ended, the state in which the next one begins: within a script or the like it stays.
unfoldable pub content_after : PageForm → Bool → State → List ℕ → State
content_after form foreign TagEnd front = content_after_tag form foreign front
content_after form foreign EmptyTagEnd front = content_after_tag form foreign front
content_after form foreign (Raw element) front = Raw element
content_after form foreign ScriptEscaped front = ScriptEscaped
content_after form foreign ScriptDoubleEscaped front = ScriptDoubleEscaped
content_after form foreign Plaintext front = Plaintext
content_after form foreign _ front = Data

-- How many elements `svg` and `math` are open after a piece, where `n` are open before it.
unfoldable pub depth_after : ℕ → State → List ℕ → ℕ
depth_after n TagEnd front = if is_foreign_root (name_of front) then (if is_end_tag front then n - 1 else n + 1) else n
depth_after n EmptyTagEnd front = if is_foreign_root (name_of front) && is_end_tag front then n - 1 else n
depth_after n _ front = n

-- The state after the first byte of a piece (13.2.5.1).
unfoldable pub begin : State → ℕ → State
begin Data b =
    if b == 60 then TagOpen
    else if b == 38 then CharacterReference
    else Data
begin content b = content

-- The pieces from a state on, where `depth` elements `svg` and `math` are open, and the bytes of the first piece so far
-- are `front`.
abbrev pub pieces_from : PageForm → ℕ → State → List ℕ → List ℕ → List Piece
pieces_from form depth state front [] = piece state front ∷ []
pieces_from form depth state front (b ∷ bs) =
    option_map_or (λ after. pieces_from form depth after (front ++ b ∷ []) bs) (state_after form (nat_lt 0 depth) state front b)
    (piece state front
    ∷ pieces_from form (depth_after depth state front) (begin (content_after form (nat_lt 0 depth) state front) b) (b ∷ []) bs)

-- The pieces of a page, in order.
abbrev pub pieces_of : PageForm → List ℕ → List Piece
pieces_of form [] = []
pieces_of form (b ∷ bs) = pieces_from form 0 (begin Data b) (b ∷ []) bs
