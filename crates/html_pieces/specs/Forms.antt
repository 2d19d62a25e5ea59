-- The form of a page: HTML, or XML as in XHTML and e-books. It is told by the front of the page alone.
-- Source: Extensible Markup Language 1.0, 2.8 (the XML declaration); HTML Living Standard, 14.2 (XML documents have the
-- namespace of XHTML on their root).
use Rattle.std.specs.Prelude.{ℕ, ◌==◌, ◌&&◌, ◌++◌, Bool, true, false, List, [], ◌∷◌, drop, slice_index, nat_eq, codes, if◌then◌else◌}
use Rattle.std.specs.Option.{is_some, unwrap_or}
use Rattle.std.specs.List.{starts_with}
use Rattle.html_pieces.specs.Bytes.{is_white_space, is_alpha, is_continuation}
use Rattle.html_pieces.specs.Pieces.{next}
use Rattle.html_pieces.specs.Tags.{attributes_of, value_of}
use Rattle.html_pieces.specs.declared.bytes.PageForm.{PageForm}
use Rattle.html_pieces.specs.declared.bytes.PageForm.TheVariants.{Html, Xml}
use Rattle.html_pieces.specs.declared.tokenizer.State.{State}
use Rattle.html_pieces.specs.declared.tokenizer.State.TheVariants.{Data, TagOpen, TagName, TagEnd, EmptyTagEnd, MarkupDeclarationOpen, MarkupDeclarationDash, BogusComment, ProcessingInstruction, ProcessingInstructionMark, CommentStart, CommentStartDash, Comment, CommentEndDash, CommentEnd, Plaintext}
use Rattle.html_pieces.specs.declared.tokenizer.PieceKind.{PieceKind}
use Rattle.html_pieces.specs.declared.tokenizer.PieceKind.TheVariants.{StartTag, EmptyTag}

-- Bytes begin with U+FEFF, which is the byte order mark at the beginning of a page.
abbrev pub begins_with_order_mark : List ℕ → Bool
begins_with_order_mark bytes = starts_with nat_eq bytes (0xEF ∷ 0xBB ∷ 0xBF ∷ [])

-- The bytes of a page without a byte order mark.
abbrev pub after_order_mark : List ℕ → List ℕ
after_order_mark page = if begins_with_order_mark page then drop 3 page else page

-- The page begins with an XML declaration.
abbrev pub begins_with_declaration : List ℕ → Bool
begins_with_declaration page = starts_with nat_eq page (codes "<?xml") && is_white_space (slice_index page 5)

-- The same after a byte order mark.
abbrev pub has_declaration : List ℕ → Bool
has_declaration page = begins_with_declaration (after_order_mark page)

-- A piece of this kind is a start tag.
abbrev pub is_start : PieceKind → Bool
is_start StartTag = true
is_start EmptyTag = true
is_start _ = false

-- ---- the front of a page, which is before its first tag

-- The state is that of text.
abbrev pub is_data : State → Bool
is_data Data = true
is_data _ = false

-- A tag has ended.
abbrev pub is_tag_end : State → Bool
is_tag_end TagEnd = true
is_tag_end EmptyTagEnd = true
is_tag_end _ = false

-- The first tag has ended, or something came that belongs to no front.
abbrev pub is_past_front : State → Bool
is_past_front Plaintext = true
is_past_front state = is_tag_end state

-- The state after a byte of a front. It has texts, and comments, declarations and instructions that end in HTML where they do
-- in XML. At anything else the front is past, without a tag: `Plaintext`. The tag after it is read as in all pages.
unfoldable pub front_after : State → ℕ → State
front_after Data b = if b == 60 then TagOpen else Data
front_after TagOpen b =
    if is_alpha b then TagName
    else if b == 33 then MarkupDeclarationOpen
    else if b == 63 then ProcessingInstruction
    else Plaintext
-- A declaration ends at its first ">", and has no part in brackets.
front_after MarkupDeclarationOpen b = if b == 45 then MarkupDeclarationDash else if b == 62 then Data else BogusComment
front_after MarkupDeclarationDash b = if b == 45 then CommentStart else if b == 62 then Data else BogusComment
front_after BogusComment b = if b == 62 then Data else if b == 91 then Plaintext else BogusComment
-- An instruction ends at its first ">", which is that of "?>".
front_after ProcessingInstruction b =
    if b == 62 then Plaintext else if b == 63 then ProcessingInstructionMark else ProcessingInstruction
front_after ProcessingInstructionMark b =
    if b == 62 then Data else if b == 63 then ProcessingInstructionMark else ProcessingInstruction
-- A comment ends at its first "-->", whose dashes are not those of "<!--". Before it has no "--!".
front_after CommentStart b = if b == 45 then CommentStartDash else if b == 62 then Plaintext else Comment
front_after CommentStartDash b = if b == 45 then CommentEnd else if b == 62 then Plaintext else Comment
front_after Comment b = if b == 45 then CommentEndDash else Comment
front_after CommentEndDash b = if b == 45 then CommentEnd else Comment
front_after CommentEnd b =
    if b == 62 then Data else if b == 33 then Plaintext else if b == 45 then CommentEnd else Comment
front_after state b = unwrap_or (next Xml false state [] b) state

-- The same, where a byte that is not the first of its character goes with it.
abbrev pub front_state : State → ℕ → State
front_state state b = if is_continuation b then state else front_after state b

-- A front so far: its state, and the bytes since its last text.
pub record Front : Type 0 where
  pub state : State
  pub bytes : List ℕ

-- Before the first byte.
abbrev pub at_front : Front
at_front = record { state = Data; bytes = [] }

-- A front with a byte more, if it is not past.
abbrev pub front_with : Front → ℕ → Front
front_with front b =
    if is_past_front front.state then front
    else record {
      state = front_state front.state b;
      bytes = if is_data (front_state front.state b) then [] else front.bytes ++ b ∷ [];
    }

-- A front with more bytes.
abbrev pub front_of : Front → List ℕ → Front
front_of front [] = front
front_of front (b ∷ bs) = front_of (front_with front b) bs

-- The tag that a front has led to; nothing where there is none.
abbrev pub tag_of : Front → List ℕ
tag_of front = if is_tag_end front.state then front.bytes else []

-- The first tag of a page, where its front leads to one.
abbrev pub root_tag : List ℕ → List ℕ
root_tag page = tag_of (front_of at_front page)

-- A tag has the attribute "xmlns".
abbrev pub has_namespace : List ℕ → Bool
has_namespace tag = is_some (value_of Xml (codes "xmlns") (attributes_of Xml tag))

-- A page is XML where it begins with an XML declaration, or its first tag, to which its front leads, has the attribute "xmlns".
abbrev pub form_of : List ℕ → PageForm
form_of page = if has_declaration page then Xml else if has_namespace (root_tag page) then Xml else Html
