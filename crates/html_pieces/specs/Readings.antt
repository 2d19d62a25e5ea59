-- How far a page is read alike by all parsers: those of HTML with scripting on and off, and for XML those of XML too.
-- Source: HTML Living Standard, 13.2.4.1 (the insertion mode), 13.2.5 and 13.2.6; Extensible Markup Language 1.0, 2.4 to 2.8.
-- A reading is loose from the first piece on that may be put elsewhere in the tree, as an element that nests wrongly. Then two
-- facts count alone: the language of a text, and whether it is left alone. Whatever tree is made, all that may be around a text
-- of a loose reading is as the body is, or else the text is in an element that is apart, and has none that is known. So only
-- tables are followed, and elements that are apart with all that they hold, which must nest as it is read. From the first piece
-- on that may change these facts, the page is uncertain up to its end.
use Rattle.std.specs.Prelude.{ℕ, ◌-◌, ◌==◌, ◌||◌, ◌&&◌, Bool, true, false, not, List, [], ◌∷◌, length, map, take, drop, codes, nat_eq, nat_lt, Option, Some, None, if◌then◌else◌}
use Rattle.std.specs.Option.{is_some, option_map_or}
use Rattle.std.specs.List.{starts_with, ends_with}
use Rattle.std.specs.Cmp.Lexicographic.{pointwise}
use Rattle.html_pieces.specs.Bytes.{is_white_space, is_alpha, is_same_name, is_one_of, is_named, names_in, is_xml}
use Rattle.html_pieces.specs.Names.{name_of, raw_element, raw_end_tag, is_foreign_root}
use Rattle.html_pieces.specs.Forms.{after_order_mark, is_start}
use Rattle.html_pieces.specs.Pieces.{Piece, as_piece, is_script}
use Rattle.html_pieces.specs.References.{has_ampersand}
use Rattle.html_pieces.specs.Groups.{ends, stops, bounds, is_in, is_same_group, is_table_part, is_heading, is_root, is_special, is_void}
use Rattle.html_pieces.specs.declared.groups.TheConstants.{HEADING_NAMES, WITHOUT_TEXT, WITHOUT_END_TAGS, CHOICES, AROUND_CELLS, AROUND_ROWS, AROUND_ROW_GROUPS, AROUND_COLUMNS, CLOSING_NO_BLOCKS}
use Rattle.html_pieces.specs.Elements.{Selection, as_selection, Element, as_element, as_elements, innermost, before_new, elements_by, group_by, depth_limit, opened, gives_nothing, followed, loose_elements_by}
use Rattle.html_pieces.specs.declared.bytes.PageForm.{PageForm}
use Rattle.html_pieces.specs.declared.groups.ElementGroup.{ElementGroup}
use Rattle.html_pieces.specs.declared.groups.ElementGroup.TheVariants.{Ordinary, Formatting, Paragraph, Heading, Block, Item, Term, Choice, Choices, Ruby, Cell, Row, Rows, Caption, Columns, Column, Table, Scope, Root, Head, HeadContent, HeadVoid, Template}
use Rattle.html_pieces.specs.declared.elements.TheConstants.{SVG_POINTS, MATH_POINTS}
use Rattle.html_pieces.specs.declared.readings.TheConstants.{LEAVING_PHRASE_NAMES, LEAVING_BLOCK_NAMES, ODD_NAMES, BUTTON_NAMES, FORM_NAMES, LINK_NAMES}
use Rattle.html_pieces.specs.declared.readings.Phase.{Phase}
use Rattle.html_pieces.specs.declared.readings.Phase.TheVariants as reached
use Rattle.html_pieces.specs.declared.readings.Reading as declared
use Rattle.html_pieces.specs.declared.elements.Selection as asked
use Rattle.html_pieces.specs.declared.elements.Element as held
use Rattle.html_pieces.specs.declared.tokenizer.Piece as cut
use Rattle.html_pieces.specs.declared.tokenizer.PieceKind.{PieceKind}
use Rattle.html_pieces.specs.declared.tokenizer.PieceKind.TheVariants.{Text, Reference, StartTag, EmptyTag, EndTag, Other}
use Rattle.html_pieces.specs.declared.tokenizer.RawElement.{RawElement}

-- The facts known of a page at a place: the open elements, how far its parts have come, and whether its document type is
-- HTML's. It is loose where elements may be elsewhere in the tree. It is certain if all parsers have read it alike so far, but
-- for the places of elements in a loose reading.
pub record Reading : Type 0 where
  pub elements : List Element
  pub phase : Phase
  pub is_standard : Bool
  pub is_loose : Bool
  pub is_certain : Bool

-- The same of a reading as the code holds it.
abbrev pub as_reading : declared.Reading → Reading
as_reading held = record {
  elements = as_elements held.elements.items;
  phase = held.phase;
  is_standard = held.is_standard;
  is_loose = held.is_loose;
  is_certain = held.is_certain;
}

-- Before the first piece, where a page may be certain.
abbrev pub started : Bool → Reading
started certain = record { elements = []; phase = reached.Start; is_standard = false; is_loose = false; is_certain = certain }

-- ---- bytes

-- Bytes begin with a word, where ASCII capitals and small letters are alike.
abbrev pub begins_with_word : List ℕ → List ℕ → Bool
begins_with_word word bytes = is_same_name (take (length word) bytes) word

-- A word is somewhere in bytes.
abbrev pub mentions : List ℕ → List ℕ → Bool
mentions word [] = false
mentions word (b ∷ bs) = begins_with_word word (b ∷ bs) || mentions word bs

-- Bytes begin with an ASCII letter.
abbrev pub begins_with_letter : List ℕ → Bool
begins_with_letter [] = false
begins_with_letter (b ∷ bs) = is_alpha b

-- A byte other than white space is in a text.
abbrev pub has_content : List ℕ → Bool
has_content [] = false
has_content (b ∷ bs) = not (is_white_space b) || has_content bs

-- A text has more than white space after the byte order mark that it may begin with.
abbrev pub has_text : List ℕ → Bool
has_text text = has_content (after_order_mark text)

-- The first ">" is the last byte.
abbrev pub ends_at_first : List ℕ → Bool
ends_at_first [] = false
ends_at_first (b ∷ bs) = if b == 62 then length bs == 0 else ends_at_first bs

-- The byte that quotes what comes next, after one more byte: 0 where nothing is quoted.
abbrev pub quote_after : ℕ → ℕ → ℕ
quote_after quote b =
    if quote == 0 then (if b == 34 || b == 39 then b else 0)
    else if b == quote then 0
    else quote

-- A document type has no part in brackets, and each of its identifiers ends before it ends.
abbrev pub has_closed_quotes : ℕ → List ℕ → Bool
has_closed_quotes quote [] = quote == 0
has_closed_quotes quote (b ∷ bs) = not (b == 91) && has_closed_quotes (quote_after quote b) bs

-- ---- pieces that are neither text nor tags

-- A document type.
abbrev pub is_doctype : List ℕ → Bool
is_doctype bytes = begins_with_word (codes "<!doctype") bytes

-- The document type of HTML, by which a table ends a paragraph (13.2.6.4.1, no-quirks mode).
abbrev pub is_html_doctype : List ℕ → Bool
is_html_doctype bytes = is_same_name bytes (codes "<!doctype html>")

-- "--!>" is somewhere in bytes. It ends a comment only in HTML.
abbrev pub has_odd_end : List ℕ → Bool
has_odd_end [] = false
has_odd_end (b ∷ bs) = starts_with nat_eq (b ∷ bs) (codes "--!>") || has_odd_end bs

-- A comment that ends in HTML where it does in XML.
abbrev pub is_comment_alike : List ℕ → Bool
is_comment_alike bytes =
    not (starts_with nat_eq bytes (codes "<!-->")) && not (starts_with nat_eq bytes (codes "<!--->"))
    && not (has_odd_end (drop 4 bytes))

-- A piece that is neither text nor tag ends in HTML where it does in XML, outside of raw text. A "<" that begins nothing in
-- HTML may begin a tag in XML.
unfoldable pub is_other_alike : List ℕ → Bool
is_other_alike bytes =
    if starts_with nat_eq bytes (codes "<!--") then is_comment_alike bytes
    else if starts_with nat_eq bytes (codes "<?") then ends_at_first bytes && ends_with nat_eq bytes (codes "?>")
    else if is_doctype bytes then ends_at_first bytes && has_closed_quotes 0 bytes
    else ends_at_first bytes

-- A single "<", which is text.
abbrev pub is_sign : List ℕ → Bool
is_sign bytes = pointwise nat_eq bytes (codes "<")

-- ---- elements

-- An element of this name is open, or a heading where the name is that of one.
abbrev pub is_open : List ℕ → ElementGroup → List Element → Bool
is_open name group [] = false
is_open name group (e ∷ es) = is_same_name e.name name || is_heading group && is_heading e.group || is_open name group es

-- The nearest drawing or formula around is a drawing.
abbrev pub is_in_svg : List Element → Bool
is_in_svg [] = false
is_in_svg (e ∷ es) = is_same_name e.name (codes "svg") || not (is_same_name e.name (codes "math")) && is_in_svg es

-- The content of an element of this name is raw text, in HTML at least with scripting on.
abbrev pub is_read_raw : List ℕ → Bool
is_read_raw name = is_some (raw_element name) || is_same_name name (codes "plaintext") || is_same_name name (codes "noscript")

-- Text in such an element is elsewhere in the tree (13.2.6.1, foster parents; 13.2.6.4.4, "in head").
abbrev pub holds_no_text : ElementGroup → Bool
holds_no_text group = is_in WITHOUT_TEXT group

-- The end tag of an open element may be left out where one of the first group begins. A table ends a paragraph only by the
-- document type of HTML.
abbrev pub is_left_out_before : Bool → ElementGroup → ElementGroup → Bool
is_left_out_before standard new other =
    is_in WITHOUT_END_TAGS other && (standard || not (is_same_group other Paragraph && is_same_group new Table))

-- All that an element of a group ends where it begins, among the `left` next ones, has end tags that may be left out. So it is
-- with those up to the last one that it ends (`so_far`), and with all that were looked at (`all`).
abbrev pub ends_alike_from : Bool → ElementGroup → ℕ → Bool → Bool → List Element → Bool
ends_alike_from standard new left so_far all [] = so_far
ends_alike_from standard new left so_far all (e ∷ es) =
    if left == 0 then so_far
    else if ends new e.group
    then ends_alike_from standard new (left - 1) (all && is_left_out_before standard new e.group)
    (all && is_left_out_before standard new e.group) es
    else if stops new e.group then so_far
    else ends_alike_from standard new (left - 1) so_far (all && is_left_out_before standard new e.group) es

-- All that an element of a group ends where it begins has end tags that may be left out.
abbrev pub ends_alike : Bool → ElementGroup → List Element → Bool
ends_alike standard new elements = ends_alike_from standard new depth_limit true true elements

-- ---- start tags of HTML

-- A tag of one of these names ends SVG and MathML (13.2.6.5).
abbrev pub is_leaving : List ℕ → Bool
is_leaving name = is_named LEAVING_PHRASE_NAMES name || is_named LEAVING_BLOCK_NAMES name || is_named HEADING_NAMES name

-- An annotation of MathML whose content may be HTML, by its tag.
abbrev pub may_hold_html : List ℕ → List ℕ → Bool
may_hold_html name tag = is_same_name name (codes "annotation-xml") && (mentions (codes "html") tag || has_ampersand tag)

-- A start tag in SVG or MathML opens an element there. An integration point is one of its own namespace.
unfoldable pub is_foreign_start_alike : List Element → List ℕ → List ℕ → Bool
is_foreign_start_alike elements name tag =
    if is_leaving name then false
    else if is_named SVG_POINTS name then is_in_svg elements
    else if is_named MATH_POINTS name then not (is_in_svg elements)
    else not (may_hold_html name tag)

-- Elements may begin that are no parts of tables or selections. `around` is the innermost element before what the new one ends,
-- and `within` the one after it.
abbrev pub takes_content : Element → Element → Bool
takes_content around within =
    not (is_in CHOICES around.group) && not (holds_no_text within.group) && not (is_same_name within.name (codes "select"))

-- An element that a head may have may begin: where content may, in a head, and some in a table.
abbrev pub takes_head_content : Element → Element → ElementGroup → List ℕ → Bool
takes_head_content around within new name =
    not (is_in CHOICES around.group) && not (is_same_name within.name (codes "select"))
    && (not (holds_no_text within.group) || is_same_group within.group Head || is_same_group new Template || is_same_name name (codes "script")
    || is_same_name name (codes "style"))

-- Nothing has come but a document type, comments and white space.
abbrev pub is_before_root : Phase → Bool
is_before_root reached.Start = true
is_before_root reached.Typed = true
is_before_root _ = false

-- Nothing has come of a head.
abbrev pub is_before_head : Phase → Bool
is_before_head reached.Start = true
is_before_head reached.Typed = true
is_before_head reached.Root = true
is_before_head _ = false

-- Nothing has come of a body.
abbrev pub is_before_body : Phase → Bool
is_before_body reached.Body = false
is_before_body _ = true

-- The element of the page or its body may begin: each once, before all that it holds.
abbrev pub takes_root : Phase → Element → List ℕ → Bool
takes_root phase within name =
    if is_same_name name (codes "html") then is_before_root phase else is_before_body phase && is_root within.group

-- An element of a name is not open, where it may not be within another one.
abbrev pub is_alone : List (List ℕ) → List ℕ → List Element → Bool
is_alone names name elements = not (is_one_of names name && is_open name Ordinary elements)

-- An element of a group may begin where it does: all parsers put it there. `standard` is the document type of HTML.
unfoldable pub is_expected : Phase → Element → Element → List Element → ElementGroup → List ℕ → Bool
is_expected phase around within elements Root name = takes_root phase within name
is_expected phase around within elements Head name = is_before_head phase && is_root within.group
is_expected phase around within elements HeadContent name = takes_head_content around within HeadContent name
is_expected phase around within elements HeadVoid name = takes_head_content around within HeadVoid name
is_expected phase around within elements Template name = takes_head_content around within Template name
is_expected phase around within elements Cell name = is_in AROUND_CELLS within.group
is_expected phase around within elements Row name = is_in AROUND_ROWS within.group
is_expected phase around within elements Rows name = is_in AROUND_ROW_GROUPS within.group
is_expected phase around within elements Caption name = is_in AROUND_ROW_GROUPS within.group
is_expected phase around within elements Columns name = is_same_group within.group Table
is_expected phase around within elements Column name = is_in AROUND_COLUMNS within.group
is_expected phase around within elements Choice name = not (holds_no_text within.group)
is_expected phase around within elements Choices name = is_same_name within.name (codes "select")
is_expected phase around within elements Ruby name = is_same_name within.name (codes "ruby")
is_expected phase around within elements Heading name = takes_content around within && not (is_heading within.group)
is_expected phase around within elements Scope name = takes_content around within && is_alone (names_in BUTTON_NAMES) name elements
is_expected phase around within elements Block name = takes_content around within && is_alone (names_in FORM_NAMES) name elements
is_expected phase around within elements Formatting name =
    takes_content around within && is_alone (names_in LINK_NAMES) name elements
is_expected phase around within elements Ordinary name = takes_content around within && not (is_named ODD_NAMES name)
is_expected phase around within elements _ name = takes_content around within

-- The content of an element is read alike by all: within a drawing it is no raw text, and `noscript` is not within another one.
abbrev pub is_content_alike : Element → List ℕ → Bool
is_content_alike around name =
    not (around.is_in_drawing && is_read_raw name) && not (around.is_in_noscript && is_same_name name (codes "noscript"))

-- The end tag of a formatting element around an element of a group may put its text elsewhere. It counts where a language is
-- named between the two. (13.2.6.4.7, the adoption agency algorithm.)
abbrev pub may_be_adopted : Element → ElementGroup → List ℕ → Bool
may_be_adopted within new name =
    within.inherits_from_formatting && not within.is_in_drawing && is_special new && not (is_void new) && not (is_foreign_root name)

-- A start tag of HTML is read alike by all parsers, outside of SVG and MathML.
abbrev pub is_html_start_alike : Element → Reading → ElementGroup → List ℕ → Bool
is_html_start_alike page reading new name =
    is_content_alike (innermost page reading.elements) name && ends_alike reading.is_standard new reading.elements
    && not (may_be_adopted (innermost page (before_new new reading.elements)) new name)
    && is_expected reading.phase (innermost page reading.elements) (innermost page (before_new new reading.elements))
    reading.elements new name

-- A start tag of a page in HTML is read alike by all parsers.
abbrev pub is_start_alike : Element → Reading → ElementGroup → List ℕ → Bool
is_start_alike page reading new tag =
    if (innermost page reading.elements).is_foreign then is_foreign_start_alike reading.elements (name_of tag) tag
    else is_html_start_alike page reading new (name_of tag)

-- ---- end tags of HTML

-- An end tag of the group closes paragraphs, items and terms that are in its element: "generate implied end tags".
abbrev pub closes_blocks : ElementGroup → Bool
closes_blocks tag = not (is_in CLOSING_NO_BLOCKS tag) && is_special tag

-- An end tag of the first group closes an element of the second that is in its own and has no end tag.
unfoldable pub is_left_out_in : ElementGroup → ElementGroup → Bool
is_left_out_in tag Ruby = true
is_left_out_in tag Choice = true
is_left_out_in tag Choices = true
is_left_out_in tag Paragraph = closes_blocks tag
is_left_out_in tag Item = closes_blocks tag
is_left_out_in tag Term = closes_blocks tag
is_left_out_in tag Cell = is_in AROUND_CELLS tag
is_left_out_in tag Row = is_in AROUND_ROWS tag
is_left_out_in tag Rows = is_in AROUND_ROW_GROUPS tag
is_left_out_in tag Caption = is_in AROUND_ROW_GROUPS tag
is_left_out_in tag Columns = is_in AROUND_ROW_GROUPS tag
is_left_out_in tag _ = false

-- All that an end tag closes in its element, among the `left` next ones, has no end tag by these rules; none where its element
-- is not found. `all` says so of those before.
abbrev pub closes_alike_from : List ℕ → ElementGroup → ℕ → Bool → List Element → Option Bool
closes_alike_from name tag left all [] = None
closes_alike_from name tag left all (e ∷ es) =
    if left == 0 then None
    else if is_same_name e.name name || is_heading tag && is_heading e.group then Some all
    else if bounds tag e.group then None
    else closes_alike_from name tag (left - 1) (all && is_left_out_in tag e.group) es

-- An end tag without an element is passed by: none of its name is open. It is no part of a table, no "br", and no paragraph
-- where none may be.
abbrev pub is_passed_by : Element → ElementGroup → List ℕ → List Element → Bool
is_passed_by around tag name elements =
    not (is_table_part tag) && not (is_same_name name (codes "br")) && not (is_same_group tag Paragraph && holds_no_text around.group)
    && not (is_open name tag elements)

-- An element is read otherwise with scripting than without, or is in a template: what it holds begins no body.
abbrev pub is_hidden : Element → Bool
is_hidden e = e.is_in_noscript || e.is_in_template

-- An end tag of HTML is read alike by all parsers, outside of SVG and MathML.
abbrev pub is_html_end_alike : Element → ElementGroup → List ℕ → List Element → Bool
is_html_end_alike around tag name elements =
    if is_root tag then not (is_hidden around)
    else option_map_or (λ all. all) (closes_alike_from name tag depth_limit true elements) (is_passed_by around tag name elements)

-- An end tag of a page in HTML is read alike by all parsers. In a drawing it is that of the innermost element.
abbrev pub is_end_alike : Element → Reading → ElementGroup → List ℕ → Bool
is_end_alike page reading tag name =
    if (innermost page reading.elements).is_in_drawing then is_same_name (innermost page reading.elements).name name
    else is_html_end_alike (innermost page reading.elements) tag name reading.elements

-- ---- other pieces of HTML

-- Text is where it is read.
abbrev pub is_content_here : Element → Bool
is_content_here around = not (holds_no_text around.group)

-- A section of CDATA in a drawing's text in HTML, which is none there.
abbrev pub is_odd_section : Element → List ℕ → Bool
is_odd_section around bytes = around.is_in_drawing && not around.is_foreign && starts_with nat_eq bytes (codes "<![CDATA[")

-- A piece of HTML that is neither text nor tag is read alike by all parsers: before the root by those of XML too.
abbrev pub is_html_other_alike : Element → Phase → List ℕ → Bool
is_html_other_alike around phase bytes =
    if is_before_root phase then is_other_alike bytes
    else if is_sign bytes then is_content_here around
    else not (is_odd_section around bytes)

-- A piece of a page in HTML is read alike by all parsers.
abbrev pub is_html_alike : Element → Reading → ElementGroup → PieceKind → List ℕ → Bool
is_html_alike page reading group Text bytes = not (has_text bytes) || is_content_here (innermost page reading.elements)
is_html_alike page reading group Reference bytes = is_content_here (innermost page reading.elements)
is_html_alike page reading group StartTag bytes = is_start_alike page reading group bytes
is_html_alike page reading group EmptyTag bytes = is_start_alike page reading group bytes
is_html_alike page reading group EndTag bytes = is_end_alike page reading group (name_of bytes)
is_html_alike page reading group Other bytes = is_html_other_alike (innermost page reading.elements) reading.phase bytes

-- ---- pieces of XML

-- Raw text in HTML goes on over a piece: it has no end tag of the element, and a script has no tag of one.
abbrev pub stays_raw : RawElement → List ℕ → Bool
stays_raw element bytes =
    not (mentions (raw_end_tag element) bytes) && not (is_script element && mentions (codes "<script") bytes)

-- A start tag of XML begins as one of HTML does, and opens no content there that it does not hold here.
abbrev pub is_xml_start_alike : Element → List ℕ → Bool
is_xml_start_alike around name =
    begins_with_letter name && not (is_some (raw_element around.name)) && not (is_same_name name (codes "plaintext"))
    && not (is_same_name name (codes "frameset")) && not (around.is_in_noscript && is_same_name name (codes "noscript"))

-- A tag of XML with "/>".
abbrev pub is_xml_empty_alike : Element → List ℕ → Bool
is_xml_empty_alike around name = is_xml_start_alike around name && not (is_read_raw name)

-- A piece of XML that is neither text nor tag.
abbrev pub is_xml_other_alike : Element → List ℕ → Bool
is_xml_other_alike around bytes =
    option_map_or (λ element. stays_raw element bytes) (raw_element around.name) (is_other_alike bytes)

-- A piece of XML is read alike by all parsers. Each end tag is that of the innermost element.
abbrev pub is_xml_alike : Element → PieceKind → List ℕ → Bool
is_xml_alike around Text bytes = true
is_xml_alike around Reference bytes = true
is_xml_alike around StartTag bytes = is_xml_start_alike around (name_of bytes)
is_xml_alike around EmptyTag bytes = is_xml_empty_alike around (name_of bytes)
is_xml_alike around EndTag bytes = pointwise nat_eq around.name (name_of bytes)
is_xml_alike around Other bytes = is_xml_other_alike around bytes

-- ---- all pieces

-- With scripting on, the text of a `noscript` goes on over a piece.
abbrev pub is_in_raw_noscript : Element → List ℕ → Bool
is_in_raw_noscript around bytes = not (around.is_in_noscript && mentions (codes "</noscript") bytes)

-- With scripting on, the text of a `noscript` goes on over a piece, or ends with its end tag.
abbrev pub stays_in_noscript : Element → PieceKind → List ℕ → Bool
stays_in_noscript around Text bytes = true
stays_in_noscript around Reference bytes = true
stays_in_noscript around EndTag bytes =
    is_same_name (name_of bytes) (codes "noscript") || is_in_raw_noscript around bytes
stays_in_noscript around _ bytes = is_in_raw_noscript around bytes

-- A piece is read alike by all parsers.
abbrev pub is_alike_by : PageForm → Element → Reading → ElementGroup → PieceKind → List ℕ → Bool
is_alike_by form page reading group kind bytes =
    nat_lt (length reading.elements) depth_limit
    && stays_in_noscript (innermost page reading.elements) kind bytes
    && (if is_xml form then is_xml_alike (innermost page reading.elements) kind bytes
    else is_html_alike page reading group kind bytes)

-- ---- pieces of a loose reading

-- A start tag of HTML within an element that is apart ends only what may be left out, opens no page, and begins no raw text that
-- a `select` would pass by.
abbrev pub is_alike_within : Bool → Element → List Element → ElementGroup → List ℕ → Bool
is_alike_within standard around elements new name =
    not (is_root new) && not (is_same_group new Head) && not (is_same_name name (codes "frameset")) && is_content_alike around name
    && ends_alike standard new elements
    && (is_in CHOICES new || not (is_in CHOICES around.group) && not (is_same_name around.name (codes "select")))

-- An element of a table is taken by one; any other one is taken by all but tables, which take scripts, styles and templates.
abbrev pub is_taken : Element → Reading → ElementGroup → List ℕ → Bool
is_taken page reading new name =
    if is_table_part new
    then is_expected reading.phase (innermost page reading.elements) (innermost page (before_new new reading.elements)) reading.elements new name
    else is_content_here (innermost page reading.elements) || is_same_group new Template || is_same_name name (codes "script")
    || is_same_name name (codes "style")

-- A start tag of HTML outside of all elements that are apart is in its place, whatever is open there: that of a page or a body
-- gives nothing to it. The end tag of a form closes only the form, and nothing in it, so none is apart.
abbrev pub is_alike_outside : PageForm → Selection → Element → Reading → ElementGroup → List ℕ → Bool
is_alike_outside form selection page reading new tag =
    if is_root new then gives_nothing form selection tag
    else is_taken page reading new (name_of tag) && not (is_same_name (name_of tag) (codes "frameset"))
    && not (is_same_name (name_of tag) (codes "form") && (opened form selection (innermost page reading.elements) tag).is_apart)

-- A start tag of a loose reading is read alike by all parsers. In SVG and MathML no element holds HTML.
abbrev pub is_loose_start_alike : PageForm → Selection → Element → Reading → ElementGroup → List ℕ → Bool
is_loose_start_alike form selection page reading new tag =
    if (innermost page reading.elements).is_foreign
    then not (is_named SVG_POINTS (name_of tag) || is_named MATH_POINTS (name_of tag)) && is_foreign_start_alike reading.elements (name_of tag) tag
    else if (innermost page reading.elements).is_apart
    then is_alike_within reading.is_standard (innermost page reading.elements) reading.elements new (name_of tag)
    else is_alike_outside form selection page reading new tag

-- An end tag in an element that is apart closes an open one, and in it only what has no end tag.
abbrev pub is_end_within : ElementGroup → List ℕ → List Element → Bool
is_end_within tag name elements =
    not (is_root tag) && option_map_or (λ all. all) (closes_alike_from name tag depth_limit true elements) false

-- An end tag of a loose reading is read alike by all parsers. Outside of all elements that are apart each is.
abbrev pub is_loose_end_alike : Element → ElementGroup → List ℕ → List Element → Bool
is_loose_end_alike around tag name elements =
    if around.is_in_drawing then is_same_name around.name name
    else not around.is_apart || is_end_within tag name elements

-- A piece of a page in HTML is read alike by all parsers, in a loose reading.
abbrev pub is_loose_html_alike : PageForm → Selection → Element → Reading → ElementGroup → PieceKind → List ℕ → Bool
is_loose_html_alike form selection page reading group Text bytes = not (has_text bytes) || is_content_here (innermost page reading.elements)
is_loose_html_alike form selection page reading group Reference bytes = is_content_here (innermost page reading.elements)
is_loose_html_alike form selection page reading group StartTag bytes = is_loose_start_alike form selection page reading group bytes
is_loose_html_alike form selection page reading group EmptyTag bytes = is_loose_start_alike form selection page reading group bytes
is_loose_html_alike form selection page reading group EndTag bytes =
    is_loose_end_alike (innermost page reading.elements) group (name_of bytes) reading.elements
is_loose_html_alike form selection page reading group Other bytes =
    is_html_other_alike (innermost page reading.elements) reading.phase bytes

-- A piece of a loose reading is read alike by all parsers.
abbrev pub is_loosely_alike : PageForm → Selection → Element → Reading → ElementGroup → PieceKind → List ℕ → Bool
is_loosely_alike form selection page reading group kind bytes =
    nat_lt (length reading.elements) depth_limit && stays_in_noscript (innermost page reading.elements) kind bytes
    && is_loose_html_alike form selection page reading group kind bytes

-- A reading may become loose: in HTML, once the page has begun, where no open element is apart.
abbrev pub may_be_loose : PageForm → Element → Reading → Bool
may_be_loose form page reading =
    not (is_xml form) && not (is_before_root reading.phase) && not (innermost page reading.elements).is_apart

-- The same reading as a loose one.
abbrev pub loosened : Reading → Reading
loosened reading = record {
  elements = followed reading.elements;
  phase = reading.phase;
  is_standard = reading.is_standard;
  is_loose = true;
  is_certain = reading.is_certain;
}

-- ---- how far a page has come

-- After text, and all that only a body has.
abbrev pub body_unless : Bool → Phase → Phase
body_unless is_kept phase = if is_kept then phase else reached.Body

-- After an element that a head may have.
abbrev pub head_from : Phase → Phase
head_from reached.Body = reached.Body
head_from _ = reached.Head

-- After a start tag, whose element is of a group.
abbrev pub phase_after_start : Bool → Phase → ElementGroup → List ℕ → Phase
phase_after_start hidden phase Root name = if is_same_name name (codes "html") then reached.Root else reached.Body
phase_after_start hidden phase Head name = reached.Head
phase_after_start hidden phase HeadContent name = if hidden then phase else head_from phase
phase_after_start hidden phase HeadVoid name = if hidden then phase else head_from phase
phase_after_start hidden phase Template name = if hidden then phase else head_from phase
phase_after_start hidden phase _ name = body_unless hidden phase

-- After a document type, a "<" that is text, or another piece.
abbrev pub phase_after_other : Element → Phase → List ℕ → Phase
phase_after_other around reached.Start bytes = if is_doctype bytes then reached.Typed else reached.Start
phase_after_other around phase bytes =
    body_unless (is_hidden around || is_some (raw_element around.name) || not (is_sign bytes)) phase

-- After a piece.
abbrev pub phase_after : Element → Phase → ElementGroup → PieceKind → List ℕ → Phase
phase_after around phase group Text bytes = body_unless (is_hidden around || not (has_text bytes)) phase
phase_after around phase group Reference bytes = body_unless (is_hidden around) phase
phase_after around phase group StartTag bytes = phase_after_start (is_hidden around) phase group (name_of bytes)
phase_after around phase group EmptyTag bytes = phase_after_start (is_hidden around) phase group (name_of bytes)
phase_after around phase group EndTag bytes = body_unless (not (is_root group)) phase
phase_after around phase group Other bytes = phase_after_other around phase bytes

-- After a document type, a comment or the like.
abbrev pub standard_after_other : Bool → Phase → List ℕ → Bool
standard_after_other standard reached.Start bytes = is_html_doctype bytes
standard_after_other standard _ bytes = standard

-- The document type of HTML has come, before all else.
abbrev pub standard_after : Bool → Phase → PieceKind → List ℕ → Bool
standard_after standard phase Other bytes = standard_after_other standard phase bytes
standard_after standard phase _ bytes = standard

-- The reading after a piece of one kind, whose element is of a group, that is read alike by all parsers or makes it uncertain.
abbrev pub read_by : PageForm → Selection → Element → Reading → ElementGroup → Piece → Reading
read_by form selection page reading group p = record {
  elements = elements_by form selection group p.kind p.bytes page reading.elements;
  phase = phase_after (innermost page reading.elements) reading.phase group p.kind p.bytes;
  is_standard = standard_after reading.is_standard reading.phase p.kind p.bytes;
  is_loose = false;
  is_certain = is_alike_by form page reading group p.kind p.bytes;
}

-- The same of a loose reading.
abbrev pub read_loosely : PageForm → Selection → Element → Reading → ElementGroup → Piece → Reading
read_loosely form selection page reading group p = record {
  elements = loose_elements_by form selection group p.kind p.bytes page reading.elements;
  phase = phase_after (innermost page reading.elements) reading.phase group p.kind p.bytes;
  is_standard = standard_after reading.is_standard reading.phase p.kind p.bytes;
  is_loose = true;
  is_certain = is_loosely_alike form selection page reading group p.kind p.bytes;
}

-- The reading after a piece, whose element is of a group. It becomes loose at a piece that is not read alike by all parsers.
abbrev pub read_in : PageForm → Selection → Element → Reading → ElementGroup → Piece → Reading
read_in form selection page reading group p =
    if reading.is_loose then read_loosely form selection page reading group p
    else if is_alike_by form page reading group p.kind p.bytes || not (may_be_loose form page reading)
    then read_by form selection page reading group p
    else read_loosely form selection page (loosened reading) group p

-- The reading after a piece. Once it is uncertain, it stays as it is.
abbrev pub reading_after : PageForm → Selection → Element → Reading → Piece → Reading
reading_after form selection page reading p =
    if reading.is_certain
    then read_in form selection page reading (group_by form (innermost page reading.elements) p.kind p.bytes) p
    else reading

-- The reading after a piece, by what the code holds.
abbrev pub next_reading : PageForm → asked.Selection → held.Element → declared.Reading → cut.Piece → Reading
next_reading form selection page reading piece =
    reading_after form (as_selection selection) (as_element page) (as_reading reading) (as_piece piece)

-- A piece is text of the body, whatever is around it.
abbrev pub is_read_text : PieceKind → List ℕ → Bool
is_read_text Text bytes = has_text bytes
is_read_text Reference bytes = true
is_read_text _ bytes = false

-- A start tag of the element of the page, or of its body.
abbrev pub is_root_start : PieceKind → List ℕ → Bool
is_root_start kind bytes =
    is_start kind && (is_same_name (name_of bytes) (codes "html") || is_same_name (name_of bytes) (codes "body"))

-- A start tag of the element of the page or of its body, that gives something to it.
abbrev pub gives_to_root : PageForm → Selection → PieceKind → List ℕ → Bool
gives_to_root form selection kind bytes = is_root_start kind bytes && not (gives_nothing form selection bytes)

-- The start tag of the page or its body comes after text (`seen`), and gives its attributes to what is around that text.
abbrev pub has_late_root : PageForm → Selection → Bool → List Piece → Bool
has_late_root form selection seen [] = false
has_late_root form selection seen (p ∷ ps) =
    seen && gives_to_root form selection p.kind p.bytes || has_late_root form selection (seen || is_read_text p.kind p.bytes) ps

-- Before the first of the pieces of a page.
abbrev pub at_start : PageForm → Selection → List Piece → Reading
at_start form selection pieces = started (is_xml form || not (has_late_root form selection false pieces))

-- The same, by what the code holds.
abbrev pub start_of : PageForm → asked.Selection → List cut.Piece → Reading
start_of form selection pieces = at_start form (as_selection selection) (map as_piece pieces)

-- A text may be elsewhere in the tree than in the innermost open element: where the reading is uncertain, where that element
-- holds no text or is apart in a loose reading, and in XML outside of the root.
abbrev pub may_be_elsewhere : PageForm → Reading → Element → Bool
may_be_elsewhere form reading around =
    not reading.is_certain || holds_no_text around.group || reading.is_loose && around.is_apart
    || is_xml form && length reading.elements == 0

-- The element that a text is in: the innermost open one, or the page. There is none where the text may be elsewhere.
abbrev pub parent_of_text : PageForm → Element → Reading → Option Element
parent_of_text form page reading =
    if may_be_elsewhere form reading (innermost page reading.elements) then None
    else Some (innermost page reading.elements)
