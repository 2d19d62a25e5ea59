-- Which elements are open at a text, its language, and whether it may be translated.
-- Source: HTML Living Standard, 3.2.6.2 (lang and xml:lang), 3.2.6.3 (translate); 13.1.2.4 (optional tags), 13.2.4.2 (the
-- stack of open elements), 13.2.6 (tree construction). Simpler than the standard: an end tag of a formatting element, as
-- `b`, closes all in that element too. None is opened anew in the next paragraph.
use Rattle.std.specs.Prelude.{◌≡◌, ℕ, ◌-◌, ◌==◌, ◌||◌, ◌&&◌, Bool, true, false, not, List, [], ◌∷◌, ◌++◌, length, map, reverse, codes, nat_eq, nat_lt, Option, Some, None, if◌then◌else◌}
use Rattle.std.specs.Option.{is_some, unwrap_or, option_map_or}
use Rattle.std.specs.Cmp.Lexicographic.{pointwise}
use Rattle.html_pieces.specs.Bytes.{is_white_space, is_same_name, is_same_in, is_one_of, is_named, is_xml}
use Rattle.html_pieces.specs.Names.{name_of, is_foreign_root}
use Rattle.html_pieces.specs.Pieces.{Piece}
use Rattle.html_pieces.specs.Forms.{is_start}
use Rattle.html_pieces.specs.Groups.{group_of, is_void, is_table_part, is_same_group, ends, stops, bounds, is_root, is_heading}
use Rattle.html_pieces.specs.References.{read_value}
use Rattle.html_pieces.specs.Tags.{Attribute, attributes_of, value_of}
use Rattle.html_pieces.specs.declared.elements.TheConstants.{APART_NAMES, SVG_POINTS, MATH_POINTS}
use Rattle.html_pieces.specs.declared.bytes.PageForm.{PageForm}
use Rattle.html_pieces.specs.declared.groups.ElementGroup.{ElementGroup}
use Rattle.html_pieces.specs.declared.groups.ElementGroup.TheVariants.{Ordinary, Formatting, Table, Root}
use Rattle.html_pieces.specs.declared.elements.Element as declared
use Rattle.html_pieces.specs.declared.elements.Selection as asked
use Rattle.html_pieces.specs.declared.tokenizer.PieceKind.TheVariants.{StartTag, EmptyTag, EndTag}
use Rattle.html_pieces.specs.declared.tokenizer.PieceKind.{PieceKind}

-- The elements that a caller asks about: those of some names, and those of a class.
pub record Selection : Type 0 where
  pub names : List (List ℕ)
  pub class : List ℕ

-- The same of a selection as the code holds it.
abbrev pub as_selection : asked.Selection → Selection
as_selection held = record { names = map (λ name. name.now) held.names.now; class = held.class.now }

-- An open element: its name and group, and the language of its text. It is selected where it or an element around is of the
-- caller's selection, and translated by the attribute `translate`. Its content may be foreign, that is, SVG or MathML. It may
-- be one of these or `noscript` or `template` or a formatting element, or stand within one. It inherits from formatting where
-- it or an element around names a language or `translate`, and that one is a formatting element or in one. It is apart where
-- its text, or that of an element around but the page and its body, is not what the text of the body is.
pub record Element : Type 0 where
  pub name : List ℕ
  pub group : ElementGroup
  pub language : List ℕ
  pub is_selected : Bool
  pub is_translated : Bool
  pub is_foreign : Bool
  pub is_in_drawing : Bool
  pub is_in_noscript : Bool
  pub is_in_template : Bool
  pub is_in_formatting : Bool
  pub inherits_from_formatting : Bool
  pub is_apart : Bool

-- A value of more bytes is taken for a language as it is written. No tag of a language is that long.
abbrev pub longest_language : ℕ
longest_language = 256

-- The language that a value names.
abbrev pub language_by : List ℕ → List ℕ
language_by value = if nat_lt longest_language (length value) then value else read_value value

-- The language of an element as the code holds it, which may still be written with references.
abbrev pub held_language : Bool → List ℕ → List ℕ
held_language is_written language = if is_written then read_value language else language

-- The same of an element as the code holds it.
abbrev pub as_element : declared.Element → Element
as_element held = record {
  name = held.name.now;
  group = held.group;
  language = held_language held.has_references held.language.now;
  is_selected = held.is_selected;
  is_translated = held.is_translated;
  is_foreign = held.is_foreign;
  is_in_drawing = held.is_in_drawing;
  is_in_noscript = held.is_in_noscript;
  is_in_template = held.is_in_template;
  is_in_formatting = held.is_in_formatting;
  inherits_from_formatting = held.inherits_from_formatting;
  is_apart = held.is_apart;
}

-- ---- what a start tag says

-- A word is among words that are set apart by white space; `front` is what is read of one.
abbrev pub has_word_from : List ℕ → List ℕ → List ℕ → Bool
has_word_from word front [] = pointwise nat_eq front word
has_word_from word front (b ∷ bs) =
    if is_white_space b then pointwise nat_eq front word || has_word_from word [] bs
    else has_word_from word (front ++ b ∷ []) bs

-- A word is among the words of a text.
abbrev pub has_word : List ℕ → List ℕ → Bool
has_word word text = has_word_from word [] text

-- A class of this name is given.
abbrev pub has_class : PageForm → List ℕ → List Attribute → Bool
has_class form class attributes =
    option_map_or (λ value. has_word class (read_value value)) (value_of form (codes "class") attributes) false

-- An element with this name and these attributes is of a selection.
abbrev pub selects : PageForm → Selection → List ℕ → List Attribute → Bool
selects form selection name attributes = is_one_of selection.names name || has_class form selection.class attributes

-- By the value "no" a text may not be translated, by "yes" or nothing it may, and else as around.
abbrev pub translated_by : Bool → List ℕ → Bool
translated_by around value =
    if is_same_name value (codes "no") then false
    else if is_same_name value (codes "yes") || is_same_name value [] then true
    else around

-- The text may be translated, by the attribute `translate`; where that is not there, as around.
abbrev pub is_translated : PageForm → List Attribute → Bool → Bool
is_translated form attributes around =
    option_map_or (λ value. translated_by around (read_value value)) (value_of form (codes "translate") attributes) around

-- The first of two values that there is.
abbrev pub or_else : Option (List ℕ) → Option (List ℕ) → Option (List ℕ)
or_else None other = other
or_else (Some value) other = Some value

-- The value of the first of two names that an attribute has.
abbrev pub value_of_either : PageForm → List ℕ → List ℕ → List Attribute → Option (List ℕ)
value_of_either form name other attributes = or_else (value_of form name attributes) (value_of form other attributes)

-- The value that names the language: of xml:lang or else lang in XML, of lang alone in HTML.
abbrev pub language_value : PageForm → List Attribute → Option (List ℕ)
language_value form attributes =
    if is_xml form then value_of_either form (codes "xml:lang") (codes "lang") attributes
    else value_of form (codes "lang") attributes

-- The language by the attributes of an element; where none names it, the one around.
abbrev pub language_of : PageForm → List Attribute → List ℕ → List ℕ
language_of form attributes around = option_map_or language_by (language_value form attributes) around

-- The group of an element that begins. Only HTML has groups.
abbrev pub group_in : PageForm → Bool → List ℕ → ElementGroup
group_in form foreign name = if is_xml form || foreign then Ordinary else group_of name

-- A formatting element, which may be opened anew in others (13.2.4.3).
abbrev pub is_formatting : ElementGroup → Bool
is_formatting Formatting = true
is_formatting _ = false

-- Attributes name what the elements within inherit: a language, or whether the text may be translated.
abbrev pub has_inherited_attribute : PageForm → List Attribute → Bool
has_inherited_attribute form attributes =
    is_some (language_value form attributes) || is_some (value_of form (codes "translate") attributes)

-- A start tag gives its element nothing that texts in it take over: it names nothing that they inherit, and is not selected.
abbrev pub gives_nothing : PageForm → Selection → List ℕ → Bool
gives_nothing form selection tag =
    not (has_inherited_attribute form (attributes_of form tag)) && not (selects form selection (name_of tag) (attributes_of form tag))

-- Attributes name a language other than the one around.
abbrev pub has_other_language : PageForm → List Attribute → List ℕ → Bool
has_other_language form attributes around = not (pointwise nat_eq (language_of form attributes around) around)

-- An element within another one is apart: in another language, selected, not to be translated, in one that is apart, or of a
-- name whose content is not read as that of the body is. The page and its body are what others are apart from.
abbrev pub is_apart_in : Element → ElementGroup → List ℕ → Bool → Bool → Bool → Bool
is_apart_in around group name other_language selected translated =
    not (is_root group) && (around.is_apart || other_language || selected || not translated || is_named APART_NAMES name)

-- The content of an element is SVG or MathML.
abbrev pub holds_foreign : Bool → List ℕ → Bool
holds_foreign foreign name = (foreign || is_foreign_root name) && not (is_named SVG_POINTS name || is_named MATH_POINTS name)

-- The element that a start tag opens within another one.
unfoldable pub opened : PageForm → Selection → Element → List ℕ → Element
opened form selection around tag =
    record {
      name = name_of tag;
      group = group_in form around.is_foreign (name_of tag);
      language = language_of form (attributes_of form tag) around.language;
      is_selected = around.is_selected || selects form selection (name_of tag) (attributes_of form tag);
      is_translated = is_translated form (attributes_of form tag) around.is_translated;
      is_foreign = holds_foreign around.is_foreign (name_of tag);
      is_in_drawing = around.is_in_drawing || is_foreign_root (name_of tag);
      is_in_noscript = around.is_in_noscript || is_same_name (name_of tag) (codes "noscript");
      is_in_template = around.is_in_template || is_same_name (name_of tag) (codes "template");
      is_in_formatting = around.is_in_formatting || is_formatting (group_in form around.is_foreign (name_of tag));
      inherits_from_formatting =
          (around.is_in_formatting || is_formatting (group_in form around.is_foreign (name_of tag)))
          && (around.inherits_from_formatting || has_inherited_attribute form (attributes_of form tag));
      is_apart = is_apart_in around (group_in form around.is_foreign (name_of tag)) (name_of tag)
          (has_other_language form (attributes_of form tag) around.language)
          (around.is_selected || selects form selection (name_of tag) (attributes_of form tag))
          (is_translated form (attributes_of form tag) around.is_translated);
    }

-- ---- the open elements, the innermost one first

-- The element that a text is in; outside of all elements, the page.
abbrev pub innermost : Element → List Element → Element
innermost page [] = page
innermost page (e ∷ es) = e

-- The number of open elements that are looked at, the innermost ones. The standard lets readers set a limit.
abbrev pub depth_limit : ℕ
depth_limit = 512

-- The elements that stay open where one of a group begins, by the `left` next ones: those around the outermost one that it
-- ends. As far as it has looked, `kept` stay.
abbrev pub kept_open : ElementGroup → ℕ → List Element → List Element → List Element
kept_open new left kept [] = kept
kept_open new left kept (e ∷ es) =
    if left == 0 then kept
    else if ends new e.group then kept_open new (left - 1) es es
    else if stops new e.group then kept
    else kept_open new (left - 1) kept es

-- The elements that stay open where one of a group begins.
abbrev pub before_new : ElementGroup → List Element → List Element
before_new new elements = kept_open new depth_limit elements elements

-- The elements around the first one of this name, among the `left` next ones and within its scope; none where there is no
-- element of that name. The end tag of a heading closes any heading.
abbrev pub around_nearest_in_scope : PageForm → List ℕ → ElementGroup → ℕ → List Element → Option (List Element)
around_nearest_in_scope form name tag left [] = None
around_nearest_in_scope form name tag left (e ∷ es) =
    if left == 0 then None
    else if is_same_in form e.name name || is_heading tag && is_heading e.group then Some es
    else if bounds tag e.group then None
    else around_nearest_in_scope form name tag (left - 1) es

-- The open elements after an end tag: it closes the nearest one of its name with those in it; where none is open, it is
-- passed by.
abbrev pub closed_as : PageForm → List ℕ → ElementGroup → List Element → List Element
closed_as form name tag elements =
    if is_root tag then elements else unwrap_or (around_nearest_in_scope form name tag depth_limit elements) elements

-- The open elements after a start tag whose element is of a group.
abbrev pub begun_as : PageForm → Selection → Element → ElementGroup → List ℕ → List Element → List Element
begun_as form selection page new tag elements =
    if is_void new then before_new new elements
    else opened form selection (innermost page (before_new new elements)) tag ∷ before_new new elements

-- A tag with "/>" opens no element in XML, nor of SVG and MathML. HTML ignores the slash of its own elements.
abbrev pub is_closed_by_slash : PageForm → Bool → List ℕ → Bool
is_closed_by_slash form foreign name = is_xml form || foreign || is_foreign_root name

-- The open elements after a piece of a kind, whose element is of a group.
abbrev pub elements_by : PageForm → Selection → ElementGroup → PieceKind → List ℕ → Element → List Element → List Element
elements_by form selection group StartTag tag page elements = begun_as form selection page group tag elements
elements_by form selection group EmptyTag tag page elements =
    if is_closed_by_slash form (innermost page elements).is_foreign (name_of tag) then elements
    else begun_as form selection page group tag elements
elements_by form selection group EndTag tag page elements = closed_as form (name_of tag) group elements
elements_by form selection group _ tag page elements = elements

-- ---- the open elements of a loose reading, which are only some of them

-- Tables and their parts.
abbrev pub is_of_table : ElementGroup → Bool
is_of_table group = is_table_part group || is_same_group group Table

-- The elements of a loose reading, where all are open: the page and its body, tables and their parts.
abbrev pub followed : List Element → List Element
followed [] = []
followed (e ∷ es) = if is_root e.group || is_of_table e.group then e ∷ followed es else followed es

-- A piece is a start tag whose element is apart.
abbrev pub opens_apart : PageForm → Selection → PieceKind → List ℕ → Element → Bool
opens_apart form selection kind tag around = is_start kind && (opened form selection around tag).is_apart

-- The open elements of a loose reading after a piece of a kind, whose element is of a group: beside tables and their parts
-- only elements that are apart are opened, with all that they hold.
abbrev pub loose_elements_by : PageForm → Selection → ElementGroup → PieceKind → List ℕ → Element → List Element → List Element
loose_elements_by form selection group kind tag page elements =
    if (innermost page elements).is_apart || is_of_table group || opens_apart form selection kind tag (innermost page elements)
    then elements_by form selection group kind tag page elements
    else elements

-- The group of the element that a tag begins or ends, within another one.
abbrev pub group_by : PageForm → Element → PieceKind → List ℕ → ElementGroup
group_by form around StartTag tag = group_in form around.is_foreign (name_of tag)
group_by form around EmptyTag tag = group_in form around.is_foreign (name_of tag)
group_by form around EndTag tag = group_in form around.is_foreign (name_of tag)
group_by form around _ bytes = Ordinary

-- The same of elements as the code holds them, the innermost one last.
abbrev pub as_elements : List declared.Element → List Element
as_elements held = reverse (map as_element held)

-- Open elements, as the code holds them, became those after a start tag, whose element is of a group.
abbrev pub AreThoseBegun : PageForm → asked.Selection → ElementGroup → List ℕ → Element → List declared.Element → List declared.Element → Type 0
AreThoseBegun form selection group tag page old new =
    as_elements new ≡ begun_as form (as_selection selection) page group tag (as_elements old)

-- Open elements, as the code holds them, became those after a piece, whose element is of a group.
abbrev pub AreThoseAfter : PageForm → asked.Selection → ElementGroup → Piece → Element → List declared.Element → List declared.Element → Type 0
AreThoseAfter form selection group p page old new =
    as_elements new ≡ elements_by form (as_selection selection) group p.kind p.bytes page (as_elements old)

-- Open elements, as the code holds them, became those after a piece, in a loose reading.
abbrev pub AreThoseLooselyAfter : PageForm → asked.Selection → ElementGroup → Piece → Element → List declared.Element → List declared.Element → Type 0
AreThoseLooselyAfter form selection group p page old new =
    as_elements new ≡ loose_elements_by form (as_selection selection) group p.kind p.bytes page (as_elements old)

-- The page as what is around all its elements.
abbrev pub page_element : List ℕ → Element
page_element language = record {
  name = [];
  group = Root;
  language = language;
  is_selected = false;
  is_translated = true;
  is_foreign = false;
  is_in_drawing = false;
  is_in_noscript = false;
  is_in_template = false;
  is_in_formatting = false;
  inherits_from_formatting = false;
  is_apart = false;
}
