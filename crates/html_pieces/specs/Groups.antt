-- Elements grouped by what they end where their end tags are left out. In HTML an element may end where another one begins.
-- Source: HTML Living Standard, 13.1.2 (void elements), 13.1.2.4 (optional tags), 13.2.4.2 (scopes of open elements); 13.2.6.4.4
-- and 13.2.6.4.7 to 16 (the start tags that close open elements).
use Rattle.std.specs.Prelude.{ℕ, ◌||◌, Bool, true, false, not, List, [], ◌∷◌, codes, if◌then◌else◌}
use Rattle.std.specs.List.{list_any}
use Rattle.html_pieces.specs.Bytes.{is_same_name, is_one_of, is_named}
use Rattle.html_pieces.specs.contracts.groups.ElementGroupPartialEq.TheImpl.{ghosts}
use Rattle.html_pieces.specs.declared.groups.TheConstants.{SECTION_NAMES, HEADING_NAMES, BLOCK_NAMES, FORMATTING_NAMES, SCOPE_NAMES, VOID_NAMES, HEAD_VOID_NAMES, HEAD_NAMES, VOID_GROUPS, TABLE_PARTS, ENDS_OF_PARAGRAPHS, ENDS_OF_CHOICES, ENDS_OF_CHOICE_GROUPS, ENDS_OF_ROWS, ENDS_OF_ROW_GROUPS, ENDS_OF_COLUMNS, PARTS_OF_HEADS, ITEMS, PASSED_BY_ITEMS, BOUNDARIES, NO_SPECIAL_GROUPS, SCOPES, TABLE_SCOPES}
use Rattle.html_pieces.specs.declared.groups.ElementGroup.{ElementGroup}
use Rattle.html_pieces.specs.declared.groups.ElementGroup.TheVariants.{Ordinary, Formatting, Paragraph, Division, Heading, Listing, Block, Rule, Item, Term, Choice, Choices, Ruby, Cell, Row, Rows, Caption, Columns, Column, Table, Scope, Root, Head, HeadContent, HeadVoid, Template, Void}

-- The group of the elements of a name that is in none of the groups below: of blocks and formatting elements, or none.
unfoldable pub group_in_body : List ℕ → ElementGroup
group_in_body name =
    if is_named SECTION_NAMES name then Block
    else if is_named HEADING_NAMES name then Heading
    else if is_one_of (codes "ol" ∷ codes "ul" ∷ []) name then Listing
    else if is_named BLOCK_NAMES name then Block
    else if is_named FORMATTING_NAMES name then Formatting
    else Ordinary

-- The group of a name that is in none of the groups below: of a page, its head or a scope, or without content.
unfoldable pub group_by_content : List ℕ → ElementGroup
group_by_content name =
    if is_same_name name (codes "head") then Head
    else if is_one_of (codes "body" ∷ codes "html" ∷ []) name then Root
    else if is_same_name name (codes "template") then Template
    else if is_named VOID_NAMES name then Void
    else if is_named HEAD_VOID_NAMES name then HeadVoid
    else if is_named HEAD_NAMES name then HeadContent
    else if is_named SCOPE_NAMES name then Scope
    else group_in_body name

-- The group of a name that is in none of the groups below: of a table or a part of one.
unfoldable pub group_in_table : List ℕ → ElementGroup
group_in_table name =
    if is_one_of (codes "td" ∷ codes "th" ∷ []) name then Cell
    else if is_same_name name (codes "tr") then Row
    else if is_one_of (codes "thead" ∷ codes "tbody" ∷ codes "tfoot" ∷ []) name then Rows
    else if is_same_name name (codes "table") then Table
    else if is_same_name name (codes "caption") then Caption
    else if is_same_name name (codes "colgroup") then Columns
    else if is_same_name name (codes "col") then Column
    else group_by_content name

-- The group of the elements of a name.
unfoldable pub group_of : List ℕ → ElementGroup
group_of name =
    if is_same_name name (codes "p") then Paragraph
    else if is_one_of (codes "div" ∷ codes "address" ∷ codes "dialog" ∷ []) name then Division
    else if is_same_name name (codes "li") then Item
    else if is_one_of (codes "dt" ∷ codes "dd" ∷ []) name then Term
    else if is_same_name name (codes "hr") then Rule
    else if is_same_name name (codes "option") then Choice
    else if is_same_name name (codes "optgroup") then Choices
    else if is_one_of (codes "rt" ∷ codes "rp" ∷ []) name then Ruby
    else group_in_table name

-- Two groups are the same.
abbrev pub is_same_group : ElementGroup → ElementGroup → Bool
is_same_group a b = ghosts.eq a b

-- A group is one of some.
abbrev pub is_in : List ElementGroup → ElementGroup → Bool
is_in groups group = list_any (λ other. is_same_group other group) groups

-- Elements without content.
abbrev pub is_void : ElementGroup → Bool
is_void group = is_in VOID_GROUPS group

-- They are parts of a table that are in a row group, or hold rows or columns: each ends a caption.
abbrev pub is_table_part : ElementGroup → Bool
is_table_part group = is_in TABLE_PARTS group

-- An element of the first group that begins ends an open one of the second: the end tag of that one may be left out.
unfoldable pub ends : ElementGroup → ElementGroup → Bool
ends new Paragraph = is_in ENDS_OF_PARAGRAPHS new
ends new Item = is_same_group new Item
ends new Term = is_same_group new Term
ends new Choice = is_in ENDS_OF_CHOICES new
ends new Choices = is_in ENDS_OF_CHOICE_GROUPS new
ends new Ruby = is_same_group new Ruby
ends new Cell = is_table_part new
ends new Row = is_in ENDS_OF_ROWS new
ends new Rows = is_in ENDS_OF_ROW_GROUPS new
ends new Caption = is_table_part new
ends new Columns = is_in ENDS_OF_COLUMNS new
ends new Head = not (is_in PARTS_OF_HEADS new)
ends new _ = false

-- How far an element of the first group that begins looks for those that it ends. It does not look past an open one of the
-- second. Items and terms do not look past an item's contents, and paragraphs and parts of tables not past a boundary. All
-- others look only at the innermost elements.
unfoldable pub stops : ElementGroup → ElementGroup → Bool
stops new other =
    if is_in ITEMS new then not (is_in PASSED_BY_ITEMS other)
    else if is_in ENDS_OF_PARAGRAPHS new || is_table_part new then is_in BOUNDARIES other
    else true

-- The special elements: no end tag of an ordinary element closes one.
abbrev pub is_special : ElementGroup → Bool
is_special group = not (is_in NO_SPECIAL_GROUPS group)

-- Where the scope of other elements ends than tables.
abbrev pub ends_scope : ElementGroup → Bool
ends_scope group = is_in SCOPES group

-- How far an end tag of the first group looks for its element: not past an open one of the second.
unfoldable pub bounds : ElementGroup → ElementGroup → Bool
bounds Ordinary other = is_special other
bounds Item other = is_same_group other Listing || ends_scope other
bounds tag other = if is_same_group tag Table || is_table_part tag then is_in TABLE_SCOPES other else ends_scope other

-- It is a heading.
abbrev pub is_heading : ElementGroup → Bool
is_heading group = is_same_group group Heading

-- The end tags of "body" and "html" close nothing: what is after them belongs to the body.
abbrev pub is_root : ElementGroup → Bool
is_root group = is_same_group group Root
