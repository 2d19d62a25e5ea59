-- How Markdown is read, byte by byte. Source: CommonMark 0.31, sections 2.4, 2.5, 4.4 to 4.7, 6.1 and 6.3 to 6.6, and the front
-- matter that other programs read. Where a rule needs more than the line, no byte is read as text up to a blank line, or up to
-- the end of the text.
use Rattle.std.specs.Prelude.{ℕ, ◌==◌, ◌||◌, ◌&&◌, ◌+◌, ◌-◌, Bool, true, false, not, nat_le, nat_lt, if◌then◌else◌}
use Rattle.std.specs.Char.{to_ascii_lowercase}
use Rattle.html_pieces.specs.Bytes.{is_alpha, is_alphanumeric}
use Rattle.markdown_pieces.specs.Bytes.{is_punctuation, is_prefix, is_opening}
use Rattle.markdown_pieces.specs.declared.state.Block.{Block}
use Rattle.markdown_pieces.specs.declared.state.Block.TheVariants.{New, Paragraph, Heading, Rest, Html}
use Rattle.markdown_pieces.specs.declared.state.Fence.{Fence}
use Rattle.markdown_pieces.specs.declared.state.Mode.{Mode}
use Rattle.markdown_pieces.specs.declared.state.Mode.TheVariants.{Head, Front, FrontLine, Start, Prefix, Line, End, FenceRun, FenceInfo, FenceIndent, FenceEndRun, FenceEnd, FenceText, BlockAngle, BlockP, BlockS, BlockSt, BlockT, Comment, Pre, Plain, Escape, Ticks, Code, CodeEnd, Angle, Tag, TagQuote, Bang, Closed, Target, TargetEscape, TargetQuote, Label, LabelEscape, Reference}
use Rattle.markdown_pieces.specs.declared.state.State.{State}

-- ---- states

abbrev pub in_state : Mode → Block → Bool → State
in_state mode block in_brackets = record { mode = mode; block = block; in_brackets = in_brackets }

-- A text begins.
abbrev pub first_state : State
first_state = in_state (Head 0) New false

-- The same state in another mode.
abbrev pub in_mode : State → Mode → State
in_mode state mode = in_state mode state.block state.in_brackets

-- The count of one byte more, or of a tab's columns. Counts from 255 on are one.
abbrev pub more : ℕ → ℕ
more n = if nat_lt n 255 then n + 1 else 255

abbrev pub tabbed : ℕ → ℕ
tabbed n = if nat_lt n 251 then n + 4 else 255

-- ---- blocks

-- The lines are left alone up to a blank one.
abbrev pub is_left : Block → Bool
is_left Rest = true
is_left Html = true
is_left _ = false

-- The lines may be of HTML.
abbrev pub is_html : Block → Bool
is_html Html = true
is_html _ = false

-- No paragraph is open before a line, so that one that is indented is code (4.4).
abbrev pub is_new : Block → Bool
is_new New = true
is_new _ = false

-- A paragraph is open.
abbrev pub is_paragraph : Block → Bool
is_paragraph Paragraph = true
is_paragraph _ = false

-- Text of a line begins.
abbrev pub begun : Block → Block
begun New = Paragraph
begun Paragraph = Paragraph
begun Heading = Heading
begun Rest = Rest
begun Html = Html

-- A prefix is read: '#' and '|' begin a line that ends its block.
abbrev pub prefixed : Block → ℕ → Block
prefixed block b = if (b == 35 || b == 124) && not (is_left block) then Heading else block

-- A line ends that had no text.
abbrev pub without_text : Block → Block
without_text block = if is_left block then block else New

-- A line with text ends; in brackets that are open it may be of a label or of the text of a link.
abbrev pub after_line : Block → Bool → Block
after_line Heading in_brackets = if in_brackets then Rest else New
after_line block in_brackets = if in_brackets then Rest else block

abbrev pub new_line : Block → State
new_line block = in_state (Start 0) block false

-- The rest of the line is left alone, from a byte on that may end it.
abbrev pub alone : Block → ℕ → State
alone block b = if b == 10 then new_line block else in_state Line block false

-- The text is left alone up to its end.
abbrev pub ended : State
ended = in_state End New false

-- ---- text

-- A line may begin with a byte as its text.
abbrev pub begins_text : Block → ℕ → Bool
begins_text block b = not (is_left block) && not (is_opening b)

-- The byte is read as in the midst of a text, in this mode.
unfoldable pub reads : Mode → Block → ℕ → Bool
reads Plain block b = true
-- 2.4: only punctuation is escaped.
reads Escape block b = not (is_punctuation b)
-- 6.1: a code span ends at a run of as many.
reads (CodeEnd length run) block b = length == run && not (b == 96)
-- 6.5 and 6.6: what begins a tag or an autolink.
reads Angle block b = not (is_alpha b || b == 33 || b == 47 || b == 63)
reads Bang block b = not (b == 91)
reads Closed block b = not (b == 40 || b == 58 || b == 91)
-- 2.5
reads Reference block b = not (is_alphanumeric b || b == 35 || b == 59)
reads (Head dashes) block b = begins_text block b
-- 4.4: four columns make code, where no paragraph is open.
reads (Start columns) block b = (nat_lt columns 4 || is_paragraph block) && begins_text block b
reads (Prefix columns) block b = begins_text block b
-- 4.5: fewer than three '~' begin no fence.
reads (FenceRun fence) block b =
    fence.byte == 126 && nat_lt fence.length 3 && not (b == 126) && not (is_left block)
    && not (nat_lt 3 fence.indent && is_new block)
reads _ block b = false

-- The state after a byte that is read so.
unfoldable pub after_text : Block → Bool → ℕ → State
after_text block in_brackets b =
    if b == 10 then new_line (after_line block in_brackets)
    else if b == 33 then in_state Bang block in_brackets
    else if b == 38 then in_state Reference block in_brackets
    else if b == 60 then in_state Angle block in_brackets
    else if b == 91 then (if in_brackets then alone Rest b else in_state Plain block true)
    else if b == 92 then in_state Escape block in_brackets
    else if b == 93 then in_state Closed block false
    else if b == 96 then in_state (Ticks 1) block in_brackets
    else in_state Plain block in_brackets

-- ---- the beginning of a line

-- A prefix of a line, or what follows white space before it.
abbrev pub after_prefix : Block → ℕ → State
after_prefix block b = if is_prefix b then in_state (Prefix 0) (prefixed block b) false else alone block b

-- The first byte of a line after some columns of white space. A line of nothing else is blank.
unfoldable pub at_start : ℕ → Block → ℕ → State
at_start columns block b =
    if b == 10 then new_line New
    else if b == 32 then in_state (Start (more columns)) block false
    else if b == 9 then in_state (Start (tabbed columns)) block false
    else if b == 13 then in_state (Start columns) block false
    else if b == 96 || b == 126 then in_state (FenceRun (record { byte = b; length = 1; indent = columns })) block false
    else if b == 60 then in_state BlockAngle block false
    else if nat_lt 3 columns && not (is_paragraph block) then in_state Line block false
    else after_prefix block b

-- A byte after a prefix and some columns of white space, of which five begin code. How far a fence is indented is not known.
unfoldable pub in_prefix : ℕ → Block → ℕ → State
in_prefix columns block b =
    if b == 10 then new_line (without_text block)
    else if b == 32 && nat_lt columns 4 then in_state (Prefix (more columns)) block false
    else if b == 9 && columns == 0 then in_state (Prefix 4) block false
    else if b == 9 || b == 32 then in_state Line (without_text block) false
    else if b == 13 then in_state (Prefix columns) block false
    else if b == 96 || b == 126 then in_state (FenceRun (record { byte = b; length = 1; indent = 255 })) (begun block) false
    else if b == 60 then in_state BlockAngle block false
    else after_prefix block b

-- The first line of a text, after some dashes.
unfoldable pub in_head : ℕ → ℕ → State
in_head dashes b =
    if b == 45 then in_state (Head (more dashes)) New false
    else if b == 10 && dashes == 3 then in_state (Front 0) New false
    else if b == 13 && dashes == 3 then in_state (Head 3) New false
    else if dashes == 0 then (if b == 0xEF then in_state (Start 0) New false else at_start 0 New b)
    else in_prefix 0 New b

-- Front matter ends at a line of three dashes.
unfoldable pub in_front : ℕ → ℕ → State
in_front dashes b =
    if b == 45 then in_state (Front (more dashes)) New false
    else if b == 10 then (if dashes == 3 then new_line New else in_state (Front 0) New false)
    else if b == 13 then in_state (Front dashes) New false
    else in_state FrontLine New false

-- ---- fenced code (4.5)

-- No code span can be where a fence may be.
abbrev pub has_no_span : Fence → Block → Bool
has_no_span fence block = is_left block || nat_lt 3 fence.indent && is_new block

-- A fence after its run of three or more. In HTML it is none for certain. Where a '`' follows, those before it began a code span.
abbrev pub in_info : Fence → State → ℕ → State
in_info fence state b =
    if b == 10 then (if is_html state.block then ended else in_mode state (FenceIndent fence 0))
    else if b == 96 && fence.byte == 96
    then (if has_no_span fence state.block then alone Rest b else in_state (CodeEnd fence.length 1) (begun state.block) false)
    else in_mode state (FenceInfo fence)

-- A run of its bytes that may be too short for one.
unfoldable pub in_run : Fence → State → ℕ → State
in_run fence state b =
    if b == fence.byte then in_mode state (FenceRun (record { byte = fence.byte; length = more fence.length; indent = fence.indent }))
    else if nat_lt 2 fence.length then in_info fence state b
    else if has_no_span fence state.block then alone state.block b
    else if b == 10 then new_line Rest
    else in_state (Code fence.length) (begun state.block) false

-- A line of some columns ends the code for certain, if it may: it is indented as the fence is, or the fence is in no list.
abbrev pub ends_fence : Fence → ℕ → Bool
ends_fence fence columns = columns == fence.indent || fence.indent == 0

-- After some columns at the beginning of a line of the code. One that is indented less than the fence may be beyond the code.
unfoldable pub in_indent : Fence → ℕ → State → ℕ → State
in_indent fence columns state b =
    if b == 10 then in_mode state (FenceIndent fence 0)
    else if b == 32 then in_mode state (FenceIndent fence (more columns))
    else if b == 9 then in_mode state (FenceIndent fence (tabbed columns))
    else if b == 13 then in_mode state (FenceIndent fence columns)
    else if nat_lt columns fence.indent then ended
    else if b == fence.byte && nat_lt columns (fence.indent + 4) then in_mode state (FenceEndRun fence 1 (ends_fence fence columns))
    else in_mode state (FenceText fence)

-- The end of the code, if it is certain.
abbrev pub after_fence : Bool → State
after_fence certain = if certain then new_line New else ended

-- After a run that ends the code, if no more than white space follows.
unfoldable pub in_end : Fence → Bool → State → ℕ → State
in_end fence certain state b =
    if b == 10 then after_fence certain
    else if b == 9 || b == 13 || b == 32 then in_mode state (FenceEnd fence certain)
    else in_mode state (FenceText fence)

-- A run that may end the code.
unfoldable pub in_end_run : Fence → ℕ → Bool → State → ℕ → State
in_end_run fence run certain state b =
    if b == fence.byte then in_mode state (FenceEndRun fence (more run) certain)
    else if nat_lt run fence.length then (if b == 10 then in_mode state (FenceIndent fence 0) else in_mode state (FenceText fence))
    else in_end fence certain state b

-- ---- HTML at the beginning of a line (4.6)

-- After '<'. A comment ends at "-->"; declarations are read as comments, and end there too.
abbrev pub in_block_angle : State → ℕ → State
in_block_angle state b =
    if b == 33 then in_state (Comment 0) Html false
    else if b == 63 then ended
    else if b == 80 || b == 112 then in_mode state BlockP
    else if b == 83 || b == 115 then in_mode state BlockS
    else if b == 84 || b == 116 then in_mode state BlockT
    else alone Html b

-- "<pr" may begin `pre`, "<sc" `script`, "<sty" `style`, and "<te" `textarea`. All but the first are left alone to the end.
abbrev pub in_block_p : ℕ → State
in_block_p b = if b == 82 || b == 114 then in_state (Pre 0) Html false else alone Html b

abbrev pub in_block_s : State → ℕ → State
in_block_s state b =
    if b == 67 || b == 99 then ended
    else if b == 84 || b == 116 then in_mode state BlockSt
    else alone Html b

abbrev pub in_block_st : ℕ → State
in_block_st b = if b == 89 || b == 121 then ended else alone Html b

abbrev pub in_block_t : ℕ → State
in_block_t b = if b == 69 || b == 101 then ended else alone Html b

abbrev pub in_comment : ℕ → State → ℕ → State
in_comment dashes state b =
    if b == 45 then in_mode state (Comment (if dashes == 0 then 1 else 2))
    else if b == 62 && dashes == 2 then in_state Line Html false
    else in_mode state (Comment 0)

-- A byte of "</pre>".
abbrev pub pre_end : ℕ → ℕ
pre_end n = if n == 0 then 60 else if n == 1 then 47 else if n == 2 then 112 else if n == 3 then 114 else if n == 4 then 101 else 62

unfoldable pub in_pre : ℕ → State → ℕ → State
in_pre n state b =
    if to_ascii_lowercase b == pre_end n then (if nat_lt n 5 then in_mode state (Pre (more n)) else in_state Line Html false)
    else if b == 60 then in_mode state (Pre 1)
    else in_mode state (Pre 0)

-- ---- spans (6.1, 6.3 to 6.6)

-- After a '<' that begins a tag, an autolink or a declaration. A tag of these letters may be of an element whose text is code
-- or the like, as `code`, `kbd` and `tt`: the rest is left alone.
abbrev pub may_hold_code : ℕ → Bool
may_hold_code b = b == 99 || nat_le 107 b && nat_le b 112 || b == 115 || b == 116 || b == 118 || b == 120

abbrev pub in_angle : State → ℕ → State
in_angle state b = if b == 33 || b == 63 || may_hold_code (to_ascii_lowercase b) then alone Rest b else in_mode state Tag

-- A code span, whose first run is of this length.
abbrev pub in_code : ℕ → State → ℕ → State
in_code length state b =
    if b == 10 then alone Rest b
    else if b == 96 then in_mode state (CodeEnd length 1)
    else in_mode state (Code length)

abbrev pub in_ticks : ℕ → State → ℕ → State
in_ticks length state b = if b == 96 then in_mode state (Ticks (more length)) else in_code length state b

abbrev pub in_code_end : ℕ → ℕ → State → ℕ → State
in_code_end length run state b = if b == 96 then in_mode state (CodeEnd length (more run)) else in_code length state b

-- In a tag or an autolink. Where it may be neither for parsers, the rest is left alone.
abbrev pub in_tag : State → ℕ → State
in_tag state b =
    if b == 62 then in_mode state Plain
    else if b == 34 || b == 39 then in_mode state (TagQuote b)
    else if b == 10 || b == 60 || b == 93 || b == 96 then alone Rest b
    else in_mode state Tag

abbrev pub in_tag_quote : ℕ → State → ℕ → State
in_tag_quote quote state b =
    if b == quote then in_mode state Tag
    else if b == 10 || b == 60 || b == 62 || b == 93 || b == 96 then alone Rest b
    else in_mode state (TagQuote quote)

-- After ']': the target of a link, or a label. "]:" may be of a definition (4.7).
abbrev pub in_closed : State → ℕ → State
in_closed state b =
    if b == 40 then in_mode state (Target 0)
    else if b == 91 then in_mode state Label
    else alone Rest b

-- The target and the title of a link, where so many round brackets are open in it.
unfoldable pub in_target : ℕ → State → ℕ → State
in_target depth state b =
    if b == 41 then (if depth == 0 then in_mode state Plain else in_mode state (Target (depth - 1)))
    else if b == 40 && nat_lt depth 255 then in_mode state (Target (more depth))
    else if b == 92 then in_mode state (TargetEscape depth)
    else if b == 34 || b == 39 then in_mode state (TargetQuote depth b)
    else if b == 10 || b == 40 || b == 60 || b == 91 || b == 93 || b == 96 then alone Rest b
    else in_mode state (Target depth)

abbrev pub in_target_quote : ℕ → ℕ → State → ℕ → State
in_target_quote depth quote state b =
    if b == quote then in_mode state (Target depth)
    else if b == 10 || b == 60 || b == 91 || b == 92 || b == 93 || b == 96 then alone Rest b
    else in_mode state (TargetQuote depth quote)

-- A label, or what stands for an image.
abbrev pub in_label : State → ℕ → State
in_label state b =
    if b == 93 then in_mode state Closed
    else if b == 92 then in_mode state LabelEscape
    else if b == 10 || b == 60 || b == 91 || b == 96 then alone Rest b
    else in_mode state Label

-- ---- all modes

-- The state after a byte that is not read as text.
unfoldable pub after_other : Mode → State → ℕ → State
after_other Plain state b = in_mode state Plain
after_other (Head dashes) state b = in_head dashes b
after_other (Front dashes) state b = in_front dashes b
after_other FrontLine state b = if b == 10 then in_state (Front 0) New false else in_mode state FrontLine
after_other (Start columns) state b = at_start columns state.block b
after_other (Prefix columns) state b = in_prefix columns state.block b
after_other Line state b = alone state.block b
after_other End state b = ended
after_other (FenceRun fence) state b = in_run fence state b
after_other (FenceInfo fence) state b = in_info fence state b
after_other (FenceIndent fence columns) state b = in_indent fence columns state b
after_other (FenceEndRun fence run certain) state b = in_end_run fence run certain state b
after_other (FenceEnd fence certain) state b = in_end fence certain state b
after_other (FenceText fence) state b = in_mode state (if b == 10 then FenceIndent fence 0 else FenceText fence)
after_other BlockAngle state b = in_block_angle state b
after_other BlockP state b = in_block_p b
after_other BlockS state b = in_block_s state b
after_other BlockSt state b = in_block_st b
after_other BlockT state b = in_block_t b
after_other (Comment dashes) state b = in_comment dashes state b
after_other (Pre n) state b = in_pre n state b
after_other Escape state b = in_mode state Plain
after_other (Ticks length) state b = in_ticks length state b
after_other (Code length) state b = in_code length state b
after_other (CodeEnd length run) state b = in_code_end length run state b
after_other Angle state b = in_angle state b
after_other Tag state b = in_tag state b
after_other (TagQuote quote) state b = in_tag_quote quote state b
after_other Bang state b = if state.in_brackets then alone Rest b else in_mode state Label
after_other Closed state b = in_closed state b
after_other (Target depth) state b = in_target depth state b
after_other (TargetEscape depth) state b = if b == 10 then alone Rest b else in_mode state (Target depth)
after_other (TargetQuote depth quote) state b = in_target_quote depth quote state b
after_other Label state b = in_label state b
after_other LabelEscape state b = if b == 10 then alone Rest b else in_mode state Label
after_other Reference state b = in_mode state (if b == 59 then Plain else Reference)

-- The state after a byte.
abbrev pub next : State → ℕ → State
next state b =
    if reads state.mode state.block b then after_text (begun state.block) state.in_brackets b
    else after_other state.mode state b
