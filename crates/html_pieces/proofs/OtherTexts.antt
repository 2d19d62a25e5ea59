-- A page with other texts in the places of its texts is cut into the same pieces.
use Rattle.std.proofs.Common.{◌≡◌, ℕ, ◌==◌, ◌||◌, ◌&&◌, List, [], ◌∷◌, ◌++◌, refl, ap, sym, ◌∙◌, append_assoc, append-nil, subst, Option, Some, None, Bool, true, false, not, nat_lt, if◌then◌else◌, eqb-true, arith, nat_eq, codes}
use Rattle.std.proofs.lemmas.Bool.Decides.{nat_tests}
use Rattle.std.specs.Option.{option_map_or}
use Rattle.html_pieces.specs.declared.bytes.PageForm.{PageForm}
use Rattle.html_pieces.specs.declared.bytes.PageForm.TheVariants.{Html, Xml}
use Rattle.html_pieces.specs.declared.tokenizer.State.{State}
use Rattle.html_pieces.specs.declared.tokenizer.State.TheVariants.{Data, CharacterReference, ReferenceName, ReferenceEnd, TagOpen, EndTagOpen, TagName, BeforeAttributeName, AttributeName, AfterAttributeName, BeforeAttributeValue, DoubleQuotedValue, SingleQuotedValue, UnquotedValue, AfterQuotedValue, SelfClosingTag, TagEnd, EmptyTagEnd, MarkupDeclarationOpen, MarkupDeclarationDash, BogusComment, DoctypeSubset, DoctypeSubsetEnd, ProcessingInstruction, ProcessingInstructionMark, CommentStart, CommentStartDash, Comment, CommentEndDash, CommentEnd, CommentEndBang, CdataSection, CdataSectionBracket, CdataSectionEnd, MarkupEnd, Raw, ScriptEscaped, ScriptDoubleEscaped, Plaintext}
use Rattle.html_pieces.specs.declared.tokenizer.PieceKind.{PieceKind}
use Rattle.html_pieces.specs.declared.tokenizer.PieceKind.TheVariants.{StartTag, EmptyTag, EndTag}
use Rattle.html_pieces.specs.Bytes.{is_continuation, is_white_space, is_alphanumeric, is_name_start, is_same_name, is_xml}
use Rattle.html_pieces.specs.Names.{is_end_tag, raw_end_tag}
use Rattle.html_pieces.specs.declared.tokenizer.RawElement.TheVariants.{Script}
use Rattle.std.specs.List.{ends_with}
use Rattle.std.specs.Cmp.Lexicographic.{pointwise}
use Rattle.html_pieces.specs.Pieces.{Piece, piece, pieces_from, pieces_of, state_after, next, in_tag, in_attribute, before_value, in_unquoted_value, ends_tag, is_script, in_raw, in_escaped, in_double_escaped, begin, content_after, depth_after, kind_of}
use Rattle.html_pieces.specs.Forms.{is_data}
use Rattle.html_pieces.specs.Laws.{joined_pieces, ends_text, IsPlain, begins_alike, IsOtherText, IsAlike, HaveOtherTexts}
use Rattle.html_pieces.proofs.PieceSteps.{after_piece, pieces_on, pieces_anew}

-- ---- states

-- the states in which a piece may end before a byte
abbrev pub may_end : State → Bool
may_end CharacterReference = true
may_end ReferenceName = true
may_end ReferenceEnd = true
may_end TagOpen = true
may_end TagEnd = true
may_end EmptyTagEnd = true
may_end MarkupEnd = true
may_end (Raw element) = true
may_end ScriptEscaped = true
may_end ScriptDoubleEscaped = true
may_end _ = false

-- from a state that is not that of text: it ends, if it may, or leads to another such state
pub record NotData (state : State) : Type 0 where
  pub is : is_data state ≡ false

abbrev pub LeadsTo : State → Option State → Type 0
LeadsTo state None = may_end state ≡ true
LeadsTo state (Some after) = NotData after

pub record Leads (state : State) (after : Option State) : Type 0 where
  pub is : LeadsTo state after

leads_if : {state : State} (c : Bool) (x y : Option State) → Leads state x → Leads state y → Leads state (if c then x else y)
leads_if true x y p q = p
leads_if false x y p q = q

one_of : (c : Bool) (x y : State) → NotData x → NotData y → NotData (if c then x else y)
one_of true x y p q = p
one_of false x y p q = q

leads_on : {state after : State} → NotData after → Leads state (Some after)
leads_on p = record { is = p }

in_tag_leads : (b : ℕ) (other : State) → NotData other → NotData (in_tag b other)
in_tag_leads b other p = one_of (is_white_space b) (BeforeAttributeName) (if b == 47 then SelfClosingTag else if b == 62 then TagEnd else other) (record { is = refl }) (one_of (b == 47) (SelfClosingTag) (if b == 62 then TagEnd else other) (record { is = refl }) (one_of (b == 62) (TagEnd) (other) (record { is = refl }) p))

in_attribute_leads : (b : ℕ) → NotData (in_attribute b)
in_attribute_leads b = one_of (is_white_space b) (AfterAttributeName) (if b == 47 then SelfClosingTag else if b == 62 then TagEnd else if b == 61 then BeforeAttributeValue else AttributeName) (record { is = refl }) (one_of (b == 47) (SelfClosingTag) (if b == 62 then TagEnd else if b == 61 then BeforeAttributeValue else AttributeName) (record { is = refl }) (one_of (b == 62) (TagEnd) (if b == 61 then BeforeAttributeValue else AttributeName) (record { is = refl }) (one_of (b == 61) (BeforeAttributeValue) (AttributeName) (record { is = refl }) (record { is = refl }))))

before_value_leads : (b : ℕ) → NotData (before_value b)
before_value_leads b = one_of (is_white_space b) (BeforeAttributeValue) (if b == 34 then DoubleQuotedValue else if b == 39 then SingleQuotedValue else if b == 62 then TagEnd else UnquotedValue) (record { is = refl }) (one_of (b == 34) (DoubleQuotedValue) (if b == 39 then SingleQuotedValue else if b == 62 then TagEnd else UnquotedValue) (record { is = refl }) (one_of (b == 39) (SingleQuotedValue) (if b == 62 then TagEnd else UnquotedValue) (record { is = refl }) (one_of (b == 62) (TagEnd) (UnquotedValue) (record { is = refl }) (record { is = refl }))))

unquoted_leads : (b : ℕ) → NotData (in_unquoted_value b)
unquoted_leads b = one_of (is_white_space b) (BeforeAttributeName) (if b == 62 then TagEnd else UnquotedValue) (record { is = refl }) (one_of (b == 62) (TagEnd) (UnquotedValue) (record { is = refl }) (record { is = refl }))

next_leads : (form : PageForm) (foreign : Bool) (state : State) (front : List ℕ) (b : ℕ) → is_data state ≡ false → Leads state (next form foreign state front b)
unfolding next in_raw in_escaped in_double_escaped
next_leads form foreign Data front b h = absurd (cc h)
next_leads form foreign CharacterReference front b h =
    leads_if (is_alphanumeric b || b == 35) (Some ReferenceName) (None) (leads_on (record { is = refl })) (record { is = refl })
next_leads form foreign ReferenceName front b h =
    leads_if (is_alphanumeric b) (Some ReferenceName) (if b == 59 then Some ReferenceEnd else None) (leads_on (record { is = refl })) (leads_if (b == 59) (Some ReferenceEnd) (None) (leads_on (record { is = refl })) (record { is = refl }))
next_leads form foreign TagOpen front b h =
    leads_if (is_name_start form b) (Some TagName) (if b == 47 then Some EndTagOpen else if b == 33 then Some MarkupDeclarationOpen else if b == 63 then Some (if is_xml form then ProcessingInstruction else BogusComment) else None) (leads_on (record { is = refl })) (leads_if (b == 47) (Some EndTagOpen) (if b == 33 then Some MarkupDeclarationOpen else if b == 63 then Some (if is_xml form then ProcessingInstruction else BogusComment) else None) (leads_on (record { is = refl })) (leads_if (b == 33) (Some MarkupDeclarationOpen) (if b == 63 then Some (if is_xml form then ProcessingInstruction else BogusComment) else None) (leads_on (record { is = refl })) (leads_if (b == 63) (Some (if is_xml form then ProcessingInstruction else BogusComment)) (None) (leads_on (one_of (is_xml form) (ProcessingInstruction) (BogusComment) (record { is = refl }) (record { is = refl }))) (record { is = refl }))))
next_leads form foreign EndTagOpen front b h =
    leads_if (is_name_start form b) (Some TagName) (if b == 62 then Some MarkupEnd else Some BogusComment) (leads_on (record { is = refl })) (leads_if (b == 62) (Some MarkupEnd) (Some BogusComment) (leads_on (record { is = refl })) (leads_on (record { is = refl })))
next_leads form foreign TagName front b h = leads_on (in_tag_leads b TagName (record { is = refl }))
next_leads form foreign BeforeAttributeName front b h =
    leads_on (in_tag_leads b AttributeName (record { is = refl }))
next_leads form foreign AttributeName front b h = leads_on (in_attribute_leads b)
next_leads form foreign AfterAttributeName front b h = leads_on (in_attribute_leads b)
next_leads form foreign BeforeAttributeValue front b h = leads_on (before_value_leads b)
next_leads form foreign DoubleQuotedValue front b h =
    leads_if (b == 34) (Some AfterQuotedValue) (Some DoubleQuotedValue) (leads_on (record { is = refl })) (leads_on (record { is = refl }))
next_leads form foreign SingleQuotedValue front b h =
    leads_if (b == 39) (Some AfterQuotedValue) (Some SingleQuotedValue) (leads_on (record { is = refl })) (leads_on (record { is = refl }))
next_leads form foreign UnquotedValue front b h = leads_on (unquoted_leads b)
next_leads form foreign AfterQuotedValue front b h =
    leads_on (in_tag_leads b AttributeName (record { is = refl }))
next_leads form foreign SelfClosingTag front b h =
    leads_if (b == 62) (Some EmptyTagEnd) (Some (in_tag b AttributeName)) (leads_on (record { is = refl })) (leads_on (in_tag_leads b AttributeName (record { is = refl })))
next_leads form foreign MarkupDeclarationOpen front b h =
    leads_if (b == 45) (Some MarkupDeclarationDash) (if b == 62 then Some MarkupEnd else Some BogusComment) (leads_on (record { is = refl })) (leads_if (b == 62) (Some MarkupEnd) (Some BogusComment) (leads_on (record { is = refl })) (leads_on (record { is = refl })))
next_leads form foreign MarkupDeclarationDash front b h =
    leads_if (b == 45) (Some CommentStart) (if b == 62 then Some MarkupEnd else Some BogusComment) (leads_on (record { is = refl })) (leads_if (b == 62) (Some MarkupEnd) (Some BogusComment) (leads_on (record { is = refl })) (leads_on (record { is = refl })))
next_leads form foreign BogusComment front b h =
    leads_if (b == 62) (Some MarkupEnd) (if b == 91 && (is_xml form || foreign) && pointwise nat_eq front (codes "<![CDATA") then Some CdataSection else if b == 91 && is_xml form then Some DoctypeSubset else Some BogusComment) (leads_on (record { is = refl })) (leads_if (b == 91 && (is_xml form || foreign) && pointwise nat_eq front (codes "<![CDATA")) (Some CdataSection) (if b == 91 && is_xml form then Some DoctypeSubset else Some BogusComment) (leads_on (record { is = refl })) (leads_if (b == 91 && is_xml form) (Some DoctypeSubset) (Some BogusComment) (leads_on (record { is = refl })) (leads_on (record { is = refl }))))
next_leads form foreign DoctypeSubset front b h =
    leads_if (b == 93) (Some DoctypeSubsetEnd) (Some DoctypeSubset) (leads_on (record { is = refl })) (leads_on (record { is = refl }))
next_leads form foreign DoctypeSubsetEnd front b h =
    leads_if (b == 62) (Some MarkupEnd) (if b == 93 || is_white_space b then Some DoctypeSubsetEnd else Some DoctypeSubset) (leads_on (record { is = refl })) (leads_if (b == 93 || is_white_space b) (Some DoctypeSubsetEnd) (Some DoctypeSubset) (leads_on (record { is = refl })) (leads_on (record { is = refl })))
next_leads form foreign ProcessingInstruction front b h =
    leads_if (b == 63) (Some ProcessingInstructionMark) (Some ProcessingInstruction) (leads_on (record { is = refl })) (leads_on (record { is = refl }))
next_leads form foreign ProcessingInstructionMark front b h =
    leads_if (b == 62) (Some MarkupEnd) (if b == 63 then Some ProcessingInstructionMark else Some ProcessingInstruction) (leads_on (record { is = refl })) (leads_if (b == 63) (Some ProcessingInstructionMark) (Some ProcessingInstruction) (leads_on (record { is = refl })) (leads_on (record { is = refl })))
next_leads form foreign CommentStart front b h =
    leads_if (b == 45) (Some CommentStartDash) (if b == 62 && not (is_xml form) then Some MarkupEnd else Some Comment) (leads_on (record { is = refl })) (leads_if (b == 62 && not (is_xml form)) (Some MarkupEnd) (Some Comment) (leads_on (record { is = refl })) (leads_on (record { is = refl })))
next_leads form foreign CommentStartDash front b h =
    leads_if (b == 45) (Some CommentEnd) (if b == 62 && not (is_xml form) then Some MarkupEnd else Some Comment) (leads_on (record { is = refl })) (leads_if (b == 62 && not (is_xml form)) (Some MarkupEnd) (Some Comment) (leads_on (record { is = refl })) (leads_on (record { is = refl })))
next_leads form foreign Comment front b h =
    leads_if (b == 45) (Some CommentEndDash) (Some Comment) (leads_on (record { is = refl })) (leads_on (record { is = refl }))
next_leads form foreign CommentEndDash front b h =
    leads_if (b == 45) (Some CommentEnd) (Some Comment) (leads_on (record { is = refl })) (leads_on (record { is = refl }))
next_leads form foreign CommentEnd front b h =
    leads_if (b == 62) (Some MarkupEnd) (if b == 33 && not (is_xml form) then Some CommentEndBang else if b == 45 then Some CommentEnd else Some Comment) (leads_on (record { is = refl })) (leads_if (b == 33 && not (is_xml form)) (Some CommentEndBang) (if b == 45 then Some CommentEnd else Some Comment) (leads_on (record { is = refl })) (leads_if (b == 45) (Some CommentEnd) (Some Comment) (leads_on (record { is = refl })) (leads_on (record { is = refl }))))
next_leads form foreign CommentEndBang front b h =
    leads_if (b == 45) (Some CommentEndDash) (if b == 62 then Some MarkupEnd else Some Comment) (leads_on (record { is = refl })) (leads_if (b == 62) (Some MarkupEnd) (Some Comment) (leads_on (record { is = refl })) (leads_on (record { is = refl })))
next_leads form foreign CdataSection front b h =
    leads_if (b == 93) (Some CdataSectionBracket) (Some CdataSection) (leads_on (record { is = refl })) (leads_on (record { is = refl }))
next_leads form foreign CdataSectionBracket front b h =
    leads_if (b == 93) (Some CdataSectionEnd) (Some CdataSection) (leads_on (record { is = refl })) (leads_on (record { is = refl }))
next_leads form foreign CdataSectionEnd front b h =
    leads_if (b == 93) (Some CdataSectionEnd) (if b == 62 then Some MarkupEnd else Some CdataSection) (leads_on (record { is = refl })) (leads_if (b == 62) (Some MarkupEnd) (Some CdataSection) (leads_on (record { is = refl })) (leads_on (record { is = refl })))
next_leads form foreign (Raw element) front b h =
    leads_if (b == 60) (None) (if ends_tag (raw_end_tag element) front b then Some (in_tag b TagName) else if b == 45 && is_same_name front (codes "<!-") && is_script element then Some ScriptEscaped else Some (Raw element)) (record { is = refl }) (leads_if (ends_tag (raw_end_tag element) front b) (Some (in_tag b TagName)) (if b == 45 && is_same_name front (codes "<!-") && is_script element then Some ScriptEscaped else Some (Raw element)) (leads_on (in_tag_leads b TagName (record { is = refl }))) (leads_if (b == 45 && is_same_name front (codes "<!-") && is_script element) (Some ScriptEscaped) (Some (Raw element)) (leads_on (record { is = refl })) (leads_on (record { is = refl }))))
next_leads form foreign ScriptEscaped front b h =
    leads_if (b == 60) (None) (if ends_tag (codes "</script") front b then Some (in_tag b TagName) else if ends_tag (codes "<script") front b then Some ScriptDoubleEscaped else if b == 62 && ends_with nat_eq front (codes "--") then Some (Raw Script) else Some ScriptEscaped) (record { is = refl }) (leads_if (ends_tag (codes "</script") front b) (Some (in_tag b TagName)) (if ends_tag (codes "<script") front b then Some ScriptDoubleEscaped else if b == 62 && ends_with nat_eq front (codes "--") then Some (Raw Script) else Some ScriptEscaped) (leads_on (in_tag_leads b TagName (record { is = refl }))) (leads_if (ends_tag (codes "<script") front b) (Some ScriptDoubleEscaped) (if b == 62 && ends_with nat_eq front (codes "--") then Some (Raw Script) else Some ScriptEscaped) (leads_on (record { is = refl })) (leads_if (b == 62 && ends_with nat_eq front (codes "--")) (Some (Raw Script)) (Some ScriptEscaped) (leads_on (record { is = refl })) (leads_on (record { is = refl })))))
next_leads form foreign ScriptDoubleEscaped front b h =
    leads_if (b == 60) (None) (if ends_tag (codes "</script") front b then Some ScriptEscaped else if b == 62 && ends_with nat_eq front (codes "--") then Some (Raw Script) else Some ScriptDoubleEscaped) (record { is = refl }) (leads_if (ends_tag (codes "</script") front b) (Some ScriptEscaped) (if b == 62 && ends_with nat_eq front (codes "--") then Some (Raw Script) else Some ScriptDoubleEscaped) (leads_on (record { is = refl })) (leads_if (b == 62 && ends_with nat_eq front (codes "--")) (Some (Raw Script)) (Some ScriptDoubleEscaped) (leads_on (record { is = refl })) (leads_on (record { is = refl }))))
next_leads form foreign Plaintext front b h = leads_on (record { is = refl })
next_leads form foreign ReferenceEnd front b h = record { is = refl }
next_leads form foreign TagEnd front b h = record { is = refl }
next_leads form foreign EmptyTagEnd front b h = record { is = refl }
next_leads form foreign MarkupEnd front b h = record { is = refl }

pub after_leads : (form : PageForm) (foreign : Bool) (state : State) (front : List ℕ) (b : ℕ) → is_data state ≡ false → Leads state (state_after form foreign state front b)
after_leads form foreign state front b h =
    leads_if (is_continuation b) (Some state) (next form foreign state front b) (leads_on (record { is = h })) (next_leads form foreign state front b h)

-- where a text begins at a byte, one does at the byte c2 too
begins_text_too : (form : PageForm) (foreign : Bool) (state : State) (front : List ℕ) (b : ℕ) → may_end state ≡ true
    → is_data (begin (content_after form foreign state front) b) ≡ true → state_after form foreign state front 0xC2 ≡ None
unfolding next begin content_after
begins_text_too Html foreign TagOpen front b m d = refl
begins_text_too Xml foreign TagOpen front b m d = refl
begins_text_too form foreign CharacterReference front b m d = refl
begins_text_too form foreign ReferenceName front b m d = refl
begins_text_too form foreign ReferenceEnd front b m d = refl
begins_text_too form foreign TagEnd front b m d = refl
begins_text_too form foreign EmptyTagEnd front b m d = refl
begins_text_too form foreign MarkupEnd front b m d = refl
begins_text_too form foreign state front b m d = cc

-- content in which a text begins at a byte is that of text
text_in_data : (x y : Bool) → is_data (if x then TagOpen else if y then CharacterReference else Data) ≡ true → x || y ≡ false
text_in_data true y d = cc
text_in_data false true d = cc
text_in_data false false d = refl

markup_in_data : (x y : Bool) → x || y ≡ true → is_data (if x then TagOpen else if y then CharacterReference else Data) ≡ false
markup_in_data true y d = refl
markup_in_data false true d = refl
markup_in_data false false d = cc

data_in_data : (x y : Bool) → x || y ≡ false → (if x then TagOpen else if y then CharacterReference else Data) ≡ Data
data_in_data true y d = cc
data_in_data false true d = cc
data_in_data false false d = refl

text_begins : (content : State) (b : ℕ) → is_data (begin content b) ≡ true → (content ≡ Data) × (ends_text b ≡ false)
unfolding begin
text_begins Data b d = (refl, text_in_data (b == 60) (b == 38) d)
text_begins content b d = cc

markup_begins : (b : ℕ) → ends_text b ≡ true → is_data (begin Data b) ≡ false
unfolding begin
markup_begins b e = markup_in_data (b == 60) (b == 38) e

pub begins_data : (b : ℕ) → ends_text b ≡ false → begin Data b ≡ Data
unfolding begin
begins_data b e = data_in_data (b == 60) (b == 38) e

-- a byte that does not end a text goes with it, and no other does
goes_if : (c e : Bool) → e ≡ false → (if c then Some Data else if e then None else Some Data) ≡ Some Data
goes_if true e h = refl
goes_if false e h = ap (λ x. if x then None else Some Data) h

in_text : (form : PageForm) (foreign : Bool) (front : List ℕ) (b : ℕ) → ends_text b ≡ false → state_after form foreign Data front b ≡ Some Data
unfolding next
in_text form foreign front b e = goes_if (is_continuation b) (ends_text b) e

pub no_continuation : (b : ℕ) → is_continuation b ≡ true → ends_text b ≡ false
no_continuation b e = grind (arith, nat_tests)

went_if : (c e : Bool) (after : State) → (c ≡ true → e ≡ false) → (if c then Some Data else if e then None else Some Data) ≡ Some after → (after ≡ Data) × (e ≡ false)
went_if true e after f h = (cc, f refl)
went_if false true after f h = cc
went_if false false after f h = (cc, refl)

still_text : (form : PageForm) (foreign : Bool) (front : List ℕ) (b : ℕ) (after : State) → state_after form foreign Data front b ≡ Some after → (after ≡ Data) × (ends_text b ≡ false)
unfolding next
still_text form foreign front b after e = went_if (is_continuation b) (ends_text b) after (no_continuation b) e

ended_if : (c e : Bool) → (if c then Some Data else if e then None else Some Data) ≡ None → e ≡ true
ended_if true e h = cc
ended_if false true h = refl
ended_if false false h = cc

text_ended : (form : PageForm) (foreign : Bool) (front : List ℕ) (b : ℕ) → state_after form foreign Data front b ≡ None → ends_text b ≡ true
unfolding next
text_ended form foreign front b e = ended_if (is_continuation b) (ends_text b) e

-- ---- texts

text_run : (form : PageForm) (depth : ℕ) (front text rest : List ℕ) → IsPlain text → pieces_from form depth Data front (text ++ rest) ≡ pieces_from form depth Data (front ++ text) rest
text_run form depth front [] rest p = ap (λ f. pieces_from form depth Data f rest) (sym (append-nil front))
text_run form depth front (b ∷ text) rest p =
    pieces_on form depth Data Data front b (text ++ rest) (in_text form (nat_lt 0 depth) front b p.0)
    ∙ text_run form depth (front ++ b ∷ []) text rest p.1
    ∙ ap (λ f. pieces_from form depth Data f rest) (append_assoc front (b ∷ []) text)

-- the bytes of a text, from the first one on
text_pieces : (form : PageForm) (depth b : ℕ) (text rest : List ℕ) (others : List Piece) → IsPlain (b ∷ text)
    → ((front : List ℕ) → pieces_from form depth Data front rest ≡ piece Data front ∷ others)
    → pieces_from form depth (begin Data b) (b ∷ []) (text ++ rest) ≡ piece Data (b ∷ text) ∷ others
text_pieces form depth b text rest others p goes =
    ap (λ s. pieces_from form depth s (b ∷ []) (text ++ rest)) (begins_data b p.0) ∙ text_run form depth (b ∷ []) text rest p.1 ∙ goes (b ∷ text)

abbrev IsSome : List ℕ → Type 0
IsSome [] = ⊥
IsSome (b ∷ bs) = Unit {0}

pub plain_more : (front : List ℕ) (b : ℕ) → IsPlain front → ends_text b ≡ false → IsPlain (front ++ b ∷ [])
plain_more [] b p e = (e, tt)
plain_more (x ∷ front) b p e = (p.0, plain_more front b p.1 e)

some_more : (front : List ℕ) (b : ℕ) → IsSome (front ++ b ∷ [])
some_more [] b = tt
some_more (x ∷ front) b = tt

begins_more : (front more text : List ℕ) → IsSome front → begins_alike (front ++ more) text ≡ begins_alike front text
begins_more [] more text s = absurd s
begins_more (x ∷ front) more [] s = refl
begins_more (x ∷ front) more (o ∷ os) s = refl

-- ---- the pieces from a state on, and others with other texts

-- the first piece stays, as far as it has come
record OtherWalk (form : PageForm) (depth : ℕ) (state : State) (front : List ℕ) (others : List Piece) : Type 0 where
  rest : List ℕ
  joins : joined_pieces others ≡ front ++ rest
  goes : pieces_from form depth state front rest ≡ others

-- the first piece is another text
record TextWalk (form : PageForm) (depth : ℕ) (front : List ℕ) (others : List Piece) : Type 0 where
  text : List ℕ
  more : List Piece
  rest : List ℕ
  plain : IsPlain text
  begins : begins_alike front text ≡ true
  joins : joined_pieces others ≡ text ++ rest
  goes : (any : List ℕ) → pieces_from form depth Data any rest ≡ piece Data any ∷ more
  is : others ≡ piece Data text ∷ more

abbrev Walked : PageForm → ℕ → State → List ℕ → List Piece → Type 0
Walked form depth Data front others = TextWalk form depth front others
Walked form depth state front others = OtherWalk form depth state front others

abbrev Ready : State → List ℕ → Type 0
Ready Data front = IsPlain front × IsSome front
Ready _ front = Unit {0}

as_other : (form : PageForm) (depth : ℕ) (state : State) (front : List ℕ) (others : List Piece) → is_data state ≡ false → Walked form depth state front others → OtherWalk form depth state front others
as_other form depth Data front others d w = absurd (cc d)
as_other form depth state front others d w = w

as_text : (form : PageForm) (depth : ℕ) (state : State) (front : List ℕ) (others : List Piece) → is_data state ≡ true → Walked form depth state front others → TextWalk form depth front others
as_text form depth Data front others d w = w
as_text form depth state front others d w = absurd (cc d)

ready_other : (state : State) (front : List ℕ) → is_data state ≡ false → Ready state front
ready_other Data front d = absurd (cc d)
ready_other state front d = tt

ready_text : (state : State) (b : ℕ) → is_data state ≡ true → ends_text b ≡ false → Ready state (b ∷ [])
ready_text Data b d e = ((e, tt), tt)
ready_text state b d e = absurd (cc d)

-- a piece that is no text stays
tag_stays : (c : Bool) (x : PieceKind) (front other : List ℕ) → IsOtherText x front other ≡ (other ≡ front) → IsOtherText (if c then EndTag else x) front other → other ≡ front
tag_stays true x front other e u = u
tag_stays false x front other e u = subst (λ T. T) e u

stays : (state : State) (front other : List ℕ) → is_data state ≡ false → IsOtherText (kind_of state front) front other → other ≡ front
unfolding kind_of
stays Data front other d u = absurd (cc d)
stays TagEnd front other d u = tag_stays (is_end_tag front) StartTag front other refl u
stays EmptyTagEnd front other d u = tag_stays (is_end_tag front) EmptyTag front other refl u
stays state front other d u = u

same_piece : (state : State) (front : List ℕ) (other : Piece) → is_data state ≡ false → IsAlike (piece state front) other → other ≡ piece state front
same_piece state front other d a =
    ap (λ k. record { kind = k; bytes = other.bytes }) a.kind ∙ ap (λ bs. record { kind = kind_of state front; bytes = bs }) (stays state front other.bytes d a.bytes)

same_text : (front : List ℕ) (other : Piece) → IsAlike (piece Data front) other → other ≡ piece Data other.bytes
unfolding kind_of
same_text front other a = ap (λ k. record { kind = k; bytes = other.bytes }) a.kind

-- the page ends
at_end : (form : PageForm) (depth : ℕ) (state : State) (front : List ℕ) (others : List Piece) → Ready state front → HaveOtherTexts (piece state front ∷ []) others → Walked form depth state front others
unfolding kind_of
at_end form depth state front [] r m = absurd m
at_end form depth state front (q ∷ q' ∷ qs) r m = absurd m.1
at_end form depth Data front (q ∷ []) r m = record {
  text = q.bytes;
  more = [];
  rest = [];
  plain = m.0.bytes.0 r.0;
  begins = m.0.bytes.1;
  joins = refl;
  goes = λ any. refl;
  is = ap (λ p. p ∷ []) (same_text front q m.0);
}
at_end form depth state front (q ∷ []) r m =
    let same = same_piece state front q refl m.0 in
    record { rest = []; joins = ap (λ p. p.bytes ++ []) same; goes = ap (λ p. p ∷ []) (sym same) }

-- a text goes on
text_on : (form : PageForm) (depth : ℕ) (front : List ℕ) (b : ℕ) (bs : List ℕ) (others : List Piece) (after : State) → state_after form (nat_lt 0 depth) Data front b ≡ Some after → Ready Data front
    → (Ready after (front ++ b ∷ []) → Walked form depth after (front ++ b ∷ []) others) → TextWalk form depth front others
text_on form depth front b bs others after e r on =
    let still = still_text form (nat_lt 0 depth) front b after e in
    let on' = subst (λ s. Ready s (front ++ b ∷ []) → Walked form depth s (front ++ b ∷ []) others) still.0 on in
    let w : TextWalk form depth (front ++ b ∷ []) others = on' (plain_more front b r.0 still.1, some_more front b) in
    record {
      text = w.text;
      more = w.more;
      rest = w.rest;
      plain = w.plain;
      joins = w.joins;
      goes = w.goes;
      is = w.is;
      begins = sym (begins_more front (b ∷ []) w.text r.1) ∙ w.begins;
    }

-- a text ends
text_done : (form : PageForm) (depth : ℕ) (front : List ℕ) (b : ℕ) (bs : List ℕ) (q : Piece) (qs : List Piece) → state_after form (nat_lt 0 depth) Data front b ≡ None → Ready Data front
    → IsAlike (piece Data front) q → OtherWalk form depth (begin Data b) (b ∷ []) qs → TextWalk form depth front (q ∷ qs)
unfolding next kind_of content_after depth_after
text_done form depth front b bs q qs e r a w = record {
  text = q.bytes;
  more = qs;
  rest = b ∷ w.rest;
  plain = a.bytes.0 r.0;
  begins = a.bytes.1;
  joins = ap (λ xs. q.bytes ++ xs) w.joins;
  goes = λ any. pieces_anew form depth Data any b w.rest e ∙ ap (λ ps. piece Data any ∷ ps) w.goes;
  is = ap (λ p. p ∷ qs) (same_text front q a);
}

-- a piece ends before one that is no text, or before a text
other_done : (form : PageForm) (depth : ℕ) (state : State) (front : List ℕ) (b : ℕ) (q : Piece) (qs : List Piece) → state_after form (nat_lt 0 depth) state front b ≡ None → q ≡ piece state front
    → OtherWalk form (depth_after depth state front) (begin (content_after form (nat_lt 0 depth) state front) b) (b ∷ []) qs → OtherWalk form depth state front (q ∷ qs)
other_done form depth state front b q qs e same w = record {
  rest = b ∷ w.rest;
  joins = ap (λ xs. q.bytes ++ xs) w.joins ∙ ap (λ p. p.bytes ++ b ∷ w.rest) same;
  goes = pieces_anew form depth state front b w.rest e ∙ ap (λ ps. piece state front ∷ ps) w.goes ∙ ap (λ p. p ∷ qs) (sym same);
}

alike_byte : (x y : Bool) (b o : ℕ) (P : ℕ → Type 0) → (x ≡ true → o ≡ b) → (y ≡ true → o ≡ 0xC2) → P b → P 0xC2 → x || y ≡ true → P o
alike_byte true y b o P f g p q e = subst P (sym (f refl)) p
alike_byte false true b o P f g p q e = subst P (sym (g refl)) q
alike_byte false false b o P f g p q e = cc

text_follows : (form : PageForm) (depth : ℕ) (state : State) (front : List ℕ) (b : ℕ) (q : Piece) (qs : List Piece) (text rest : List ℕ) (more : List Piece) → state_after form (nat_lt 0 depth) state front b ≡ None
    → q ≡ piece state front → may_end state ≡ true → is_data (begin (content_after form (nat_lt 0 depth) state front) b) ≡ true
    → IsPlain text → begins_alike (b ∷ []) text ≡ true → joined_pieces qs ≡ text ++ rest
    → ((any : List ℕ) → pieces_from form (depth_after depth state front) Data any rest ≡ piece Data any ∷ more) → qs ≡ piece Data text ∷ more
    → OtherWalk form depth state front (q ∷ qs)
text_follows form depth state front b q qs [] rest more e same may d plain begins joins goes is = absurd (cc begins)
text_follows form depth state front b q qs (o ∷ text) rest more e same may d plain begins joins goes is =
    let content = text_begins (content_after form (nat_lt 0 depth) state front) b d in
    let none : state_after form (nat_lt 0 depth) state front o ≡ None =
    alike_byte (o == b) (o == 0xC2) b o (λ x. state_after form (nat_lt 0 depth) state front x ≡ None) (eqb-true o b) (eqb-true o 0xC2) e
    (begins_text_too form (nat_lt 0 depth) state front b may d) begins in
    record {
      rest = o ∷ (text ++ rest);
      joins = ap (λ xs. q.bytes ++ xs) joins ∙ ap (λ p. p.bytes ++ o ∷ (text ++ rest)) same;
      goes = pieces_anew form depth state front o (text ++ rest) none
          ∙ ap (λ s. piece state front ∷ pieces_from form (depth_after depth state front) (begin s o) (o ∷ []) (text ++ rest)) content.0
          ∙ ap (λ ps. piece state front ∷ ps) (text_pieces form (depth_after depth state front) o text rest more plain goes ∙ sym is)
          ∙ ap (λ p. p ∷ qs) (sym same);
    }

new_piece : (form : PageForm) (depth : ℕ) (state : State) (front : List ℕ) (b : ℕ) (q : Piece) (qs : List Piece) (c : Bool) → is_data (begin (content_after form (nat_lt 0 depth) state front) b) ≡ c
    → state_after form (nat_lt 0 depth) state front b ≡ None → q ≡ piece state front → may_end state ≡ true
    → (Ready (begin (content_after form (nat_lt 0 depth) state front) b) (b ∷ [])
    → Walked form (depth_after depth state front) (begin (content_after form (nat_lt 0 depth) state front) b) (b ∷ []) qs)
    → OtherWalk form depth state front (q ∷ qs)
new_piece form depth state front b q qs false d e same may anew =
    let after = begin (content_after form (nat_lt 0 depth) state front) b in
    other_done form depth state front b q qs e same
    (as_other form (depth_after depth state front) after (b ∷ []) qs d (anew (ready_other after (b ∷ []) d)))
new_piece form depth state front b q qs true d e same may anew =
    let after = begin (content_after form (nat_lt 0 depth) state front) b in
    let plain = text_begins (content_after form (nat_lt 0 depth) state front) b d in
    let w = as_text form (depth_after depth state front) after (b ∷ []) qs d (anew (ready_text after b d plain.1)) in
    text_follows form depth state front b q qs w.text w.rest w.more e same may d w.plain w.begins w.joins w.goes w.is

-- one byte more in a piece that is no text
other_step : (form : PageForm) (depth : ℕ) (state : State) (front : List ℕ) (b : ℕ) (bs : List ℕ) (others : List Piece) (o : Option State) → is_data state ≡ false
    → state_after form (nat_lt 0 depth) state front b ≡ o
    → ((after : State) → Ready after (front ++ b ∷ []) → HaveOtherTexts (pieces_from form depth after (front ++ b ∷ []) bs) others → Walked form depth after (front ++ b ∷ []) others)
    → ((qs : List Piece) → Ready (begin (content_after form (nat_lt 0 depth) state front) b) (b ∷ []) → HaveOtherTexts (after_piece form depth state front b bs) qs
    → Walked form (depth_after depth state front) (begin (content_after form (nat_lt 0 depth) state front) b) (b ∷ []) qs)
    → HaveOtherTexts (option_map_or (λ after. pieces_from form depth after (front ++ b ∷ []) bs) o (piece state front ∷ after_piece form depth state front b bs)) others
    → OtherWalk form depth state front others
other_step form depth state front b bs others (Some after) d e on anew m =
    let led : Leads state (Some after) = subst (Leads state) e (after_leads form (nat_lt 0 depth) state front b d) in
    let leads : is_data after ≡ false = led.is.is in
    let w = as_other form depth after (front ++ b ∷ []) others leads (on after (ready_other after (front ++ b ∷ []) leads) m) in
    record { rest = b ∷ w.rest; joins = w.joins ∙ append_assoc front (b ∷ []) w.rest; goes = pieces_on form depth state after front b w.rest e ∙ w.goes }
other_step form depth state front b bs [] None d e on anew m = absurd m
other_step form depth state front b bs (q ∷ qs) None d e on anew m =
    let ended : Leads state None = subst (Leads state) e (after_leads form (nat_lt 0 depth) state front b d) in
    let may : may_end state ≡ true = ended.is in
    new_piece form depth state front b q qs (is_data (begin (content_after form (nat_lt 0 depth) state front) b)) refl e (same_piece state front q d m.0) may (λ r. anew qs r m.1)

-- one byte more in a text
text_step : (form : PageForm) (depth : ℕ) (front : List ℕ) (b : ℕ) (bs : List ℕ) (others : List Piece) (o : Option State) → state_after form (nat_lt 0 depth) Data front b ≡ o → Ready Data front
    → ((after : State) → Ready after (front ++ b ∷ []) → HaveOtherTexts (pieces_from form depth after (front ++ b ∷ []) bs) others → Walked form depth after (front ++ b ∷ []) others)
    → ((qs : List Piece) → Ready (begin Data b) (b ∷ []) → HaveOtherTexts (after_piece form depth Data front b bs) qs → Walked form depth (begin Data b) (b ∷ []) qs)
    → HaveOtherTexts (option_map_or (λ after. pieces_from form depth after (front ++ b ∷ []) bs) o (piece Data front ∷ after_piece form depth Data front b bs)) others
    → TextWalk form depth front others
text_step form depth front b bs others (Some after) e r on anew m = text_on form depth front b bs others after e r (λ ready. on after ready m)
text_step form depth front b bs [] None e r on anew m = absurd m
text_step form depth front b bs (q ∷ qs) None e r on anew m =
    let markup = markup_begins b (text_ended form (nat_lt 0 depth) front b e) in
    text_done form depth front b bs q qs e r m.0 (as_other form depth (begin Data b) (b ∷ []) qs markup (anew qs (ready_other (begin Data b) (b ∷ []) markup) m.1))

step : (form : PageForm) (depth : ℕ) (state : State) (front : List ℕ) (b : ℕ) (bs : List ℕ) (others : List Piece) → Ready state front
    → ((after : State) → Ready after (front ++ b ∷ []) → HaveOtherTexts (pieces_from form depth after (front ++ b ∷ []) bs) others → Walked form depth after (front ++ b ∷ []) others)
    → ((qs : List Piece) → Ready (begin (content_after form (nat_lt 0 depth) state front) b) (b ∷ []) → HaveOtherTexts (after_piece form depth state front b bs) qs
    → Walked form (depth_after depth state front) (begin (content_after form (nat_lt 0 depth) state front) b) (b ∷ []) qs)
    → HaveOtherTexts (option_map_or (λ after. pieces_from form depth after (front ++ b ∷ []) bs) (state_after form (nat_lt 0 depth) state front b) (piece state front ∷ after_piece form depth state front b bs)) others
    → Walked form depth state front others
unfolding content_after depth_after
step form depth Data front b bs others r on anew m = text_step form depth front b bs others (state_after form (nat_lt 0 depth) Data front b) refl r on anew m
step form depth state front b bs others r on anew m = other_step form depth state front b bs others (state_after form (nat_lt 0 depth) state front b) refl refl on anew m

walk : (form : PageForm) (depth : ℕ) (state : State) (front bs : List ℕ) (others : List Piece) → Ready state front → HaveOtherTexts (pieces_from form depth state front bs) others → Walked form depth state front others
walk form depth state front [] others r m = at_end form depth state front others r m
walk form depth state front (b ∷ bs) others r m =
    step form depth state front b bs others r
    (λ after ready more. walk form depth after (front ++ b ∷ []) bs others ready more)
    (λ qs ready more. walk form (depth_after depth state front) (begin (content_after form (nat_lt 0 depth) state front) b) (b ∷ []) bs qs ready more) m

text_first : (form : PageForm) (b : ℕ) (others : List Piece) (text rest : List ℕ) (more : List Piece) → IsPlain text → begins_alike (b ∷ []) text ≡ true → joined_pieces others ≡ text ++ rest
    → ((any : List ℕ) → pieces_from form 0 Data any rest ≡ piece Data any ∷ more) → others ≡ piece Data text ∷ more → pieces_of form (joined_pieces others) ≡ others
text_first form b others [] rest more plain begins joins goes is = absurd (cc begins)
text_first form b others (o ∷ text) rest more plain begins joins goes is =
    ap (pieces_of form) joins ∙ text_pieces form 0 o text rest more plain goes ∙ sym is

first_piece : (form : PageForm) (b : ℕ) (others : List Piece) (c : Bool) → is_data (begin Data b) ≡ c
    → (Ready (begin Data b) (b ∷ []) → Walked form 0 (begin Data b) (b ∷ []) others) → pieces_of form (joined_pieces others) ≡ others
first_piece form b others false d walked =
    let w = as_other form 0 (begin Data b) (b ∷ []) others d (walked (ready_other (begin Data b) (b ∷ []) d)) in
    ap (pieces_of form) w.joins ∙ w.goes
first_piece form b others true d walked =
    let plain = text_begins Data b d in
    let w = as_text form 0 (begin Data b) (b ∷ []) others d (walked (ready_text (begin Data b) b d plain.1)) in
    text_first form b others w.text w.rest w.more w.plain w.begins w.joins w.goes w.is

pub other_texts : (form : PageForm) (page : List ℕ) (others : List Piece) → HaveOtherTexts (pieces_of form page) others → pieces_of form (joined_pieces others) ≡ others
other_texts form [] [] m = refl
other_texts form [] (q ∷ qs) m = absurd m
other_texts form (b ∷ bs) others m = first_piece form b others (is_data (begin Data b)) refl (λ r. walk form 0 (begin Data b) (b ∷ []) bs others r m)
