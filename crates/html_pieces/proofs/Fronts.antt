-- The first tag to which the front of a page leads is found in its pieces, in either form.
use Rattle.std.proofs.Common.{◌≡◌, ℕ, ◌==◌, ◌||◌, ◌&&◌, List, [], ◌∷◌, ◌++◌, refl, ap, sym, ◌∙◌, append_assoc, append-nil, subst, Option, Some, None, Bool, true, false, not, nat_lt, nat_le, if◌then◌else◌, eqb-true, arith, nat_eq, codes, inl, inr, ◌⊎◌, true≢false}
use Rattle.std.specs.Option.{option_map_or, unwrap_or}
use Rattle.std.proofs.lemmas.Bool.Decides.{nat_tests}
use Rattle.std.specs.Cmp.Lexicographic.{pointwise}
use Rattle.html_pieces.specs.declared.bytes.PageForm.{PageForm}
use Rattle.html_pieces.specs.declared.bytes.PageForm.TheVariants.{Html, Xml}
use Rattle.html_pieces.specs.declared.tokenizer.State.{State}
use Rattle.html_pieces.specs.declared.tokenizer.State.TheVariants.{Data, CharacterReference, ReferenceName, ReferenceEnd, TagOpen, TagName, BeforeAttributeName, AttributeName, AfterAttributeName, BeforeAttributeValue, DoubleQuotedValue, SingleQuotedValue, UnquotedValue, AfterQuotedValue, SelfClosingTag, TagEnd, EmptyTagEnd, MarkupDeclarationOpen, MarkupDeclarationDash, BogusComment, DoctypeSubset, ProcessingInstruction, ProcessingInstructionMark, CommentStart, CommentStartDash, Comment, CommentEndDash, CommentEnd, CommentEndBang, CdataSection, MarkupEnd, EndTagOpen, Plaintext}
use Rattle.html_pieces.specs.declared.tokenizer.PieceKind.{PieceKind}
use Rattle.html_pieces.specs.declared.tokenizer.PieceKind.TheVariants.{Text, Reference, StartTag, EmptyTag, EndTag, Other}
use Rattle.html_pieces.specs.Bytes.{is_continuation, is_white_space, is_alpha, is_alphanumeric, is_xml}
use Rattle.html_pieces.specs.Names.{is_end_tag}
use Rattle.html_pieces.specs.Pieces.{Piece, piece, pieces_from, pieces_of, state_after, next, in_tag, in_attribute, before_value, in_unquoted_value, begin, content_after, depth_after, kind_of}
use Rattle.html_pieces.specs.Forms.{is_data, is_tag_end, is_past_front, front_after, front_state, Front, at_front, front_with, front_of, tag_of, root_tag}
use Rattle.html_pieces.specs.Laws.{IsOtherText, HaveOtherTexts}
use Rattle.html_pieces.proofs.PieceSteps.{after_piece, none_means}
use Rattle.html_pieces.proofs.OtherTexts.{NotData, Leads, after_leads}

-- ---- the first tag in pieces

-- the tag to which a piece leads, or the pieces after it
abbrev tag_in : PieceKind → List ℕ → List ℕ → List ℕ
tag_in Text bytes later = later
tag_in _ bytes later = if is_data (front_of at_front bytes).state then later else tag_of (front_of at_front bytes)

abbrev pub root_in : List Piece → List ℕ
root_in [] = []
root_in (p ∷ ps) = tag_in p.kind p.bytes (root_in ps)

other_tag : (kind : PieceKind) (bytes other later : List ℕ) → IsOtherText kind bytes other → tag_in kind other later ≡ tag_in kind bytes later
other_tag Text bytes other later u = refl
other_tag Reference bytes other later u = ap (λ xs. tag_in Reference xs later) u
other_tag StartTag bytes other later u = ap (λ xs. tag_in StartTag xs later) u
other_tag EmptyTag bytes other later u = ap (λ xs. tag_in EmptyTag xs later) u
other_tag EndTag bytes other later u = ap (λ xs. tag_in EndTag xs later) u
other_tag Other bytes other later u = ap (λ xs. tag_in Other xs later) u

-- Other texts leave the first tag.
pub root_stays : (ps others : List Piece) → HaveOtherTexts ps others → root_in others ≡ root_in ps
root_stays [] [] m = refl
root_stays [] (q ∷ qs) m = absurd m
root_stays (p ∷ ps) [] m = absurd m
root_stays (p ∷ ps) (q ∷ qs) m =
    ap (λ k. tag_in k q.bytes (root_in qs)) m.0.kind ∙ ap (tag_in p.kind q.bytes) (root_stays ps qs m.1) ∙ other_tag p.kind p.bytes q.bytes (root_in ps) m.0.bytes

-- ---- fronts

past_cases : (c : Bool) (front other : Front) → c ≡ true → (if c then front else other) ≡ front
past_cases true front other e = refl
past_cases false front other e = absurd (cc e)

past_with : (front : Front) (b : ℕ) → is_past_front front.state ≡ true → front_with front b ≡ front
past_with front b e = past_cases (is_past_front front.state) front _ e

pub past_stays : (front : Front) (bs : List ℕ) → is_past_front front.state ≡ true → front_of front bs ≡ front
past_stays front [] e = refl
past_stays front (b ∷ bs) e = ap (λ f. front_of f bs) (past_with front b e) ∙ past_stays front bs e

front_more : (front : Front) (xs : List ℕ) (b : ℕ) → front_of front (xs ++ b ∷ []) ≡ front_with (front_of front xs) b
front_more front [] b = refl
front_more front (x ∷ xs) b = front_more (front_with front x) xs b

-- the states of a tag, and those of a front within a piece
abbrev is_in_tag : State → Bool
is_in_tag TagName = true
is_in_tag BeforeAttributeName = true
is_in_tag AttributeName = true
is_in_tag AfterAttributeName = true
is_in_tag BeforeAttributeValue = true
is_in_tag DoubleQuotedValue = true
is_in_tag SingleQuotedValue = true
is_in_tag UnquotedValue = true
is_in_tag AfterQuotedValue = true
is_in_tag SelfClosingTag = true
is_in_tag _ = false

abbrev is_within : State → Bool
is_within TagOpen = true
is_within MarkupDeclarationOpen = true
is_within MarkupDeclarationDash = true
is_within BogusComment = true
is_within ProcessingInstruction = true
is_within ProcessingInstructionMark = true
is_within CommentStart = true
is_within CommentStartDash = true
is_within Comment = true
is_within CommentEndDash = true
is_within CommentEnd = true
is_within state = is_in_tag state

-- the state of the tokenizer there
abbrev state_at : State → PageForm → State
state_at ProcessingInstruction Html = BogusComment
state_at ProcessingInstructionMark Html = BogusComment
state_at state form = state

-- ---- one byte of a front

-- where the front goes, the tokenizer does
abbrev GoTo : PageForm → State → Option State → Type 0
GoTo form Data after = after ≡ Some MarkupEnd
GoTo form Plaintext after = Unit {0}
GoTo form TagEnd after = after ≡ Some TagEnd
GoTo form EmptyTagEnd after = after ≡ Some EmptyTagEnd
GoTo form state after = (is_within state ≡ true) × (after ≡ Some (state_at state form))

record Go (form : PageForm) (state : State) (after : Option State) : Type 0 where
  to : GoTo form state after

go_if : {form : PageForm} (c : Bool) (x y : State) (o p : Option State) → Go form x o → Go form y p → Go form (if c then x else y) (if c then o else p)
go_if true x y o p g h = g
go_if false x y o p g h = h

go_past : {form : PageForm} (c : Bool) (y : State) (o p : Option State) → Go form y p → Go form (if c then Plaintext else y) (if c then o else p)
go_past true y o p g = record { to = tt }
go_past false y o p g = g

at_data : {form : PageForm} → Go form Data (Some MarkupEnd)
at_data = record { to = refl }

-- in a tag
abbrev InTag : State → Type 0
InTag TagEnd = Unit {0}
InTag EmptyTagEnd = Unit {0}
InTag state = is_in_tag state ≡ true

record OnTag (state : State) : Type 0 where
  on : InTag state

on_if : (c : Bool) (x y : State) → OnTag x → OnTag y → OnTag (if c then x else y)
on_if true x y p q = p
on_if false x y p q = q

tag_on : (b : ℕ) (other : State) → OnTag other → OnTag (in_tag b other)
tag_on b other p =
    on_if (is_white_space b) _ _ (record { on = refl }) (on_if (b == 47) _ _ (record { on = refl }) (on_if (b == 62) _ _ (record { on = tt }) p))

attribute_on : (b : ℕ) → OnTag (in_attribute b)
attribute_on b =
    on_if (is_white_space b) _ _ (record { on = refl })
    (on_if (b == 47) _ _ (record { on = refl }) (on_if (b == 62) _ _ (record { on = tt }) (on_if (b == 61) _ _ (record { on = refl }) (record { on = refl }))))

value_on : (b : ℕ) → OnTag (before_value b)
value_on b =
    on_if (is_white_space b) _ _ (record { on = refl })
    (on_if (b == 34) _ _ (record { on = refl }) (on_if (b == 39) _ _ (record { on = refl }) (on_if (b == 62) _ _ (record { on = tt }) (record { on = refl }))))

unquoted_on : (b : ℕ) → OnTag (in_unquoted_value b)
unquoted_on b = on_if (is_white_space b) _ _ (record { on = refl }) (on_if (b == 62) _ _ (record { on = tt }) (record { on = refl }))

go_in : (form : PageForm) (state : State) → InTag state → GoTo form state (Some state)
go_in form Data i = absurd (cc i)
go_in form Plaintext i = tt
go_in form TagEnd i = refl
go_in form EmptyTagEnd i = refl
go_in form state i = (cc, cc)

go_tag : (form : PageForm) (state : State) → OnTag state → Go form state (Some state)
go_tag form state p = record { to = go_in form state p.on }

quoted : (form : PageForm) (c : Bool) (state : State) → OnTag state → Go form (unwrap_or (if c then Some AfterQuotedValue else Some state) state) (if c then Some AfterQuotedValue else Some state)
quoted form true state p = go_tag form AfterQuotedValue (record { on = refl })
quoted form false state p = go_tag form state p

closing : (form : PageForm) (c : Bool) (state : State) → OnTag state → Go form (unwrap_or (if c then Some EmptyTagEnd else Some state) SelfClosingTag) (if c then Some EmptyTagEnd else Some state)
closing form true state p = go_tag form EmptyTagEnd (record { on = tt })
closing form false state p = go_tag form state p

-- after "<"
opened : (form : PageForm) (a p q r e d i : Bool) → d ≡ false → i ≡ false
    → Go form (if a then TagName else if d then MarkupDeclarationOpen else if i then ProcessingInstruction else Plaintext)
    (if (if is_xml form then a || p || q || r else a) then Some TagName else if e then Some EndTagOpen else if d then Some MarkupDeclarationOpen else if i then Some (if is_xml form then ProcessingInstruction else BogusComment) else None)
opened form a p q r e true i x y = absurd (cc x)
opened form a p q r e false true x y = absurd (cc y)
opened form false p q r e false false x y = record { to = tt }
opened Html true p q r e false false x y = record { to = (refl, refl) }
opened Xml true p q r e false false x y = record { to = (refl, refl) }

abbrev Opens : PageForm → List ℕ → ℕ → Type 0
Opens form front b = Go form (front_after TagOpen b) (next form false TagOpen front b)

open_cases : (form : PageForm) (front : List ℕ) (b : ℕ) (d i : Bool) → b == 33 ≡ d → b == 63 ≡ i → Opens form front b
unfolding front_after next
open_cases Html front b true i e f = subst (Opens Html front) (sym (eqb-true b 33 e)) (record { to = (refl, refl) })
open_cases Xml front b true i e f = subst (Opens Xml front) (sym (eqb-true b 33 e)) (record { to = (refl, refl) })
open_cases Html front b false true e f = subst (Opens Html front) (sym (eqb-true b 63 f)) (record { to = (refl, refl) })
open_cases Xml front b false true e f = subst (Opens Xml front) (sym (eqb-true b 63 f)) (record { to = (refl, refl) })
open_cases Html front b false false e f = opened Html (is_alpha b) (b == 58) (b == 95) (nat_le 195 b) (b == 47) (b == 33) (b == 63) e f
open_cases Xml front b false false e f = opened Xml (is_alpha b) (b == 58) (b == 95) (nat_le 195 b) (b == 47) (b == 33) (b == 63) e f

-- in a declaration, and in an instruction as HTML has it
declared : (form : PageForm) (g s x : Bool)
    → Go form (if g then Data else if s then Plaintext else BogusComment)
    (if g then Some MarkupEnd else if s && (is_xml form || false) && x then Some CdataSection else if s && is_xml form then Some DoctypeSubset else Some BogusComment)
declared form true s x = record { to = refl }
declared form false true x = record { to = tt }
declared form false false x = record { to = (refl, refl) }

abbrev bogus : Bool → Bool → Bool → Option State
bogus g s x = if g then Some MarkupEnd else if s && (false || false) && x then Some CdataSection else if s && false then Some DoctypeSubset else Some BogusComment

bogus_stays : (s x : Bool) → bogus false s x ≡ Some BogusComment
bogus_stays true x = refl
bogus_stays false x = refl

instructed : (g q s x : Bool) → Go Html (if g then Plaintext else if q then ProcessingInstructionMark else ProcessingInstruction) (bogus g s x)
instructed true q s x = record { to = tt }
instructed false true s x = record { to = (refl, bogus_stays s x) }
instructed false false s x = record { to = (refl, bogus_stays s x) }

marked : (g q s x : Bool) → Go Html (if g then Data else if q then ProcessingInstructionMark else ProcessingInstruction) (bogus g s x)
marked true q s x = record { to = refl }
marked false true s x = record { to = (refl, bogus_stays s x) }
marked false false s x = record { to = (refl, bogus_stays s x) }

instructed_too : (g q : Bool) → Go Xml (if g then Plaintext else if q then ProcessingInstructionMark else ProcessingInstruction) (if q then Some ProcessingInstructionMark else Some ProcessingInstruction)
instructed_too true q = record { to = tt }
instructed_too false true = record { to = (refl, refl) }
instructed_too false false = record { to = (refl, refl) }

marked_too : (g q : Bool) → Go Xml (if g then Data else if q then ProcessingInstructionMark else ProcessingInstruction) (if g then Some MarkupEnd else if q then Some ProcessingInstructionMark else Some ProcessingInstruction)
marked_too true q = record { to = refl }
marked_too false true = record { to = (refl, refl) }
marked_too false false = record { to = (refl, refl) }

-- in a comment
begun : (form : PageForm) (d g : Bool) (state : State) → Go form state (Some state)
    → Go form (if d then state else if g then Plaintext else Comment) (if d then Some state else if g && not (is_xml form) then Some MarkupEnd else Some Comment)
begun form true g state p = p
begun form false true state p = record { to = tt }
begun form false false state p = record { to = (refl, refl) }

ended : (form : PageForm) (g x d : Bool)
    → Go form (if g then Data else if x then Plaintext else if d then CommentEnd else Comment)
    (if g then Some MarkupEnd else if x && not (is_xml form) then Some CommentEndBang else if d then Some CommentEnd else Some Comment)
ended form true x d = record { to = refl }
ended form false true d = record { to = tt }
ended form false false true = record { to = (refl, refl) }
ended form false false false = record { to = (refl, refl) }

go : (form : PageForm) (state : State) (front : List ℕ) (b : ℕ) → is_within state ≡ true → Go form (front_after state b) (next form false (state_at state form) front b)
unfolding front_after next
go form TagOpen front b w = open_cases form front b (b == 33) (b == 63) refl refl
go form MarkupDeclarationOpen front b w = go_if (b == 45) _ _ _ _ (record { to = (refl, refl) }) (go_if (b == 62) _ _ _ _ at_data (record { to = (refl, refl) }))
go form MarkupDeclarationDash front b w = go_if (b == 45) _ _ _ _ (record { to = (refl, refl) }) (go_if (b == 62) _ _ _ _ at_data (record { to = (refl, refl) }))
go form BogusComment front b w = declared form (b == 62) (b == 91) (pointwise nat_eq front (codes "<![CDATA"))
go Html ProcessingInstruction front b w = instructed (b == 62) (b == 63) (b == 91) (pointwise nat_eq front (codes "<![CDATA"))
go Xml ProcessingInstruction front b w = instructed_too (b == 62) (b == 63)
go Html ProcessingInstructionMark front b w = marked (b == 62) (b == 63) (b == 91) (pointwise nat_eq front (codes "<![CDATA"))
go Xml ProcessingInstructionMark front b w = marked_too (b == 62) (b == 63)
go form CommentStart front b w = begun form (b == 45) (b == 62) CommentStartDash (record { to = (refl, refl) })
go form CommentStartDash front b w = begun form (b == 45) (b == 62) CommentEnd (record { to = (refl, refl) })
go form Comment front b w = go_if (b == 45) _ _ _ _ (record { to = (refl, refl) }) (record { to = (refl, refl) })
go form CommentEndDash front b w = go_if (b == 45) _ _ _ _ (record { to = (refl, refl) }) (record { to = (refl, refl) })
go form CommentEnd front b w = ended form (b == 62) (b == 33) (b == 45)
go form TagName front b w = go_tag form (in_tag b TagName) (tag_on b TagName (record { on = refl }))
go form BeforeAttributeName front b w = go_tag form (in_tag b AttributeName) (tag_on b AttributeName (record { on = refl }))
go form AttributeName front b w = go_tag form (in_attribute b) (attribute_on b)
go form AfterAttributeName front b w = go_tag form (in_attribute b) (attribute_on b)
go form BeforeAttributeValue front b w = go_tag form (before_value b) (value_on b)
go form DoubleQuotedValue front b w = quoted form (b == 34) DoubleQuotedValue (record { on = refl })
go form SingleQuotedValue front b w = quoted form (b == 39) SingleQuotedValue (record { on = refl })
go form UnquotedValue front b w = go_tag form (in_unquoted_value b) (unquoted_on b)
go form AfterQuotedValue front b w = go_tag form (in_tag b AttributeName) (tag_on b AttributeName (record { on = refl }))
go form SelfClosingTag front b w = closing form (b == 62) (in_tag b AttributeName) (tag_on b AttributeName (record { on = refl }))
go form state front b w = absurd (cc w)

-- ---- a front and the pieces of its page

-- the states of the tokenizer between the other pieces of a front
abbrev is_between : State → Bool
is_between Data = true
is_between CharacterReference = true
is_between ReferenceName = true
is_between ReferenceEnd = true
is_between MarkupEnd = true
is_between _ = false

-- where the front is in a piece, and the tokenizer is
abbrev Meets : PageForm → Front → State → Type 0
Meets form front state =
    ((is_past_front front.state ≡ true) × (is_data state ≡ false))
    ⊎ (((front ≡ at_front) × (is_between state ≡ true)) ⊎ ((is_within front.state ≡ true) × (state ≡ state_at front.state form)))

within_not_data : (state : State) (form : PageForm) → is_within state ≡ true → (is_data state ≡ false) × (is_data (state_at state form) ≡ false) × (is_past_front state ≡ false) × (is_tag_end state ≡ false)
within_not_data ProcessingInstruction Html w = (refl, refl, refl, refl)
within_not_data ProcessingInstruction Xml w = (refl, refl, refl, refl)
within_not_data ProcessingInstructionMark Html w = (refl, refl, refl, refl)
within_not_data ProcessingInstructionMark Xml w = (refl, refl, refl, refl)
within_not_data state form w = (cc, cc, cc, cc)

-- the front with a byte more, where it is within a piece
pub with_more : (front : Front) (b : ℕ) → is_past_front front.state ≡ false
    → front_with front b ≡ record { state = front_state front.state b; bytes = if is_data (front_state front.state b) then [] else front.bytes ++ b ∷ [] }
with_more front b e =
    ap (λ c. if c then front else record { state = front_state front.state b; bytes = if is_data (front_state front.state b) then [] else front.bytes ++ b ∷ [] }) e

-- a piece that ends
abbrev pub is_text : PieceKind → Bool
is_text Text = true
is_text _ = false

either_markup : (c : Bool) (kind : PieceKind) → is_text kind ≡ false → is_text (if c then EndTag else kind) ≡ false
either_markup true kind e = refl
either_markup false kind e = e

markup_kind : (state : State) (front : List ℕ) → is_data state ≡ false → is_text (kind_of state front) ≡ false
unfolding kind_of
markup_kind Data front e = absurd (cc e)
markup_kind CharacterReference front e = refl
markup_kind ReferenceName front e = refl
markup_kind ReferenceEnd front e = refl
markup_kind TagEnd front e = either_markup (is_end_tag front) StartTag refl
markup_kind EmptyTagEnd front e = either_markup (is_end_tag front) EmptyTag refl
markup_kind state front e = refl

tag_other : (kind : PieceKind) (front later : List ℕ) → is_text kind ≡ false → tag_in kind front later ≡ tag_in Other front later
tag_other Text front later e = absurd (cc e)
tag_other kind front later e = refl

at_end : (state : State) (front : Front) (bytes later : List ℕ) → front_of at_front bytes ≡ front → is_data state ≡ false
    → tag_in (kind_of state bytes) bytes later ≡ (if is_data front.state then later else tag_of front)
at_end state front bytes later f e = tag_other (kind_of state bytes) bytes later (markup_kind state bytes e) ∙ ap (λ x. if is_data x.state then later else tag_of x) f

between_end : (state : State) (bytes later : List ℕ) → front_of at_front bytes ≡ at_front → is_between state ≡ true → tag_in (kind_of state bytes) bytes later ≡ later
unfolding kind_of
between_end Data bytes later f e = refl
between_end state bytes later f e = at_end state at_front bytes later f refl

past_not_data : (state : State) → is_past_front state ≡ true → is_data state ≡ false
past_not_data Data e = absurd (cc e)
past_not_data state e = refl

no_later : (c : Bool) (later tag : List ℕ) → c ≡ false → (if c then later else tag) ≡ tag
no_later true later tag e = absurd (cc e)
no_later false later tag e = refl

-- the tag of a front within a piece that ends
ends : (form : PageForm) (state : State) (front : Front) (bytes later : List ℕ) → front_of at_front bytes ≡ front → Meets form front state
    → tag_in (kind_of state bytes) bytes later ≡ (if is_data front.state then later else tag_of front)
ends form state front bytes later f (inl past) = at_end state front bytes later f past.1
ends form state front bytes later f (inr (inl between)) =
    between_end state bytes later (f ∙ between.0) between.1 ∙ sym (ap (λ x. if is_data x.state then later else tag_of x) between.0)
ends form state front bytes later f (inr (inr within)) =
    at_end state front bytes later f (ap is_data within.1 ∙ (within_not_data front.state form within.0).1)

-- a byte other than "<" leaves the front between its pieces
abbrev with_state : State → ℕ → Front
with_state state b = record { state = state; bytes = if is_data state then [] else b ∷ [] }

text_cases : (c d : Bool) (b : ℕ) → d ≡ false → with_state (if c then Data else if d then TagOpen else Data) b ≡ at_front
text_cases true d b e = refl
text_cases false true b e = absurd (cc e)
text_cases false false b e = refl

text_with : (b : ℕ) → b == 60 ≡ false → front_with at_front b ≡ at_front
unfolding front_after
text_with b e = text_cases (is_continuation b) (b == 60) b e

sign_cases : (c d : Bool) (b : ℕ) → c ≡ false → d ≡ true → with_state (if c then Data else if d then TagOpen else Data) b ≡ record { state = TagOpen; bytes = b ∷ [] }
sign_cases true d b e f = absurd (cc e)
sign_cases false true b e f = refl
sign_cases false false b e f = absurd (cc f)

sign_with : (b : ℕ) → is_continuation b ≡ false → b == 60 ≡ true → front_with at_front b ≡ record { state = TagOpen; bytes = b ∷ [] }
unfolding front_after
sign_with b c e = sign_cases (is_continuation b) (b == 60) b c e

-- the first piece from a state on that is not that of text: it begins with these bytes, and is no text
pub record FirstMarkup (front : List ℕ) (ps : List Piece) : Type 0 where
  pub more : List ℕ
  pub kind : PieceKind
  pub rest : List Piece
  pub is : ps ≡ record { kind = kind; bytes = front ++ more } ∷ rest
  pub kind_is : is_text kind ≡ false

markup_of : (state : State) (front : List ℕ) (rest : List Piece) → is_data state ≡ false → FirstMarkup front (piece state front ∷ rest)
markup_of state front rest e = record {
  more = [];
  kind = kind_of state front;
  rest = rest;
  is = ap (λ xs. record { kind = kind_of state front; bytes = xs } ∷ rest) (sym (append-nil front));
  kind_is = markup_kind state front e;
}

markup_cases : (form : PageForm) (depth : ℕ) (state : State) (front : List ℕ) (b : ℕ) (bs : List ℕ) (o : Option State) → Leads state o → is_data state ≡ false
    → ((after : State) → is_data after ≡ false → FirstMarkup (front ++ b ∷ []) (pieces_from form depth after (front ++ b ∷ []) bs))
    → FirstMarkup front (option_map_or (λ after. pieces_from form depth after (front ++ b ∷ []) bs) o (piece state front ∷ after_piece form depth state front b bs))
markup_cases form depth state front b bs (Some after) led e on =
    let not : NotData after = led.is in
    let w = on after not.is in
    record {
      more = b ∷ w.more;
      kind = w.kind;
      rest = w.rest;
      is = w.is ∙ ap (λ xs. record { kind = w.kind; bytes = xs } ∷ w.rest) (append_assoc front (b ∷ []) w.more);
      kind_is = w.kind_is;
    }
markup_cases form depth state front b bs None led e on = markup_of state front (after_piece form depth state front b bs) e

pub first_markup : (form : PageForm) (depth : ℕ) (state : State) (front bs : List ℕ) → is_data state ≡ false → FirstMarkup front (pieces_from form depth state front bs)
first_markup form depth state front [] e = markup_of state front [] e
first_markup form depth state front (b ∷ bs) e =
    markup_cases form depth state front b bs (state_after form (nat_lt 0 depth) state front b) (after_leads form (nat_lt 0 depth) state front b e) e
    (λ after n. first_markup form depth after (front ++ b ∷ []) bs n)

-- ---- one byte more

-- the tokenizer between two pieces of a front goes on over a byte other than "<"
no_sign : (b : ℕ) → is_continuation b ≡ true → b == 60 ≡ false
no_sign b e = grind (arith, nat_tests)

name_no_sign : (b : ℕ) → is_alphanumeric b ≡ true → b == 60 ≡ false
name_no_sign b e = grind (arith, nat_tests)

number_no_sign : (b : ℕ) → b == 35 ≡ true → b == 60 ≡ false
number_no_sign b e = grind (arith, nat_tests)

end_no_sign : (b : ℕ) → b == 59 ≡ true → b == 60 ≡ false
end_no_sign b e = grind (arith, nat_tests)

some_same : (x y : State) (o : Option State) → o ≡ Some x → o ≡ Some y → x ≡ y
some_same x y o e f = cc

abbrev GoesOn : State → ℕ → Type 0
GoesOn after b = (is_between after ≡ true) × (b == 60 ≡ false)

data_on : (e f : Bool) (b : ℕ) (after : State) → b == 60 ≡ e → (if e || f then None else Some Data) ≡ Some after → GoesOn after b
data_on true f b after e is = cc
data_on false true b after e is = cc
data_on false false b after e is = (subst (λ s. is_between s ≡ true) (some_same _ _ _ refl is) refl, e)

reference_on : (n h : Bool) (b : ℕ) (after : State) → is_alphanumeric b ≡ n → b == 35 ≡ h → (if n || h then Some ReferenceName else None) ≡ Some after → GoesOn after b
reference_on true h b after n e is = (subst (λ s. is_between s ≡ true) (some_same _ _ _ refl is) refl, name_no_sign b n)
reference_on false true b after n e is = (subst (λ s. is_between s ≡ true) (some_same _ _ _ refl is) refl, number_no_sign b e)
reference_on false false b after n e is = cc

name_on : (n h : Bool) (b : ℕ) (after : State) → is_alphanumeric b ≡ n → b == 59 ≡ h → (if n then Some ReferenceName else if h then Some ReferenceEnd else None) ≡ Some after → GoesOn after b
name_on true h b after n e is = (subst (λ s. is_between s ≡ true) (some_same _ _ _ refl is) refl, name_no_sign b n)
name_on false true b after n e is = (subst (λ s. is_between s ≡ true) (some_same _ _ _ refl is) refl, end_no_sign b e)
name_on false false b after n e is = cc

between_next : (form : PageForm) (state : State) (front : List ℕ) (b : ℕ) (after : State) → is_between state ≡ true → next form false state front b ≡ Some after → GoesOn after b
unfolding next
between_next form Data front b after w is = data_on (b == 60) (b == 38) b after refl is
between_next form CharacterReference front b after w is = reference_on (is_alphanumeric b) (b == 35) b after refl refl is
between_next form ReferenceName front b after w is = name_on (is_alphanumeric b) (b == 59) b after refl refl is
between_next form ReferenceEnd front b after w is = cc
between_next form MarkupEnd front b after w is = cc
between_next form state front b after w is = absurd (cc w)

between_cases : (form : PageForm) (state : State) (front : List ℕ) (b : ℕ) (after : State) (c : Bool) → is_continuation b ≡ c → is_between state ≡ true → (if c then Some state else next form false state front b) ≡ Some after
    → GoesOn after b
between_cases form state front b after true c w is = (subst (λ s. is_between s ≡ true) (some_same _ _ _ refl is) w, no_sign b c)
between_cases form state front b after false c w is = between_next form state front b after w is

not_data : (state after : State) (o : Option State) → o ≡ Some after → Leads state o → is_data after ≡ false
not_data state after o e led =
    let on : Leads state (Some after) = subst (Leads state) e led in
    let not : NotData after = on.is in
    not.is

-- within a piece
within_as : (form : PageForm) (state : State) (bytes : List ℕ) (after : State) (o : Option State) → o ≡ Some after → is_data after ≡ false → GoTo form state o
    → Meets form (record { state = state; bytes = if is_data state then [] else bytes }) after
within_as form Data bytes after o e n g = inr (inl (refl, ap is_between (some_same after MarkupEnd o e g)))
within_as form Plaintext bytes after o e n g = inl (refl, n)
within_as form TagEnd bytes after o e n g = inl (refl, n)
within_as form EmptyTagEnd bytes after o e n g = inl (refl, n)
within_as form state bytes after o e n g = inr (inr (g.0, some_same after (state_at state form) o e g.1))

within_cases : (form : PageForm) (front : Front) (state after : State) (bytes : List ℕ) (b : ℕ) (c : Bool) → is_within front.state ≡ true → state ≡ state_at front.state form → is_data after ≡ false
    → (if c then Some state else next form false state bytes b) ≡ Some after
    → Meets form (record { state = if c then front.state else front_after front.state b; bytes = if is_data (if c then front.state else front_after front.state b) then [] else front.bytes ++ b ∷ [] }) after
within_cases form front state after bytes b true w same n is = inr (inr (w, some_same after state (Some state) is refl ∙ same))
within_cases form front state after bytes b false w same n is =
    let goes : Go form (front_after front.state b) (next form false (state_at front.state form) bytes b) = go form front.state bytes b w in
    within_as form (front_after front.state b) (front.bytes ++ b ∷ []) after (next form false (state_at front.state form) bytes b) (ap (λ s. next form false s bytes b) (sym same) ∙ is) n goes.to

meets_on : (form : PageForm) (front : Front) (state after : State) (bytes : List ℕ) (b : ℕ) → Meets form front state → state_after form false state bytes b ≡ Some after → Meets form (front_with front b) after
meets_on form front state after bytes b (inl past) is =
    subst (λ f. Meets form f after) (sym (past_with front b past.0)) (inl (past.0, not_data state after _ is (after_leads form false state bytes b past.1)))
meets_on form front state after bytes b (inr (inl between)) is =
    let goes : GoesOn after b = between_cases form state bytes b after (is_continuation b) refl between.1 is in
    inr (inl (ap (λ f. front_with f b) between.0 ∙ text_with b goes.1, goes.0))
meets_on form front state after bytes b (inr (inr within)) is =
    let here = within_not_data front.state form within.0 in
    subst (λ f. Meets form f after) (sym (with_more front b here.2))
    (within_cases form front state after bytes b (is_continuation b) within.0 within.1
    (not_data state after _ is (after_leads form false state bytes b (ap is_data within.1 ∙ here.1))) is)

-- the first byte of a piece after text or markup
meets_cases : (form : PageForm) (b : ℕ) (c d e : Bool) → is_continuation b ≡ c → b == 60 ≡ d → b == 38 ≡ e → Meets form (front_with at_front b) (if d then TagOpen else if e then CharacterReference else Data)
meets_cases form b true true e ec ed ee = absurd (true≢false (sym ed ∙ no_sign b ec))
meets_cases form b false true e ec ed ee = subst (λ f. Meets form f TagOpen) (sym (sign_with b ec ed)) (inr (inr (refl, refl)))
meets_cases form b c false true ec ed ee = inr (inl (text_with b ed, refl))
meets_cases form b c false false ec ed ee = inr (inl (text_with b ed, refl))

meets_first : (form : PageForm) (b : ℕ) → Meets form (front_with at_front b) (begin Data b)
unfolding begin
meets_first form b = meets_cases form b (is_continuation b) (b == 60) (b == 38) refl refl refl

-- ---- all bytes

between_after : (form : PageForm) (state : State) (bytes : List ℕ) (b : ℕ) (bs : List ℕ) → is_between state ≡ true → after_piece form 0 state bytes b bs ≡ pieces_from form 0 (begin Data b) (b ∷ []) bs
unfolding content_after depth_after
between_after form Data bytes b bs e = refl
between_after form CharacterReference bytes b bs e = refl
between_after form ReferenceName bytes b bs e = refl
between_after form ReferenceEnd bytes b bs e = refl
between_after form MarkupEnd bytes b bs e = refl
between_after form state bytes b bs e = absurd (cc e)

data_no_tag : (state : State) (tag : List ℕ) → (if is_data state then [] else if is_tag_end state then tag else []) ≡ (if is_tag_end state then tag else [])
data_no_tag Data tag = refl
data_no_tag state tag = refl

none_past : (form : PageForm) (state : State) (o : Option State) → GoTo form state o → o ≡ None → state ≡ Plaintext
none_past form Plaintext o g e = refl
none_past form Data o g e = cc
none_past form TagEnd o g e = cc
none_past form EmptyTagEnd o g e = cc
none_past form state o g e = cc g.1

none_next : (c : Bool) (state : State) (o : Option State) → (if c then Some state else o) ≡ None → o ≡ None
none_next true state o e = cc
none_next false state o e = e

odd_end : (form : PageForm) (front : Front) (state : State) (bytes : List ℕ) (b : ℕ) → is_within front.state ≡ true → state ≡ state_at front.state form → state_after form false state bytes b ≡ None
    → (front_with front b).state ≡ Plaintext
odd_end form front state bytes b w same e =
    let here = within_not_data front.state form w in
    let first = none_means (is_continuation b) state (next form false state bytes b) e in
    let goes : Go form (front_after front.state b) (next form false (state_at front.state form) bytes b) = go form front.state bytes b w in
    ap (λ f. f.state) (with_more front b here.2) ∙ ap (λ c. if c then front.state else front_after front.state b) first
    ∙ none_past form (front_after front.state b) (next form false (state_at front.state form) bytes b) goes.to
    (ap (λ s. next form false s bytes b) (sym same) ∙ none_next (is_continuation b) state (next form false state bytes b) e)

no_tag : (front : Front) (bs : List ℕ) → front.state ≡ Plaintext → tag_of (front_of front bs) ≡ []
no_tag front bs e = ap tag_of (past_stays front bs (ap is_past_front e)) ∙ ap (λ s. if is_tag_end s then front.bytes else []) e

anew_cases : (form : PageForm) (front : Front) (state : State) (bytes : List ℕ) (b : ℕ) (bs : List ℕ) → front_of at_front bytes ≡ front → Meets form front state → state_after form false state bytes b ≡ None
    → tag_of (front_of (front_with at_front b) bs) ≡ root_in (pieces_from form 0 (begin Data b) (b ∷ []) bs)
    → tag_of (front_of (front_with front b) bs) ≡ (if is_data front.state then root_in (after_piece form 0 state bytes b bs) else tag_of front)
anew_cases form front state bytes b bs f (inl past) e anew =
    ap (λ x. tag_of (front_of x bs)) (past_with front b past.0) ∙ ap tag_of (past_stays front bs past.0)
    ∙ sym (no_later (is_data front.state) (root_in (after_piece form 0 state bytes b bs)) (tag_of front) (past_not_data front.state past.0))
anew_cases form front state bytes b bs f (inr (inl between)) e anew =
    ap (λ x. tag_of (front_of (front_with x b) bs)) between.0 ∙ anew ∙ sym (ap root_in (between_after form state bytes b bs between.1))
    ∙ sym (ap (λ x. if is_data x.state then root_in (after_piece form 0 state bytes b bs) else tag_of x) between.0)
anew_cases form front state bytes b bs f (inr (inr within)) e anew =
    let here = within_not_data front.state form within.0 in
    no_tag (front_with front b) bs (odd_end form front state bytes b within.0 within.1 e)
    ∙ sym (ap (λ c. if c then front.bytes else []) here.3)
    ∙ sym (no_later (is_data front.state) (root_in (after_piece form 0 state bytes b bs)) (tag_of front) here.0)

step : (form : PageForm) (front : Front) (state : State) (bytes : List ℕ) (b : ℕ) (bs : List ℕ) (o : Option State) → state_after form false state bytes b ≡ o → front_of at_front bytes ≡ front → Meets form front state
    → ((after : State) → Meets form (front_with front b) after → tag_of (front_of (front_with front b) bs) ≡ root_in (pieces_from form 0 after (bytes ++ b ∷ []) bs))
    → tag_of (front_of (front_with at_front b) bs) ≡ root_in (pieces_from form 0 (begin Data b) (b ∷ []) bs)
    → tag_of (front_of (front_with front b) bs) ≡ root_in (option_map_or (λ after. pieces_from form 0 after (bytes ++ b ∷ []) bs) o (piece state bytes ∷ after_piece form 0 state bytes b bs))
step form front state bytes b bs (Some after) e f m on anew = on after (meets_on form front state after bytes b m e)
step form front state bytes b bs None e f m on anew =
    anew_cases form front state bytes b bs f m e anew ∙ sym (ends form state front bytes (root_in (after_piece form 0 state bytes b bs)) f m)

walk : (form : PageForm) (front : Front) (state : State) (bytes bs : List ℕ) → front_of at_front bytes ≡ front → Meets form front state → tag_of (front_of front bs) ≡ root_in (pieces_from form 0 state bytes bs)
walk form front state bytes [] f m = sym (ends form state front bytes [] f m ∙ data_no_tag front.state front.bytes)
walk form front state bytes (b ∷ bs) f m =
    step form front state bytes b bs (state_after form false state bytes b) refl f m
    (λ after m'. walk form (front_with front b) after (bytes ++ b ∷ []) bs (front_more at_front bytes b ∙ ap (λ x. front_with x b) f) m')
    (walk form (front_with at_front b) (begin Data b) (b ∷ []) bs refl (meets_first form b))

-- The first tag to which the front of a page leads is that of its pieces.
pub root_of : (form : PageForm) (page : List ℕ) → root_tag page ≡ root_in (pieces_of form page)
root_of form [] = refl
root_of form (b ∷ bs) = walk form (front_with at_front b) (begin Data b) (b ∷ []) bs refl (meets_first form b)
