-- Bytes that are not special leave a text as it is.
use Rattle.std.proofs.Common.{◌≡◌, ℕ, ◌==◌, ◌&&◌, not, nat_lt, Bool, true, false, List, [], ◌∷◌, ◌++◌, refl, ap, sym, ◌∙◌, arith, append_assoc, append-nil, if◌then◌else◌}
use Rattle.std.proofs.lemmas.Bool.Decides.{nat_tests}
use Rattle.html_pieces.specs.Bytes.{is_continuation}
use Rattle.markdown_pieces.specs.Bytes.{is_special}
use Rattle.markdown_pieces.specs.Laws.{IsPlain}
use Rattle.markdown_pieces.specs.States.{in_state, begun, is_left, is_new, reads, after_text, after_other, next}
use Rattle.markdown_pieces.specs.Pieces.{pieces_from, kind_of, kind_after, state_after, is_same_kind}
use Rattle.markdown_pieces.specs.declared.cutting.PieceKind.{PieceKind}
use Rattle.markdown_pieces.specs.declared.cutting.PieceKind.TheVariants.{Text, Bracketed, Other}
use Rattle.markdown_pieces.specs.declared.state.Block.{Block}
use Rattle.markdown_pieces.specs.declared.state.Block.TheVariants.{New, Paragraph, Heading, Rest, Html}
use Rattle.markdown_pieces.specs.declared.state.Mode.{Mode}
use Rattle.markdown_pieces.specs.declared.state.Mode.TheVariants.{Head, Front, FrontLine, Start, Prefix, Line, End, FenceRun, FenceInfo, FenceIndent, FenceEndRun, FenceEnd, FenceText, BlockAngle, BlockP, BlockS, BlockSt, BlockT, Comment, Pre, Plain, Escape, Ticks, Code, CodeEnd, Angle, Tag, TagQuote, Bang, Closed, Target, TargetEscape, TargetQuote, Label, LabelEscape, Reference}
use Rattle.markdown_pieces.specs.declared.state.State.{State}
use Rattle.markdown_pieces.proofs.PieceSteps.{pieces_on, same_as_itself}

-- ---- the byte c2 begins a text wherever another one does

second_true : (x y : Bool) → x && y ≡ true → x && true ≡ true
second_true true y e = refl
second_true false y e = e

third_true : (x y z : Bool) → x && (y && z) ≡ true → x && (y && true) ≡ true
third_true true true z e = refl
third_true true false z e = e
third_true false y z e = e

middle_true : (a b n l i : Bool) → a && b && n && l && i ≡ true → a && b && true && l && i ≡ true
middle_true true true true l i e = e
middle_true true true false l i e = absurd (cc e)
middle_true true false n l i e = absurd (cc e)
middle_true false b n l i e = absurd (cc e)

pub reads_mark : (mode : Mode) (block : Block) (b : ℕ) → reads mode block b ≡ true → reads mode block 0xC2 ≡ true
unfolding reads
reads_mark Plain block b e = refl
reads_mark Escape block b e = refl
reads_mark (CodeEnd length run) block b e = second_true (length == run) (not (b == 96)) e
reads_mark Angle block b e = refl
reads_mark Bang block b e = refl
reads_mark Closed block b e = refl
reads_mark Reference block b e = refl
reads_mark (Head dashes) block b e = second_true (not (is_left block)) _ e
reads_mark (Prefix columns) block b e = second_true (not (is_left block)) _ e
reads_mark (Start columns) block b e = third_true _ (not (is_left block)) _ e
reads_mark (FenceRun fence) block b e = middle_true (fence.byte == 126) (nat_lt fence.length 3) (not (b == 126)) (not (is_left block)) (not (nat_lt 3 fence.indent && is_new block)) e
reads_mark (Front n) block b e = absurd (cc e)
reads_mark FrontLine block b e = absurd (cc e)
reads_mark Line block b e = absurd (cc e)
reads_mark End block b e = absurd (cc e)
reads_mark (FenceInfo fence) block b e = absurd (cc e)
reads_mark (FenceIndent fence n) block b e = absurd (cc e)
reads_mark (FenceEndRun fence n c) block b e = absurd (cc e)
reads_mark (FenceEnd fence c) block b e = absurd (cc e)
reads_mark (FenceText fence) block b e = absurd (cc e)
reads_mark BlockAngle block b e = absurd (cc e)
reads_mark BlockP block b e = absurd (cc e)
reads_mark BlockS block b e = absurd (cc e)
reads_mark BlockSt block b e = absurd (cc e)
reads_mark BlockT block b e = absurd (cc e)
reads_mark (Comment n) block b e = absurd (cc e)
reads_mark (Pre n) block b e = absurd (cc e)
reads_mark (Ticks n) block b e = absurd (cc e)
reads_mark (Code n) block b e = absurd (cc e)
reads_mark Tag block b e = absurd (cc e)
reads_mark (TagQuote n) block b e = absurd (cc e)
reads_mark (Target n) block b e = absurd (cc e)
reads_mark (TargetEscape n) block b e = absurd (cc e)
reads_mark (TargetQuote n m) block b e = absurd (cc e)
reads_mark Label block b e = absurd (cc e)
reads_mark LabelEscape block b e = absurd (cc e)

-- ---- a byte of a text

-- A byte is read as text, and is not special.
pub record IsTextAt (state : State) (b : ℕ) : Type 0 where
  pub read : reads state.mode state.block b ≡ true
  pub plain : is_special b ≡ false

-- The kind of a text.
abbrev pub text_kind : Bool → PieceKind
text_kind in_brackets = if in_brackets then Bracketed else Text

-- The state in a text.
abbrev pub in_text : Block → Bool → State
in_text block in_brackets = in_state Plain (begun block) in_brackets

pub text_is : (state : State) (b : ℕ) → IsTextAt state b → kind_of state b ≡ text_kind state.in_brackets
unfolding kind_of
text_is state b t = ap (λ c. if c && not (is_special b) then text_kind state.in_brackets else Other) t.read ∙ ap (λ c. if not c then text_kind state.in_brackets else Other) t.plain

skip : {A : Type 0} (c : Bool) (x y : A) → c ≡ false → (if c then x else y) ≡ y
skip true x y e = absurd (cc e)
skip false x y e = refl

differs : (b x : ℕ) (c : Bool) → (b == x) ≡ c → is_special b ≡ false → is_special x ≡ true → c ≡ false
differs b x true e s t =
    let same : b ≡ x = grind (arith, nat_tests) in
    absurd (cc (sym s ∙ ap is_special same ∙ t))
differs b x false e s t = refl

after_plain : (block : Block) (in_brackets : Bool) (b : ℕ) → is_special b ≡ false → after_text block in_brackets b ≡ in_state Plain block in_brackets
unfolding after_text
after_plain block in_brackets b s =
    skip (b == 10) _ _ (differs b 10 (b == 10) refl s refl) ∙ skip (b == 33) _ _ (differs b 33 (b == 33) refl s refl)
    ∙ skip (b == 38) _ _ (differs b 38 (b == 38) refl s refl) ∙ skip (b == 60) _ _ (differs b 60 (b == 60) refl s refl)
    ∙ skip (b == 91) _ _ (differs b 91 (b == 91) refl s refl) ∙ skip (b == 92) _ _ (differs b 92 (b == 92) refl s refl)
    ∙ skip (b == 93) _ _ (differs b 93 (b == 93) refl s refl) ∙ skip (b == 96) _ _ (differs b 96 (b == 96) refl s refl)

pub text_next : (state : State) (b : ℕ) → IsTextAt state b → next state b ≡ in_text state.block state.in_brackets
text_next state b t =
    ap (λ c. if c then after_text (begun state.block) state.in_brackets b else after_other state.mode state b) t.read
    ∙ after_plain (begun state.block) state.in_brackets b t.plain

-- The kind is that of a text.
abbrev pub is_text : PieceKind → Bool
is_text Other = false
is_text _ = true

text_cases : (r s c : Bool) → is_text (if r && not s then text_kind c else Other) ≡ true → (r ≡ true) × (s ≡ false)
text_cases true true c e = absurd (cc e)
text_cases true false c e = (refl, refl)
text_cases false s c e = absurd (cc e)

pub text_at : (state : State) (b : ℕ) → is_text (kind_of state b) ≡ true → IsTextAt state b
unfolding kind_of
text_at state b e =
    let both = text_cases (reads state.mode state.block b) (is_special b) state.in_brackets e in
    record { read = both.0; plain = both.1 }

-- ---- within a text

begun_twice : (block : Block) → begun (begun block) ≡ begun block
begun_twice New = refl
begun_twice Paragraph = refl
begun_twice Heading = refl
begun_twice Rest = refl
begun_twice Html = refl

either : {A : Type 0} (c : Bool) (x y z : A) → x ≡ z → y ≡ z → (if c then x else y) ≡ z
either true x y z e f = e
either false x y z e f = f

read_within : (block : Block) (in_brackets : Bool) (b : ℕ) → reads Plain block b ≡ true
unfolding reads
read_within block in_brackets b = refl

pub kind_within : (block : Block) (in_brackets : Bool) (b : ℕ) → is_special b ≡ false → kind_after (in_text block in_brackets) (text_kind in_brackets) b ≡ text_kind in_brackets
kind_within block in_brackets b s =
    either (is_continuation b) _ _ (text_kind in_brackets) refl (text_is (in_text block in_brackets) b (record { read = read_within (begun block) in_brackets b; plain = s }))

pub state_within : (block : Block) (in_brackets : Bool) (b : ℕ) → is_special b ≡ false → state_after (in_text block in_brackets) b ≡ in_text block in_brackets
state_within block in_brackets b s =
    either (is_continuation b) _ _ (in_text block in_brackets) refl
    (text_next (in_text block in_brackets) b (record { read = read_within (begun block) in_brackets b; plain = s }) ∙ ap (λ x. in_state Plain x in_brackets) (begun_twice block))

-- Plain bytes go on with a text.
pub walk : (block : Block) (in_brackets : Bool) (front z rest : List ℕ) → IsPlain z
    → pieces_from (in_text block in_brackets) (text_kind in_brackets) front (z ++ rest) ≡ pieces_from (in_text block in_brackets) (text_kind in_brackets) (front ++ z) rest
walk block in_brackets front [] rest p = ap (λ f. pieces_from (in_text block in_brackets) (text_kind in_brackets) f rest) (sym (append-nil front))
walk block in_brackets front (c ∷ z) rest p =
    let kind = text_kind in_brackets in
    let state = in_text block in_brackets in
    pieces_on state kind front c (z ++ rest) (ap (is_same_kind kind) (kind_within block in_brackets c p.0) ∙ same_as_itself kind)
    ∙ ap (λ s. pieces_from s kind (front ++ c ∷ []) (z ++ rest)) (state_within block in_brackets c p.0)
    ∙ walk block in_brackets (front ++ c ∷ []) z rest p.1
    ∙ ap (λ f. pieces_from state kind f rest) (append_assoc front (c ∷ []) z)
