-- Other texts in the places of those of a text are cut alike.
use Rattle.std.proofs.Common.{◌≡◌, ℕ, ◌==◌, ◌||◌, ◌&&◌, not, Bool, true, false, List, [], ◌∷◌, ◌++◌, refl, ap, sym, ◌∙◌, arith, append_assoc, append-nil, subst, if◌then◌else◌}
use Rattle.std.proofs.lemmas.Bool.Decides.{nat_tests}
use Rattle.html_pieces.specs.Bytes.{is_continuation}
use Rattle.markdown_pieces.specs.Bytes.{is_special}
use Rattle.markdown_pieces.specs.Laws.{joined_pieces, IsPlain, begins_alike, IsOtherText, HaveOtherTexts}
use Rattle.markdown_pieces.specs.States.{first_state, next}
use Rattle.markdown_pieces.specs.Pieces.{Piece, piece, pieces_from, pieces_of, kind_of, kind_after, state_after, is_same_kind}
use Rattle.markdown_pieces.specs.declared.cutting.PieceKind.{PieceKind}
use Rattle.markdown_pieces.specs.declared.cutting.PieceKind.TheVariants.{Text, Bracketed, Other}
use Rattle.markdown_pieces.specs.declared.state.Block.{Block}
use Rattle.markdown_pieces.specs.declared.state.State.{State}
use Rattle.markdown_pieces.proofs.PieceSteps.{pieces_on, pieces_anew, same_as_itself}
use Rattle.markdown_pieces.proofs.PlainBytes.{IsTextAt, reads_mark, text_kind, in_text, text_is, text_next, is_text, text_at, kind_within, state_within, walk}

-- ---- kinds

same_means : (kind after : PieceKind) → is_same_kind kind after ≡ true → after ≡ kind
same_means Text Text e = refl
same_means Text Bracketed e = absurd (cc e)
same_means Text Other e = absurd (cc e)
same_means Bracketed Bracketed e = refl
same_means Bracketed Text e = absurd (cc e)
same_means Bracketed Other e = absurd (cc e)
same_means Other Other e = refl
same_means Other Text e = absurd (cc e)
same_means Other Bracketed e = absurd (cc e)

not_other : (kind : PieceKind) → is_same_kind Other kind ≡ false → is_text kind ≡ true
not_other Text e = refl
not_other Bracketed e = refl
not_other Other e = absurd (cc e)

text_kind_is : (c : Bool) → is_text (text_kind c) ≡ true
text_kind_is true = refl
text_kind_is false = refl

other_than : (c : Bool) → is_same_kind Other (text_kind c) ≡ false
other_than true = refl
other_than false = refl

-- A text in the place of one of this kind.
other_text : (c : Bool) (text other : List ℕ) → IsOtherText (text_kind c) text other → (IsPlain text → IsPlain other) × (begins_alike text other ≡ true)
other_text true text other i = i
other_text false text other i = i

piece_eta : (p : Piece) (kind : PieceKind) (bytes : List ℕ) → p.kind ≡ kind → p.bytes ≡ bytes → piece kind bytes ≡ p
piece_eta p kind bytes k b = ap (λ x. piece x bytes) (sym k) ∙ ap (piece p.kind) (sym b)

-- ---- what is cut from a state on

-- The bytes of a piece go on from the front of another one, and they are cut alike from there on.
pub record OtherCut (state : State) (front : List ℕ) (p : Piece) (ps : List Piece) : Type 0 where
  pub more : List ℕ
  pub bytes : p.bytes ≡ front ++ more
  pub cut : pieces_from state Other front (more ++ joined_pieces ps) ≡ p ∷ ps

-- A text is plain, begins as the other one does, and is cut alike from each place on.
pub record TextCut (block : Block) (in_brackets : Bool) (b : ℕ) (p : Piece) (ps : List Piece) : Type 0 where
  pub plain : IsPlain p.bytes
  pub begins : begins_alike (b ∷ []) p.bytes ≡ true
  pub cut : (y z : List ℕ) → IsPlain z → p.bytes ≡ y ++ z → pieces_from (in_text block in_brackets) (text_kind in_brackets) y (z ++ joined_pieces ps) ≡ p ∷ ps

-- Both, of all pieces that have other texts.
pub record Cuts (bytes : List ℕ) : Type 0 where
  pub others : (state : State) (front : List ℕ) (p : Piece) (ps : List Piece) → HaveOtherTexts (pieces_from state Other front bytes) (p ∷ ps) → OtherCut state front p ps
  pub texts : (block : Block) (in_brackets : Bool) (b : ℕ) (front : List ℕ) (p : Piece) (ps : List Piece) → IsPlain (b ∷ front)
      → HaveOtherTexts (pieces_from (in_text block in_brackets) (text_kind in_brackets) (b ∷ front) bytes) (p ∷ ps) → TextCut block in_brackets b p ps

-- ---- the last piece

last_other : (state : State) (front : List ℕ) (p : Piece) (ps : List Piece) → HaveOtherTexts (piece Other front ∷ []) (p ∷ ps) → OtherCut state front p ps
last_other state front p [] h = record {
  more = [];
  bytes = h.0.bytes ∙ sym (append-nil front);
  cut = ap (λ x. x ∷ []) (piece_eta p Other front h.0.kind h.0.bytes);
}
last_other state front p (q ∷ ps) h = absurd h.1

begins_by_first : (b : ℕ) (front other : List ℕ) → begins_alike (b ∷ front) other ≡ true → begins_alike (b ∷ []) other ≡ true
begins_by_first b front [] e = e
begins_by_first b front (o ∷ os) e = e

last_text : (block : Block) (in_brackets : Bool) (b : ℕ) (front : List ℕ) (p : Piece) (ps : List Piece) → IsPlain (b ∷ front)
    → HaveOtherTexts (piece (text_kind in_brackets) (b ∷ front) ∷ []) (p ∷ ps) → TextCut block in_brackets b p ps
last_text block in_brackets b front p [] w h =
    let other = other_text in_brackets (b ∷ front) p.bytes h.0.bytes in
    record {
      plain = other.0 w;
      begins = begins_by_first b front p.bytes other.1;
      cut = λ y z v e. walk block in_brackets y z [] v ∙ ap (λ x. x ∷ []) (piece_eta p (text_kind in_brackets) (y ++ z) h.0.kind e);
    }
last_text block in_brackets b front p (q ∷ ps) w h = absurd h.1

-- ---- one byte more

-- A byte that is the first of its character begins a text in a state; so does the byte c2, or itself.
pub record Begins (state : State) (c : ℕ) : Type 0 where
  pub first : is_continuation c ≡ false
  pub text : IsTextAt state c

alike_cases : (P : ℕ → Type 0) (b c : ℕ) (is : Bool) → (c == b) ≡ is → P b → P 0xC2 → is || c == 0xC2 ≡ true → P c
alike_cases P b c true same w m e =
    let eq : c ≡ b = grind (arith, nat_tests) in
    subst P (sym eq) w
alike_cases P b c false same w m e =
    let eq : c ≡ 0xC2 = grind (arith, nat_tests) in
    subst P (sym eq) m

pub text_as : (state : State) (b c : ℕ) → IsTextAt state b → (c == b || c == 0xC2) ≡ true → IsTextAt state c
text_as state b c w e = alike_cases (IsTextAt state) b c (c == b) refl w (record { read = reads_mark state.mode state.block b w.read; plain = refl }) e

begins_text_as : (state : State) (b c : ℕ) → Begins state b → (c == b || c == 0xC2) ≡ true → Begins state c
begins_text_as state b c w e = record {
  first = alike_cases (λ x. is_continuation x ≡ false) b c (c == b) refl w.first refl e;
  text = text_as state b c w.text e;
}

kind_first : (c : Bool) (kind after : PieceKind) → c ≡ false → (if c then kind else after) ≡ after
kind_first true kind after e = absurd (cc e)
kind_first false kind after e = refl

state_first : (c : Bool) (state other : State) → c ≡ false → (if c then state else other) ≡ other
state_first true state other e = absurd (cc e)
state_first false state other e = refl

first_after : (state : State) (kind : PieceKind) (b : ℕ) (c : Bool) → is_continuation b ≡ c → is_same_kind kind (if c then kind else kind_of state b) ≡ false → c ≡ false
first_after state kind b true e d = absurd (cc (d, same_as_itself kind))
first_after state kind b false e d = refl

-- Where a text begins after something else.
begins_after : (state : State) (b : ℕ) → is_same_kind Other (kind_after state Other b) ≡ false → Begins state b
begins_after state b d =
    let first = first_after state Other b (is_continuation b) refl d in
    let kind = kind_first (is_continuation b) Other (kind_of state b) first in
    record { first = first; text = text_at state b (not_other (kind_of state b) (sym (ap (is_same_kind Other) kind) ∙ d)) }

-- After a byte that begins a text, the kind and the state are those of a text.
kind_begins : (state : State) (kind : PieceKind) (c : ℕ) → Begins state c → kind_after state kind c ≡ text_kind state.in_brackets
kind_begins state kind c w = kind_first (is_continuation c) kind (kind_of state c) w.first ∙ text_is state c w.text

state_begins : (state : State) (c : ℕ) → Begins state c → state_after state c ≡ in_text state.block state.in_brackets
state_begins state c w = state_first (is_continuation c) state (next state c) w.first ∙ text_next state c w.text

-- A text that is cut alike, from something else on.
from_other : (state : State) (front : List ℕ) (b : ℕ) (q : Piece) (qs : List Piece) (bytes : List ℕ) → q.bytes ≡ bytes → Begins state b → TextCut state.block state.in_brackets b q qs
    → pieces_from state Other front (bytes ++ joined_pieces qs) ≡ piece Other front ∷ (q ∷ qs)
from_other state front b q qs [] e w t = absurd (cc (sym (ap (begins_alike (b ∷ [])) e) ∙ t.begins))
from_other state front b q qs (c ∷ z) e w t =
    let here = begins_text_as state b c w (sym (ap (begins_alike (b ∷ [])) e) ∙ t.begins) in
    let kind = kind_begins state Other c here in
    let plain = subst IsPlain e t.plain in
    pieces_anew state Other front c (z ++ joined_pieces qs) (ap (is_same_kind Other) kind ∙ other_than state.in_brackets)
    ∙ ap (λ k. piece Other front ∷ pieces_from (state_after state c) k (c ∷ []) (z ++ joined_pieces qs)) kind
    ∙ ap (λ s. piece Other front ∷ pieces_from s (text_kind state.in_brackets) (c ∷ []) (z ++ joined_pieces qs)) (state_begins state c here)
    ∙ ap (λ ps. piece Other front ∷ ps) (t.cut (c ∷ []) z plain.1 e)

-- The text that the byte begins, as it is cut.
text_from : (state : State) (b : ℕ) (bs : List ℕ) (q : Piece) (qs : List Piece) → Cuts bs → Begins state b
    → HaveOtherTexts (pieces_from (state_after state b) (kind_after state Other b) (b ∷ []) bs) (q ∷ qs) → TextCut state.block state.in_brackets b q qs
text_from state b bs q qs more w h =
    more.texts state.block state.in_brackets b [] q qs (w.text.plain, tt)
    (subst (λ s. HaveOtherTexts (pieces_from s (text_kind state.in_brackets) (b ∷ []) bs) (q ∷ qs)) (state_begins state b w)
    (subst (λ k. HaveOtherTexts (pieces_from (state_after state b) k (b ∷ []) bs) (q ∷ qs)) (kind_begins state Other b w) h))

none_either : (c : Bool) (xs : List Piece) (p : Piece) (ys : List Piece) → (HaveOtherTexts xs [] → ⊥) → HaveOtherTexts (if c then xs else p ∷ ys) [] → ⊥
none_either true xs p ys f h = f h
none_either false xs p ys f h = h

pub some_pieces : (state : State) (kind : PieceKind) (front bs : List ℕ) → HaveOtherTexts (pieces_from state kind front bs) [] → ⊥
some_pieces state kind front [] h = h
some_pieces state kind front (b ∷ bs) h =
    none_either (is_same_kind kind (kind_after state kind b)) (pieces_from (state_after state b) kind (front ++ b ∷ []) bs) (piece kind front)
    (pieces_from (state_after state b) (kind_after state kind b) (b ∷ []) bs) (some_pieces (state_after state b) kind (front ++ b ∷ []) bs) h

other_ends : (state : State) (front : List ℕ) (b : ℕ) (bs : List ℕ) (p : Piece) (ps : List Piece) → is_same_kind Other (kind_after state Other b) ≡ false → Cuts bs
    → HaveOtherTexts (piece Other front ∷ pieces_from (state_after state b) (kind_after state Other b) (b ∷ []) bs) (p ∷ ps) → OtherCut state front p ps
other_ends state front b bs p [] d more h = absurd (some_pieces (state_after state b) (kind_after state Other b) (b ∷ []) bs h.1)
other_ends state front b bs p (q ∷ qs) d more h =
    let w = begins_after state b d in
    record {
      more = [];
      bytes = h.0.bytes ∙ sym (append-nil front);
      cut = from_other state front b q qs q.bytes refl w (text_from state b bs q qs more w h.1)
          ∙ ap (λ x. x ∷ (q ∷ qs)) (piece_eta p Other front h.0.kind h.0.bytes);
    }

other_cases : (state : State) (front : List ℕ) (b : ℕ) (bs : List ℕ) (p : Piece) (ps : List Piece) (c : Bool) → is_same_kind Other (kind_after state Other b) ≡ c → Cuts bs
    → HaveOtherTexts (if c then pieces_from (state_after state b) Other (front ++ b ∷ []) bs else piece Other front ∷ pieces_from (state_after state b) (kind_after state Other b) (b ∷ []) bs) (p ∷ ps)
    → OtherCut state front p ps
other_cases state front b bs p ps true e more h =
    let later = more.others (state_after state b) (front ++ b ∷ []) p ps h in
    record {
      more = b ∷ later.more;
      bytes = later.bytes ∙ append_assoc front (b ∷ []) later.more;
      cut = pieces_on state Other front b (later.more ++ joined_pieces ps) e ∙ later.cut;
    }
other_cases state front b bs p ps false e more h = other_ends state front b bs p ps e more h

continues_plain : (b : ℕ) → is_continuation b ≡ true → is_special b ≡ false
continues_plain b e = grind (arith, nat_tests)

-- A byte that goes with a text is plain.
plain_cases : (block : Block) (in_brackets : Bool) (b : ℕ) (c : Bool) → is_continuation b ≡ c
    → is_same_kind (text_kind in_brackets) (if c then text_kind in_brackets else kind_of (in_text block in_brackets) b) ≡ true → is_special b ≡ false
plain_cases block in_brackets b true e s = continues_plain b e
plain_cases block in_brackets b false e s =
    (text_at (in_text block in_brackets) b (ap is_text (same_means (text_kind in_brackets) (kind_of (in_text block in_brackets) b) s) ∙ text_kind_is in_brackets)).plain

special_cases : (block : Block) (in_brackets : Bool) (b : ℕ) (s : Bool) → is_special b ≡ s → is_same_kind (text_kind in_brackets) (kind_after (in_text block in_brackets) (text_kind in_brackets) b) ≡ false → s ≡ true
special_cases block in_brackets b true e d = refl
special_cases block in_brackets b false e d =
    absurd (cc (sym (ap (is_same_kind (text_kind in_brackets)) (kind_within block in_brackets b e) ∙ same_as_itself (text_kind in_brackets)) ∙ d))

other_if : (r s c : Bool) → s ≡ true → (if r && not s then text_kind c else Other) ≡ Other
other_if true true c e = refl
other_if false true c e = refl
other_if r false c e = absurd (cc e)

other_by : (state : State) (b : ℕ) → is_special b ≡ true → kind_of state b ≡ Other
unfolding kind_of
other_by state b e = other_if _ (is_special b) state.in_brackets e

ends_text : (block : Block) (in_brackets : Bool) (x : ℕ) → is_same_kind (text_kind in_brackets) (kind_after (in_text block in_brackets) (text_kind in_brackets) x) ≡ false
    → kind_after (in_text block in_brackets) (text_kind in_brackets) x ≡ Other
ends_text block in_brackets x d =
    let state = in_text block in_brackets in
    let kind = text_kind in_brackets in
    kind_first (is_continuation x) kind (kind_of state x) (first_after state kind x (is_continuation x) refl d)
    ∙ other_by state x (special_cases block in_brackets x (is_special x) refl d)

text_ends : (block : Block) (in_brackets : Bool) (b : ℕ) (front : List ℕ) (x : ℕ) (bs : List ℕ) (p : Piece) (ps : List Piece)
    → is_same_kind (text_kind in_brackets) (kind_after (in_text block in_brackets) (text_kind in_brackets) x) ≡ false → Cuts bs → IsPlain (b ∷ front)
    → HaveOtherTexts (piece (text_kind in_brackets) (b ∷ front) ∷ pieces_from (state_after (in_text block in_brackets) x) (kind_after (in_text block in_brackets) (text_kind in_brackets) x) (x ∷ []) bs) (p ∷ ps)
    → TextCut block in_brackets b p ps
text_ends block in_brackets b front x bs p [] d more w h =
    absurd (some_pieces (state_after (in_text block in_brackets) x) (kind_after (in_text block in_brackets) (text_kind in_brackets) x) (x ∷ []) bs h.1)
text_ends block in_brackets b front x bs p (q ∷ qs) d more w h =
    let state = in_text block in_brackets in
    let kind = text_kind in_brackets in
    let is_other = ends_text block in_brackets x d in
    let other = other_text in_brackets (b ∷ front) p.bytes h.0.bytes in
    let later = more.others (state_after state x) (x ∷ []) q qs (subst (λ k. HaveOtherTexts (pieces_from (state_after state x) k (x ∷ []) bs) (q ∷ qs)) is_other h.1) in
    record {
      plain = other.0 w;
      begins = begins_by_first b front p.bytes other.1;
      cut = λ y z v e.
          walk block in_brackets y z (q.bytes ++ joined_pieces qs) v
          ∙ ap (λ xs. pieces_from state kind (y ++ z) (xs ++ joined_pieces qs)) later.bytes
          ∙ pieces_anew state kind (y ++ z) x (later.more ++ joined_pieces qs) d
          ∙ ap (λ k. piece kind (y ++ z) ∷ pieces_from (state_after state x) k (x ∷ []) (later.more ++ joined_pieces qs)) is_other
          ∙ ap (λ xs. piece kind (y ++ z) ∷ xs) later.cut
          ∙ ap (λ one. one ∷ (q ∷ qs)) (piece_eta p kind (y ++ z) h.0.kind e);
    }

plain_more : (xs : List ℕ) (x : ℕ) → IsPlain xs → is_special x ≡ false → IsPlain (xs ++ x ∷ [])
plain_more [] x w e = (e, tt)
plain_more (y ∷ xs) x w e = (w.0, plain_more xs x w.1 e)

text_more : (block : Block) (in_brackets : Bool) (b : ℕ) (front : List ℕ) (x : ℕ) (bs : List ℕ) (p : Piece) (ps : List Piece) (c : Bool)
    → is_same_kind (text_kind in_brackets) (kind_after (in_text block in_brackets) (text_kind in_brackets) x) ≡ c → Cuts bs → IsPlain (b ∷ front)
    → HaveOtherTexts (if c then pieces_from (state_after (in_text block in_brackets) x) (text_kind in_brackets) (b ∷ (front ++ x ∷ [])) bs else piece (text_kind in_brackets) (b ∷ front) ∷ pieces_from (state_after (in_text block in_brackets) x) (kind_after (in_text block in_brackets) (text_kind in_brackets) x) (x ∷ []) bs) (p ∷ ps)
    → TextCut block in_brackets b p ps
text_more block in_brackets b front x bs p ps true e more w h =
    let plain = plain_cases block in_brackets x (is_continuation x) refl e in
    more.texts block in_brackets b (front ++ x ∷ []) p ps (w.0, plain_more front x w.1 plain)
    (subst (λ s. HaveOtherTexts (pieces_from s (text_kind in_brackets) (b ∷ (front ++ x ∷ [])) bs) (p ∷ ps)) (state_within block in_brackets x plain) h)
text_more block in_brackets b front x bs p ps false e more w h = text_ends block in_brackets b front x bs p ps e more w h

cuts : (bytes : List ℕ) → Cuts bytes
cuts [] = record { others = last_other; texts = last_text }
cuts (x ∷ bs) = record {
  others = λ state front p ps h. other_cases state front x bs p ps (is_same_kind Other (kind_after state Other x)) refl (cuts bs) h;
  texts = λ block in_brackets b front p ps w h. text_more block in_brackets b front x bs p ps (is_same_kind (text_kind in_brackets) (kind_after (in_text block in_brackets) (text_kind in_brackets) x)) refl (cuts bs) w h;
}

-- ---- whole texts

first_text : (b : ℕ) (q : Piece) (qs : List Piece) (bytes : List ℕ) → q.bytes ≡ bytes → IsTextAt first_state b → TextCut first_state.block false b q qs → pieces_of (bytes ++ joined_pieces qs) ≡ q ∷ qs
first_text b q qs [] e w t = absurd (cc (sym (ap (begins_alike (b ∷ [])) e) ∙ t.begins))
first_text b q qs (c ∷ z) e w t =
    let here = text_as first_state b c w (sym (ap (begins_alike (b ∷ [])) e) ∙ t.begins) in
    let plain = subst IsPlain e t.plain in
    ap (λ k. pieces_from (next first_state c) k (c ∷ []) (z ++ joined_pieces qs)) (text_is first_state c here)
    ∙ ap (λ s. pieces_from s (text_kind false) (c ∷ []) (z ++ joined_pieces qs)) (text_next first_state c here)
    ∙ t.cut (c ∷ []) z plain.1 e

first_cases : (b : ℕ) (bs : List ℕ) (q : Piece) (qs : List Piece) (c : Bool) → is_same_kind Other (kind_of first_state b) ≡ c
    → HaveOtherTexts (pieces_from (next first_state b) (kind_of first_state b) (b ∷ []) bs) (q ∷ qs) → pieces_of (q.bytes ++ joined_pieces qs) ≡ q ∷ qs
first_cases b bs q qs true e h =
    let other = same_means Other (kind_of first_state b) e in
    let later = (cuts bs).others (next first_state b) (b ∷ []) q qs (subst (λ k. HaveOtherTexts (pieces_from (next first_state b) k (b ∷ []) bs) (q ∷ qs)) other h) in
    ap (λ xs. pieces_of (xs ++ joined_pieces qs)) later.bytes
    ∙ ap (λ k. pieces_from (next first_state b) k (b ∷ []) (later.more ++ joined_pieces qs)) other
    ∙ later.cut
first_cases b bs q qs false e h =
    let w = text_at first_state b (not_other (kind_of first_state b) e) in
    let text = (cuts bs).texts first_state.block false b [] q qs (w.plain, tt)
    (subst (λ s. HaveOtherTexts (pieces_from s (text_kind false) (b ∷ []) bs) (q ∷ qs)) (text_next first_state b w)
    (subst (λ k. HaveOtherTexts (pieces_from (next first_state b) k (b ∷ []) bs) (q ∷ qs)) (text_is first_state b w) h)) in
    first_text b q qs q.bytes refl w text

pub other_texts : (text : List ℕ) (others : List Piece) → HaveOtherTexts (pieces_of text) others → pieces_of (joined_pieces others) ≡ others
other_texts [] [] h = refl
other_texts [] (o ∷ os) h = absurd h
other_texts (b ∷ bs) [] h = absurd (some_pieces (next first_state b) (kind_of first_state b) (b ∷ []) bs h)
other_texts (b ∷ bs) (q ∷ qs) h = first_cases b bs q qs (is_same_kind Other (kind_of first_state b)) refl h
