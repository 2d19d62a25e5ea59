-- One byte more of a text that is cut into pieces.
use Rattle.std.proofs.Common.{◌≡◌, ℕ, ◌+◌, ◌<◌, ◌≤◌, List, [], ◌∷◌, ◌++◌, length, map, drop, slice_range, get_or, refl, ap, sym, ◌∙◌, Bool, true, false, if◌then◌else◌, IsCharBoundary, IsUtf8, arith, append_assoc, subst}
use Rattle.std.proofs.lemmas.List.{map-append}
use Rattle.std.proofs.lemmas.Str.{IsCharBoundary-start}
use Rattle.std.proofs.lemmas.Bool.Decides.{nat_tests}
use Rattle.html_pieces.specs.Bytes.{is_continuation}
use Rattle.markdown_pieces.specs.States.{first_state, next}
use Rattle.markdown_pieces.specs.Pieces.{Piece, piece, as_piece, pieces_from, pieces_of, kind_of, kind_after, state_after, is_same_kind}
use Rattle.markdown_pieces.specs.declared.cutting.Piece as declared
use Rattle.markdown_pieces.specs.declared.cutting.PieceKind.{PieceKind}
use Rattle.markdown_pieces.specs.declared.cutting.PieceKind.TheVariants.{Text, Bracketed, Other}
use Rattle.markdown_pieces.specs.declared.state.State.{State}
use Rattle.markdown_pieces.proofs.Slices.{drop_more, slice_more, slice_one}

-- A byte goes with the piece, or begins the next one.
pub pieces_on : (state : State) (kind : PieceKind) (front : List ℕ) (b : ℕ) (bs : List ℕ) → is_same_kind kind (kind_after state kind b) ≡ true
    → pieces_from state kind front (b ∷ bs) ≡ pieces_from (state_after state b) kind (front ++ b ∷ []) bs
pieces_on state kind front b bs e =
    ap (λ c. if c then pieces_from (state_after state b) kind (front ++ b ∷ []) bs else piece kind front ∷ pieces_from (state_after state b) (kind_after state kind b) (b ∷ []) bs) e

pub pieces_anew : (state : State) (kind : PieceKind) (front : List ℕ) (b : ℕ) (bs : List ℕ) → is_same_kind kind (kind_after state kind b) ≡ false
    → pieces_from state kind front (b ∷ bs) ≡ piece kind front ∷ pieces_from (state_after state b) (kind_after state kind b) (b ∷ []) bs
pieces_anew state kind front b bs e =
    ap (λ c. if c then pieces_from (state_after state b) kind (front ++ b ∷ []) bs else piece kind front ∷ pieces_from (state_after state b) (kind_after state kind b) (b ∷ []) bs) e

-- The pieces so far, with those that are still to come, are those of the text.
pub record Told (text : List ℕ) (pieces : List Piece) (state : State) (kind : PieceKind) (start i : ℕ) : Type 0 where
  pub told : pieces ++ pieces_from state kind (slice_range text start i) (drop i text) ≡ pieces_of text
  pub started : start < i
  pub at_character : IsCharBoundary text start
  pub within : i ≤ length text

pub told_first : (text : List ℕ) → IsUtf8 text → 0 < length text → Told text [] (next first_state (get_or text 0 0)) (kind_of first_state (get_or text 0 0)) 0 1
told_first [] u h = absurd (omega arith)
told_first (b ∷ bs) u h = record { told = refl; started = omega arith; at_character = IsCharBoundary-start (b ∷ bs) u; within = omega arith }

pub told_on : (text : List ℕ) (pieces : List Piece) (state : State) (kind : PieceKind) (start i : ℕ) → Told text pieces state kind start i → i < length text
    → is_same_kind kind (kind_after state kind (get_or text i 0)) ≡ true → Told text pieces (state_after state (get_or text i 0)) kind start (i + 1)
told_on text pieces state kind start i t lt e =
    let b = get_or text i 0 in
    let front = slice_range text start i in
    let le : start ≤ i = omega (arith, t.started) in
    record {
      told = ap (λ ps. pieces ++ ps)
          (ap (λ f. pieces_from (state_after state b) kind f (drop (i + 1) text)) (slice_more text start i le lt)
          ∙ sym (pieces_on state kind front b (drop (i + 1) text) e) ∙ ap (pieces_from state kind front) (sym (drop_more text i lt))) ∙ t.told;
      started = omega (arith, t.started);
      at_character = t.at_character;
      within = omega (arith, lt);
    }

pub same_as_itself : (kind : PieceKind) → is_same_kind kind kind ≡ true
same_as_itself Text = refl
same_as_itself Bracketed = refl
same_as_itself Other = refl

first_byte : (b : ℕ) → is_continuation b ≡ false → 128 ≤ b → 192 ≤ b
first_byte b e h = grind (arith, nat_tests)

no_continuation : (c : Bool) (kind after : PieceKind) → is_same_kind kind (if c then kind else after) ≡ false → c ≡ false
no_continuation true kind after e = absurd (cc (e, same_as_itself kind))
no_continuation false kind after e = refl

-- Where a piece begins, a character does.
pub begins_character : (state : State) (kind : PieceKind) (b : ℕ) → is_same_kind kind (kind_after state kind b) ≡ false → 128 ≤ b → 192 ≤ b
begins_character state kind b e = first_byte b (no_continuation (is_continuation b) kind (kind_of state b) e)

pub told_anew : (text : List ℕ) (pieces : List Piece) (state : State) (kind : PieceKind) (start i : ℕ) → Told text pieces state kind start i → i < length text
    → is_same_kind kind (kind_after state kind (get_or text i 0)) ≡ false
    → Told text (pieces ++ piece kind (slice_range text start i) ∷ []) (state_after state (get_or text i 0)) (kind_after state kind (get_or text i 0)) i (i + 1)
told_anew text pieces state kind start i t lt e =
    let b = get_or text i 0 in
    let front = slice_range text start i in
    let after = kind_after state kind b in
    record {
      told = append_assoc pieces (piece kind front ∷ []) _
          ∙ ap (λ ps. pieces ++ ps)
          (ap (λ f. piece kind front ∷ pieces_from (state_after state b) after f (drop (i + 1) text)) (slice_one text i lt)
          ∙ sym (pieces_anew state kind front b (drop (i + 1) text) e) ∙ ap (pieces_from state kind front) (sym (drop_more text i lt))) ∙ t.told;
      started = omega arith;
      at_character = (omega (arith, lt), λ _ high. begins_character state kind b e high);
      within = omega (arith, lt);
    }

-- The same of what the code holds.
pub told_alike : {text : List ℕ} {pieces : List Piece} {state : State} {kind : PieceKind} {start i : ℕ} (pieces' : List Piece) (state' : State) (kind' : PieceKind) (start' : ℕ) → Told text pieces state kind start i
    → pieces' ≡ pieces → state' ≡ state → kind' ≡ kind → start' ≡ start → Told text pieces' state' kind' start' i
told_alike {text} {pieces} {state} {kind} {start} {i} pieces' state' kind' start' t p s k a = rw (p, s, k, a) t

pub told_same : (text bytes : List ℕ) (pieces : List Piece) (state state' : State) (kind after : PieceKind) (start i : ℕ) → bytes ≡ text → Told text pieces state kind start i → i < length bytes
    → after ≡ kind_after state kind (get_or bytes i 0) → is_same_kind kind after ≡ true → state' ≡ state_after state (get_or bytes i 0) → Told text pieces state' kind start (i + 1)
told_same text bytes pieces state state' kind after start i same t lt a e s =
    told_alike pieces state' kind start
    (told_on text pieces state kind start i t (subst (λ bs. i < length bs) same lt) (ap (λ bs. is_same_kind kind (kind_after state kind (get_or bs i 0))) (sym same) ∙ ap (is_same_kind kind) (sym a) ∙ e))
    refl (s ∙ ap (λ bs. state_after state (get_or bs i 0)) same) refl refl

pub told_pushed : (text bytes : List ℕ) (held held' : List declared.Piece) (pushed : declared.Piece) (state state' : State) (kind after : PieceKind) (start i : ℕ) → bytes ≡ text
    → Told text (map as_piece held) state kind start i → i < length bytes
    → after ≡ kind_after state kind (get_or bytes i 0) → is_same_kind kind after ≡ false → state' ≡ state_after state (get_or bytes i 0)
    → held' ≡ held ++ pushed ∷ [] → pushed.kind ≡ kind → pushed.text.now ≡ slice_range text start i → Told text (map as_piece held') state' after i (i + 1)
told_pushed text bytes held held' pushed state state' kind after start i same t lt a e s h k x =
    let is_piece : as_piece pushed ≡ piece kind (slice_range text start i) = ap (λ n. piece n pushed.text.now) k ∙ ap (piece kind) x in
    told_alike (map as_piece held') state' after i
    (told_anew text (map as_piece held) state kind start i t (subst (λ bs. i < length bs) same lt) (ap (λ bs. is_same_kind kind (kind_after state kind (get_or bs i 0))) (sym same) ∙ ap (is_same_kind kind) (sym a) ∙ e))
    (ap (map as_piece) h ∙ map-append as_piece held (pushed ∷ []) ∙ ap (λ p. map as_piece held ++ p ∷ []) is_piece)
    (s ∙ ap (λ bs. state_after state (get_or bs i 0)) same) (a ∙ ap (λ bs. kind_after state kind (get_or bs i 0)) same) refl
