-- One byte more of a page that is cut into pieces.
use Rattle.std.proofs.Common.{◌≡◌, ℕ, ◌+◌, ◌-◌, ◌<◌, ◌≤◌, ◌&&◌, List, [], ◌∷◌, ◌++◌, length, map, drop, slice_range, get_or, refl, ap, sym, ◌∙◌, Option, Some, None, Bool, true, false, zero, suc, if◌then◌else◌, IsCharBoundary, IsUtf8, arith, append_assoc, subst, nat_lt}
use Rattle.std.specs.Option.{option_map_or}
use Rattle.html_pieces.specs.declared.bytes.PageForm.{PageForm}
use Rattle.html_pieces.specs.declared.tokenizer.State.{State}
use Rattle.html_pieces.specs.Pieces.{Piece, piece, pieces_from, state_after, next, begin, content_after, depth_after, kind_of, as_piece, pieces_of}
use Rattle.html_pieces.specs.declared.tokenizer.Piece as declared
use Rattle.std.proofs.lemmas.List.{map-append}
use Rattle.html_pieces.specs.Bytes.{is_continuation}
use Rattle.html_pieces.specs.Names.{is_foreign_root, name_of, is_end_tag}
use Rattle.html_pieces.specs.declared.tokenizer.State.TheVariants.{Data, TagEnd, EmptyTagEnd}
use Rattle.std.proofs.lemmas.Str.{IsCharBoundary-start}
use Rattle.std.proofs.lemmas.Bool.Decides.{nat_tests}
use Rattle.html_pieces.specs.Private.Quiet.{AreQuiet}
use Rattle.html_pieces.proofs.QuietBytes.{quiet_stays}
use Rattle.html_pieces.proofs.Slices.{drop_more, slice_more, slice_one}

-- the pieces after a byte that begins the next one
abbrev pub after_piece : PageForm → ℕ → State → List ℕ → ℕ → List ℕ → List Piece
after_piece form depth state front b bs =
    pieces_from form (depth_after depth state front) (begin (content_after form (nat_lt 0 depth) state front) b) (b ∷ []) bs

-- a byte goes with the piece, or begins the next one
pub pieces_on : (form : PageForm) (depth : ℕ) (state after : State) (front : List ℕ) (b : ℕ) (bs : List ℕ) → state_after form (nat_lt 0 depth) state front b ≡ Some after
    → pieces_from form depth state front (b ∷ bs) ≡ pieces_from form depth after (front ++ b ∷ []) bs
pieces_on form depth state after front b bs e =
    ap (λ o. option_map_or (λ next. pieces_from form depth next (front ++ b ∷ []) bs) o (piece state front ∷ after_piece form depth state front b bs)) e

pub pieces_anew : (form : PageForm) (depth : ℕ) (state : State) (front : List ℕ) (b : ℕ) (bs : List ℕ) → state_after form (nat_lt 0 depth) state front b ≡ None
    → pieces_from form depth state front (b ∷ bs) ≡ piece state front ∷ after_piece form depth state front b bs
pieces_anew form depth state front b bs e =
    ap (λ o. option_map_or (λ next. pieces_from form depth next (front ++ b ∷ []) bs) o (piece state front ∷ after_piece form depth state front b bs)) e

-- the same of the byte at a place of the page
goes_on : (form : PageForm) (depth : ℕ) (page : List ℕ) (start i : ℕ) (state after : State) → start ≤ i → i < length page
    → state_after form (nat_lt 0 depth) state (slice_range page start i) (get_or page i 0) ≡ Some after
    → pieces_from form depth state (slice_range page start i) (drop i page) ≡ pieces_from form depth after (slice_range page start (i + 1)) (drop (i + 1) page)
goes_on form depth page start i state after le lt e =
    ap (pieces_from form depth state (slice_range page start i)) (drop_more page i lt)
    ∙ pieces_on form depth state after (slice_range page start i) (get_or page i 0) (drop (i + 1) page) e
    ∙ ap (λ front. pieces_from form depth after front (drop (i + 1) page)) (sym (slice_more page start i le lt))

begins_anew : (form : PageForm) (depth : ℕ) (page : List ℕ) (start i : ℕ) (state : State) → start ≤ i → i < length page
    → state_after form (nat_lt 0 depth) state (slice_range page start i) (get_or page i 0) ≡ None
    → pieces_from form depth state (slice_range page start i) (drop i page)
    ≡ piece state (slice_range page start i) ∷ pieces_from form (depth_after depth state (slice_range page start i)) (begin (content_after form (nat_lt 0 depth) state (slice_range page start i)) (get_or page i 0)) (slice_range page i (i + 1)) (drop (i + 1) page)
begins_anew form depth page start i state le lt e =
    ap (pieces_from form depth state (slice_range page start i)) (drop_more page i lt)
    ∙ pieces_anew form depth state (slice_range page start i) (get_or page i 0) (drop (i + 1) page) e
    ∙ ap (λ front. piece state (slice_range page start i) ∷ pieces_from form (depth_after depth state (slice_range page start i)) (begin (content_after form (nat_lt 0 depth) state (slice_range page start i)) (get_or page i 0)) front (drop (i + 1) page)) (sym (slice_one page i lt))

-- the result after i bytes: with what is still to come the pieces are those of the page
pub record Told (form : PageForm) (page : List ℕ) (pieces : List Piece) (depth : ℕ) (state : State) (start i : ℕ) : Type 0 where
  pub told : pieces ++ pieces_from form depth state (slice_range page start i) (drop i page) ≡ pieces_of form page
  pub started : start < i
  pub at_character : IsCharBoundary page start
  pub few : depth ≤ start
  pub within : i ≤ length page

pub told_first : (form : PageForm) (page : List ℕ) → IsUtf8 page → 0 < length page → Told form page [] 0 (begin Data (get_or page 0 0)) 0 1
told_first form [] u h = absurd (omega arith)
told_first form (b ∷ bs) u h = record { told = refl; started = omega arith; at_character = IsCharBoundary-start (b ∷ bs) u; few = omega arith; within = omega arith }

pub told_on : (form : PageForm) (page bytes : List ℕ) (pieces : List Piece) (depth : ℕ) (state after : State) (start i : ℕ) → bytes ≡ page → Told form page pieces depth state start i → i < length bytes
    → state_after form (nat_lt 0 depth) state (slice_range bytes start i) (get_or bytes i 0) ≡ Some after → Told form page pieces depth after start (i + 1)
told_on form page bytes pieces depth state after start i same t lt e =
    let lt' : i < length page = subst (λ bs. i < length bs) same lt in
    let e' = subst (λ bs. state_after form (nat_lt 0 depth) state (slice_range bs start i) (get_or bs i 0) ≡ Some after) same e in
    let le : start ≤ i = omega (arith, t.started) in
    record {
      told = ap (λ ps. pieces ++ ps) (sym (goes_on form depth page start i state after le lt' e')) ∙ t.told;
      started = omega (arith, t.started);
      at_character = t.at_character;
      few = t.few;
      within = omega (arith, lt');
    }

pub first_byte : (b : ℕ) → is_continuation b ≡ false → 128 ≤ b → 192 ≤ b
first_byte b e h = grind (arith, nat_tests)

pub none_means : (c : Bool) (s : State) (o : Option State) → (if c then Some s else o) ≡ None → c ≡ false
none_means true s o e = cc
none_means false s o e = refl

-- where a piece begins, a character does
starts_character : (form : PageForm) (foreign : Bool) (page : List ℕ) (state : State) (front : List ℕ) (i : ℕ) → i < length page → state_after form foreign state front (get_or page i 0) ≡ None → IsCharBoundary page i
starts_character form foreign page state front i lt e =
    let no = none_means (is_continuation (get_or page i 0)) state (next form foreign state front (get_or page i 0)) e in
    (omega arith, λ _ high. first_byte (get_or page i 0) no high)

-- a piece opens one element at most
one_more : (b c : Bool) (n : ℕ) → (if b then (if c then n - 1 else n + 1) else n) ≤ n + 1
one_more true true n = omega arith
one_more true false n = omega arith
one_more false c n = omega arith

one_less : (b : Bool) (n : ℕ) → (if b then n - 1 else n) ≤ n + 1
one_less true n = omega arith
one_less false n = omega arith

pub depth_grows : (n : ℕ) (state : State) (front : List ℕ) → depth_after n state front ≤ n + 1
unfolding depth_after
depth_grows n TagEnd front = one_more (is_foreign_root (name_of front)) (is_end_tag front) n
depth_grows n EmptyTagEnd front = one_less (is_foreign_root (name_of front) && is_end_tag front) n
depth_grows n _ front = omega arith

told_anew : (form : PageForm) (page bytes : List ℕ) (pieces : List Piece) (depth : ℕ) (state : State) (start i : ℕ) → bytes ≡ page → Told form page pieces depth state start i → i < length bytes
    → state_after form (nat_lt 0 depth) state (slice_range bytes start i) (get_or bytes i 0) ≡ None
    → Told form page (pieces ++ piece state (slice_range page start i) ∷ []) (depth_after depth state (slice_range page start i)) (begin (content_after form (nat_lt 0 depth) state (slice_range page start i)) (get_or page i 0)) i (i + 1)
told_anew form page bytes pieces depth state start i same t lt e =
    let lt' : i < length page = subst (λ bs. i < length bs) same lt in
    let e' = subst (λ bs. state_after form (nat_lt 0 depth) state (slice_range bs start i) (get_or bs i 0) ≡ None) same e in
    let le : start ≤ i = omega (arith, t.started) in
    let grows = depth_grows depth state (slice_range page start i) in
    record {
      told = append_assoc pieces (piece state (slice_range page start i) ∷ []) _ ∙ ap (λ ps. pieces ++ ps) (sym (begins_anew form depth page start i state le lt' e')) ∙ t.told;
      started = omega arith;
      at_character = starts_character form (nat_lt 0 depth) page state (slice_range page start i) i lt' e';
      few = omega (arith, grows, t.few, t.started);
      within = omega (arith, lt');
    }

-- the same of a piece as it was made, and of the pieces as they are held
pub told_alike : {form : PageForm} {page : List ℕ} {pieces : List Piece} {depth : ℕ} {state : State} {start i : ℕ} (pieces' : List Piece) (depth' : ℕ) (state' : State) (start' : ℕ) → Told form page pieces depth state start i
    → pieces' ≡ pieces → depth' ≡ depth → state' ≡ state → start' ≡ start → Told form page pieces' depth' state' start' i
told_alike {form} {page} {pieces} {depth} {state} {start} {i} pieces' depth' state' start' t p d s a = rw (p, d, s, a) t

pub told_pushed : (form : PageForm) (page bytes : List ℕ) (held held' : List declared.Piece) (pushed : declared.Piece) (depth depth' : ℕ) (state inside state' : State) (start i : ℕ) → bytes ≡ page → Told form page (map as_piece held) depth state start i → i < length bytes
    → state_after form (nat_lt 0 depth) state (slice_range bytes start i) (get_or bytes i 0) ≡ None
    → held' ≡ held ++ pushed ∷ [] → pushed.kind ≡ kind_of state (slice_range bytes start i) → pushed.text.now ≡ slice_range page start i
    → inside ≡ content_after form (nat_lt 0 depth) state (slice_range bytes start i) → depth' ≡ depth_after depth state (slice_range bytes start i) → state' ≡ begin inside (get_or bytes i 0)
    → Told form page (map as_piece held') depth' state' i (i + 1)
told_pushed form page bytes held held' pushed depth depth' state inside state' start i same t lt e h k x cn d s =
    let made = told_anew form page bytes (map as_piece held) depth state start i same t lt e in
    let is_piece : as_piece pushed ≡ piece state (slice_range page start i) =
    ap (λ n. record { kind = n; bytes = pushed.text.now }) (k ∙ ap (λ bs. kind_of state (slice_range bs start i)) same)
    ∙ ap (λ bs. record { kind = kind_of state (slice_range page start i); bytes = bs }) x in
    told_alike (map as_piece held') depth' state' i made
    (ap (map as_piece) h ∙ map-append as_piece held (pushed ∷ []) ∙ ap (λ p. map as_piece held ++ p ∷ []) is_piece)
    (d ∙ ap (λ bs. depth_after depth state (slice_range bs start i)) same)
    (s ∙ ap (λ q. begin q (get_or bytes i 0)) cn ∙ ap (λ bs. begin (content_after form (nat_lt 0 depth) state (slice_range bs start i)) (get_or bs i 0)) same)
    refl

-- the same past bytes that leave the state as it is
told_past : (form : PageForm) (page bytes : List ℕ) (pieces : List Piece) (depth : ℕ) (state : State) (start n i : ℕ) → bytes ≡ page → Told form page pieces depth state start i → i + n ≤ length bytes
    → AreQuiet state bytes i (i + n) → Told form page pieces depth state start (i + n)
told_past form page bytes pieces depth state start zero i same t w q =
    let here : i + zero ≡ i = omega arith in
    subst (λ k. Told form page pieces depth state start k) (sym here) t
told_past form page bytes pieces depth state start (suc n) i same t w q =
    let there : i + 1 + n ≡ i + suc n = omega arith in
    let lt : i < length bytes = omega (arith, w) in
    let first = q i (omega arith) (omega arith) in
    let next = told_on form page bytes pieces depth state state start i same t lt (quiet_stays form (nat_lt 0 depth) state (slice_range bytes start i) (get_or bytes i 0) first) in
    subst (λ k. Told form page pieces depth state start k) there
    (told_past form page bytes pieces depth state start n (i + 1) same next (omega (arith, w)) (λ k l u. q k (omega (arith, l)) (omega (arith, u))))

pub told_up_to : (form : PageForm) (page bytes : List ℕ) (pieces : List Piece) (depth : ℕ) (state : State) (start i to : ℕ) → bytes ≡ page → Told form page pieces depth state start i → i ≤ to → to ≤ length bytes
    → AreQuiet state bytes i to → Told form page pieces depth state start to
told_up_to form page bytes pieces depth state start i to same t le w q =
    let there : i + (to - i) ≡ to = omega (arith, le) in
    subst (λ k. Told form page pieces depth state start k) there
    (told_past form page bytes pieces depth state start (to - i) i same t (omega (arith, le, w)) (λ k l u. q k l (omega (arith, le, u))))
