-- A text that has its marks has no places left.
use Rattle.std.proofs.Common.{◌≡◌, ℕ, ◌==◌, ◌&&◌, ◌||◌, Bool, true, false, List, [], ◌∷◌, ◌++◌, length, take, drop, refl, ap, sym, ◌∙◌, append_assoc, append-nil, subst, if◌then◌else◌, suc, zero, ◌<◌, arith}
use Rattle.std.proofs.lemmas.Bool.{or_left, or_right}
use Rattle.std.specs.Str.{IsUtf8}
use Rattle.text_words.specs.Words.{text_words}
use Rattle.hyphenation_segments.specs.Laws.{with_marks}
use Rattle.html_pieces.specs.Bytes.{is_white_space}
use Rattle.hyphenation_text.specs.Laws.{Implies, soft_hyphen}
use Rattle.hyphenation_text.specs.Dictionaries.{Breaks}
use Rattle.text_words.specs.Names.{is_name}
use Rattle.hyphenation_text.specs.Words.{has_soft_hyphen_after, is_left_whole}
use Rattle.hyphenation_text.specs.Places.{shifted, words_places, token_places, tokens_places, text_places}
use Rattle.hyphenation_text.specs.Texts.{marked_text}
use Rattle.hyphenation_text.specs.Private.Marked.{marked_token, marked_tokens}
use Rattle.hyphenation_text.specs.Dictionaries.{AllAscend}
use Rattle.hyphenation_text.proofs.Boundaries.{seam_boundary, front_utf8, rest_utf8, past_white}
use Rattle.hyphenation_text.proofs.MarkedTexts.{Laws, token_marked, tokens_marked}
use Rattle.hyphenation_text.proofs.TextSteps.{white_is_ascii}

-- ---- no white space

abbrev NoWhite : List ℕ → Type 0
NoWhite [] = Unit {0}
NoWhite (b ∷ bs) = (is_white_space b ≡ false) × NoWhite bs

no_white-append : (xs ys : List ℕ) → NoWhite xs → NoWhite ys → NoWhite (xs ++ ys)
no_white-append [] ys v w = w
no_white-append (x ∷ xs) ys v w = (v.0, no_white-append xs ys v.1 w)

no_white-take : (n : ℕ) (xs : List ℕ) → NoWhite xs → NoWhite (take n xs)
no_white-take zero xs w = tt
no_white-take (suc n) [] w = tt
no_white-take (suc n) (x ∷ xs) w = (w.0, no_white-take n xs w.1)

no_white-drop : (n : ℕ) (xs : List ℕ) → NoWhite xs → NoWhite (drop n xs)
no_white-drop zero xs w = w
no_white-drop (suc n) [] w = tt
no_white-drop (suc n) (x ∷ xs) w = no_white-drop n xs w.1

no_white-marks : (text places : List ℕ) → NoWhite text → NoWhite (with_marks soft_hyphen text places)
no_white-marks text [] w = w
no_white-marks text (p ∷ ps) w =
    no_white-append (take p text ++ soft_hyphen) (drop p (with_marks soft_hyphen text ps))
    (no_white-append (take p text) soft_hyphen (no_white-take p text w) (refl, (refl, tt)))
    (no_white-drop p (with_marks soft_hyphen text ps) (no_white-marks text ps w))

-- ---- what stands between white space

marks_seen : (before : ℕ) (xs ys : List ℕ) → has_soft_hyphen_after before ((xs ++ soft_hyphen) ++ ys) ≡ true
marks_seen before [] ys = or_right (before == 0xC2 && 0xC2 == 0xAD) (has_soft_hyphen_after 0xC2 (0xAD ∷ ys)) refl
marks_seen before (x ∷ xs) ys =
    or_right (before == 0xC2 && x == 0xAD) (has_soft_hyphen_after x ((xs ++ soft_hyphen) ++ ys)) (marks_seen x xs ys)

whole_by_mark : (xs ys : List ℕ) → is_left_whole ((xs ++ soft_hyphen) ++ ys) ≡ true
unfolding is_left_whole
whole_by_mark xs ys = or_left (has_soft_hyphen_after 0 ((xs ++ soft_hyphen) ++ ys)) (is_name ((xs ++ soft_hyphen) ++ ys)) (marks_seen 0 xs ys)

no_places : (breaks : Breaks) (token places : List ℕ) → token_places breaks token ≡ places → token_places breaks (with_marks soft_hyphen token places) ≡ []
unfolding token_places
no_places breaks token [] e = e
no_places breaks token (p ∷ ps) e =
    let marked = with_marks soft_hyphen token (p ∷ ps) in
    ap (λ c. if c then [] else words_places breaks (text_words marked)) (whole_by_mark (take p token) (drop p (with_marks soft_hyphen token ps)))

-- ---- texts

token_on : (breaks : Breaks) (before after : Bool) (front xs rest : List ℕ) → NoWhite xs → tokens_places breaks before after front (xs ++ rest) ≡ tokens_places breaks before after (front ++ xs) rest
token_on breaks before after front [] rest w = ap (λ f. tokens_places breaks before after f rest) (sym (append-nil front))
token_on breaks before after front (x ∷ xs) rest w =
    ap (λ c. if c then (if before then [] else token_places breaks front) ++ shifted (length front) (shifted 1 (tokens_places breaks false after [] (xs ++ rest))) else tokens_places breaks before after (front ++ x ∷ []) (xs ++ rest)) w.0
    ∙ token_on breaks before after (front ++ x ∷ []) xs rest w.1
    ∙ ap (λ f. tokens_places breaks before after f rest) (append_assoc front (x ∷ []) xs)

-- A token that is written as it is, or with its marks.
abbrev written_token : Breaks → Bool → List ℕ → List ℕ
written_token breaks c token = if c then token else marked_token breaks soft_hyphen token

written_no_white : (laws : Laws) (breaks : Breaks) (c : Bool) (token : List ℕ) → AllAscend breaks → IsUtf8 token → NoWhite token → NoWhite (written_token breaks c token)
written_no_white laws breaks true token a u w = w
written_no_white laws breaks false token a u w = subst NoWhite (sym (token_marked laws breaks soft_hyphen token a u).is) (no_white-marks token (token_places breaks token) w)

or_implies : (b b' a a' : Bool) → Implies b b' → Implies a a' → Implies (b || a) (b' || a')
or_implies true b' a a' i j = λ _. or_left b' a' (i refl)
or_implies false b' a a' i j = λ h. or_right b' a' (j h)

written_done : (laws : Laws) (breaks : Breaks) (c c' : Bool) (token : List ℕ) → Implies c c' → AllAscend breaks → IsUtf8 token → (if c' then [] else token_places breaks (written_token breaks c token)) ≡ []
written_done laws breaks c true token i a u = refl
written_done laws breaks true false token i a u = absurd (cc (i refl))
written_done laws breaks false false token i a u = ap (token_places breaks) (token_marked laws breaks soft_hyphen token a u).is ∙ no_places breaks token (token_places breaks token) refl

second_cases : (laws : Laws) (breaks : Breaks) (before after before' after' : Bool) (front : List ℕ) (b : ℕ) (bs : List ℕ) (c : Bool) → is_white_space b ≡ c → Implies before before' → AllAscend breaks → IsUtf8 (front ++ b ∷ bs) → NoWhite front
    → (IsUtf8 bs → tokens_places breaks false after' [] (marked_tokens breaks soft_hyphen false after [] bs) ≡ [])
    → (IsUtf8 ((front ++ b ∷ []) ++ bs) → NoWhite (front ++ b ∷ []) → tokens_places breaks before' after' [] (marked_tokens breaks soft_hyphen before after (front ++ b ∷ []) bs) ≡ [])
    → tokens_places breaks before' after' [] (if c then written_token breaks before front ++ b ∷ marked_tokens breaks soft_hyphen false after [] bs else marked_tokens breaks soft_hyphen before after (front ++ b ∷ []) bs) ≡ []
second_cases laws breaks before after before' after' front b bs true e i a u w anew on =
    let low : b < 128 = white_is_ascii b e in
    let seam = seam_boundary front b bs (λ high. absurd (omega arith)) in
    let own = front_utf8 front (b ∷ bs) u seam in
    let rest = rest_utf8 front (b ∷ bs) u seam in
    let token = written_token breaks before front in
    let more = marked_tokens breaks soft_hyphen false after [] bs in
    token_on breaks before' after' [] token (b ∷ more) (written_no_white laws breaks before front a own w)
    ∙ ap (λ c. if c then (if before' then [] else token_places breaks token) ++ shifted (length token) (shifted 1 (tokens_places breaks false after' [] more)) else tokens_places breaks before' after' (token ++ b ∷ []) more) e
    ∙ ap (λ xs. xs ++ shifted (length token) (shifted 1 (tokens_places breaks false after' [] more))) (written_done laws breaks before before' front i a own)
    ∙ ap (λ xs. shifted (length token) (shifted 1 xs)) (anew (past_white b bs rest low))
second_cases laws breaks before after before' after' front b bs false e i a u w anew on =
    on (subst IsUtf8 (sym (append_assoc front (b ∷ []) bs)) u) (no_white-append front (b ∷ []) w (e, tt))

none_left : (laws : Laws) (breaks : Breaks) (before after before' after' : Bool) (front text : List ℕ) → Implies before before' → Implies after after' → AllAscend breaks → IsUtf8 (front ++ text) → NoWhite front
    → tokens_places breaks before' after' [] (marked_tokens breaks soft_hyphen before after front text) ≡ []
none_left laws breaks before after before' after' front [] i j a u w =
    let own = subst IsUtf8 (append-nil front) u in
    let token = written_token breaks (before || after) front in
    ap (tokens_places breaks before' after' []) (sym (append-nil token))
    ∙ token_on breaks before' after' [] token [] (written_no_white laws breaks (before || after) front a own w)
    ∙ written_done laws breaks (before || after) (before' || after') front (or_implies before before' after after' i j) a own
none_left laws breaks before after before' after' front (b ∷ bs) i j a u w =
    second_cases laws breaks before after before' after' front b bs (is_white_space b) refl i a u w
    (λ v. none_left laws breaks false after false after' [] bs (λ h. h) j a v tt) (none_left laws breaks before after before' after' (front ++ b ∷ []) bs i j a)

-- A text that was marked has no places left, where all that touched the text touches it still.
pub second_run : (laws : Laws) (breaks : Breaks) (before after before' after' : Bool) (text : List ℕ) → Implies before before' → Implies after after' → AllAscend breaks → IsUtf8 text
    → text_places breaks before' after' (marked_text breaks soft_hyphen before after text) ≡ []
second_run laws breaks before after before' after' text i j a u =
    ap (text_places breaks before' after') (sym (tokens_marked laws breaks soft_hyphen before after [] text a u).is)
    ∙ none_left laws breaks before after before' after' [] text i j a u tt
