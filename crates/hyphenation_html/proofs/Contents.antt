-- A text with its marks has more than white space where it has without them.
use Rattle.std.proofs.Common.{◌≡◌, ℕ, nat_eq, ◌||◌, ◌&&◌, Bool, true, false, not, zero, suc, List, [], ◌∷◌, ◌++◌, take, drop, refl, ap, sym, ◌∙◌, Option, Some, None, if◌then◌else◌}
use Rattle.std.proofs.lemmas.Bool.{and_from, and_right, or_right}
use Rattle.std.specs.List.{list_all}
use Rattle.std.specs.Option.{option_map_or}
use Rattle.html_pieces.specs.Bytes.{is_white_space}
use Rattle.html_pieces.specs.Elements.{Element}
use Rattle.html_pieces.specs.Forms.{begins_with_order_mark}
use Rattle.html_pieces.specs.Readings.{has_content, has_text}
use Rattle.hyphenation_segments.specs.Laws.{with_marks}
use Rattle.hyphenation_html.specs.Languages.{Language, best_of}
use Rattle.hyphenation_text.specs.Laws.{soft_hyphen, WhiteSpaceHasNoBreaks}
use Rattle.hyphenation_html.specs.LeftAlone.{has_text_left_alone, is_left_alone}
use Rattle.hyphenation_text.specs.Places.{text_places}
use Rattle.hyphenation_html.specs.Places.{places_in}
use Rattle.hyphenation_html.proofs.MarkedPages.{none_either}

white_first : (c d : Bool) → not c || d ≡ false → c ≡ true
white_first true d e = refl
white_first false d e = absurd (cc e)

white_rest : (c d : Bool) → not c || d ≡ false → d ≡ false
white_rest true d e = e
white_rest false d e = absurd (cc e)

all_white : (text : List ℕ) → has_content text ≡ false → list_all is_white_space text ≡ true
all_white [] e = refl
all_white (b ∷ bs) e =
    and_from (is_white_space b) (list_all is_white_space bs) (white_first (is_white_space b) (has_content bs) e) (all_white bs (white_rest (is_white_space b) (has_content bs) e))

none_by : WhiteSpaceHasNoBreaks → (before after : Bool) (text : List ℕ) (o : Option Language) → has_content text ≡ false → option_map_or (λ language. text_places language.1 before after text) o [] ≡ []
none_by white before after text None e = refl
none_by white before after text (Some language) e = white language.1 before after text (all_white text e)

none_in_white : WhiteSpaceHasNoBreaks → (languages : List Language) (element : Option Element) (before after : Bool) (text : List ℕ) → has_content text ≡ false → places_in languages element before after text ≡ []
none_in_white white languages None before after text e = refl
none_in_white white languages (Some element) before after text e =
    ap (λ places. if is_left_alone element text then [] else places) (none_by white before after text (best_of element.language languages) e)
    ∙ none_either (is_left_alone element text)

mark_seen : (xs ys : List ℕ) → has_content ((xs ++ soft_hyphen) ++ ys) ≡ true
mark_seen [] ys = refl
mark_seen (x ∷ xs) ys = or_right (not (is_white_space x)) (has_content ((xs ++ soft_hyphen) ++ ys)) (mark_seen xs ys)

content_cases : (text places : List ℕ) (c : Bool) → has_content text ≡ c → (c ≡ false → places ≡ []) → has_content (with_marks soft_hyphen text places) ≡ c
content_cases text [] c e none = e
content_cases text (p ∷ ps) true e none = mark_seen (take p text) (drop p (with_marks soft_hyphen text ps))
content_cases text (p ∷ ps) false e none = absurd (cc (none refl))

same_content : WhiteSpaceHasNoBreaks → (languages : List Language) (element : Option Element) (before after : Bool) (text : List ℕ) → has_content (with_marks soft_hyphen text (places_in languages element before after text)) ≡ has_content text
same_content white languages element before after text =
    content_cases text (places_in languages element before after text) (has_content text) refl (none_in_white white languages element before after text)

-- ---- the byte order mark

pub marks_begin_none : (text places : List ℕ) → begins_with_order_mark text ≡ false → begins_with_order_mark (with_marks soft_hyphen text places) ≡ false
marks_begin_none text [] e = e
marks_begin_none text (zero ∷ ps) e = refl
marks_begin_none [] (suc p ∷ ps) e = refl
marks_begin_none (b ∷ bs) (suc zero ∷ ps) e = and_right (nat_eq 0xEF b) false refl
marks_begin_none (b ∷ []) (suc (suc p) ∷ ps) e = and_right (nat_eq 0xEF b) false refl
marks_begin_none (b ∷ (c ∷ cs)) (suc (suc zero) ∷ ps) e = ap (λ x. nat_eq 0xEF b && x) (and_right (nat_eq 0xBB c) false refl) ∙ and_right (nat_eq 0xEF b) false refl
marks_begin_none (b ∷ (c ∷ [])) (suc (suc (suc p)) ∷ ps) e = ap (λ x. nat_eq 0xEF b && x) (and_right (nat_eq 0xBB c) false refl) ∙ and_right (nat_eq 0xEF b) false refl
marks_begin_none (b ∷ (c ∷ (d ∷ ds))) (suc (suc (suc p)) ∷ ps) e = e

as_content : (text : List ℕ) → begins_with_order_mark text ≡ false → has_text text ≡ has_content text
as_content text e = ap (λ c. has_content (if c then drop 3 text else text)) e

same_cases : WhiteSpaceHasNoBreaks → (languages : List Language) (element : Option Element) (before after : Bool) (text : List ℕ) (c : Bool) → begins_with_order_mark text ≡ c
    → has_text (with_marks soft_hyphen text (places_in languages element before after text)) ≡ has_text text
same_cases white languages None before after text c e = refl
same_cases white languages (Some element) before after text true e =
    ap (λ c. has_text (with_marks soft_hyphen text (if c then [] else option_map_or (λ language. text_places language.1 before after text) (best_of element.language languages) [])))
    (or_right (has_text_left_alone element) (begins_with_order_mark text) e)
same_cases white languages (Some element) before after text false e =
    let places = places_in languages (Some element) before after text in
    as_content (with_marks soft_hyphen text places) (marks_begin_none text places e)
    ∙ same_content white languages (Some element) before after text ∙ sym (as_content text e)

-- A text with its marks has more than white space where it has without them, except for a byte order mark.
pub same_text : WhiteSpaceHasNoBreaks → (languages : List Language) (element : Option Element) (before after : Bool) (text : List ℕ)
    → has_text (with_marks soft_hyphen text (places_in languages element before after text)) ≡ has_text text
same_text white languages element before after text = same_cases white languages element before after text (begins_with_order_mark text) refl
