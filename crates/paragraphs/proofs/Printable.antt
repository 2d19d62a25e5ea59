-- Texts of printable ASCII are shown as they are, a column for each byte.
use Rattle.std.proofs.Common.{◌≡◌, ℕ, ◌+◌, ◌-◌, zero, suc, ◌<◌, ◌&&◌, if◌then◌else◌, Bool, true, false, not, List, [], ◌∷◌, ◌++◌, length, get_or, filter, take, drop, slice_range, ap, refl, ◌∙◌, arith}
use Rattle.std.specs.List.{list_all}
use Rattle.std.specs.Str.{encode_utf8_all}
use Rattle.std.proofs.lemmas.Bool.{and_parts}
use Rattle.std.proofs.lemmas.Bool.Decides.{nat_tests}
use Rattle.std.proofs.lemmas.Str.{chars-IsAscii, encodes-IsAscii}
use Rattle.std.proofs.lemmas.Str.Ascii.{IsAscii-nil, IsAscii-cons}
use Rattle.std.specs.Prelude.{IsAscii}
use Rattle.unicode_width.specs.Width.{plain, step, past_emoji, read_before, str_width}
use Rattle.paragraphs.specs.Private.Printable.{is_printable}
use Rattle.paragraphs.specs.Private.PartSettings.{hyphen_if}
use Rattle.paragraphs.specs.Settings.{is_soft_hyphen, shown, columns_of}

below_128 : (c : ℕ) → is_printable c ≡ true → c < 128
below_128 c is = grind (arith, nat_tests)

no_soft_hyphen : (c : ℕ) → is_printable c ≡ true → is_soft_hyphen c ≡ false
no_soft_hyphen c is = grind (arith, nat_tests)

printable_ascii : (text : List ℕ) → list_all is_printable text ≡ true → IsAscii text
printable_ascii [] all = IsAscii-nil
printable_ascii (c ∷ cs) all =
    let parts = and_parts (is_printable c) (list_all is_printable cs) all in
    IsAscii-cons c cs (below_128 c parts.0) (printable_ascii cs parts.1)

all_kept : (cs : List ℕ) → list_all is_printable cs ≡ true → filter (λ c. not (is_soft_hyphen c)) cs ≡ cs
all_kept [] all = refl
all_kept (c ∷ cs) all =
    let parts = and_parts (is_printable c) (list_all is_printable cs) all in
    ap (λ t. if not t then c ∷ filter (λ c. not (is_soft_hyphen c)) cs else filter (λ c. not (is_soft_hyphen c)) cs) (no_soft_hyphen c parts.0)
    ∙ ap (λ s. c ∷ s) (all_kept cs parts.1)

pub printable_shown : (text : List ℕ) → list_all is_printable text ≡ true → shown text ≡ text
printable_shown text all =
    ap (λ cs. encode_utf8_all (filter (λ c. not (is_soft_hyphen c)) cs)) (chars-IsAscii text (printable_ascii text all))
    ∙ ap encode_utf8_all (all_kept text all) ∙ encodes-IsAscii text (printable_ascii text all)

one_column : (c total : ℕ) → is_printable c ≡ true → step false c (total, plain) ≡ (total + 1, plain)
unfolding step past_emoji
one_column c total is = grind (arith, nat_tests)

each_a_column : (cs : List ℕ) → list_all is_printable cs ≡ true → read_before false cs (0, plain) ≡ (length cs, plain)
each_a_column [] all = refl
each_a_column (c ∷ cs) all =
    let parts = and_parts (is_printable c) (list_all is_printable cs) all in
    let more : length cs + 1 ≡ length (c ∷ cs) = omega arith in
    ap (step false c) (each_a_column cs parts.1) ∙ one_column c (length cs) parts.0 ∙ ap (λ n. (n, plain)) more

pub printable_columns : (text : List ℕ) → list_all is_printable text ≡ true → columns_of text ≡ length text
unfolding str_width
printable_columns text all =
    ap (λ cs. (read_before false cs (0, plain)).0) (chars-IsAscii text (printable_ascii text all)) ∙ ap (λ r. r.0) (each_a_column text all)

-- The columns of a text that is shown.
pub printable_columns_shown : (text : List ℕ) → list_all is_printable text ≡ true → columns_of (shown text) ≡ length text
printable_columns_shown text all = ap columns_of (printable_shown text all) ∙ printable_columns text all

pub printable_take : (text : List ℕ) (n : ℕ) → list_all is_printable text ≡ true → list_all is_printable (take n text) ≡ true
printable_take [] zero all = refl
printable_take [] (suc n) all = refl
printable_take (c ∷ cs) zero all = refl
printable_take (c ∷ cs) (suc n) all =
    let parts = and_parts (is_printable c) (list_all is_printable cs) all in
    ap (λ t. t && list_all is_printable (take n cs)) parts.0 ∙ printable_take cs n parts.1

pub printable_drop : (text : List ℕ) (n : ℕ) → list_all is_printable text ≡ true → list_all is_printable (drop n text) ≡ true
printable_drop [] zero all = refl
printable_drop [] (suc n) all = refl
printable_drop (c ∷ cs) zero all = all
printable_drop (c ∷ cs) (suc n) all = printable_drop cs n (let parts = and_parts (is_printable c) (list_all is_printable cs) all in parts.1)

pub printable_between : (text : List ℕ) (a b : ℕ) → list_all is_printable text ≡ true → list_all is_printable (slice_range text a b) ≡ true
printable_between text a b all = printable_take (drop a text) (b - a) (printable_drop text a all)

-- A hyphen is one column.
pub hyphen_columns : (before : List ℕ) (hyphenated : Bool) → length before ≡ 0 → columns_of (before ++ hyphen_if hyphenated) ≡ (if hyphenated then 1 else 0)
hyphen_columns [] true none = printable_columns (hyphen_if true) refl
hyphen_columns [] false none = printable_columns (hyphen_if false) refl
hyphen_columns (b ∷ bs) hyphenated none = absurd (omega (arith, none))

-- One byte that is a space.
pub one_space : (text : List ℕ) → length text ≡ 1 → get_or text 0 0 ≡ 32 → text ≡ 32 ∷ []
one_space [] one is = absurd (omega (arith, one))
one_space (c ∷ []) one is = ap (λ b. b ∷ []) is
one_space (c ∷ d ∷ cs) one is = absurd (omega (arith, one))

pub no_bytes : (text : List ℕ) → length text ≡ 0 → text ≡ []
no_bytes [] none = refl
no_bytes (c ∷ cs) none = absurd (omega (arith, none))
