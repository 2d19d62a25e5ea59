-- The lines of a file, as the levels that they make.
use Rattle.std.proofs.Common.{◌≡◌, ◌∙◌, ◌+◌, ◌-◌, ◌<◌, ◌≤◌, nat_lt, ap, sym, refl, ℕ, Bool, true, false, not, List, [], ◌∷◌, length, length-drop, map, take, drop, get_or, fold, arith, Bor}
use Rattle.std.specs.List.{position_or_len, list_any, before_first, after_first}
use Rattle.std.proofs.Math.ListN.{get_or-map}
use Rattle.std.specs.List.{take-map}
use Rattle.std.proofs.lemmas.List.{take_all, drop-map, length-map}
use Rattle.std.proofs.lemmas.List.Sums.{fold_more, prefix_len-drop_yes, prefix_len-drop_no}
use Rattle.libhyphen_files.proofs.CutTexts.{none_passes_from, some_passes_from}
use Rattle.libhyphen_files.specs.Files.{Rules, rules_of, charset_of, is_utf8_name, is_next_level, level_of, dash_lines, dashes, default_minima, default_first_level, rules_of_lines}
use Rattle.libhyphen_files.specs.Lines.{lines_of}
use Rattle.libhyphen_files.specs.Levels.{Level, empty_level, with_line}
use Rattle.libhyphen_files.specs.declared.minima.Minima.{Minima}

-- The lines that borrowed lines are.
abbrev pub texts : List (Bor (List ℕ)) → List (List ℕ)
texts lines = map (λ l. l.now) lines

text_at : (lines : List (Bor (List ℕ))) (i : ℕ) (d : Bor (List ℕ)) → get_or (texts lines) i d.now ≡ (get_or lines i d).now
text_at lines i d = get_or-map (λ l. l.now) lines i d

count : (lines : List (Bor (List ℕ))) → length (texts lines) ≡ length lines
count lines = length-map lines (λ l. l.now)

-- ---- The first line that parts two levels.

pub skip : (lines : List (Bor (List ℕ))) (i : ℕ) (d : Bor (List ℕ)) → i < length lines → is_next_level (get_or lines i d).now ≡ false
    → position_or_len is_next_level (texts lines) ≡ i + position_or_len is_next_level (drop i (texts lines))
    → position_or_len is_next_level (texts lines) ≡ i + 1 + position_or_len is_next_level (drop (i + 1) (texts lines))
skip lines i d inside other before =
    let within : i < length (texts lines) = rw count inside in
    before ∙ ap (λ k. i + k) (prefix_len-drop_yes (λ x. not (is_next_level x)) (texts lines) i d.now within (ap not (ap is_next_level (text_at lines i d) ∙ other))) ∙ shift i _
  where
    shift : (i k : ℕ) → i + (1 + k) ≡ i + 1 + k
    shift i k = omega arith

pub stop : (lines : List (Bor (List ℕ))) (i : ℕ) (d : Bor (List ℕ)) → i < length lines → is_next_level (get_or lines i d).now ≡ true
    → position_or_len is_next_level (texts lines) ≡ i + position_or_len is_next_level (drop i (texts lines))
    → i ≡ position_or_len is_next_level (texts lines)
stop lines i d inside next before =
    let within : i < length (texts lines) = rw count inside in
    sym (before ∙ ap (λ k. i + k) (prefix_len-drop_no (λ x. not (is_next_level x)) (texts lines) i d.now within (ap not (ap is_next_level (text_at lines i d) ∙ next))) ∙ none i)
  where
    none : (i : ℕ) → i + 0 ≡ i
    none i = omega arith

pub any_is : (lines : List (Bor (List ℕ))) (n : ℕ) → n ≡ position_or_len is_next_level (texts lines) → nat_lt n (length lines) ≡ list_any is_next_level (texts lines)
any_is lines n at = by (nat_lt n (length lines)) refl
  where
    by : (t : Bool) → nat_lt n (length lines) ≡ t → t ≡ list_any is_next_level (texts lines)
    by true e =
        let within : n < length lines = grind arith in
        let some : position_or_len is_next_level (texts lines) < length (texts lines) = rw (count, ← at) within in
        sym (some_passes_from is_next_level (texts lines) some)
    by false e =
        let over : length lines ≤ n = grind arith in
        let none : length (texts lines) ≤ position_or_len is_next_level (texts lines) = rw (count, ← at) over in
        sym (none_passes_from is_next_level (texts lines) none)

pub before_is : (lines : List (Bor (List ℕ))) (n : ℕ) → n ≡ position_or_len is_next_level (texts lines) → texts (take n lines) ≡ before_first is_next_level (texts lines)
before_is lines n at = sym (take-map (λ l. l.now) n lines) ∙ ap (λ k. take k (texts lines)) at

-- The rest of a list, as a part of a slice is written.
rest_is : (lines : List (Bor (List ℕ))) (n : ℕ) → take (length lines - n) (drop n lines) ≡ drop n lines
rest_is lines n =
    let all : length (drop n lines) ≤ length lines - n = rw length-drop (omega arith) in
    take_all (length lines - n) (drop n lines) all

pub after_is : (lines : List (Bor (List ℕ))) (n : ℕ) → n ≡ position_or_len is_next_level (texts lines)
    → texts (take (length lines - (n + 1)) (drop (n + 1) lines)) ≡ after_first is_next_level (texts lines)
after_is lines n at = ap texts (rest_is lines (n + 1)) ∙ sym (drop-map (λ l. l.now) (n + 1) lines) ∙ ap (λ k. drop (k + 1) (texts lines)) at

-- ---- Levels.

fold_more_mapped : {A B C : Type 0} (f : B → C → B) (g : A → C) (b : B) (xs : List A) (i : ℕ) (d : A) → i < length xs
    → fold f b (take (i + 1) (map g xs)) ≡ f (fold f b (take i (map g xs))) (g (get_or xs i d))
fold_more_mapped f g b xs i d inside =
    let within : i < length (map g xs) = rw length-map inside in
    fold_more f b (map g xs) i (g d) within ∙ ap (f (fold f b (take i (map g xs)))) (get_or-map g xs i d)

pub level_more : (utf8 : Bool) (lines : List (Bor (List ℕ))) (i : ℕ) (d : Bor (List ℕ)) (before after : Level) → i < length lines
    → before ≡ level_of utf8 (take i (texts lines)) → after ≡ with_line utf8 before (get_or lines i d).now → after ≡ level_of utf8 (take (i + 1) (texts lines))
level_more utf8 lines i d before after inside was is =
    is ∙ ap (λ (l : Level). with_line utf8 l (get_or lines i d).now) was ∙ sym (fold_more_mapped (with_line utf8) (λ (l : Bor (List ℕ)). l.now) empty_level lines i d inside)

pub level_done : (utf8 : Bool) (lines : List (Bor (List ℕ))) (i : ℕ) (level : Level) → length lines ≤ i → level ≡ level_of utf8 (take i (texts lines)) → level ≡ level_of utf8 (texts lines)
level_done utf8 lines i level over is =
    let all : length (texts lines) ≤ i = rw count over in
    is ∙ ap (level_of utf8) (take_all i (texts lines) all)

abbrev with_both : Minima → List (List ℕ) → Level → Level
with_both minima no_hyphen level = record { minima = minima; no_hyphen = no_hyphen; patterns = level.patterns }

pub default_made : (utf8 : Bool) (next_level first_level : Level) (minima : Minima) (no_hyphen : List (List ℕ)) → first_level ≡ level_of utf8 (dash_lines utf8) → minima ≡ default_minima next_level.minima → no_hyphen ≡ dashes utf8
    → with_both minima no_hyphen first_level ≡ default_first_level utf8 next_level
default_made utf8 next_level first_level minima no_hyphen t m n =
    ap (λ (x : Minima). with_both x no_hyphen first_level) m ∙ ap (λ x. with_both (default_minima next_level.minima) x first_level) n ∙ ap (λ (x : Level). with_both (default_minima next_level.minima) (dashes utf8) x) t

-- ---- Rules.

abbrev rules : List ℕ → Bool → Level → Level → Rules
rules charset utf8 first_level next_level = record { charset = charset; utf8 = utf8; first_level = first_level; next_level = next_level }

pub one_level : (charset : List ℕ) (utf8 : Bool) (lines : List (List ℕ)) (first_level next_level : Level) → list_any is_next_level lines ≡ false → next_level ≡ level_of utf8 lines → first_level ≡ default_first_level utf8 next_level
    → rules charset utf8 first_level next_level ≡ rules_of_lines charset utf8 lines
one_level charset utf8 lines first_level next_level none b t =
    rw none (ap (λ (x : Level). rules charset utf8 x next_level) (t ∙ ap (default_first_level utf8) b) ∙ ap (λ (x : Level). rules charset utf8 (default_first_level utf8 (level_of utf8 lines)) x) b)

pub two_levels : (charset : List ℕ) (utf8 : Bool) (lines : List (List ℕ)) (first_level next_level : Level) → list_any is_next_level lines ≡ true
    → first_level ≡ level_of utf8 (before_first is_next_level lines) → next_level ≡ level_of utf8 (before_first is_next_level (after_first is_next_level lines))
    → rules charset utf8 first_level next_level ≡ rules_of_lines charset utf8 lines
two_levels charset utf8 lines first_level next_level some t b =
    rw some (ap (λ (x : Level). rules charset utf8 x next_level) t ∙ ap (λ (x : Level). rules charset utf8 (level_of utf8 (before_first is_next_level lines)) x) b)

rules_of_none : (bytes : List ℕ) → lines_of bytes ≡ [] → rules_of bytes ≡ rules_of_lines [] (is_utf8_name []) []
unfolding rules_of
rules_of_none bytes e = rw e refl

rules_of_some : (bytes first : List ℕ) (rest : List (List ℕ)) → lines_of bytes ≡ first ∷ rest → rules_of bytes ≡ rules_of_lines (charset_of first) (is_utf8_name (charset_of first)) rest
unfolding rules_of
rules_of_some bytes first rest e = rw e refl

pub loaded_none : (bytes : List ℕ) (lines : List (Bor (List ℕ))) → texts lines ≡ lines_of bytes → length lines ≡ 0 → rules_of_lines [] (is_utf8_name []) [] ≡ rules_of bytes
loaded_none bytes [] are none = sym (rules_of_none bytes (sym are))
loaded_none bytes (x ∷ xs) are none = absurd (omega (arith, none))

pub loaded_some : (bytes : List ℕ) (lines : List (Bor (List ℕ))) (d : Bor (List ℕ)) (charset : List ℕ) → texts lines ≡ lines_of bytes → 1 ≤ length lines
    → charset ≡ charset_of (get_or lines 0 d).now → rules_of_lines charset (is_utf8_name charset) (texts (take (length lines - 1) (drop 1 lines))) ≡ rules_of bytes
loaded_some bytes [] d charset are some c = absurd (omega (arith, some))
loaded_some bytes (x ∷ xs) d charset are some c =
    ap (λ k. rules_of_lines k (is_utf8_name k) (texts (take (length (x ∷ xs) - 1) xs))) c
    ∙ ap (λ (k : List (Bor (List ℕ))). rules_of_lines (charset_of x.now) (is_utf8_name (charset_of x.now)) (texts k)) (rest_is (x ∷ xs) 1)
    ∙ sym (rules_of_some bytes x.now (texts xs) (sym are))
