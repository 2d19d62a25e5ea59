-- The values that lines spell are digits, and so below 255.
use Rattle.std.proofs.Common.{◌≡◌, ℕ, ◌+◌, ◌-◌, ◌<◌, ◌==◌, Bool, true, false, if◌then◌else◌, List, [], ◌∷◌, ◌++◌, length, map, fold, filter, Option, Some, None, Result, Ok, Err, All, IfSome, refl, sym, subst, lit<, arith}
use Rattle.std.specs.Prelude.{option_map, unwrap_or}
use Rattle.std.specs.Option.{option_or}
use Rattle.std.specs.List.{cons_option, slice_split}
use Rattle.std.specs.Str.{trim}
use Rattle.std.proofs.lemmas.Bool.Decides.{nat_tests}
use Rattle.std.proofs.lemmas.List.Elements.{All-nil, All-cons, All-head, All-tail, All-append, All-push, All-filter}
use Rattle.hyphenation_breaks.specs.Invariant.{has_letter}
use Rattle.hyphenation_grammar.specs.Lines.{is_digit, is_same}
use Rattle.pattern_results.specs.Texts.{letters}
use Rattle.libreoffice_files.specs.LibreOfficeLines.{DicLine, settings_of}
use Rattle.libreoffice_files.specs.LibreOfficePatterns.{Spelt, begins_with_digit, value_of_digit, last_values, change_of, split_at_slash, spelt_with, pattern_with, pattern_by, pattern_of_line, patterns_of, is_within, forbidding, forbidden, last_of, with_forbidden}
use Rattle.libreoffice_files.specs.LibreOffice.{all_patterns}
use Rattle.libreoffice_files.specs.Private.Views.{has_small_values, spelt_view, keyed_view}
use Rattle.std.specs.declared.vec.Vec.{Vec}
use Rattle.libreoffice_files.specs.declared.dic_patterns.Pattern as held
use Rattle.libreoffice_files.specs.declared.change.PlacedChange.{PlacedChange}
use Rattle.libreoffice_files.specs.declared.lines.LineKind.{LineKind}
use Rattle.libreoffice_files.specs.declared.lines.LineKind.TheVariants.{Ignored, Left, Right, Level, NoHyphen, Other, Pattern}
use Rattle.pattern_results.specs.declared.notes.NoteKind.{NoteKind}
use Rattle.libreoffice_files.specs.declared.value.Value.{Value}

abbrev small : Value → Type 0
small v = v.value < 255

abbrev pub small_spelt : List ℕ × Spelt → Type 0
small_spelt p = has_small_values p.1

-- ---- Of one pattern.

digit_below : (b : ℕ) → is_digit b ≡ true → b < 303
digit_below b h = grind (arith, nat_tests)

small_digit : (t : Bool) (at b : ℕ) → b < 303 → All small (if t then [] else (record { place = at; value = b - 48 }) ∷ [])
small_digit true at b h = All-nil small
small_digit false at b h = let e : b - 48 < 255 = omega arith in All-cons small (record { place = at; value = b - 48 }) [] e (All-nil small)

small_step : (t u : Bool) (at b : ℕ) (same next : List Value) → (t ≡ true → b < 303) → All small same → All small next → All small (if t then (if u then same else value_of_digit at b ++ same) else next)
small_step true true at b same next d p q = p
small_step true false at b same next d p q = All-append small (value_of_digit at b) same (small_digit (b == 48) at b (d refl)) p
small_step false u at b same next d p q = q

small_values : (at : ℕ) (text : List ℕ) → All small (last_values at text)
small_values at [] = All-nil small
small_values at (b ∷ bs) =
    small_step (is_digit b) (begins_with_digit bs) at b (last_values at bs) (last_values (at + 1) bs) (digit_below b) (small_values at bs) (small_values (at + 1) bs)

small_with : (values : List Value) (c : Option (Result (PlacedChange × Bool) NoteKind)) → All small values → IfSome (spelt_with values c) has_small_values
small_with values None h = h
small_with values (Some (Ok found)) h = h
small_with values (Some (Err what)) h = tt

small_keyed : (key : List ℕ) (o : Option Spelt) → IfSome o has_small_values → IfSome (option_map (λ (s : Spelt). (key, s)) o) small_spelt
small_keyed key None h = tt
small_keyed key (Some s) h = h

small_if : (t : Bool) (o : Option (List ℕ × Spelt)) → IfSome o small_spelt → IfSome (if t then o else None) small_spelt
small_if true o h = h
small_if false o h = tt

small_pattern : (key : List ℕ) (values : List Value) (change : Option (List ℕ)) → All small values → IfSome (pattern_with key values change) small_spelt
small_pattern key values change h =
    let c = option_map (change_of key values) change in
    small_if (has_letter key) (option_map (λ (s : Spelt). (key, s)) (spelt_with values c)) (small_keyed key (spelt_with values c) (small_with values c h))

small_by : (kind : LineKind) (text : List ℕ) → IfSome (pattern_by kind text) small_spelt
small_by Pattern text = small_pattern (letters (split_at_slash text).0) (last_values 0 (split_at_slash text).0) (split_at_slash text).1 (small_values 0 (split_at_slash text).0)
small_by Ignored text = tt
small_by Left text = tt
small_by Right text = tt
small_by Level text = tt
small_by NoHyphen text = tt
small_by Other text = tt

-- ---- Of all.

small_more : (o : Option (List ℕ × Spelt)) (ps : List (List ℕ × Spelt)) → IfSome o small_spelt → All small_spelt ps → All small_spelt (cons_option o ps)
small_more None ps p q = q
small_more (Some x) ps p q = All-cons small_spelt x ps p q

small_lines : (lines : List DicLine) → All small_spelt (patterns_of lines)
small_lines [] = All-nil small_spelt
small_lines (line ∷ lines) = small_more (pattern_of_line line) (patterns_of lines) (small_by line.kind line.text) (small_lines lines)

small_either : (o : Option Spelt) (t : Bool) (s : Spelt) → IfSome o has_small_values → has_small_values s → IfSome (option_or o (if t then Some s else None)) has_small_values
small_either (Some x) t s p q = p
small_either None true s p q = q
small_either None false s p q = tt

small_last : (key : List ℕ) (ps : List (List ℕ × Spelt)) → All small_spelt ps → IfSome (last_of key ps) has_small_values
small_last key [] h = tt
small_last key (p ∷ ps) h =
    small_either (last_of key ps) (is_same p.0 key) p.1 (small_last key ps (All-tail small_spelt p ps h)) (All-head small_spelt p ps h)

small_forbidding : (len : ℕ) (values : List Value) → All small values → All small (forbidding len values)
small_forbidding len values h =
    All-append small (record { place = 0; value = 8 } ∷ filter (is_within len) values) ((record { place = len; value = 8 }) ∷ [])
    (All-cons small (record { place = 0; value = 8 }) (filter (is_within len) values) (lit< tt) (All-filter (is_within len) small values h))
    (All-cons small (record { place = len; value = 8 }) [] (lit< tt) (All-nil small))

small_forbidden : (text : List ℕ) (o : Option Spelt) → IfSome o has_small_values → has_small_values (forbidden text o)
small_forbidden text None h = small_forbidding (length text) [] (All-nil small)
small_forbidden text (Some s) h = small_forbidding (length text) s.values h

small_push : (t : Bool) (ps : List (List ℕ × Spelt)) (x : List ℕ × Spelt) → All small_spelt ps → small_spelt x → All small_spelt (if t then ps ++ x ∷ [] else ps)
small_push true ps x p q = All-push small_spelt ps x p q
small_push false ps x p q = p

small_fold : (texts : List (List ℕ)) (ps : List (List ℕ × Spelt)) → All small_spelt ps → All small_spelt (fold with_forbidden ps texts)
small_fold [] ps h = h
small_fold (text ∷ texts) ps h =
    small_fold texts (with_forbidden ps text) (small_push (has_letter text) ps (text, forbidden text (last_of text ps)) h (small_forbidden text (last_of text ps) (small_last text ps h)))

-- so it is with all patterns that lines spell, and with those of NOHYPHEN
pub small_all : (lines : List DicLine) → All small_spelt (all_patterns lines)
small_all lines =
    small_fold (map trim (slice_split (λ b. b == 44) (unwrap_or (settings_of lines).no_hyphen []))) (patterns_of lines) (small_lines lines)

-- ---- As they are held.

small_held : {Z : Type 0} (ps : List (Vec ℕ Z × held.Pattern)) → All small_spelt (map keyed_view ps) → All (λ p. has_small_values (spelt_view p.1)) ps
small_held [] h = All-nil (λ p. has_small_values (spelt_view p.1))
small_held (p ∷ ps) h =
    All-cons (λ p. has_small_values (spelt_view p.1)) p ps (All-head small_spelt (keyed_view p) (map keyed_view ps) h) (small_held ps (All-tail small_spelt (keyed_view p) (map keyed_view ps) h))

pub small_raw : {Z : Type 0} (ps : List (Vec ℕ Z × held.Pattern)) (lines : List DicLine) → map keyed_view ps ≡ all_patterns lines → All (λ p. has_small_values (spelt_view p.1)) ps
small_raw ps lines e = small_held ps (subst (λ (all : List (List ℕ × Spelt)). All small_spelt all) (sym e) (small_all lines))
