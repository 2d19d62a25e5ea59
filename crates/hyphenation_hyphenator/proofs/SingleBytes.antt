-- Words of ASCII that have no more bytes than the left minimum have no breaks.
use Rattle.std.proofs.Common.{◌≡◌, ℕ, ◌<◌, ◌≤◌, ◌==◌, true, List, [], ◌∷◌, length, map, get_or, None, refl, ap, ◌∙◌, arith, inl}
use Rattle.std.specs.Char.{to_ascii_lowercase}
use Rattle.std.specs.Option.{option_map_or}
use Rattle.std.specs.Str.{IsAscii}
use Rattle.std.proofs.lemmas.Bool.{cond-true}
use Rattle.std.proofs.lemmas.List.{length-map}
use Rattle.std.proofs.lemmas.Str.Ascii.{IsAscii-cons, IsAscii-nil}
use Rattle.hyphenation_breaks.specs.Break.{plain_break}
use Rattle.hyphenation_hyphenator.specs.Fitting.{kept_breaks, fitted_breaks, fitted_breaks_of}
use Rattle.hyphenation_hyphenator.specs.Folding.{fold_case}
use Rattle.hyphenation_hyphenator.specs.Opportunities.{Rules, boundaries_by, opportunities, opportunities_in, break_carried_back, breaks_as_written}
use Rattle.hyphenation_hyphenator.specs.SoftHyphens.{soft_hyphens}
use Rattle.hyphenation_hyphenator.proofs.AsciiWords.{ascii_fold, fold_is_ascii, ascii_no_bounds}
use Rattle.hyphenation_hyphenator.proofs.SoftHyphens.{none_in_ascii}

pub one_byte : (bytes : List ℕ) → length bytes ≡ 1 → get_or bytes 0 0 < 128 → IsAscii bytes
one_byte [] e lt = absurd (omega (arith, e))
one_byte (b ∷ []) e lt = IsAscii-cons b [] lt IsAscii-nil
one_byte (b ∷ (c ∷ cs)) e lt = absurd (omega (arith, e))

none_found : (rules : Rules) (word : List ℕ) → boundaries_by rules word ≡ None → opportunities rules word ≡ []
unfolding opportunities
none_found rules word e = ap (λ bounds. option_map_or (opportunities_in rules word) bounds []) e

none_kept : (word : List ℕ) → fitted_breaks word [] ≡ []
unfolding fitted_breaks kept_breaks
none_kept word = refl

pub no_breaks : (rules : Rules) (word : List ℕ) → IsAscii word → length word ≤ rules.minima.0 → fitted_breaks_of rules word ≡ []
unfolding fitted_breaks_of breaks_as_written
no_breaks rules word a short =
    let folded : List ℕ = fold_case word in
    let wide : length folded ≡ length word = ap length (ascii_fold word a) ∙ length-map word to_ascii_lowercase in
    let none : opportunities rules folded ≡ [] = none_found rules folded (ascii_no_bounds rules.minima.0 rules.minima.1 folded (fold_is_ascii word a) (inl (omega (arith, wide, short)))) in
    let no_hyphens : (length (soft_hyphens word) == 0) ≡ true = ap (λ xs. length xs == 0) (none_in_ascii word a) in
    cond-true (length (soft_hyphens word) == 0) (map (break_carried_back word) (fitted_breaks word (opportunities rules folded))) (map plain_break (soft_hyphens word)) no_hyphens
    ∙ ap (λ found. map (break_carried_back word) (fitted_breaks word found)) none ∙ ap (map (break_carried_back word)) (none_kept word)
