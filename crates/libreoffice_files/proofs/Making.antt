-- The dictionary of lines, put together of its parts.
use Rattle.std.proofs.Common.{◌≡◌, ◌∙◌, ℕ, List, [], map, Option, ap}
use Rattle.std.specs.List.{filter_map}
use Rattle.std.specs.declared.vec.Vec.{Vec}
use Rattle.hyphenation_breaks.specs.Break.{Change}
use Rattle.hyphenation_breaks.specs.Dictionary.{Contents}
use Rattle.pattern_results.specs.Parts.{SpeltWords, contents_made}
use Rattle.libreoffice_files.specs.LibreOfficeLines.{settings_of, minimum_set, minimum_of}
use Rattle.libreoffice_files.specs.LibreOfficePatterns.{Spelt}
use Rattle.libreoffice_files.specs.LibreOffice.{all_patterns, lines_of_dic, kept_in, contents_of_dic}
use Rattle.libreoffice_files.specs.Private.Views.{with_keys}
use Rattle.libreoffice_files.specs.Private.Views.{keyed_view}
use Rattle.libreoffice_files.specs.declared.dic_patterns.Pattern as held

pub dictionary_made : {C B Z : Type 0} (change_of : C → Option Change) (payload_of : Option Change → C) (language : List ℕ) (left right : ℕ) (d : Contents C B) (parts new : SpeltWords C B) (ps qs : List (Vec ℕ Z × held.Pattern))
    → d ≡ contents_made language left right parts → parts ≡ with_keys new (filter_map (kept_in change_of payload_of) (map keyed_view ps)) → new ≡ record { patterns = []; exceptions = [] } → ps ≡ qs
    → d ≡ contents_made language left right (record { patterns = filter_map (kept_in change_of payload_of) (map keyed_view qs); exceptions = [] })
dictionary_made {C} {B} {Z} change_of payload_of language left right d parts new ps qs made put none same =
    made
    ∙ ap (λ (p : SpeltWords C B). contents_made language left right p) (put ∙ ap (λ (n : SpeltWords C B). with_keys n (filter_map (kept_in change_of payload_of) (map keyed_view ps))) none)
    ∙ ap (λ (xs : List (Vec ℕ Z × held.Pattern)). contents_made language left right (record { patterns = filter_map (kept_in change_of payload_of) (map keyed_view xs); exceptions = [] })) same

pub of_lines : {C B : Type 0} (change_of : C → Option Change) (payload_of : Option Change → C) (language : List ℕ) (left right : Option ℕ) (bytes : List ℕ) (d : Contents C B) (l r : ℕ) (tl tr : Option ℕ) (ps : List (List ℕ × Spelt))
    → d ≡ contents_made language l r (record { patterns = filter_map (kept_in change_of payload_of) ps; exceptions = [] })
    → l ≡ minimum_of left tl → r ≡ minimum_of right tr → tl ≡ minimum_set (settings_of (lines_of_dic bytes)).left → tr ≡ minimum_set (settings_of (lines_of_dic bytes)).right
    → ps ≡ all_patterns (lines_of_dic bytes) → d ≡ contents_of_dic change_of payload_of language left right bytes
of_lines {C} {B} change_of payload_of language left right bytes d l r tl tr ps made min_l min_r told_l told_r spelt =
    made
    ∙ (λ i.
    contents_made {C = C} {B = B} language ((min_l ∙ ap (λ (o : Option ℕ). minimum_of left o) told_l) i) ((min_r ∙ ap (λ (o : Option ℕ). minimum_of right o) told_r) i)
    (record { patterns = filter_map (kept_in change_of payload_of) (spelt i); exceptions = [] }))
