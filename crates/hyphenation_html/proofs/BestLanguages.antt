-- The best language is the same, whatever is beside the codes.
use Rattle.std.proofs.Common.{◌≡◌, ℕ, ◌&&◌, Bool, true, false, List, [], ◌∷◌, map, length, nat_lt, refl, ap, sym, ◌∙◌, Option, Some, None, if◌then◌else◌}
use Rattle.std.specs.Option.{option_map}
use Rattle.hyphenation_text.specs.Words.{breaks_under}
use Rattle.hyphenation_html.specs.Languages.{coded, breaking, languages_by, code_length, better, best_from, best_of, serves}
use Rattle.any_dictionary.specs.declared.AnyDictionary.{AnyDictionary}
use Rattle.hyphenation_html.specs.declared.languages.LanguageDictionary.{LanguageDictionary}
use Rattle.html_pieces.specs.Elements.{Element}
use Rattle.hyphenation_html.specs.LeftAlone.{is_left_alone}
use Rattle.hyphenation_text.specs.Texts.{marked_text}
use Rattle.hyphenation_html.specs.Private.Marked.{dictionary_in, marked_in}
use Rattle.std.specs.Option.{option_map_or}
use Rattle.hyphenation_text.specs.declared.settings.Settings.{Settings}

same_length : (settings : Settings) (best : Option (List ℕ × AnyDictionary)) → code_length (option_map (breaking settings) best) ≡ code_length best
same_length settings None = refl
same_length settings (Some language) = refl

either_alike : (settings : Settings) (c : Bool) (best : Option (List ℕ × AnyDictionary)) (language : List ℕ × AnyDictionary)
    → (if c then Some (breaking settings language) else option_map (breaking settings) best) ≡ option_map (breaking settings) (if c then Some language else best)
either_alike settings true best language = refl
either_alike settings false best language = refl

better_alike : (settings : Settings) (tag : List ℕ) (best : Option (List ℕ × AnyDictionary)) (language : List ℕ × AnyDictionary)
    → better tag (option_map (breaking settings) best) (breaking settings language) ≡ option_map (breaking settings) (better tag best language)
better_alike settings tag best language =
    ap (λ n. if serves language.0 tag && nat_lt n (length language.0) then Some (breaking settings language) else option_map (breaking settings) best) (same_length settings best)
    ∙ either_alike settings (serves language.0 tag && nat_lt (code_length best) (length language.0)) best language

from_alike : (settings : Settings) (tag : List ℕ) (best : Option (List ℕ × AnyDictionary)) (languages : List LanguageDictionary)
    → best_from tag (option_map (breaking settings) best) (languages_by settings languages) ≡ option_map (breaking settings) (best_from tag best (map coded languages))
from_alike settings tag best [] = refl
from_alike settings tag best (language ∷ languages) =
    ap (λ better_one. best_from tag better_one (languages_by settings languages)) (better_alike settings tag best (coded language))
    ∙ from_alike settings tag (better tag best (coded language)) languages

pub best_alike : (settings : Settings) (tag : List ℕ) (languages : List LanguageDictionary)
    → best_of tag (languages_by settings languages) ≡ option_map (breaking settings) (best_of tag (map coded languages))
best_alike settings tag languages = from_alike settings tag None languages

-- A text with its marks by a dictionary, if there is one.
abbrev by_found : Settings → List ℕ → List ℕ → Bool → Bool → Option (List ℕ × AnyDictionary) → List ℕ
by_found settings mark text before after found =
    option_map_or (λ l. marked_text (breaks_under settings l.1) mark before after text) found text

breaking_found : (settings : Settings) (mark text : List ℕ) (before after : Bool) (found : Option (List ℕ × AnyDictionary))
    → by_found settings mark text before after found ≡ option_map_or (λ l. marked_text l.1 mark before after text) (option_map (breaking settings) found) text
breaking_found settings mark text before after None = refl
breaking_found settings mark text before after (Some language) = refl

unless_alone : (settings : Settings) (mark text tag : List ℕ) (before after : Bool) (languages : List LanguageDictionary) (c : Bool)
    → by_found settings mark text before after (if c then None else best_of tag (map coded languages))
    ≡ (if c then text else option_map_or (λ l. marked_text l.1 mark before after text) (best_of tag (languages_by settings languages)) text)
unless_alone settings mark text tag before after languages true = refl
unless_alone settings mark text tag before after languages false =
    breaking_found settings mark text before after (best_of tag (map coded languages))
    ∙ ap (λ o. option_map_or (λ l. marked_text l.1 mark before after text) o text) (sym (best_alike settings tag languages))

-- A text in an element, by the dictionary that is found for it.
pub marked_by_found : (settings : Settings) (mark text : List ℕ) (element : Option Element) (before after : Bool) (languages : List LanguageDictionary) (found : Option (List ℕ × AnyDictionary))
    → found ≡ dictionary_in languages element text
    → option_map_or (λ l. marked_text (breaks_under settings l.1) mark before after text) found text
    ≡ marked_in (languages_by settings languages) mark element before after text
marked_by_found settings mark text None before after languages found is = ap (by_found settings mark text before after) is
marked_by_found settings mark text (Some element) before after languages found is =
    ap (by_found settings mark text before after) is ∙ unless_alone settings mark text element.language before after languages (is_left_alone element text)
