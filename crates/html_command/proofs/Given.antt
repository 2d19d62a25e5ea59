-- Dictionaries that the arguments give: one more, and their languages.
use Rattle.std.proofs.Common.{◌≡◌, ℕ, ◌+◌, ◌<◌, List, [], ◌∷◌, ◌++◌, length, map, take, get_or, refl, sym, ap, subst, ◌∙◌}
use Rattle.std.specs.List.{AllZip}
use Rattle.std.proofs.lemmas.List.{map_push, take_more}
use Rattle.any_dictionary.specs.declared.AnyDictionary.{AnyDictionary}
use Rattle.command_line.specs.Adjustments.{Adjustments}
use Rattle.command_line.specs.Dictionaries.{KnownFiles}
use Rattle.hyphenation_html.specs.declared.languages.LanguageDictionary.{LanguageDictionary}
use Rattle.html_command.specs.Dictionaries.{AreGiven, IsAt, code_of}
use Rattle.html_command.specs.Private.Requests.{parsed_dictionary}
use Rattle.html_command.specs.declared.request.GivenDictionary.{GivenDictionary}

-- One pair more. (The standard library has it for two lists of one type.)
pub pair_more : {X Y : Type 0} (R : X → Y → Type 0) (xs : List X) (ys : List Y) (x : X) (y : Y) → AllZip R xs ys → R x y → AllZip R (xs ++ x ∷ []) (ys ++ y ∷ [])
pair_more R [] [] x y h r = (r, tt)
pair_more R [] (b ∷ bs) x y h r = absurd h
pair_more R (a ∷ xs) [] x y h r = absurd h
pair_more R (a ∷ xs) (b ∷ bs) x y h r = (h.0, pair_more R xs bs x y h.1 r)

pub given_more : (bytes_of : KnownFiles) (adjustments : Adjustments) (given : List GivenDictionary) (i : ℕ) (one : GivenDictionary)
    (all next : List LanguageDictionary) (language : LanguageDictionary) (dictionary : AnyDictionary) → i < length given → one ≡ get_or given i one
    → AreGiven bytes_of adjustments (map parsed_dictionary (take i given)) all → code_of language ≡ one.language
    → language.dictionary ≡ dictionary → IsAt bytes_of adjustments one.path.now dictionary → next ≡ all ++ language ∷ []
    → AreGiven bytes_of adjustments (map parsed_dictionary (take (i + 1) given)) next
given_more bytes_of adjustments given i one all next language dictionary lt is zip code same loaded push =
    let given_are : map parsed_dictionary (take (i + 1) given) ≡ map parsed_dictionary (take i given) ++ parsed_dictionary one ∷ [] =
    ap (map parsed_dictionary) (take_more given i one lt) ∙ map_push parsed_dictionary (take i given) (get_or given i one)
    ∙ ap (λ one. map parsed_dictionary (take i given) ++ parsed_dictionary one ∷ []) (sym is) in
    let R : List ℕ × List ℕ → LanguageDictionary → Type 0 =
    λ one language. (code_of language ≡ one.0) × IsAt bytes_of adjustments one.1 language.dictionary in
    let own : IsAt bytes_of adjustments one.path.now language.dictionary = subst (λ d. IsAt bytes_of adjustments one.path.now d) (sym same) loaded in
    let both = pair_more R (map parsed_dictionary (take i given)) all (parsed_dictionary one) language zip (code, own) in
    subst (λ ones. AllZip R ones next) (sym given_are) (subst (λ ls. AllZip R (map parsed_dictionary (take i given) ++ parsed_dictionary one ∷ []) ls) (sym push) both)

pub codes_of_given : (bytes_of : KnownFiles) (adjustments : Adjustments) (given : List GivenDictionary) (all : List LanguageDictionary)
    → AreGiven bytes_of adjustments (map parsed_dictionary given) all → map code_of all ≡ map (λ one. one.language) given
codes_of_given bytes_of adjustments [] [] h = refl
codes_of_given bytes_of adjustments [] (language ∷ all) h = absurd h
codes_of_given bytes_of adjustments (one ∷ given) [] h = absurd h
codes_of_given bytes_of adjustments (one ∷ given) (language ∷ all) h =
    ap (λ code. code ∷ map code_of all) h.0.0 ∙ ap (λ codes. one.language ∷ codes) (codes_of_given bytes_of adjustments given all h.1)
