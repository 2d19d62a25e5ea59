-- Lists that begin with others, and the languages of a run.
use Rattle.std.proofs.Common.{◌≡◌, ℕ, List, [], ◌∷◌, ◌++◌, map, refl, sym, ◌∙◌, ap, append_assoc, append-nil}
use Rattle.std.specs.Prelude.{Some}
use Rattle.html_command.specs.Arguments.{ParsedOptions}
use Rattle.html_command.specs.Dictionaries.{BeginsWith, HasCodesOf}
use Rattle.html_command.specs.Private.Requests.{parsed_dictionary}
use Rattle.html_command.specs.declared.request.GivenDictionary.{GivenDictionary}

pub begins_itself : (all : List (List ℕ)) → BeginsWith all all
begins_itself all = ([], sym (append-nil all))

pub begins_with_one_more : (all front : List (List ℕ)) (one : List ℕ) → all ≡ front ++ one ∷ [] → BeginsWith all front
begins_with_one_more all front one e = (one ∷ [], e)

pub begins_with_less : (all middle front : List (List ℕ)) → BeginsWith all middle → BeginsWith middle front
    → BeginsWith all front
begins_with_less all middle front more less =
    (less.0 ++ more.0, more.1 ∙ ap (λ xs. xs ++ more.0) less.1 ∙ append_assoc front less.0 more.0)

codes_of_parsed : (given : List GivenDictionary)
    → map (λ one. one.language) given ≡ map (λ one. one.0) (map parsed_dictionary given)
codes_of_parsed [] = refl
codes_of_parsed (one ∷ given) = ap (λ codes. one.language ∷ codes) (codes_of_parsed given)

begins_with_parsed : (given : List GivenDictionary) (all before : List (List ℕ)) → before ≡ map (λ one. one.language) given
    → BeginsWith all before → BeginsWith all (map (λ one. one.0) (map parsed_dictionary given))
begins_with_parsed given all before loaded begins =
    (begins.0, begins.1 ∙ ap (λ codes. codes ++ begins.0) (loaded ∙ codes_of_parsed given))

pub with_folder : (args : ParsedOptions) (given : List GivenDictionary) (all before : List (List ℕ)) (folder : List ℕ)
    → args.given ≡ map parsed_dictionary given → args.folder ≡ Some folder → before ≡ map (λ one. one.language) given
    → BeginsWith all before → HasCodesOf args all
with_folder args given all before folder e f loaded begins =
    let front : BeginsWith all (map (λ one. one.0) args.given) = rw e (begins_with_parsed given all before loaded begins) in
    (front, λ some none. absurd (cc (f, none)))

pub without_given : (args : ParsedOptions) (given : List GivenDictionary) (all before : List (List ℕ))
    → args.given ≡ map parsed_dictionary given → given ≡ [] → before ≡ map (λ one. one.language) given
    → BeginsWith all before → HasCodesOf args all
without_given args given all before e nothing loaded begins =
    let front : BeginsWith all (map (λ one. one.0) args.given) = rw e (begins_with_parsed given all before loaded begins) in
    (front, λ some none. absurd (some (e ∙ ap (λ given. map parsed_dictionary given) nothing)))

pub given_alone : (args : ParsedOptions) (given : List GivenDictionary) (all : List (List ℕ))
    → args.given ≡ map parsed_dictionary given → all ≡ map (λ one. one.language) given → HasCodesOf args all
given_alone args given all e loaded =
    let same : all ≡ map (λ one. one.0) args.given =
    loaded ∙ codes_of_parsed given ∙ ap (λ given. map (λ one. one.0) given) (sym e) in
    (([], same ∙ sym (append-nil (map (λ one. one.0) args.given))), λ some none. same)
