-- The dictionaries that folders have for codes.
use Rattle.std.proofs.Common.{◌≡◌, ◌∙◌, ℕ, ◌+◌, ◌<◌, ◌≤◌, ◌==◌, Bool, false, List, [], ◌∷◌, ◌++◌, length, map, take, get_or, refl, sym, ap, subst, inl, inr, append_assoc, append-nil}
use Rattle.std.specs.Option.{option_map, option_map_or}
use Rattle.std.specs.Prelude.{Contains, IfSome, None, Option, Some}
use Rattle.std.specs.String.{string_bytes}
use Rattle.std.specs.declared.string.String.{String}
use Rattle.std.proofs.lemmas.List.{get_or-map, length-map, map_more, take_all}
use Rattle.std.proofs.lemmas.List.Elements.{All-append, All-cons, All-nil, All-push, All-weaker, Contains-append_left, Contains-append_right, Contains-get_or, Contains-push}
use Rattle.command_line.specs.Adjustments.{Adjustments}
use Rattle.command_line.specs.Dictionaries.{KnownFiles}
use Rattle.hyphenation_html.specs.declared.languages.LanguageDictionary.{LanguageDictionary}
use Rattle.language_search.specs.Tags.{codes_of}
use Rattle.html_command.specs.Arguments.{ParsedOptions}
use Rattle.html_command.specs.Private.Found.{AddsFoundFor}
use Rattle.html_command.specs.Private.Requests.{parsed_dictionary}
use Rattle.html_command.specs.declared.request.GivenDictionary.{GivenDictionary}
use Rattle.html_command.specs.Dictionaries.{AreDictionariesFor, AreGiven, AreSearched, AreServed, BeginsWith, IsFirstOf, IsFoundFor, IsFoundIn, IsServed, AddsFound, code_of, folders_for}

pub adds_none : (bytes_of : KnownFiles) (adjustments : Adjustments) (folders : List (List ℕ)) (tag : List ℕ) (all : List LanguageDictionary) → AddsFoundFor bytes_of folders adjustments tag all all
adds_none bytes_of adjustments folders tag all = ([], sym (append-nil all), All-nil (IsFoundFor bytes_of folders adjustments tag))

pub adds_one : (bytes_of : KnownFiles) (adjustments : Adjustments) (folders : List (List ℕ)) (tag : List ℕ) (before all : List LanguageDictionary) (language : LanguageDictionary)
    → all ≡ before ++ language ∷ [] → IsFoundFor bytes_of folders adjustments tag language → AddsFoundFor bytes_of folders adjustments tag before all
adds_one bytes_of adjustments folders tag before all language e h =
    (language ∷ [], e, All-cons (IsFoundFor bytes_of folders adjustments tag) language [] h (All-nil (IsFoundFor bytes_of folders adjustments tag)))

-- A dictionary that is found for one of the codes of a tag.
pub found_so : (bytes_of : KnownFiles) (adjustments : Adjustments) (folders : List (List ℕ)) (tag : List ℕ) (codes items : List (List ℕ)) (i : ℕ) (code : List ℕ)
    (found : Option LanguageDictionary) (one : LanguageDictionary) → i < length codes → code ≡ get_or codes i code → codes ≡ items → items ≡ codes_of tag
    → found ≡ Some one → IfSome found (λ one. code_of one ≡ code) → IsFirstOf bytes_of folders adjustments code (option_map (λ one. one.dictionary) found)
    → IsFoundFor bytes_of folders adjustments tag one
found_so bytes_of adjustments folders tag codes items i code found one lt at shown are is named first =
    let same : code_of one ≡ code = subst (λ (f : Option LanguageDictionary). IfSome f (λ one. code_of one ≡ code)) is named in
    let own : IsFirstOf bytes_of folders adjustments code (Some one.dictionary) =
    subst (λ (f : Option LanguageDictionary). IsFirstOf bytes_of folders adjustments code (option_map (λ one. one.dictionary) f)) is first in
    let has : Contains codes code = subst (λ (c : List ℕ). Contains codes c) (sym at) (Contains-get_or codes i code lt) in
    let there : Contains (codes_of tag) code = subst (λ (cs : List (List ℕ)). Contains cs code) (shown ∙ are) has in (
      subst (λ (c : List ℕ). Contains (codes_of tag) c) (sym same) there,
      subst (λ (c : List ℕ). IsFirstOf bytes_of folders adjustments c (Some one.dictionary)) (sym same) own,
    )

-- A dictionary that is found for one of some tags is found for these.
pub adds_for : (bytes_of : KnownFiles) (adjustments : Adjustments) (folders tags : List (List ℕ)) (tag : List ℕ) (before all : List LanguageDictionary)
    → Contains tags tag → AddsFoundFor bytes_of folders adjustments tag before all → AddsFound bytes_of folders adjustments tags before all
adds_for bytes_of adjustments folders tags tag before all has (rest, e, h) =
    (rest, e, All-weaker (IsFoundFor bytes_of folders adjustments tag) (IsFoundIn bytes_of folders adjustments tags) (λ language found. (tag, has, found)) rest h)

map_both : (xs ys : List LanguageDictionary) → map code_of (xs ++ ys) ≡ map code_of xs ++ map code_of ys
map_both [] ys = refl
map_both (x ∷ xs) ys = ap (λ codes. code_of x ∷ codes) (map_both xs ys)

-- The languages begin with those before.
pub begins_added : (bytes_of : KnownFiles) (adjustments : Adjustments) (folders tags : List (List ℕ)) (before all : List LanguageDictionary)
    → AddsFound bytes_of folders adjustments tags before all → BeginsWith (map code_of all) (map code_of before)
begins_added bytes_of adjustments folders tags before all (rest, e, h) = (map code_of rest, ap (map code_of) e ∙ map_both before rest)

pub adds_more : (bytes_of : KnownFiles) (adjustments : Adjustments) (folders tags : List (List ℕ)) (before middle all : List LanguageDictionary)
    → AddsFound bytes_of folders adjustments tags before middle → AddsFound bytes_of folders adjustments tags middle all → AddsFound bytes_of folders adjustments tags before all
adds_more bytes_of adjustments folders tags before middle all (first, e, h) (more, f, k) =
    (first ++ more, f ∙ ap (λ xs. xs ++ more) e ∙ append_assoc before first more, All-append (IsFoundIn bytes_of folders adjustments tags) first more h k)

-- ---- tags that are served

served_with : (bytes_of : KnownFiles) (folders there more codes : List (List ℕ)) → IsServed bytes_of folders there codes
    → IsServed bytes_of folders (there ++ more) codes
served_with bytes_of folders there more [] h = tt
served_with bytes_of folders there more (code ∷ codes) (inl has) = inl (Contains-append_left there more code has)
served_with bytes_of folders there more (code ∷ codes) (inr (none, h)) = inr (none, served_with bytes_of folders there more codes h)

-- Tags stay served where dictionaries are added.
served_still : (bytes_of : KnownFiles) (folders there all tags : List (List ℕ)) → BeginsWith all there → AreServed bytes_of folders there tags
    → AreServed bytes_of folders all tags
served_still bytes_of folders there all tags (more, e) h =
    subst (λ all. AreServed bytes_of folders all tags) (sym e)
    (All-weaker (λ tag. IsServed bytes_of folders there (codes_of tag)) (λ tag. IsServed bytes_of folders (there ++ more) (codes_of tag))
    (λ tag. served_with bytes_of folders there more (codes_of tag)) tags h)

-- The tag that the arguments name.
pub named_first : (bytes_of : KnownFiles) (adjustments : Adjustments) (folders : List (List ℕ)) (tag : List ℕ) (names : List (List ℕ)) (before all : List LanguageDictionary)
    → AddsFoundFor bytes_of folders adjustments tag before all → AddsFound bytes_of folders adjustments (tag ∷ names) before all
named_first bytes_of adjustments folders tag names before all found =
    adds_for bytes_of adjustments folders (tag ∷ names) tag before all (Contains-append_left (tag ∷ []) names tag (Contains-push [] tag)) found

pub served_first : (bytes_of : KnownFiles) (folders there : List (List ℕ)) (tag : List ℕ) → IsServed bytes_of folders there (codes_of tag)
    → AreServed bytes_of folders there (tag ∷ [])
served_first bytes_of folders there tag h =
    All-push (λ tag. IsServed bytes_of folders there (codes_of tag)) [] tag (All-nil (λ tag. IsServed bytes_of folders there (codes_of tag))) h

-- One more tag that the page names.
pub named_more : {Z : Type 0} (bytes_of : KnownFiles) (adjustments : Adjustments) (folders : List (List ℕ)) (tag named : List ℕ) (names : List (String Z)) (i : ℕ) (name : String Z)
    (first before all : List LanguageDictionary) → i < length names → name ≡ get_or names i name → named ≡ string_bytes name
    → AddsFound bytes_of folders adjustments (tag ∷ map string_bytes names) first before → AreServed bytes_of folders (map code_of before) (tag ∷ map string_bytes (take i names))
    → AddsFoundFor bytes_of folders adjustments named before all → IsServed bytes_of folders (map code_of all) (codes_of named)
    → AddsFound bytes_of folders adjustments (tag ∷ map string_bytes names) first all × AreServed bytes_of folders (map code_of all) (tag ∷ map string_bytes (take (i + 1) names))
named_more bytes_of adjustments folders tag named names i name first before all lt at same found served more now =
    let tags : List (List ℕ) = tag ∷ map string_bytes names in
    let is : get_or (map string_bytes names) i named ≡ named =
    get_or-map string_bytes names i name named lt ∙ ap string_bytes (sym at) ∙ sym same in
    let has : Contains (map string_bytes names) named =
    subst (λ (bytes : List ℕ). Contains (map string_bytes names) bytes) is
    (Contains-get_or (map string_bytes names) i named (subst (λ (n : ℕ). i < n) (sym (length-map names string_bytes)) lt)) in
    let added : AddsFound bytes_of folders adjustments tags before all = adds_for bytes_of adjustments folders tags named before all (Contains-append_right (tag ∷ []) (map string_bytes names) named has) more in
    let longer : map string_bytes (take (i + 1) names) ≡ map string_bytes (take i names) ++ named ∷ [] =
    map_more string_bytes names i name lt ∙ ap (λ n. map string_bytes (take i names) ++ n ∷ []) (ap string_bytes (sym at) ∙ sym same) in
    let P : List ℕ → Type 0 = λ tag. IsServed bytes_of folders (map code_of all) (codes_of tag) in
    let kept : AreServed bytes_of folders (map code_of all) (tag ∷ map string_bytes (take i names)) =
    served_still bytes_of folders (map code_of before) (map code_of all) (tag ∷ map string_bytes (take i names)) (begins_added bytes_of adjustments folders tags before all added) served in (
      adds_more bytes_of adjustments folders tags first before all found added,
      subst (λ names. AreServed bytes_of folders (map code_of all) (tag ∷ names)) (sym longer) (All-push P (tag ∷ map string_bytes (take i names)) named kept now),
    )

-- All tags of the page.
pub found_for_all : {Z : Type 0} (bytes_of : KnownFiles) (adjustments : Adjustments) (folders : List (List ℕ)) (tag : List ℕ) (names items : List (String Z)) (named : List (List ℕ)) (before all : List LanguageDictionary)
    → names ≡ items → map string_bytes items ≡ named → AddsFound bytes_of folders adjustments (tag ∷ map string_bytes names) before all → AddsFound bytes_of folders adjustments (tag ∷ named) before all
found_for_all bytes_of adjustments folders tag names items named before all same are found =
    subst (λ tags. AddsFound bytes_of folders adjustments (tag ∷ tags) before all) (ap (map string_bytes) same ∙ are) found

pub served_all : {Z : Type 0} (bytes_of : KnownFiles) (folders there : List (List ℕ)) (tag : List ℕ) (names items : List (String Z)) (named : List (List ℕ)) (i : ℕ) → length names ≤ i
    → names ≡ items → map string_bytes items ≡ named → AreServed bytes_of folders there (tag ∷ map string_bytes (take i names)) → AreServed bytes_of folders there (tag ∷ named)
served_all bytes_of folders there tag names items named i le same are served =
    subst (λ tags. AreServed bytes_of folders there (tag ∷ tags)) (ap (map string_bytes) (take_all i names le ∙ same) ∙ are) served

-- ---- the dictionaries of a run

-- The dictionaries of a run whose arguments name a folder.
pub found_in_folder_of : (bytes_of : KnownFiles) (args : ParsedOptions) (usual tags : List (List ℕ)) (folder : List ℕ)
    (given : List GivenDictionary) (before all : List LanguageDictionary) → args.given ≡ map parsed_dictionary given → args.folder ≡ Some folder
    → AreGiven bytes_of args.adjustments (map parsed_dictionary given) before → AddsFound bytes_of (folder ∷ []) args.adjustments tags before all
    → AreServed bytes_of (folder ∷ []) (map code_of all) tags → AreDictionariesFor bytes_of args usual tags all
found_in_folder_of bytes_of args usual tags folder given before all e f h k served =
    let own : AreGiven bytes_of args.adjustments args.given before = subst (λ given. AreGiven bytes_of args.adjustments given before) (sym e) h in
    let found : AddsFound bytes_of (folders_for args usual) args.adjustments tags before all =
    subst (λ named. AddsFound bytes_of (option_map_or (λ folder. folder ∷ []) named usual) args.adjustments tags before all) (sym f) k in
    let are : AreServed bytes_of (folders_for args usual) (map code_of all) tags =
    subst (λ named. AreServed bytes_of (option_map_or (λ folder. folder ∷ []) named usual) (map code_of all) tags) (sym f) served in
    (before, own, found, λ searched. are)

-- The dictionaries of a run whose arguments name no folder.
pub found_in_usual : (bytes_of : KnownFiles) (args : ParsedOptions) (usual tags : List (List ℕ))
    (given : List GivenDictionary) (before all : List LanguageDictionary) → args.given ≡ map parsed_dictionary given → args.folder ≡ None
    → AreGiven bytes_of args.adjustments (map parsed_dictionary given) before → AddsFound bytes_of usual args.adjustments tags before all
    → AreServed bytes_of usual (map code_of all) tags → AreDictionariesFor bytes_of args usual tags all
found_in_usual bytes_of args usual tags given before all e f h k served =
    let own : AreGiven bytes_of args.adjustments args.given before = subst (λ given. AreGiven bytes_of args.adjustments given before) (sym e) h in
    let found : AddsFound bytes_of (folders_for args usual) args.adjustments tags before all =
    subst (λ named. AddsFound bytes_of (option_map_or (λ folder. folder ∷ []) named usual) args.adjustments tags before all) (sym f) k in
    let are : AreServed bytes_of (folders_for args usual) (map code_of all) tags =
    subst (λ named. AreServed bytes_of (option_map_or (λ folder. folder ∷ []) named usual) (map code_of all) tags) (sym f) served in
    (before, own, found, λ searched. are)

not_searched : (args : ParsedOptions) → (args.given ≡ [] → ⊥) → args.folder ≡ None → AreSearched args → ⊥
not_searched args some none (inl nothing) = some nothing
not_searched args some none (inr folder) = folder none

none_parsed : (given : List GivenDictionary) → map parsed_dictionary given ≡ [] → given ≡ []
none_parsed [] e = refl
none_parsed (one ∷ given) e = absurd (cc e)

pub given_some : (given : List GivenDictionary) (n : ℕ) (none : Bool) → n ≡ length given → none ≡ (n == 0) → none ≡ false → given ≡ [] → ⊥
given_some [] n none same is not nothing = absurd (cc (sym not ∙ is ∙ ap (λ m. m == 0) same))
given_some (one ∷ given) n none same is not nothing = absurd (cc nothing)

-- No dictionary but the given ones.
pub given_only : (bytes_of : KnownFiles) (args : ParsedOptions) (usual tags : List (List ℕ))
    (given : List GivenDictionary) (all : List LanguageDictionary) → args.given ≡ map parsed_dictionary given → (given ≡ [] → ⊥) → args.folder ≡ None
    → AreGiven bytes_of args.adjustments (map parsed_dictionary given) all → AreDictionariesFor bytes_of args usual tags all
given_only bytes_of args usual tags given all e some none h = (
  all,
  subst (λ given. AreGiven bytes_of args.adjustments given all) (sym e) h,
  ([], sym (append-nil all), All-nil (IsFoundIn bytes_of (folders_for args usual) args.adjustments tags)),
  λ searched. absurd (not_searched args (λ nothing. some (none_parsed given (sym e ∙ nothing))) none searched),
)
