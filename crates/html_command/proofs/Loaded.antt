-- Dictionaries that are kept from page to page.
use Rattle.std.proofs.Common.{◌≡◌, ◌∙◌, ℕ, suc, ◌+◌, ◌≤◌, List, [], ◌∷◌, ◌++◌, length, map, take, drop, get_or, refl, sym, ap, subst, arith, append-nil}
use Rattle.std.specs.Option.{option_map_or}
use Rattle.std.specs.Prelude.{Err, None, Ok, OnOk, Option, Result, Some, position}
use Rattle.std.specs.Str.{bytes_eq}
use Rattle.std.proofs.lemmas.List.{length-append, length-map}
use Rattle.std.proofs.lemmas.List.Elements.{All-append, All-drop, All-get_or, All-nil, All-take, All-weaker}
use Rattle.std.proofs.lemmas.List.Quantifiers.{position-Some}
use Rattle.std.proofs.lemmas.Slice.Eq.{bytes_eq-Decides}
use Rattle.any_dictionary.specs.declared.AnyDictionary.{AnyDictionary}
use Rattle.command_line.specs.Adjustments.{Adjustments, IsAdjusted}
use Rattle.command_line.specs.Dictionaries.{IsOfFirst, KnownFiles}
use Rattle.hyphenation_html.specs.declared.languages.LanguageDictionary.{LanguageDictionary}
use Rattle.language_search.specs.Paths.{exception_paths_of_code, paths_of_code}
use Rattle.html_command.specs.Arguments.{ParsedOptions}
use Rattle.html_command.specs.Dictionaries.{AreDictionariesFor, AreGiven, IsFirstFor, IsFirstOf, IsFoundIn, code_of, folders_for}
use Rattle.html_command.specs.Private.Found.{AreFirst, AreLoaded, Takes}
use Rattle.html_command.specs.Private.Requests.{parsed_dictionary}
use Rattle.html_command.specs.declared.request.GivenDictionary.{GivenDictionary}

-- ---- one that is taken out

-- The one at the place of a code has that code.
pub code_at : (all items : List LanguageDictionary) (code : List ℕ) (found : Option ℕ) (place : ℕ) (one : LanguageDictionary)
    → found ≡ position (λ one. bytes_eq (code_of one) code) all → found ≡ Some place → all ≡ items → one ≡ get_or items place one → code_of one ≡ code
code_at all items code found place one is at same taken =
    let there = position-Some (λ one. bytes_eq (code_of one) code) all place one (sym is ∙ at) in
    ap code_of (taken ∙ ap (λ ds. get_or ds place one) (sym same)) ∙ (bytes_eq-Decides (code_of (get_or all place one)) code).0 there.1

-- Those that stay are the first still.
pub first_left : (bytes_of : KnownFiles) (adjustments : Adjustments) (folders : List (List ℕ)) (before after : List LanguageDictionary) (taken : Option LanguageDictionary)
    → Takes before after taken → AreFirst bytes_of folders adjustments before → AreFirst bytes_of folders adjustments after
first_left bytes_of adjustments folders before after None same first = subst (λ ds. AreFirst bytes_of folders adjustments ds) (sym same) first
first_left bytes_of adjustments folders before after (Some one) (place, lt, is, left) first =
    let P : LanguageDictionary → Type 0 = IsFirstFor bytes_of folders adjustments in
    subst (λ ds. AreFirst bytes_of folders adjustments ds) (sym left)
    (All-append P (take place before) (drop (suc place) before) (All-take P place before first) (All-drop P (suc place) before first))

-- The one that is taken is the first that the folders have for its code.
pub first_taken : (bytes_of : KnownFiles) (adjustments : Adjustments) (folders : List (List ℕ)) (before after : List LanguageDictionary) (one : LanguageDictionary) (code : List ℕ)
    → Takes before after (Some one) → AreFirst bytes_of folders adjustments before → code_of one ≡ code
    → IsFirstOf bytes_of folders adjustments code (Some one.dictionary)
first_taken bytes_of adjustments folders before after one code (place, lt, is, left) first same =
    let own : IsFirstFor bytes_of folders adjustments one =
    subst (λ d. IsFirstFor bytes_of folders adjustments d) (sym is) (All-get_or (IsFirstFor bytes_of folders adjustments) before place one lt first) in
    subst (λ c. IsFirstOf bytes_of folders adjustments c (Some one.dictionary)) same own

-- The first dictionary that folders have for a code, with its list and with adjustments.
pub first_adjusted : (bytes_of : KnownFiles) (folders : List (List ℕ)) (adjustments : Adjustments) (code : List ℕ) (paths lists : List (List ℕ))
    (found : Option AnyDictionary) (named dictionary shown : AnyDictionary) → paths ≡ paths_of_code folders code → lists ≡ exception_paths_of_code folders code
    → found ≡ Some named → IsOfFirst bytes_of paths found → IsAdjusted bytes_of lists adjustments named dictionary → shown ≡ dictionary
    → IsFirstOf bytes_of folders adjustments code (Some shown)
first_adjusted bytes_of folders adjustments code paths lists found named dictionary shown of_code of_lists is first adjusted same =
    let at : IsOfFirst bytes_of paths (Some named) = subst (λ (f : Option AnyDictionary). IsOfFirst bytes_of paths f) is first in
    let own : IsAdjusted bytes_of lists adjustments named shown = subst (λ (d : AnyDictionary). IsAdjusted bytes_of lists adjustments named d) (sym same) adjusted in (
      named,
      subst (λ (ps : List (List ℕ)). IsOfFirst bytes_of ps (Some named)) of_code at,
      subst (λ (ls : List (List ℕ)). IsAdjusted bytes_of ls adjustments named shown) of_lists own,
    )

-- A property that holds holds after success, too.
pub on_ok : {A E : Type 0} {Q : Type 0} (result : Result A E) → Q → OnOk result Q
on_ok (Ok value) q = q
on_ok (Err error) q = tt

-- ---- those of a page that are set aside

as_many : (bytes_of : KnownFiles) (adjustments : Adjustments) (given : List (List ℕ × List ℕ)) (all : List LanguageDictionary) → AreGiven bytes_of adjustments given all → length given ≡ length all
as_many bytes_of adjustments [] [] are = refl
as_many bytes_of adjustments [] (one ∷ all) are = absurd are
as_many bytes_of adjustments (one ∷ given) [] are = absurd are
as_many bytes_of adjustments (one ∷ given) (language ∷ all) are = ap suc (as_many bytes_of adjustments given all are.1)

take_front : (xs ys : List LanguageDictionary) → take (length xs) (xs ++ ys) ≡ xs
take_front [] ys = refl
take_front (x ∷ xs) ys = ap (λ more. x ∷ more) (take_front xs ys)

drop_front : (xs ys : List LanguageDictionary) → drop (length xs) (xs ++ ys) ≡ ys
drop_front [] ys = refl
drop_front (x ∷ xs) ys = drop_front xs ys

pub as_many_parsed : (given : List GivenDictionary) (n : ℕ) → n ≡ length given → n ≡ length (map parsed_dictionary given)
as_many_parsed given n same = same ∙ sym (length-map given parsed_dictionary)

-- Those that the arguments give are among those of a page.
pub given_there : (bytes_of : KnownFiles) (options : ParsedOptions) (usual : List (List ℕ)) (all others : List LanguageDictionary) (n : ℕ)
    → n ≡ length options.given → AreLoaded bytes_of options usual all others → n ≤ length all
given_there bytes_of options usual all others n count (given, are, (found, e, first), more) =
    let there : length all ≡ length given + length found = ap length e ∙ length-append given found in
    let same : n ≡ length given = count ∙ as_many bytes_of options.adjustments options.given given are in
    omega (arith, there, same)

-- They are those that stay.
pub given_left : (bytes_of : KnownFiles) (options : ParsedOptions) (usual : List (List ℕ)) (all others left : List LanguageDictionary) (n : ℕ)
    → n ≡ length options.given → left ≡ take n all → AreLoaded bytes_of options usual all others → AreGiven bytes_of options.adjustments options.given left
given_left bytes_of options usual all others left n count are_left (given, are, (found, e, first), more) =
    let same : n ≡ length given = count ∙ as_many bytes_of options.adjustments options.given given are in
    subst (λ ds. AreGiven bytes_of options.adjustments options.given ds)
    (sym (are_left ∙ ap (λ k. take k all) same ∙ ap (λ ds. take (length given) ds) e ∙ take_front given found)) are

-- Those that are set aside are the first that the folders have.
pub first_aside : (bytes_of : KnownFiles) (options : ParsedOptions) (usual : List (List ℕ)) (all others after : List LanguageDictionary) (n : ℕ)
    → n ≡ length options.given → after ≡ others ++ drop n all → AreLoaded bytes_of options usual all others
    → AreFirst bytes_of (folders_for options usual) options.adjustments after
first_aside bytes_of options usual all others after n count aside (given, are, (found, e, first), more) =
    let same : n ≡ length given = count ∙ as_many bytes_of options.adjustments options.given given are in
    subst (λ ds. AreFirst bytes_of (folders_for options usual) options.adjustments ds)
    (sym (aside ∙ ap (λ ds. others ++ ds) (ap (λ k. drop k all) same ∙ ap (λ ds. drop (length given) ds) e ∙ drop_front given found)))
    (All-append (IsFirstFor bytes_of (folders_for options usual) options.adjustments) others found more first)

-- ---- those of a run

-- Before the first page only those that the arguments give are loaded.
pub loaded_given : (bytes_of : KnownFiles) (options : ParsedOptions) (usual : List (List ℕ)) (all : List LanguageDictionary)
    → AreGiven bytes_of options.adjustments options.given all → AreLoaded bytes_of options usual all []
loaded_given bytes_of options usual all are =
    let P : LanguageDictionary → Type 0 = IsFirstFor bytes_of (folders_for options usual) options.adjustments in
    (all, are, ([], sym (append-nil all), All-nil P), All-nil P)

-- After a page those are loaded that it has, and others.
pub loaded_after : (bytes_of : KnownFiles) (options : ParsedOptions) (usual tags : List (List ℕ)) (all others : List LanguageDictionary)
    → AreDictionariesFor bytes_of options usual tags all → AreFirst bytes_of (folders_for options usual) options.adjustments others
    → AreLoaded bytes_of options usual all others
loaded_after bytes_of options usual tags all others (given, are, (rest, e, found), served) first =
    let folders : List (List ℕ) = folders_for options usual in
    (given, are, (rest, e, All-weaker (IsFoundIn bytes_of folders options.adjustments tags) (IsFirstFor bytes_of folders options.adjustments) (λ language is. is.2.1) rest found), first)

-- ---- the folders that are searched

pub first_in_folder : (bytes_of : KnownFiles) (options : ParsedOptions) (usual : List (List ℕ)) (folder : List ℕ) (all : List LanguageDictionary)
    → options.folder ≡ Some folder → AreFirst bytes_of (folders_for options usual) options.adjustments all → AreFirst bytes_of (folder ∷ []) options.adjustments all
first_in_folder bytes_of options usual folder all e first =
    subst (λ named. AreFirst bytes_of (option_map_or (λ folder. folder ∷ []) named usual) options.adjustments all) e first

pub first_for_folder : (bytes_of : KnownFiles) (options : ParsedOptions) (usual : List (List ℕ)) (folder : List ℕ) (all : List LanguageDictionary)
    → options.folder ≡ Some folder → AreFirst bytes_of (folder ∷ []) options.adjustments all → AreFirst bytes_of (folders_for options usual) options.adjustments all
first_for_folder bytes_of options usual folder all e first =
    subst (λ named. AreFirst bytes_of (option_map_or (λ folder. folder ∷ []) named usual) options.adjustments all) (sym e) first

pub first_in_usual : (bytes_of : KnownFiles) (options : ParsedOptions) (usual : List (List ℕ)) (all : List LanguageDictionary)
    → options.folder ≡ None → AreFirst bytes_of (folders_for options usual) options.adjustments all → AreFirst bytes_of usual options.adjustments all
first_in_usual bytes_of options usual all e first =
    subst (λ named. AreFirst bytes_of (option_map_or (λ folder. folder ∷ []) named usual) options.adjustments all) e first

pub first_for_usual : (bytes_of : KnownFiles) (options : ParsedOptions) (usual : List (List ℕ)) (all : List LanguageDictionary)
    → options.folder ≡ None → AreFirst bytes_of usual options.adjustments all → AreFirst bytes_of (folders_for options usual) options.adjustments all
first_for_usual bytes_of options usual all e first =
    subst (λ named. AreFirst bytes_of (option_map_or (λ folder. folder ∷ []) named usual) options.adjustments all) (sym e) first
