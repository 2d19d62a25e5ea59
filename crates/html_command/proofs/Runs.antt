-- The results and the failures of a run.
use Rattle.std.proofs.Common.{◌≡◌, ℕ, ◌+◌, ◌<◌, suc, List, [], ◌∷◌, ◌++◌, length, map, take, get_or, Option, refl, sym, ap, subst, inl, inr, ◌∙◌, arith, append_assoc, append-nil}
use Rattle.std.specs.List.{AllZip}
use Rattle.std.specs.String.{string_bytes}
use Rattle.std.specs.declared.string.String.{String}
use Rattle.std.proofs.lemmas.List.{length-map, map_more, map_push}
use Rattle.command_line.specs.Dictionaries.{KnownFiles}
use Rattle.command_line.specs.Inputs.{AreTextsOf, IsFailureOfInput}
use Rattle.command_line.specs.declared.failure.Failure.{Failure}
use Rattle.command_line.specs.declared.failure.Failure.TheVariants as failed
use Rattle.hyphenation_text.specs.Laws.{IsPageWithMarks, soft_hyphen}
use Rattle.hyphenation_html.specs.Places.{IsDone, marked_page}
use Rattle.hyphenation_html.specs.declared.languages.LanguageDictionary.{LanguageDictionary}
use Rattle.text_results.specs.Files.{WrittenFiles}
use Rattle.text_results.specs.Texts.{IsFailureAmong, left_after}
use Rattle.text_results.specs.Written.{IsFailureFor}
use Rattle.html_command.specs.Arguments.{ParsedArgs}
use Rattle.html_command.specs.Dictionaries.{AreDictionariesFor, HasCodesOf, IsRefusedFor, code_of, tags_for}
use Rattle.html_command.specs.Notes.{MarkedPage, notes_at, notes_from, notes_on, notes_told}
use Rattle.html_command.specs.Private.Requests.{parsed_options}
use Rattle.html_command.specs.Private.Runs.{AreOf}
use Rattle.html_command.specs.Written.{AreHyphenated, AreResults, AreTextsOfResults, IsFailureBefore, IsHyphenatedPage}
use Rattle.html_command.specs.declared.notes.Note.{Note}
use Rattle.html_command.specs.declared.notes.PageNote.{PageNote}
use Rattle.html_command.specs.declared.request.Options.{Options}
use Rattle.html_command.proofs.Given.{pair_more}

-- ---- the result of a page

-- The page is cut, and its dictionaries are those that were loaded.
pub hyphenated_so : (options : Options) (bytes_of : KnownFiles) (usual : List (List ℕ)) (page cut text : List ℕ) (notes : List Note) (dictionaries shown again : List LanguageDictionary)
    → cut ≡ page → shown ≡ dictionaries → again ≡ dictionaries → HasCodesOf (parsed_options options) (map code_of dictionaries)
    → AreDictionariesFor bytes_of (parsed_options options) usual (tags_for (parsed_options options) cut) dictionaries
    → text ≡ marked_page options.settings shown options.language.now cut → IsPageWithMarks options.settings.mark.now cut text
    → (options.settings.mark.now ≡ soft_hyphen → IsDone options.settings shown options.language.now cut text) → notes ≡ notes_told options.quiet (notes_on again options.language.now options.settings cut)
    → IsHyphenatedPage (parsed_options options) bytes_of usual page (record { text = text; notes = notes })
hyphenated_so options bytes_of usual page cut text notes dictionaries shown again same are alike codes files marked kept twice noted = record {
  settings = options.settings;
  dictionaries = dictionaries;
  of_options = (refl, refl, refl, refl);
  codes = codes;
  files = subst (λ (p : List ℕ). AreDictionariesFor bytes_of (parsed_options options) usual (tags_for (parsed_options options) p) dictionaries) same files;
  marked = marked ∙ ap (λ ds. marked_page options.settings ds options.language.now cut) are ∙ ap (marked_page options.settings dictionaries options.language.now) same;
  kept = subst (λ (p : List ℕ). IsPageWithMarks options.settings.mark.now p text) same kept;
  twice = λ soft. subst (λ (p : List ℕ). IsDone options.settings dictionaries options.language.now p text) same
      (subst (λ (ds : List LanguageDictionary). IsDone options.settings ds options.language.now cut text) are (twice soft));
  noted = noted ∙ ap (notes_told options.quiet) (ap (λ ds. notes_on ds options.language.now options.settings cut) alike ∙ ap (notes_on dictionaries options.language.now options.settings) same);
}

-- ---- results, one more

add_suc : (n m : ℕ) → (n + 1) + m ≡ n + suc m
add_suc n m = omega arith

add_zero : (n : ℕ) → n ≡ n + 0
add_zero n = omega arith

notes_push : (n : ℕ) (results : List MarkedPage) (one : MarkedPage) → notes_from n (results ++ one ∷ []) ≡ notes_from n results ++ notes_at (n + length results) one.notes
notes_push n [] one = append-nil (notes_at n one.notes) ∙ ap (λ k. notes_at k one.notes) (add_zero n)
notes_push n (first ∷ results) one =
    ap (λ more. notes_at n first.notes ++ more) (notes_push (n + 1) results one)
    ∙ ap (λ k. notes_at n first.notes ++ (notes_from (n + 1) results ++ notes_at k one.notes)) (add_suc n (length results))
    ∙ sym (append_assoc (notes_at n first.notes) (notes_from (n + 1) results) (notes_at (n + suc (length results)) one.notes))

-- One page more has its result.
pub hyphenated_more : {X Z : Type 0} (bytes : X → List ℕ) (R : List ℕ → MarkedPage → Type 0) (pages : List X) (i : ℕ) (page : X) (shown : List ℕ)
    (texts longer : List (String Z)) (notes more : List PageNote) (text : String Z) (own : List Note) (n : ℕ)
    → i < length pages → page ≡ get_or pages i page
    → (results : List MarkedPage) × AllZip R (map bytes (take i pages)) results × AreOf results texts notes
    → R shown (record { text = string_bytes text; notes = own }) → shown ≡ bytes page → n ≡ length texts
    → map string_bytes longer ≡ map string_bytes texts ++ string_bytes text ∷ [] → more ≡ notes ++ notes_at n own
    → (results : List MarkedPage) × AllZip R (map bytes (take (i + 1) pages)) results × AreOf results longer more
hyphenated_more {X} {Z} bytes R pages i page shown texts longer notes more text own n lt at (results, so_far, (are, noted)) has same count pushed told =
    let one : MarkedPage = record { text = string_bytes text; notes = own } in
    let one_more : map bytes (take (i + 1) pages) ≡ map bytes (take i pages) ++ bytes page ∷ [] =
    map_more bytes pages i page lt ∙ ap (λ p. map bytes (take i pages) ++ bytes p ∷ []) (sym at) in
    let as_many : n ≡ length results =
    count ∙ sym (length-map texts string_bytes) ∙ ap length are ∙ length-map results (λ marked. marked.text) in
    let placed : n ≡ 0 + length results = omega (arith, as_many) in (
      results ++ one ∷ [],
      subst (λ (ps : List (List ℕ)). AllZip R ps (results ++ one ∷ [])) (sym one_more)
          (pair_more R (map bytes (take i pages)) results (bytes page) one so_far (subst (λ (p : List ℕ). R p one) same has)),
      (
        pushed ∙ ap (λ before. before ++ string_bytes text ∷ []) are ∙ sym (map_push (λ marked. marked.text) results one),
        told ∙ ap (λ before. before ++ notes_at n own) noted ∙ ap (λ k. notes_from 0 results ++ notes_at k own) placed
            ∙ sym (notes_push 0 results one),
      ),
    )

-- The results of the pages are those of the arguments.
pub results_so : {Z : Type 0} (args : ParsedArgs) (bytes_of : KnownFiles) (usual : List (List ℕ)) (left : Option (List ℕ)) (pages : List (List ℕ))
    (texts : List (String Z)) (notes : List PageNote) → AreTextsOf bytes_of left args.inputs pages
    → (results : List MarkedPage) × AreHyphenated args.options bytes_of usual pages results × AreOf results texts notes
    → (results : List MarkedPage) × AreResults args bytes_of usual left results × AreOf results texts notes
results_so args bytes_of usual left pages texts notes read (results, are, of) = (results, (pages, read, are), of)

not_among : (bytes_of : KnownFiles) (left : Option (List ℕ)) (names : List (List ℕ)) (failure : Failure)
    → (failure ≡ failed.Memory → ⊥) → ((l : Option (List ℕ)) (name : List ℕ) → IsFailureOfInput bytes_of l name failure → ⊥)
    → IsFailureAmong bytes_of left names failure → ⊥
not_among bytes_of left [] failure other never among = other among
not_among bytes_of left (name ∷ names) failure other never (inl fails) = never left name fails
not_among bytes_of left (name ∷ names) failure other never (inr (read, among)) =
    not_among bytes_of (left_after left name) names failure other never among

-- A failure of a page is one of the program.
pub page_fails : (args : ParsedArgs) (bytes_of : KnownFiles) (usual : List (List ℕ)) (left : Option (List ℕ)) (failure : Failure)
    → IsFailureAmong bytes_of left args.inputs failure → IsFailureBefore args bytes_of usual left failure
page_fails args bytes_of usual left (failed.Refused input cause) among = among
page_fails args bytes_of usual left (failed.Reading input) among = among
page_fails args bytes_of usual left failed.Memory among = tt
page_fails args bytes_of usual left (failed.Dictionary path cause) among = absurd (not_among bytes_of left args.inputs _ (λ same. absurd cc) (λ l n never. never) among)
page_fails args bytes_of usual left (failed.NoDictionary language) among = absurd (not_among bytes_of left args.inputs _ (λ same. absurd cc) (λ l n never. never) among)
page_fails args bytes_of usual left (failed.Exceptions list refusal) among = absurd (not_among bytes_of left args.inputs _ (λ same. absurd cc) (λ l n never. never) among)
page_fails args bytes_of usual left (failed.Writing output) among = absurd (not_among bytes_of left args.inputs _ (λ same. absurd cc) (λ l n never. never) among)
page_fails args bytes_of usual left failed.Output among = absurd (not_among bytes_of left args.inputs _ (λ same. absurd cc) (λ l n never. never) among)

-- So is one of the dictionaries, once all pages are read.
pub dictionary_fails : (args : ParsedArgs) (bytes_of : KnownFiles) (usual : List (List ℕ)) (left : Option (List ℕ)) (pages : List (List ℕ)) (failure : Failure)
    → AreTextsOf bytes_of left args.inputs pages → IsRefusedFor bytes_of args.options usual failure → IsFailureBefore args bytes_of usual left failure
dictionary_fails args bytes_of usual left pages (failed.Dictionary path cause) read is = ((pages, read), is)
dictionary_fails args bytes_of usual left pages failed.Memory read is = tt
dictionary_fails args bytes_of usual left pages (failed.NoDictionary language) read is = absurd is.2
dictionary_fails args bytes_of usual left pages (failed.Exceptions list refusal) read is = ((pages, read), is)
dictionary_fails args bytes_of usual left pages (failed.Refused input cause) read is = absurd is.2
dictionary_fails args bytes_of usual left pages (failed.Reading input) read is = absurd is.2
dictionary_fails args bytes_of usual left pages (failed.Writing output) read is = absurd is.2
dictionary_fails args bytes_of usual left pages failed.Output read is = absurd is.2

-- A failure before anything is written.
pub fails_before : {S : Type 0} (args : ParsedArgs) (bytes_of : KnownFiles) (usual : List (List ℕ)) (left : Option (List ℕ))
    (written : S → Option WrittenFiles) (store : S) (failure : Failure) → IsFailureBefore args bytes_of usual left failure
    → IsFailureFor (AreTextsOfResults args bytes_of usual left) (IsFailureBefore args bytes_of usual left) args.options.target args.inputs written store store failure
fails_before args bytes_of usual left written store failure fails = inl (fails, refl)
