-- The steps of a run.
use Rattle.std.proofs.Common.{◌≡◌, ℕ, ◌-◌, ◌<◌, ◌≤◌, ◌||◌, Bool, true, false, true≢false, cond, arith, length, take, drop, List, [], ◌∷◌, ◌++◌, Option, None, refl, sym, ap, subst, inl, inr, append_assoc, ◌∙◌}
use Rattle.std.specs.Prelude.{IfErr, IfSome, Result, Err}
use Rattle.std.specs.Borrow.{Bor}
use Rattle.std.specs.List.{concat, list_any, slice_index_or}
use Rattle.std.proofs.lemmas.List.{append-nil, take_all}
use Rattle.hyphenation_breaks.specs.Borrowed.{texts_now}
use Rattle.any_dictionary.specs.declared.AnyDictionary.{AnyDictionary}
use Rattle.named_files.specs.Files.{known_bytes}
use Rattle.command_line.specs.Adjustments.{IsAdjustedOf, IsFailureOfAdjusted}
use Rattle.command_line.specs.Dictionaries.{KnownFiles}
use Rattle.command_line.specs.Failures.{status_of}
use Rattle.command_line.specs.Inputs.{is_standard_input, IsTextOf, AreTextsOf}
use Rattle.command_line.specs.declared.failure.Failure.{Failure}
use Rattle.command_line.specs.declared.failure.Failure.TheVariants as failed
use Rattle.command_line.specs.declared.failure.InputRefusal.TheVariants.{NotUtf8, LongParagraph}
use Rattle.lines_command.specs.Arguments.{ParsedArgs, ParsedOptions}
use Rattle.lines_command.specs.Private.Runs.{AddsPage, BeforeReading, GoesOn}
use Rattle.lines_command.specs.Written.{HasPages, IsFailureOfText, IsFailureAmong, IsFailureFor, left_after}

-- ---- of less that is known, less is said

bytes_unknown : (t : Bool) (left file : Option (List ℕ)) (P : List ℕ → Type 0) → IfSome (cond t left file) P → IfSome (cond t None file) P
bytes_unknown true left file P known = tt
bytes_unknown false left file P known = known

text_unknown : (bytes_of : KnownFiles) (left : Option (List ℕ)) (name text : List ℕ) → IsTextOf bytes_of left name text → IsTextOf bytes_of None name text
text_unknown bytes_of left name text is =
    (is.0, bytes_unknown (is_standard_input name) left (known_bytes (bytes_of name)) (λ known. text ≡ known) is.1)

failure_unknown : (options : ParsedOptions) (dictionary : AnyDictionary) (bytes_of : KnownFiles) (left : Option (List ℕ)) (name : List ℕ) (failure : Failure)
    → IsFailureOfText options dictionary bytes_of left name failure → IsFailureOfText options dictionary bytes_of None name failure
failure_unknown options dictionary bytes_of left name (failed.Refused input LongParagraph) fails =
    (fails.0, (fails.1.0, text_unknown bytes_of left name fails.1.0 fails.1.1, fails.1.2))
failure_unknown options dictionary bytes_of left name (failed.Refused input (NotUtf8 valid line)) fails =
    (fails.0, bytes_unknown (is_standard_input name) left (known_bytes (bytes_of name)) _ fails.1)
failure_unknown options dictionary bytes_of left name (failed.Reading input) fails = fails
failure_unknown options dictionary bytes_of left name failed.Memory fails = tt
failure_unknown options dictionary bytes_of left name (failed.Dictionary path cause) fails = absurd fails
failure_unknown options dictionary bytes_of left name (failed.NoDictionary language) fails = absurd fails
failure_unknown options dictionary bytes_of left name (failed.Exceptions list refusal) fails = absurd fails
failure_unknown options dictionary bytes_of left name (failed.Writing output) fails = absurd fails
failure_unknown options dictionary bytes_of left name failed.Output fails = absurd fails

unknown_after : {left : Option (List ℕ)} (P : Option (List ℕ) → Type 0) → (P left → P None) → (t : Bool) → P (cond t None left) → P (cond t None None)
unknown_after P unknown true is = is
unknown_after P unknown false is = unknown is

texts_unknown : (bytes_of : KnownFiles) (left : Option (List ℕ)) (names texts : List (List ℕ)) → AreTextsOf bytes_of left names texts → AreTextsOf bytes_of None names texts
texts_unknown bytes_of left [] [] read = tt
texts_unknown bytes_of left [] (text ∷ texts) read = absurd read
texts_unknown bytes_of left (name ∷ names) [] read = absurd read
texts_unknown bytes_of left (name ∷ names) (text ∷ texts) read = (
  text_unknown bytes_of left name text read.0,
  unknown_after (λ l. AreTextsOf bytes_of l names texts) (texts_unknown bytes_of left names texts) (is_standard_input name) read.1,
)

among_unknown : (options : ParsedOptions) (dictionary : AnyDictionary) (bytes_of : KnownFiles) (left : Option (List ℕ)) (names : List (List ℕ)) (failure : Failure)
    → IsFailureAmong options dictionary bytes_of left names failure → IsFailureAmong options dictionary bytes_of None names failure
among_unknown options dictionary bytes_of left [] failure among = absurd among
among_unknown options dictionary bytes_of left (name ∷ names) failure (inl fails) = inl (failure_unknown options dictionary bytes_of left name failure fails)
among_unknown options dictionary bytes_of left (name ∷ names) failure (inr (read, among)) =
    inr (
      (read.0, text_unknown bytes_of left name read.0 read.1),
      unknown_after (λ l. IsFailureAmong options dictionary bytes_of l names failure) (among_unknown options dictionary bytes_of left names failure) (is_standard_input name) among,
    )

-- ---- an input more

-- A fact of what a reader has left after an input, by the same before it.
known_after : {I : Type 0} (P : Option (List ℕ) → Type 0) → ((left : Option (List ℕ)) → P left → P None) → (remaining : I → Option (List ℕ)) (old new : I) (t : Bool)
    → (t ≡ false → new ≡ old) → P (remaining new) → P (cond t None (remaining old))
known_after P unknown remaining old new true unread is = unknown (remaining new) is
known_after P unknown remaining old new false unread is = subst (λ i. P (remaining i)) (unread refl) is

pub goes_on : {I : Type 0} (options : ParsedOptions) (dictionary : AnyDictionary) (bytes_of : KnownFiles) (remaining : I → Option (List ℕ)) (old new : I)
    (first : Option (List ℕ)) (all : List (List ℕ)) (name : List ℕ) (names : List (List ℕ)) (page longer : List ℕ)
    → GoesOn options dictionary bytes_of first all (remaining old) (name ∷ names) page
    → AddsPage options dictionary bytes_of (remaining old) name page longer → (is_standard_input name ≡ false → new ≡ old)
    → GoesOn options dictionary bytes_of first all (remaining new) names longer
goes_on options dictionary bytes_of remaining old new first all name names page longer so_far added unread = record {
  pages = λ texts pages read each.
      subst (λ (p : List ℕ). HasPages options dictionary bytes_of first all p)
      (sym (append_assoc page added.page (concat pages)) ∙ ap (λ (p : List ℕ). p ++ concat pages) (sym added.whole))
      (so_far.pages (added.text ∷ texts) (added.page ∷ pages) (
        added.read,
        known_after (λ left. AreTextsOf bytes_of left names texts) (λ left is. texts_unknown bytes_of left names texts is) remaining old new (is_standard_input name) unread read,
      )
      (added.filled, each));
  fails = λ failure among.
      so_far.fails failure (inr (
        (added.text, added.read),
        known_after (λ left. IsFailureAmong options dictionary bytes_of left names failure) (λ left is. among_unknown options dictionary bytes_of left names failure is) remaining old new
            (is_standard_input name) unread among,
      ));
}

pub begins : (options : ParsedOptions) (dictionary : AnyDictionary) (bytes_of : KnownFiles) (first : Option (List ℕ)) (all : List (List ℕ))
    → GoesOn options dictionary bytes_of first all first all []
begins options dictionary bytes_of first all = record {
  pages = λ texts pages read each. record { texts = texts; read = read; pages = pages; each = each; whole = refl };
  fails = λ failure among. among;
}

pub ends : (options : ParsedOptions) (dictionary : AnyDictionary) (bytes_of : KnownFiles) (first : Option (List ℕ)) (all : List (List ℕ)) (left : Option (List ℕ)) (page : List ℕ)
    → GoesOn options dictionary bytes_of first all left [] page → HasPages options dictionary bytes_of first all page
ends options dictionary bytes_of first all left page so_far =
    subst (λ (p : List ℕ). HasPages options dictionary bytes_of first all p) (append-nil page) (so_far.pages [] [] tt tt)

-- The first of the inputs that are left, and the others.
pub one_more : (rest : List (Bor (List ℕ))) (none : Bor (List ℕ)) → 1 ≤ length rest
    → texts_now rest ≡ (slice_index_or rest 0 none).now ∷ texts_now (take (length rest - 1) (drop 1 rest))
one_more [] none one = absurd (omega (arith, one))
one_more (name ∷ others) none one = ap (λ (o : List (Bor (List ℕ))). name.now ∷ texts_now o) (sym (take_all (length (name ∷ others) - 1) others (omega arith)))

pub none_left : (rest : List (Bor (List ℕ))) → length rest < 1 → texts_now rest ≡ []
none_left [] few = refl
none_left (name ∷ others) few = absurd (omega (arith, few))

neither : (a b : Bool) → (a || b) ≡ false → (a ≡ false) × (b ≡ false)
neither true b e = absurd (true≢false e)
neither false b e = (refl, e)

-- Standard input is as it was after an input that it is not.
pub still_unread : {I : Type 0} (first old new : I) (name : List ℕ) (names : List (List ℕ)) → (is_standard_input name ≡ false → new ≡ old)
    → (old ≡ first) × (list_any is_standard_input (name ∷ names) ≡ false) → (new ≡ first) × (list_any is_standard_input names ≡ false)
still_unread first old new name names unread before =
    let two = neither (is_standard_input name) (list_any is_standard_input names) before.1 in
    (unread two.0 ∙ before.0, two.1)

-- ---- failures

pub not_among : (options : ParsedOptions) (dictionary : AnyDictionary) (bytes_of : KnownFiles) (left : Option (List ℕ)) (names : List (List ℕ)) (failure : Failure)
    → ((l : Option (List ℕ)) (name : List ℕ) → IsFailureOfText options dictionary bytes_of l name failure → ⊥)
    → IsFailureAmong options dictionary bytes_of left names failure → ⊥
not_among options dictionary bytes_of left [] failure never among = among
not_among options dictionary bytes_of left (name ∷ names) failure never (inl fails) = never left name fails
not_among options dictionary bytes_of left (name ∷ names) failure never (inr (read, among)) =
    not_among options dictionary bytes_of (left_after left name) names failure never among

-- Where the first of the inputs that are left fails, it is among all that fails so.
pub first_fails : {X : Type 0} (options : ParsedOptions) (dictionary : AnyDictionary) (bytes_of : KnownFiles) (first : Option (List ℕ)) (all : List (List ℕ))
    (left : Option (List ℕ)) (name : List ℕ) (names rest : List (List ℕ)) (page : List ℕ) (failure returned : Failure) (result : Result X Failure)
    → rest ≡ name ∷ names → GoesOn options dictionary bytes_of first all left rest page
    → IsFailureOfText options dictionary bytes_of left name failure → result ≡ Err returned → returned ≡ failure
    → IfErr result (IsFailureAmong options dictionary bytes_of first all)
first_fails options dictionary bytes_of first all left name names rest page failure returned result more so_far fails is same =
    subst (λ r. IfErr r (IsFailureAmong options dictionary bytes_of first all)) (sym is)
    (subst (λ f. IsFailureAmong options dictionary bytes_of first all f) (sym same)
    (so_far.fails failure (subst (λ n. IsFailureAmong options dictionary bytes_of left n failure) (sym more)
    (inl fails))))

-- A failure of an input is one of the program.
pub input_fails : (parsed : ParsedArgs) (dictionary : AnyDictionary) (bytes_of : KnownFiles) (folders : List (List ℕ)) (left : Option (List ℕ)) (failure : Failure)
    → IsAdjustedOf bytes_of folders parsed.dictionary parsed.adjustments dictionary → IsFailureAmong parsed.options dictionary bytes_of left parsed.inputs failure
    → IsFailureFor parsed bytes_of folders left failure
input_fails parsed dictionary bytes_of folders left (failed.Refused input cause) named among = (dictionary, named, among)
input_fails parsed dictionary bytes_of folders left (failed.Reading input) named among = (dictionary, named, among)
input_fails parsed dictionary bytes_of folders left failed.Memory named among = tt
input_fails parsed dictionary bytes_of folders left (failed.Dictionary path cause) named among = absurd (not_among parsed.options dictionary bytes_of left parsed.inputs _ (λ l n never. never) among)
input_fails parsed dictionary bytes_of folders left (failed.NoDictionary language) named among = absurd (not_among parsed.options dictionary bytes_of left parsed.inputs _ (λ l n never. never) among)
input_fails parsed dictionary bytes_of folders left (failed.Exceptions list refusal) named among = absurd (not_among parsed.options dictionary bytes_of left parsed.inputs _ (λ l n never. never) among)
input_fails parsed dictionary bytes_of folders left (failed.Writing output) named among = absurd (not_among parsed.options dictionary bytes_of left parsed.inputs _ (λ l n never. never) among)
input_fails parsed dictionary bytes_of folders left failed.Output named among = absurd (not_among parsed.options dictionary bytes_of left parsed.inputs _ (λ l n never. never) among)

-- So is one of the dictionary.
pub dictionary_fails : (parsed : ParsedArgs) (bytes_of : KnownFiles) (folders : List (List ℕ)) (left : Option (List ℕ)) (failure : Failure)
    → IsFailureOfAdjusted bytes_of folders parsed.dictionary parsed.adjustments failure → IsFailureFor parsed bytes_of folders left failure
dictionary_fails parsed bytes_of folders left (failed.Dictionary path cause) fails = fails
dictionary_fails parsed bytes_of folders left (failed.NoDictionary language) fails = fails
dictionary_fails parsed bytes_of folders left (failed.Exceptions list refusal) fails = fails
dictionary_fails parsed bytes_of folders left failed.Memory fails = tt
dictionary_fails parsed bytes_of folders left (failed.Refused input cause) fails = absurd fails.2
dictionary_fails parsed bytes_of folders left (failed.Reading input) fails = absurd fails.2
dictionary_fails parsed bytes_of folders left (failed.Writing output) fails = absurd fails.2
dictionary_fails parsed bytes_of folders left failed.Output fails = absurd fails.2

-- A failure of an input comes after the dictionary.
pub after_dictionary : (P : Type 0) (options : ParsedOptions) (dictionary : AnyDictionary) (bytes_of : KnownFiles) (left : Option (List ℕ)) (names : List (List ℕ)) (failure : Failure)
    → IsFailureAmong options dictionary bytes_of left names failure → BeforeReading P failure
after_dictionary P options dictionary bytes_of left names (failed.Dictionary path cause) among = absurd (not_among options dictionary bytes_of left names _ (λ l n never. never) among)
after_dictionary P options dictionary bytes_of left names (failed.NoDictionary language) among = absurd (not_among options dictionary bytes_of left names _ (λ l n never. never) among)
after_dictionary P options dictionary bytes_of left names (failed.Exceptions list refusal) among = absurd (not_among options dictionary bytes_of left names _ (λ l n never. never) among)
after_dictionary P options dictionary bytes_of left names (failed.Refused input cause) among = tt
after_dictionary P options dictionary bytes_of left names (failed.Reading input) among = tt
after_dictionary P options dictionary bytes_of left names (failed.Writing output) among = tt
after_dictionary P options dictionary bytes_of left names failed.Output among = tt
after_dictionary P options dictionary bytes_of left names failed.Memory among = tt

pub before_reading : (P : Type 0) (failure : Failure) → P → BeforeReading P failure
before_reading P (failed.Dictionary path cause) p = p
before_reading P (failed.NoDictionary language) p = p
before_reading P (failed.Exceptions list refusal) p = p
before_reading P (failed.Refused input cause) p = tt
before_reading P (failed.Reading input) p = tt
before_reading P (failed.Writing output) p = tt
before_reading P failed.Output p = tt
before_reading P failed.Memory p = tt

-- The failure of a run over its inputs, and what it leaves.
pub run_fails : {X : Type 0} (parsed : ParsedArgs) (dictionary : AnyDictionary) (bytes_of : KnownFiles) (folders : List (List ℕ)) (left : Option (List ℕ))
    (failure returned : Failure) (result : Result X Failure) → IsAdjustedOf bytes_of folders parsed.dictionary parsed.adjustments dictionary
    → IsFailureAmong parsed.options dictionary bytes_of left parsed.inputs failure → result ≡ Err returned → returned ≡ failure
    → IfErr result (IsFailureFor parsed bytes_of folders left)
run_fails parsed dictionary bytes_of folders left failure returned result named among is same =
    subst (λ r. IfErr r (IsFailureFor parsed bytes_of folders left)) (sym is)
    (subst (λ f. IsFailureFor parsed bytes_of folders left f) (sym same) (input_fails parsed dictionary bytes_of folders left failure named among))

pub run_reads_after : {X : Type 0} (P : Type 0) (parsed : ParsedArgs) (dictionary : AnyDictionary) (bytes_of : KnownFiles) (left : Option (List ℕ))
    (failure returned : Failure) (result : Result X Failure) → IsFailureAmong parsed.options dictionary bytes_of left parsed.inputs failure
    → result ≡ Err returned → returned ≡ failure → IfErr result (BeforeReading P)
run_reads_after P parsed dictionary bytes_of left failure returned result among is same =
    subst (λ r. IfErr r (BeforeReading P)) (sym is)
    (subst (λ f. BeforeReading P f) (sym same) (after_dictionary P parsed.options dictionary bytes_of left parsed.inputs failure among))

-- Status 3 is for dictionaries.
pub by_status : (P : Type 0) (failure : Failure) → BeforeReading P failure → status_of failure ≡ 3 → P
by_status P (failed.Dictionary path cause) before three = before
by_status P (failed.NoDictionary language) before three = before
by_status P (failed.Exceptions list refusal) before three = before
by_status P (failed.Refused input cause) before three = absurd cc
by_status P (failed.Reading input) before three = absurd cc
by_status P (failed.Writing output) before three = absurd cc
by_status P failed.Output before three = absurd cc
by_status P failed.Memory before three = absurd cc
