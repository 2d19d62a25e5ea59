-- The replacing of files.
use Rattle.std.proofs.Common.{◌≡◌, ℕ, ◌+◌, ◌<◌, List, [], ◌∷◌, ◌++◌, length, drop, get_or, map, arith, Option, Some, None, refl, sym, ap, subst, append_assoc, ◌∙◌}
use Rattle.std.specs.Borrow.{Bor}
use Rattle.std.specs.List.{concat, zip}
use Rattle.std.proofs.lemmas.List.{append-nil}
use Rattle.std.specs.Io.KnownBytes.{Appends}
use Rattle.command_line.specs.declared.failure.Failure.{Failure}
use Rattle.command_line.specs.declared.failure.Failure.TheVariants as failed
use Rattle.text_results.specs.Files.{WrittenFiles, WritesFiles}
use Rattle.text_results.specs.Targets.{InPlace, ToFile}
use Rattle.hyphenation_breaks.specs.Borrowed.{texts_now}
use Rattle.text_results.proofs.Reading.{names_on}
use Rattle.text_results.specs.Private.Runs.{IsWritingOf, ReplacedSoFar}
use Rattle.text_results.specs.Written.{IsFailureOfWriting}

-- Nothing is written where nothing is.
pub writes_none : (old : Option WrittenFiles) → WritesFiles old old []
writes_none None = tt
writes_none (Some before) = ap Some (sym (append-nil before))

pub appends_none : (old : Option (List ℕ)) → Appends old old []
appends_none None = tt
appends_none (Some before) = sym (append-nil before)

-- Some files are written, and then more.
pub writes_more : (old middle new : Option WrittenFiles) (files more : WrittenFiles) → WritesFiles old middle files → WritesFiles middle new more → WritesFiles old new (files ++ more)
writes_more None middle new files more first then = tt
writes_more (Some before) middle new files more first then =
    let later : WritesFiles (Some (before ++ files)) new more = subst (λ (m : Option WrittenFiles). WritesFiles m new more) first then in
    later ∙ ap Some (append_assoc before files more)

pub replaced_none : (old : Option WrittenFiles) (all results : List (List ℕ)) → ReplacedSoFar old old all results all results
replaced_none old all results = record { done = []; files_are = refl; written = writes_none old }

pub replaced_more : (old middle new : Option WrittenFiles) (all results names others : List (List ℕ)) (name one : List ℕ)
    → ReplacedSoFar old middle all results (name ∷ names) (one ∷ others) → WritesFiles middle new ((name, one) ∷ []) → ReplacedSoFar old new all results names others
replaced_more old middle new all results names others name one so_far more = record {
  done = so_far.done ++ (name, one) ∷ [];
  files_are = so_far.files_are ∙ sym (append_assoc so_far.done ((name, one) ∷ []) (zip names others));
  written = writes_more old middle new so_far.done ((name, one) ∷ []) so_far.written more;
}

pub replaced_all : (old new : Option WrittenFiles) (all results names others : List (List ℕ)) → ReplacedSoFar old new all results names others → zip names others ≡ []
    → WritesFiles old new (zip all results)
replaced_all old new all results names others so_far none =
    subst (λ (files : WrittenFiles). WritesFiles old new files)
    (sym (so_far.files_are ∙ ap (λ (rest : WrittenFiles). so_far.done ++ rest) none ∙ append-nil so_far.done)) so_far.written

pub replaced_more_at : {X : Type 0} (bytes : X → List ℕ) (old middle new : Option WrittenFiles) (all results : List (List ℕ)) (inputs : List (Bor (List ℕ))) (i : ℕ) (d : Bor (List ℕ))
    (others more : List X) (one : X) (written : List ℕ) → i < length inputs → others ≡ one ∷ more → written ≡ bytes one
    → ReplacedSoFar old middle all results (texts_now (drop i inputs)) (map bytes others) → WritesFiles middle new (((get_or inputs i d).now, written) ∷ [])
    → ReplacedSoFar old new all results (texts_now (drop (i + 1) inputs)) (map bytes more)
replaced_more_at bytes old middle new all results inputs i d others more one written within parts is so_far then =
    replaced_more old middle new all results (texts_now (drop (i + 1) inputs)) (map bytes more) (get_or inputs i d).now (bytes one)
    (subst (λ (names : List (List ℕ)). ReplacedSoFar old middle all results names (bytes one ∷ map bytes more)) (names_on inputs i d within)
    (subst (λ (rest : List (List ℕ)). ReplacedSoFar old middle all results (texts_now (drop i inputs)) rest) (ap (map bytes) parts) so_far))
    (subst (λ (w : List ℕ). WritesFiles middle new (((get_or inputs i d).now, w) ∷ [])) is then)

zip_none : (names : List (List ℕ)) → zip {X = List ℕ} names [] ≡ []
zip_none [] = refl
zip_none (name ∷ names) = refl

none_left : {X : Type 0} (bytes : X → List ℕ) (names : List (List ℕ)) (others : List X) → length others ≡ 0 → zip names (map bytes others) ≡ []
none_left bytes names [] none = zip_none names
none_left bytes names (other ∷ others) none = absurd (omega (none, arith))

pub replaced_all_of : {X : Type 0} (bytes : X → List ℕ) (old new : Option WrittenFiles) (all results names : List (List ℕ)) (others : List X)
    → length others ≡ 0 → ReplacedSoFar old new all results names (map bytes others) → WritesFiles old new (zip all results)
replaced_all_of bytes old new all results names others none so_far =
    replaced_all old new all results names (map bytes others) so_far (none_left bytes names others none)

-- The file of the next name can't be written.
pub replaced_not : (old middle new : Option WrittenFiles) (all results names others : List (List ℕ)) (name one : List ℕ) (failure : Failure)
    → ReplacedSoFar old middle all results (name ∷ names) (one ∷ others) → WritesFiles middle new [] → IsWritingOf name failure
    → IsFailureOfWriting InPlace all results old new failure
replaced_not old middle new all results names others name one (failed.Writing path) so_far none is = (
  so_far.done,
  zip names others,
  one,
  so_far.files_are ∙ ap (λ (n : List ℕ). so_far.done ++ (n, one) ∷ zip names others) (sym is),
  subst (λ (files : WrittenFiles). WritesFiles old new files) (append-nil so_far.done) (writes_more old middle new so_far.done [] so_far.written none),
)
replaced_not old middle new all results names others name one failed.Memory so_far none is = tt
replaced_not old middle new all results names others name one failed.Output so_far none is = absurd is
replaced_not old middle new all results names others name one (failed.Dictionary path cause) so_far none is = absurd is
replaced_not old middle new all results names others name one (failed.NoDictionary language) so_far none is = absurd is
replaced_not old middle new all results names others name one (failed.Exceptions list refusal) so_far none is = absurd is
replaced_not old middle new all results names others name one (failed.Refused input cause) so_far none is = absurd is
replaced_not old middle new all results names others name one (failed.Reading input) so_far none is = absurd is

-- The file of the output can't be written.
pub file_not : (old new : Option WrittenFiles) (names results : List (List ℕ)) (path : List ℕ) (failure : Failure)
    → WritesFiles old new [] → IsWritingOf path failure → IsFailureOfWriting (ToFile path) names results old new failure
file_not old new names results path (failed.Writing output) none is =
    ([], [], concat results, ap (λ (n : List ℕ). (n, concat results) ∷ []) (sym is), none)
file_not old new names results path failed.Memory none is = tt
file_not old new names results path failed.Output none is = absurd is
file_not old new names results path (failed.Dictionary p cause) none is = absurd is
file_not old new names results path (failed.NoDictionary language) none is = absurd is
file_not old new names results path (failed.Exceptions list refusal) none is = absurd is
file_not old new names results path (failed.Refused input cause) none is = absurd is
file_not old new names results path (failed.Reading input) none is = absurd is
