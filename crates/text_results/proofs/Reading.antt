-- The reading of texts.
use Rattle.std.proofs.Common.{◌≡◌, ℕ, ◌+◌, ◌<◌, ◌≤◌, ◌||◌, Bool, true, false, cond, List, [], ◌∷◌, ◌++◌, length, drop, get_or, Option, None, refl, sym, ap, subst, inl, inr, append_assoc, ◌∙◌}
use Rattle.std.specs.Borrow.{Bor}
use Rattle.std.specs.List.{list_any}
use Rattle.std.specs.Prelude.{IfSome}
use Rattle.std.proofs.lemmas.List.{append-nil, drop_all, drop_more}
use Rattle.hyphenation_breaks.specs.Borrowed.{texts_now}
use Rattle.named_files.specs.Files.{known_bytes}
use Rattle.command_line.specs.Dictionaries.{KnownFiles}
use Rattle.command_line.specs.Inputs.{is_standard_input, IsTextOf, AreTextsOf, IsFailureOfInput}
use Rattle.command_line.specs.declared.failure.Failure.{Failure}
use Rattle.command_line.specs.declared.failure.Failure.TheVariants as failed
use Rattle.command_line.specs.declared.failure.InputRefusal.TheVariants.{NotUtf8, LongParagraph}
use Rattle.text_results.specs.Private.Runs.{GoesOn}
use Rattle.text_results.specs.Texts.{IsFailureAmong}

-- ---- of less that is known, less is said

bytes_unknown : (t : Bool) (left file : Option (List ℕ)) (P : List ℕ → Type 0) → IfSome (cond t left file) P → IfSome (cond t None file) P
bytes_unknown true left file P known = tt
bytes_unknown false left file P known = known

text_unknown : (bytes_of : KnownFiles) (left : Option (List ℕ)) (name text : List ℕ) → IsTextOf bytes_of left name text → IsTextOf bytes_of None name text
text_unknown bytes_of left name text is =
    (is.0, bytes_unknown (is_standard_input name) left (known_bytes (bytes_of name)) (λ known. text ≡ known) is.1)

failure_unknown : (bytes_of : KnownFiles) (left : Option (List ℕ)) (name : List ℕ) (failure : Failure)
    → IsFailureOfInput bytes_of left name failure → IsFailureOfInput bytes_of None name failure
failure_unknown bytes_of left name (failed.Refused input LongParagraph) fails = absurd fails
failure_unknown bytes_of left name (failed.Refused input (NotUtf8 valid line)) fails =
    (fails.0, bytes_unknown (is_standard_input name) left (known_bytes (bytes_of name)) _ fails.1)
failure_unknown bytes_of left name (failed.Reading input) fails = fails
failure_unknown bytes_of left name failed.Memory fails = tt
failure_unknown bytes_of left name (failed.Dictionary path cause) fails = absurd fails
failure_unknown bytes_of left name (failed.NoDictionary language) fails = absurd fails
failure_unknown bytes_of left name (failed.Exceptions list refusal) fails = absurd fails
failure_unknown bytes_of left name (failed.Writing output) fails = absurd fails
failure_unknown bytes_of left name failed.Output fails = absurd fails

unknown_after : {left : Option (List ℕ)} (P : Option (List ℕ) → Type 0) → (P left → P None) → (t : Bool) → P (cond t None left) → P (cond t None None)
unknown_after P unknown true is = is
unknown_after P unknown false is = unknown is

texts_unknown : (bytes_of : KnownFiles) (left : Option (List ℕ)) (names texts : List (List ℕ)) → AreTextsOf bytes_of left names texts → AreTextsOf bytes_of None names texts
texts_unknown bytes_of left [] [] read = tt
texts_unknown bytes_of left [] (text ∷ texts) read = absurd read
texts_unknown bytes_of left (name ∷ names) [] read = absurd read
texts_unknown bytes_of left (name ∷ names) (text ∷ texts) read = (
  text_unknown bytes_of left name text read.0,
  unknown_after (λ l. AreTextsOf bytes_of l names texts) (texts_unknown bytes_of left names texts) (is_standard_input name) read.1,
)

among_unknown : (bytes_of : KnownFiles) (left : Option (List ℕ)) (names : List (List ℕ)) (failure : Failure)
    → IsFailureAmong bytes_of left names failure → IsFailureAmong bytes_of None names failure
among_unknown bytes_of left [] failure among = among
among_unknown bytes_of left (name ∷ names) failure (inl fails) = inl (failure_unknown bytes_of left name failure fails)
among_unknown bytes_of left (name ∷ names) failure (inr (read, among)) =
    inr (
      (read.0, text_unknown bytes_of left name read.0 read.1),
      unknown_after (λ l. IsFailureAmong bytes_of l names failure) (among_unknown bytes_of left names failure) (is_standard_input name) among,
    )

-- ---- a text more

-- A fact of a reader after a text, by what was known before it.
known_after : {I : Type 0} (P : Option (List ℕ) → Type 0) → ((left : Option (List ℕ)) → P left → P None) → (remaining : I → Option (List ℕ)) (old new : I) (t : Bool)
    → (t ≡ false → new ≡ old) → P (remaining new) → P (cond t None (remaining old))
known_after P unknown remaining old new true unread is = unknown (remaining new) is
known_after P unknown remaining old new false unread is = subst (λ i. P (remaining i)) (unread refl) is

pub goes_on : {I : Type 0} (bytes_of : KnownFiles) (remaining : I → Option (List ℕ)) (old new : I)
    (first : Option (List ℕ)) (all : List (List ℕ)) (name : List ℕ) (names : List (List ℕ)) (text : List ℕ) (texts longer : List (List ℕ))
    → GoesOn bytes_of first all (remaining old) (name ∷ names) texts → IsTextOf bytes_of (remaining old) name text
    → longer ≡ texts ++ text ∷ [] → (is_standard_input name ≡ false → new ≡ old)
    → GoesOn bytes_of first all (remaining new) names longer
goes_on bytes_of remaining old new first all name names text texts longer so_far read is unread = record {
  texts = λ more later.
      subst (λ (all_texts : List (List ℕ)). AreTextsOf bytes_of first all all_texts)
      (sym (append_assoc texts (text ∷ []) more) ∙ ap (λ (front : List (List ℕ)). front ++ more) (sym is))
      (so_far.texts (text ∷ more) (
        read,
        known_after (λ left. AreTextsOf bytes_of left names more) (λ left known. texts_unknown bytes_of left names more known) remaining old new (is_standard_input name) unread later,
      ));
  fails = λ failure among.
      so_far.fails failure (inr (
        (text, read),
        known_after (λ left. IsFailureAmong bytes_of left names failure) (λ left known. among_unknown bytes_of left names failure known) remaining old new
            (is_standard_input name) unread among,
      ));
}

pub begins : (bytes_of : KnownFiles) (first : Option (List ℕ)) (all : List (List ℕ)) → GoesOn bytes_of first all first all []
begins bytes_of first all = record { texts = λ more read. read; fails = λ failure among. among }

pub ends : (bytes_of : KnownFiles) (first : Option (List ℕ)) (all : List (List ℕ)) (left : Option (List ℕ)) (texts : List (List ℕ))
    → GoesOn bytes_of first all left [] texts → AreTextsOf bytes_of first all texts
ends bytes_of first all left texts so_far =
    subst (λ (all_texts : List (List ℕ)). AreTextsOf bytes_of first all all_texts) (append-nil texts) (so_far.texts [] tt)

-- The names from one on.
pub names_on : (inputs : List (Bor (List ℕ))) (i : ℕ) (d : Bor (List ℕ)) → i < length inputs
    → texts_now (drop i inputs) ≡ (get_or inputs i d).now ∷ texts_now (drop (i + 1) inputs)
names_on inputs i d within = ap texts_now (drop_more inputs i d within)

pub goes_on_at : {I : Type 0} (bytes_of : KnownFiles) (remaining : I → Option (List ℕ)) (old new : I)
    (first : Option (List ℕ)) (all : List (List ℕ)) (inputs : List (Bor (List ℕ))) (i : ℕ) (d : Bor (List ℕ)) (text : List ℕ) (texts longer : List (List ℕ))
    → i < length inputs → GoesOn bytes_of first all (remaining old) (texts_now (drop i inputs)) texts → IsTextOf bytes_of (remaining old) (get_or inputs i d).now text
    → longer ≡ texts ++ text ∷ [] → (is_standard_input (get_or inputs i d).now ≡ false → new ≡ old)
    → GoesOn bytes_of first all (remaining new) (texts_now (drop (i + 1) inputs)) longer
goes_on_at bytes_of remaining old new first all inputs i d text texts longer within so_far read is unread =
    goes_on bytes_of remaining old new first all (get_or inputs i d).now (texts_now (drop (i + 1) inputs)) text texts longer
    (subst (λ (names : List (List ℕ)). GoesOn bytes_of first all (remaining old) names texts) (names_on inputs i d within) so_far) read is unread

pub ends_at : (bytes_of : KnownFiles) (first : Option (List ℕ)) (all : List (List ℕ)) (left : Option (List ℕ)) (inputs : List (Bor (List ℕ))) (i : ℕ) (texts : List (List ℕ))
    → length inputs ≤ i → GoesOn bytes_of first all left (texts_now (drop i inputs)) texts → AreTextsOf bytes_of first all texts
ends_at bytes_of first all left inputs i texts beyond so_far =
    ends bytes_of first all left texts
    (subst (λ (rest : List (Bor (List ℕ))). GoesOn bytes_of first all left (texts_now rest) texts) (drop_all i inputs beyond) so_far)

neither : (a b : Bool) → (a || b) ≡ false → (a ≡ false) × (b ≡ false)
neither true b either = absurd cc
neither false b either = (refl, either)

-- Standard input is still unread after a text, where no name is its.
pub unread_at : {I : Type 0} (old middle new : I) (all : Bool) (inputs : List (Bor (List ℕ))) (i : ℕ) (d : Bor (List ℕ)) → i < length inputs
    → (all ≡ false → (middle ≡ old) × (list_any is_standard_input (texts_now (drop i inputs)) ≡ false))
    → (is_standard_input (get_or inputs i d).now ≡ false → new ≡ middle)
    → all ≡ false → (new ≡ old) × (list_any is_standard_input (texts_now (drop (i + 1) inputs)) ≡ false)
unread_at old middle new all inputs i d within so_far unread none =
    let before : (middle ≡ old) × (list_any is_standard_input (texts_now (drop i inputs)) ≡ false) = so_far none in
    let parts : (is_standard_input (get_or inputs i d).now ≡ false) × (list_any is_standard_input (texts_now (drop (i + 1) inputs)) ≡ false) =
    neither (is_standard_input (get_or inputs i d).now) (list_any is_standard_input (texts_now (drop (i + 1) inputs)))
    (subst (λ (names : List (List ℕ)). list_any is_standard_input names ≡ false) (names_on inputs i d within) before.1) in
    (unread parts.0 ∙ before.0, parts.1)
