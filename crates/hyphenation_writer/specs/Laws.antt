-- Laws of canonical texts, for all kinds of dictionaries and both versions.
use Rattle.std.specs.Prelude.{◌≡◌, ℕ, ◌≤◌, ◌↔◌, All, List, [], Option, Some, None, slice_index_or}
use Rattle.std.specs.FinMap as finite
use Rattle.hyphenation_breaks.specs.Break.{Break, Change}
use Rattle.hyphenation_writer.specs.Canonical.{canonical_text_of}
use Rattle.hyphenation_breaks.specs.Dictionary.{Contents}
use Rattle.hyphenation_grammar.specs.Form.{head_of}
use Rattle.hyphenation_breaks.specs.Invariant.{IsDictionary}
use Rattle.hyphenation_grammar.specs.Judging.{refusal_of}
use Rattle.hyphenation_grammar.specs.Lines.{lines_of}
use Rattle.hyphenation_grammar.specs.Reading.{contents_of}
use Rattle.hyphenation_breaks.specs.declared.entry.Entry.{Entry}
use Rattle.hyphenation_grammar.specs.declared.form.Kind.{Kind}
use Rattle.hyphenation_grammar.specs.declared.form.Version.TheVariants.{First}
use Rattle.hyphenation_grammar.specs.declared.form.Kind.TheVariants.{Standard}

-- A kind of dictionary, by four functions. They say what it holds for a change and for a listed break, and which change and
-- which break that means.
pub record Held (C B : Type 0) : Type 0 where
  pub payload_of : Option Change → C
  pub listing_of : Break → B
  pub change_of : C → Option Change
  pub break_of : B → Break

-- A kind of dictionary holds exactly the contents of its texts. Each change and break that it holds is read again as it
-- is written, and a standard dictionary holds no change.
pub record HoldsExactly {C B : Type 0} (kind : Kind) (held : Held C B) : Type 0 where
  pub changes : (c : C) → held.payload_of (held.change_of c) ≡ c
  pub breaks : (b : B) → held.listing_of (held.break_of b) ≡ b
  pub no_change : kind ≡ Standard → (c : C) → held.change_of c ≡ None
  pub no_listed_change : kind ≡ Standard → (b : B) → (held.break_of b).change ≡ None

-- A dictionary of that kind has its invariant.
abbrev pub IsDictionaryOf : {C B : Type 0} → Held C B → Contents C B → Type 0
IsDictionaryOf held contents = IsDictionary held.change_of held.break_of contents

-- The canonical text of a dictionary of that kind.
abbrev pub text_of : {C B : Type 0} → Kind → Held C B → Contents C B → List ℕ
text_of kind held contents = canonical_text_of kind held.change_of held.break_of contents

-- The dictionary of that kind which a text gives.
abbrev pub dictionary_of : {C B : Type 0} → Kind → Held C B → List ℕ → Contents C B
dictionary_of kind held text = contents_of kind held.payload_of held.listing_of (lines_of text)

-- The canonical text of a dictionary is accepted.
abbrev pub WrittenIsAccepted : Type 0 → Type 0 → Type 0
WrittenIsAccepted C B =
    (kind : Kind) (held : Held C B) (contents : Contents C B) → HoldsExactly kind held → IsDictionaryOf held contents
    → refusal_of kind (text_of kind held contents) ≡ None

-- The canonical text of a dictionary gives that very dictionary.
abbrev pub WrittenGivesItAgain : Type 0 → Type 0 → Type 0
WrittenGivesItAgain C B =
    (kind : Kind) (held : Held C B) (contents : Contents C B) → HoldsExactly kind held → IsDictionaryOf held contents
    → dictionary_of kind held (text_of kind held contents) ≡ contents

-- The dictionary that a canonical text gives has that very text.
abbrev pub CanonicalIsWrittenAgain : Type 0 → Type 0 → Type 0
CanonicalIsWrittenAgain C B =
    (kind : Kind) (held : Held C B) (contents : Contents C B) → HoldsExactly kind held → IsDictionaryOf held contents
    → text_of kind held (dictionary_of kind held (text_of kind held contents)) ≡ text_of kind held contents

-- Two dictionaries of one kind that have one canonical text are equal.
abbrev pub EqualTextsAreOfEquals : Type 0 → Type 0 → Type 0
EqualTextsAreOfEquals C B =
    (kind : Kind) (held : Held C B) (contents others : Contents C B) → HoldsExactly kind held
    → IsDictionaryOf held contents → IsDictionaryOf held others
    → text_of kind held contents ≡ text_of kind held others → contents ≡ others

-- The canonical text of a dictionary has the first version exactly if each value is at most 9.
abbrev pub VersionIsLeast : Type 0 → Type 0 → Type 0
VersionIsLeast C B =
    (kind : Kind) (change_of : C → Option Change) (break_of : B → Break) (contents : Contents C B)
    → (slice_index_or (lines_of (canonical_text_of kind change_of break_of contents)) 0 [] ≡ head_of kind First)
    ↔ ((key : List ℕ) (entries : List (Entry C)) → finite.get contents.patterns key ≡ Some entries
    → All (λ e. e.value ≤ 9) entries)
