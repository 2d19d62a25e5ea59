-- Edits: how an exception is judged and read by itself, and that the last one decides.
use Rattle.std.proofs.Common.{◌≡◌, ◌∙◌, ℕ, ◌<◌, Bool, true, false, cond, not, inr, List, [], ◌∷◌, Option, Some, None, unwrap_or, refl, sym, ap, subst, arith, map}
use Rattle.std.specs.Prelude.{◌⊎◌, is_none, IsTrue, IsUtf8, codes, Result, Ok, Err}
use Rattle.std.specs.Option.{option_or}
use Rattle.std.specs.Cmp.Lexicographic.{nat_list_cmp_total, texts_ties, nat_list_eq_equiv}
use Rattle.std.specs.FinMap as finite
use Rattle.std.specs.FinMap.{get-insert, get-remove}
use Rattle.std.specs.Str.{is_utf8}
use Rattle.std.specs.String.{string_bytes}
use Rattle.std.specs.declared.string.String.{String}
use Rattle.std.specs.declared.vec.Vec.{Vec}
use Rattle.std.proofs.lemmas.Str.{IsUtf8-append, IsUtf8-from_ascii, is_utf8-from_IsUtf8}
use Rattle.std.proofs.lemmas.Str.Ascii.{IsAscii-cons, IsAscii-nil}
use Rattle.std.proofs.lemmas.Bool.{or_right}
use Rattle.hyphenation_breaks.specs.Break.{Break, Change, plain_break}
use Rattle.hyphenation_breaks.specs.Dictionary.{Contents}
use Rattle.hyphenation_reader.specs.Edits.{as_line, form_in, is_addition, is_sound_line, edit_line, after_edit, after_edits}
use Rattle.hyphenation_reader.specs.Laws.{SpeltIsSound, effect_on_word, word_named, last_effect_on}
use Rattle.hyphenation_reader.specs.Private.Edits.{ReadsException}
use Rattle.hyphenation_grammar.specs.Items.{breaks_of_line}
use Rattle.hyphenation_grammar.specs.Judging.{own_cause, is_known}
use Rattle.hyphenation_breaks.specs.Invariant.{are_listed}
use Rattle.hyphenation_grammar.specs.Lines.{is_same, strip_prefix}
use Rattle.hyphenation_reader.specs.Private.LineAnswers.{ReturnsException, item_cause}
use Rattle.hyphenation_grammar.specs.declared.form.Form.{Form}
use Rattle.hyphenation_grammar.specs.declared.form.Kind.{Kind}
use Rattle.hyphenation_grammar.specs.declared.form.Version.TheVariants.{First}
use Rattle.hyphenation_grammar.specs.declared.Cause.{Cause}
use Rattle.hyphenation_grammar.specs.declared.Cause.TheVariants.{NotUtf8, UnknownLine}
use Rattle.hyphenation_reader.proofs.JudgingLine.{halves, past_byte}
use Rattle.hyphenation_reader.proofs.ReadingInvariant.{exception_held}

-- ---- the line of an exception fails none of the tests before Token

passed : (u k : Bool) → u ≡ true → k ≡ true → cond {A = Option Cause} (not u) (Some NotUtf8) (cond (not k) (Some UnknownLine) None) ≡ None
passed u k eu ek = rw (eu, ek) refl

line-utf8 : (text : List ℕ) → IsUtf8 text → IsUtf8 (as_line text)
line-utf8 text u = IsUtf8-append (101 ∷ 32 ∷ []) text (IsUtf8-from_ascii (101 ∷ 32 ∷ []) (IsAscii-cons 101 (32 ∷ []) (omega arith) (IsAscii-cons 32 [] (omega arith) IsAscii-nil))) u

pub only_item : (form : Form) (text : List ℕ) → IsUtf8 text → own_cause form 4 (as_line text) ≡ item_cause form (as_line text)
only_item form text u =
    halves form 4 (as_line text)
    ∙ ap (λ (o : Option Cause). option_or o (item_cause form (as_line text)))
    (passed (is_utf8 (as_line text)) (is_known (as_line text)) (is_utf8-from_IsUtf8 (as_line text) (line-utf8 text u)) (or_right _ true refl))

-- ---- so it is sound exactly where it can be read, and what it lists may be listed

no_cause : {X : Type 0} (o : Option X) → o ≡ None → is_none o ≡ true
no_cause o e = ap is_none e

some_cause : {X : Type 0} (o : Option X) (x : X) → o ≡ Some x → is_none o ≡ false
some_cause o x e = ap is_none e

none_there : {X : Type 0} (o : Option X) → is_none o ≡ true → o ≡ None
none_there None e = refl
none_there (Some x) e = absurd cc

pub read : {B Y Z : Type 0} (kind : Kind) (listing_of : Break → B) (text : List ℕ) (r : Result (String Y × Vec B Z) Cause) → IsUtf8 text
    → ((line : List ℕ) → Some text ≡ strip_prefix (codes "e ") line → ReturnsException (form_in kind First) listing_of line r) → (x : String Y × Vec B Z) → r ≡ Ok x → ReadsException kind listing_of (Some x) (as_line text)
read {B} {Y} {Z} kind listing_of text r u answers x e =
    let form = form_in kind First in
    let h : ReturnsException form listing_of (as_line text) (Ok x) = subst (λ (s : Result (String Y × Vec B Z) Cause). ReturnsException form listing_of (as_line text) s) e (answers (as_line text) refl) in
    (no_cause (own_cause form 4 (as_line text)) (only_item form text u ∙ h.0), h.1.1)

pub unread : {B Y Z : Type 0} (kind : Kind) (listing_of : Break → B) (text : List ℕ) (r : Result (String Y × Vec B Z) Cause) → IsUtf8 text
    → ((line : List ℕ) → Some text ≡ strip_prefix (codes "e ") line → ReturnsException (form_in kind First) listing_of line r) → (cause : Cause) → r ≡ Err cause → is_sound_line kind (as_line text) ≡ false
unread {B} {Y} {Z} kind listing_of text r u answers cause e =
    let form = form_in kind First in
    let h : item_cause form (as_line text) ≡ Some cause = subst (λ (s : Result (String Y × Vec B Z) Cause). ReturnsException form listing_of (as_line text) s) e (answers (as_line text) refl) in
    some_cause (own_cause form 4 (as_line text)) cause (only_item form text u ∙ h)

pub may_be_listed : {B Y Z : Type 0} → SpeltIsSound → (kind : Kind) (listing_of : Break → B) (break_of : B → Break) → ((b : Break) → (break_of (listing_of b) ≡ b) ⊎ (break_of (listing_of b) ≡ plain_break b.place))
    → (line : List ℕ) (found : Option (String Y × Vec B Z)) (x : String Y × Vec B Z) → found ≡ Some x → ReadsException kind listing_of found line → IsTrue (are_listed break_of (string_bytes x.0) x.1.items)
may_be_listed {B} {Y} {Z} sound kind listing_of break_of kept line found x e reads =
    let form = form_in kind First in
    let h : ReadsException kind listing_of (Some x) line = subst (λ (o : Option (String Y × Vec B Z)). ReadsException kind listing_of o line) e reads in
    (exception_held sound (λ (c : Option Change). tt) listing_of (λ (u : Unit {0}). None) break_of (λ c. inr refl) kept form 4 line (string_bytes x.0) x.1.items (none_there (own_cause form 4 line) h.0) h.1).ascend

-- what stands after a sign
pub after_sign : (sign b : ℕ) (edit rest : List ℕ) → sign < 128 → b ≡ sign → edit ≡ b ∷ rest → IsUtf8 edit → IsUtf8 rest
after_sign sign b edit rest small is e u = past_byte b rest (subst (λ (x : ℕ). x < 128) (sym is) small) (subst IsUtf8 e u)

-- ---- the last edit that names a word decides

-- what one edit says of a word
chosen : {X : Type 0} (b : Bool) (said old : Option X) → cond b said old ≡ unwrap_or (cond b (Some said) None) old
chosen true said old = refl
chosen false said old = refl

one_edit : {C B : Type 0} (dictionary : Contents C B) (name word : List ℕ) (list : List B) (adds : Bool)
    → finite.get (cond adds (record dictionary { exceptions = finite.insert dictionary.exceptions name list }) (record dictionary { exceptions = finite.remove dictionary.exceptions name })).exceptions word
    ≡ unwrap_or (cond (is_same name word) (Some (cond adds (Some list) None)) None) (finite.get dictionary.exceptions word)
one_edit {C} {B} dictionary name word list true =
    get-insert nat_list_cmp_total dictionary.exceptions name list word ∙ ap (λ (b : Bool). cond b (Some list) (finite.get dictionary.exceptions word)) (sym (texts_ties word name) ∙ nat_list_eq_equiv.symm word name)
    ∙ chosen (is_same name word) (Some list) (finite.get dictionary.exceptions word)
one_edit {C} {B} dictionary name word list false =
    get-remove nat_list_cmp_total dictionary.exceptions name word ∙ ap (λ (b : Bool). cond b None (finite.get dictionary.exceptions word)) (sym (texts_ties word name) ∙ nat_list_eq_equiv.symm word name)
    ∙ chosen (is_same name word) None (finite.get dictionary.exceptions word)

either_or : {X : Type 0} (o p : Option X) (x y : X) → y ≡ unwrap_or p x → unwrap_or o y ≡ unwrap_or (option_or o p) x
either_or None p x y e = e
either_or (Some z) p x y e = refl

pub last_decides : {C B : Type 0} (listing_of : Break → B) (dictionary : Contents C B) (edits : List (List ℕ)) (word : List ℕ)
    → finite.get (after_edits listing_of dictionary edits).exceptions word ≡ unwrap_or (last_effect_on listing_of word edits) (finite.get dictionary.exceptions word)
last_decides listing_of dictionary [] word = refl
last_decides {C} {B} listing_of dictionary (e ∷ es) word =
    last_decides listing_of (after_edit listing_of dictionary e) es word
    ∙ either_or (last_effect_on listing_of word es) (cond (is_same (word_named e) word) (Some (effect_on_word listing_of e)) None) (finite.get dictionary.exceptions word) (finite.get (after_edit listing_of dictionary e).exceptions word)
    (one_edit dictionary (word_named e) word (map listing_of (breaks_of_line (edit_line e))) (is_addition e))
