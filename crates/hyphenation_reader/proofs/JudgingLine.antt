-- The tests of a line: those before Token, and those from it on.
use Rattle.std.proofs.Common.{◌≡◌, ◌∙◌, ◌<◌, ℕ, Bool, true, false, cond, eqb, nat_lt, not, ◌&&◌, ◌||◌, arith, List, ◌∷◌, [], ◌++◌, drop, length, Option, Some, None, refl, sym, ap, subst, is_some}
use Rattle.std.specs.Prelude.{◌==◌, IsUtf8, codes, Result, Ok, Err, MatchResult, IfErr, IfOk, OnOk}
use Rattle.std.specs.Option.{option_or}
use Rattle.std.specs.Str.{is_utf8}
use Rattle.std.proofs.lemmas.Bool.{eqb-true}
use Rattle.std.proofs.lemmas.Bool.Decides.{nat_tests}
use Rattle.std.proofs.lemmas.Str.{IsUtf8-from_is_utf8, IsUtf8-past_char, is_utf8-from_IsUtf8}
use Rattle.std.proofs.lemmas.Str.Ascii.{encode_ascii}
use Rattle.hyphenation_grammar.specs.declared.form.Form.{Form}
use Rattle.hyphenation_grammar.specs.Judging.{own_cause, fails, is_known}
use Rattle.hyphenation_reader.specs.Private.Judging.{cause_before_token, early_cause}
use Rattle.hyphenation_grammar.specs.Items.{is_exception_line, is_pattern_line}
use Rattle.hyphenation_grammar.specs.Lines.{strip_prefix, starts_with}
use Rattle.hyphenation_reader.specs.Private.LineAnswers.{item_cause}
use Rattle.hyphenation_grammar.specs.declared.Cause.{Cause}
use Rattle.hyphenation_grammar.specs.declared.Cause.TheVariants.{NotUtf8, Header, Language, Minima, UnknownLine}
use Rattle.hyphenation_reader.proofs.LineCauses.{begun}

five : (a b c d e : Bool) (rest : Option Cause)
    → cond a (Some NotUtf8) (cond b (Some Header) (cond c (Some Language) (cond d (Some Minima) (cond e (Some UnknownLine) rest))))
    ≡ option_or (cond a (Some NotUtf8) (cond b (Some Header) (cond c (Some Language) (cond d (Some Minima) (cond e (Some UnknownLine) None))))) rest
five true b c d e rest = refl
five false true c d e rest = refl
five false false true d e rest = refl
five false false false true e rest = refl
five false false false false true rest = refl
five false false false false false rest = refl

pub halves : (form : Form) (number : ℕ) (line : List ℕ) → own_cause form number line ≡ option_or (cause_before_token form number line) (item_cause form line)
halves form number line =
    five (fails form number line NotUtf8) (fails form number line Header) (fails form number line Language) (fails form number line Minima) (fails form number line UnknownLine) (item_cause form line)

pub early : (form : Form) (number : ℕ) (line : List ℕ) (cause : Cause) → Some cause ≡ cause_before_token form number line → own_cause form number line ≡ Some cause
early form number line cause e = halves form number line ∙ ap (λ (o : Option Cause). option_or o (item_cause form line)) (sym e)

-- it is UTF-8, and so is what stands after the beginning of an exception
utf8_by : (t : Bool) (rest : Option Cause) → cond (not t) (Some NotUtf8) rest ≡ None → t ≡ true
utf8_by true rest e = refl
utf8_by false rest e = absurd cc

line-utf8 : (form : Form) (number : ℕ) (line : List ℕ) → cause_before_token form number line ≡ None → IsUtf8 line
line-utf8 form number line e =
    IsUtf8-from_is_utf8 line (utf8_by (is_utf8 line) (cond (fails form number line Header) (Some Header) (cond (fails form number line Language) (Some Language) (cond (fails form number line Minima) (Some Minima) (cond (fails form number line UnknownLine) (Some UnknownLine) None)))) e)

-- what stands after a byte of ASCII
pub past_byte : (b : ℕ) (rest : List ℕ) → b < 128 → IsUtf8 (b ∷ rest) → IsUtf8 rest
past_byte b rest small u = IsUtf8-past_char (b ∷ rest) rest b u (ap (λ (t : List ℕ). t ++ rest) (sym (encode_ascii b small)))

both_bytes : (a b : Bool) (d : List ℕ) → is_some (cond (a && (b && true)) (Some d) None) ≡ true → (a ≡ true) × (b ≡ true)
both_bytes true true d e = (refl, refl)
both_bytes true false d e = absurd cc
both_bytes false b d e = absurd cc

pub after-utf8 : (letter : ℕ) → letter < 128 → (line : List ℕ) → IsUtf8 line → starts_with (letter ∷ 32 ∷ []) line ≡ true → IsUtf8 (drop 2 line)
after-utf8 letter small [] u e = absurd cc
after-utf8 letter small (b ∷ []) u e = absurd (short (eqb b letter) [] e)
  where
    short : (t : Bool) (d : List ℕ) → is_some (cond (t && false) (Some d) None) ≡ true → ⊥
    short true d e = cc
    short false d e = cc
after-utf8 letter small (b ∷ d ∷ rest) u e =
    let two = both_bytes (eqb b letter) (eqb d 32) rest e in
    past_byte d rest (subst (λ (x : ℕ). x < 128) (sym (eqb-true d 32 two.1)) (omega arith)) (past_byte b (d ∷ rest) (subst (λ (x : ℕ). x < 128) (sym (eqb-true b letter two.0)) small) u)

none_of : (o : Option Cause) → ((x : Cause) → o ≡ Some x → ⊥) → o ≡ None
none_of None never = refl
none_of (Some x) never = absurd (never x refl)

pub exception-utf8 : (form : Form) (number : ℕ) (line text : List ℕ) (found : Option Cause) → ((x : Cause) → found ≡ Some x → ⊥) → found ≡ cause_before_token form number line → Some text ≡ strip_prefix (codes "e ") line → IsUtf8 text
exception-utf8 form number line text found never is start =
    let b = begun (codes "e ") line text start in
    subst IsUtf8 b.1 (after-utf8 101 (omega arith) line (line-utf8 form number line (sym is ∙ none_of found never)) b.0)

pub pattern-utf8 : (form : Form) (number : ℕ) (line text : List ℕ) (found : Option Cause) → ((x : Cause) → found ≡ Some x → ⊥) → found ≡ cause_before_token form number line → Some text ≡ strip_prefix (codes "p ") line → IsUtf8 text
pattern-utf8 form number line text found never is start =
    let b = begun (codes "p ") line text start in
    subst IsUtf8 b.1 (after-utf8 112 (omega arith) line (line-utf8 form number line (sym is ∙ none_of found never)) b.0)

-- a line that passes the first five tests fails the first of the others
pub refused_late : {X : Type 0} (form : Form) (number : ℕ) (line : List ℕ) (found : Option Cause) → ((x : Cause) → found ≡ Some x → ⊥) → found ≡ cause_before_token form number line
    → (P : X → Type 0) (r : Result X Cause) → MatchResult r P (λ cause. item_cause form line ≡ Some cause) → IfErr r (λ cause. own_cause form number line ≡ Some cause)
refused_late form number line found never is P (Ok x) h = tt
refused_late form number line found never is P (Err cause) h =
    halves form number line ∙ ap (λ (o : Option Cause). option_or o (item_cause form line)) (sym is ∙ none_of found never) ∙ h

pub passed_late : {X : Type 0} (form : Form) (number : ℕ) (line : List ℕ) (found : Option Cause) → ((x : Cause) → found ≡ Some x → ⊥) → found ≡ cause_before_token form number line
    → (P : X → Type 0) (r : Result X Cause) → MatchResult r (λ x. (item_cause form line ≡ None) × P x) (λ cause. item_cause form line ≡ Some cause) → OnOk r (own_cause form number line ≡ None)
passed_late form number line found never is P (Ok x) h =
    halves form number line ∙ ap (λ (o : Option Cause). option_or o (item_cause form line)) (sym is ∙ none_of found never) ∙ h.0
passed_late form number line found never is P (Err cause) h = tt

pub said_late : {X : Type 0} (form : Form) (line : List ℕ) (P : X → Type 0) (r : Result X Cause) → MatchResult r (λ x. (item_cause form line ≡ None) × P x) (λ cause. item_cause form line ≡ Some cause) → IfOk r P
said_late form line P (Ok x) h = h.1
said_late form line P (Err cause) h = tt

-- the lines after the third are judged alike
after_third : (form : Form) (number : ℕ) (line : List ℕ) → 3 < number → cause_before_token form number line ≡ early_cause line
after_third form number line late = rw (other 1 (omega arith), other 2 (omega arith), other 3 (omega arith), more) refl
  where
    other : (k : ℕ) → k < number → eqb number k ≡ false
    other k h = grind (arith, nat_tests)

    more : nat_lt 3 number ≡ true
    more = grind (arith, nat_tests)

pub alike : (form : Form) (number : ℕ) (line : List ℕ) → 3 < number → own_cause form number line ≡ own_cause form 4 line
alike form number line late = halves form number line ∙ ap (λ (o : Option Cause). option_or o (item_cause form line)) (after_third form number line late) ∙ sym (halves form 4 line)

-- a `p` line passes the tests before Token
known_p : (a b d : Bool) → (a || b || (true || d)) ≡ true
known_p true b d = refl
known_p false true d = refl
known_p false false d = refl

pub pattern_passes : (form : Form) (line text : List ℕ) → IsUtf8 line → Some text ≡ strip_prefix (codes "p ") line → None ≡ cause_before_token form 4 line
pattern_passes form line text u start =
    let sort : is_pattern_line line ≡ true = (begun (codes "p ") line text start).0 in
    let known : is_known line ≡ true = ap (λ (t : Bool). length line == 0 || starts_with (codes "#") line || (t || is_exception_line line)) sort ∙ known_p (length line == 0) (starts_with (codes "#") line) (is_exception_line line) in
    sym (ap (λ (t : Bool). cond (not t) (Some NotUtf8) (cond (not (is_known line)) (Some UnknownLine) None)) (is_utf8-from_IsUtf8 line u) ∙ ap (λ (t : Bool). cond (not t) (Some UnknownLine) None) known)
