-- Bytes that leave a state as it is.
use Rattle.std.proofs.Common.{◌≡◌, ℕ, ◌==◌, ◌||◌, ◌&&◌, List, Option, Some, None, Bool, true, false, not, refl, ap, if◌then◌else◌, arith, codes}
use Rattle.std.proofs.lemmas.Bool.Decides.{nat_tests}
use Rattle.html_pieces.specs.declared.bytes.PageForm.{PageForm}
use Rattle.html_pieces.specs.declared.tokenizer.State.{State}
use Rattle.html_pieces.specs.declared.tokenizer.State.TheVariants.{Data, TagName, AttributeName, DoubleQuotedValue, SingleQuotedValue, AfterQuotedValue, Comment, CommentEndDash, Raw, BeforeAttributeName, AfterAttributeName, SelfClosingTag, TagEnd, BeforeAttributeValue, ScriptEscaped}
use Rattle.html_pieces.specs.Bytes.{is_white_space, is_alphanumeric, is_continuation, ends_name, is_same_name}
use Rattle.html_pieces.specs.Names.{raw_end_tag}
use Rattle.html_pieces.specs.Pieces.{next, state_after, in_tag, in_attribute, in_raw, is_script}
use Rattle.html_pieces.specs.Laws.{ends_text}
use Rattle.html_pieces.specs.Private.Quiet.{is_quiet}

not_true : (c : Bool) → not c ≡ true → c ≡ false
not_true true e = cc
not_true false e = refl

-- a letter or digit is no byte of those that part a tag
record IsPlainByte (b : ℕ) : Type 0 where
  space : is_white_space b ≡ false
  slash : (b == 47) ≡ false
  greater : (b == 62) ≡ false
  less : (b == 60) ≡ false
  equals : (b == 61) ≡ false
  dash : (b == 45) ≡ false

plain_byte : (b : ℕ) → is_alphanumeric b ≡ true → IsPlainByte b
plain_byte b e = record {
  space = grind (arith, nat_tests);
  slash = grind (arith, nat_tests);
  greater = grind (arith, nat_tests);
  less = grind (arith, nat_tests);
  equals = grind (arith, nat_tests);
  dash = grind (arith, nat_tests);
}

pub past_if : {A : Type 0} (c : Bool) (x y z : A) → c ≡ false → y ≡ z → (if c then x else y) ≡ z
past_if true x y z e f = cc
past_if false x y z e f = f

in_tag_stays : (b : ℕ) (other : State) → IsPlainByte b → in_tag b other ≡ other
in_tag_stays b other p =
    past_if (is_white_space b) BeforeAttributeName _ other p.space (past_if (b == 47) SelfClosingTag _ other p.slash (past_if (b == 62) TagEnd other other p.greater refl))

in_attribute_stays : (b : ℕ) → IsPlainByte b → in_attribute b ≡ AttributeName
in_attribute_stays b p =
    past_if (is_white_space b) AfterAttributeName _ AttributeName p.space (past_if (b == 47) SelfClosingTag _ AttributeName p.slash
    (past_if (b == 62) TagEnd _ AttributeName p.greater (past_if (b == 61) BeforeAttributeValue AttributeName AttributeName p.equals refl)))

no_name_end : (space slash greater c : Bool) → space ≡ false → slash ≡ false → greater ≡ false → (space || slash || greater) && c ≡ false
no_name_end true slash greater c e f g = cc
no_name_end false true greater c e f g = cc
no_name_end false false true c e f g = cc
no_name_end false false false c e f g = refl

pub no_dash : (dash c d : Bool) → dash ≡ false → dash && c && d ≡ false
no_dash true c d e = cc
no_dash false c d e = refl

pub next_stays : (form : PageForm) (foreign : Bool) (state : State) (front : List ℕ) (b : ℕ) → is_quiet state b ≡ true → next form foreign state front b ≡ Some state
unfolding next in_raw
next_stays form foreign Data front b e = past_if (b == 60 || b == 38) None (Some Data) (Some Data) (not_true (ends_text b) e) refl
next_stays form foreign TagName front b e = ap (λ s. Some s) (in_tag_stays b TagName (plain_byte b e))
next_stays form foreign AttributeName front b e = ap (λ s. Some s) (in_attribute_stays b (plain_byte b e))
next_stays form foreign DoubleQuotedValue front b e = past_if (b == 34) (Some AfterQuotedValue) (Some DoubleQuotedValue) (Some DoubleQuotedValue) (not_true (b == 34) e) refl
next_stays form foreign SingleQuotedValue front b e = past_if (b == 39) (Some AfterQuotedValue) (Some SingleQuotedValue) (Some SingleQuotedValue) (not_true (b == 39) e) refl
next_stays form foreign Comment front b e = past_if (b == 45) (Some CommentEndDash) (Some Comment) (Some Comment) (not_true (b == 45) e) refl
next_stays form foreign (Raw element) front b e =
    let p = plain_byte b e in
    past_if (b == 60) None _ (Some (Raw element)) p.less
    (past_if (ends_name b && is_same_name front (raw_end_tag element)) _ _ (Some (Raw element)) (no_name_end (is_white_space b) (b == 47) (b == 62) (is_same_name front (raw_end_tag element)) p.space p.slash p.greater)
    (past_if (b == 45 && is_same_name front (codes "<!-") && is_script element) (Some ScriptEscaped) (Some (Raw element)) (Some (Raw element)) (no_dash (b == 45) (is_same_name front (codes "<!-")) (is_script element) p.dash) refl))
next_stays form foreign state front b e = cc

either_stays : (c : Bool) (state : State) (o : Option State) → o ≡ Some state → (if c then Some state else o) ≡ Some state
either_stays true state o e = refl
either_stays false state o e = e

pub quiet_stays : (form : PageForm) (foreign : Bool) (state : State) (front : List ℕ) (b : ℕ) → is_quiet state b ≡ true → state_after form foreign state front b ≡ Some state
quiet_stays form foreign state front b e = either_stays (is_continuation b) state (next form foreign state front b) (next_stays form foreign state front b e)
