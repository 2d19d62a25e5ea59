-- Parts whose texts are short.
use Rattle.std.proofs.Common.{◌≡◌, ℕ, ◌+◌, ◌^◌, ◌<◌, ◌≤◌, ◌&&◌, true, false, nat_lt, List, [], ◌∷◌, length, get_or, take, ap, sym, ◌∙◌, inl, inr, arith, length-append}
use Rattle.std.specs.List.{All, list_all}
use Rattle.std.proofs.lemmas.Bool.{and_parts, ltb-true}
use Rattle.std.proofs.lemmas.List.{length-map}
use Rattle.std.proofs.lemmas.List.Elements.{All-nil, All-cons}
use Rattle.std.proofs.lemmas.List.Folds.{list_all_more, list_all_at, list_all-map}
use Rattle.paragraphs.specs.Private.Changes.{after_bytes, before_bytes}
use Rattle.paragraphs.specs.declared.part.Part.{Part}
use Rattle.paragraphs.specs.Settings.{Setting, is_short, IsTooLong}
use Rattle.paragraphs.specs.Private.PartStyles.{indent_of}
use Rattle.paragraphs.specs.Private.PartSettings.{hyphen_if, setting_of, settings_of, is_short_part, IsShort}

pub short_part : (part : Part) → is_short (setting_of part) ≡ true → IsShort part
short_part part short =
    let s = setting_of part in
    let opening = nat_lt (length s.opening) (2 ^ 31) in
    let text = nat_lt (length s.text) (2 ^ 31) in
    let joint = nat_lt (length s.joint) (2 ^ 31) in
    let closing = nat_lt (length s.closing) (2 ^ 31) in
    let all = and_parts ((opening && text) && joint) closing short in
    let three = and_parts (opening && text) joint all.0 in
    let two = and_parts opening text three.0 in
    record {
      opening = omega (arith, ltb-true (length s.opening) (2 ^ 31) two.0, length-append (indent_of part.style.now part.indent) (after_bytes part.changes));
      text = ltb-true (length s.text) (2 ^ 31) two.1;
      joint = ltb-true (length s.joint) (2 ^ 31) three.1;
      closing = omega (arith, ltb-true (length s.closing) (2 ^ 31) all.1, length-append (before_bytes part.changes) (hyphen_if part.hyphenated));
    }

pub all_short : (parts : List Part) → list_all is_short_part parts ≡ true → All IsShort parts
all_short [] short = All-nil IsShort
all_short (part ∷ parts) short =
    let both = and_parts (is_short_part part) (list_all is_short_part parts) short in
    All-cons IsShort part parts (short_part part both.0) (all_short parts both.1)

-- The parts so far are short, and one more is.
pub one_more_short : (parts : List Part) (i : ℕ) (part : Part) → i < length parts → part ≡ get_or parts i part → is_short_part part ≡ true
    → list_all is_short_part (take i parts) ≡ true → list_all is_short_part (take (i + 1) parts) ≡ true
one_more_short parts i part lt is short before =
    list_all_more is_short_part parts i part lt ∙ ap (λ t. t && is_short_part (get_or parts i part)) before ∙ ap is_short_part (sym is) ∙ short

pub one_not_short : (parts : List Part) (i : ℕ) (part : Part) → i < length parts → part ≡ get_or parts i part → is_short_part part ≡ false
    → list_all is_short_part parts ≡ false
one_not_short parts i part lt is long = list_all_at is_short_part parts i part lt (ap is_short_part (sym is) ∙ long)

pub not_all_short : (parts : List Part) (settings : List Setting) → settings_of parts ≡ settings → list_all is_short_part parts ≡ false → IsTooLong settings
not_all_short parts settings same long = inr (ap (list_all is_short) (sym same) ∙ list_all-map is_short setting_of parts ∙ long)

pub too_many : (parts : List Part) (settings : List Setting) → settings_of parts ≡ settings → 2 ^ 30 ≤ length parts → IsTooLong settings
too_many parts settings same many = inl (omega (arith, many, length-map parts setting_of, ap length same))
