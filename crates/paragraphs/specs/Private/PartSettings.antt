-- The parts that the code holds, as texts.
use Rattle.std.specs.Prelude.{◌≡◌, ℕ, ◌+◌, ◌^◌, ◌<◌, if◌then◌else◌, Bool, true, List, [], ◌∷◌, ◌++◌, length, map}
use Rattle.hyphenation_breaks.specs.Ascii.{hyphen}
use Rattle.paragraphs.specs.declared.part.Part.{Part}
use Rattle.paragraphs.specs.Private.Changes.{after_bytes, joint_bytes, before_bytes}
use Rattle.paragraphs.specs.Private.PartStyles.{indent_of, price_of}
use Rattle.paragraphs.specs.Settings.{Setting, is_short}

-- The hyphen of a line's end, if there is one.
abbrev pub hyphen_if : Bool → List ℕ
hyphen_if hyphenated = if hyphenated then hyphen ∷ [] else []

-- The text between a part and the next one of the same line.
abbrev pub joint_of : Part → List ℕ
joint_of part = joint_bytes part.changes part.hyphenated

-- A part as texts.
abbrev pub setting_of : Part → Setting
setting_of part = record {
  opening = indent_of part.style.now part.indent ++ after_bytes part.changes;
  text = part.text.now;
  joint = joint_of part;
  closing = before_bytes part.changes ++ hyphen_if part.hyphenated;
  price = price_of part.style.now part.hyphenated;
}

-- No text of a part has 2^31 bytes.
pub record IsShort (part : Part) : Type 0 where
  pub opening : length (indent_of part.style.now part.indent) + length (after_bytes part.changes) < 2 ^ 31
  pub text : length part.text.now < 2 ^ 31
  pub joint : length (joint_of part) < 2 ^ 31
  pub closing : length (before_bytes part.changes) + length (hyphen_if part.hyphenated) < 2 ^ 31

-- A part of printable ASCII is short, without an indent and without a change.
pub record IsBare (part : Part) : Type 0 where
  pub plain : part.plain ≡ true
  pub indent : length (indent_of part.style.now part.indent) ≡ 0
  pub after : length (after_bytes part.changes) ≡ 0
  pub before : length (before_bytes part.changes) ≡ 0
  pub text : length part.text.now < 2 ^ 31
  pub joint : length (joint_of part) < 2 ^ 31

-- No text of a part has 2^31 bytes, as a test.
abbrev pub is_short_part : Part → Bool
is_short_part part = is_short (setting_of part)

-- Parts as texts.
abbrev pub settings_of : List Part → List Setting
settings_of parts = map setting_of parts
