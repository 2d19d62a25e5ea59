-- A level with one more line, by what the line begins with.
use Rattle.std.proofs.Common.{◌≡◌, refl, ap, arith, ℕ, ◌==◌, Bool, true, false, List, [], ◌∷◌, codes, drop, length, take, Some, None, if◌then◌else◌}
use Rattle.std.proofs.lemmas.Grind.{common_steps}
use Rattle.std.specs.Prelude.{◌&&◌, nat_eq}
use Rattle.std.specs.Cmp.Lexicographic.{pointwise}
use Rattle.std.proofs.lemmas.Bool.{or_parts}
use Rattle.hyphenation_breaks.specs.Ascii.{percent}
use Rattle.libhyphen_files.specs.Bytes.{begins_with, before_nul}
use Rattle.libhyphen_files.specs.Private.Settings.{may_be_setting}
use Rattle.libhyphen_files.specs.Levels.{Level, setting, texts_without_breaks, with_pattern, with_text, with_line}

-- A value that stands under a test.
pub taken : {X : Type 0} (t : Bool) (x y : X) → (if t then Some x else None) ≡ Some y → t ≡ true
taken true x y e = refl
taken false x y e = absurd cc

pub value_taken : {X : Type 0} (t : Bool) (x y : X) → (if t then Some x else None) ≡ Some y → x ≡ y
value_taken true x y e = cc
value_taken false x y e = absurd cc

pub not_taken : {X : Type 0} (t : Bool) (x : X) → (if t then Some x else None) ≡ None → t ≡ false
not_taken true x e = absurd cc
not_taken false x e = refl

abbrev pub left : List ℕ → Bool
left line = begins_with line (codes "LEFTHYPHENMIN")

abbrev pub right : List ℕ → Bool
right line = begins_with line (codes "RIGHTHYPHENMIN")

abbrev pub compound_left : List ℕ → Bool
compound_left line = begins_with line (codes "COMPOUNDLEFTHYPHENMIN")

abbrev pub compound_right : List ℕ → Bool
compound_right line = begins_with line (codes "COMPOUNDRIGHTHYPHENMIN")

abbrev pub no_hyphen : List ℕ → Bool
no_hyphen line = begins_with line (codes "NOHYPHEN")

pub with_left : (utf8 : Bool) (level : Level) (line : List ℕ) → left line ≡ true → with_text utf8 level line ≡ record level { minima = record level.minima { left = setting 13 line } }
with_left utf8 level line l = rw l refl

pub with_right : (utf8 : Bool) (level : Level) (line : List ℕ) → left line ≡ false → right line ≡ true → with_text utf8 level line ≡ record level { minima = record level.minima { right = setting 14 line } }
with_right utf8 level line l r = rw (l, r) refl

pub with_compound_left : (utf8 : Bool) (level : Level) (line : List ℕ) → left line ≡ false → right line ≡ false → compound_left line ≡ true
    → with_text utf8 level line ≡ record level { minima = record level.minima { compound_left = setting 21 line } }
with_compound_left utf8 level line l r cl = rw (l, r, cl) refl

pub with_compound_right : (utf8 : Bool) (level : Level) (line : List ℕ) → left line ≡ false → right line ≡ false → compound_left line ≡ false → compound_right line ≡ true
    → with_text utf8 level line ≡ record level { minima = record level.minima { compound_right = setting 22 line } }
with_compound_right utf8 level line l r cl cr = rw (l, r, cl, cr) refl

pub with_no_hyphen : (utf8 : Bool) (level : Level) (line : List ℕ) → left line ≡ false → right line ≡ false → compound_left line ≡ false → compound_right line ≡ false → no_hyphen line ≡ true
    → with_text utf8 level line ≡ record level { no_hyphen = texts_without_breaks (drop 8 line) }
with_no_hyphen utf8 level line l r cl cr n = rw (l, r, cl, cr, n) refl

pub with_other : (utf8 : Bool) (level : Level) (line : List ℕ) → left line ≡ false → right line ≡ false → compound_left line ≡ false → compound_right line ≡ false → no_hyphen line ≡ false
    → with_text utf8 level line ≡ with_pattern utf8 level line
with_other utf8 level line l r cl cr n = rw (l, r, cl, cr, n) refl

-- A line that is no comment.
pub line_read : (utf8 : Bool) (level : Level) (line : List ℕ) → begins_with line (percent ∷ []) ≡ false → with_line utf8 level line ≡ with_text utf8 level (before_nul line)
line_read utf8 level line e = rw e refl

-- A line that begins with another byte is no setting.
same : (name byte : ℕ) → (byte == name) ≡ false → nat_eq name byte ≡ false
same name byte h = grind (arith, common_steps)

other : (name byte : ℕ) (names bytes : List ℕ) → (byte == name) ≡ false → begins_with (byte ∷ bytes) (name ∷ names) ≡ false
other name byte names bytes h = ap (λ b. b && pointwise nat_eq names (take (length names) bytes)) (same name byte h)

pub pattern_read : (utf8 : Bool) (level : Level) (line : List ℕ) → may_be_setting line ≡ false → with_text utf8 level line ≡ with_pattern utf8 level line
pattern_read utf8 level [] h = refl
pattern_read utf8 level (byte ∷ bytes) h =
    let three = (or_parts _ (byte == 78) h).0 in
    let two = (or_parts _ (byte == 67) three).0 in
    let l = other 76 byte (codes "EFTHYPHENMIN") bytes (or_parts (byte == 76) (byte == 82) two).0 in
    let r = other 82 byte (codes "IGHTHYPHENMIN") bytes (or_parts (byte == 76) (byte == 82) two).1 in
    let c = (or_parts _ (byte == 67) three).1 in
    let n = other 78 byte (codes "OHYPHEN") bytes (or_parts _ (byte == 78) h).1 in
    with_other utf8 level (byte ∷ bytes) l r (other 67 byte (codes "OMPOUNDLEFTHYPHENMIN") bytes c)
    (other 67 byte (codes "OMPOUNDRIGHTHYPHENMIN") bytes c) n
