-- Parts of printable ASCII, without an indent and without a change.
use Rattle.std.proofs.Common.{◌≡◌, ℕ, nat_lt, if◌then◌else◌, Bool, true, false, List, [], ◌∷◌, ◌++◌, length, sym, ap, refl, ◌∙◌, arith}
use Rattle.line_division.specs.declared.stretch.Stretch.{Stretch}
use Rattle.paragraphs.specs.Private.Changes.{after_bytes, before_bytes}
use Rattle.paragraphs.specs.declared.part.Part.{Part}
use Rattle.paragraphs.specs.Settings.{stretch_of, columns_of}
use Rattle.paragraphs.specs.Private.PartStyles.{indent_of, price_of}
use Rattle.paragraphs.specs.Private.PartSettings.{hyphen_if, joint_of, setting_of, IsBare}
use Rattle.paragraphs.proofs.Printable.{printable_columns, printable_columns_shown, hyphen_columns}

hyphen_any : (before : List ℕ) (hyphenated : Bool) → length before ≡ 0 → nat_lt 0 (length (before ++ hyphen_if hyphenated)) ≡ hyphenated
hyphen_any [] true none = refl
hyphen_any [] false none = refl
hyphen_any (b ∷ bs) hyphenated none = absurd (omega (arith, none))

no_columns : (one other : List ℕ) → length one ≡ 0 → length other ≡ 0 → columns_of (one ++ other) ≡ 0
no_columns [] [] none no_other = printable_columns [] refl
no_columns [] (b ∷ bs) none no_other = absurd (omega (arith, no_other))
no_columns (b ∷ bs) other none no_other = absurd (omega (arith, none))

pub bare_stretch : (part : Part) (width joint closing : ℕ) → IsBare part → width ≡ length part.text.now → joint ≡ length (joint_of part) → closing ≡ (if part.hyphenated then 1 else 0)
    → (record { opening = 0; width = width; joint = joint; closing = closing; price = price_of part.style.now part.hyphenated; hyphenated = part.hyphenated }) ≡ stretch_of (setting_of part)
bare_stretch part width joint closing bare wide gap close =
    let made : Stretch = stretch_of (setting_of part) in
    let before = before_bytes part.changes in
    let opening : 0 ≡ made.opening = sym (no_columns (indent_of part.style.now part.indent) (after_bytes part.changes) bare.indent bare.after) in
    let text : width ≡ made.width = wide ∙ sym (printable_columns_shown part.text.now (part.text_printable bare.plain)) in
    let between : joint ≡ made.joint = gap ∙ sym (printable_columns_shown (joint_of part) (part.joint_printable bare.plain)) in
    let end : closing ≡ made.closing = close ∙ sym (hyphen_columns before part.hyphenated bare.before) in
    let ends : part.hyphenated ≡ made.hyphenated = sym (hyphen_any before part.hyphenated bare.before) in
    let with_closing : ℕ → Stretch = λ c. record { opening = 0; width = width; joint = joint; closing = c; price = price_of part.style.now part.hyphenated; hyphenated = part.hyphenated } in
    ap with_closing end
    ∙ ap (λ o. record (with_closing made.closing) { opening = o }) opening
    ∙ ap (λ w. record (with_closing made.closing) { opening = made.opening; width = w }) text
    ∙ ap (λ j. record (with_closing made.closing) { opening = made.opening; width = made.width; joint = j }) between
    ∙ ap (λ h. record (with_closing made.closing) { opening = made.opening; width = made.width; joint = made.joint; hyphenated = h }) ends
