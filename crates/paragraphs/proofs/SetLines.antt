-- Lines of parts.
use Rattle.std.proofs.Common.{◌≡◌, ℕ, ◌-◌, ◌<◌, ◌≤◌, List, [], ◌∷◌, ◌++◌, length, map, take, drop, sym, ap, ◌∙◌, arith}
use Rattle.std.specs.List.{slice_index_or, slice_range, flat_map, concat}
use Rattle.std.proofs.lemmas.Grind.{flat_map-append}
use Rattle.std.proofs.lemmas.List.Folds.{drop_split}
use Rattle.std.proofs.lemmas.List.{get_or-map, take-map, drop-map, length-map, drop_all}
use Rattle.line_division.specs.declared.stretch.Stretch.{Stretch}
use Rattle.line_division.specs.Division.{Divides}
use Rattle.paragraphs.specs.declared.part.Part.{Part}
use Rattle.paragraphs.specs.Settings.{Setting, no_setting, setting_at, joined_text, shown_text, last_text, stretch_of, line_text, unbroken_to}
use Rattle.paragraphs.specs.Private.PartSettings.{setting_of, settings_of}
use Rattle.paragraphs.specs.Private.Ends.{Rise}

pub settings_between : (parts : List Part) (a b : ℕ) → settings_of (slice_range parts a b) ≡ slice_range (settings_of parts) a b
settings_between parts a b = sym (take-map setting_of (b - a) (drop a parts)) ∙ ap (take (b - a)) (sym (drop-map setting_of a parts))

pub setting_read : (parts : List Part) (i : ℕ) (part : Part) → i < length parts → part ≡ slice_index_or parts i part → setting_at (settings_of parts) i ≡ setting_of part
setting_read parts i part lt is = get_or-map setting_of parts i part no_setting lt ∙ ap setting_of (sym is)

-- The texts that were put together are the line.
pub line_whole : (parts : List Part) (start end : ℕ) (last : Part) (line : List ℕ) → start < end → end ≤ length parts → last ≡ slice_index_or parts (end - 1) last
    → line ≡ (setting_at (settings_of parts) start).opening ++ flat_map shown_text (settings_of (slice_range parts start (end - 1)))
    → line ++ last_text (setting_of last) ≡ line_text (settings_of parts) start end
line_whole parts start end last line lt within is so_far =
    let here = setting_read parts (end - 1) last (omega arith) is in
    ap (λ xs. xs ++ last_text (setting_of last)) so_far
    ∙ ap (λ ps. ((setting_at (settings_of parts) start).opening ++ flat_map shown_text ps) ++ last_text (setting_of last)) (settings_between parts start (end - 1))
    ∙ ap (λ s. ((setting_at (settings_of parts) start).opening ++ flat_map shown_text (slice_range (settings_of parts) start (end - 1))) ++ last_text s) (sym here)

divides_up : (stretches : List Stretch) (columns start : ℕ) (row : List ℕ) → Divides stretches columns start row → start ≤ length stretches
divides_up stretches columns start [] divides = omega (arith, divides)
divides_up stretches columns start (end ∷ row) divides = let rest = divides_up stretches columns end row divides.2 in omega (arith, rest, divides.0)

pub divides_rise : (stretches : List Stretch) (columns start : ℕ) (row : List ℕ) → Divides stretches columns start row → Rise start (length stretches) row
divides_rise stretches columns start [] divides = tt
divides_rise stretches columns start (end ∷ row) divides = (divides.0, divides_up stretches columns end row divides.2, divides_rise stretches columns end row divides.2)

pub length-set_stretches : (parts : List Part) → length (map stretch_of (settings_of parts)) ≡ length parts
length-set_stretches parts = length-map (settings_of parts) stretch_of ∙ length-map parts setting_of

-- The lines, as they would stand in one line, join to all that is after their start.
pub whole_from : (parts : List Setting) (stretches : List Stretch) (columns start : ℕ) (row : List ℕ) → length stretches ≡ length parts → Divides stretches columns start row
    → concat (unbroken_to parts start row) ≡ flat_map joined_text (drop start parts)
whole_from parts stretches columns start [] same divides = ap (flat_map joined_text) (sym (drop_all start parts (omega (arith, divides, same))))
whole_from parts stretches columns start (end ∷ row) same divides =
    ap (λ s. flat_map joined_text (slice_range parts start end) ++ s) (whole_from parts stretches columns end row same divides.2)
    ∙ sym (flat_map-append joined_text (slice_range parts start end) (drop end parts))
    ∙ ap (flat_map joined_text) (sym (drop_split parts start end (omega (arith, divides.0))))
