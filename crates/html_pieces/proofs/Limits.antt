-- The search through the open elements at its limit.
use Rattle.std.proofs.Common.{◌≡◌, ℕ, Bool, List, [], ◌∷◌, length, map, false, refl, ap, ◌∙◌, None, if◌then◌else◌}
use Rattle.std.specs.Option.{unwrap_or}
use Rattle.std.proofs.lemmas.List.{length-reverse, length-map}
use Rattle.html_pieces.specs.Groups.{is_root}
use Rattle.html_pieces.specs.Elements.{Element, kept_open, around_nearest_in_scope, closed_as, depth_limit, as_element, as_elements}
use Rattle.html_pieces.specs.declared.bytes.PageForm.{PageForm}
use Rattle.html_pieces.specs.declared.groups.ElementGroup.{ElementGroup}
use Rattle.html_pieces.specs.declared.elements.Element as declared
use Rattle.html_pieces.specs.Readings.{closes_alike_from, ends_alike_from}

pub kept_at_limit : (new : ElementGroup) (left : ℕ) (kept es : List Element) → left ≡ 0 → kept_open new left kept es ≡ kept
kept_at_limit new left kept [] h = refl
kept_at_limit new left kept (e ∷ es) h = rw h

pub none_at_limit : (form : PageForm) (name : List ℕ) (tag : ElementGroup) (left : ℕ) (es : List Element) → left ≡ 0 → around_nearest_in_scope form name tag left es ≡ None
none_at_limit form name tag left [] h = refl
none_at_limit form name tag left (e ∷ es) h = rw h

pub closed_passes : (form : PageForm) (name : List ℕ) (tag : ElementGroup) (es : List Element) → is_root tag ≡ false → around_nearest_in_scope form name tag depth_limit es ≡ None
    → closed_as form name tag es ≡ es
closed_passes form name tag es r none =
    ap (λ b. if b then es else unwrap_or (around_nearest_in_scope form name tag depth_limit es) es) r ∙ ap (λ o. unwrap_or o es) none

pub none_alike_at_limit : (name : List ℕ) (tag : ElementGroup) (left : ℕ) (all : Bool) (es : List Element) → left ≡ 0 → closes_alike_from name tag left all es ≡ None
none_alike_at_limit name tag left all [] h = refl
none_alike_at_limit name tag left all (e ∷ es) h = rw h

pub so_far_at_limit : (standard : Bool) (new : ElementGroup) (left : ℕ) (so_far all : Bool) (es : List Element) → left ≡ 0 → ends_alike_from standard new left so_far all es ≡ so_far
so_far_at_limit standard new left so_far all [] h = refl
so_far_at_limit standard new left so_far all (e ∷ es) h = rw h

pub as_many : (held : List declared.Element) → length (as_elements held) ≡ length held
as_many held = length-reverse (map as_element held) ∙ length-map held as_element
