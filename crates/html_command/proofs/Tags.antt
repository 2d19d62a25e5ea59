-- The tags of languages.
use Rattle.std.proofs.Common.{◌≡◌, ◌&&◌, List, [], ◌∷◌, ap, map, refl}
use Rattle.std.specs.List.{list_all}
use Rattle.std.specs.String.{string_bytes}
use Rattle.std.specs.declared.string.String.{String}
use Rattle.html_command.specs.Notes.{is_empty_tag}

-- All strings are empty tags.
pub all_mapped : {Z : Type 0} (tags : List (String Z)) → list_all is_empty_tag (map string_bytes tags) ≡ list_all (λ tag. is_empty_tag (string_bytes tag)) tags
all_mapped [] = refl
all_mapped (tag ∷ tags) = ap (λ b. is_empty_tag (string_bytes tag) && b) (all_mapped tags)
