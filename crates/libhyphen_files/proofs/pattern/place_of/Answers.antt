use Rattle.std.proofs.Common.{refl, rules, sym, ap, ◌≡◌, ◌+◌, ◌-◌, ◌∙◌, length, Option, Some, None, ℕ, List, filter}
use Rattle.std.specs.Prelude.{option_map, slice_get}
use Rattle.std.specs.List.{range_with_len}
use Rattle.std.proofs.lemmas.Iterator.{YieldsList-from_range}
use Rattle.std.proofs.lemmas.Iterator.Consumers.{nth_from_yields_List, YieldsList-from_filter}
use Rattle.libhyphen_files.specs.Patterns.{is_char_place}
use Rattle.libhyphen_files.proofs.pattern.place_of.Goals as goal

mapped_to_itself : (o : Option ℕ) → option_map (λ n. n) o ≡ o
mapped_to_itself None = refl
mapped_to_itself (Some n) = refl

pub returns : goal.returns
returns c =
    let key : List ℕ = c.args.key.now in
    let first : ℕ = c.first_place.result in
    sym (mapped_to_itself c.nth.result)
    ∙ nth_from_yields_List c.nth.result c.nth.new.self c.args.number c.nth.ensures.ran
    (YieldsList-from_filter _ (is_char_place key)
    (YieldsList-from_range first (length key + 1) (length key + 1 - first) c.filter.ensures.source refl)
    c.filter.ensures.closure (λ x b q k. search rules))
    ∙ ap (λ n. slice_get (filter (is_char_place key) (range_with_len n (length key + 1 - n))) c.args.number)
    c.first_place.ensures
