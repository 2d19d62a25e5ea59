use Rattle.std.proofs.Common.{◌<◌, ◌∙◌, ℕ, IsCharBoundary, length, slice_index, sym, ap, subst}
use Rattle.std.specs.Option.{option_map}
use Rattle.callers.specs.Room.{last_room, places_of, word_parts}
use Rattle.callers.proofs.PlacesOfBreaks.{on_boundaries, places_back}
use Rattle.callers.proofs.line_filler.break_to_fit.Goals as goal

pub last_room-requires : goal.last_room-requires
last_room-requires g c =
    let word = c.in_ok-word.word in
    subst (λ ps. (i : ℕ) → i < length ps → IsCharBoundary word.text.now (slice_index ps i)) (sym c.deref.ensures.value) (on_boundaries word.text.now 0 0 word.breaks.items word.fit)

pub returns-in-Some : goal.returns-in-Some
returns-in-Some g c =
    let word = c.in_ok-word.word in
    let columns = c.args.columns in
    let places = c.deref.ensures.value ∙ sym (places_back word.breaks.items) ∙ ap places_of c.in_ok-word.ensures.breaks in
    let found = c.in-Some.ensures.last_room ∙ ap (λ t. last_room t columns c.deref.result.now) c.in_ok-word.ensures.text ∙ ap (last_room c.args.word.now columns) places in
    rw (c.split_at.ensures.front, c.split_at.ensures.back, c.in_ok-word.ensures.text) (ap (option_map (word_parts c.args.word.now)) found)

pub returns : goal.returns
returns g c =
    let word = c.in_ok-word.word in
    let columns = c.args.columns in
    let places = c.deref.ensures.value ∙ sym (places_back word.breaks.items) ∙ ap places_of c.in_ok-word.ensures.breaks in
    let found = c.in-None.ensures.last_room ∙ ap (λ t. last_room t columns c.deref.result.now) c.in_ok-word.ensures.text ∙ ap (last_room c.args.word.now columns) places in
    ap (option_map (word_parts c.args.word.now)) found
