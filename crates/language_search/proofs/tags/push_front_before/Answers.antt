use Rattle.language_search.proofs.Fronts.{place_with_hyphen, place_without_hyphen}
use Rattle.language_search.proofs.tags.push_front_before.Goals as goal

pub returns-then-tag-place-ne45 : goal.returns-then-tag-place-ne45
returns-then-tag-place-ne45 c = place_without_hyphen c.args.tag.now c.args.place c.args.languages.now.items c.if-tag-place-ne45.true

pub returns : goal.returns
returns c =
    place_with_hyphen c.args.tag.now c.args.place c.args.languages.now.items c.push_front.new.languages.items c.if-tag-place-ne45.false
    c.in_ok-push_front.ensures
