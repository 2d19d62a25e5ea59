use Rattle.std.proofs.Common.{ℕ, ap, ◌∙◌, subst}
use Rattle.std.specs.Str.{IsUtf8}
use Rattle.any_dictionary.specs.declared.AnyDictionary.{AnyDictionary}
use Rattle.c_calls.specs.Contents.{dictionary_of}
use Rattle.c_calls.specs.Dictionaries.{composed_places_by}
use Rattle.c_calls.specs.Statuses.{Fills}
use Rattle.c_calls.proofs.Finding.{finds}
use Rattle.c_calls.proofs.calls.write_composed_breaks.Goals as goal

pub returns : goal.returns
returns c =
    let dictionary : AnyDictionary = dictionary_of c.args.loaded.now in
    let found = c.deref-2.ensures.value ∙ c.in-Ok.ensures ∙ ap (λ (d : AnyDictionary). composed_places_by d c.in-Some.word.now) c.deref.ensures ∙ ap (composed_places_by dictionary) c.in-Some.ensures.0 in
    finds {T = ℕ} (IsUtf8 c.args.word.now) (composed_places_by dictionary c.args.word.now) c.args.places.now c.fill_buffer-status.new.buffer c.args.count.now c.fill_buffer-status.new.count c.fill_buffer-status.result c.in-Some.ensures.1
    (subst (λ bytes. Fills bytes c.args.places.now c.fill_buffer-status.new.buffer c.fill_buffer-status.new.count c.fill_buffer-status.result) found c.fill_buffer-status.ensures)
