use Rattle.std.proofs.Common.{List, IfOk, map, sym, ap, ◌∙◌, subst}
use Rattle.std.specs.Prelude.{Option}
use Rattle.std.specs.Option.{option_map}
use Rattle.any_dictionary.specs.declared.AnyDictionary.{AnyDictionary}
use Rattle.c_calls.specs.Numbered.{Numbered, AreOfIfAny, listed_by}
use Rattle.c_calls.proofs.Alike.{listed_alike}
use Rattle.c_calls.proofs.exceptions.exception_of.Goals as goal

pub returns-in-Extended : goal.returns-in-Extended
returns-in-Extended c =
    let listed = ap (option_map (map (λ (it : Numbered). (it.0, it.1)))) c.listed-in-Extended.ensures ∙ listed_alike _ ∙ ap (λ (d : AnyDictionary). listed_by d c.args.word.now) (sym c.in-Extended.is) in
    subst (λ (l : Option (List Numbered)). IfOk c.collected_if_any-in-Extended.result (λ found. AreOfIfAny found l)) listed c.collected_if_any-in-Extended.ensures
