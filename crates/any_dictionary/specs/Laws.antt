-- Statements that are true of all dictionary texts.
use Rattle.std.specs.Prelude.{◌≡◌, ℕ, List, Some, None}
use Rattle.hyphenation_grammar.specs.Judging.{refusal_of}
use Rattle.hyphenation_grammar.specs.declared.form.Kind.{Kind}
use Rattle.any_dictionary.specs.Kinds.{kind_of}

-- A text that is accepted as one of a kind names that kind in its first line. So no text is of both kinds.
abbrev pub AcceptedNamesItsKind : Type 0
AcceptedNamesItsKind = (kind : Kind) (text : List ℕ) → refusal_of kind text ≡ None → kind_of text ≡ Some kind
