-- The notes on the files of arguments.
use Rattle.std.proofs.Common.{◌≡◌, ℕ, List, [], sym, subst}
use Rattle.std.specs.Prelude.{Bool, None, Option, slice_index_or}
use Rattle.hyphenation_breaks.specs.Break.{Change}
use Rattle.command_line.specs.Dictionaries.{KnownFiles}
use Rattle.hyphenation_grammar.specs.Reading.{change_as_payload, no_payload}
use Rattle.hyphenation_grammar.specs.declared.form.Kind.{Kind}
use Rattle.hyphenation_grammar.specs.declared.form.Kind.TheVariants.{Extended, Standard}
use Rattle.libreoffice_files.specs.Notes.{notes_of_dic}
use Rattle.pattern_results.specs.declared.notes.Note.{Note}
use Rattle.convert_command.specs.Arguments.{ParsedArgs}
use Rattle.convert_command.specs.Endings.{AreNotesFor}
use Rattle.convert_command.specs.Private.Requests.{is_dic}
use Rattle.convert_command.specs.Written.{AreBytesAt, AreNotesBy, AreNotesOf}
use Rattle.convert_command.specs.declared.request.Input.{Input}
use Rattle.convert_command.specs.declared.request.Input.TheVariants.{Dic}

pub dic_is_noted : {C : Type 0} (change_of : C → Option Change) (payload_of : Option Change → C) (input : Input) (left right : Option ℕ) (paths all : List (List ℕ)) (notes : List Note)
    → input ≡ Dic → notes ≡ notes_of_dic change_of payload_of left right (slice_index_or all 0 []) → AreNotesOf change_of payload_of (is_dic input) left right paths all notes
dic_is_noted change_of payload_of input left right paths all notes is_one noted =
    subst (λ input. AreNotesOf change_of payload_of (is_dic input) left right paths all notes) (sym is_one) noted

pub standard_noted : (kind : Kind) (is_dic : Bool) (left right : Option ℕ) (paths all : List (List ℕ)) (notes : List Note)
    → kind ≡ Standard → AreNotesOf {C = Unit {0}} (λ _. None) no_payload is_dic left right paths all notes → AreNotesBy kind is_dic left right paths all notes
standard_noted kind is_dic left right paths all notes e noted = subst (λ kind. AreNotesBy kind is_dic left right paths all notes) (sym e) noted

pub extended_noted : (kind : Kind) (is_dic : Bool) (left right : Option ℕ) (paths all : List (List ℕ)) (notes : List Note)
    → kind ≡ Extended → AreNotesOf change_as_payload change_as_payload is_dic left right paths all notes → AreNotesBy kind is_dic left right paths all notes
extended_noted kind is_dic left right paths all notes e noted = subst (λ kind. AreNotesBy kind is_dic left right paths all notes) (sym e) noted

pub noted_for : (parsed : ParsedArgs) (is_one_dic : Bool) (bytes_of : KnownFiles) (all : List (List ℕ)) (notes : List Note)
    → AreBytesAt bytes_of parsed.paths all → AreNotesBy parsed.kind is_one_dic parsed.left parsed.right parsed.paths all notes → AreNotesFor parsed is_one_dic bytes_of notes
noted_for parsed is_one_dic bytes_of all notes are noted = (all, are, noted)
