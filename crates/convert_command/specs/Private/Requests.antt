-- How a request in code corresponds to parsed arguments.
use Rattle.std.specs.Prelude.{ℕ, Bool, true, false, List, map, Option}
use Rattle.std.specs.declared.vec.Vec.{Vec}
use Rattle.hyphenation_breaks.specs.Break.{Break, Change}
use Rattle.hyphenation_breaks.specs.Dictionary.{Contents}
use Rattle.pattern_results.specs.declared.notes.Note.{Note}
use Rattle.convert_command.specs.Arguments.{ParsedArgs}
use Rattle.convert_command.specs.Written.{AreNotesOf, IsMadeOf}
use Rattle.convert_command.specs.declared.request.Input.{Input}
use Rattle.convert_command.specs.declared.request.Input.TheVariants.{Dic, Tex}
use Rattle.convert_command.specs.declared.request.Request.{Request}

-- The parsed arguments of a request.
abbrev pub parsed_request : Request → ParsedArgs
parsed_request request = record {
  kind = request.kind;
  code = request.language;
  left = request.left;
  right = request.right;
  paths = map (λ path. path.now) request.paths.now;
}

-- The input is one .dic.
abbrev pub is_dic : Input → Bool
is_dic Dic = true
is_dic Tex = false

-- A dictionary is that of files with these bytes, for the language and the minima of a request.
abbrev pub IsMadeFor : {C B Y : Type 0} → (C → Option Change) → (Option Change → C) → (Break → B) → Bool → Request
    → List (Vec ℕ Y) → Contents C B → Type 0
IsMadeFor change_of payload_of listing_of is_one_dic request files dictionary = IsMadeOf change_of payload_of listing_of
    is_one_dic request.language request.left request.right (map (λ path. path.now) request.paths.now)
    (map (λ one. one.items) files) dictionary

-- The notes are those on files with these bytes, at the paths of a request.
abbrev pub AreNotesOn : {C Y : Type 0} → (C → Option Change) → (Option Change → C) → Bool → Request → List (Vec ℕ Y)
    → List Note → Type 0
AreNotesOn change_of payload_of is_one_dic request files notes = AreNotesOf change_of payload_of is_one_dic request.left
    request.right (map (λ path. path.now) request.paths.now) (map (λ one. one.items) files) notes
