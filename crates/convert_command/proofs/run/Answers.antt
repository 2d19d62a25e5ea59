use Rattle.std.proofs.Common.{ℕ, List, map, subst}
use Rattle.std.specs.Prelude.{Option}
use Rattle.hyphenation_breaks.specs.Break.{Change}
use Rattle.hyphenation_breaks.specs.Dictionary.{Contents}
use Rattle.hyphenation_grammar.specs.Reading.{change_as_payload, break_as_listing}
use Rattle.convert_command.proofs.Writing.{extended_written}
use Rattle.convert_command.specs.Private.Requests.{is_dic}
use Rattle.convert_command.specs.Written.{IsMadeOf}
use Rattle.convert_command.proofs.run.Goals as goal

pub returns-clause-written : goal.returns-clause-written
returns-clause-written g c =
    let request = c.args.request.now in
    let dictionary : Contents (Option Change) (ℕ × Option Change) = c.in_ok-dictionary-in-Extended.field-0.dictionary in
    let paths : List (List ℕ) = map (λ path. path.now) request.paths.now in
    let all : List (List ℕ) = map (λ bytes. bytes.items) c.in_ok-bytes.bytes.items in
    let made : IsMadeOf change_as_payload change_as_payload break_as_listing (is_dic request.input) request.language request.left request.right paths all dictionary =
    subst (λ files. IsMadeOf change_as_payload change_as_payload break_as_listing (is_dic request.input) request.language request.left request.right paths (map (λ bytes. bytes.items) files) dictionary)
    c.deref-in-Extended.ensures.value c.in_ok-dictionary-in-Extended.ensures.of_files in (
      all,
      c.in_ok-bytes.ensures.of_paths,
      extended_written request.kind (is_dic request.input) request.language request.left request.right paths all _ _ dictionary c.in-Extended.is
          c.in_ok-dictionary-in-Extended.ensures.as_asked made c.in_ok-write_text-in-Extended.ensures.written,
    )
