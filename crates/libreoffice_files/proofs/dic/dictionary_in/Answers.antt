use Rattle.std.proofs.Common.{ap, map, ◌∙◌}
use Rattle.libreoffice_files.specs.LibreOffice.{lines_of_dic}
use Rattle.libreoffice_files.specs.Private.Views.{keyed_view}
use Rattle.libreoffice_files.proofs.SmallValues.{small_raw}
use Rattle.libreoffice_files.proofs.Making.{of_lines}
use Rattle.libreoffice_files.proofs.dic.dictionary_in.Goals as goal

pub dictionary_of-requires : goal.dictionary_of-requires
dictionary_of-requires g c =
    small_raw _ (lines_of_dic c.args.bytes.now) (ap (map keyed_view) c.deref.ensures.value ∙ c.in_ok-dic.ensures.patterns)

pub returns-clause-contents : goal.returns-clause-contents
returns-clause-contents g c =
    of_lines g.C.Payload.change_of g.C.Payload.payload_of c.args.language c.args.given.left c.args.given.right c.args.bytes.now c.in_ok-dictionary.dictionary c.minimum_of-left.result c.minimum_of-right.result c.in_ok-dic.dic.left c.in_ok-dic.dic.right
    (map keyed_view c.deref.result.now) c.in_ok-dictionary.ensures c.minimum_of-left.ensures c.minimum_of-right.ensures c.in_ok-dic.ensures.left c.in_ok-dic.ensures.right
    (ap (map keyed_view) c.deref.ensures.value ∙ c.in_ok-dic.ensures.patterns)
