use Rattle.std.proofs.Common.{refl}
use Rattle.libreoffice_files.proofs.Making.{dictionary_made}
use Rattle.libreoffice_files.proofs.dic.dictionary_of.Goals as goal

pub returns : goal.returns
returns g c =
    dictionary_made g.C.Payload.change_of g.C.Payload.payload_of c.args.language c.args.left c.args.right c.in_ok-make.field-0 c.push_fitting.new.parts c.new-parts.result c.args.patterns.now c.args.patterns.now c.in_ok-make.ensures
    c.in_ok-push_fitting.ensures c.new-parts.ensures refl
