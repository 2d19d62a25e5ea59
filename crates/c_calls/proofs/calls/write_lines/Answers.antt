use Rattle.std.proofs.Common.{ℕ, List, sym, ap, ◌∙◌, subst}
use Rattle.std.specs.Str.{IsUtf8}
use Rattle.any_dictionary.specs.declared.AnyDictionary.{AnyDictionary}
use Rattle.hyphenation_breaks.specs.Break.{plain_break}
use Rattle.hyphenation_breaks.specs.Dictionary.{Contents}
use Rattle.hyphenation_writer.specs.Canonical.{with_line_feeds}
use Rattle.hyphenation_hyphenator.specs.Opportunities.{no_change, rules_of, all_breaks_of}
use Rattle.linefill.specs.Lines.{lines_by}
use Rattle.c_calls.specs.Statuses.{Fills, FindsLines}
use Rattle.c_calls.proofs.Finding.{finds}
use Rattle.c_calls.proofs.calls.write_lines.Goals as goal

abbrev lines_of : ℕ → Contents (Unit {0}) ℕ → List ℕ → List ℕ
lines_of columns d text = with_line_feeds (lines_by (all_breaks_of (rules_of no_change plain_break d)) text columns)

pub returns : goal.returns
returns c =
    let standard = c.in-Standard.standard in
    let found = c.as_bytes.ensures.value ∙ c.in-Ok-lines_by.ensures ∙ ap (lines_of c.args.columns standard) c.in-Ok.ensures.cases.0 in
    subst (λ (d : AnyDictionary). FindsLines d c.args.text.now c.args.columns c.args.buffer.now c.fill_buffer.new.buffer c.args.count.now c.fill_buffer.new.count c.fill_buffer.result) (sym c.in-Standard.is ∙ c.deref.ensures)
    (finds {T = ℕ} (IsUtf8 c.args.text.now) (lines_of c.args.columns standard c.args.text.now) c.args.buffer.now c.fill_buffer.new.buffer c.args.count.now c.fill_buffer.new.count c.fill_buffer.result c.in-Ok.ensures.cases.1
    (subst (λ bytes. Fills bytes c.args.buffer.now c.fill_buffer.new.buffer c.fill_buffer.new.count c.fill_buffer.result) found c.fill_buffer.ensures))
