use Rattle.std.proofs.Common.{◌≡◌, ◌∙◌, ap, sym, subst}
use Rattle.std.specs.Str.{IsUtf8}
use Rattle.written_texts.specs.Prefixes.{quote_length, indent_length, lead_length}
use Rattle.written_texts.specs.Private.Cuts.{EndsInAscii}
use Rattle.written_texts.proofs.Prefixes.{may_cut, quote_ends, indent_ends, lead_ends}
use Rattle.written_texts.proofs.prefix.Parted.of.Goals as goal

pub split_at-requires : goal.split_at-requires
split_at-requires c =
    let text = c.args.text.now in
    let is : c.quote_length.result ≡ quote_length text = c.quote_length.ensures ∙ ap quote_length c.as_bytes.ensures.value in
    may_cut text c.quote_length.result c.utf8.text (subst (EndsInAscii text) (sym is) (quote_ends text))

pub after-bare-requires : goal.after-bare-requires
after-bare-requires c =
    let text = c.split_at.result.1.now in
    let is : c.indent_length.result ≡ indent_length text = c.indent_length.ensures.value ∙ ap indent_length c.as_bytes-2.ensures.value in
    subst (EndsInAscii text) (sym is) (indent_ends text)

pub split_at-requires-2 : goal.split_at-requires-2
split_at-requires-2 c =
    let text = c.split_at.result.1.now in
    let is : c.lead_length.result ≡ lead_length text = c.lead_length.ensures ∙ ap lead_length c.as_bytes-3.ensures.value in
    may_cut text c.lead_length.result (subst IsUtf8 c.as_bytes-3.ensures.value c.as_bytes-3.ensures.utf8) (subst (EndsInAscii text) (sym is) (lead_ends text))
