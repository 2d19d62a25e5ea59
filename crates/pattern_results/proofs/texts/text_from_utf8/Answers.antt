use Rattle.std.proofs.Common.{◌∙◌, sym, ap}
use Rattle.std.specs.Str.{is_utf8}
use Rattle.std.proofs.lemmas.Str.{IsUtf8-from_is_utf8}
use Rattle.pattern_results.proofs.texts.text_from_utf8.Goals as goal

pub unwrap-requires : goal.unwrap-requires
unwrap-requires c = c.from_utf8.ensures.succeeds (IsUtf8-from_is_utf8 c.args.bytes.items (sym (ap is_utf8 c.deref.ensures.value) ∙ sym c.is_utf8.ensures ∙ c.if-not-is_utf8.false))
