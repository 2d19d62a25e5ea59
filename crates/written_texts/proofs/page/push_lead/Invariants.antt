use Rattle.std.proofs.Common.{◌≡◌, ◌++◌, string_bytes}
use Rattle.std.specs.Str.{IsUtf8, encode_utf8_all}
use Rattle.std.specs.Str.Iter.{chars_rest}
use Rattle.written_texts.specs.Prefixes.{spread}
use Rattle.written_texts.proofs.page.push_lead.Given as goal

-- The text so far with the other characters is the whole.
abbrev pub invariant-loop-c : goal.invariant-loop-c
invariant-loop-c l = record {
  can : (goal.iterator-loop-c).can_next l.c-iterator;
  finite : (goal.iterator-loop-c).is_finite l.c-iterator;
  utf8 : IsUtf8 (chars_rest l.c-iterator);
  made : string_bytes l.text ++ encode_utf8_all (spread (chars_rest l.c-iterator)) ≡ string_bytes l.initial.text ++ encode_utf8_all (spread l.lead);
}
