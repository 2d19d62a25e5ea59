use Rattle.std.proofs.Common.{◌≡◌, ◌++◌, map, string_bytes}
use Rattle.std.specs.Str.{IsUtf8}
use Rattle.hyphenation_breaks.specs.Ascii.{space}
use Rattle.std.specs.Str.Iter.{chars_rest}
use Rattle.written_texts.specs.Prefixes.{spread}
use Rattle.written_texts.proofs.page.push_blanks.Given as goal

-- The text so far with the other characters' spaces is the whole.
abbrev pub invariant-loop-c : goal.invariant-loop-c
invariant-loop-c l = record {
  can : (goal.iterator-loop-c).can_next l.c-iterator;
  finite : (goal.iterator-loop-c).is_finite l.c-iterator;
  utf8 : IsUtf8 (chars_rest l.c-iterator);
  made : string_bytes l.text ++ map (λ _. space) (spread (chars_rest l.c-iterator)) ≡ string_bytes l.initial.text ++ map (λ _. space) (spread l.lead);
}
