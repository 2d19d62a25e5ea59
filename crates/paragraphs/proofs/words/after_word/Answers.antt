use Rattle.std.proofs.Common.{sym}
use Rattle.paragraphs.proofs.WordLists.{cut_none, cut_more}
use Rattle.paragraphs.proofs.words.after_word.Goals as goal

pub split_char-requires-text-text : goal.split_char-requires-text-text
split_char-requires-text-text c = λ _. c.loop-c.invariant.utf8

pub loop-c-init : goal.loop-c-init
loop-c-init c = record { cut = cut_none c.args.text.now; utf8 = c.utf8.text }

pub loop-c-preserved : goal.loop-c-preserved
loop-c-preserved c =
    record {
      cut = cut_more c.args.text.now c.loop-c.rest.now c.in-Some.after.now c.in-Some.c c.loop-c.invariant.cut c.in-Some.ensures.read c.in-Some.ensures.chars (sym c.if-is_gap.ensures);
      utf8 = c.in-Some.ensures.utf8;
    }
