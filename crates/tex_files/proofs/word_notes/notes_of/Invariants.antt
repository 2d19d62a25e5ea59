use Rattle.std.proofs.Common.{◌≡◌, [], drop, fold, map, reverse, take}
use Rattle.pattern_results.specs.Notes.{with_remark}
use Rattle.tex_files.specs.Notes.{all_letters, remarks_after}
use Rattle.tex_files.specs.Private.Notes.{AreTexts, file_word}
use Rattle.tex_files.specs.declared.group.Group.TheVariants.{Exceptions, Patterns}
use Rattle.tex_files.proofs.word_notes.notes_of.Given as goal

abbrev pub invariant-loop-pair : goal.invariant-loop-pair
invariant-loop-pair l = record {
  keys : AreTexts l.seen.keys (all_letters Patterns (reverse (map file_word (take l.pair-index l.pair-items))));
  exceptions : AreTexts l.seen.exceptions (all_letters Exceptions (reverse (map file_word (take l.pair-index l.pair-items))));
  noted : fold with_remark l.notes.items
      (remarks_after (reverse (map file_word (take l.pair-index l.pair-items))) (map file_word (drop l.pair-index l.pair-items)))
      ≡ fold with_remark [] (remarks_after [] (map file_word l.pair-items));
}
