use Rattle.std.proofs.Common.{◌≡◌, [], ◌++◌, lit<, map, ap, sym, subst, refl, ◌∙◌, append-nil}
use Rattle.std.proofs.lemmas.Grind.{flat_map-append}
use Rattle.std.proofs.lemmas.Iterator.Consumers.{YieldsList-end}
use Rattle.std.proofs.lemmas.Iterator.Splits.{YieldsList-from_str_split}
use Rattle.std.proofs.lemmas.List.Elements.{All-nil, All-same}
use Rattle.std.specs.List.{flat_map}
use Rattle.std.specs.Str.Iter.{split_text, split_has_more, split_pattern}
use Rattle.std.specs.String.{string_bytes}
use Rattle.paragraphs.specs.Words.{words, if_any}
use Rattle.paragraphs.specs.Paragraphs.{gather, lines_of, paragraphs, IsTextLine, IsParagraph}
use Rattle.paragraphs.specs.Private.Gathered.{AreGathered}
use Rattle.paragraphs.proofs.GatheredWords.{nothing_gathered, words_if_any}
use Rattle.paragraphs.proofs.LinePieces.{lines_are_lines, gather_paragraphs, words_of_lines}
use Rattle.paragraphs.proofs.gathering.paragraphs_of.Goals as goal

pub loop-line-init : goal.loop-line-init
loop-line-init c = record {
  paragraphs = λ others.
      ap (λ xs. map string_bytes xs ++ gather (string_bytes c.new-gathered.result) others) c.new-all.ensures.items
      ∙ ap (λ g. gather g others) c.new-gathered.ensures.bytes;
  words =
      subst (λ xs. AreGathered (map string_bytes xs) (string_bytes c.new-gathered.result) []) (sym c.new-all.ensures.items)
      (subst (λ g. AreGathered [] g []) (sym c.new-gathered.ensures.bytes) nothing_gathered);
}

pub returns : goal.returns
returns c =
    let text = c.args.text.now in
    let made = map string_bytes c.loop-line.all.items in
    let gathered = string_bytes c.loop-line.gathered in
    let is = c.into_iter-line-iterator.ensures.into_iter_gives in
    let split = c.split-line-items.ensures in
    let all = YieldsList-end (YieldsList-from_str_split {s = c.into_iter-line-iterator.result} 10 text (lit< tt) (ap split_text is ∙ split.text) (ap split_has_more is ∙ split.has_more) (ap split_pattern is ∙ split.pattern))
    c.loop-line.yielded _ c.loop-line.yielded_by _ _ c.in-None.is c.next.ensures.steps in
    let same : map string_bytes c.push_if_any.new.all.items ≡ paragraphs text =
    c.in_ok-push_if_any.ensures ∙ c.loop-line.invariant.paragraphs [] ∙ ap (gather []) (append-nil _ ∙ all.0) in
    record {
      paragraphs = same;
      lines = All-same IsParagraph (map string_bytes c.push_if_any.new.all.items) (paragraphs text) same
          (gather_paragraphs [] (lines_of text) [] (lines_are_lines text) (All-nil IsTextLine) refl);
      words =
          ap (flat_map words) c.in_ok-push_if_any.ensures ∙ flat_map-append words made (if_any gathered) ∙ ap (λ s. flat_map words made ++ s) (words_if_any gathered)
          ∙ c.loop-line.invariant.words.same ∙ ap (flat_map words) all.0 ∙ words_of_lines text c.utf8.text;
    }
