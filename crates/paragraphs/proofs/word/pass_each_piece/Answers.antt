use Rattle.std.proofs.Common.{◌+◌, ◌^◌, ◌<◌, ◌≤◌, rules, arith, ◌++◌, length, refl, sym, ap, subst, ◌∙◌, append_assoc}
use Rattle.std.specs.List.{flat_map}
use Rattle.paragraphs.specs.Private.Open.{settings_with, word_of}
use Rattle.paragraphs.specs.Parts.{breaks_in, composed_breaks}
use Rattle.unicode_segmentation.specs.Segments.{with_offsets}
use Rattle.text_words.specs.Left.{words_left}
use Rattle.text_words.specs.Words.{unless_mixed}
use Rattle.word_pieces.specs.Pieces.{AreSlices, IsSlice}
use Rattle.std.proofs.lemmas.Str.{IsUtf8-had}
use Rattle.paragraphs.proofs.word.pass_each_piece.Goals as goal

pub loop-piece-init : goal.loop-piece-init
loop-piece-init g c =
    let breaks_of = composed_breaks (unless_mixed (g.H.Hyphenator.breaks_of c.args.dictionary.now)) in
    let current = c.args.current.now in
    let left = ap (with_offsets 0) c.new-pieces.ensures.left in
    record {
      word = refl;
      goes = λ others. ap (λ ps. settings_with c.args.parts.now.items current (flat_map (breaks_in breaks_of) ps ++ others)) left;
      pieces = subst (AreSlices (word_of current)) (sym left) (c.words_are_slices.ensures.slices (word_of current) (IsUtf8-had _ current.word.now.utf8));
    }

pub loop-piece-preserved : goal.loop-piece-preserved
unfolding with_offsets
loop-piece-preserved g c =
    let breaks_of = composed_breaks (unless_mixed (g.H.Hyphenator.breaks_of c.args.dictionary.now)) in
    let at = c.loop-piece.offset in
    let next = ap (with_offsets at) c.in-Some.ensures.pieces in
    let passed = c.in_ok-pass_composed.ensures in
    let rest = with_offsets (at + length c.in-Some.piece.now) (words_left c.next_piece.new.pieces) in
    let left = flat_map (breaks_in breaks_of) rest in
    let here = breaks_in breaks_of (at, c.in-Some.piece.now) in
    record {
      word = passed.word ∙ c.loop-piece.invariant.word;
      goes = λ others.
          passed.goes (left ++ others)
          ∙ ap (settings_with c.loop-piece.parts.items c.loop-piece.current) (sym (append_assoc here left others))
          ∙ ap (λ ps. settings_with c.loop-piece.parts.items c.loop-piece.current (flat_map (breaks_in breaks_of) ps ++ others)) (sym next)
          ∙ c.loop-piece.invariant.goes others;
      pieces = subst (λ w. AreSlices w.now.text.now rest) (sym passed.word)
          (subst (AreSlices (word_of c.loop-piece.current)) next c.loop-piece.invariant.pieces).1;
    }

pub overflow_add-end : goal.overflow_add-end
unfolding with_offsets
overflow_add-end g c =
    let slices = subst (AreSlices (word_of c.loop-piece.current)) (ap (with_offsets c.loop-piece.offset) c.in-Some.ensures.pieces) c.loop-piece.invariant.pieces in
    let inside : c.loop-piece.offset + length c.in-Some.piece.now ≤ length (word_of c.loop-piece.current) = slices.0.end.0 in
    let short : length (word_of c.loop-piece.current) < 2 ^ 63 = c.loop-piece.current.word.now.short in
    search (rules, arith)

pub pass_composed-requires : goal.pass_composed-requires
unfolding with_offsets
pass_composed-requires g c =
    let slice : IsSlice (word_of c.loop-piece.current) (c.loop-piece.offset, c.in-Some.piece.now) = (subst (AreSlices (word_of c.loop-piece.current)) (ap (with_offsets c.loop-piece.offset) c.in-Some.ensures.pieces) c.loop-piece.invariant.pieces).0 in
    search rules

pub returns : goal.returns
unfolding with_offsets
returns g c =
    let breaks_of = composed_breaks (unless_mixed (g.H.Hyphenator.breaks_of c.args.dictionary.now)) in
    let none = ap (with_offsets c.loop-piece.offset) (c.in_default.ensures.pieces ∙ c.in_default.ensures.end refl) in
    record {
      word = c.loop-piece.invariant.word;
      goes = λ others. ap (λ ps. settings_with c.loop-piece.parts.items c.loop-piece.current (flat_map (breaks_in breaks_of) ps ++ others)) (sym none) ∙ c.loop-piece.invariant.goes others;
    }
