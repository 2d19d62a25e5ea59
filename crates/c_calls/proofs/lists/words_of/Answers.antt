use Rattle.std.proofs.Common.{◌≡◌, ℕ, List, [], ◌∷◌, ◌++◌, Bool, Bor, cond, not, length, map, sym, subst, ap, ◌∙◌, refl, below_more, arith}
use Rattle.std.specs.List.{range_with_len}
use Rattle.std.specs.Str.{IsUtf8}
use Rattle.std.proofs.lemmas.List.{map-append}
use Rattle.c_calls.specs.Lists.{word_at, AreUtf8}
use Rattle.c_calls.proofs.WordLists.{words_more, word_cut, begin_next}
use Rattle.c_calls.proofs.lists.words_of.Goals as goal

pub returns-in_default-word_of-clause-no_list : goal.returns-in_default-word_of-clause-no_list
returns-in_default-word_of-clause-no_list c =
    let cut = word_cut c.args.text.now c.args.ends.now c.loop-end.end-index c.loop-end.begin _ c.in-Some.bytes.now c.in-Some.ensures.lookup.0.2 c.loop-end.invariant.begin refl in
    λ (all : AreUtf8 c.args.text.now c.args.ends.now). c.in_default-word_of.ensures (subst IsUtf8 (sym cut) (all c.loop-end.end-index c.loop-end-test.true))

pub loop-end-preserved : goal.loop-end-preserved
loop-end-preserved c =
    let text = c.args.text.now in let ends = c.args.ends.now in let n = c.loop-end.end-index in
    let cut = word_cut text ends n c.loop-end.begin _ c.in-Some.bytes.now c.in-Some.ensures.lookup.0.2 c.loop-end.invariant.begin refl in
    let pushed : c.push.new.self.items ≡ c.loop-end.words.items ++ c.in-Some-word_of.word ∷ [] =
    c.push.ensures.items ∙ ap (λ (b : Bool). cond b (c.loop-end.words.items ++ c.in-Some-word_of.word ∷ []) c.loop-end.words.items) (c.is_err.ensures.negation ∙ ap not c.if-is_err.false) in
    record {
      words = ap (λ (ws : List (Bor (List ℕ))). map (λ word. word.now) ws) pushed
          ∙ map-append (λ (word : Bor (List ℕ)). word.now) c.loop-end.words.items (c.in-Some-word_of.word ∷ [])
          ∙ words_more text ends n (map (λ word. word.now) c.loop-end.words.items) c.in-Some-word_of.word.now c.loop-end.invariant.words (c.in-Some-word_of.ensures.0 ∙ cut);
      begin = begin_next ends n _ refl;
      ends = below_more _ _ c.loop-end.invariant.ends (omega (arith, c.loop-end.invariant.begin, c.in-Some.ensures.lookup.0.0), c.in-Some.ensures.lookup.0.1);
      utf8 = below_more _ _ c.loop-end.invariant.utf8 (subst IsUtf8 cut c.in-Some-word_of.ensures.1);
    }

pub returns-clause-words : goal.returns-clause-words
returns-clause-words c =
    let whole : c.loop-end.end-index ≡ length c.args.ends.now = omega arith in
    c.loop-end.invariant.words ∙ ap (λ (n : ℕ). map (word_at c.args.text.now c.args.ends.now) (range_with_len 0 n)) whole
