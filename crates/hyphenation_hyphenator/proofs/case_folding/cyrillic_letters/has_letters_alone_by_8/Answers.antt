use Rattle.std.proofs.Common.{◌≡◌, ◌+◌, ◌%◌, get_or, ap, ◌∙◌, arith}
use Rattle.std.proofs.lemmas.List.FromFn.{get_or-map-range_with_len}
use Rattle.hyphenation_hyphenator.proofs.CyrillicLetters.{ends_of_word, letters_by_ends, same_pair}
use Rattle.hyphenation_hyphenator.proofs.case_folding.cyrillic_letters.has_letters_alone_by_8.Goals as goal

pub returns : goal.returns
returns c all =
    let word = c.args.word.now in
    let both = ends_of_word 8 word in
    letters_by_ends 4 word c.requires.even c.requires.least c.requires.most (λ j lt.
    let at : (j + j) % 16 ≡ j + j = omega arith in
    let first = get_or-map-range_with_len (λ k. get_or both ((k + k) % 16) 0) 0 16 j j 0 (omega arith) (omega arith) ∙ ap (λ k. get_or both k 0) at in
    let second = get_or-map-range_with_len (λ k. get_or both ((k + k) % 16 + 1) 0) 0 16 j j 0 (omega arith) (omega arith) ∙ ap (λ k. get_or both (k + 1) 0) at in
    same_pair _ _ _ _ first second (c.are_letters.ensures all j (omega arith))
    )
