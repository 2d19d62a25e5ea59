use Rattle.std.proofs.Common.{◌+◌, get_or, arith}
use Rattle.std.proofs.lemmas.List.FromFn.{get_or-map-range_with_len}
use Rattle.hyphenation_hyphenator.proofs.CyrillicLetters.{ends_of_word, letters_by_ends, same_pair}
use Rattle.hyphenation_hyphenator.proofs.case_folding.cyrillic_letters.has_letters_alone_by_16.Goals as goal

pub returns : goal.returns
returns c all =
    let word = c.args.word.now in
    let both = ends_of_word 16 word in
    letters_by_ends 8 word c.requires.even c.requires.least c.requires.most (λ j lt.
    let first = get_or-map-range_with_len (λ k. get_or both (k + k) 0) 0 16 j j 0 lt (omega arith) in
    let second = get_or-map-range_with_len (λ k. get_or both (k + k + 1) 0) 0 16 j j 0 lt (omega arith) in
    same_pair _ _ _ _ first second (c.are_letters.ensures all j lt)
    )
