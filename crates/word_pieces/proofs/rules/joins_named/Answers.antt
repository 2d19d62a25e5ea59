use Rattle.std.proofs.Common.{◌≡◌, true, false, sym, rules}
use Rattle.unicode_segmentation.specs.Word.{is_ah_letter, is_mid_letter, is_mid_num, is_numeric, is_single_quote}
use Rattle.unicode_segmentation.proofs.WordLemmas.{joins-letter_mid, joins-hebrew_mid, joins-mid_letter, joins-numeric_mid}
use Rattle.word_pieces.proofs.Joining.{joins-surely, joins-none, joins-hebrew_double, joins-double_hebrew, joins-mid_numeric}
use Rattle.word_pieces.proofs.rules.joins_named.Goals as goal

pub returns-in-ALetter-MidLetter : goal.returns-in-ALetter-MidLetter
returns-in-ALetter-MidLetter c =
    let mid : is_mid_letter c.args.right ≡ true = search rules in
    rw (c.in-ALetter-MidLetter.is-0, joins-letter_mid _ _ _ mid, ← c.first_significant.ensures) c.is_ah_letter.ensures

pub returns-in-Numeric-MidNum : goal.returns-in-Numeric-MidNum
returns-in-Numeric-MidNum c =
    let mid : is_mid_num c.args.right ≡ true = search rules in
    rw (c.in-Numeric-MidNum.is-0, joins-numeric_mid _ _ _ mid, ← c.first_significant-in-Numeric-MidNum.ensures) c.is_numeric.ensures

pub returns-in-HebrewLetter-MidLetter : goal.returns-in-HebrewLetter-MidLetter
returns-in-HebrewLetter-MidLetter c =
    let mid : is_mid_letter c.args.right ≡ true = search rules in
    let no_quote : is_single_quote c.args.right ≡ false = search rules in
    rw (c.in-HebrewLetter-MidLetter.is-0, joins-hebrew_mid _ _ _ mid no_quote, ← c.first_significant-in-HebrewLetter-MidLetter.ensures) c.is_ah_letter-in-HebrewLetter-MidLetter.ensures

pub returns-in-MidLetter-ALetter : goal.returns-in-MidLetter-ALetter
returns-in-MidLetter-ALetter c =
    let mid : is_mid_letter c.args.left ≡ true = search rules in
    let letter : is_ah_letter c.args.right ≡ true = search rules in
    rw (joins-mid_letter _ _ _ _ mid letter, ← c.second_last_significant-in-MidLetter-ALetter.ensures) c.is_ah_letter-in-MidLetter-ALetter.ensures

pub returns-in-ExtendNumLet-ALetter : goal.returns-in-ExtendNumLet-ALetter
returns-in-ExtendNumLet-ALetter c = sym (joins-surely _ c.args.left c.args.right _ (search rules))

pub returns-in-HebrewLetter-SingleQuote : goal.returns-in-HebrewLetter-SingleQuote
returns-in-HebrewLetter-SingleQuote c = sym (joins-surely _ c.args.left c.args.right _ (search rules))

pub returns-in-HebrewLetter-SingleQuote-2 : goal.returns-in-HebrewLetter-SingleQuote-2
returns-in-HebrewLetter-SingleQuote-2 c = sym (joins-surely _ c.args.left c.args.right _ (search rules))

pub returns-in-ALetter-ExtendNumLet : goal.returns-in-ALetter-ExtendNumLet
returns-in-ALetter-ExtendNumLet c = sym (joins-surely _ c.args.left c.args.right _ (search rules))

pub returns-in-ALetter-ExtendNumLet-2 : goal.returns-in-ALetter-ExtendNumLet-2
returns-in-ALetter-ExtendNumLet-2 c = sym (joins-surely _ c.args.left c.args.right _ (search rules))

pub returns-in-ALetter-ExtendNumLet-3 : goal.returns-in-ALetter-ExtendNumLet-3
returns-in-ALetter-ExtendNumLet-3 c = sym (joins-surely _ c.args.left c.args.right _ (search rules))

pub returns-in-ALetter-ExtendNumLet-4 : goal.returns-in-ALetter-ExtendNumLet-4
returns-in-ALetter-ExtendNumLet-4 c = sym (joins-surely _ c.args.left c.args.right _ (search rules))

pub returns-in-ALetter-ExtendNumLet-5 : goal.returns-in-ALetter-ExtendNumLet-5
returns-in-ALetter-ExtendNumLet-5 c = sym (joins-surely _ c.args.left c.args.right _ (search rules))

pub returns-in-ALetter-ALetter : goal.returns-in-ALetter-ALetter
returns-in-ALetter-ALetter c = sym (joins-surely _ c.args.left c.args.right _ (search rules))

pub returns-in-ALetter-ALetter-2 : goal.returns-in-ALetter-ALetter-2
returns-in-ALetter-ALetter-2 c = sym (joins-surely _ c.args.left c.args.right _ (search rules))

pub returns-in-ALetter-ALetter-3 : goal.returns-in-ALetter-ALetter-3
returns-in-ALetter-ALetter-3 c = sym (joins-surely _ c.args.left c.args.right _ (search rules))

pub returns-in_default : goal.returns-in_default
returns-in_default c = sym (joins-none _ c.args.left c.args.right _ (search rules))

pub returns-in_default-2 : goal.returns-in_default-2
returns-in_default-2 c = sym (joins-none _ c.args.left c.args.right _ (search rules))

pub returns-in_default-3 : goal.returns-in_default-3
returns-in_default-3 c = sym (joins-none _ c.args.left c.args.right _ (search rules))

pub returns-in_default-4 : goal.returns-in_default-4
returns-in_default-4 c = sym (joins-none _ c.args.left c.args.right _ (search rules))

pub returns-in_default-5 : goal.returns-in_default-5
returns-in_default-5 c = sym (joins-none _ c.args.left c.args.right _ (search rules))

pub returns-in_default-6 : goal.returns-in_default-6
returns-in_default-6 c = sym (joins-none _ c.args.left c.args.right _ (search rules))

pub returns-in_default-7 : goal.returns-in_default-7
returns-in_default-7 c = sym (joins-none _ c.args.left c.args.right _ (search rules))

pub returns-in_default-8 : goal.returns-in_default-8
returns-in_default-8 c = sym (joins-none _ c.args.left c.args.right _ (search rules))

pub returns-in_default-9 : goal.returns-in_default-9
returns-in_default-9 c = sym (joins-none _ c.args.left c.args.right _ (search rules))

pub returns-in_default-10 : goal.returns-in_default-10
returns-in_default-10 c = sym (joins-none _ c.args.left c.args.right _ (search rules))

pub returns-in-HebrewLetter-DoubleQuote : goal.returns-in-HebrewLetter-DoubleQuote
returns-in-HebrewLetter-DoubleQuote c =
    let at = c.in-HebrewLetter-DoubleQuote in
    rw (at.is-0, at.is-1, joins-hebrew_double, ← c.first_significant-in-HebrewLetter-DoubleQuote.ensures) (search rules)

pub returns-in-DoubleQuote-HebrewLetter : goal.returns-in-DoubleQuote-HebrewLetter
returns-in-DoubleQuote-HebrewLetter c =
    let at = c.in-DoubleQuote-HebrewLetter in
    rw (at.is-0, at.is-1, joins-double_hebrew, ← c.second_last_significant.ensures) (search rules)

pub returns-in-MidNum-Numeric : goal.returns-in-MidNum-Numeric
returns-in-MidNum-Numeric c =
    let mid : is_mid_num c.args.left ≡ true = search rules in
    let numeric : is_numeric c.args.right ≡ true = search rules in
    rw (joins-mid_numeric _ _ _ _ mid numeric, ← c.second_last_significant-in-MidNum-Numeric.ensures) (search rules)
