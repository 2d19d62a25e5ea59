use Rattle.std.proofs.Common.{refl, sym, subst, ◌∙◌}
use Rattle.paragraphs.specs.Private.Open.{Passes, word_of}
use Rattle.paragraphs.proofs.OnePiece.{letters_are_ascii, whole_breaks}
use Rattle.paragraphs.proofs.WordBreaks.{name_breaks, other_breaks}
use Rattle.paragraphs.proofs.word.pass_pieces.Goals as goal

pub returns-then-word : goal.returns-then-word
returns-then-word g c =
    let breaks_of = g.H.Hyphenator.breaks_of c.args.dictionary.now in
    let word = word_of c.args.current.now in
    let are = c.args.current.now.word.now.alphabetic c.if-word.true in
    let one = c.letters_are_one_word.ensures word are.0 are.1 in
    let same = whole_breaks breaks_of word one.0 one.1 (c.ascii_is_composed.ensures word (letters_are_ascii word are.1)) ∙ other_breaks breaks_of word (c.letters_are_no_name.ensures word are.1) in
    subst (λ bs. Passes bs c.args.parts.now.items c.args.current.now c.pass_piece.new.parts.items c.pass_piece.new.current) same c.in_ok-pass_piece.ensures

pub returns-then-is_name : goal.returns-then-is_name
returns-then-is_name g c =
    let breaks_of = g.H.Hyphenator.breaks_of c.args.dictionary.now in
    let parts = c.args.parts.now.items in
    let current = c.args.current.now in
    subst (λ bs. Passes bs parts current parts current) (name_breaks breaks_of (word_of current) (sym c.is_name.ensures ∙ c.if-is_name.true))
    (record { word = refl; goes = λ others. refl })

pub returns : goal.returns
returns g c =
    let breaks_of = g.H.Hyphenator.breaks_of c.args.dictionary.now in
    let word = word_of c.args.current.now in
    subst (λ bs. Passes bs c.args.parts.now.items c.args.current.now c.pass_each_piece.new.parts.items c.pass_each_piece.new.current)
    (other_breaks breaks_of word (sym c.is_name.ensures ∙ c.if-is_name.false)) c.in_ok-pass_each_piece.ensures
