-- One piece more of a text in Markdown that is written.
use Rattle.std.proofs.Common.{◌≡◌, ℕ, ◌+◌, ◌<◌, ◌≤◌, Bool, List, [], ◌∷◌, ◌++◌, map, length, drop, slice_get, Some, refl, ap, sym, ◌∙◌, append_assoc, append-nil, add-one, drop-cons, suc}
use Rattle.std.proofs.lemmas.List.{drop_all}
use Rattle.std.proofs.lemmas.Option.{get_or_from_slice_get}
use Rattle.markdown_pieces.specs.Pieces.{Piece, as_piece}
use Rattle.markdown_pieces.specs.declared.cutting.Piece as declared
use Rattle.hyphenation_text.specs.Dictionaries.{Breaks}
use Rattle.hyphenation_text.specs.Markdown.{last_touches}
use Rattle.hyphenation_text.specs.Private.MarkedMarkdown.{marked_markdown, marked_markdown_piece}

found : (items : List declared.Piece) (i : ℕ) (piece : declared.Piece) → i < length items → slice_get items i ≡ Some piece → drop i items ≡ piece ∷ drop (i + 1) items
found items i piece lt e = rw (add-one, drop-cons items i piece) (ap (λ p. p ∷ drop (suc i) items) (get_or_from_slice_get items i piece piece e))

marked_first : (breaks : Breaks) (mark : List ℕ) (before : Bool) (p : Piece) (ps : List Piece)
    → marked_markdown breaks mark before (p ∷ ps) ≡ marked_markdown_piece breaks mark before p.kind p.bytes ps ++ marked_markdown breaks mark (last_touches p.kind p.bytes) ps
unfolding marked_markdown
marked_first breaks mark before p ps = refl

marked_none : (breaks : Breaks) (mark : List ℕ) (before : Bool) → marked_markdown breaks mark before [] ≡ []
unfolding marked_markdown
marked_none breaks mark before = refl

pub markdown_piece_written : (breaks : Breaks) (mark : List ℕ) (before before' : Bool) (output output' whole : List ℕ) (items rest : List declared.Piece) (i : ℕ) (piece : declared.Piece)
    → output ++ marked_markdown breaks mark before (map as_piece (drop i items)) ≡ whole → i < length items → slice_get items i ≡ Some piece → rest ≡ drop (i + 1) items
    → output' ≡ output ++ marked_markdown_piece breaks mark before piece.kind piece.text.now (map as_piece rest) → before' ≡ last_touches piece.kind piece.text.now
    → output' ++ marked_markdown breaks mark before' (map as_piece (drop (i + 1) items)) ≡ whole
markdown_piece_written breaks mark before before' output output' whole items rest i piece told lt is r o b =
    let later = map as_piece (drop (i + 1) items) in
    let own = marked_markdown_piece breaks mark before piece.kind piece.text.now later in
    ap (λ xs. xs ++ marked_markdown breaks mark before' later) (o ∙ ap (λ ps. output ++ marked_markdown_piece breaks mark before piece.kind piece.text.now (map as_piece ps)) r)
    ∙ ap (λ c. (output ++ own) ++ marked_markdown breaks mark c later) b
    ∙ append_assoc output own (marked_markdown breaks mark (last_touches piece.kind piece.text.now) later)
    ∙ ap (λ xs. output ++ xs) (sym (marked_first breaks mark before (as_piece piece) later))
    ∙ ap (λ ps. output ++ marked_markdown breaks mark before (map as_piece ps)) (sym (found items i piece lt is)) ∙ told

pub markdown_written : (breaks : Breaks) (mark : List ℕ) (before : Bool) (items : List declared.Piece) (i : ℕ) (output whole : List ℕ)
    → output ++ marked_markdown breaks mark before (map as_piece (drop i items)) ≡ whole → length items ≤ i → output ≡ whole
markdown_written breaks mark before items i output whole told le =
    sym (append-nil output) ∙ ap (λ xs. output ++ xs) (sym (marked_none breaks mark before))
    ∙ ap (λ ps. output ++ marked_markdown breaks mark before (map as_piece ps)) (sym (drop_all i items le)) ∙ told
