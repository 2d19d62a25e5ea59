-- The meaning of pieces: outside of groups they say nothing, within them each is a word.
use Rattle.std.proofs.Common.{◌≡◌, ◌∙◌, ℕ, ◌+◌, ◌==◌, ◌||◌, Bool, true, false, if◌then◌else◌, List, [], ◌∷◌, ◌++◌, map, fold, length, refl, sym, ap, append_assoc, Some, None}
use Rattle.std.proofs.lemmas.List.{append-nil, map-append}
use Rattle.std.specs.Prelude.{codes}
use Rattle.hyphenation_grammar.specs.Lines.{is_same}
use Rattle.std.proofs.lemmas.Slice.Eq.{bytes_eq-Decides}
use Rattle.tex_files.specs.Groups.{FilePiece, GroupWord, GroupScan, place_after, with_piece, with_piece_outside, with_piece_at, closed_at, groups, nothing_scanned, with_plain, plain_words}
use Rattle.pattern_results.specs.declared.errors.FileCause.TheVariants.{Input}
use Rattle.tex_files.specs.declared.group.Group.{Group}
use Rattle.tex_files.specs.declared.group.Group.TheVariants.{Patterns, Exceptions}
use Rattle.tex_files.specs.declared.group.Place.{Place}
use Rattle.tex_files.specs.declared.group.Place.TheVariants.{Outside, Before, Within}
use Rattle.tex_files.specs.TexFiles.{words_later, fault_later}
use Rattle.tex_files.proofs.Lexing.{piece_later, AllOther}

pub other : (a b : List ℕ) → (a ≡ b → ⊥) → is_same a b ≡ false
other a b apart = by (is_same a b) refl
  where
    by : (t : Bool) → is_same a b ≡ t → is_same a b ≡ false
    by true e = absurd (apart ((bytes_eq-Decides a b).0 e))
    by false e = e

abbrev pub found_at : List GroupWord → Place → GroupScan
found_at words place = record { words = words; place = place; at_end = false; fault = None }

-- ---- Outside.

quiet : (t : Bool) (f : GroupScan) → (if t then f else f) ≡ f
quiet true f = refl
quiet false f = refl

pub outside : (words : List GroupWord) (ps : List FilePiece) → AllOther (codes "\\patterns") ps → AllOther (codes "\\hyphenation") ps → AllOther (codes "\\input") ps → AllOther (codes "\\endinput") ps
    → fold with_piece (found_at words Outside) ps ≡ found_at words Outside
outside words [] a b c d = refl
outside words (p ∷ ps) a b c d =
    let step : with_piece (found_at words Outside) p ≡ found_at words Outside
    = rw (other p.text (codes "\\input") c.0, other p.text (codes "\\endinput") d.0, other p.text (codes "\\patterns") a.0, other p.text (codes "\\hyphenation") b.0) (quiet (length p.text == 0) (found_at words Outside)) in
    ap (λ (f : GroupScan). fold with_piece f ps) step ∙ outside words ps a.1 b.1 c.1 d.1

-- ---- Within.

abbrev pub word : Group → FilePiece → GroupWord
word group p = record { line = p.line; group = group; text = p.text }

abbrev pub picked : Group → List FilePiece → List GroupWord
picked group [] = []
picked group (p ∷ ps) = if length p.text == 0 then picked group ps else word group p ∷ picked group ps

taken : (t : Bool) (group : Group) (opened : ℕ) (words : List GroupWord) (p : FilePiece) (ps : List FilePiece) → ((ws : List GroupWord) → fold with_piece (found_at ws (Within group opened)) ps ≡ found_at (ws ++ picked group ps) (Within group opened))
    → fold with_piece (if t then found_at words (Within group opened) else found_at (words ++ word group p ∷ []) (Within group opened)) ps
    ≡ found_at (words ++ (if t then picked group ps else word group p ∷ picked group ps)) (Within group opened)
taken true group opened words p ps h = h words
taken false group opened words p ps h = h (words ++ word group p ∷ []) ∙ ap (λ (ws : List GroupWord). found_at ws (Within group opened)) (append_assoc words (word group p ∷ []) (picked group ps))

pub within : (group : Group) (opened : ℕ) (words : List GroupWord) (ps : List FilePiece) → AllOther (codes "}") ps
    → fold with_piece (found_at words (Within group opened)) ps ≡ found_at (words ++ picked group ps) (Within group opened)
within group opened words [] a = ap (λ (ws : List GroupWord). found_at ws (Within group opened)) (sym (append-nil words))
within group opened words (p ∷ ps) a =
    let step : with_piece (found_at words (Within group opened)) p ≡ (if length p.text == 0 then found_at words (Within group opened) else found_at (words ++ word group p ∷ []) (Within group opened))
    = rw (other p.text (codes "}") a.0) refl in
    ap (λ (f : GroupScan). fold with_piece f ps) step ∙ taken (length p.text == 0) group opened words p ps (λ ws. within group opened ws ps a.1)

-- a plain file
taken_plain : (t : Bool) (group : Group) (words : List GroupWord) (p : FilePiece) (ps : List FilePiece) → ((ws : List GroupWord) → fold (with_plain group) ws ps ≡ ws ++ picked group ps)
    → fold (with_plain group) (if t then words else words ++ word group p ∷ []) ps ≡ words ++ (if t then picked group ps else word group p ∷ picked group ps)
taken_plain true group words p ps h = h words
taken_plain false group words p ps h = h (words ++ word group p ∷ []) ∙ append_assoc words (word group p ∷ []) (picked group ps)

plain_from : (group : Group) (words : List GroupWord) (ps : List FilePiece) → fold (with_plain group) words ps ≡ words ++ picked group ps
plain_from group words [] = sym (append-nil words)
plain_from group words (p ∷ ps) = taken_plain (length p.text == 0) group words p ps (λ ws. plain_from group ws ps)

pub plain-picked : (group : Group) (ps : List FilePiece) → plain_words group ps ≡ picked group ps
plain-picked group ps = plain_from group [] ps

-- ---- The same after other words, and lines later.

abbrev pub place_later : ℕ → Place → Place
place_later n Outside = Outside
place_later n (Before group) = Before group
place_later n (Within group opened) = Within group (n + opened)

abbrev pub found_later : ℕ → List GroupWord → GroupScan → GroupScan
found_later n front f = record { words = front ++ words_later n f.words; place = place_later n f.place; at_end = f.at_end; fault = fault_later n f.fault }

after_later : (n : ℕ) (text : List ℕ) → place_later n (place_after text) ≡ place_after text
after_later n text = by (is_same text (codes "\\patterns")) (is_same text (codes "\\hyphenation"))
  where
    by : (a b : Bool) → place_later n (if a then Before Patterns else (if b then Before Exceptions else Outside)) ≡ (if a then Before Patterns else (if b then Before Exceptions else Outside))
    by true b = refl
    by false true = refl
    by false false = refl

chosen_later : (n : ℕ) (front : List GroupWord) (t : Bool) (f g h k : GroupScan) → h ≡ found_later n front f → k ≡ found_later n front g → (if t then h else k) ≡ found_later n front (if t then f else g)
chosen_later n front true f g h k e d = e
chosen_later n front false f g h k e d = d

outside_later : (n : ℕ) (front : List GroupWord) (f : GroupScan) (p : FilePiece) → with_piece_outside (found_later n front f) (piece_later n p) ≡ found_later n front (with_piece_outside f p)
outside_later n front f p =
    chosen_later n front (is_same p.text (codes "\\input")) (record f { at_end = true; fault = Some (p.line, Input) }) (if is_same p.text (codes "\\endinput") then record f { at_end = true } else record f { place = place_after p.text })
    (record (found_later n front f) { at_end = true; fault = Some (n + p.line, Input) }) (if is_same p.text (codes "\\endinput") then record (found_later n front f) { at_end = true } else record (found_later n front f) { place = place_after p.text })
    refl
    (chosen_later n front (is_same p.text (codes "\\endinput")) (record f { at_end = true }) (record f { place = place_after p.text }) (record (found_later n front f) { at_end = true }) (record (found_later n front f) { place = place_after p.text })
    refl (ap (λ (q : Place). record (found_later n front f) { place = q }) (sym (after_later n p.text))))

at_later : (n : ℕ) (front : List GroupWord) (place : Place) (f : GroupScan) (p : FilePiece) → with_piece_at (place_later n place) (found_later n front f) (piece_later n p) ≡ found_later n front (with_piece_at place f p)
at_later n front Outside f p = outside_later n front f p
at_later n front (Before group) f p =
    chosen_later n front (is_same p.text (codes "{")) (record f { place = Within group p.line }) (with_piece_outside f p)
    (record (found_later n front f) { place = Within group (n + p.line) }) (with_piece_outside (found_later n front f) (piece_later n p))
    refl (outside_later n front f p)
at_later n front (Within group opened) f p =
    chosen_later n front (is_same p.text (codes "}")) (record f { place = Outside }) (record f { words = f.words ++ word group p ∷ [] })
    (record (found_later n front f) { place = Outside }) (record (found_later n front f) { words = (front ++ words_later n f.words) ++ word group (piece_later n p) ∷ [] })
    refl
    (ap (λ (ws : List GroupWord). record (found_later n front f) { words = ws })
    (append_assoc front (words_later n f.words) (word group (piece_later n p) ∷ []) ∙ ap (λ (ws : List GroupWord). front ++ ws) (sym (map-append (λ (w : GroupWord). record w { line = n + w.line }) f.words (word group p ∷ [])))))

step_later : (n : ℕ) (front : List GroupWord) (f : GroupScan) (p : FilePiece) → with_piece (found_later n front f) (piece_later n p) ≡ found_later n front (with_piece f p)
step_later n front f p =
    chosen_later n front (f.at_end || length p.text == 0) f (with_piece_at f.place f p) (found_later n front f) (with_piece_at (place_later n f.place) (found_later n front f) (piece_later n p)) refl (at_later n front f.place f p)

fold-later : (n : ℕ) (front : List GroupWord) (f : GroupScan) (ps : List FilePiece) → fold with_piece (found_later n front f) (map (piece_later n) ps) ≡ found_later n front (fold with_piece f ps)
fold-later n front f [] = refl
fold-later n front f (p ∷ ps) = ap (λ (g : GroupScan). fold with_piece g (map (piece_later n) ps)) (step_later n front f p) ∙ fold-later n front (with_piece f p) ps

closed_later : (n : ℕ) (front : List GroupWord) (place : Place) (f : GroupScan) → closed_at (place_later n place) (found_later n front f) ≡ found_later n front (closed_at place f)
closed_later n front Outside f = refl
closed_later n front (Before group) f = refl
closed_later n front (Within group opened) f = refl

abbrev pub closed : GroupScan → GroupScan
closed f = closed_at f.place f

-- the text after a group
pub groups-later : (n : ℕ) (front : List GroupWord) (ps : List FilePiece) → closed (fold with_piece (found_at front Outside) (map (piece_later n) ps)) ≡ found_later n front (groups ps)
groups-later n front ps =
    ap (λ (ws : List GroupWord). closed (fold with_piece (found_at ws Outside) (map (piece_later n) ps))) (sym (append-nil front))
    ∙ ap closed (fold-later n front nothing_scanned ps)
    ∙ closed_later n front (fold with_piece nothing_scanned ps).place (fold with_piece nothing_scanned ps)
