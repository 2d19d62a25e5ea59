-- A command that opens groups, without a brace after it: the file is read from the text after the command.
use Rattle.std.proofs.Common.{◌≡◌, ◌∙◌, ℕ, ◌+◌, ◌==◌, ◌||◌, Bool, true, false, if◌then◌else◌, List, [], ◌∷◌, ◌++◌, fold, length, refl, sym, ap, arith, Some}
use Rattle.std.proofs.lemmas.List.Folds.{fold_stays}
use Rattle.std.specs.Prelude.{codes}
use Rattle.hyphenation_grammar.specs.Lines.{is_same}
use Rattle.hyphenation_grammar.specs.Tokens.{is_brace}
use Rattle.pattern_results.specs.Texts.{line_feeds}
use Rattle.pattern_results.specs.declared.errors.FileCause.TheVariants.{Input}
use Rattle.tex_files.specs.Groups.{FilePiece, GroupScan, is_space, place_after, with_piece, with_piece_outside, nothing_scanned, groups, pieces_of}
use Rattle.tex_files.specs.TexFiles.{HasNo, IsOutside, is_blank, EndsCommand, begins_group, command}
use Rattle.tex_files.specs.declared.group.Group.{Group}
use Rattle.tex_files.specs.declared.group.Place.TheVariants.{Outside, Before, Within}
use Rattle.tex_files.proofs.Lexing.{piece, lex, lexed, line_after, other_byte, rest_free, pieces-lex, lex-later, flat3}
use Rattle.tex_files.proofs.Grouping.{found_at, found_later, closed, groups-later, other}
use Rattle.tex_files.proofs.Between.{lines, command_pieces, expects, ends_piece, blank_step, clash}

-- ---- The first piece that is not empty.

abbrev opens : List FilePiece → Bool
opens [] = false
opens (p ∷ ps) = if length p.text == 0 then opens ps else is_same p.text (codes "{")

-- a piece that begins with another byte is no brace
no_brace : (b : ℕ) (last : List ℕ) → (b == 123) ≡ false → is_same (b ∷ last) (codes "{") ≡ false
no_brace b last h = other (b ∷ last) (codes "{") (λ e. absurd (by (b == 123) refl (ap first e)))
  where
    first : List ℕ → ℕ
    first [] = 0
    first (x ∷ xs) = x

    by : (t : Bool) → (b == 123) ≡ t → b ≡ 123 → ⊥
    by true e is = clash (sym e ∙ h)
    by false e is = clash (sym (ap (λ (n : ℕ). n == 123) is) ∙ e)

filled : (b : ℕ) (last : List ℕ) → (length (b ∷ last) == 0) ≡ false
filled b last = by (length (b ∷ last) == 0) refl
  where
    by : (t : Bool) → (length (b ∷ last) == 0) ≡ t → (length (b ∷ last) == 0) ≡ false
    by true e = absurd (let is : length (b ∷ last) ≡ 0 = grind (arith, e) in cc)
    by false e = e

-- so the first piece is no brace
first_other : (b : ℕ) (last : List ℕ) (ps : List FilePiece) → (b == 123) ≡ false → (if length (b ∷ last) == 0 then opens ps else is_same (b ∷ last) (codes "{")) ≡ false
first_other b last ps h = by (length (b ∷ last) == 0) (filled b last)
  where
    by : (t : Bool) → t ≡ false → (if t then opens ps else is_same (b ∷ last) (codes "{")) ≡ false
    by true e = absurd (clash e)
    by false e = no_brace b last h

begun_other : (line b : ℕ) (last bs : List ℕ) → (b == 123) ≡ false → HasNo (codes "%") bs → opens (lex line false (b ∷ last) bs) ≡ false
begun_other line b last [] h c = first_other b last [] h
begun_other line b last (x ∷ bs) h c = rw (other_byte 37 x bs c) (by (begun_other line b (last ++ x ∷ []) bs h (rest_free (codes "%") (x ∷ []) bs c)) (x == 10) (is_space x) (is_brace x) (x == 92))
  where
    by : opens (lex line false (b ∷ (last ++ x ∷ [])) bs) ≡ false → (f s e k : Bool) → opens (lexed f false s e k line false (b ∷ last) x (λ l i t. lex l i t bs)) ≡ false
    by more true s e k = first_other b last (lex (line + 1) false [] bs) h
    by more false true e k = first_other b last (lex line false [] bs) h
    by more false false true k = first_other b last (piece line (x ∷ []) ∷ lex line false [] bs) h
    by more false false false true = first_other b last (lex line false (x ∷ []) bs) h
    by more false false false false = more

opens_as : (line : ℕ) (rest : List ℕ) → HasNo (codes "%") rest → opens (lex line false [] rest) ≡ begins_group rest
opens_as line [] c = refl
opens_as line (b ∷ bs) c = by_blank (λ l. opens_as l bs (rest_free (codes "%") (b ∷ []) bs c)) (is_blank b) refl
  where
    more : HasNo (codes "%") bs
    more = rest_free (codes "%") (b ∷ []) bs c

    by_byte : (f : Bool) → (b == 10) ≡ f → (s : Bool) → is_space b ≡ s → (f || s) ≡ false → (t : Bool) → (b == 123) ≡ t → (u : Bool) → (b == 125) ≡ u → (k : Bool) → (b == 92) ≡ k
        → opens (lexed f false s (t || u) k line false [] b (λ l i x. lex l i x bs)) ≡ t
    by_byte true e s d g t p u q k r = absurd cc
    by_byte false e true d g t p u q k r = absurd cc
    by_byte false e false d g true p u q k r = let is : b ≡ 123 = grind (arith, p) in ap (λ (x : ℕ). is_same (x ∷ []) (codes "{")) is
    by_byte false e false d g false p true q k r = no_brace b [] p
    by_byte false e false d g false p false q true r = begun_other line b [] bs p more
    by_byte false e false d g false p false q false r = begun_other line b [] bs p more

    by_blank : ((l : ℕ) → opens (lex l false [] bs) ≡ begins_group bs) → (w : Bool) → is_blank b ≡ w → opens (lex line false [] (b ∷ bs)) ≡ (if w then begins_group bs else b == 123)
    by_blank later true h = ap opens (blank_step line [] b bs h) ∙ later (line_after line (b ∷ []))
    by_blank later false h = rw (other_byte 37 b bs c) (by_byte (b == 10) refl (is_space b) refl h (b == 123) refl (b == 125) refl (b == 92) refl)

-- ---- Before a brace that does not come.

abbrev at_place : GroupScan → GroupScan → Type 0
at_place f g = ((closed f).words ≡ (closed g).words) × ((closed f).fault ≡ (closed g).fault)

same_scan : (f g : GroupScan) → f ≡ g → at_place f g
same_scan f g e = (ap (λ (s : GroupScan). (closed s).words) e, ap (λ (s : GroupScan). (closed s).fault) e)

-- the file has ended, in either place
ended_alike : (group : Group) (ps : List FilePiece) (f g : GroupScan) → fold with_piece f ps ≡ f → fold with_piece g ps ≡ g → at_place f g → at_place (fold with_piece f ps) (fold with_piece g ps)
ended_alike group ps f g p q h = (ap (λ (s : GroupScan). (closed s).words) p ∙ h.0 ∙ sym (ap (λ (s : GroupScan). (closed s).words) q), ap (λ (s : GroupScan). (closed s).fault) p ∙ h.1 ∙ sym (ap (λ (s : GroupScan). (closed s).fault) q))

abbrev stepped : (i e : Bool) → GroupScan → FilePiece → GroupScan
stepped i e f p = if i then record f { at_end = true; fault = Some (p.line, Input) } else (if e then record f { at_end = true } else record f { place = place_after p.text })

alike : (group : Group) (ps : List FilePiece) → opens ps ≡ false → at_place (fold with_piece (found_at [] (Before group)) ps) (fold with_piece (found_at [] Outside) ps)
alike group [] h = (refl, refl)
alike group (p ∷ ps) h = by (λ k. alike group ps k) (length p.text == 0) h
  where
    by_command : (i e : Bool) → at_place (fold with_piece (stepped i e (found_at [] (Before group)) p) ps) (fold with_piece (stepped i e (found_at [] Outside) p) ps)
    by_command true e =
        ended_alike group ps (record (found_at [] (Before group)) { at_end = true; fault = Some (p.line, Input) }) (record (found_at [] Outside) { at_end = true; fault = Some (p.line, Input) })
        (fold_stays with_piece (record (found_at [] (Before group)) { at_end = true; fault = Some (p.line, Input) }) (λ q. refl) ps) (fold_stays with_piece (record (found_at [] Outside) { at_end = true; fault = Some (p.line, Input) }) (λ q. refl) ps) (refl, refl)
    by_command false true =
        ended_alike group ps (record (found_at [] (Before group)) { at_end = true }) (record (found_at [] Outside) { at_end = true })
        (fold_stays with_piece (record (found_at [] (Before group)) { at_end = true }) (λ q. refl) ps) (fold_stays with_piece (record (found_at [] Outside) { at_end = true }) (λ q. refl) ps) (refl, refl)
    by_command false false = (refl, refl)

    by_brace : (u : Bool) → u ≡ false
        → at_place (fold with_piece (if u then record (found_at [] (Before group)) { place = Within group p.line } else with_piece_outside (found_at [] (Before group)) p) ps) (fold with_piece (with_piece_outside (found_at [] Outside) p) ps)
    by_brace true e = absurd (clash e)
    by_brace false e = by_command (is_same p.text (codes "\\input")) (is_same p.text (codes "\\endinput"))

    by : (opens ps ≡ false → at_place (fold with_piece (found_at [] (Before group)) ps) (fold with_piece (found_at [] Outside) ps)) → (t : Bool) → (if t then opens ps else is_same p.text (codes "{")) ≡ false
        → at_place (fold with_piece (if t then found_at [] (Before group) else (if is_same p.text (codes "{") then record (found_at [] (Before group)) { place = Within group p.line } else with_piece_outside (found_at [] (Before group)) p)) ps)
        (fold with_piece (if t then found_at [] Outside else with_piece_outside (found_at [] Outside) p) ps)
    by more true k = more k
    by more false k = by_brace (is_same p.text (codes "{")) k

-- ---- The rest of a file.

from_line : (before : List ℕ) → line_after 1 before ≡ line_feeds before + 1
from_line before = lines 1 before ∙ turned (line_feeds before)
  where
    turned : (a : ℕ) → 1 + a ≡ a + 1
    turned a = omega arith

pub skipped : (group : Group) (before rest : List ℕ) → IsOutside before → HasNo (codes "%") rest → EndsCommand rest → begins_group rest ≡ false
    → at_place (fold with_piece nothing_scanned (pieces_of (before ++ command group ++ rest))) (fold with_piece (found_at [] Outside) (lex (line_after 1 before) false [] rest))
skipped group before rest h c e b =
    let line = line_after 1 before in
    let end = ends_piece rest e in
    let tail = end.0 line in
    let first = alike group tail (ap opens (sym (end.1 line [])) ∙ opens_as line rest c ∙ b) in
    let read : fold with_piece nothing_scanned (pieces_of (before ++ command group ++ rest)) ≡ fold with_piece (found_at [] (Before group)) tail
    = ap (λ (t : List ℕ). fold with_piece nothing_scanned (pieces_of t)) (flat3 before (command group) rest) ∙ command_pieces group before rest h
    ∙ ap (λ (ps : List FilePiece). fold with_piece (found_at [] Outside) ps) (end.1 line (command group)) ∙ expects group line tail in
    let kept : fold with_piece (found_at [] Outside) (lex line false [] rest) ≡ fold with_piece (found_at [] Outside) tail = ap (λ (ps : List FilePiece). fold with_piece (found_at [] Outside) ps) (end.1 line []) in
    (ap (λ (s : GroupScan). (closed s).words) read ∙ first.0 ∙ sym (ap (λ (s : GroupScan). (closed s).words) kept), ap (λ (s : GroupScan). (closed s).fault) read ∙ first.1 ∙ sym (ap (λ (s : GroupScan). (closed s).fault) kept))

pub rest_later : (before rest : List ℕ) → closed (fold with_piece (found_at [] Outside) (lex (line_after 1 before) false [] rest)) ≡ found_later (line_feeds before) [] (groups (pieces_of rest))
rest_later before rest =
    ap (λ (ps : List FilePiece). closed (fold with_piece (found_at [] Outside) ps)) (ap (λ (l : ℕ). lex l false [] rest) (from_line before) ∙ lex-later (line_feeds before) 1 false [] rest)
    ∙ groups-later (line_feeds before) [] (lex 1 false [] rest)
    ∙ ap (λ (ps : List FilePiece). found_later (line_feeds before) [] (groups ps)) (sym (pieces-lex rest))
