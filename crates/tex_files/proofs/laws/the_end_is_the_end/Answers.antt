use Rattle.std.proofs.Common.{◌≡◌, ◌∙◌, ℕ, ◌+◌, List, [], ◌∷◌, ◌++◌, fold, ap, refl, Some, true, false}
use Rattle.std.specs.Prelude.{codes}
use Rattle.std.proofs.lemmas.List.Folds.{fold_stays}
use Rattle.tex_files.specs.Groups.{FilePiece, GroupScan, pieces_of, with_piece, nothing_scanned}
use Rattle.tex_files.specs.TexFiles.{IsOutside, EndsCommand}
use Rattle.pattern_results.specs.Texts.{line_feeds}
use Rattle.pattern_results.specs.declared.errors.FileCause.TheVariants.{Input}
use Rattle.tex_files.specs.declared.group.Place.TheVariants.{Outside}
use Rattle.tex_files.proofs.Lexing.{piece, lex, lex-end, pieces-lex, line_after, flat3}
use Rattle.tex_files.proofs.Grouping.{found_at, closed}
use Rattle.tex_files.proofs.Between.{lines, passed, ends_piece}
use Rattle.tex_files.proofs.laws.the_end_is_the_end.Goals as goal

-- up to a command, of which the first byte is a backslash, and which is a piece of its own
up_to : (before rest : List ℕ) (text : List ℕ) (after : ℕ → List FilePiece) → ((line : ℕ) → lex line false (codes "\\") rest ≡ piece line text ∷ after line) → IsOutside before
    → fold with_piece nothing_scanned (pieces_of (before ++ 92 ∷ rest)) ≡ fold with_piece (found_at [] Outside) (piece (line_after 1 before) text ∷ after (line_after 1 before))
up_to before rest text after is h =
    ap (λ (ps : List FilePiece). fold with_piece nothing_scanned ps)
    (pieces-lex (before ++ 92 ∷ rest)
    ∙ lex-end 92 rest (λ line. lex line false (codes "\\") rest) (λ line last. refl) 1 [] before h.comments
    ∙ ap (λ (ps : List FilePiece). lex 1 false [] before ++ ps) (is (line_after 1 before)))
    ∙ passed before (piece (line_after 1 before) text ∷ after (line_after 1 before)) h

ended : (before after : List ℕ) → IsOutside before → EndsCommand after → fold with_piece nothing_scanned (pieces_of (before ++ codes "\\endinput" ++ after)) ≡ record (found_at [] Outside) { at_end = true }
ended before after h e =
    let end = ends_piece after e in
    ap (λ (t : List ℕ). fold with_piece nothing_scanned (pieces_of t)) (flat3 before (codes "\\endinput") after)
    ∙ up_to before (codes "endinput" ++ after) (codes "\\endinput") end.0 (λ line. end.1 line (codes "\\endinput")) h
    ∙ fold_stays with_piece (record (found_at [] Outside) { at_end = true }) (λ p. refl) (end.0 (line_after 1 before))

asked : (before after : List ℕ) → IsOutside before → EndsCommand after
    → fold with_piece nothing_scanned (pieces_of (before ++ codes "\\input" ++ after)) ≡ record (found_at [] Outside) { at_end = true; fault = Some (1 + line_feeds before, Input) }
asked before after h e =
    let end = ends_piece after e in
    ap (λ (t : List ℕ). fold with_piece nothing_scanned (pieces_of t)) (flat3 before (codes "\\input") after)
    ∙ up_to before (codes "input" ++ after) (codes "\\input") end.0 (λ line. end.1 line (codes "\\input")) h
    ∙ fold_stays with_piece (record (found_at [] Outside) { at_end = true; fault = Some (line_after 1 before, Input) }) (λ p. refl) (end.0 (line_after 1 before))
    ∙ ap (λ (l : ℕ). record (found_at [] Outside) { at_end = true; fault = Some (l, Input) }) (lines 1 before)

pub returns : goal.returns
returns c = record {
  after_endinput = λ before after h e. (ap (λ (f : GroupScan). (closed f).words) (ended before after h e), ap (λ (f : GroupScan). (closed f).fault) (ended before after h e));
  at_input = λ before after h e. (ap (λ (f : GroupScan). (closed f).words) (asked before after h e), ap (λ (f : GroupScan). (closed f).fault) (asked before after h e));
}
