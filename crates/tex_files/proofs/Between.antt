-- The pieces of a text are the words between its white space; whole groups.
use Rattle.std.proofs.Common.{◌≡◌, ◌∙◌, ℕ, ◌+◌, ◌==◌, ◌||◌, Bool, true, false, not, cond, All, subst, if◌then◌else◌, List, [], ◌∷◌, ◌++◌, map, filter, fold, length, refl, sym, ap, append_assoc, arith, add-zero}
use Rattle.std.specs.Prelude.{◌≢◌}
use Rattle.std.proofs.lemmas.List.{append-nil}
use Rattle.std.proofs.lemmas.List.Elements.{All-head, All-tail}
use Rattle.std.proofs.lemmas.List.Sums.{fold-append}
use Rattle.std.specs.List.{slice_split, onto_first}
use Rattle.std.specs.Prelude.{codes}
use Rattle.tex_files.specs.Groups.{FilePiece, GroupWord, GroupScan, is_space, with_piece, nothing_scanned, groups, pieces_of}
use Rattle.tex_files.specs.declared.group.Group.{Group}
use Rattle.tex_files.specs.declared.group.Group.TheVariants.{Patterns, Exceptions}
use Rattle.tex_files.specs.declared.group.Place.TheVariants.{Outside, Before, Within}
use Rattle.tex_files.specs.TexFiles.{HasNo, HasNoWord, IsOutside, IsInside, IsBlank, is_blank, EndsCommand, spaced, command, line_words, words_from, words_between, tex_words}
use Rattle.hyphenation_grammar.specs.Tokens.{is_brace}
use Rattle.pattern_results.specs.Texts.{line_feeds}
use Rattle.tex_files.proofs.Lexing.{piece, lex, lexed, AllOther, pieces-lex, lex-later, lex-end, lex-other, line_after, other_byte, rest_free, flat5, flat7}
use Rattle.tex_files.proofs.Grouping.{word, picked, found_at, found_later, outside, within, groups-later, closed}

-- ---- Lines.

feeds_one : (t : Bool) (line k : ℕ) → (if t then line + k + 1 else line + k) ≡ line + (k + cond t 1 0)
feeds_one true line k = omega arith
feeds_one false line k = omega arith

lines_from : (line k : ℕ) (text : List ℕ) → line_after (line + k) text ≡ line + fold (λ n b. n + cond (b == 10) 1 0) k text
lines_from line k [] = refl
lines_from line k (b ∷ bs) = ap (λ (l : ℕ). line_after l bs) (feeds_one (b == 10) line k) ∙ lines_from line (k + cond (b == 10) 1 0) bs

pub lines : (line : ℕ) (text : List ℕ) → line_after line text ≡ line + line_feeds text
lines line text = ap (λ (l : ℕ). line_after l text) (sym (add-zero line)) ∙ lines_from line 0 text

-- ---- Splits.

abbrev pub AllFalse : (ℕ → Bool) → List ℕ → Type 0
AllFalse p [] = Unit {0}
AllFalse p (b ∷ bs) = (p b ≡ false) × AllFalse p bs

all_more : (p : ℕ → Bool) (a : List ℕ) (b : ℕ) → AllFalse p a → p b ≡ false → AllFalse p (a ++ b ∷ [])
all_more p [] b h e = (e, tt)
all_more p (x ∷ a) b h e = (h.0, all_more p a b h.1 e)

some_part : (p : ℕ → Bool) (text : List ℕ) → (first : List ℕ) × (more : List (List ℕ)) × (slice_split p text ≡ first ∷ more)
some_part p [] = ([], [], refl)
some_part p (b ∷ rest) = by (p b) (some_part p rest)
  where
    by : (t : Bool) → (first : List ℕ) × (more : List (List ℕ)) × (slice_split p rest ≡ first ∷ more) → (first : List ℕ) × (more : List (List ℕ)) × (cond t ([] ∷ slice_split p rest) (onto_first b (slice_split p rest)) ≡ first ∷ more)
    by true h = ([], slice_split p rest, refl)
    by false h = (b ∷ h.0, h.1, ap (onto_first b) h.2)

split_front : (p : ℕ → Bool) (a bs first : List ℕ) (more : List (List ℕ)) → AllFalse p a → slice_split p bs ≡ first ∷ more → slice_split p (a ++ bs) ≡ (a ++ first) ∷ more
split_front p [] bs first more h e = e
split_front p (x ∷ a) bs first more h e = ap (λ (t : Bool). cond t ([] ∷ slice_split p (a ++ bs)) (onto_first x (slice_split p (a ++ bs)))) h.0 ∙ ap (onto_first x) (split_front p a bs first more h.1 e)

split_here : (p : ℕ → Bool) (b : ℕ) (bs : List ℕ) → p b ≡ true → slice_split p (b ∷ bs) ≡ [] ∷ slice_split p bs
split_here p b bs e = ap (λ (t : Bool). cond t ([] ∷ slice_split p bs) (onto_first b (slice_split p bs))) e

split_on : (p : ℕ → Bool) (b : ℕ) (bs first : List ℕ) (more : List (List ℕ)) → p b ≡ false → slice_split p bs ≡ first ∷ more → slice_split p (b ∷ bs) ≡ (b ∷ first) ∷ more
split_on p b bs first more e s = ap (λ (t : Bool). cond t ([] ∷ slice_split p bs) (onto_first b (slice_split p bs))) e ∙ ap (onto_first b) s

-- ---- Words.

abbrev feed : ℕ → Bool
feed b = b == 10

abbrev one_word : Group → ℕ → List ℕ → List GroupWord
one_word group line text = if length text == 0 then [] else word group (piece line text) ∷ []

abbrev kept : Group → ℕ → List (List ℕ) → List GroupWord
kept group line texts = map {B = GroupWord} (λ w. record { line = line; group = group; text = w }) (filter (λ w. not (length w == 0)) texts)

kept_first : (group : Group) (line : ℕ) (first : List ℕ) (more : List (List ℕ)) → kept group line (first ∷ more) ≡ one_word group line first ++ kept group line more
kept_first group line first more = by (length first == 0)
  where
    by : (t : Bool) → map {B = GroupWord} (λ w. record { line = line; group = group; text = w }) (cond (not t) (first ∷ filter (λ w. not (length w == 0)) more) (filter (λ w. not (length w == 0)) more))
        ≡ (if t then [] else word group (piece line first) ∷ []) ++ kept group line more
    by true = refl
    by false = refl

picked_first : (group : Group) (line : ℕ) (text : List ℕ) (ps : List FilePiece) → picked group (piece line text ∷ ps) ≡ one_word group line text ++ picked group ps
picked_first group line text ps = by (length text == 0)
  where
    by : (t : Bool) → (if t then picked group ps else word group (piece line text) ∷ picked group ps) ≡ (if t then [] else word group (piece line text) ∷ []) ++ picked group ps
    by true = refl
    by false = refl

-- a line that is one word, and a line with white space
line_alone : (group : Group) (line : ℕ) (last : List ℕ) → AllFalse is_space last → line_words group line (last ++ []) ≡ one_word group line last
line_alone group line last solid =
    ap (λ (ws : List (List ℕ)). kept group line ws) (split_front is_space last [] [] [] solid refl)
    ∙ kept_first group line (last ++ []) []
    ∙ append-nil (one_word group line (last ++ []))
    ∙ ap (one_word group line) (append-nil last)

line_parted : (group : Group) (line : ℕ) (last : List ℕ) (b : ℕ) (rest : List ℕ) → AllFalse is_space last → is_space b ≡ true
    → line_words group line (last ++ b ∷ rest) ≡ one_word group line last ++ line_words group line rest
line_parted group line last b rest solid e =
    ap (λ (ws : List (List ℕ)). kept group line ws) (split_front is_space last (b ∷ rest) [] (slice_split is_space rest) solid (split_here is_space b rest e))
    ∙ kept_first group line (last ++ []) (slice_split is_space rest)
    ∙ ap (λ (t : List ℕ). one_word group line t ++ line_words group line rest) (append-nil last)

end_of : (group : Group) (line : ℕ) (last : List ℕ) → AllFalse feed last → AllFalse is_space last → picked group (piece line last ∷ []) ≡ words_between group line (last ++ [])
end_of group line last one solid =
    picked_first group line last [] ∙ append-nil (one_word group line last) ∙ sym (line_alone group line last solid)
    ∙ sym (append-nil (line_words group line (last ++ []))) ∙ ap (λ (ls : List (List ℕ)). words_from group line ls) (sym (split_front feed last [] [] [] one refl))

at_feed : (group : Group) (line : ℕ) (last : List ℕ) (b : ℕ) (bs : List ℕ) → AllFalse feed last → AllFalse is_space last → feed b ≡ true
    → one_word group line last ++ words_between group (line + 1) bs ≡ words_between group line (last ++ b ∷ bs)
at_feed group line last b bs one solid e =
    ap (λ (ws : List GroupWord). ws ++ words_between group (line + 1) bs) (sym (line_alone group line last solid))
    ∙ ap (λ (ls : List (List ℕ)). words_from group line ls) (sym (split_front feed last (b ∷ bs) [] (slice_split feed bs) one (split_here feed b bs e)))

at_space : (group : Group) (line : ℕ) (last : List ℕ) (b : ℕ) (bs : List ℕ) → AllFalse feed last → AllFalse is_space last → feed b ≡ false → is_space b ≡ true
    → one_word group line last ++ words_between group line bs ≡ words_between group line (last ++ b ∷ bs)
at_space group line last b bs one solid n e =
    let part = some_part feed bs in
    ap (λ (ls : List (List ℕ)). one_word group line last ++ words_from group line ls) part.2
    ∙ sym (append_assoc (one_word group line last) (line_words group line part.0) (words_from group (line + 1) part.1))
    ∙ ap (λ (ws : List GroupWord). ws ++ words_from group (line + 1) part.1) (sym (line_parted group line last b part.0 solid e))
    ∙ ap (λ (ls : List (List ℕ)). words_from group line ls) (sym (split_front feed last (b ∷ bs) (b ∷ part.0) part.1 one (split_on feed b bs part.0 part.1 n part.2)))

-- ---- Bytes.

pub clash : true ≡ false → ⊥
clash x = cc

-- a byte that is c passes no test that c fails
fails_as : (test : ℕ → Bool) (c b : ℕ) → (b == c) ≡ true → test c ≡ false → test b ≡ false
fails_as test c b e h = let is : b ≡ c = grind (arith, e) in subst (λ (x : ℕ). test x ≡ false) (sym is) h

not_byte : (test : ℕ → Bool) (c b : ℕ) → test b ≡ true → test c ≡ false → (b == c) ≡ false
not_byte test c b h n = by (b == c) refl
  where
    by : (t : Bool) → (b == c) ≡ t → (b == c) ≡ false
    by true e = absurd (clash (sym h ∙ fails_as test c b e n))
    by false e = e

abbrev is_percent : ℕ → Bool
is_percent b = b == 37

brace_fails : (test : ℕ → Bool) (b : ℕ) → is_brace b ≡ true → test 123 ≡ false → test 125 ≡ false → test b ≡ false
brace_fails test b h p q = by (b == 123) refl (b == 125) refl h
  where
    by : (t : Bool) → (b == 123) ≡ t → (u : Bool) → (b == 125) ≡ u → (t || u) ≡ true → test b ≡ false
    by true e u f k = fails_as test 123 b e p
    by false e true f k = fails_as test 125 b f q
    by false e false f k = absurd cc

pub words : (group : Group) (line : ℕ) (last text : List ℕ) → AllFalse feed last → AllFalse is_space last → HasNo (codes "%") text
    → picked group (lex line false last text) ≡ words_between group line (last ++ spaced text)
words group line last [] one solid c = end_of group line last one solid
words group line last (b ∷ bs) one solid c =
    rw (other_byte 37 b bs c) (by (λ l front f s. words group l front bs f s (rest_free (codes "%") (b ∷ []) bs c)) (b == 10) refl (is_space b) refl (is_brace b) refl (b == 92) refl)
  where
    by : ((l : ℕ) (front : List ℕ) → AllFalse feed front → AllFalse is_space front → picked group (lex l false front bs) ≡ words_between group l (front ++ spaced bs))
        → (f : Bool) → (b == 10) ≡ f → (s : Bool) → is_space b ≡ s → (e : Bool) → is_brace b ≡ e → (k : Bool) → (b == 92) ≡ k
        → picked group (lexed f false s e k line false last b (λ l i t. lex l i t bs)) ≡ words_between group line (last ++ (if e then 32 ∷ b ∷ 32 ∷ spaced bs else (if k then 32 ∷ b ∷ spaced bs else b ∷ spaced bs)))
    by more true p s d true q k r = absurd (clash (sym p ∙ brace_fails feed b q refl refl))
    by more true p s d false q true r = absurd (clash (sym p ∙ fails_as feed 92 b r refl))
    by more true p s d false q false r = picked_first group line last (lex (line + 1) false [] bs) ∙ ap (λ (ws : List GroupWord). one_word group line last ++ ws) (more (line + 1) [] tt tt) ∙ at_feed group line last b (spaced bs) one solid p
    by more false p true d true q k r = absurd (clash (sym d ∙ brace_fails is_space b q refl refl))
    by more false p true d false q true r = absurd (clash (sym d ∙ fails_as is_space 92 b r refl))
    by more false p true d false q false r = picked_first group line last (lex line false [] bs) ∙ ap (λ (ws : List GroupWord). one_word group line last ++ ws) (more line [] tt tt) ∙ at_space group line last b (spaced bs) one solid p d
    by more false p false d true q k r =
        picked_first group line last (piece line (b ∷ []) ∷ lex line false [] bs)
        ∙ ap (λ (ws : List GroupWord). one_word group line last ++ ws)
        (picked_first group line (b ∷ []) (lex line false [] bs) ∙ ap (λ (ws : List GroupWord). one_word group line (b ∷ []) ++ ws) (more line [] tt tt) ∙ at_space group line (b ∷ []) 32 (spaced bs) (p, tt) (d, tt) refl refl)
        ∙ at_space group line last 32 (b ∷ 32 ∷ spaced bs) one solid refl refl
    by more false p false d false q true r =
        picked_first group line last (lex line false (b ∷ []) bs) ∙ ap (λ (ws : List GroupWord). one_word group line last ++ ws) (more line (b ∷ []) (p, tt) (d, tt)) ∙ at_space group line last 32 (b ∷ spaced bs) one solid refl refl
    by more false p false d false q false r = more line (last ++ b ∷ []) (all_more feed last b one p) (all_more is_space last b solid d) ∙ ap (words_between group line) (append_assoc last (b ∷ []) (spaced bs))

pub words-inside : (group : Group) (line : ℕ) (text : List ℕ) → HasNo (codes "%") text → picked group (lex line false [] text) ≡ tex_words group line text
words-inside group line text c = words group line [] text tt tt c

-- ---- Outside of groups.

other_pieces : (part : List ℕ) (ps : List FilePiece) → (length part == 0) ≡ false → All (λ w. w.text ≢ part) (picked Patterns ps) → AllOther part ps
other_pieces part [] some h = tt
other_pieces part (p ∷ ps) some h = by (λ k. other_pieces part ps some k) (length p.text == 0) refl h
  where
    by : (All (λ w. w.text ≢ part) (picked Patterns ps) → AllOther part ps) → (t : Bool) → (length p.text == 0) ≡ t
        → All (λ w. w.text ≢ part) (if t then picked Patterns ps else word Patterns p ∷ picked Patterns ps) → AllOther part (p ∷ ps)
    by more true e k = ((λ same. clash (sym e ∙ ap (λ (t : List ℕ). length t == 0) same ∙ some)), more k)
    by more false e k = (All-head (λ w. w.text ≢ part) (word Patterns p) (picked Patterns ps) k, more (All-tail (λ w. w.text ≢ part) (word Patterns p) (picked Patterns ps) k))

no_piece : (part text : List ℕ) → (length part == 0) ≡ false → HasNo (codes "%") text → HasNoWord part text → AllOther part (lex 1 false [] text)
no_piece part text some c h = other_pieces part (lex 1 false [] text) some (subst (λ (ws : List GroupWord). All (λ w. w.text ≢ part) ws) (sym (words-inside Patterns 1 text c)) h)

-- a text outside of groups leaves the scan as it was
pub passed : (before : List ℕ) (ps : List FilePiece) → IsOutside before → fold with_piece nothing_scanned (lex 1 false [] before ++ ps) ≡ fold with_piece (found_at [] Outside) ps
passed before ps h =
    fold-append with_piece nothing_scanned (lex 1 false [] before) ps
    ∙ ap (λ (f : GroupScan). fold with_piece f ps)
    (outside [] (lex 1 false [] before) (no_piece (codes "\\patterns") before refl h.comments h.patterns) (no_piece (codes "\\hyphenation") before refl h.comments h.exceptions) (no_piece (codes "\\input") before refl h.comments h.inputs)
    (no_piece (codes "\\endinput") before refl h.comments h.ends))

-- ---- The end of a piece.

space_step : (c s e k : Bool) (line : ℕ) (last : List ℕ) (b : ℕ) (rest : ℕ → Bool → List ℕ → List FilePiece) → c ≡ false → s ≡ true → lexed false c s e k line false last b rest ≡ piece line last ∷ rest line false []
space_step false true e k line last b rest p q = refl
space_step true s e k line last b rest p q = absurd (clash p)
space_step false false e k line last b rest p q = absurd (clash (sym q))

brace_step : (f c s e k : Bool) (line : ℕ) (last : List ℕ) (b : ℕ) (rest : ℕ → Bool → List ℕ → List FilePiece) → f ≡ false → c ≡ false → s ≡ false → e ≡ true
    → lexed f c s e k line false last b rest ≡ piece line last ∷ piece line (b ∷ []) ∷ rest line false []
brace_step false false false true k line last b rest p q r t = refl
brace_step true c s e k line last b rest p q r t = absurd (clash p)
brace_step false true s e k line last b rest p q r t = absurd (clash q)
brace_step false false true e k line last b rest p q r t = absurd (clash r)
brace_step false false false false k line last b rest p q r t = absurd (clash (sym t))

backslash_step : (f c s e k : Bool) (line : ℕ) (last : List ℕ) (b : ℕ) (rest : ℕ → Bool → List ℕ → List FilePiece) → f ≡ false → c ≡ false → s ≡ false → e ≡ false → k ≡ true
    → lexed f c s e k line false last b rest ≡ piece line last ∷ rest line false (b ∷ [])
backslash_step false false false false true line last b rest p q r t u = refl
backslash_step true c s e k line last b rest p q r t u = absurd (clash p)
backslash_step false true s e k line last b rest p q r t u = absurd (clash q)
backslash_step false false true e k line last b rest p q r t u = absurd (clash r)
backslash_step false false false true k line last b rest p q r t u = absurd (clash t)
backslash_step false false false false false line last b rest p q r t u = absurd (clash (sym u))

pub blank_step : (line : ℕ) (last : List ℕ) (b : ℕ) (bs : List ℕ) → is_blank b ≡ true → lex line false last (b ∷ bs) ≡ piece line last ∷ lex (line_after line (b ∷ [])) false [] bs
blank_step line last b bs h = by (b == 10) refl (is_space b) refl h
  where
    by : (f : Bool) → (b == 10) ≡ f → (s : Bool) → is_space b ≡ s → (f || s) ≡ true
        → lexed f (b == 37) s (is_brace b) (b == 92) line false last b (λ l i t. lex l i t bs) ≡ piece line last ∷ lex (if f then line + 1 else line) false [] bs
    by true e s d k = refl
    by false e true d k = space_step (b == 37) true (is_brace b) (b == 92) line last b (λ l i t. lex l i t bs) (not_byte is_space 37 b d refl) refl
    by false e false d k = absurd (clash (sym k))

pub ends_piece : (rest : List ℕ) → EndsCommand rest → (tail : ℕ → List FilePiece) × ((line : ℕ) (last : List ℕ) → lex line false last rest ≡ piece line last ∷ tail line)
ends_piece [] h = ((λ line. []), (λ line last. refl))
ends_piece (b ∷ bs) h = by (is_blank b) refl (is_brace b) refl (b == 92) refl h
  where
    by : (w : Bool) → is_blank b ≡ w → (e : Bool) → is_brace b ≡ e → (k : Bool) → (b == 92) ≡ k → (w || (e || k)) ≡ true
        → (tail : ℕ → List FilePiece) × ((line : ℕ) (last : List ℕ) → lex line false last (b ∷ bs) ≡ piece line last ∷ tail line)
    by true p e q k r g = ((λ line. lex (line_after line (b ∷ [])) false [] bs), (λ line last. blank_step line last b bs p))
    by false p true q k r g = (
      (λ line. piece line (b ∷ []) ∷ lex line false [] bs),
      (λ line last.
          brace_step (b == 10) (b == 37) (is_space b) (is_brace b) (b == 92) line last b (λ l i t. lex l i t bs) (brace_fails feed b q refl refl) (brace_fails is_percent b q refl refl) (brace_fails is_space b q refl refl) q),
    )
    by false p false q true r g = (
      (λ line. lex line false (b ∷ []) bs),
      (λ line last.
          backslash_step (b == 10) (b == 37) (is_space b) (is_brace b) (b == 92) line last b (λ l i t. lex l i t bs) (fails_as feed 92 b r refl) (fails_as is_percent 92 b r refl) (fails_as is_space 92 b r refl) q r),
    )
    by false p false q false r g = absurd (clash (sym g))

-- ---- A group.

-- a command begins a piece of its own
pub command_pieces : (group : Group) (before rest : List ℕ) → IsOutside before
    → fold with_piece nothing_scanned (pieces_of (before ++ (command group ++ rest))) ≡ fold with_piece (found_at [] Outside) (lex (line_after 1 before) false (command group) rest)
command_pieces Patterns before rest h =
    ap (λ (ps : List FilePiece). fold with_piece nothing_scanned ps)
    (pieces-lex (before ++ (command Patterns ++ rest)) ∙ lex-end 92 (codes "patterns" ++ rest) (λ line. lex line false (codes "\\") (codes "patterns" ++ rest)) (λ line last. refl) 1 [] before h.comments)
    ∙ passed before (lex (line_after 1 before) false (codes "\\") (codes "patterns" ++ rest)) h
command_pieces Exceptions before rest h =
    ap (λ (ps : List FilePiece). fold with_piece nothing_scanned ps)
    (pieces-lex (before ++ (command Exceptions ++ rest)) ∙ lex-end 92 (codes "hyphenation" ++ rest) (λ line. lex line false (codes "\\") (codes "hyphenation" ++ rest)) (λ line last. refl) 1 [] before h.comments)
    ∙ passed before (lex (line_after 1 before) false (codes "\\") (codes "hyphenation" ++ rest)) h

pub expects : (group : Group) (line : ℕ) (ps : List FilePiece) → fold with_piece (found_at [] Outside) (piece line (command group) ∷ ps) ≡ fold with_piece (found_at [] (Before group)) ps
expects Patterns line ps = refl
expects Exceptions line ps = refl

-- white space before the brace means nothing
to_brace : (group : Group) (line : ℕ) (gap rest : List ℕ) → IsBlank gap
    → fold with_piece (found_at [] (Before group)) (lex line false [] (gap ++ 123 ∷ rest)) ≡ fold with_piece (found_at [] (Within group (line_after line gap))) (lex (line_after line gap) false [] rest)
to_brace group line [] rest h = refl
to_brace group line (b ∷ gap) rest h =
    ap (λ (ps : List FilePiece). fold with_piece (found_at [] (Before group)) ps) (blank_step line [] b (gap ++ 123 ∷ rest) h.0) ∙ to_brace group (line_after line (b ∷ [])) gap rest h.1

enter : (group : Group) (line : ℕ) (gap rest : List ℕ) → IsBlank gap
    → fold with_piece (found_at [] Outside) (lex line false (command group) (gap ++ 123 ∷ rest)) ≡ fold with_piece (found_at [] (Within group (line_after line gap))) (lex (line_after line gap) false [] rest)
enter group line [] rest h = expects group line (piece line (codes "{") ∷ lex line false [] rest)
enter group line (b ∷ gap) rest h =
    ap (λ (ps : List FilePiece). fold with_piece (found_at [] Outside) ps) (blank_step line (command group) b (gap ++ 123 ∷ rest) h.0)
    ∙ expects group line (lex (line_after line (b ∷ [])) false [] (gap ++ 123 ∷ rest))
    ∙ to_brace group (line_after line (b ∷ [])) gap rest h.1

opened : (group : Group) (before gap rest : List ℕ) → IsOutside before → IsBlank gap
    → fold with_piece nothing_scanned (pieces_of (before ++ (command group ++ (gap ++ 123 ∷ rest))))
    ≡ fold with_piece (found_at [] (Within group (line_after (line_after 1 before) gap))) (lex (line_after (line_after 1 before) gap) false [] rest)
opened group before gap rest h g = command_pieces group before (gap ++ 123 ∷ rest) h ∙ enter group (line_after 1 before) gap rest g

both_lines : (before gap : List ℕ) → line_after (line_after 1 before) gap ≡ 1 + (line_feeds before + line_feeds gap)
both_lines before gap = lines (line_after 1 before) gap ∙ ap (λ (l : ℕ). l + line_feeds gap) (lines 1 before) ∙ moved (line_feeds before) (line_feeds gap)
  where
    moved : (a b : ℕ) → (1 + a) + b ≡ 1 + (a + b)
    moved a b = omega arith

-- within it, up to the file's end
pub found-open : (group : Group) (before gap inside : List ℕ) → IsOutside before → IsBlank gap → IsInside inside
    → fold with_piece nothing_scanned (pieces_of (before ++ command group ++ gap ++ codes "{" ++ inside))
    ≡ found_at (tex_words group (1 + (line_feeds before + line_feeds gap)) inside) (Within group (1 + (line_feeds before + line_feeds gap)))
found-open group before gap inside h g i =
    let start = line_after (line_after 1 before) gap in
    ap (λ (t : List ℕ). fold with_piece nothing_scanned (pieces_of t)) (flat5 before (command group) gap (codes "{") inside)
    ∙ opened group before gap inside h g
    ∙ within group start [] (lex start false [] inside) (lex-other (codes "}") start [] inside i.comments i.closes)
    ∙ ap (λ (ws : List GroupWord). found_at ws (Within group start)) (words-inside group start inside i.comments)
    ∙ ap (λ (l : ℕ). found_at (tex_words group l inside) (Within group l)) (both_lines before gap)

-- and after it
pub found-group : (group : Group) (before gap inside after : List ℕ) → IsOutside before → IsBlank gap → IsInside inside
    → groups (pieces_of (before ++ command group ++ gap ++ codes "{" ++ inside ++ codes "}" ++ after))
    ≡ found_later (line_feeds before + line_feeds gap + line_feeds inside) (tex_words group (1 + (line_feeds before + line_feeds gap)) inside) (groups (pieces_of after))
found-group group before gap inside after h g i =
    let start = line_after (line_after 1 before) gap in
    let stop = line_after start inside in
    let n = line_feeds before + line_feeds gap + line_feeds inside in
    let front = picked group (lex start false [] inside) in
    ap (λ (t : List ℕ). closed (fold with_piece nothing_scanned (pieces_of t))) (flat7 before (command group) gap (codes "{") inside (codes "}") after)
    ∙ ap closed (opened group before gap (inside ++ 125 ∷ after) h g)
    ∙ ap (λ (ps : List FilePiece). closed (fold with_piece (found_at [] (Within group start)) ps))
    (lex-end 125 after (λ line. piece line (codes "}") ∷ lex line false [] after) (λ line last. refl) start [] inside i.comments)
    ∙ ap closed (fold-append with_piece (found_at [] (Within group start)) (lex start false [] inside) (piece stop (codes "}") ∷ lex stop false [] after))
    ∙ ap (λ (f : GroupScan). closed (fold with_piece f (piece stop (codes "}") ∷ lex stop false [] after))) (within group start [] (lex start false [] inside) (lex-other (codes "}") start [] inside i.comments i.closes))
    ∙ ap (λ (ps : List FilePiece). closed (fold with_piece (found_at front Outside) ps)) (ap (λ (l : ℕ). lex l false [] after) (stops before gap inside) ∙ lex-later n 1 false [] after)
    ∙ groups-later n front (lex 1 false [] after)
    ∙ ap (λ (ws : List GroupWord). found_later n ws (groups (lex 1 false [] after))) (words-inside group start inside i.comments ∙ ap (λ (l : ℕ). tex_words group l inside) (both_lines before gap))
    ∙ ap (λ (ps : List FilePiece). found_later n (tex_words group (1 + (line_feeds before + line_feeds gap)) inside) (groups ps)) (sym (pieces-lex after))
  where
    moved : (a b : ℕ) → (1 + a) + b ≡ (a + b) + 1
    moved a b = omega arith

    stops : (before gap inside : List ℕ) → line_after (line_after (line_after 1 before) gap) inside ≡ (line_feeds before + line_feeds gap + line_feeds inside) + 1
    stops before gap inside = lines (line_after (line_after 1 before) gap) inside ∙ ap (λ (l : ℕ). l + line_feeds inside) (both_lines before gap) ∙ moved (line_feeds before + line_feeds gap) (line_feeds inside)
