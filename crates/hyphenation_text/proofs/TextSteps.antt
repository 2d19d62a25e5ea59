-- One byte more of a text that is parted at white space.
use Rattle.std.proofs.Common.{◌≡◌, ℕ, ◌+◌, ◌<◌, ◌≤◌, ◌&&◌, ◌||◌, Bool, true, false, List, [], ◌∷◌, ◌++◌, length, drop, slice_range, get_or, refl, ap, sym, ◌∙◌, arith, if◌then◌else◌, append_assoc, IsCharBoundary, IsUtf8, subst}
use Rattle.std.specs.Char.{is_ascii_alphabetic}
use Rattle.std.specs.List.{list_all}
use Rattle.std.proofs.lemmas.Bool.{and_from}
use Rattle.std.proofs.lemmas.List.{drop_all}
use Rattle.std.proofs.lemmas.List.Folds.{list_all-append}
use Rattle.std.proofs.lemmas.Slice.{between_to_end}
use Rattle.std.proofs.lemmas.Str.{IsCharBoundary-start, IsCharBoundary-after_ascii}
use Rattle.std.proofs.lemmas.Bool.Decides.{nat_tests}
use Rattle.html_pieces.specs.Bytes.{is_white_space}
use Rattle.hyphenation_text.specs.Dictionaries.{Breaks}
use Rattle.hyphenation_text.specs.Private.Marked.{marked_token, marked_tokens, Leaves}
use Rattle.hyphenation_text.proofs.Slices.{drop_more, slice_more, slice_none}

pub white_is_ascii : (b : ℕ) → is_white_space b ≡ true → b < 128
white_is_ascii b e = grind (arith, nat_tests)

pub letter_is_no_white : (b : ℕ) → is_ascii_alphabetic b ≡ true → is_white_space b ≡ false
letter_is_no_white b e = grind (arith, nat_tests)

pub letters_more : (text : List ℕ) (start i : ℕ) → start ≤ i → i < length text → list_all is_ascii_alphabetic (slice_range text start i) ≡ true → is_ascii_alphabetic (get_or text i 0) ≡ true
    → list_all is_ascii_alphabetic (slice_range text start (i + 1)) ≡ true
letters_more text start i le lt all letter =
    let b = get_or text i 0 in
    ap (list_all is_ascii_alphabetic) (slice_more text start i le lt) ∙ list_all-append is_ascii_alphabetic (slice_range text start i) (b ∷ [])
    ∙ and_from (list_all is_ascii_alphabetic (slice_range text start i)) (is_ascii_alphabetic b && true) all (and_from (is_ascii_alphabetic b) true letter refl)

letters_none : (text : List ℕ) (i : ℕ) → list_all is_ascii_alphabetic (slice_range text i i) ≡ true
letters_none text i = ap (list_all is_ascii_alphabetic) (slice_none text i)

-- A token with its marks, or as it is where its word goes on outside of the text.
abbrev marked_unless : Breaks → List ℕ → Bool → List ℕ → List ℕ
marked_unless breaks mark touches token = if touches then token else marked_token breaks mark token

tokens_on : (breaks : Breaks) (mark : List ℕ) (before after : Bool) (text : List ℕ) (start i : ℕ) → start ≤ i → i < length text → is_white_space (get_or text i 0) ≡ false
    → marked_tokens breaks mark before after (slice_range text start i) (drop i text) ≡ marked_tokens breaks mark before after (slice_range text start (i + 1)) (drop (i + 1) text)
tokens_on breaks mark before after text start i le lt e =
    ap (marked_tokens breaks mark before after (slice_range text start i)) (drop_more text i lt)
    ∙ ap (λ c. if c then marked_unless breaks mark before (slice_range text start i) ++ get_or text i 0 ∷ marked_tokens breaks mark false after [] (drop (i + 1) text)
    else marked_tokens breaks mark before after (slice_range text start i ++ get_or text i 0 ∷ []) (drop (i + 1) text)) e
    ∙ ap (λ front. marked_tokens breaks mark before after front (drop (i + 1) text)) (sym (slice_more text start i le lt))

token_ends : (breaks : Breaks) (mark : List ℕ) (before after : Bool) (text : List ℕ) (start i : ℕ) → i < length text → is_white_space (get_or text i 0) ≡ true
    → marked_tokens breaks mark before after (slice_range text start i) (drop i text)
    ≡ marked_unless breaks mark before (slice_range text start i) ++ get_or text i 0 ∷ marked_tokens breaks mark false after (slice_range text (i + 1) (i + 1)) (drop (i + 1) text)
token_ends breaks mark before after text start i lt e =
    let token = marked_unless breaks mark before (slice_range text start i) in
    ap (marked_tokens breaks mark before after (slice_range text start i)) (drop_more text i lt)
    ∙ ap (λ c. if c then token ++ get_or text i 0 ∷ marked_tokens breaks mark false after [] (drop (i + 1) text)
    else marked_tokens breaks mark before after (slice_range text start i ++ get_or text i 0 ∷ []) (drop (i + 1) text)) e
    ∙ ap (λ front. token ++ get_or text i 0 ∷ marked_tokens breaks mark false after front (drop (i + 1) text)) (sym (slice_none text (i + 1)))

-- The result of a text after i bytes of it. The text from `kept` on is not appended yet, and stays as it is up to the token.
pub record TextTold (breaks : Breaks) (mark whole text output : List ℕ) (before after letters : Bool) (kept start i : ℕ) : Type 0 where
  pub order : kept ≤ start
  pub started : start ≤ i
  pub kept_at : IsCharBoundary text kept
  pub at_character : IsCharBoundary text start
  pub alphabetic : letters ≡ true → list_all is_ascii_alphabetic (slice_range text start i) ≡ true
  pub told : output ++ (slice_range text kept start ++ marked_tokens breaks mark before after (slice_range text start i) (drop i text)) ≡ whole

pub text_first : (breaks : Breaks) (mark text output : List ℕ) (before after : Bool) → IsUtf8 text
    → TextTold breaks mark (output ++ marked_tokens breaks mark before after [] text) text output before after true 0 0 0
text_first breaks mark text output before after u = record {
  order = omega arith;
  started = omega arith;
  kept_at = IsCharBoundary-start text u;
  at_character = IsCharBoundary-start text u;
  alphabetic = λ _. letters_none text 0;
  told = refl;
}

-- A byte of the token.
pub text_on : {breaks : Breaks} {mark whole text output : List ℕ} {before after letters : Bool} {kept start i : ℕ} (bytes output' : List ℕ) (before' letters' : Bool) (kept' start' : ℕ) → bytes ≡ text
    → TextTold breaks mark whole text output before after letters kept start i → i < length bytes → is_white_space (get_or bytes i 0) ≡ false
    → (letters' ≡ true → (letters ≡ true → list_all is_ascii_alphabetic (slice_range text start i) ≡ true) → list_all is_ascii_alphabetic (slice_range text start (i + 1)) ≡ true)
    → output' ≡ output → before' ≡ before → kept' ≡ kept → start' ≡ start → TextTold breaks mark whole text output' before' after letters' kept' start' (i + 1)
text_on {breaks} {mark} {whole} {text} {output} {before} {after} {letters} {kept} {start} {i} bytes output' before' letters' kept' start' same t lt e more o b k s =
    let lt' : i < length text = subst (λ bs. i < length bs) same lt in
    let e' = subst (λ bs. is_white_space (get_or bs i 0) ≡ false) same e in
    rw (o, b, k, s) (record {
      order = t.order;
      started = omega (arith, t.started);
      kept_at = t.kept_at;
      at_character = t.at_character;
      alphabetic = λ l. more l t.alphabetic;
      told = ap (λ xs. output ++ (slice_range text kept start ++ xs)) (sym (tokens_on breaks mark before after text start i t.started lt' e')) ∙ t.told;
    })

-- A byte of white space, after the token is written.
pub text_parted : {breaks : Breaks} {mark whole text output : List ℕ} {before after letters : Bool} {kept start i : ℕ} (bytes output' written : List ℕ) (left kept' start' : ℕ) (before' letters' : Bool) → bytes ≡ text → IsUtf8 text
    → TextTold breaks mark whole text output before after letters kept start i → i < length bytes → is_white_space (get_or bytes i 0) ≡ true
    → Leaves text left i output' (output ++ (slice_range text kept start ++ marked_unless breaks mark before (slice_range text start i)))
    → written ≡ output' → before' ≡ false → letters' ≡ true → kept' ≡ left → start' ≡ i + 1 → TextTold breaks mark whole text written before' after letters' kept' start' (i + 1)
text_parted {breaks} {mark} {whole} {text} {output} {before} {after} {letters} {kept} {start} {i} bytes output' written left kept' start' before' letters' same u t lt e w o b' l k s =
    let lt' : i < length text = subst (λ bs. i < length bs) same lt in
    let e' = subst (λ bs. is_white_space (get_or bs i 0) ≡ true) same e in
    let b = get_or text i 0 in
    let rest = marked_tokens breaks mark false after (slice_range text (i + 1) (i + 1)) (drop (i + 1) text) in
    let pending = slice_range text kept start in
    let own = marked_unless breaks mark before (slice_range text start i) in
    rw (o, b', l, k, s) (record {
      order = omega (arith, w.order);
      started = omega arith;
      kept_at = w.begins;
      at_character = IsCharBoundary-after_ascii text i u lt' (white_is_ascii b e');
      alphabetic = λ _. letters_none text (i + 1);
      told = ap (λ xs. output' ++ (xs ++ rest)) (slice_more text left i w.order lt')
          ∙ ap (λ xs. output' ++ xs) (append_assoc (slice_range text left i) (b ∷ []) rest)
          ∙ sym (append_assoc output' (slice_range text left i) (b ∷ rest)) ∙ ap (λ xs. xs ++ b ∷ rest) w.gives
          ∙ append_assoc output (pending ++ own) (b ∷ rest) ∙ ap (λ xs. output ++ xs) (append_assoc pending own (b ∷ rest))
          ∙ ap (λ xs. output ++ (pending ++ xs)) (sym (token_ends breaks mark before after text start i lt' e')) ∙ t.told;
    })

-- The end of the text, after the last token is written.
pub text_ends : {breaks : Breaks} {mark whole text output : List ℕ} {before after letters : Bool} {kept start i : ℕ} (output' last : List ℕ) (left end : ℕ) (touches : Bool)
    → TextTold breaks mark whole text output before after letters kept start i → length text ≤ i → end ≡ length text → touches ≡ before || after
    → Leaves text left end output' (output ++ (slice_range text kept start ++ marked_unless breaks mark touches (slice_range text start end)))
    → last ≡ output' ++ drop left text → last ≡ whole
text_ends {breaks} {mark} {whole} {text} {output} {before} {after} {letters} {kept} {start} {i} output' last left end touches t at e c w is =
    let pending = slice_range text kept start in
    is ∙ ap (λ xs. output' ++ xs) (sym (between_to_end text left end (omega (arith, e)))) ∙ w.gives
    ∙ ap (λ c. output ++ (pending ++ marked_unless breaks mark c (slice_range text start end))) c
    ∙ ap (λ token. output ++ (pending ++ marked_unless breaks mark (before || after) token)) (between_to_end text start end (omega (arith, e)) ∙ sym (between_to_end text start i at))
    ∙ ap (λ rest. output ++ (pending ++ marked_tokens breaks mark before after (slice_range text start i) rest)) (sym (drop_all i text at)) ∙ t.told
