-- Texts with and without Uppercase characters.
use Rattle.std.proofs.Common.{◌≡◌, ◌↔◌, Option, None, Some, MatchOption, IsNone, IfSome, ℕ, ◌≤◌, Bool, true, false, List, [], ◌∷◌, ◌++◌, take, drop, chars, refl, sym, ap, ◌∙◌, arith}
use Rattle.std.specs.List.{list_any}
use Rattle.std.specs.Str.{IsUtf8, IsCharBoundary, NoCharPasses, NonePass}
use Rattle.std.specs.Str.Pattern.{HasPassingCharAt, FindsBy}
use Rattle.std.proofs.lemmas.List.{take-append-drop}
use Rattle.std.proofs.lemmas.Str.{chars_from_encodes, chars-append, chars_past_char, IsUtf8-take, IsUtf8-drop}
use Rattle.unicode.specs.Binary.{is_uppercase}
use Rattle.hyphenation_hyphenator.specs.Folding.{has_uppercase}

none_passes : (cs : List ℕ) → NonePass is_uppercase cs → list_any is_uppercase cs ≡ false
none_passes [] h = refl
none_passes (c ∷ cs) h = grind (arith, none_passes cs h.1, h.0)

pub without_uppercase : (text : List ℕ) → IsUtf8 text → NoCharPasses is_uppercase text → has_uppercase text ≡ false
without_uppercase text u h = ap (list_any is_uppercase) (sym (chars_from_encodes h.0 text u h.1)) ∙ none_passes h.0 h.2

any_after : (front back : List ℕ) (c : ℕ) → is_uppercase c ≡ true → list_any is_uppercase (front ++ c ∷ back) ≡ true
any_after [] back c h = grind (arith)
any_after (d ∷ front) back c h = grind (arith, any_after front back c h)

pub with_uppercase : (text : List ℕ) (i j : ℕ) → IsUtf8 text → IsCharBoundary text i → HasPassingCharAt is_uppercase text i j → has_uppercase text ≡ true
with_uppercase text i j u b h =
    let front = take i text in
    let back = drop i text in
    let parts : chars text ≡ chars front ++ chars back = ap chars (sym (take-append-drop i text)) ∙ chars-append front back (IsUtf8-take text i u b) in
    let first : chars back ≡ h.0 ∷ chars (drop j text) = chars_past_char back (drop j text) h.0 (IsUtf8-drop text i u b) h.2.split in
    ap (list_any is_uppercase) (parts ∙ ap (λ cs. chars front ++ cs) first) ∙ any_after (chars front) (chars (drop j text)) h.0 h.1

-- The result of `find`, for the test that its closure computes.
pub found_by : (G : (ℕ → Bool) → Type 0) (text : List ℕ) (r : Option ℕ) → MatchOption r ((k : ℕ → Bool) → G k → NoCharPasses k text) (λ i. (j : ℕ) × ((k : ℕ → Bool) → G k → FindsBy k text (Some (i, j))) × (i ≤ j) × IsCharBoundary text i × IsCharBoundary text j) → G is_uppercase → MatchOption r (NoCharPasses is_uppercase text) (λ i. IsCharBoundary text i × NoCharPasses is_uppercase (take i text) × ((j : ℕ) × HasPassingCharAt is_uppercase text i j))
found_by G text None h g = h is_uppercase g
found_by G text (Some i) h g = let f = h.1 is_uppercase g in (h.3, f.0, (h.0, f.1))

pub is_first : (text : List ℕ) (r : Option ℕ) → IsUtf8 text → MatchOption r (NoCharPasses is_uppercase text) (λ i. IsCharBoundary text i × NoCharPasses is_uppercase (take i text) × ((j : ℕ) × HasPassingCharAt is_uppercase text i j)) → (IsNone r ↔ (has_uppercase text ≡ false)) × IfSome r (λ place. has_uppercase (take place text) ≡ false) × IfSome r (λ place. (end : ℕ) × HasPassingCharAt is_uppercase text place end)
is_first text None u h = ((λ _. without_uppercase text u h, λ _. refl), tt, tt)
is_first text (Some i) u h =
    let some : has_uppercase text ≡ true = with_uppercase text i h.2.0 u h.0 h.2.1 in
    ((λ n. cc, λ e. let no : true ≡ false = sym some ∙ e in cc), without_uppercase (take i text) (IsUtf8-take text i u h.0) h.1, h.2)
