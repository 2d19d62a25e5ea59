-- Parts of codes, as they are borrowed.
use Rattle.std.proofs.Common.{◌≡◌, ◌∙◌, ◌-◌, ◌≤◌, ◌||◌, ◌&&◌, ℕ, Bool, true, Bor, List, [], ◌∷◌, ap, arith, drop, get_or, length, refl, sym, take}
use Rattle.std.proofs.lemmas.List.{take_all}
use Rattle.std.specs.List.{list_any}
use Rattle.std.specs.Str.{bytes_eq}
use Rattle.hyphenation_breaks.specs.Borrowed.{texts_now}
use Rattle.html_command.specs.Varieties.{are_rivals, are_varieties, have_rivals}

any_now : (test : List ℕ → Bool) (parts : List (Bor (List ℕ))) → list_any (λ part. test part.now) parts ≡ list_any test (texts_now parts)
any_now test [] = refl
any_now test (part ∷ parts) = ap (λ b. test part.now || b) (any_now test parts)

-- Rivals among parts that are borrowed.
pub rivals_there : (parts others : List (Bor (List ℕ)))
    → list_any (λ part. list_any (λ other. are_rivals part.now other.now) others) parts ≡ have_rivals (texts_now parts) (texts_now others)
rivals_there [] others = refl
rivals_there (part ∷ parts) others =
    ap (λ b. b || list_any (λ part. list_any (λ other. are_rivals part.now other.now) others) parts) (any_now (are_rivals part.now) others)
    ∙ ap (λ b. list_any (are_rivals part.now) (texts_now others) || b) (rivals_there parts others)

-- Two lists of parts whose first ones are the same.
pub varieties_there : (parts others : List (Bor (List ℕ))) (d e : Bor (List ℕ)) (same are : Bool) → 1 ≤ length parts → 1 ≤ length others
    → same ≡ bytes_eq (get_or parts 0 d).now (get_or others 0 e).now → same ≡ true
    → are ≡ list_any (λ part. list_any (λ other. are_rivals part.now other.now) (take (length others - 1) (drop 1 others))) (take (length parts - 1) (drop 1 parts))
    → are ≡ are_varieties (texts_now parts) (texts_now others)
varieties_there [] others d e same are some more is holds given = absurd (omega (arith, some))
varieties_there (one ∷ parts) [] d e same are some more is holds given = absurd (omega (arith, more))
varieties_there (one ∷ parts) (other ∷ others) d e same are some more is holds given =
    let own : take (length (one ∷ parts) - 1) parts ≡ parts = take_all (length (one ∷ parts) - 1) parts (omega arith) in
    let theirs : take (length (other ∷ others) - 1) others ≡ others = take_all (length (other ∷ others) - 1) others (omega arith) in
    given ∙ ap (λ os. list_any (λ part. list_any (λ it. are_rivals part.now it.now) os) (take (length (one ∷ parts) - 1) parts)) theirs
    ∙ ap (λ ps. list_any (λ part. list_any (λ it. are_rivals part.now it.now) others) ps) own
    ∙ rivals_there parts others ∙ sym (ap (λ b. b && have_rivals (texts_now parts) (texts_now others)) (sym is ∙ holds))
