-- A text as XML has it has no byte that begins or ends an element or an attribute.
use Rattle.std.proofs.Common.{◌≡◌, ℕ, List, [], ◌∷◌, ap, ◌∙◌, cond, refl, true, false, Bool, ◌==◌, ◌||◌, ◌&&◌, codes, nat_le, nat_lt, All}
use Rattle.std.proofs.lemmas.List.Elements.{All-append, All-from_recursion, All-nil}
use Rattle.explanations.specs.Escaping.{escaped_after, escaped_byte, is_markup, replacement}

-- A byte is no such byte.
abbrev IsPlain : ℕ → Type 0
IsPlain byte = is_markup byte ≡ false

-- A list has none if each of two has none, where a test says which it is.
plain_by : (test : Bool) (a b : List ℕ) → All IsPlain a → (test ≡ false → All IsPlain b) → All IsPlain (cond test a b)
plain_by true a b first second = first
plain_by false a b first second = second refl

same : (byte : ℕ) → (byte == 60) ≡ false → (byte == 62) ≡ false → (byte == 34) ≡ false → (byte == 39) ≡ false → IsPlain byte
same byte less greater quote single =
    ap (λ b. b || ((byte == 62) || ((byte == 34) || (byte == 39)))) less ∙ ap (λ b. b || ((byte == 34) || (byte == 39))) greater
    ∙ ap (λ b. b || (byte == 39)) quote ∙ single

byte_escaped : (first second byte : ℕ) → All IsPlain (escaped_byte first second byte)
byte_escaped first second byte =
    plain_by (byte == 38) _ _ (All-from_recursion IsPlain (codes "&amp;") (refl, (refl, (refl, (refl, (refl, tt))))))
    (λ _. plain_by (byte == 60) _ _ (All-from_recursion IsPlain (codes "&lt;") (refl, (refl, (refl, (refl, tt)))))
    (λ less. plain_by (byte == 62) _ _ (All-from_recursion IsPlain (codes "&gt;") (refl, (refl, (refl, (refl, tt)))))
    (λ greater. plain_by (byte == 34) _ _ (All-from_recursion IsPlain (codes "&quot;") (refl, (refl, (refl, (refl, (refl, (refl, tt)))))))
    (λ quote. plain_by (byte == 39) _ _ (All-from_recursion IsPlain (codes "&#39;") (refl, (refl, (refl, (refl, (refl, tt))))))
    (λ single. plain_by (nat_lt byte 32) _ _ (All-from_recursion IsPlain replacement (refl, (refl, (refl, tt))))
    (λ _. plain_by ((first == 239) && (second == 191) && nat_le 190 byte) (189 ∷ []) (byte ∷ []) (All-from_recursion IsPlain (189 ∷ []) (refl, tt))
    (λ _. All-from_recursion IsPlain (byte ∷ []) (same byte less greater quote single, tt))))))))

pub text_escaped : (first second : ℕ) (text : List ℕ) → All (λ byte. is_markup byte ≡ false) (escaped_after first second text)
text_escaped first second [] = All-nil IsPlain
text_escaped first second (byte ∷ bytes) =
    All-append IsPlain (escaped_byte first second byte) (escaped_after second byte bytes) (byte_escaped first second byte) (text_escaped second byte bytes)
