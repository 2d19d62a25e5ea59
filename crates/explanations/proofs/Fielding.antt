-- A text in a field has no control character.
use Rattle.std.proofs.Common.{◌≡◌, ℕ, ◌/◌, ◌%◌, ◌<◌, List, [], ◌∷◌, cond, refl, true, false, slice_index, arith, Bool, ◌==◌, nat_lt, All}
use Rattle.std.specs.Char.{digit_char, is_ascii_control}
use Rattle.std.specs.Char.Escape.{escape_unicode, hex_digit_at}
use Rattle.std.proofs.lemmas.Bool.Decides.{nat_tests}
use Rattle.std.proofs.lemmas.List.Elements.{All-append, All-from_recursion, All-nil}
use Rattle.explanations.specs.Fields.{are_control, field_after, field_byte}

-- A byte is no control character.
abbrev IsFree : ℕ → Type 0
IsFree byte = is_ascii_control byte ≡ false

-- A list is free if each of two is, where a test says which it is.
free_by : (test : Bool) (a b : List ℕ) → All IsFree a → (test ≡ false → All IsFree b) → All IsFree (cond test a b)
free_by true a b first second = first
free_by false a b first second = second refl

digit_free : (digit : ℕ) → digit < 16 → IsFree (digit_char digit)
digit_free digit lt = grind (arith, nat_tests)

escape_free : (number : ℕ) → All IsFree (escape_unicode number)
escape_free number =
    let at : ℕ → ℕ = λ place. hex_digit_at place number in
    let d : (place : ℕ) → IsFree (hex_digit_at place number) = λ place. digit_free (number / place % 16) (omega arith) in
    free_by (nat_lt number 0x10) _ _ (All-from_recursion IsFree (92 ∷ 117 ∷ 123 ∷ at 1 ∷ 125 ∷ []) (refl, (refl, (refl, (d 1, (refl, tt))))))
    (λ _. free_by (nat_lt number 0x100) _ _ (All-from_recursion IsFree (92 ∷ 117 ∷ 123 ∷ at 0x10 ∷ at 1 ∷ 125 ∷ []) (refl, (refl, (refl, (d 0x10, (d 1, (refl, tt)))))))
    (λ _. free_by (nat_lt number 0x1000) _ _
    (All-from_recursion IsFree (92 ∷ 117 ∷ 123 ∷ at 0x100 ∷ at 0x10 ∷ at 1 ∷ 125 ∷ []) (refl, (refl, (refl, (d 0x100, (d 0x10, (d 1, (refl, tt))))))))
    (λ _. free_by (nat_lt number 0x1_0000) _ _
    (All-from_recursion IsFree (92 ∷ 117 ∷ 123 ∷ at 0x1000 ∷ at 0x100 ∷ at 0x10 ∷ at 1 ∷ 125 ∷ []) (refl, (refl, (refl, (d 0x1000, (d 0x100, (d 0x10, (d 1, (refl, tt)))))))))
    (λ _. free_by (nat_lt number 0x10_0000) _ _
    (All-from_recursion IsFree (92 ∷ 117 ∷ 123 ∷ at 0x1_0000 ∷ at 0x1000 ∷ at 0x100 ∷ at 0x10 ∷ at 1 ∷ 125 ∷ [])
    (refl, (refl, (refl, (d 0x1_0000, (d 0x1000, (d 0x100, (d 0x10, (d 1, (refl, tt))))))))))
    (λ _. All-from_recursion IsFree (92 ∷ 117 ∷ 123 ∷ at 0x10_0000 ∷ at 0x1_0000 ∷ at 0x1000 ∷ at 0x100 ∷ at 0x10 ∷ at 1 ∷ 125 ∷ [])
    (refl, (refl, (refl, (d 0x10_0000, (d 0x1_0000, (d 0x1000, (d 0x100, (d 0x10, (d 1, (refl, tt)))))))))))))))

letter_free : (letter : ℕ) → IsFree letter → All IsFree (92 ∷ letter ∷ [])
letter_free letter h = All-from_recursion IsFree (92 ∷ letter ∷ []) (refl, (h, tt))

byte_free : (before byte after : ℕ) → All IsFree (field_byte before byte after)
unfolding field_byte
byte_free before byte after =
    free_by (byte == 92) _ _ (letter_free 92 refl)
    (λ _. free_by (byte == 9) _ _ (letter_free 116 refl) (λ _. free_by (byte == 10) _ _ (letter_free 110 refl) (λ _. free_by (byte == 13) _ _ (letter_free 114 refl)
    (λ _. free_by (is_ascii_control byte) _ _ (escape_free byte)
    (λ not. free_by (are_control byte after) _ _ (All-nil IsFree)
    (λ _. free_by (are_control before byte) _ _ (escape_free byte) (λ _. All-from_recursion IsFree (byte ∷ []) (not, tt))))))))

pub text_free : (before : ℕ) (text : List ℕ) → All (λ byte. is_ascii_control byte ≡ false) (field_after before text)
text_free before [] = All-nil IsFree
text_free before (byte ∷ bytes) =
    All-append IsFree (field_byte before byte (slice_index bytes 0)) (field_after byte bytes) (byte_free before byte (slice_index bytes 0)) (text_free byte bytes)
