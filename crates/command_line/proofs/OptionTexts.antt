-- The texts of options: names, and names with a value after an equals sign.
use Rattle.std.proofs.Common.{◌≡◌, ℕ, ◌+◌, ◌==◌, ◌&&◌, ◌||◌, Bool, true, false, true≢false, not, cond, nat_lt, nat_eq, List, [], ◌∷◌, ◌++◌, length, take, drop, Some, None, refl, sym, ap, ◌∙◌, arith}
use Rattle.std.specs.Prelude.{codes, is_some, option_map, position}
use Rattle.std.specs.List.{list_all, prefix_len}
use Rattle.std.specs.Option.{option_map_or}
use Rattle.std.proofs.Math.Seq.{take-append_seam, drop-append-add}
use Rattle.std.proofs.lemmas.Bool.{and_right, cond-true, cond-false, and_parts}
use Rattle.std.proofs.lemmas.Bool.Decides.{nat_tests}
use Rattle.std.proofs.lemmas.List.{length-append}
use Rattle.hyphenation_grammar.specs.Lines.{is_same}
use Rattle.command_line.specs.Options.{is_operand, name_in, value_in}

-- A name without `=` is read to its end.
to_sign : (name value : List ℕ) → list_all (λ b. not (b == 61)) name ≡ true → prefix_len (λ b. not (b == 61)) (name ++ (codes "=" ++ value)) ≡ length name
to_sign [] value e = refl
to_sign (b ∷ name) value e =
    let two = and_parts (not (b == 61)) (list_all (λ b. not (b == 61)) name) e in
    cond-true _ _ _ two.0 ∙ ap (λ n. 1 + n) (to_sign name value two.1) ∙ grind arith

to_end : (name : List ℕ) → list_all (λ b. not (b == 61)) name ≡ true → prefix_len (λ b. not (b == 61)) name ≡ length name
to_end [] e = refl
to_end (b ∷ name) e =
    let two = and_parts (not (b == 61)) (list_all (λ b. not (b == 61)) name) e in
    cond-true _ _ _ two.0 ∙ ap (λ n. 1 + n) (to_end name two.1) ∙ grind arith

pub sign_in_joined : (name value : List ℕ) → list_all (λ b. not (b == 61)) name ≡ true
    → position (λ b. b == 61) (name ++ (codes "=" ++ value)) ≡ Some (length name)
sign_in_joined name value e =
    let len = length (name ++ (codes "=" ++ value)) in
    let all : len ≡ length name + length (codes "=" ++ value) = length-append name (codes "=" ++ value) in
    let more : length (codes "=" ++ value) ≡ 1 + length value = grind arith in
    let lt : nat_lt (length name) len ≡ true = grind (arith, nat_tests) in
    ap (λ n. cond (nat_lt n len) (Some n) None) (to_sign name value e) ∙ cond-true _ _ _ lt

pub no_sign_in_name : (name : List ℕ) → list_all (λ b. not (b == 61)) name ≡ true → position (λ b. b == 61) name ≡ None
no_sign_in_name name e =
    let len = length name in
    let lt : nat_lt len len ≡ false = grind (arith, nat_tests) in
    ap (λ n. cond (nat_lt n len) (Some n) None) (to_end name e) ∙ cond-false _ _ _ lt

pub name_in_name : (name : List ℕ) → list_all (λ b. not (b == 61)) name ≡ true → name_in name ≡ name
name_in_name name e = ap (λ o. option_map_or (λ at. take at name) o name) (no_sign_in_name name e)

pub value_in_name : (name : List ℕ) → list_all (λ b. not (b == 61)) name ≡ true → value_in name ≡ None
value_in_name name e = ap (λ o. option_map (λ at. drop (at + 1) name) o) (no_sign_in_name name e)

pub name_in_joined : (name value : List ℕ) → list_all (λ b. not (b == 61)) name ≡ true → name_in (name ++ (codes "=" ++ value)) ≡ name
name_in_joined name value e =
    let text = name ++ (codes "=" ++ value) in
    ap (λ o. option_map_or (λ at. take at text) o text) (sign_in_joined name value e) ∙ take-append_seam name (codes "=" ++ value)

pub value_in_joined : (name value : List ℕ) → list_all (λ b. not (b == 61)) name ≡ true → value_in (name ++ (codes "=" ++ value)) ≡ Some value
value_in_joined name value e =
    let text = name ++ (codes "=" ++ value) in
    ap (λ o. option_map (λ at. drop (at + 1) text) o) (sign_in_joined name value e) ∙ ap Some (drop-append-add name (codes "=" ++ value) 1)

-- Whether a text of two or more bytes is an operand, by whether it begins with `-`.
abbrev operand_by : ℕ → List ℕ → Bool → Bool
operand_by c x dash = not (is_some (cond (dash && true) (Some (c ∷ x)) None)) || (dash && false)

-- Each byte after the second leaves it open or shut whether a text is an operand.
longer_operand : (b c : ℕ) (x y : List ℕ) → is_operand (b ∷ c ∷ x) ≡ false → is_operand (b ∷ c ∷ y) ≡ false
longer_operand b c x y = elim (nat_eq b 45) as (λ dash. operand_by c x dash ≡ false → operand_by c y dash ≡ false)
    [ true ↦ λ h. refl | false ↦ λ h. absurd (true≢false h) ]

-- A text of one byte is an operand.
single_operand : (b : ℕ) → is_operand (b ∷ []) ≡ true
single_operand b = elim (nat_eq b 45) as (λ dash. (not (is_some {T = List ℕ} (cond (dash && true) (Some []) None)) || (dash && true)) ≡ true)
    [ true ↦ refl | false ↦ refl ]

pub joined_is_no_operand : (name value : List ℕ) → is_operand name ≡ false → is_operand (name ++ (codes "=" ++ value)) ≡ false
joined_is_no_operand [] value e = absurd (true≢false e)
joined_is_no_operand (b ∷ []) value e = absurd (true≢false (sym (single_operand b) ∙ e))
joined_is_no_operand (b ∷ c ∷ name) value e = longer_operand b c name (name ++ (codes "=" ++ value)) e

pub joined_is_not_dashes : (name value : List ℕ) → is_operand name ≡ false → is_same (name ++ (codes "=" ++ value)) (codes "--") ≡ false
joined_is_not_dashes [] value e = absurd (true≢false e)
joined_is_not_dashes (b ∷ []) value e = absurd (true≢false (sym (single_operand b) ∙ e))
joined_is_not_dashes (b ∷ c ∷ []) value e = and_right (nat_eq b 45) _ (and_right (nat_eq c 45) false refl)
joined_is_not_dashes (b ∷ c ∷ d ∷ name) value e = and_right (nat_eq b 45) _ (and_right (nat_eq c 45) false refl)

pub operand_is_not_dashes : (text : List ℕ) → is_operand text ≡ true → is_same text (codes "--") ≡ false
operand_is_not_dashes [] e = refl
operand_is_not_dashes (b ∷ []) e = and_right (nat_eq b 45) false refl
operand_is_not_dashes (b ∷ c ∷ x) e =
    (elim (nat_eq b 45) as (λ dash. operand_by c x dash ≡ true → (dash && is_same (c ∷ x) (codes "-")) ≡ false)
    [ true ↦ λ h. absurd (true≢false (sym h)) | false ↦ λ h. refl ]) e
