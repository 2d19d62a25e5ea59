-- Bytes of a value that are passed at once.
use Rattle.std.proofs.Common.{◌≡◌, ℕ, ◌+◌, ◌-◌, ◌<◌, ◌≤◌, zero, suc, Bool, true, false, not, ◌&&◌, List, [], ◌∷◌, ◌++◌, length, slice_range, get_or, refl, ap, sym, subst, ◌∙◌, arith, append_assoc, append-nil, if◌then◌else◌}
use Rattle.std.specs.Option.{unwrap_or}
use Rattle.html_pieces.specs.declared.bytes.PageForm.{PageForm}
use Rattle.html_pieces.specs.Private.Parts.{EndsAt}
use Rattle.html_pieces.specs.Private.Quiet.{AreQuiet}
use Rattle.html_pieces.specs.Tags.{Attribute, is_name, is_value, is_unquoted, read}
use Rattle.html_pieces.specs.declared.tokenizer.State.{State}
use Rattle.html_pieces.specs.declared.tokenizer.State.TheVariants.{AttributeName, TagEnd}
use Rattle.html_pieces.proofs.AttributeSteps.{Read, read_on}
use Rattle.html_pieces.proofs.QuietBytes.{next_stays}
use Rattle.html_pieces.proofs.Slices.{slice_more, slice_none}

slices_join : (xs : List ℕ) (a b n : ℕ) → a ≤ b → b + n ≤ length xs → slice_range xs a (b + n) ≡ slice_range xs a b ++ slice_range xs b (b + n)
slices_join xs a b zero le w =
    let here : b + zero ≡ b = omega arith in
    ap (slice_range xs a) here ∙ sym (append-nil (slice_range xs a b)) ∙ ap (λ ys. slice_range xs a b ++ ys) (sym (ap (slice_range xs b) here ∙ slice_none xs b))
slices_join xs a b (suc n) le w =
    let there : b + suc n ≡ b + n + 1 = omega arith in
    let inside : b + n < length xs = omega (arith, w) in
    ap (slice_range xs a) there ∙ slice_more xs a (b + n) (omega (arith, le)) inside
    ∙ ap (λ ys. ys ++ get_or xs (b + n) 0 ∷ []) (slices_join xs a b n le (omega (arith, w)))
    ∙ append_assoc (slice_range xs a b) (slice_range xs b (b + n)) (get_or xs (b + n) 0 ∷ [])
    ∙ ap (λ ys. slice_range xs a b ++ ys) (sym (ap (slice_range xs b) there ∙ slice_more xs b (b + n) (omega arith) inside))

-- a part that ends at a place, with the bytes up to another place
pub grown_past : (tag part : List ℕ) (from to : ℕ) → from ≤ to → to ≤ length tag → EndsAt tag part from → slice_range tag (from - length part) to ≡ part ++ slice_range tag from to
grown_past tag part from to le w e =
    let there : from + (to - from) ≡ to = omega (arith, le) in
    ap (slice_range tag (from - length part)) (sym there)
    ∙ slices_join tag (from - length part) from (to - from) (omega arith) (omega (arith, le, w))
    ∙ ap (λ ys. ys ++ slice_range tag from (from + (to - from))) (sym e.is)
    ∙ ap (λ k. part ++ slice_range tag from k) there

value_is_no_name : (state : State) → is_value state ≡ true → is_name state ≡ false
value_is_no_name AttributeName e = cc
value_is_no_name _ e = refl

read_past : (n : ℕ) (form : PageForm) (tag : List ℕ) (found : List Attribute) (state : State) (name value : List ℕ) (i : ℕ) → is_name state ≡ false → is_value state ≡ true
    → Read form tag found state name value i → i + n ≤ length tag → AreQuiet state tag i (i + n) → Read form tag found state name (value ++ slice_range tag i (i + n)) (i + n)
read_past zero form tag found state name value i named valued r w q =
    let here : i + zero ≡ i = omega arith in
    let same : value ++ slice_range tag i i ≡ value = ap (λ ys. value ++ ys) (slice_none tag i) ∙ append-nil value in
    subst (λ k. Read form tag found state name (value ++ slice_range tag i k) k) (sym here) (subst (λ v. Read form tag found state name v i) (sym same) r)
read_past (suc n) form tag found state name value i named valued r w q =
    let there : i + suc n ≡ i + n + 1 = omega arith in
    let inside : i + n < length tag = omega (arith, w) in
    let before = read_past n form tag found state name value i named valued r (omega (arith, w)) (λ k l u. q k l (omega (arith, u))) in
    let b = get_or tag (i + n) 0 in
    let v = value ++ slice_range tag i (i + n) in
    let stays = sym (ap (λ o. unwrap_or o TagEnd) (next_stays form false state [] b (q (i + n) (omega arith) (omega arith)))) in
    let found_is : found ≡ found ++ (if is_name state && not (is_name state) then read name v else []) = sym (ap (λ c. found ++ (if c && not c then read name v else [])) named ∙ append-nil found) in
    let name_is : name ≡ (if is_name state then (if is_name state then name ++ b ∷ [] else b ∷ []) else name) = sym (ap (λ c. if c then (if c then name ++ b ∷ [] else b ∷ []) else name) named) in
    let value_is : v ++ b ∷ [] ≡ (if is_name state then [] else if is_value state then (if is_value state then v ++ b ∷ [] else if is_unquoted state then b ∷ [] else []) else v) =
    sym (ap (λ c. if c then [] else if is_value state then (if is_value state then v ++ b ∷ [] else if is_unquoted state then b ∷ [] else []) else v) named
    ∙ ap (λ c. if c then (if c then v ++ b ∷ [] else if is_unquoted state then b ∷ [] else []) else v) valued) in
    let one = read_on form tag found found state state name v name (v ++ b ∷ []) (i + n) before inside stays found_is name_is value_is in
    let same : v ++ b ∷ [] ≡ value ++ slice_range tag i (i + n + 1) = append_assoc value (slice_range tag i (i + n)) (b ∷ []) ∙ ap (λ ys. value ++ ys) (sym (slice_more tag i (i + n) (omega arith) inside)) in
    subst (λ k. Read form tag found state name (value ++ slice_range tag i k) k) (sym there) (subst (λ u. Read form tag found state name u (i + n + 1)) same one)

up_to_cases : (c : Bool) (form : PageForm) (tag : List ℕ) (found : List Attribute) (state : State) (name value value' : List ℕ) (i to : ℕ) → is_value state ≡ c
    → Read form tag found state name value i → i ≤ to → to ≤ length tag → AreQuiet state tag i to → (is_value state ≡ false → to ≡ i)
    → value' ≡ (if c then value ++ slice_range tag i to else value) → Read form tag found state name value' to
up_to_cases true form tag found state name value value' i to e r le w q kept v =
    let there : i + (to - i) ≡ to = omega (arith, le) in
    let past = read_past (to - i) form tag found state name value i (value_is_no_name state e) e r (omega (arith, le, w)) (λ k l u. q k l (omega (arith, le, u))) in
    subst (λ u. Read form tag found state name u to) (sym v) (subst (λ k. Read form tag found state name (value ++ slice_range tag i k) k) there past)
up_to_cases false form tag found state name value value' i to e r le w q kept v =
    subst (λ u. Read form tag found state name u to) (sym v) (subst (λ k. Read form tag found state name value k) (sym (kept e)) r)

pub read_up_to : (form : PageForm) (tag : List ℕ) (found : List Attribute) (state : State) (name value value' : List ℕ) (i to : ℕ)
    → Read form tag found state name value i → i ≤ to → to ≤ length tag → AreQuiet state tag i to → (is_value state ≡ false → to ≡ i)
    → value' ≡ (if is_value state then value ++ slice_range tag i to else value) → Read form tag found state name value' to
read_up_to form tag found state name value value' i to r le w q kept v = up_to_cases (is_value state) form tag found state name value value' i to refl r le w q kept v
