-- One byte more of a tag whose attributes are read.
use Rattle.std.proofs.Common.{◌≡◌, ℕ, ◌+◌, ◌-◌, ◌<◌, Bool, true, false, List, [], ◌∷◌, ◌++◌, length, drop, slice_range, get_or, refl, ap, sym, ◌∙◌, arith, IsTrue, if◌then◌else◌, append_assoc, length-append}
use Rattle.std.specs.Option.{unwrap_or}
use Rattle.html_pieces.specs.declared.bytes.PageForm.{PageForm}
use Rattle.html_pieces.specs.Pieces.{next}
use Rattle.html_pieces.specs.Private.Parts.{EndsAt}
use Rattle.html_pieces.specs.Tags.{Attribute, is_name, is_value, is_unquoted, attribute_name_after, attribute_value_after, ended, attributes_from, attributes_of}
use Rattle.html_pieces.specs.declared.tokenizer.State.{State}
use Rattle.html_pieces.specs.declared.tokenizer.State.TheVariants.{TagOpen, TagEnd}
use Rattle.html_pieces.proofs.Slices.{drop_more, slice_more, slice_one, slice_none}

-- a part that ends at a place, with the byte there
pub grown_is : (tag part : List ℕ) (i : ℕ) → i < length tag → EndsAt tag part i → slice_range tag (i - length part) (i + 1) ≡ part ++ get_or tag i 0 ∷ []
grown_is tag part i lt e = slice_more tag (i - length part) i (omega arith) lt ∙ ap (λ xs. xs ++ get_or tag i 0 ∷ []) (sym e.is)

grown_ends : (tag part : List ℕ) (i : ℕ) → i < length tag → EndsAt tag part i → EndsAt tag (part ++ get_or tag i 0 ∷ []) (i + 1)
grown_ends tag part i lt e =
    let n : length (part ++ get_or tag i 0 ∷ []) ≡ length part + 1 = length-append part (get_or tag i 0 ∷ []) in
    let at : i + 1 - length (part ++ get_or tag i 0 ∷ []) ≡ i - length part = omega (arith, n, e.fits) in
    record {
      fits = omega (arith, n, e.fits);
      is = sym (grown_is tag part i lt e) ∙ ap (λ a. slice_range tag a (i + 1)) (sym at);
    }

one_ends : (tag : List ℕ) (i : ℕ) → i < length tag → EndsAt tag (get_or tag i 0 ∷ []) (i + 1)
one_ends tag i lt =
    let at : i + 1 - 1 ≡ i = omega arith in
    record { fits = omega arith; is = sym (slice_one tag i lt) ∙ ap (λ a. slice_range tag a (i + 1)) (sym at) }

none_ends : (tag : List ℕ) (i : ℕ) → EndsAt tag [] i
none_ends tag i =
    let at : i - 0 ≡ i = omega arith in
    record { fits = omega arith; is = sym (slice_none tag i) ∙ ap (λ a. slice_range tag a i) (sym at) }

name_ends : (tag name : List ℕ) (i : ℕ) (was now : Bool) → i < length tag → (IsTrue was → EndsAt tag name i) → IsTrue now
    → EndsAt tag (if now then (if was then name ++ get_or tag i 0 ∷ [] else get_or tag i 0 ∷ []) else name) (i + 1)
name_ends tag name i true true lt e now = grown_ends tag name i lt (e refl)
name_ends tag name i false true lt e now = one_ends tag i lt
name_ends tag name i was false lt e now = absurd (cc now)

value_ends : (tag value : List ℕ) (i : ℕ) (named was now unquoted : Bool) → i < length tag → (IsTrue was → EndsAt tag value i) → IsTrue now
    → EndsAt tag (if named then [] else if now then (if was then value ++ get_or tag i 0 ∷ [] else if unquoted then get_or tag i 0 ∷ [] else []) else value) (i + 1)
value_ends tag value i true was now unquoted lt e n = none_ends tag (i + 1)
value_ends tag value i false true true unquoted lt e n = grown_ends tag value i lt (e refl)
value_ends tag value i false false true true lt e n = one_ends tag i lt
value_ends tag value i false false true false lt e n = none_ends tag (i + 1)
value_ends tag value i false was false unquoted lt e n = absurd (cc n)

-- the result after i bytes
pub record Read (form : PageForm) (tag : List ℕ) (found : List Attribute) (state : State) (name value : List ℕ) (i : ℕ) : Type 0 where
  pub told : found ++ attributes_from form state name value (drop i tag) ≡ attributes_of form tag
  pub name_at : IsTrue (is_name state) → EndsAt tag name i
  pub value_at : IsTrue (is_value state) → EndsAt tag value i

pub read_first : (form : PageForm) (tag : List ℕ) → Read form tag [] TagOpen [] [] 1
read_first form tag = record { told = refl; name_at = λ h. absurd (cc h); value_at = λ h. absurd (cc h) }

pub read_on : (form : PageForm) (tag : List ℕ) (found found' : List Attribute) (state after : State) (name value name' value' : List ℕ) (i : ℕ) → Read form tag found state name value i → i < length tag
    → after ≡ unwrap_or (next form false state [] (get_or tag i 0)) TagEnd → found' ≡ found ++ ended state after name value
    → name' ≡ attribute_name_after state after name (get_or tag i 0) → value' ≡ attribute_value_after state after value (get_or tag i 0)
    → Read form tag found' after name' value' (i + 1)
read_on form tag found found' state after name value name' value' i r lt a f n v =
    let rest = attributes_from form after (attribute_name_after state after name (get_or tag i 0)) (attribute_value_after state after value (get_or tag i 0)) (drop (i + 1) tag) in
    let step : attributes_from form state name value (drop i tag) ≡ ended state after name value ++ rest =
    ap (attributes_from form state name value) (drop_more tag i lt)
    ∙ ap (λ s. ended state s name value ++ attributes_from form s (attribute_name_after state s name (get_or tag i 0)) (attribute_value_after state s value (get_or tag i 0)) (drop (i + 1) tag)) (sym a) in
    rw (f, n, v) (record {
      told = append_assoc found (ended state after name value) rest ∙ ap (λ xs. found ++ xs) (sym step) ∙ r.told;
      name_at = name_ends tag name i (is_name state) (is_name after) lt r.name_at;
      value_at = value_ends tag value i (is_name after) (is_value state) (is_value after) (is_unquoted after) lt r.value_at;
    })
