-- One byte more of the front of a page.
use Rattle.std.proofs.Common.{◌≡◌, ℕ, ◌+◌, ◌<◌, ◌≤◌, List, [], ◌∷◌, ◌++◌, drop, length, slice_range, get_or, refl, ap, sym, ◌∙◌, Bool, true, false, if◌then◌else◌, arith}
use Rattle.std.proofs.lemmas.List.{drop_all}
use Rattle.html_pieces.specs.declared.tokenizer.State.{State}
use Rattle.html_pieces.specs.declared.tokenizer.State.TheVariants.{Data, TagEnd, EmptyTagEnd}
use Rattle.html_pieces.specs.Forms.{is_data, is_tag_end, is_past_front, front_state, Front, at_front, front_of, tag_of, root_tag}
use Rattle.html_pieces.proofs.Slices.{drop_more, slice_more, slice_none}
use Rattle.html_pieces.proofs.Fronts.{past_stays, with_more}

-- the result after i bytes
pub record Led (page : List ℕ) (state : State) (start i : ℕ) : Type 0 where
  pub told : front_of at_front page ≡ front_of (record { state = state; bytes = slice_range page start i }) (drop i page)
  pub began : start ≤ i
  pub on : is_past_front state ≡ false

pub led_first : (page : List ℕ) → Led page Data 0 0
led_first page = record { told = refl; began = omega arith; on = refl }

-- the front with the byte at a place
abbrev with_bytes : State → List ℕ → Front
with_bytes state bytes = record { state = state; bytes = if is_data state then [] else bytes }

led_more : (page : List ℕ) (state after : State) (start i : ℕ) → Led page state start i → i < length page → after ≡ front_state state (get_or page i 0)
    → front_of at_front page ≡ front_of (with_bytes after (slice_range page start (i + 1))) (drop (i + 1) page)
led_more page state after start i l lt a =
    let front : Front = record { state = state; bytes = slice_range page start i } in
    l.told ∙ ap (front_of front) (drop_more page i lt)
    ∙ ap (λ f. front_of f (drop (i + 1) page)) (with_more front (get_or page i 0) l.on)
    ∙ ap (λ s. front_of (with_bytes s (slice_range page start i ++ get_or page i 0 ∷ [])) (drop (i + 1) page)) (sym a)
    ∙ ap (λ bytes. front_of (with_bytes after bytes) (drop (i + 1) page)) (sym (slice_more page start i l.began lt))

tag_past : (state : State) → is_tag_end state ≡ true → is_past_front state ≡ true
tag_past TagEnd e = refl
tag_past EmptyTagEnd e = refl
tag_past state e = absurd (cc e)

ended_tag : (state : State) (bytes : List ℕ) → is_tag_end state ≡ true → tag_of (with_bytes state bytes) ≡ bytes
ended_tag TagEnd bytes e = refl
ended_tag EmptyTagEnd bytes e = refl
ended_tag state bytes e = absurd (cc e)

pub led_to_tag : (page : List ℕ) (state after : State) (start i : ℕ) → Led page state start i → i < length page → after ≡ front_state state (get_or page i 0) → is_tag_end after ≡ true
    → slice_range page start (i + 1) ≡ root_tag page
led_to_tag page state after start i l lt a e =
    let bytes = slice_range page start (i + 1) in
    sym (ap tag_of (led_more page state after start i l lt a ∙ past_stays (with_bytes after bytes) (drop (i + 1) page) (tag_past after e)) ∙ ended_tag after bytes e)

no_tag : (state : State) (bytes : List ℕ) → is_tag_end state ≡ false → tag_of (record { state = state; bytes = bytes }) ≡ []
no_tag state bytes e = ap (λ c. if c then bytes else []) e

pub led_past : (page : List ℕ) (state after : State) (start i : ℕ) → Led page state start i → i < length page → after ≡ front_state state (get_or page i 0) → is_tag_end after ≡ false → is_past_front after ≡ true
    → [] ≡ root_tag page
led_past page state after start i l lt a t e =
    let bytes = slice_range page start (i + 1) in
    sym (ap tag_of (led_more page state after start i l lt a ∙ past_stays (with_bytes after bytes) (drop (i + 1) page) e) ∙ no_tag after (if is_data after then [] else bytes) t)

start_cases : (page : List ℕ) (start i : ℕ) (c : Bool) → (if c then [] else slice_range page start (i + 1)) ≡ slice_range page (if c then i + 1 else start) (i + 1)
start_cases page start i true = sym (slice_none page (i + 1))
start_cases page start i false = refl

began_cases : (start i : ℕ) (c : Bool) → start ≤ i → (if c then i + 1 else start) ≤ i + 1
began_cases start i true le = omega arith
began_cases start i false le = omega (arith, le)

pub led_on : (page : List ℕ) (state after : State) (start start' i : ℕ) (c : Bool) → Led page state start i → i < length page → after ≡ front_state state (get_or page i 0) → is_past_front after ≡ false
    → c ≡ is_data after → start' ≡ (if c then i + 1 else start) → Led page after start' (i + 1)
led_on page state after start start' i c l lt a e d s =
    let at : start' ≡ (if is_data after then i + 1 else start) = s ∙ ap (λ x. if x then i + 1 else start) d in
    rw (at) (record {
      told = led_more page state after start i l lt a ∙ ap (λ bytes. front_of (record { state = after; bytes = bytes }) (drop (i + 1) page)) (start_cases page start i (is_data after));
      began = began_cases start i (is_data after) l.began;
      on = e;
    })

not_past_tag : (state : State) → is_past_front state ≡ false → is_tag_end state ≡ false
not_past_tag TagEnd e = absurd (cc e)
not_past_tag EmptyTagEnd e = absurd (cc e)
not_past_tag state e = refl

pub led_nowhere : (page : List ℕ) (state : State) (start i : ℕ) → Led page state start i → length page ≤ i → [] ≡ root_tag page
led_nowhere page state start i l le =
    let bytes = slice_range page start i in
    sym (ap tag_of (l.told ∙ ap (front_of (record { state = state; bytes = bytes })) (drop_all i page le)) ∙ no_tag state bytes (not_past_tag state l.on))
