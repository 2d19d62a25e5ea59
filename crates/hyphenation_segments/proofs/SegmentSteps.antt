-- One step of the iterators over segments.
use Rattle.std.proofs.Common.{◌≡◌, ℕ, ◌+◌, ◌≤◌, ◌↔◌, Bool, false, List, [], ◌∷◌, length, map, subst, sym, ap, arith, refl, Option, Some, IfSome, Result, Ok, Err, IfOk}
use Rattle.std.specs.Cow.{cow_str_bytes, IsBorrowedStr}
use Rattle.std.specs.declared.borrow.CowStr.{CowStr}
use Rattle.hyphenation_breaks.specs.Break.{Break, plain_break, end_of}
use Rattle.hyphenation_segments.specs.Fits.{FitsFrom, BreakFitsAfter}
use Rattle.hyphenation_segments.specs.ChangedSegments.{made_segments_after, text_if_made}
use Rattle.hyphenation_segments.specs.Private.ChangedSegments.{last_break, FitsAfterLast, made_segments_from}
use Rattle.hyphenation_segments.specs.Segments.{segments_after, segment_between}
use Rattle.hyphenation_segments.specs.Private.Remaining.{FitsAfterStart, segments_from}

-- Breaks that fit after a later end and place fit after an earlier one.
pub fits_earlier : (text : List ℕ) (last_end least last_end' least' : ℕ) (breaks : List Break) → last_end' ≤ last_end → least' ≤ least → FitsFrom text last_end least breaks → FitsFrom text last_end' least' breaks
fits_earlier text last_end least last_end' least' [] h k f = tt
fits_earlier text last_end least last_end' least' (b ∷ bs) h k f = (
  record {
    ascends = omega (arith, f.0.ascends);
    within = f.0.within;
    apart = omega (arith, f.0.apart);
    place = f.0.place;
    begin = f.0.begin;
    end = f.0.end;
  },
  f.1,
)

pub fits_next : (text : List ℕ) (start : Option ℕ) (p x : ℕ) (all rest : List Break) → start ≡ Some p → all ≡ plain_break x ∷ rest → FitsAfterStart text start all → (p ≤ x) × FitsAfterStart text (Some x) rest
fits_next text start p x all rest e d h =
    let h1 : FitsAfterStart text (Some p) all = subst (λ s. FitsAfterStart text s all) e h in
    let h2 : FitsAfterStart text (Some p) (plain_break x ∷ rest) = subst (λ l. FitsAfterStart text (Some p) l) d h1 in
    (h2.1.0.ascends, (h2.1.0.place, fits_earlier text (x + 0) (x + 1) x x rest (omega arith) (omega arith) h2.1.1))

-- Breaks that fit are no more than the places of the text.
pub fits_count : (text : List ℕ) (last_end least : ℕ) (breaks : List Break) → least ≤ length text + 1 → FitsFrom text last_end least breaks → length breaks + least ≤ length text + 1
fits_count text last_end least [] h f = omega (arith, h)
fits_count text last_end least (b ∷ bs) h f =
    let in_text : b.place ≤ length text = f.0.place.0 in
    omega (arith, f.0.ascends, in_text, fits_count text (end_of b) (b.place + 1) bs (omega (arith, in_text)) f.1)

pub segments_count : (text : List ℕ) (last : Break) (breaks : List Break) → length (segments_after text last breaks) ≡ length breaks + 1
segments_count text last [] = refl
segments_count text last (b ∷ bs) = omega (arith, segments_count text b bs)

pub left_fits : (text : List ℕ) (start : Option ℕ) (p : ℕ) (breaks : List Break) → start ≡ Some p → FitsAfterStart text start breaks → length breaks ≤ length text + 1
left_fits text start p breaks e h =
    let h1 : FitsAfterStart text (Some p) breaks = subst (λ s. FitsAfterStart text s breaks) e h in
    omega (arith, fits_count text p p breaks (omega (arith, h1.0.0)) h1.1)

pub left_is : (text : List ℕ) (start : Option ℕ) (p : ℕ) (breaks : List Break) → start ≡ Some p → length (segments_from text start breaks) ≡ length breaks + 1
left_is text start p breaks e = subst (λ s. length (segments_from text s breaks) ≡ length breaks + 1) (sym e) (segments_count text (plain_break p) breaks)

pub held_is : (held : Option (List ℕ)) (first text : List ℕ) → held ≡ Some text → IfSome held (λ value. value ≡ first) → text ≡ first
held_is held first text e k = subst (λ o. IfSome o (λ value. value ≡ first)) e k

-- ---- breaks that may change the text

pub step_of : (text : List ℕ) (start : Option ℕ) (last : Option Break) (p : ℕ) (b : Break) (all rest : List Break) → start ≡ Some p → all ≡ b ∷ rest → FitsAfterLast text start last all → BreakFitsAfter text p ((last_break last).place) b × FitsFrom text (end_of b) (b.place) rest
step_of text start last p b all rest e d h =
    let h1 : FitsAfterLast text (Some p) last all = subst (λ s. FitsAfterLast text s last all) e h in
    let h2 : FitsAfterLast text (Some p) last (b ∷ rest) = subst (λ l. FitsAfterLast text (Some p) last l) d h1 in
    (h2.2.0, fits_earlier text (end_of b) (b.place + 1) (end_of b) (b.place) rest (omega arith) (omega arith) h2.2.1)

pub made_step : (text : List ℕ) (start : Option ℕ) (last : Option Break) (p q : ℕ) (b : Break) (all rest : List Break) → start ≡ Some p → all ≡ b ∷ rest → FitsAfterLast text start last all → q ≡ end_of b → FitsAfterLast text (Some q) (Some b) rest
made_step text start last p q b all rest e d h k =
    let s = step_of text start last p b all rest e d h in
    subst (λ x. FitsAfterLast text (Some x) (Some b) rest) (sym k) (refl, s.0.end, s.1)

pub made_fits : (text : List ℕ) (start : Option ℕ) (last : Option Break) (p : ℕ) (breaks : List Break) → start ≡ Some p → FitsAfterLast text start last breaks → length breaks ≤ length text + 1
made_fits text start last p breaks e h =
    let h1 : FitsAfterLast text (Some p) last breaks = subst (λ s. FitsAfterLast text s last breaks) e h in
    let place_in : (last_break last).place ≤ length text + 1 = omega (arith, h1.0, h1.1.0) in
    omega (arith, fits_count text p ((last_break last).place) breaks place_in h1.2)

pub made_count : (text : List ℕ) (last : Break) (breaks : List Break) → length (made_segments_after text last breaks) ≡ length breaks + 1
made_count text last [] = refl
made_count text last (b ∷ bs) = omega (arith, made_count text b bs)

pub made_left : (text : List ℕ) (start : Option ℕ) (last : Option Break) (p : ℕ) (breaks : List Break) → start ≡ Some p → length (made_segments_from text start last breaks) ≡ length breaks + 1
made_left text start last p breaks e = subst (λ s. length (made_segments_from text s last breaks) ≡ length breaks + 1) (sym e) (made_count text (last_break last) breaks)

pub pull_held : {Z E : Type 0} (first : List ℕ × Bool) (r : Result (CowStr Z) E) → IfOk r (λ c. (cow_str_bytes c ≡ first.0) × (IsBorrowedStr c ↔ (first.1 ≡ false))) → IfSome (text_if_made r) (λ value. value ≡ first.0)
pull_held first (Ok c) k = k.0
pull_held first (Err e) k = tt

pub texts_made : (text : List ℕ) (last : Break) (breaks : List Break) → map (λ made. made.0) (made_segments_after text last breaks) ≡ segments_after text last breaks
texts_made text last [] = refl
texts_made text last (b ∷ bs) = ap (λ rest. segment_between text last b ∷ rest) (texts_made text b bs)
