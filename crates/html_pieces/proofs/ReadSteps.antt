-- A value whose references are read: what is skipped, and a value without "&".
use Rattle.std.proofs.Common.{◌≡◌, ℕ, ◌-◌, ◌<◌, zero, suc, arith, if◌then◌else◌, Bool, true, false, List, [], ◌∷◌, ◌++◌, refl, ap, sym, Option, Some, None, nat_eq, ◌||◌}
use Rattle.std.specs.Char.{encode_utf8}
use Rattle.std.specs.Option.{option_map_or}
use Rattle.html_pieces.specs.References.{Reference, read_from, read_value, has_ampersand, reference_at}
use Rattle.html_pieces.specs.Elements.{held_language}
use Rattle.html_pieces.specs.Private.Read.{reference_after}

or_false_left : (a b : Bool) → a || b ≡ false → a ≡ false
or_false_left true b e = e
or_false_left false b e = refl

or_false_right : (a b : Bool) → a || b ≡ false → b ≡ false
or_false_right true b e = cc
or_false_right false b e = e

-- without "&" a value is read as it is
pub read_plain : (value : List ℕ) → has_ampersand value ≡ false → read_value value ≡ value
read_plain [] e = refl
read_plain (b ∷ bs) e =
    let first : nat_eq b 38 ≡ false = or_false_left (nat_eq b 38) (has_ampersand bs) e in
    let rest = read_plain bs (or_false_right (nat_eq b 38) (has_ampersand bs) e) in
    rw first (ap (λ xs. b ∷ xs) rest)

-- a byte of a reference that has been read is passed by
pub passed_by : (skip b : ℕ) (bs : List ℕ) → 0 < skip → read_from skip (b ∷ bs) ≡ read_from (skip - 1) bs
passed_by zero b bs h = absurd (omega (arith, h))
passed_by (suc skip) b bs h =
    let less : skip ≡ suc skip - 1 = omega arith in
    ap (λ n. read_from n bs) less

some_case : (c : Bool) (o : Option Reference) (r : Reference) (f : Reference → List ℕ) (other : List ℕ) → (if c then o else None) ≡ Some r
    → (if c then option_map_or f o other else other) ≡ f r
some_case true o r f other e = ap (λ x. option_map_or f x other) e
some_case false o r f other e = cc

none_case : (c : Bool) (o : Option Reference) (f : Reference → List ℕ) (other : List ℕ) → (if c then o else None) ≡ None
    → (if c then option_map_or f o other else other) ≡ other
none_case true o f other e = ap (λ x. option_map_or f x other) e
none_case false o f other e = refl

-- a byte that begins a reference, and one that begins none
pub reads_reference : (b : ℕ) (bs : List ℕ) (r : Reference) → reference_after b bs ≡ Some r → read_from 0 (b ∷ bs) ≡ encode_utf8 r.character ++ read_from r.size bs
reads_reference b bs r e = some_case (nat_eq b 38) (reference_at bs) r (λ r'. encode_utf8 r'.character ++ read_from r'.size bs) (b ∷ read_from 0 bs) e

pub reads_byte : (b : ℕ) (bs : List ℕ) → reference_after b bs ≡ None → read_from 0 (b ∷ bs) ≡ b ∷ read_from 0 bs
reads_byte b bs e = none_case (nat_eq b 38) (reference_at bs) (λ r'. encode_utf8 r'.character ++ read_from r'.size bs) (b ∷ read_from 0 bs) e

-- a language that is read only where it has an "&"
pub read_later : (has : Bool) (value : List ℕ) → has ≡ has_ampersand value → held_language has value ≡ read_value value
read_later true value e = refl
read_later false value e = sym (read_plain value (sym e))
