-- Texts that are parted.
use Rattle.std.proofs.Common.{◌≡◌, ℕ, ◌+◌, ◌-◌, ◌<◌, zero, suc, Bool, true, false, List, [], ◌∷◌, ◌++◌, map, length, Option, None, Some, get_or, cond, refl, sym, ap, ◌∙◌, nat_lt, Result, Ok, Err, IfOk}
use Rattle.std.specs.List.{range_with_len, list_any, filter, fold}
use Rattle.std.proofs.lemmas.List.{length-map, get_or-map}
use Rattle.std.proofs.lemmas.List.Elements.{filter-append}
use Rattle.libhyphen_files.specs.Files.{Rules}
use Rattle.libhyphen_rule.specs.Counting.{shown}
use Rattle.libhyphen_rule.specs.OneLevel.{ChangeAt, is_odd}
use Rattle.libhyphen_rule.specs.Found.{placed, placed_all}
use Rattle.libhyphen_rule.specs.declared.one_level.PlacedChange.{PlacedChange}
use Rattle.std.specs.Option.{option_map}
use Rattle.std.proofs.lemmas.List.Sums.{fold-append}
use Rattle.libhyphen_rule.proofs.WordSteps.{range_more}
use Rattle.libhyphen_rule.specs.Parts.{Asked, Asking, Found, PartMinima, Parting, Texts, ask_by, ask_none, asked_of, ends_part, found_by_next_level, found_by_first_level, found_in, part_asked, part_text, parted_up_to, seen_after, some_change, first_level_found, with_part, with_part_to}

-- How parts are asked at a depth.
abbrev pub ask_at : Rules → PartMinima → ℕ → Asking
ask_at rules minima zero = ask_none
ask_at rules minima (suc depth) = ask_by (found_in rules minima depth)

pub found_in_is : (rules : Rules) (minima : PartMinima) (depth parts : ℕ) (asked : Asked) →
    found_in rules minima depth parts asked ≡ found_by_first_level rules minima (ask_at rules minima depth) parts asked (first_level_found rules parts asked.text)
unfolding found_in
found_in_is rules minima zero parts asked = refl
found_in_is rules minima (suc depth) parts asked = refl

-- A part is asked, while there are some to be asked.
pub asked_some : (rules : Rules) (minima : PartMinima) (depth parts less fewer : ℕ) (asked : Asked) → depth ≡ suc less → parts ≡ suc fewer →
    ask_at rules minima depth parts asked ≡ Some (found_in rules minima less fewer asked)
asked_some rules minima depth parts less fewer asked h k =
    ap (λ d. ask_at rules minima d parts asked) h ∙ ap (λ n. ask_by (found_in rules minima less) n asked) k

pub asked_none_deep : (rules : Rules) (minima : PartMinima) (depth parts : ℕ) (asked : Asked) → depth ≡ 0 → ask_at rules minima depth parts asked ≡ None
asked_none_deep rules minima depth parts asked h = ap (λ d. ask_at rules minima d parts asked) h

pub asked_none_left : (rules : Rules) (minima : PartMinima) (depth parts : ℕ) (asked : Asked) → parts ≡ 0 → ask_at rules minima depth parts asked ≡ None
asked_none_left rules minima zero parts asked h = refl
asked_none_left rules minima (suc depth) parts asked h = ap (λ d. ask_by (found_in rules minima depth) d asked) h

filter_range_more : (p : ℕ → Bool) (n : ℕ) (b : Bool) → p n ≡ b → filter p (range_with_len 0 (n + 1)) ≡ filter p (range_with_len 0 n) ++ cond b (n ∷ []) []
filter_range_more p n b is =
    ap (filter p) (range_more n) ∙ filter-append p (range_with_len 0 n) (n ∷ [])
    ∙ ap (λ t. filter p (range_with_len 0 n) ++ cond t (n ∷ []) []) is

pub append_none : {A : Type 0} (xs : List A) → xs ++ [] ≡ xs
append_none [] = refl
append_none (x ∷ xs) = ap (λ ys. x ∷ ys) (append_none xs)

pub parted_none : (ask : Asking) (whole : Asked) (found : Found) (seen : List ℕ) → seen ≡ map shown whole.text →
    parted_up_to ask whole found 0 ≡ record { found = found; begin = 0; seen = seen }
unfolding parted_up_to
parted_none ask whole found seen is = ap (λ s. record { found = found; begin = 0; seen = s }) (sym is)

-- No part ends behind a byte.
pub parted_past : (ask : Asking) (whole : Asked) (found : Found) (byte : ℕ) (p : Parting) → ends_part found.digits byte ≡ false →
    parted_up_to ask whole found byte ≡ p → parted_up_to ask whole found (byte + 1) ≡ p
unfolding parted_up_to
parted_past ask whole found byte p ends before =
    ap (fold (with_part_to ask whole) (record { found = found; begin = 0; seen = map shown whole.text }))
    (filter_range_more (ends_part found.digits) byte false ends ∙ append_none (filter (ends_part found.digits) (range_with_len 0 byte)))
    ∙ before

pub parted_at : (ask : Asking) (whole : Asked) (found : Found) (byte : ℕ) (p : Parting) → ends_part found.digits byte ≡ true →
    parted_up_to ask whole found byte ≡ p → parted_up_to ask whole found (byte + 1) ≡ with_part_to ask whole p byte
unfolding parted_up_to
parted_at ask whole found byte p ends before =
    let start : Parting = record { found = found; begin = 0; seen = map shown whole.text } in
    ap (fold (with_part_to ask whole) start) (filter_range_more (ends_part found.digits) byte true ends)
    ∙ fold-append (with_part_to ask whole) start (filter (ends_part found.digits) (range_with_len 0 byte)) (byte ∷ [])
    ∙ ap (λ q. with_part_to ask whole q byte) before

-- A part of less than 3 bytes ends behind a byte.
pub parted_short : (ask : Asking) (whole : Asked) (found : Found) (byte : ℕ) (p : Parting) → ends_part found.digits byte ≡ true →
    nat_lt (p.begin + 1) byte ≡ false → parted_up_to ask whole found byte ≡ p →
    parted_up_to ask whole found (byte + 1) ≡ record p { begin = byte + 1 }
unfolding with_part_to
parted_short ask whole found byte p ends short before =
    parted_at ask whole found byte p ends before
    ∙ ap (λ b. cond b (part_asked ask whole p byte (get_or p.found.changes byte None)) (record p { begin = byte + 1 })) short

pub with_part_asked : (ask : Asking) (whole : Asked) (byte : ℕ) (p : Parting) → nat_lt (p.begin + 1) byte ≡ true →
    with_part_to ask whole p byte ≡ part_asked ask whole p byte (get_or p.found.changes byte None)
unfolding with_part_to
with_part_asked ask whole byte p long =
    ap (λ b. cond b (part_asked ask whole p byte (get_or p.found.changes byte None)) (record p { begin = byte + 1 })) long

-- A part of 3 bytes or more ends behind a byte.
pub parted_asked : (ask : Asking) (whole : Asked) (found : Found) (byte : ℕ) (p : Parting) (change : Option ChangeAt) (texts : Texts) (after : Found) (seen : List ℕ) →
    ends_part found.digits byte ≡ true → nat_lt (p.begin + 1) byte ≡ true → parted_up_to ask whole found byte ≡ p →
    change ≡ get_or p.found.changes byte None → texts ≡ part_text p.seen p.begin (byte + 1) change →
    after ≡ with_part p.found p.begin (byte - p.begin - 1) (ask p.found.parts (asked_of whole p.begin (byte + 1) texts)) →
    seen ≡ seen_after whole p.seen (byte + 1) change →
    parted_up_to ask whole found (byte + 1) ≡ record { found = after; begin = byte + 1; seen = seen }
parted_asked ask whole found byte p change texts after seen ends long before change_is texts_is after_is seen_is =
    parted_at ask whole found byte p ends before ∙ with_part_asked ask whole byte p long
    ∙ ap (λ c. part_asked ask whole p byte c) (sym change_is)
    ∙ ap (λ t. let q : Parting = record {
      found = with_part p.found p.begin (byte - p.begin - 1) (ask p.found.parts (asked_of whole p.begin (byte + 1) t));
      begin = byte + 1;
      seen = seen_after whole p.seen (byte + 1) change;
    } in q) (sym texts_is)
    ∙ ap (λ f. let q : Parting = record { found = f; begin = byte + 1; seen = seen_after whole p.seen (byte + 1) change } in q) (sym after_is)
    ∙ ap (λ s. let q : Parting = record { found = after; begin = byte + 1; seen = s } in q) (sym seen_is)

-- The whole, with breaks of the first level or without.
pub found_parted : (rules : Rules) (minima : PartMinima) (depth parts : ℕ) (asked : Asked) (first_level found : Found) (begin : ℕ) (seen : List ℕ) →
    first_level ≡ first_level_found rules parts asked.text → list_any is_odd first_level.digits ≡ true →
    parted_up_to (ask_at rules minima depth) asked first_level (length asked.text) ≡ record { found = found; begin = begin; seen = seen } →
    found ≡ found_in rules minima depth parts asked
found_parted rules minima depth parts asked first_level found begin seen first_level_is odd parted =
    sym (found_in_is rules minima depth parts asked
    ∙ ap (found_by_first_level rules minima (ask_at rules minima depth) parts asked) (sym first_level_is)
    ∙ ap (λ b. cond b (parted_up_to (ask_at rules minima depth) asked first_level (length asked.text)).found (found_by_next_level rules minima parts asked first_level.changes)) odd
    ∙ ap (λ q. q.found) parted)

pub found_whole : (rules : Rules) (minima : PartMinima) (depth parts : ℕ) (asked : Asked) (first_level : Found) →
    first_level ≡ first_level_found rules parts asked.text → list_any is_odd first_level.digits ≡ false →
    found_by_next_level rules minima parts asked first_level.changes ≡ found_in rules minima depth parts asked
found_whole rules minima depth parts asked first_level first_level_is even =
    sym (found_in_is rules minima depth parts asked
    ∙ ap (found_by_first_level rules minima (ask_at rules minima depth) parts asked) (sym first_level_is)
    ∙ ap (λ b. cond b (parted_up_to (ask_at rules minima depth) asked first_level (length asked.text)).found (found_by_next_level rules minima parts asked first_level.changes)) even)

pub first_level_made : (rules : Rules) (parts : ℕ) (text : List ℕ) (found : Found) → found ≡ first_level_found rules parts text → found.made ≡ some_change found.changes
unfolding first_level_found
first_level_made rules parts text found is = ap (λ f. f.made) is ∙ ap (λ f. some_change f.changes) (sym is)

pub first_level_parts : (rules : Rules) (parts : ℕ) (text : List ℕ) (found : Found) → found ≡ first_level_found rules parts text → found.parts ≡ parts
unfolding first_level_found
first_level_parts rules parts text found is = ap (λ f. f.parts) is

-- A result that is known in other words.
pub ok_same : {A E B : Type 0} (r : Result A E) (view : A → B) (x y : B) → x ≡ y → IfOk r (λ v. view v ≡ x) → IfOk r (λ v. view v ≡ y)
ok_same (Ok v) view x y is h = h ∙ is
ok_same (Err e) view x y is h = h

-- A test of the same digits.
pub ends_as : (digits copy : List ℕ) (byte : ℕ) (r : Bool) → copy ≡ digits → r ≡ ends_part copy byte → ends_part digits byte ≡ r
ends_as digits copy byte r same is = ap (λ d. ends_part d byte) (sym same) ∙ sym is

pub length_shown : (seen text : List ℕ) → seen ≡ map shown text → length seen ≡ length text
length_shown seen text is = ap length is ∙ length-map text shown

-- Nothing is put, if a part is not asked.
pub with_none : (whole : Found) (begin count : ℕ) (o : Option Found) → o ≡ None → whole ≡ with_part whole begin count o
unfolding with_part
with_none whole begin count o is = sym (ap (with_part whole begin count) is)

-- The finds of a part are put.
pub with_some : (whole after part : Found) (begin count : ℕ) (o : Option Found) → o ≡ Some part → after ≡ with_part whole begin count (Some part) →
    after ≡ with_part whole begin count o
with_some whole after part begin count o is put = put ∙ ap (with_part whole begin count) (sym is)

-- The change of a byte, as contracts see it.
pub placed_at : (changes : List (Option PlacedChange)) (byte : ℕ) (change : Option PlacedChange) → byte < length changes →
    change ≡ get_or changes byte change → option_map placed change ≡ get_or (placed_all changes) byte None
placed_at changes byte change h is = ap (option_map placed) is ∙ sym (get_or-map (option_map placed) changes byte change None h)
