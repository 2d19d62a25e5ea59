-- The finds in a word, by its parts.
use Rattle.std.proofs.Common.{◌≡◌, ℕ, ◌-◌, ◌≤◌, ◌||◌, ◌==◌, Bool, true, false, cond, List, [], ◌++◌, length, take, drop, set, replicate, get_or, Option, None, Some, refl, sym, ap, ◌∙◌, arith, nat_lt, position, slice_range}
use Rattle.std.specs.List.{position_or_len}
use Rattle.std.proofs.lemmas.Bool.Decides.{nat_tests}
use Rattle.std.proofs.lemmas.Grind.{common_steps}
use Rattle.libhyphen_files.specs.Levels.{Level}
use Rattle.libhyphen_files.specs.Files.{Rules}
use Rattle.libhyphen_rule.specs.Minima.{changes_but, digits_but, is_equals, left_goes, right_goes}
use Rattle.libhyphen_rule.specs.OneLevel.{ChangeAt, level_changes, level_digits}
use Rattle.libhyphen_rule.specs.Parts.{Asked, Found, PartMinima, Texts, next_level_found, changed_part, changes_with, digits_with, found_by_next_level, part_text, seen_after, some_change, first_level_found, with_behind, with_part, without_left_of_part, without_right_of_part}
use Rattle.libhyphen_rule.proofs.PlacesOfParts.{with_all}

abbrev pub finds : List ℕ → List (Option ChangeAt) → Bool → ℕ → Found
finds digits changes made parts = record { digits = digits; changes = changes; made = made; parts = parts }

finds_same : (d d' : List ℕ) (e e' : List (Option ChangeAt)) (m m' : Bool) (p : ℕ) → d ≡ d' → e ≡ e' → m ≡ m' → finds d e m p ≡ finds d' e' m' p
finds_same d d' e e' m m' p hd he hm = ap (λ x. finds x e m p) hd ∙ ap (λ x. finds d' x m p) he ∙ ap (λ x. finds d' e' x p) hm

pub first_level_of : (rules : Rules) (parts : ℕ) (text : List ℕ) (level : Level) (digits : List ℕ) (changes : List (Option ChangeAt)) (made : Bool) →
    level ≡ rules.first_level → digits ≡ level_digits level text → changes ≡ level_changes level text → made ≡ some_change changes →
    finds digits changes made parts ≡ first_level_found rules parts text
unfolding first_level_found
first_level_of rules parts text level digits changes made l d e m =
    let e' : changes ≡ level_changes rules.first_level text = e ∙ ap (λ x. level_changes x text) l in
    finds_same _ _ _ _ _ _ parts (d ∙ ap (λ x. level_digits x text) l) e' (m ∙ ap some_change e')

pub next_level_of : (rules : Rules) (parts : ℕ) (text : List ℕ) (tops : List (Option ChangeAt)) (level : Level) (digits : List ℕ) (next_level changes : List (Option ChangeAt)) (made : Bool) →
    level ≡ rules.next_level → digits ≡ level_digits level text → next_level ≡ level_changes level text → changes ≡ changes_with tops 0 (length text) next_level →
    made ≡ (some_change tops || some_change next_level) → finds digits changes made parts ≡ next_level_found rules parts text tops
unfolding next_level_found
next_level_of rules parts text tops level digits next_level changes made l d b e m =
    let b' : next_level ≡ level_changes rules.next_level text = b ∙ ap (λ x. level_changes x text) l in
    finds_same _ _ _ _ _ _ parts (d ∙ ap (λ x. level_digits x text) l) (e ∙ ap (changes_with tops 0 (length text)) b')
    (m ∙ ap (λ x. some_change tops || some_change x) b')

pub made_true : (tops next_level : List (Option ChangeAt)) → some_change tops ≡ true → true ≡ (some_change tops || some_change next_level)
made_true tops next_level h = sym (ap (λ t. t || some_change next_level) h)

pub next_level_alone : (rules : Rules) (parts : ℕ) (text : List ℕ) (tops : List (Option ChangeAt)) (level : Level) (digits : List ℕ) (next_level : List (Option ChangeAt)) (made : Bool) →
    level ≡ rules.next_level → digits ≡ level_digits level text → next_level ≡ level_changes level text → length tops ≡ length text → length next_level ≡ length text →
    some_change tops ≡ false → made ≡ some_change next_level → finds digits next_level made parts ≡ next_level_found rules parts text tops
next_level_alone rules parts text tops level digits next_level made l d b tops_long long none m =
    next_level_of rules parts text tops level digits next_level next_level made l d b (with_all tops next_level (length text) tops_long long none)
    (m ∙ sym (ap (λ t. t || some_change next_level) none))

pub put_of : (whole part : Found) (begin count : ℕ) (digits : List ℕ) (changes : List (Option ChangeAt)) (made : Bool) →
    digits ≡ digits_with whole.digits begin count part.digits → changes ≡ changes_with whole.changes begin count part.changes →
    made ≡ some_change (take count part.changes) → finds digits changes (whole.made || made) part.parts ≡ with_part whole begin count (Some part)
unfolding with_part
put_of whole part begin count digits changes made d e m = finds_same _ _ _ _ _ _ part.parts d e (ap (λ t. whole.made || t) m)

pub left_of : (utf8 : Bool) (minima : PartMinima) (asked : Asked) (found : Found) (text digits : List ℕ) (changes : List (Option ChangeAt)) →
    asked.at_left ≡ false → text ≡ with_behind asked → digits ≡ digits_but (left_goes utf8 minima.left text found.changes) found.digits →
    changes ≡ changes_but (left_goes utf8 minima.left text found.changes) found.changes →
    finds digits changes found.made found.parts ≡ without_left_of_part utf8 minima asked found
unfolding without_left_of_part
left_of utf8 minima asked found text digits changes left t d e =
    finds_same _ _ _ _ _ _ found.parts (d ∙ ap (λ x. digits_but (left_goes utf8 minima.left x found.changes) found.digits) t)
    (e ∙ ap (λ x. changes_but (left_goes utf8 minima.left x found.changes) found.changes) t) refl
    ∙ sym (ap (λ b. cond b found (finds (digits_but (left_goes utf8 minima.left (with_behind asked) found.changes) found.digits)
    (changes_but (left_goes utf8 minima.left (with_behind asked) found.changes) found.changes) found.made found.parts)) left)

pub left_kept : (utf8 : Bool) (minima : PartMinima) (asked : Asked) (found : Found) → asked.at_left ≡ true →
    found ≡ without_left_of_part utf8 minima asked found
unfolding without_left_of_part
left_kept utf8 minima asked found left =
    sym (ap (λ b. cond b found (finds (digits_but (left_goes utf8 minima.left (with_behind asked) found.changes) found.digits)
    (changes_but (left_goes utf8 minima.left (with_behind asked) found.changes) found.changes) found.made found.parts)) left)

pub right_of : (utf8 : Bool) (minima : PartMinima) (asked : Asked) (found : Found) (text digits : List ℕ) (changes : List (Option ChangeAt)) →
    asked.at_right ≡ false → text ≡ with_behind asked → digits ≡ digits_but (right_goes utf8 minima.right asked.text text found.changes) found.digits →
    changes ≡ changes_but (right_goes utf8 minima.right asked.text text found.changes) found.changes →
    finds digits changes found.made found.parts ≡ without_right_of_part utf8 minima asked found
unfolding without_right_of_part
right_of utf8 minima asked found text digits changes right t d e =
    finds_same _ _ _ _ _ _ found.parts (d ∙ ap (λ x. digits_but (right_goes utf8 minima.right asked.text x found.changes) found.digits) t)
    (e ∙ ap (λ x. changes_but (right_goes utf8 minima.right asked.text x found.changes) found.changes) t) refl
    ∙ sym (ap (λ b. cond b found (finds (digits_but (right_goes utf8 minima.right asked.text (with_behind asked) found.changes) found.digits)
    (changes_but (right_goes utf8 minima.right asked.text (with_behind asked) found.changes) found.changes) found.made found.parts)) right)

pub right_kept : (utf8 : Bool) (minima : PartMinima) (asked : Asked) (found : Found) → asked.at_right ≡ true →
    found ≡ without_right_of_part utf8 minima asked found
unfolding without_right_of_part
right_kept utf8 minima asked found right =
    sym (ap (λ b. cond b found (finds (digits_but (right_goes utf8 minima.right asked.text (with_behind asked) found.changes) found.digits)
    (changes_but (right_goes utf8 minima.right asked.text (with_behind asked) found.changes) found.changes) found.made found.parts)) right)

pub next_level_whole : (rules : Rules) (minima : PartMinima) (parts : ℕ) (asked : Asked) (tops : List (Option ChangeAt)) (first second third : Found) →
    first ≡ next_level_found rules parts asked.text tops → second ≡ without_left_of_part rules.utf8 minima asked first →
    third ≡ without_right_of_part rules.utf8 minima asked second → third ≡ found_by_next_level rules minima parts asked tops
unfolding found_by_next_level
next_level_whole rules minima parts asked tops first second third f s t =
    t ∙ ap (without_right_of_part rules.utf8 minima asked) (s ∙ ap (without_left_of_part rules.utf8 minima asked) f)

-- ---- Texts.

cond_some : (b : Bool) (n i : ℕ) → cond b (Some n) None ≡ Some i → n ≡ i
cond_some true n i h = cc
cond_some false n i h = cc

cond_none : (b : Bool) (n : ℕ) → cond b (Some n) None ≡ None → b ≡ false
cond_none true n h = cc
cond_none false n h = refl

take_all : {X : Type 0} (xs : List X) (n : ℕ) → length xs ≤ n → take n xs ≡ xs
take_all xs n h = grind (arith, common_steps)

pub behind_some : (asked : Asked) (all : List ℕ) (end : ℕ) → all ≡ asked.text ++ asked.behind → position (λ b. b == 0) all ≡ Some end →
    take end all ≡ with_behind asked
unfolding with_behind
behind_some asked all end is at =
    ap (λ n. take n all) (sym (cond_some (nat_lt (position_or_len (λ b. b == 0) all) (length all)) (position_or_len (λ b. b == 0) all) end at))
    ∙ ap (λ xs. take (position_or_len (λ b. b == 0) xs) xs) is

pub behind_none : (asked : Asked) (all : List ℕ) → all ≡ asked.text ++ asked.behind → position (λ b. b == 0) all ≡ None → all ≡ with_behind asked
unfolding with_behind
behind_none asked all is at =
    let past : nat_lt (position_or_len (λ b. b == 0) all) (length all) ≡ false = cond_none _ _ at in
    let far : length all ≤ position_or_len (λ b. b == 0) all = grind (arith, nat_tests, past) in
    sym (take_all all (position_or_len (λ b. b == 0) all) far) ∙ ap (λ xs. take (position_or_len (λ b. b == 0) xs) xs) is

abbrev pub texts_with : List ℕ → List ℕ → Texts
texts_with text behind = record { text = text; behind = behind }

texts_same : (t t' b b' : List ℕ) → t ≡ t' → b ≡ b' → texts_with t b ≡ texts_with t' b'
texts_same t t' b b' ht hb = ap (λ x. texts_with x b) ht ∙ ap (λ x. texts_with t' x) hb

pub texts_none : (seen : List ℕ) (begin end : ℕ) (text behind : List ℕ) → text ≡ slice_range seen begin end → behind ≡ [] →
    texts_with text behind ≡ part_text seen begin end None
unfolding part_text
texts_none seen begin end text behind t b = texts_same _ _ _ _ t b

pub texts_equals : (seen : List ℕ) (begin end : ℕ) (change : ChangeAt) (equals : ℕ) (text behind : List ℕ) → position is_equals change.text ≡ Some equals →
    text ≡ drop begin (take (end - change.pos) seen ++ take equals change.text) → behind ≡ [] →
    texts_with text behind ≡ part_text seen begin end (Some change)
unfolding part_text
texts_equals seen begin end change equals text behind at t b =
    texts_same _ _ _ _ t b ∙ ap (changed_part seen begin end change) (sym at)

pub texts_zeros : (seen : List ℕ) (begin end : ℕ) (change : ChangeAt) (whole text behind : List ℕ) → position is_equals change.text ≡ None →
    whole ≡ take (end - change.pos) seen ++ change.text ++ replicate end 0 → text ≡ slice_range whole begin end → behind ≡ drop end whole →
    texts_with text behind ≡ part_text seen begin end (Some change)
unfolding part_text
texts_zeros seen begin end change whole text behind at w t b =
    texts_same _ _ _ _ (t ∙ ap (λ x. slice_range x begin end) w) (b ∙ ap (drop end) w) ∙ ap (changed_part seen begin end change) (sym at)

pub seen_changed : (asked : Asked) (seen : List ℕ) (end : ℕ) (change : ChangeAt) (all zeros whole : List ℕ) → all ≡ with_behind asked →
    zeros ≡ replicate (length asked.text) 0 → whole ≡ all ++ zeros → take (length asked.text) whole ≡ seen_after asked seen end (Some change)
unfolding seen_after
seen_changed asked seen end change all zeros whole a z w =
    ap (take (length asked.text)) (w ∙ ap (λ x. x ++ zeros) a ∙ ap (λ x. with_behind asked ++ x) z)

pub seen_set : (asked : Asked) (seen : List ℕ) (end v : ℕ) → v ≡ get_or asked.text end 0 → set seen end v ≡ seen_after asked seen end None
unfolding seen_after
seen_set asked seen end v is = ap (set seen end) is

pub set_past : (xs : List ℕ) (i v : ℕ) → length xs ≤ i → set xs i v ≡ xs
set_past xs i v h = grind (arith, common_steps)

pub seen_kept : (asked : Asked) (seen : List ℕ) (end : ℕ) → length seen ≤ end → seen ≡ seen_after asked seen end None
unfolding seen_after
seen_kept asked seen end h = sym (set_past seen end (get_or asked.text end 0) h)
