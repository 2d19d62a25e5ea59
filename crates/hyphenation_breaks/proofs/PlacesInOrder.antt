-- Tests of all listed breaks and of all entries, as a loop makes them: one after the other.
use Rattle.std.proofs.Common.{◌≡◌, ℕ, ◌+◌, Bool, true, false, ◌&&◌, nat_le, List, [], ◌∷◌, map, Option, refl, ap, ◌∙◌}
use Rattle.std.specs.List.{list_all}
use Rattle.hyphenation_breaks.specs.Break.{Break, Change, ascend_on, is_boundary}
use Rattle.hyphenation_breaks.specs.Invariant.{is_value, stays_within, lists_within}
use Rattle.hyphenation_breaks.specs.Laws.{listed_from, is_entry, entries_from}
use Rattle.hyphenation_breaks.specs.declared.entry.Entry.{Entry}

-- two tests of each, in one pass
apart : (a b c d : Bool) → ((a && b) && (c && d)) ≡ (a && c && (b && d))
apart true b true d = refl
apart true true false d = refl
apart true false false d = refl
apart false b c d = refl

pub listed_in_order : {B : Type 0} (break_of : B → Break) (word : List ℕ) (least : ℕ) (listed : List B)
    → (ascend_on word least (map (λ b. (break_of b).place) listed) && list_all (λ b. lists_within word (break_of b).place (break_of b).change) listed) ≡ listed_from break_of word least listed
listed_in_order break_of word least [] = refl
listed_in_order break_of word least (b ∷ bs) =
    let p = (break_of b).place in
    let within = lists_within word p (break_of b).change in
    apart (nat_le least p && is_boundary word p) (ascend_on word (p + 1) (map (λ b. (break_of b).place) bs)) within (list_all (λ b. lists_within word (break_of b).place (break_of b).change) bs)
    ∙ ap (λ (rest : Bool). nat_le least p && is_boundary word p && within && rest) (listed_in_order break_of word (p + 1) bs)

-- the four tests of an entry
grouped : (a b c d : Bool) → (a && (b && c) && d) ≡ (a && b && c && d)
grouped true b c d = refl
grouped false b c d = refl

pub entries_in_order : {C : Type 0} (change_of : C → Option Change) (key : List ℕ) (least : ℕ) (es : List (Entry C))
    → (ascend_on key least (map (λ e. e.place) es) && list_all (is_entry change_of key) es) ≡ entries_from change_of key least es
entries_in_order change_of key least [] = refl
entries_in_order change_of key least (e ∷ es) =
    let stands = nat_le least e.place && is_boundary key e.place in
    let stays = stays_within key e.place (change_of e.change) in
    apart stands (ascend_on key (e.place + 1) (map (λ e. e.place) es)) (is_entry change_of key e) (list_all (is_entry change_of key) es)
    ∙ ap (λ (rest : Bool). stands && is_entry change_of key e && rest) (entries_in_order change_of key (e.place + 1) es)
    ∙ grouped stands (is_value e.value) stays (entries_from change_of key (e.place + 1) es)
