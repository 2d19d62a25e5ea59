use Rattle.std.proofs.Common.{◌≡◌, ◌∙◌, ℕ, List, Option, None, ap, arith, map, length, sym, [], ◌∷◌, ◌++◌}
use Rattle.std.specs.Prelude.{filter, option_map, slice_index_or}
use Rattle.std.specs.List.{range_with_len}
use Rattle.std.proofs.lemmas.List.{map-append, get_or-map}
use Rattle.libhyphen_rule.specs.OneLevel.{ChangeAt}
use Rattle.libhyphen_rule.specs.Found.{placed, placed_all}
use Rattle.libhyphen_rule.specs.Words.{change_in_characters, is_last, last_bytes}
use Rattle.libhyphen_rule.proofs.WordSteps.{kept_more, left_more}
use Rattle.libhyphen_rule.proofs.words.changes_of_characters.Goals as goal
use Rattle.libhyphen_rule.proofs.words.changes_of_characters.Goals.{then-is_last+in_ok-push, else-is_last}

pub loop-byte-preserved : goal.loop-byte-preserved
loop-byte-preserved c =
    let n = c.loop-byte.byte in
    let last = is_last c.args.word.now in
    let counted = λ (byte : ℕ). option_map (change_in_characters c.args.text.now byte) in
    let change = λ (byte : ℕ). counted byte (slice_index_or (placed_all c.args.changes.now) byte None) in
    elim c.if-is_last.branch [
      | then-is_last+in_ok-push w ↦
          let one : option_map placed w.character_change.result ≡ change n
          = w.character_change.ensures
          ∙ ap (counted n) (sym (get_or-map (option_map placed) c.args.changes.now n _ None (omega arith))) in
          ap (λ v. placed_all v.items) w.found-is ∙ ap placed_all w.in_ok-push.ensures.items
          ∙ map-append (option_map placed) c.loop-byte.found.items (w.character_change.result ∷ [])
          ∙ ap (λ (xs : List (Option ChangeAt)). xs ++ option_map placed w.character_change.result ∷ [])
          c.loop-byte.invariant
          ∙ ap (λ (x : Option ChangeAt). map change (filter last (range_with_len 0 n)) ++ x ∷ []) one
          ∙ sym (kept_more change last n (sym c.is_last.ensures ∙ w.if-is_last.true))
      | else-is_last w ↦
          ap (λ v. placed_all v.items) w.found-is ∙ c.loop-byte.invariant
          ∙ sym (left_more change last n (sym c.is_last.ensures ∙ w.if-is_last.false))
    ]

pub returns : goal.returns
unfolding last_bytes
returns c =
    let counted = λ (byte : ℕ). option_map (change_in_characters c.args.text.now byte) in
    let change = λ (byte : ℕ). counted byte (slice_index_or (placed_all c.args.changes.now) byte None) in
    let e : c.loop-byte.byte ≡ length c.args.word.now = omega arith in
    c.loop-byte.invariant
    ∙ ap (λ (n : ℕ). map change (filter (is_last c.args.word.now) (range_with_len 0 n))) e
