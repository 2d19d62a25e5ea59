use Rattle.std.proofs.Common.{◌≡◌, ◌∙◌, ℕ, ◌+◌, Bool, List, ap, drop, fold, map, subst, sym, IsSome}
use Rattle.std.specs.List.{flat_map}
use Rattle.hyphenation_breaks.specs.Dictionary.{Patterns}
use Rattle.hyphenation_trie.specs.Trie.{entries_of_key}
use Rattle.libreoffice_files.specs.Longest.{hides_value}
use Rattle.libreoffice_files.specs.Notes as notes
use Rattle.libreoffice_files.specs.Notes.{hiding_remarks, keys_of, no_keys, remark_if}
use Rattle.libreoffice_files.specs.Private.Views.{as_on_line}
use Rattle.pattern_results.specs.Notes.{Remark, with_remark}
use Rattle.pattern_results.specs.declared.notes.NoteKind.TheVariants.{HidesValue}
use Rattle.libreoffice_files.proofs.Noting.{key_stays, noted_next, one_and_after}
use Rattle.libreoffice_files.proofs.dic_notes.note_hiding.Goals as goal

pub loop-one-preserved : goal.loop-one-preserved
loop-one-preserved c =
    let patterns = c.args.patterns.now in
    let i = c.loop-one.one-index in
    let one = c.one-item.result in
    let keys = keys_of (map as_on_line patterns) in
    let remarks : List notes.LinePattern → List Remark = flat_map (hiding_remarks keys) in
    let key_is = c.deref.ensures.value in
    let some : IsSome (entries_of_key c.args.automaton.now c.deref.result.now) =
    subst (λ (key : List ℕ). IsSome (entries_of_key c.args.automaton.now key)) (sym key_is)
    (subst (λ (known : Patterns (Unit {0})). IsSome (known one.key.items)) (sym c.requires) (key_stays no_keys patterns i one c.loop-one-test.true c.one-item.is)) in
    let hides_is : c.hides_value-hides.result ≡ hides_value keys one.key.items =
    c.hides_value-hides.ensures some ∙ (λ j. hides_value (c.requires j) (key_is j)) in
    noted_next c.loop-one.notes.items c.note_if.new.notes.items (fold with_remark c.args.notes.now.items (remarks (map as_on_line patterns)))
    (hiding_remarks keys (as_on_line one)) (remarks (map as_on_line (drop (i + 1) patterns))) (remarks (map as_on_line (drop i patterns)))
    (c.in_ok-note_if.ensures ∙ ap (λ (hides : Bool). fold with_remark c.loop-one.notes.items (remark_if hides HidesValue one.line)) hides_is)
    c.loop-one.invariant
    (ap remarks (one_and_after patterns i one c.loop-one-test.true c.one-item.is))
