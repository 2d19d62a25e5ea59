use Rattle.std.proofs.Common.{◌≡◌, ◌+◌, ◌-◌, ◌++◌, ◌∷◌, [], drop, length, length-drop, get_or, ap, sym, ◌∙◌, arith, append_assoc}
use Rattle.std.proofs.lemmas.List.{take_all}
use Rattle.std.specs.Char.{encode_utf8}
use Rattle.std.specs.Option.{option_map}
use Rattle.html_pieces.specs.References.{read_from}
use Rattle.html_pieces.specs.Private.Read.{as_reference, reference_after}
use Rattle.html_pieces.proofs.ReadSteps.{passed_by, reads_reference, reads_byte}
use Rattle.html_pieces.proofs.Slices.{drop_more}
use Rattle.html_pieces.proofs.references.read.Goals as goal
use Rattle.html_pieces.proofs.references.read.Goals.{then-skip-gt0, else-skip-gt0+in-Some+in_ok-push_character-in-Some, else-skip-gt0+in-None+in_ok-push-in-None}

pub loop-i-preserved : goal.loop-i-preserved
loop-i-preserved c =
    let value = c.args.value.now in
    let i = c.loop-i.i in
    let b = get_or value i 0 in
    let rest = drop (i + 1) value in
    let read = c.loop-i.read.items in
    let skip = c.loop-i.skip in
    let more = drop_more value i c.loop-i-test.true in
    let tail = take_all (length value - (i + 1)) rest (omega (arith, length-drop (i + 1) value)) in
    elim c.if-skip-gt0.branch [
      | then-skip-gt0 w ↦
          rw (w.read-is, w.skip-is) (
          sym (ap (λ xs. read ++ xs) (ap (read_from skip) more ∙ passed_by skip b rest w.if-skip-gt0.true)) ∙ c.loop-i.invariant)
      | else-skip-gt0+in-Some+in_ok-push_character-in-Some w ↦
          let none : skip ≡ 0 = omega (arith, w.if-skip-gt0.false) in
          let r = as_reference w.in-Some.reference in
          rw (w.read-is, w.skip-is) (
          ap (λ xs. xs ++ read_from r.size rest) w.in_ok-push_character-in-Some.ensures
          ∙ append_assoc read (encode_utf8 r.character) (read_from r.size rest)
          ∙ ap (λ xs. read ++ xs) (sym (reads_reference b rest r (ap (reference_after b) (sym tail) ∙ sym w.reference_after.ensures ∙ ap (option_map as_reference) w.in-Some.is)))
          ∙ ap (λ n. read ++ read_from n (b ∷ rest)) (sym none)
          ∙ ap (λ xs. read ++ read_from skip xs) (sym more)
          ∙ c.loop-i.invariant)
      | else-skip-gt0+in-None+in_ok-push-in-None w ↦
          let none : skip ≡ 0 = omega (arith, w.if-skip-gt0.false) in
          rw (w.read-is, w.skip-is) (
          ap (λ xs. xs ++ read_from skip rest) w.in_ok-push-in-None.ensures.items
          ∙ append_assoc read (b ∷ []) (read_from skip rest)
          ∙ ap (λ n. read ++ b ∷ read_from n rest) none
          ∙ ap (λ xs. read ++ xs) (sym (reads_byte b rest (ap (reference_after b) (sym tail) ∙ sym w.reference_after.ensures ∙ ap (option_map as_reference) w.in-None.is)))
          ∙ ap (λ n. read ++ read_from n (b ∷ rest)) (sym none)
          ∙ ap (λ xs. read ++ read_from skip xs) (sym more)
          ∙ c.loop-i.invariant)
    ]
