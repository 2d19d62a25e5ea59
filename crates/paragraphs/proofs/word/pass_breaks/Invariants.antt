use Rattle.std.proofs.Common.{◌≡◌, ◌++◌, List, map, drop}
use Rattle.hyphenation_breaks.specs.Break.{Break}
use Rattle.paragraphs.specs.Parts.{set_off}
use Rattle.paragraphs.specs.Private.Open.{settings_with}
use Rattle.paragraphs.proofs.word.pass_breaks.Given as goal

-- The parts that are made, with those that the breaks to come give, stay the same.
abbrev pub invariant-loop-b : goal.invariant-loop-b
invariant-loop-b g l =
    let meaning = g.B.Break.meaning in
    record {
      word : l.current.word ≡ l.initial.current.word;
      goes : (others : List Break) → settings_with l.parts.items l.current (map (set_off l.fn.piece.0) (map meaning (drop l.b-index l.breaks)) ++ others)
          ≡ settings_with l.initial.parts.items l.initial.current (map (set_off l.fn.piece.0) (map meaning l.breaks) ++ others);
    }
