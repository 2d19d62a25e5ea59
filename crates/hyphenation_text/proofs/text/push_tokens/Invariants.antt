use Rattle.std.proofs.Common.{◌++◌, []}
use Rattle.std.specs.String.{string_bytes}
use Rattle.hyphenation_text.specs.Words.{breaks_under}
use Rattle.hyphenation_text.specs.Private.Marked.{marked_tokens}
use Rattle.hyphenation_text.proofs.TextSteps.{TextTold}
use Rattle.hyphenation_text.proofs.text.push_tokens.Given as goal

abbrev pub invariant-loop-end : goal.invariant-loop-end
invariant-loop-end l =
    let breaks = breaks_under l.settings l.dictionary in
    TextTold breaks l.settings.mark.now (string_bytes l.fn.output.text ++ marked_tokens breaks l.settings.mark.now l.touched_before l.touched_after [] l.text)
    l.text (string_bytes l.output.text) l.touches l.touched_after l.letters l.kept l.start l.end
