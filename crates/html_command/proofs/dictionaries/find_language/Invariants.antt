use Rattle.std.proofs.Common.{ℕ, List, drop}
use Rattle.command_line.specs.Adjustments.{as_adjustments}
use Rattle.hyphenation_breaks.specs.Borrowed.{texts_now}
use Rattle.language_search.specs.Tags.{codes_of}
use Rattle.html_command.specs.Dictionaries.{IsServed}
use Rattle.html_command.specs.Private.Found.{AreFirst}
use Rattle.html_command.proofs.dictionaries.find_language.Given as goal

-- The tag is served where the codes to come are. The others are the first.
abbrev pub invariant-loop-language : goal.invariant-loop-language
invariant-loop-language g l =
    ((there : List (List ℕ)) → IsServed (g.F.NamedFiles.bytes l.files) (texts_now l.folders) there (drop l.language-index l.language-items)
    → IsServed (g.F.NamedFiles.bytes l.files) (texts_now l.folders) there (codes_of l.tag))
    × AreFirst (g.F.NamedFiles.bytes l.files) (texts_now l.folders) (as_adjustments l.adjustments) l.others.items
