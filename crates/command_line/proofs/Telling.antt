-- Texts that are written to standard error, one after the other.
use Rattle.std.proofs.Common.{◌∙◌, ◌++◌, ℕ, List, ap, append_assoc}
use Rattle.std.specs.Prelude.{Option, Some, None, IfSome}
use Rattle.std.specs.Io.KnownBytes.{Appends}
use Rattle.command_line.specs.Endings.{Tells, TellsMore}
use Rattle.command_line.specs.declared.messages.Messages.{Messages}

appends_both : (old between new : Option (List ℕ)) (before text : List ℕ) → Appends old between before → Appends between new text
    → Appends old new (before ++ text)
appends_both None between new before text first second = tt
appends_both (Some xs) None new before text first second = absurd first
appends_both (Some xs) (Some ys) None before text first second = absurd second
appends_both (Some xs) (Some ys) (Some zs) before text first second =
    second ∙ (ap (λ (b : List ℕ). b ++ text) first ∙ append_assoc xs before text)

tells_more : {W : Type 0} (contents : W → Option (List ℕ)) (old new : Messages W) (text : List ℕ) → Tells contents old new text
    → TellsMore contents old new text
tells_more contents old new text told first before earlier whole =
    let now = told whole in
    let then = earlier now.0 in
    (then.0, appends_both (contents first.writer) (contents old.writer) (contents new.writer) before text then.1 now.1)

pub tells_more_if : {W : Type 0} (contents : W → Option (List ℕ)) (old new : Messages W) (text : Option (List ℕ)) → IfSome text (Tells contents old new)
    → IfSome text (TellsMore contents old new)
tells_more_if contents old new None told = tt
tells_more_if contents old new (Some text) told = tells_more contents old new text told
