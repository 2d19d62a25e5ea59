-- How programs end: their statuses, and the messages that they write.
use Rattle.std.specs.Prelude.{◌≡◌, ◌⊎◌, ◌++◌, ℕ, true, List, Option, IfSome}
use Rattle.hyphenation_load.specs.Load.{AppendsTo}
use Rattle.command_line.specs.Failures.{failure_line, status_of}
use Rattle.command_line.specs.Options.{RefusedArgument, refusal_message}
use Rattle.command_line.specs.declared.failure.Failure.{Failure}
use Rattle.command_line.specs.declared.failure.Failure.TheVariants as failed
use Rattle.command_line.specs.declared.messages.Messages.{Messages}

-- Exactly this text was added to the messages of a program, where all of them could be written. If they are whole, they
-- were so before.
abbrev pub Tells : {W : Type 0} → (W → Option (List ℕ)) → Messages W → Messages W → List ℕ → Type 0
Tells contents old new text =
    new.is_whole ≡ true → (old.is_whole ≡ true) × AppendsTo contents old.writer new.writer text

-- This text was added after all messages since some earlier ones.
abbrev pub TellsMore : {W : Type 0} → (W → Option (List ℕ)) → Messages W → Messages W → List ℕ → Type 0
TellsMore {W} contents old new text =
    (first : Messages W) (before : List ℕ) → Tells contents first old before → Tells contents first new (before ++ text)

-- The end of a program: it is done, and has these notes; or it refuses an argument; or it fails.
pub data End : Type 0 where
  Done : List ℕ → End
  Refuses : RefusedArgument → End
  Fails : Failure → End

-- The program of this name has this end: its status is that of the end, and it told exactly the message. No clause has the
-- words of the system for a file that can't be opened or read.
abbrev pub EndsBy : List ℕ → ℕ → (List ℕ → Type 0) → End → Type 0
EndsBy name status Told (Done notes) = (status ≡ 0) × Told notes
EndsBy name status Told (Refuses refused) = (status ≡ 2) × Told (refusal_message name refused)
EndsBy name status Told (Fails failure) = (status ≡ status_of failure) × IfSome (failure_line name failure) Told

-- The end of a program that refuses an argument: it says which, or memory was refused.
abbrev pub IsRefusal : RefusedArgument → End → Type 0
IsRefusal refused end = (end ≡ Refuses refused) ⊎ (end ≡ Fails failed.Memory)
