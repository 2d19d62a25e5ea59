-- A buffer that is filled, or has no room, is what good arguments are to give.
use Rattle.std.proofs.Common.{ℕ, zero, suc, List}
use Rattle.c_calls.specs.Statuses.{Fills, Finds, Buffer, FillsBoth, FindsBoth}

pub finds : {T : Type 0} (Good : Type 0) (found old new : List T) (before after status : ℕ) → Good
    → Fills found old new after status → Finds Good found old new before after status
finds Good found old new before after zero good filled = (good, filled)
finds Good found old new before after (suc zero) good filled = (good, filled)
finds Good found old new before after (suc (suc n)) good filled = absurd filled

pub finds_both : {T U : Type 0} (Good : Type 0) (found : List T) (more : List U) (b : Buffer T) (c : Buffer U) (status : ℕ) → Good
    → FillsBoth found more b c status → FindsBoth Good found more b c status
finds_both Good found more b c zero good filled = (good, filled)
finds_both Good found more b c (suc zero) good filled = (good, filled)
finds_both Good found more b c (suc (suc n)) good filled = absurd filled
