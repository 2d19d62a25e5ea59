-- The memory that a handle owns.
use Rattle.std.specs.Prelude.{Bool, true, false, Option, Some, None}
use Rattle.std.specs.Coded.{Coded, coded_option}
use base.Fml.{Fml, ftrue}
use denote.RawPtr.{Ptr}
use Rattle.std.specs.Box.Ownership.{box_owns}
use Rattle.std_heap.specs.declared.Global.{Global}
use Rattle.std_heap.specs.contracts.GlobalAllocator.TheImpl.{ghosts}
use Rattle.c_calls.specs.declared.content.Content.{Content}
use Rattle.c_calls.specs.contracts.content.Content as content

-- The code by which the logic keeps what a handle holds.
abbrev pub kept_code : Coded (Option Content)
kept_code = coded_option content.the_row.coded

-- The allocator: there is one.
abbrev pub the_heap : Global
the_heap = record { memory = record { seal = tt } }

-- The dictionary's box at the pointer, where there is one.
abbrev pub owned : Option Content → Ptr → Fml
owned (Some x) p = box_owns (ghosts.dealloc_token the_heap) content.the_row p x
owned None p = ftrue

-- Whether a handle holds a dictionary.
abbrev pub is_kept : Option Content → Bool
is_kept (Some x) = true
is_kept None = false
