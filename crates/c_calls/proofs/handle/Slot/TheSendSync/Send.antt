use Rattle.std.specs.Prelude.{Option, Some, None}
use base.Shift.{Keyless}
use mir.Raw.{raw}
use denote.Memory.{lone}
use denote.RawPtr.{Ptr}
use denote.Struct.Struct.{exits_of}
use denote.Struct.Owning.{shape, fields, to}
use denote.Param.Send.{IsSend, AllSend, owning_send, struct_send, sendable}
use Rattle.std.proofs.Crossing.{frees}
use Rattle.std_alloc.proofs.SendSync.{quiet, lies}
use Rattle.c_calls.specs.Held.{owned, the_heap}
use Rattle.c_calls.specs.declared.content.Content.{Content}
use Rattle.c_calls.specs.contracts.content.Content as content
use Rattle.c_calls.proofs.content.Content.TheSendSync.{the_send as content_send}
use Rattle.c_calls.specs.contracts.handle.Slot.{the_row, the_type}

keyless : (kept : Option Content) (p : Ptr) → Keyless (owned kept p)
keyless (Some x) p = (lies content.the_row content_send p x, frees.frees the_heap (raw (lone content.the_row.mir)) p)
keyless None p = tt

pub send : IsSend the_row
send =
    let all : AllSend (fields the_type) = (search sendable, tt) in
    owning_send the_type all (λ d. keyless d.kept d.at) (λ k. quiet (to the_type) (exits_of k (fields the_type)) ((struct_send (shape the_type) all).leaving k))
