-- What the owner of a `Held` owns. Assumes nothing: this is a definition.
use Rattle.std.specs.Prelude.{Option, Some, None}
use Rattle.std.specs.Box.Ownership.{box_owns}
use Rattle.std.specs.declared.alloc.Global.{Global}
use Rattle.std.specs.contracts.impls.GlobalAllocator.TheImpl.{ghosts}
use base.Fml.{Fml, ftrue}
use denote.RawPtr.{Ptr}
use Rattle.smap_c.specs.declared.handles.Held.{Held}
use Rattle.smap_c.specs.contracts.handles.Held.{the_row}

-- the value in the block at p of the allocator, and the right to free the block; nothing where there is no
-- value
abbrev pub owned : Global → Ptr → Option Held → Fml
owned a p (Some x) = box_owns (ghosts.dealloc_token a) the_row p x
owned a p None = ftrue
