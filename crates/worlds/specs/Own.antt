-- What a frame may begin with, by the call: the opcodes of its plan. So a get never programs or erases, whatever its state.
-- Assumes nothing.
use Rattle.std.specs.Prelude.{ℕ, Bool, ◌||◌, eqb}
use Rattle.slots.specs.declared.Kind.{Kind}
use Rattle.slots.specs.declared.Kind.TheVariants.{Put, Patch, Get, Wipe}

-- (10.28) D7, 32, 35
unfoldable pub asks : ℕ → Bool
asks n = eqb n 0xD7 || (eqb n 0x32 || eqb n 0x35)

-- (10.28) the opcodes of a call's frames
unfoldable pub may_begin : Kind → ℕ → Bool
may_begin Put n = asks n || (eqb n 0x84 || (eqb n 0x83 || eqb n 0x60))
may_begin Patch n = asks n || (eqb n 0xD2 || (eqb n 0x84 || (eqb n 0x83 || eqb n 0x60)))
may_begin Get n = eqb n 0xD7 || eqb n 0xD2
may_begin Wipe n = asks n || eqb n 0x50
