-- What tells one kind of transfer from another.
use Rattle.std.specs.Prelude.{Bool, true, false}
use Rattle.registers.specs.declared.kind.Kind.{Kind}
use Rattle.registers.specs.declared.kind.Kind.TheVariants.{Read, Write}

-- it brings data bytes to the host, and its end waits until the host has them
abbrev pub hands_out : Kind → Bool
hands_out Read = true
hands_out _ = false

-- it wants data bytes from the host
abbrev pub takes_bytes : Kind → Bool
takes_bytes Write = true
takes_bytes _ = false

-- it writes sectors, and so opens and closes them; the others need a data mark
abbrev pub writes : Kind → Bool
writes Write = true
writes _ = false
