-- Bits of a byte, bit 0 the lowest.
use Rattle.std.specs.Prelude.{ℕ, ◌/◌, ◌%◌, ◌^◌, Bool, cond, ◌==◌}

-- whether bit k of a byte is 1
abbrev pub bit : ℕ → ℕ → Bool
bit k byte = byte / 2 ^ k % 2 == 1

-- what a bit of that weight adds to a byte
abbrev pub weight : Bool → ℕ → ℕ
weight set w = cond set w 0
