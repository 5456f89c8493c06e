-- The bounds of a drive.
use Rattle.std.specs.Prelude.{ℕ, Bool, ◌&&◌, ◌||◌, ◌==◌, nat_le}

-- from a to b
abbrev pub within : ℕ → ℕ → ℕ → Bool
within a b x = nat_le a x && nat_le x b

-- cylinders, heads, slots a track and data bytes a slot within their bounds, or all 0
abbrev pub bounded : ℕ → ℕ → ℕ → ℕ → Bool
bounded cylinders heads slots length =
    (within 1 2048 cylinders && (within 1 8 heads && (within 1 32 slots && within 128 4095 length)))
    || (cylinders == 0 && (heads == 0 && (slots == 0 && length == 0)))
