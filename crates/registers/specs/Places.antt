-- The places of a buffer, by the bytes in it.
use Rattle.std.specs.Prelude.{ℕ, ◌-◌, List, ◌++◌, length, replicate}

-- its eight places: these bytes, and 0 behind them
abbrev pub places : List ℕ → List ℕ
places bytes = bytes ++ replicate (8 - length bytes) 0
