-- The track that a running transfer or Format is on: its unit, and PHN.
use Rattle.drives.specs.declared.parts.Track.{Track}
use Rattle.registers.specs.declared.running.Format.{Format}
use Rattle.registers.specs.declared.running.Transfer.{Transfer}

-- PHN of a transfer is in its numbers, and may rise from sector to sector
abbrev pub transfer_track : Transfer → Track
transfer_track t = record { unit = t.unit; head = t.numbers.head }

-- a Format stays on one track
abbrev pub format_track : Format → Track
format_track f = record { unit = f.unit; head = f.head }
