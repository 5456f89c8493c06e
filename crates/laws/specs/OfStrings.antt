-- What is shown of strings and of what changes them.
use Rattle.std.specs.Prelude.{◌≡◌, ℕ, Bool, true, List, length, ◌≢◌}
use Rattle.drives.specs.declared.parts.Part.{Part}
use Rattle.drives.specs.declared.parts.Line.{Line}
use Rattle.drives.specs.declared.parts.Direction.{Direction}
use Rattle.drives.specs.Drives.{Drive, drive, is_place, is_byte, mark_here, byte_here}
use Rattle.drives.specs.Changes.{changed, pulsed, with_line, with_mark, with_byte}
use Rattle.drives.specs.Sound.{SoundDrive, Sound}

-- the four changes: a step pulse, a line set, a mark set, a byte set
pub data Change : Type 0 where
  step : Direction → Change
  line_to : Line → Bool → Change
  mark_to : Part → ℕ → ℕ → Bool → Change
  byte_to : Part → ℕ → ℕ → ℕ → ℕ → Change

-- what a change makes of a unit
abbrev pub made : Change → Drive → Drive
made (step direction) = pulsed direction
made (line_to line value) = with_line line value
made (mark_to p h s value) = with_mark p h s value
made (byte_to p h s i value) = with_byte p h s i value

-- no change alters the number of units, the shape of any unit, or whether it is held
abbrev pub WhatNeverChanges : Type 0
WhatNeverChanges =
    (ds : List Drive) (u : ℕ) (change : Change) (v : ℕ) → (length (changed ds u (made change)) ≡ length ds) × ((drive (changed ds u (made change)) v).shape ≡ (drive ds v).shape) × ((drive (changed ds u (made change)) v).held ≡ (drive ds v).held)

-- a change of one unit, whatever it is, leaves every other unit as it was
abbrev pub OtherUnitsStay : Type 0
OtherUnitsStay = (ds : List Drive) (u : ℕ) (f : Drive → Drive) (v : ℕ) → (v ≢ u) → drive (changed ds u f) v ≡ drive ds v

-- a sound unit is sound after any change: a held one stays protected, and the heads stay on a cylinder that exists
abbrev pub HeldStaysProtected : Type 0
HeldStaysProtected = (change : Change) (d : Drive) → SoundDrive d → SoundDrive (made change d)

-- and so is a sound string
abbrev pub StringsStaySound : Type 0
StringsStaySound = (ds : List Drive) (u : ℕ) (change : Change) → Sound ds → Sound (changed ds u (made change))

-- a mark that is set at a place of the standing cylinder that exists shows there; every other mark of that cylinder, and
-- every byte, shows as before
abbrev pub MarksReadBack : Type 0
MarksReadBack =
    (ds : List Drive) (u : ℕ) (p : Part) (h s : ℕ) (value : Bool) → (is_place (drive ds u).shape (drive ds u).cylinder h s ≡ true → mark_here (drive (changed ds u (made (mark_to p h s value))) u) p h s ≡ value) × ((p' : Part) (h' s' : ℕ) → ((p' ≡ p) × (h' ≡ h) × (s' ≡ s) → ⊥) → mark_here (drive (changed ds u (made (mark_to p h s value))) u) p' h' s' ≡ mark_here (drive ds u) p' h' s') × ((p' : Part) (h' s' i' : ℕ) → byte_here (drive (changed ds u (made (mark_to p h s value))) u) p' h' s' i' ≡ byte_here (drive ds u) p' h' s' i')

-- a byte that is set where one exists on the standing cylinder shows there; every other byte of that cylinder, and every
-- mark, shows as before
abbrev pub BytesReadBack : Type 0
BytesReadBack =
    (ds : List Drive) (u : ℕ) (p : Part) (h s i value : ℕ) → (is_byte (drive ds u).shape p (drive ds u).cylinder h s i ≡ true → byte_here (drive (changed ds u (made (byte_to p h s i value))) u) p h s i ≡ value) × ((p' : Part) (h' s' i' : ℕ) → ((p' ≡ p) × (h' ≡ h) × (s' ≡ s) × (i' ≡ i) → ⊥) → byte_here (drive (changed ds u (made (byte_to p h s i value))) u) p' h' s' i' ≡ byte_here (drive ds u) p' h' s' i') × ((p' : Part) (h' s' : ℕ) → mark_here (drive (changed ds u (made (byte_to p h s i value))) u) p' h' s' ≡ mark_here (drive ds u) p' h' s')
