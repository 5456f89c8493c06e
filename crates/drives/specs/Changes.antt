-- What changes of a drive, and what stays.
use Rattle.std.specs.Prelude.{ℕ, ◌+◌, ◌-◌, Bool, true, false, cond, not, ◌&&◌, List, ◌==◌, nat_lt, slice_index_or, slice_set}
use Rattle.drives.specs.declared.parts.Part.{Part}
use Rattle.drives.specs.declared.parts.Part.TheVariants.{Id, Data}
use Rattle.drives.specs.declared.parts.Line.{Line}
use Rattle.drives.specs.declared.parts.Line.TheVariants.{Ready, Protect, Fault}
use Rattle.drives.specs.declared.parts.Direction.{Direction}
use Rattle.drives.specs.declared.parts.Direction.TheVariants.{Inward, Outward}
use Rattle.drives.specs.Drives.{Drive, absent, is_place, is_byte}

-- unit u of a string changed by f; a unit that does not exist does not change
unfoldable pub changed : List Drive → ℕ → (Drive → Drive) → List Drive
changed ds u f = slice_set ds u (f (slice_index_or ds u absent))

-- the next cylinder, if there is one
abbrev pub next_cylinder : Direction → ℕ → ℕ → ℕ
next_cylinder Inward cylinders n = cond (nat_lt (n + 1) cylinders) (n + 1) n
next_cylinder Outward cylinders n = n - 1

-- the heads on cylinder n
unfoldable pub with_cylinder : ℕ → Drive → Drive
with_cylinder n d = record d { cylinder = n }

-- a step pulse moves the heads by one cylinder, if there is one
abbrev pub pulsed : Direction → Drive → Drive
pulsed direction d = with_cylinder (next_cylinder direction d.shape.cylinders d.cylinder) d

abbrev pub same_line : Line → Line → Bool
same_line Ready Ready = true
same_line Protect Protect = true
same_line Fault Fault = true
same_line _ _ = false

-- one line set; the protect line of a held unit stays
unfoldable pub with_line : Line → Bool → Drive → Drive
with_line line value d =
    record d { lines = λ other. cond (same_line line other && not (same_line line Protect && d.held)) value (d.lines other) }

abbrev pub same_part : Part → Part → Bool
same_part Id Id = true
same_part Data Data = true
same_part _ _ = false

abbrev pub same_place : ℕ → ℕ → ℕ → ℕ → ℕ → ℕ → Bool
same_place c h s c' h' s' = c == c' && (h == h' && s == s')

-- one mark of a place on the standing cylinder set, if the place exists
unfoldable pub with_mark : Part → ℕ → ℕ → Bool → Drive → Drive
with_mark p h s value d =
    record d {
      marks =
          λ p' c' h' s'.
          cond (is_place d.shape d.cylinder h s && (same_part p p' && same_place d.cylinder h s c' h' s')) value (d.marks p' c' h' s');
    }

-- one byte of a place on the standing cylinder set, if it exists
unfoldable pub with_byte : Part → ℕ → ℕ → ℕ → ℕ → Drive → Drive
with_byte p h s i value d =
    record d {
      bytes =
          λ p' c' h' s' i'.
          cond (is_byte d.shape p d.cylinder h s i && (same_part p p' && (same_place d.cylinder h s c' h' s' && i == i'))) value (d.bytes p' c' h' s' i');
    }
