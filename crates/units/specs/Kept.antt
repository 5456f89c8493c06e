-- A unit over a row of bytes is sound: what implementations hand out as their member `sound`.
use Rattle.std.specs.Prelude.{◌≡◌, ℕ, zero, suc, Bool, true, false, cond, ◌&&◌, List, refl}
use Rattle.std.proofs.Common.{arith, lit≤}
use Rattle.std.proofs.lemmas.Bool.{cond-false}
use Rattle.drives.specs.Bounds.{bounded}
use Rattle.drives.specs.Drives.{Shape, drive, no_shape}
use Rattle.drives.specs.Sound.{SoundDrive, Sound}
use Rattle.drives.specs.Kept.{absent_sound}
use Rattle.units.specs.declared.unit.State.{State}
use Rattle.units.specs.Rows.{marks_in, bytes_in}
use Rattle.units.specs.Units.{said, unit_of, alone}

-- a layout that fits is in bounds
shape_bounds : (a b : Bool) (g : Shape) → bounded g.cylinders g.heads g.slots g.length ≡ a → bounded (cond (a && b) g no_shape).cylinders (cond (a && b) g no_shape).heads (cond (a && b) g no_shape).slots (cond (a && b) g no_shape).length ≡ true
shape_bounds true true g e = e
shape_bounds true false g e = refl
shape_bounds false b g e = refl

unit_sound : (st : State) (row : List ℕ) → SoundDrive (unit_of st row)
unfolding unit_of marks_in bytes_in
unit_sound st row =
    record {
      bounds = shape_bounds _ _ (said st.layout) refl;
      standing = omega arith;
      protected = refl;
      no_mark = λ p c h s e. cond-false _ _ _ e;
      no_byte = λ p c h s i e. cond-false _ _ _ e;
    }

each_alone : (st : State) (row : List ℕ) (u : ℕ) → SoundDrive (drive (alone st row) u)
unfolding drive
each_alone st row zero = unit_sound st row
each_alone st row (suc u) = absent_sound

pub alone_sound : (st : State) (row : List ℕ) → Sound (alone st row)
alone_sound st row = record { few = lit≤ tt; each = each_alone st row }
