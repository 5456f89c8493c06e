-- Which units a call alters.
use Rattle.std.proofs.Common.{◌≡◌, ◌≢◌, ℕ, Some, None, Option, refl, sym, ap, ◌∙◌, get_or-set_other, arith}
use Rattle.std.proofs.lemmas.Grind.{common_steps}
use Rattle.std.specs.Prelude.{List}
use Rattle.drives.specs.Drives.{Drive, drive, absent}
use Rattle.drives.specs.Changes.{changed}
use Rattle.registers.specs.declared.running.Format.{Format}
use Rattle.registers.specs.declared.running.Running.{Running}
use Rattle.registers.specs.declared.running.Running.TheVariants as running
use Rattle.registers.specs.declared.running.Transfer.{Transfer}
use Rattle.transfers.specs.Steps.{Path, Outcome}
use Rattle.transfers.specs.Transfers.{transfer_turn}
use Rattle.transfers.specs.Formats.{format_turn}
use Rattle.controller.specs.State.{State, path_of}
use Rattle.controller.specs.Turns.{transfer_follows, format_follows, turn_of}
use Rattle.runs.specs.declared.call.Call.TheVariants.{WriteData, ReadData, WriteCommand, Turn, TerminalCount, SetLine, Reset}
use Rattle.port_laws.specs.OfUnits.{unit_in, OtherUnitsStay}

-- a change of one unit leaves the others
pub drive-changed_other : (ds : List Drive) (u v : ℕ) (f : Drive → Drive) → v ≢ u → drive (changed ds u f) v ≡ drive ds v
unfolding changed drive
drive-changed_other ds u v f n = get_or-set_other ds u v _ absent n

transfer_other : (t : Transfer) (p : Path) (v : ℕ) → v ≢ t.unit → drive (transfer_turn t p).1.drives v ≡ drive p.drives v
transfer_other t p v n = grind (arith, common_steps, drive-changed_other)

format_other : (f : Format) (p : Path) (v : ℕ) → v ≢ f.unit → drive (format_turn f p).1.drives v ≡ drive p.drives v
format_other f p v n = grind (arith, common_steps, drive-changed_other)

followed_drives : (o : Outcome Transfer) (s : State) → (transfer_follows o s).drives ≡ s.drives
followed_drives o s = grind (arith, common_steps)

followed_format_drives : (o : Outcome Format) (s : State) → (format_follows o s).drives ≡ s.drives
followed_format_drives o s = grind (arith, common_steps)

-- a turn alters no unit but that of the running command
pub turn_other : (r : Option Running) (s : State) (v : ℕ) → unit_in r ≢ Some v → drive (turn_of r s).drives v ≡ drive s.drives v
turn_other None s v n = refl
turn_other (Some (running.Seek unit target)) s v n = grind (arith, common_steps, drive-changed_other)
turn_other (Some (running.Recalibrate unit pulses)) s v n = grind (arith, common_steps, drive-changed_other)
turn_other (Some (running.Transfer t)) s v n =
    ap (λ ds. drive ds v) (followed_drives (transfer_turn t (path_of s)).0 _) ∙ transfer_other t (path_of s) v (λ e. n (ap Some (sym e)))
turn_other (Some (running.Format f)) s v n =
    ap (λ ds. drive ds v) (followed_format_drives (format_turn f (path_of s)).0 _) ∙ format_other f (path_of s) v (λ e. n (ap Some (sym e)))

pub other_units : OtherUnitsStay
other_units (WriteData byte) s v n = grind (arith, common_steps)
other_units ReadData s v n = grind (arith, common_steps)
other_units (WriteCommand byte) s v n = grind (arith, common_steps)
other_units Turn s v n = turn_other s.registers.running s v n
other_units TerminalCount s v n = grind (arith, common_steps)
other_units (SetLine unit line value) s v n = grind (arith, common_steps, drive-changed_other)
other_units Reset s v n = refl
