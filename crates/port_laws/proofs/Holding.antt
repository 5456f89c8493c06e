-- No call alters a byte or a mark of a held unit.
use Rattle.std.proofs.Common.{◌≡◌, ◌≢◌, ℕ, zero, suc, Bool, true, false, not, ◌&&◌, ◌⊎◌, List, [], ◌∷◌, Some, None, Option, sym, refl, subst, inl, inr, ⊎_elim, arith}
use Rattle.std.proofs.lemmas.Bool.{cases_eq, cases_Bool, not-false}
use Rattle.std.proofs.lemmas.Grind.{common_steps}
use Rattle.std.specs.declared.ops.ControlFlow.TheVariants.{Continue, Break}
use Rattle.drives.specs.declared.numbers.PhysicalCylinder.{PhysicalCylinder}
use Rattle.drives.specs.declared.parts.Direction.{Direction}
use Rattle.drives.specs.declared.parts.Line.{Line}
use Rattle.drives.specs.declared.parts.Line.TheVariants.{Ready, Protect, Fault}
use Rattle.drives.specs.Drives.{Drive, drive}
use Rattle.drives.specs.Changes.{changed, pulsed, with_cylinder, with_line}
use Rattle.drives.specs.Sound.{SoundDrive, Rest}
use Rattle.registers.specs.declared.running.Stage.TheVariants.{Search}
use Rattle.registers.specs.declared.running.FormatStage.TheVariants.{Opening}
use Rattle.registers.specs.declared.running.Running.{Running}
use Rattle.registers.specs.declared.running.Running.TheVariants as running
use Rattle.registers.specs.declared.running.Transfer.{Transfer}
use Rattle.registers.specs.declared.running.Format.{Format}
use Rattle.registers.specs.Kinds.{writes}
use Rattle.transfers.specs.Steps.{Path, Outcome}
use Rattle.transfers.specs.Transfers.{transfer_turn}
use Rattle.transfers.specs.Formats.{format_turn}
use Rattle.controller.specs.State.{State, fresh, path_of, with_path}
use Rattle.controller.specs.Starting.{command_step}
use Rattle.controller.specs.Turns.{turn_of, seek_turn, recalibrate_turn, transfer_follows, format_follows}
use Rattle.runs.specs.declared.call.Call.{Call}
use Rattle.runs.specs.declared.call.Call.TheVariants.{WriteData, ReadData, WriteCommand, Turn, TerminalCount, SetLine, Reset}
use Rattle.runs.specs.Calls.{call_step, after}
use Rattle.port_laws.specs.OfUnits.{SameSectors, HeldUnitsStay, unit_in}
use Rattle.port_laws.proofs.Units.{turn_other}

-- a unit that is held and protected, and shows what another showed
pub record Guarded (d e : Drive) : Type 0 where
  pub held : e.held ≡ true
  pub protect : e.lines Protect ≡ true
  pub same : SameSectors d e

-- a change that keeps a fact of a unit keeps it in a string
through : (P : Drive → Type 0) (f : Drive → Drive) → ((d : Drive) → P d → P (f d)) → (ds : List Drive) (v u : ℕ) → P (drive ds u) → P (drive (changed ds v f) u)
unfolding changed drive
through P f k [] v u p = p
through P f k (d ∷ ds) zero zero p = k d p
through P f k (d ∷ ds) zero (suc u) p = p
through P f k (d ∷ ds) (suc v) zero p = p
through P f k (d ∷ ds) (suc v) (suc u) p = through P f k ds v u p

pulse_guards : (d : Drive) (direction : Direction) (e : Drive) → Guarded d e → Guarded d (pulsed direction e)
unfolding with_cylinder
pulse_guards d direction e g = record { held = g.held; protect = g.protect; same = record { marks = g.same.marks; bytes = g.same.bytes } }

line_protect : (line : Line) (value : Bool) (e : Drive) → e.held ≡ true → e.lines Protect ≡ true → (with_line line value e).lines Protect ≡ true
unfolding with_line
line_protect Ready value e h p = p
line_protect Protect value e h p = rw h p
line_protect Fault value e h p = p

line_guards : (d : Drive) (line : Line) (value : Bool) (e : Drive) → Guarded d e → Guarded d (with_line line value e)
unfolding with_line
line_guards d line value e g =
    record {
      held = g.held;
      protect = line_protect line value e g.held g.protect;
      same = record { marks = g.same.marks; bytes = g.same.bytes };
    }

some_other : (a b : ℕ) → a ≢ b → Some a ≢ Some b
some_other a b n e = grind arith

-- ---- what a turn keeps

-- a transfer that goes on is for the same unit, and of the same kind
abbrev Keeps : Transfer → Outcome Transfer → Type 0
Keeps t (Continue t') = (t'.unit ≡ t.unit) × (t'.kind ≡ t.kind)
Keeps t (Break b) = Unit {0}

transfer_keeps : (t : Transfer) (p : Path) → Keeps t (transfer_turn t p).0
transfer_keeps t p = grind (arith, common_steps)

-- a reader touches no drive
reader_quiet : (t : Transfer) (s : State) → writes t.kind ≡ false → (turn_of (Some (running.Transfer t)) s).drives ≡ s.drives
reader_quiet t s r = grind (arith, common_steps)

-- a Format that goes on is for the same unit
abbrev KeepsUnit : Format → Outcome Format → Type 0
KeepsUnit f (Continue f') = f'.unit ≡ f.unit
KeepsUnit f (Break b) = Unit {0}

format_keeps : (f : Format) (p : Path) → KeepsUnit f (format_turn f p).0
format_keeps f p = grind (arith, common_steps)

-- a writer on the unit has not made its first turn
abbrev Clear : ℕ → Option Running → Type 0
Clear u (Some (running.Transfer t)) = t.unit ≡ u → (writes t.kind ≡ false) ⊎ (t.stage ≡ Search true)
Clear u (Some (running.Format f)) = f.unit ≡ u → f.stage ≡ Opening
Clear u other = Unit {0}

other_clear : (u : ℕ) (t : Transfer) (o : Outcome Transfer) (s : State) → Keeps t o → (t.unit ≢ u) ⊎ (writes t.kind ≡ false) → Clear u (transfer_follows o s).registers.running
other_clear u t o s k w = grind (arith, common_steps)

other_format_clear : (u : ℕ) (f : Format) (o : Outcome Format) (s : State) → KeepsUnit f o → f.unit ≢ u → Clear u (format_follows o s).registers.running
other_format_clear u f o s k n = grind (arith, common_steps)

command_quiet : (byte : ℕ) (s : State) → (command_step byte s).1.drives ≡ s.drives
command_quiet byte s = grind (arith, common_steps)

command_clear : (u byte : ℕ) (s : State) → Clear u s.registers.running → Clear u (command_step byte s).1.registers.running
command_clear u byte s c = grind (arith, common_steps)

module _ (u : ℕ) (d : Drive) where
  pub record Safe (s : State) : Type 0 where
    pub guarded : Guarded d (drive s.drives u)
    pub clear : Clear u s.registers.running

  quiet : (s : State) (ds : List Drive) → Safe s → ds ≡ s.drives → Guarded d (drive ds u)
  quiet s ds k e = subst (λ ds. Guarded d (drive ds u)) (sym e) k.guarded

  elsewhere : (r : Option Running) (s : State) → Safe s → unit_in r ≢ Some u → Guarded d (drive (turn_of r s).drives u)
  elsewhere r s k n = subst (Guarded d) (sym (turn_other r s u n)) k.guarded

  -- ---- turns

  pulsed_guarded : (ds : List Drive) (v : ℕ) (direction : Direction) → Guarded d (drive ds u) → Guarded d (drive (changed ds v (pulsed direction)) u)
  pulsed_guarded ds v direction g = through (Guarded d) (pulsed direction) (pulse_guards d direction) ds v u g

  seek_safe : (unit : ℕ) (target : PhysicalCylinder) (s : State) → Safe s → s.registers.running ≡ Some (running.Seek unit target) → Safe (seek_turn unit target s)
  seek_safe unit target s k e = grind (arith, common_steps, pulsed_guarded)

  recalibrate_safe : (unit pulses : ℕ) (s : State) → Safe s → Safe (recalibrate_turn unit pulses s)
  recalibrate_safe unit pulses s k = grind (arith, common_steps, pulsed_guarded)

  -- the first turn under write protect ends the command
  refused : (t : Transfer) (s : State) → Safe s → t.unit ≡ u → writes t.kind ≡ true → t.stage ≡ Search true → Safe (turn_of (Some (running.Transfer t)) s)
  refused t s k e w f = grind (arith, common_steps)

  format_refused : (f : Format) (s : State) → Safe s → f.unit ≡ u → f.stage ≡ Opening → Safe (turn_of (Some (running.Format f)) s)
  format_refused f s k e w = grind (arith, common_steps)

  transfer_safe : (t : Transfer) (s : State) → Safe s → Clear u (Some (running.Transfer t)) → Safe (turn_of (Some (running.Transfer t)) s)
  transfer_safe t s k c =
      let clear : (t.unit ≢ u) ⊎ (writes t.kind ≡ false) → Clear u (turn_of (Some (running.Transfer t)) s).registers.running =
      λ w. other_clear u t (transfer_turn t (path_of s)).0 (with_path (transfer_turn t (path_of s)).1 s) (transfer_keeps t (path_of s)) w in
      let reading : writes t.kind ≡ false → Safe (turn_of (Some (running.Transfer t)) s) =
      λ r. record { guarded = quiet s _ k (reader_quiet t s r); clear = clear (inr r) } in
      ⊎_elim (λ e. ⊎_elim reading (λ f. ⊎_elim (λ w. refused t s k e w f) reading (cases_Bool (writes t.kind))) (c e))
      (λ n. record { guarded = elsewhere (Some (running.Transfer t)) s k (some_other t.unit u n); clear = clear (inl n) })
      (cases_eq t.unit u)

  format_safe : (f : Format) (s : State) → Safe s → Clear u (Some (running.Format f)) → Safe (turn_of (Some (running.Format f)) s)
  format_safe f s k c =
      ⊎_elim (λ e. format_refused f s k e (c e))
      (λ n.
      record {
        guarded = elsewhere (Some (running.Format f)) s k (some_other f.unit u n);
        clear = other_format_clear u f (format_turn f (path_of s)).0 _ (format_keeps f (path_of s)) n;
      })
      (cases_eq f.unit u)

  turn_safe : (r : Option Running) (s : State) → s.registers.running ≡ r → Safe s → Safe (turn_of r s)
  turn_safe None s e k = k
  turn_safe (Some (running.Seek unit target)) s e k = seek_safe unit target s k e
  turn_safe (Some (running.Recalibrate unit pulses)) s e k = recalibrate_safe unit pulses s k
  turn_safe (Some (running.Transfer t)) s e k = transfer_safe t s k (subst (Clear u) e k.clear)
  turn_safe (Some (running.Format f)) s e k = format_safe f s k (subst (Clear u) e k.clear)

  -- ---- any call, and any list of them

  lined_guarded : (ds : List Drive) (v : ℕ) (line : Line) (value : Bool) → Guarded d (drive ds u) → Guarded d (drive (changed ds v (with_line line value)) u)
  lined_guarded ds v line value g = through (Guarded d) (with_line line value) (line_guards d line value) ds v u g

  call_safe : (call : Call) (s : State) → Safe s → Safe (call_step call s).1
  call_safe (WriteData byte) s k = grind (arith, common_steps)
  call_safe ReadData s k = grind (arith, common_steps)
  call_safe (WriteCommand byte) s k = record { guarded = quiet s _ k (command_quiet byte s); clear = command_clear u byte s k.clear }
  call_safe Turn s k = turn_safe s.registers.running s refl k
  call_safe TerminalCount s k = grind (arith, common_steps)
  call_safe (SetLine unit line value) s k = grind (arith, common_steps, lined_guarded)
  call_safe Reset s k = record { guarded = k.guarded; clear = tt }

  run_safe : (ds : List Drive) (rest : Rest) → Safe (fresh ds rest) → (calls : List Call) → Safe (after ds rest calls)
  run_safe ds rest k [] = k
  run_safe ds rest k (call ∷ past) = call_safe call (after ds rest past) (run_safe ds rest k past)

protected_by : (e : Drive) → SoundDrive e → e.held ≡ true → e.lines Protect ≡ true
protected_by e sound h = not-false (e.lines Protect) (subst (λ b. (b && not (e.lines Protect)) ≡ false) h sound.protected)

pub held_units : HeldUnitsStay
held_units ds rest sound u h calls =
    (run_safe u (drive ds u) ds rest
    (record {
      guarded =
          record { held = h; protect = protected_by (drive ds u) (sound.each u) h; same = record { marks = λ p c h s. refl; bytes = λ p c h s i. refl } };
      clear = tt;
    })
    calls).guarded.same
