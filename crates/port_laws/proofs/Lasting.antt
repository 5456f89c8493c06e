-- Every command ends.
use Rattle.std.proofs.Common.{◌≡◌, ℕ, ◌+◌, ◌-◌, ◌*◌, ◌<◌, ◌≤◌, Bool, true, false, List, [], ◌∷◌, ◌++◌, length, Some, None, Option, ap, add-mul, arith, get_or, zero, suc, is_some, Ok, Err, Result, cond, not, ◌&&◌, sym, subst, ⊎_elim, refl}
use Rattle.std.proofs.lemmas.Bool.{cases_Bool, true≢false}
use Rattle.std.proofs.lemmas.Grind.{common_steps}
use Rattle.std.specs.declared.ops.ControlFlow.TheVariants.{Continue, Break}
use Rattle.std.specs.ControlFlow.{break_value}
use Rattle.std.specs.Prelude.{IsSome, ◌==◌}
use Rattle.registers.specs.declared.end.End.{End}
use Rattle.registers.specs.declared.numbers.Numbers.{Numbers}
use Rattle.registers.specs.declared.running.Stage.{Stage}
use Rattle.registers.specs.declared.running.Stage.TheVariants.{Search, Bytes, CheckBytes, Waiting}
use Rattle.registers.specs.declared.running.Transfer.{Transfer}
use Rattle.registers.specs.declared.running.Format.{Format}
use Rattle.registers.specs.declared.setting.Setting.{Setting}
use Rattle.registers.specs.Addresses.{advanced}
use Rattle.transfers.specs.Steps.{Path, Outcome}
use Rattle.controller.specs.Turns.{seek_turn, recalibrate_turn, transfer_follows, format_follows, turn_of}
use Rattle.controller.specs.State.{State, fresh, path_of, with_path}
use Rattle.controller.specs.Starting.{parameters, unless_refused}
use Rattle.runs.specs.declared.call.Call.{Call}
use Rattle.runs.specs.declared.call.Call.TheVariants.{WriteData, ReadData, WriteCommand, Turn, TerminalCount, SetLine, Reset}
use Rattle.runs.specs.Calls.{call_step, after}
use Rattle.drives.specs.Drives.{Drive}
use Rattle.drives.specs.Sound.{Rest}
use Rattle.registers.specs.declared.refusal.Refusal.{Refusal}
use Rattle.registers.specs.declared.refusal.Refusal.TheVariants.{Busy}
use Rattle.registers.specs.declared.command.Auxiliary.{Auxiliary}
use Rattle.registers.specs.declared.command.Command.{Command}
use Rattle.registers.specs.declared.command.Command.TheVariants as command
use Rattle.registers.specs.Commands.{code_of, unit_of, disk_command, decided}
use Rattle.registers.specs.declared.running.Running.{Running}
use Rattle.registers.specs.declared.running.Running.TheVariants as running
use Rattle.drives.specs.declared.numbers.PhysicalCylinder.{PhysicalCylinder}
use Rattle.transfers.specs.Transfers.{stopped, on_search, byte_turn, counted_on, check_turn, transfer_turn}
use Rattle.transfers.specs.Formats.{format_turn}
use Rattle.drives.specs.declared.numbers.Slot.{Slot}
use Rattle.registers.specs.declared.kind.Kind.{Kind}
use Rattle.port_laws.proofs.Records.{Narrow, recalled_small, moved_four, recalled_four, moved_small, zero_narrow, pulse_nearer}
use Rattle.port_laws.specs.OfEnds.{CommandsEnd, IsByte, AreBytes, StaysBusy, turns_among, counts, busy, waits, left_of, turns_left, sector_turns, stage_left, slots_left, waits_in}

-- ---- what a running transfer keeps

abbrev GoodStage : Stage → Transfer → Type 0
GoodStage (Search first) t = 0 < t.numbers.count
GoodStage (Bytes slot done) t = (0 < t.numbers.count) × (done < t.setting.length)
GoodStage (CheckBytes slot) t = 0 < t.numbers.count
GoodStage (Waiting e) t = Unit {0}

abbrev GoodTransfer : Transfer → Type 0
GoodTransfer t = (0 < t.setting.length) × GoodStage t.stage t

-- it goes on well, with fewer turns left than `n`
abbrev Fewer : ℕ → Outcome Transfer → Type 0
Fewer n (Continue t) = GoodTransfer t × (stage_left t.stage t < n)
Fewer n (Break b) = Unit {0}

more_sectors : (count n : ℕ) → 0 < count → count * n ≡ (count - 1) * n + n
more_sectors count n l =
    let e : count ≡ (count - 1) + 1 = omega arith in
    omega (arith, ap (λ c. c * n) e, add-mul (count - 1) 1 n)

-- the advance leaves SCNT as it is
advanced_count : (s : Setting) (m : Numbers) → (advanced s m).count ≡ m.count
advanced_count s m = grind (arith, common_steps)

module _ (t : Transfer) (long : 0 < t.setting.length) (p : Path) where
  -- an end that waits takes one more turn
  stop_fewer : (m : Numbers) (e : End) (n : ℕ) → 1 < n → Fewer n (stopped e (record t { numbers = m }))
  stop_fewer m e n l = grind (arith, common_steps)

  -- a sector is done, and `n` is more than what the others take
  count_fewer : (m : Numbers) (n : ℕ) → m.count * sector_turns t + 2 ≤ n → Fewer n (counted_on m t)
  count_fewer m n l = grind (arith, common_steps, advanced_count)

  search_fewer : (o : Option Slot) → 0 < t.numbers.count → Fewer (t.numbers.count * sector_turns t + 1) (on_search o t p).0
  search_fewer o l = let e = more_sectors t.numbers.count (sector_turns t) l in grind (arith, common_steps)

  byte_fewer : (kind : Kind) (slot : Slot) (done : ℕ) → 0 < t.numbers.count → done < t.setting.length → Fewer ((t.numbers.count - 1) * sector_turns t + (t.setting.length - done) + 2) (byte_turn kind slot done t p).0
  byte_fewer kind slot done l m = grind (arith, common_steps)

  check_fewer : (slot : Slot) → 0 < t.numbers.count → Fewer ((t.numbers.count - 1) * sector_turns t + 2) (check_turn slot t p).0
  check_fewer slot l = grind (arith, common_steps, count_fewer, stop_fewer)

  transfer_fewer : GoodStage t.stage t → waits_in t.stage ≡ false → Fewer (stage_left t.stage t) (transfer_turn t p).0
  transfer_fewer g w = grind (arith, common_steps, search_fewer, byte_fewer, check_fewer)

-- a waiting transfer is left as it is, or over
abbrev Waits : Transfer → Outcome Transfer → Type 0
Waits t (Continue t') = t' ≡ t
Waits t (Break b) = Unit {0}

transfer_waits : (t : Transfer) (p : Path) → waits_in t.stage ≡ true → Waits t (transfer_turn t p).0
transfer_waits t p w = grind (arith, common_steps)

waiting_over : (t : Transfer) (p : Path) → waits_in t.stage ≡ true → length p.buffer ≡ 0 → IsSome (break_value (transfer_turn t p).0)
waiting_over t p w e = grind (arith, common_steps)

abbrev FewerSlots : Format → Outcome Format → Type 0
FewerSlots f (Continue f') = (0 < f'.count) × (slots_left f'.stage f'.count < slots_left f.stage f.count)
FewerSlots f (Break b) = Unit {0}

format_fewer : (f : Format) (p : Path) → 0 < f.count → FewerSlots f (format_turn f p).0
format_fewer f p l = grind (arith, common_steps)

-- ---- what every state keeps

-- the bytes of parameters
abbrev AllSmall : List ℕ → Type 0
AllSmall [] = Unit {0}
AllSmall (x ∷ xs) = (x < 256) × AllSmall xs

-- the running command: its target in sixteen bits, its pulses at most 1,023, sectors or slots left
abbrev GoodRunning : Option Running → Type 0
GoodRunning None = Unit {0}
GoodRunning (Some (running.Seek unit target)) = target.0 < 65536
GoodRunning (Some (running.Recalibrate unit pulses)) = pulses < 1024
GoodRunning (Some (running.Transfer t)) = GoodTransfer t
GoodRunning (Some (running.Format f)) = 0 < f.count

abbrev GoodSetting : Option Setting → Type 0
GoodSetting None = Unit {0}
GoodSetting (Some x) = 0 < x.length

-- while no command runs, the parameters in the buffer are bytes
abbrev GoodBuffer : Option Running → List ℕ → Type 0
GoodBuffer None bytes = AllSmall bytes
GoodBuffer (Some r) bytes = Unit {0}

record Good (s : State) : Type 0 where
  pub runs : GoodRunning s.registers.running
  pub setting : GoodSetting s.registers.setting
  pub narrow : Narrow s.registers.units
  pub small : GoodBuffer s.registers.running (parameters s)

AllSmall-push : (xs : List ℕ) (x : ℕ) → AllSmall xs → x < 256 → AllSmall (xs ++ (x ∷ []))
AllSmall-push [] x k l = (l, tt)
AllSmall-push (y ∷ ys) x k l = (k.0, AllSmall-push ys x k.1 l)

AllSmall-at : (xs : List ℕ) (i : ℕ) → AllSmall xs → get_or xs i 0 < 256
AllSmall-at [] i k = omega arith
AllSmall-at (x ∷ xs) zero k = k.0
AllSmall-at (x ∷ xs) (suc i) k = AllSmall-at xs i k.1

-- ---- turns

seek_good : (unit : ℕ) (target : PhysicalCylinder) (s : State) → Good s → s.registers.running ≡ Some (running.Seek unit target) → Good (seek_turn unit target s)
seek_good unit target s k e = grind (arith, common_steps, moved_four, moved_small)

seek_fewer : (unit : ℕ) (target : PhysicalCylinder) (s : State) → Good s → s.registers.running ≡ Some (running.Seek unit target) → turns_left (seek_turn unit target s) + 1 ≤ left_of (Some (running.Seek unit target)) s.registers.units
seek_fewer unit target s k e = grind (arith, common_steps, pulse_nearer)

recalibrate_good : (unit pulses : ℕ) (s : State) → Good s → s.registers.running ≡ Some (running.Recalibrate unit pulses) → Good (recalibrate_turn unit pulses s)
recalibrate_good unit pulses s k e = grind (arith, common_steps)

recalibrate_fewer : (unit pulses : ℕ) (s : State) → pulses < 1024 → turns_left (recalibrate_turn unit pulses s) + 1 ≤ 1024 - pulses
recalibrate_fewer unit pulses s l = grind (arith, common_steps)

-- what a transfer's turn says of the state after it
abbrev GoodOutcome : Outcome Transfer → Type 0
GoodOutcome (Continue t) = GoodTransfer t
GoodOutcome (Break b) = Unit {0}

outcome_good : (t : Transfer) (p : Path) → GoodTransfer t → GoodOutcome (transfer_turn t p).0
outcome_good t p g =
    ⊎_elim (λ w. waits_good t (transfer_turn t p).0 g (transfer_waits t p w)) (λ w. fewer_good (stage_left t.stage t) (transfer_turn t p).0 (transfer_fewer t g.0 p g.1 w))
    (cases_Bool (waits_in t.stage))
  where
    waits_good : (t : Transfer) (o : Outcome Transfer) → GoodTransfer t → Waits t o → GoodOutcome o
    waits_good t o g w = grind (arith, common_steps)

    fewer_good : (n : ℕ) (o : Outcome Transfer) → Fewer n o → GoodOutcome o
    fewer_good n o f = grind (arith, common_steps)

transfer_follows_good : (o : Outcome Transfer) (p : Path) (s : State) → Good s → is_some s.registers.running ≡ true → GoodOutcome o → Good (transfer_follows o (with_path p s))
transfer_follows_good o p s k b g = grind (arith, common_steps)

transfer_follows_fewer : (t : Transfer) (o : Outcome Transfer) (p : Path) (s : State) → (waits_in t.stage ≡ false → Fewer (stage_left t.stage t) o) → (waits_in t.stage ≡ true → Waits t o) → (waits_in t.stage ≡ true → length s.buffer ≡ 0 → IsSome (break_value o)) → turns_left (transfer_follows o (with_path p s)) + cond (waits_in t.stage && not (length s.buffer == 0)) 0 1 ≤ stage_left t.stage t
transfer_follows_fewer t o p s f w e = grind (arith, common_steps)

format_follows_good : (f : Format) (o : Outcome Format) (p : Path) (s : State) → Good s → is_some s.registers.running ≡ true → FewerSlots f o → Good (format_follows o (with_path p s))
format_follows_good f o p s k b g = grind (arith, common_steps)

format_follows_fewer : (f : Format) (o : Outcome Format) (p : Path) (s : State) → 0 < f.count → FewerSlots f o → turns_left (format_follows o (with_path p s)) + 1 ≤ slots_left f.stage f.count
format_follows_fewer f o p s l g = grind (arith, common_steps)

turn_good : (r : Option Running) (s : State) → s.registers.running ≡ r → Good s → Good (turn_of r s)
turn_good None s e k = k
turn_good (Some (running.Seek unit target)) s e k = seek_good unit target s k e
turn_good (Some (running.Recalibrate unit pulses)) s e k = recalibrate_good unit pulses s k e
turn_good (Some (running.Transfer t)) s e k =
    transfer_follows_good (transfer_turn t (path_of s)).0 (transfer_turn t (path_of s)).1 s k (ap is_some e) (outcome_good t (path_of s) (subst GoodRunning e k.runs))
turn_good (Some (running.Format f)) s e k =
    format_follows_good f (format_turn f (path_of s)).0 (format_turn f (path_of s)).1 s k (ap is_some e) (format_fewer f (path_of s) (subst GoodRunning e k.runs))

-- ---- the other calls

-- a command that is taken is an auxiliary one or comes while none runs, and runs under a good setting
abbrev GoodDecision : Bool → Result Command Refusal → Type 0
GoodDecision busy (Ok (command.Auxiliary a)) = Unit {0}
GoodDecision busy (Ok (command.Format unit setting)) = (busy ≡ false) × (0 < setting.length)
GoodDecision busy (Ok (command.Transfer kind unit setting)) = (busy ≡ false) × (0 < setting.length)
GoodDecision busy (Ok other) = busy ≡ false
GoodDecision busy (Err refusal) = Unit {0}

disk_good : (code unit count : ℕ) (o : Option Setting) → GoodSetting o → GoodDecision false (Ok (disk_command code unit count o))
disk_good code unit count o g = grind (arith, common_steps)

taken_good : (here running : Bool) (a : Auxiliary) (x : Command) → GoodDecision false (Ok x) → GoodDecision running (cond here (Ok (command.Auxiliary a)) (cond running (Err Busy) (Ok x)))
taken_good true running a x g = tt
taken_good false true a x g = tt
taken_good false false a x g = g

decided_good : (byte count : ℕ) (running : Bool) (o : Option Setting) → GoodSetting o → GoodDecision running (decided byte count running o)
unfolding decided
decided_good byte count running o g = taken_good _ running _ _ (disk_good (code_of byte) (unit_of byte) count o g)

-- with no command running, what the buffer holds as parameters is bytes
parameters_small : (s : State) → Good s → is_some s.registers.running ≡ false → AllSmall (parameters s)
parameters_small s k e = grind (arith, common_steps)

command_good : (c : Result Command Refusal) (s : State) → Good s → GoodDecision (is_some s.registers.running) c → Good (unless_refused c s).1
command_good (Ok (command.Auxiliary a)) s k g = grind (arith, common_steps)
command_good (Ok command.Specify) s k g = grind (arith, common_steps)
command_good (Ok (command.SenseUnitStatus unit)) s k g = grind (arith, common_steps)
command_good (Ok (command.Recalibrate unit)) s k g = grind (arith, common_steps, recalled_four, recalled_small)
command_good (Ok (command.Seek unit)) s k g =
    let small = parameters_small s k g in
    let high = AllSmall-at (parameters s) 0 small in
    let low = AllSmall-at (parameters s) 1 small in
    grind (arith, common_steps)
command_good (Ok (command.Format unit setting)) s k g = grind (arith, common_steps)
command_good (Ok (command.Transfer kind unit setting)) s k g = grind (arith, common_steps)
command_good (Ok command.Invalid) s k g = grind (arith, common_steps)
command_good (Err refusal) s k g = k

-- ---- any call

call_good : (call : Call) (s : State) → IsByte call → Good s → Good (call_step call s).1
call_good (WriteData byte) s l k = grind (arith, common_steps, AllSmall-push)
call_good ReadData s l k = grind (arith, common_steps)
call_good (WriteCommand byte) s l k =
    command_good _ s k (decided_good byte (length (parameters s)) (is_some s.registers.running) s.registers.setting k.setting)
call_good Turn s l k = turn_good s.registers.running s refl k
call_good TerminalCount s l k = grind (arith, common_steps)
call_good (SetLine unit line value) s l k = grind (arith, common_steps)
call_good Reset s l k = grind (arith, common_steps)

command_steady : (c : Result Command Refusal) (s : State) → busy s ≡ true → GoodDecision (is_some s.registers.running) c → busy (unless_refused c s).1 ≡ true → turns_left (unless_refused c s).1 ≡ turns_left s
command_steady c s b g b' = grind (arith, common_steps)

-- a turn that does not wait leaves fewer turns, and one that waits no more
turn_fewer : (r : Option Running) (s : State) → s.registers.running ≡ r → Good s → is_some r ≡ true → turns_left (turn_of r s) + cond (waits r s.buffer) 0 1 ≤ left_of r s.registers.units
turn_fewer None s e k b = absurd (true≢false (sym b))
turn_fewer (Some (running.Seek unit target)) s e k b = seek_fewer unit target s k e
turn_fewer (Some (running.Recalibrate unit pulses)) s e k b = recalibrate_fewer unit pulses s (subst GoodRunning e k.runs)
turn_fewer (Some (running.Transfer t)) s e k b =
    let g : GoodTransfer t = subst GoodRunning e k.runs in
    transfer_follows_fewer t (transfer_turn t (path_of s)).0 (transfer_turn t (path_of s)).1 s (transfer_fewer t g.0 (path_of s) g.1) (transfer_waits t (path_of s)) (waiting_over t (path_of s))
turn_fewer (Some (running.Format f)) s e k b =
    let l : 0 < f.count = subst GoodRunning e k.runs in
    format_follows_fewer f (format_turn f (path_of s)).0 (format_turn f (path_of s)).1 s l (format_fewer f (path_of s) l)

call_fewer : (call : Call) (s : State) → Good s → busy s ≡ true → busy (call_step call s).1 ≡ true → turns_left (call_step call s).1 + counts call s ≤ turns_left s
call_fewer (WriteData byte) s k b b' = grind (arith, common_steps)
call_fewer ReadData s k b b' = grind (arith, common_steps)
call_fewer (WriteCommand byte) s k b b' =
    let g = decided_good byte (length (parameters s)) (is_some s.registers.running) s.registers.setting k.setting in
    omega (arith, command_steady _ s b g b')
call_fewer Turn s k b b' = turn_fewer s.registers.running s refl k b
call_fewer TerminalCount s k b b' = grind (arith, common_steps)
call_fewer (SetLine unit line value) s k b b' = grind (arith, common_steps)
call_fewer Reset s k b b' = absurd (true≢false (sym b'))

-- a running command has a turn left
some_left : (s : State) → Good s → busy s ≡ true → 0 < turns_left s
some_left s k b = grind (arith, common_steps)

fresh_good : (ds : List Drive) (rest : Rest) → Good (fresh ds rest)
fresh_good ds rest = record { runs = tt; setting = tt; narrow = zero_narrow; small = tt }

after_good : (ds : List Drive) (rest : Rest) (past : List Call) → AreBytes past → Good (after ds rest past)
after_good ds rest [] l = fresh_good ds rest
after_good ds rest (call ∷ past) l = call_good call (after ds rest past) l.0 (after_good ds rest past l.1)

module _ (ds : List Drive) (rest : Rest) (past : List Call) where
  last_busy : (more : List Call) → StaysBusy ds rest past more → busy (after ds rest (more ++ past)) ≡ true
  last_busy [] b = b
  last_busy (call ∷ more) b = b.1

  turns_fall : (more : List Call) → AreBytes (more ++ past) → StaysBusy ds rest past more → turns_left (after ds rest (more ++ past)) + turns_among ds rest past more ≤ turns_left (after ds rest past)
  turns_fall [] l b = omega arith
  turns_fall (call ∷ more) l b =
      let s : State = after ds rest (more ++ past) in
      let one = call_fewer call s (after_good ds rest (more ++ past) l.1) (last_busy more b.0) b.1 in
      let most = turns_fall more l.1 b.0 in
      omega arith

pub commands_end : CommandsEnd
commands_end ds rest past more l b =
    let some = some_left (after ds rest (more ++ past)) (after_good ds rest (more ++ past) l) (last_busy ds rest past more b) in
    let most = turns_fall ds rest past more l b in
    omega arith
