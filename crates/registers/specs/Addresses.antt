-- From one sector of a transfer to the next.
use Rattle.std.specs.Prelude.{ℕ, ◌+◌, ◌-◌, ◌%◌, Bool, cond, not, ◌&&◌, ◌==◌}
use Rattle.registers.specs.declared.numbers.Numbers.{Numbers}
use Rattle.registers.specs.declared.setting.Setting.{Setting}

-- SCNT falls by 1
abbrev pub counted : Numbers → Numbers
counted n = record n { count = n.count - 1 }

-- LSN is ESN and LHN is ETN
abbrev pub is_last : Setting → Numbers → Bool
is_last setting n = n.address.sector.0 == setting.last_sector.0 && n.address.head.0 == setting.last_head.0

-- one more, in a byte
abbrev pub next_byte : ℕ → ℕ
next_byte n = (n + 1) % 256

-- LSN rises by 1, or falls to 0 if it was ESN; only then LHN and PHN rise by 1, or fall to 0 with LCN rising by 1 if LHN
-- was ETN. Sums wrap.
abbrev pub advanced : Setting → Numbers → Numbers
advanced setting n =
    cond (not (n.address.sector.0 == setting.last_sector.0))
    (record n { address = record { cylinder = n.address.cylinder; head = n.address.head; sector = record { 0 = next_byte n.address.sector.0 } } })
    (cond (not (n.address.head.0 == setting.last_head.0))
    (record n {
      head = record { 0 = next_byte n.head.0 };
      address = record { cylinder = n.address.cylinder; head = record { 0 = next_byte n.address.head.0 }; sector = record { 0 = 0 } };
    })
    (record n {
      head = record { 0 = 0 };
      address =
          record { cylinder = record { 0 = (n.address.cylinder.0 + 1) % 65536 }; head = record { 0 = 0 }; sector = record { 0 = 0 } };
    }))
