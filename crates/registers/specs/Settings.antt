-- Specify: MODE, DTLH, DTLL, ETN, ESN, GPL2, RWCH, RWCL, the last three without effect.
use Rattle.std.specs.Prelude.{ℕ, ◌+◌, ◌*◌, ◌%◌, Bool, cond, not, ◌&&◌, ◌||◌, List, Some, None, Option, nat_lt, slice_index}
use Rattle.check_bytes.specs.declared.kind.CheckKind.{CheckKind}
use Rattle.check_bytes.specs.declared.kind.CheckKind.TheVariants.{Crc, Lrc}
use Rattle.check_bytes.specs.declared.rule.Start.{Start}
use Rattle.check_bytes.specs.declared.rule.Start.TheVariants.{Zeros, Ones}
use Rattle.check_bytes.specs.declared.scheme.CheckScheme.{CheckScheme}
use Rattle.registers.specs.declared.setting.Setting.{Setting}
use Rattle.registers.specs.Bits.{bit}

-- MODE is 0, ECC (must be 0), CRCS, SSEC (must be 1), and four step bits without effect
abbrev pub mode_legal : ℕ → Bool
mode_legal mode = not (bit 7 mode) && (not (bit 6 mode) && bit 4 mode)

-- DTLH is 1, CRC, PAD (without effect), POL (must be 1), and the four high bits of the data length
abbrev pub length_byte_legal : ℕ → Bool
length_byte_legal high = bit 7 high && bit 4 high

-- CRCS 1 chooses x^16 + 1
abbrev pub rule_chosen : ℕ → CheckKind
rule_chosen mode = cond (bit 5 mode) Lrc Crc

-- CRC 1 starts the check register at FFFF
abbrev pub start_chosen : ℕ → Start
start_chosen high = cond (bit 6 high) Ones Zeros

-- the data length, DTL
abbrev pub data_length : ℕ → ℕ → ℕ
data_length high low = high % 16 * 256 + low

-- the setting that legal MODE, DTLH, DTLL, ETN and ESN ask for; none where one is not legal or the length is below 128
abbrev pub setting_from : ℕ → ℕ → ℕ → ℕ → ℕ → Option Setting
setting_from mode high low last_head last_sector =
    cond (not (mode_legal mode) || (not (length_byte_legal high) || nat_lt (data_length high low) 128)) None
    (Some (record {
      id_rule = rule_chosen mode;
      data_rule = rule_chosen mode;
      start = start_chosen high;
      length = data_length high low;
      last_head = record { 0 = last_head };
      last_sector = record { 0 = last_sector };
    }))

abbrev pub specified : List ℕ → Option Setting
specified p = setting_from (slice_index p 0) (slice_index p 1) (slice_index p 2) (slice_index p 3) (slice_index p 4)

-- the check of an ID is by its rule, from the register's start
abbrev pub id_scheme : Setting → CheckScheme CheckKind
id_scheme setting = record { rule = setting.id_rule; start = setting.start }

-- that of a data field by its own rule, from the same start
abbrev pub data_scheme : Setting → CheckScheme CheckKind
data_scheme setting = record { rule = setting.data_rule; start = setting.start }
