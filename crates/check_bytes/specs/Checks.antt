-- The check of a byte string.
use Rattle.std.specs.Prelude.{ℕ, zero, suc, ◌+◌, ◌-◌, ◌*◌, ◌/◌, ◌%◌, ◌^◌, List, [], ◌∷◌, length, fold, bit_xor}
use Rattle.check_bytes.specs.declared.rule.Start.{Start}
use Rattle.check_bytes.specs.declared.rule.Start.TheVariants.{Zeros, Ones}
use Rattle.check_bytes.specs.Polynomials.{remainder}

-- the bytes as one polynomial, first byte and high bit first
abbrev pub message : List ℕ → ℕ
message bytes = fold (λ m byte. m * 2 ^ 8 + byte) 0 bytes

-- what is divided: the bytes times x^n, with the register's start added to the first n coefficients
abbrev pub dividend : ℕ → ℕ → List ℕ → ℕ
dividend n start bytes = bit_xor (start * 2 ^ (8 * length bytes)) (message bytes * 2 ^ n)

-- the check of the bytes by g, of degree n: what the division leaves
unfoldable pub check_of : ℕ → ℕ → ℕ → List ℕ → ℕ
check_of g n start bytes = remainder g n (8 * length bytes) (dividend n start bytes)

-- the register before the first byte: all zeros or all ones in n bits
abbrev pub start_value : Start → ℕ → ℕ
start_value Zeros n = 0
start_value Ones n = 2 ^ n - 1

-- the register after one byte more; its bits from n on do not count
abbrev pub fed : ℕ → ℕ → ℕ → ℕ → ℕ
fed g n register byte = remainder g n 8 (bit_xor (register % 2 ^ n * 2 ^ 8) (byte * 2 ^ n))

-- a check as so many bytes, high byte first
abbrev pub check_bytes : ℕ → ℕ → List ℕ
check_bytes zero value = []
check_bytes (suc width) value = value / 2 ^ (8 * width) % 2 ^ 8 ∷ check_bytes width value
