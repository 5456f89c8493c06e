-- What is shown of checks.
use Rattle.std.specs.Prelude.{◌≡◌, ℕ, ◌+◌, ◌*◌, ◌%◌, ◌^◌, ◌<◌, ◌≤◌, List, [], ◌∷◌, ◌++◌, length, codes}
use Rattle.std.specs.List.{AllByRecursion}
use Rattle.check_bytes.specs.Polynomials.{Degree, IsRemainder, remainder}
use Rattle.check_bytes.specs.Checks.{check_of, dividend, fed, check_bytes}
use Rattle.check_bytes.specs.Rules.{crc16, lrc16}

-- all of these are bytes
abbrev pub Bytes : List ℕ → Type 0
Bytes bytes = AllByRecursion (λ byte. byte < 2 ^ 8) bytes

-- long division leaves a remainder
abbrev pub DivisionLeavesARemainder : Type 0
DivisionLeavesARemainder = (g n k m : ℕ) → Degree g n → m < 2 ^ (n + k) → IsRemainder g n m (remainder g n k m)

-- and there is only one
abbrev pub OnlyOneRemainder : Type 0
OnlyOneRemainder = (g n m r s : ℕ) → Degree g n → IsRemainder g n m r → IsRemainder g n m s → r ≡ s

-- the check of any bytes, from any start, is the remainder of their dividend
abbrev pub CheckIsTheRemainder : Type 0
CheckIsTheRemainder =
    (g n start : ℕ) (bytes : List ℕ) → Degree g n → start < 2 ^ n → Bytes bytes → IsRemainder g n (dividend n start bytes) (check_of g n start bytes)

-- no bytes leave the register as it started
abbrev pub NothingFed : Type 0
NothingFed = (g n start : ℕ) → check_of g n start [] ≡ start

-- the check of one byte more is the check so far, fed that byte
abbrev pub OneByteMore : Type 0
OneByteMore =
    (g n start : ℕ) (bytes : List ℕ) (byte : ℕ) → Degree g n → start < 2 ^ n → Bytes bytes → byte < 2 ^ 8 → check_of g n start (bytes ++ (byte ∷ [])) ≡ fed g n (check_of g n start bytes) byte

-- bytes followed by their own check leave nothing: the check of w bytes by a generator of degree 8 w, from any start
abbrev pub OwnCheckLeavesNothing : Type 0
OwnCheckLeavesNothing =
    (g width start : ℕ) (bytes : List ℕ) → Degree g (8 * width) → start < 2 ^ (8 * width) → Bytes bytes → check_of g (8 * width) start (bytes ++ check_bytes width (check_of g (8 * width) start bytes)) ≡ 0

-- damage is seen: where a run of bytes no longer than the check is changed, the check changes too, if the generator has
-- a constant term
abbrev pub DamageIsSeen : Type 0
DamageIsSeen =
    (g n start : ℕ) (before run other after : List ℕ) → Degree g n → g % 2 ≡ 1 → start < 2 ^ n → Bytes (before ++ (run ++ after)) → Bytes other → length other ≡ length run → 8 * length run ≤ n → check_of g n start (before ++ (run ++ after)) ≡ check_of g n start (before ++ (other ++ after)) → run ≡ other

-- worked examples
pub record Examples : Type 0 where
  pub crc_nothing_from_zeros : check_of crc16 16 0 [] ≡ 0
  pub crc_nothing_from_ones : check_of crc16 16 0xffff [] ≡ 0xffff
  pub lrc_nothing_from_zeros : check_of lrc16 16 0 [] ≡ 0
  pub lrc_nothing_from_ones : check_of lrc16 16 0xffff [] ≡ 0xffff
  pub crc_digits_from_zeros : check_of crc16 16 0 (codes "123456789") ≡ 0x31c3
  pub crc_digits_from_ones : check_of crc16 16 0xffff (codes "123456789") ≡ 0x29b1
  pub lrc_three_bytes_from_zeros : check_of lrc16 16 0 (0x12 ∷ 0x34 ∷ 0x56 ∷ []) ≡ 0x3444
  pub lrc_two_bytes_from_ones : check_of lrc16 16 0xffff (0x12 ∷ 0x34 ∷ []) ≡ 0xedcb
