-- The two rules of sixteen bits, and a check's bytes.
use Rattle.std.proofs.Common.{◌≡◌, ℕ, zero, suc, ◌+◌, ◌-◌, ◌*◌, ◌/◌, ◌%◌, ◌^◌, ◌<◌, ◌≤◌, List, [], ◌∷◌, map, get_or, take, drop, take_all, sym, refl, ap, ◌∙◌, subst, le_of_suc-le-suc, not-suc-le-zero, mul_assoc, mul_comm, pow-suc, zero-mul, zero-add, lit<, lit≤, arith}
use lib.Bits.{bit_xor, xor_shifted, xor_zero_r}
use Rattle.std.proofs.lemmas.Nat.{xor_of_8}
use Rattle.std.specs.Int.{w32, to_be_bytes, to_le_bytes}
use Rattle.std.specs.List.{range_with_len}
use Rattle.std.proofs.lemmas.List.FromFn.{get_or-range_with_len, get_or-map-range_with_len}
use Rattle.check_bytes.specs.Polynomials.{Degree, remainder}
use Rattle.check_bytes.specs.Checks.{fed, check_bytes}
use Rattle.check_bytes.specs.Rules.{lrc16}
use Rattle.check_bytes.proofs.Xor.{xor_shl, xor_swap}
use Rattle.check_bytes.proofs.Multiples.{Multiple, Same, multiple_0, multiple_self, multiple_sum, multiple_double}
use Rattle.check_bytes.proofs.Division.{remainder_same}
use Rattle.check_bytes.proofs.Feeding.{fed_by_parts}
use Rattle.check_bytes.proofs.Messages.{check_bytes_length}

-- what each byte, times x^n, leaves: a list that antt computes
abbrev pub entries : ℕ → ℕ → List ℕ
entries g n = map (λ byte. remainder g n 8 (byte * 2 ^ n)) (range_with_len 0 256)

pub entry_is : (g n byte : ℕ) → byte < 256 → get_or (entries g n) byte 0 ≡ remainder g n 8 (byte * 2 ^ n)
entry_is g n byte h = get_or-map-range_with_len (λ byte. remainder g n 8 (byte * 2 ^ n)) 0 256 byte byte 0 h (omega arith)

-- x^n + 1 divides q x^n + q
folds_under : (n k q : ℕ) → q < 2 ^ k → Multiple (bit_xor (1 * 2 ^ n) 1) (bit_xor (q * 2 ^ n) q)
folds_under n zero q h =
    let z : q ≡ 0 = omega arith in
    subst (λ (x : ℕ). Multiple (bit_xor (1 * 2 ^ n) 1) (bit_xor (x * 2 ^ n) x)) (sym z) (subst (Multiple (bit_xor (1 * 2 ^ n) 1)) (sym (xor_zero_r (0 * 2 ^ n) ∙ zero-mul (2 ^ n))) multiple_0)
folds_under n (suc k) q h =
    let e : 2 ^ suc k ≡ 2 ^ k * 2 = pow-suc 2 k in
    let half : q / 2 < 2 ^ k = omega arith in
    let parts : bit_xor (q / 2 * 2) (q % 2) ≡ q = xor_shifted (q / 2) 1 (q % 2) (omega arith) ∙ omega arith in
    let ih : Multiple (bit_xor (1 * 2 ^ n) 1) (bit_xor (q / 2 * 2 ^ n) (q / 2) * 2) = multiple_double (folds_under n k (q / 2) half) in
    let both : Multiple (bit_xor (1 * 2 ^ n) 1) (bit_xor (bit_xor (q / 2 * 2 ^ n) (q / 2) * 2) (bit_xor ((q % 2) * 2 ^ n) (q % 2))) = multiple_sum ih (bit (q % 2) (omega arith)) in
    subst (Multiple (bit_xor (1 * 2 ^ n) 1))
    (ap (λ x. bit_xor x (bit_xor ((q % 2) * 2 ^ n) (q % 2))) (xor_shl 1 (q / 2 * 2 ^ n) (q / 2))
    ∙ xor_swap (q / 2 * 2 ^ n * 2) (q / 2 * 2) ((q % 2) * 2 ^ n) (q % 2)
    ∙ ap (λ x. bit_xor (bit_xor x ((q % 2) * 2 ^ n)) (bit_xor (q / 2 * 2) (q % 2))) (mul_assoc (q / 2) (2 ^ n) 2 ∙ ap (λ x. q / 2 * x) (mul_comm (2 ^ n) 2) ∙ sym (mul_assoc (q / 2) 2 (2 ^ n)))
    ∙ ap (λ x. bit_xor x (bit_xor (q / 2 * 2) (q % 2))) (sym (xor_shl n (q / 2 * 2) (q % 2)))
    ∙ ap (λ x. bit_xor (x * 2 ^ n) x) parts)
    both
  where
    bit : (j : ℕ) → j < 2 → Multiple (bit_xor (1 * 2 ^ n) 1) (bit_xor (j * 2 ^ n) j)
    bit zero h = subst (Multiple (bit_xor (1 * 2 ^ n) 1)) (sym (xor_zero_r (0 * 2 ^ n) ∙ zero-mul (2 ^ n))) multiple_0
    bit (suc zero) h = multiple_self
    bit (suc (suc j)) h = absurd (not-suc-le-zero (le_of_suc-le-suc (le_of_suc-le-suc h)))

pub folds : (n byte : ℕ) → byte < 2 ^ 8 → Same (bit_xor (1 * 2 ^ n) 1) (byte * 2 ^ n) byte
folds n byte h = folds_under n 8 byte h

-- x^16 + 1 leaves of a byte times x^16 the byte
pub folds_sixteen : (byte : ℕ) → byte < 256 → byte ≡ remainder lrc16 16 8 (byte * 2 ^ 16)
unfolding remainder
folds_sixteen byte h = sym (get_or-range_with_len 0 256 byte 0 h ∙ zero-add byte) ∙ entry_is lrc16 16 byte h

-- a byte step of sixteen bits by the register's two low bytes: `left` is what the byte that passes x^16 leaves
pub fed_by_bytes : (g register byte left : ℕ) (bytes : List ℕ) → Degree g 16 → byte < 2 ^ 8 → bytes ≡ to_le_bytes w32 register → left < 2 ^ 16 → left ≡ remainder g 16 8 (bit_xor (get_or bytes 1 0) byte * 2 ^ 16) → bit_xor left (get_or bytes 0 0 * 2 ^ 8 % 2 ^ 32) ≡ fed g 16 register byte
fed_by_bytes g register byte left bytes deg hb is hl leaves =
    let low : get_or bytes 0 0 * 2 ^ 8 % 2 ^ 32 ≡ (register % 2 ^ 16 % 2 ^ 8) * 2 ^ 8 = rw is (omega arith) in
    let high : get_or bytes 1 0 ≡ register % 2 ^ 16 / 2 ^ 8 = rw is (omega arith) in
    ap (bit_xor left) low ∙ fed_by_parts g 8 register byte left deg hb hl (rw (leaves, high) (remainder_same g 16 8 _))

-- the same by x^16 + 1, where the byte that passes x^16 comes back as it is
pub folded_by_bytes : (register byte high : ℕ) (bytes : List ℕ) → byte < 2 ^ 8 → bytes ≡ to_le_bytes w32 register → high ≡ register / 2 ^ 8 % 2 ^ 8 → bit_xor (bit_xor high byte) (get_or bytes 0 0 * 2 ^ 8 % 2 ^ 32) ≡ fed lrc16 16 register byte
folded_by_bytes register byte high bytes hb is e =
    let same : get_or bytes 1 0 ≡ high = rw is (omega arith) in
    let left : bit_xor high byte < 256 = xor_of_8 high byte (omega arith) hb in
    fed_by_bytes lrc16 register byte _ bytes (lit≤ tt, lit< tt) hb is (omega arith) (rw same (folds_sixteen _ left))

-- the bytes of a check by their places
pub byte_inside : (width value i : ℕ) → i < width → get_or (check_bytes width value) i 0 ≡ value / 2 ^ (8 * (width - 1 - i)) % 2 ^ 8
byte_inside zero value i h = absurd (not-suc-le-zero h)
byte_inside (suc width) value zero h = ap (λ k. value / 2 ^ (8 * k) % 2 ^ 8) (omega arith)
byte_inside (suc width) value (suc i) h = byte_inside width value i (le_of_suc-le-suc h) ∙ ap (λ k. value / 2 ^ (8 * k) % 2 ^ 8) (omega arith)

pub byte_outside : (width value i : ℕ) → width ≤ i → get_or (check_bytes width value) i 0 ≡ 0
byte_outside zero value i h = refl
byte_outside (suc width) value zero h = absurd (not-suc-le-zero h)
byte_outside (suc width) value (suc i) h = byte_outside width value i (le_of_suc-le-suc h)

-- a check's bytes are the last ones of more
last_bytes : (j k width value : ℕ) → j + width ≡ k → drop j (check_bytes k value) ≡ check_bytes width value
last_bytes zero k width value e = let same : k ≡ width = omega arith in rw same refl
last_bytes (suc j) zero width value e = absurd (omega arith)
last_bytes (suc j) (suc k) width value e = last_bytes j k width value (omega arith)

-- as `bytes[4 - width..]` is read
pub shown_bytes : (n width value : ℕ) (bytes : List ℕ) → 8 * width ≡ n → n ≤ 32 → bytes ≡ to_be_bytes w32 value → take (4 - (4 - width)) (drop (4 - width) bytes) ≡ check_bytes (n / 8) value
shown_bytes n width value bytes is narrow all =
    let four : bytes ≡ check_bytes 4 value = all ∙ ap (λ low. value / 2 ^ 24 % 256 ∷ value / 2 ^ 16 % 256 ∷ value / 2 ^ 8 % 256 ∷ low ∷ []) (omega arith) in
    let e : n / 8 ≡ width = omega arith in
    rw (four, e, last_bytes (4 - width) 4 width value (omega arith)) (take_all _ _ (omega (arith, check_bytes_length width value)))
