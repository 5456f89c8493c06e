-- Sums of polynomials.
use Rattle.std.proofs.Common.{◌≡◌, ℕ, ◌+◌, ◌-◌, ◌*◌, ◌^◌, ◌<◌, ◌≤◌, sym, add-zero, arith, refl, pow_pos}
use lib.Bits.{bit_xor, xor_comm, xor_assoc, xor_self, xor_zero_r, xor_lt, xor_block}

-- (a + b) + (c + d) = (a + c) + (b + d)
pub xor_swap : (a b c d : ℕ) → bit_xor (bit_xor a b) (bit_xor c d) ≡ bit_xor (bit_xor a c) (bit_xor b d)
xor_swap a b c d = grind (arith, xor_assoc, xor_comm)

-- a + (a + b) = b
pub xor_cancel : (a b : ℕ) → bit_xor a (bit_xor a b) ≡ b
xor_cancel a b = rw (← xor_assoc a a b, xor_self a) refl

-- (a + b) + (b + c) = a + c
pub xor_join : (a b c : ℕ) → bit_xor (bit_xor a b) (bit_xor b c) ≡ bit_xor a c
xor_join a b c = rw (xor_assoc a b, xor_cancel b c) refl

-- (a + b) + c = (a + c) + b
pub xor_right : (a b c : ℕ) → bit_xor (bit_xor a b) c ≡ bit_xor (bit_xor a c) b
xor_right a b c = grind (arith, xor_assoc, xor_comm)

-- only equals add up to 0
pub xor_zero_eq : (a b : ℕ) → bit_xor a b ≡ 0 → a ≡ b
xor_zero_eq a b e = cc (xor_cancel a b, xor_zero_r a)

-- (a + b) x^k = a x^k + b x^k
pub xor_shl : (k a b : ℕ) → bit_xor a b * 2 ^ k ≡ bit_xor (a * 2 ^ k) (b * 2 ^ k)
xor_shl k a b = sym (simp add-zero at (xor_block k a b 0 0 (pow_pos k) (pow_pos k)))

-- the sum of two polynomials of the degree j has a lower one
pub top_cancels : (j a b : ℕ) → 2 ^ j ≤ a → a < 2 ^ j * 2 → 2 ^ j ≤ b → b < 2 ^ j * 2 → bit_xor a b < 2 ^ j
top_cancels j a b la ha lb hb =
    let p : a - 2 ^ j < 2 ^ j = omega arith in
    let q : b - 2 ^ j < 2 ^ j = omega arith in
    let ea : 1 * 2 ^ j + (a - 2 ^ j) ≡ a = omega arith in
    let eb : 1 * 2 ^ j + (b - 2 ^ j) ≡ b = omega arith in
    let low : bit_xor (a - 2 ^ j) (b - 2 ^ j) < 2 ^ j = xor_lt j _ _ p q in
    omega (arith, rw (ea, eb) at (xor_block j 1 1 (a - 2 ^ j) (b - 2 ^ j) p q))
