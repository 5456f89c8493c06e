-- Multiples of a polynomial, and polynomials that differ by one.
use Rattle.std.proofs.Common.{◌≡◌, ℕ, zero, suc, ◌+◌, ◌*◌, ◌^◌, ◌<◌, ◌≤◌, Bool, true, false, cond, ◌⊎◌, List, [], ◌∷◌, sym, refl, ap, ◌∙◌, subst, inl, inr, mul_assoc, pow-suc, mul-one, arith, pow-add}
use lib.Bits.{bit_xor, xor_comm, xor_self, xor_zero_r, xor_lt}
use Rattle.std.proofs.Math.Bool.{xor}
use Rattle.check_bytes.specs.Polynomials.{Degree, product}
use Rattle.check_bytes.proofs.Xor.{xor_swap, xor_cancel, xor_join, xor_zero_eq, xor_shl}

-- m is a multiple of g
abbrev pub Multiple : ℕ → ℕ → Type 0
Multiple g m = (q : List Bool) × (m ≡ product q g)

-- the sum of two coefficients
coefficients : (c d : Bool) (g : ℕ) → cond (xor c d) g 0 ≡ bit_xor (cond c g 0) (cond d g 0)
unfolding xor
coefficients c d g = grind (arith, xor_self g, xor_zero_r g)

-- the sum of two quotients
sum : List Bool → List Bool → List Bool
sum [] q = q
sum (c ∷ p) [] = c ∷ p
sum (c ∷ p) (d ∷ q) = xor c d ∷ sum p q

sum_is : (p q : List Bool) (g : ℕ) → product (sum p q) g ≡ bit_xor (product p g) (product q g)
unfolding sum
sum_is [] q g = refl
sum_is (c ∷ p) [] g = sym (xor_zero_r (product (c ∷ p) g))
sum_is (c ∷ p) (d ∷ q) g =
    rw (coefficients c d g, sum_is p q g, xor_shl 1 (product p g) (product q g)) (xor_swap (cond c g 0) (cond d g 0) (product p g * 2) (product q g * 2))

module _ {g : ℕ} where
  pub multiple_0 : Multiple g 0
  multiple_0 = ([], refl)

  pub multiple_self : Multiple g g
  multiple_self = (true ∷ [], sym (xor_zero_r g))

  pub multiple_sum : {a b : ℕ} → Multiple g a → Multiple g b → Multiple g (bit_xor a b)
  multiple_sum {a} {b} (p, ep) (q, eq) = (sum p q, rw (ep, eq) (sym (sum_is p q g)))

  pub multiple_double : {a : ℕ} → Multiple g a → Multiple g (a * 2)
  multiple_double (q, e) = (false ∷ q, ap (λ x. x * 2) e)

  pub multiple_shl : {a : ℕ} (k : ℕ) → Multiple g a → Multiple g (a * 2 ^ k)
  multiple_shl {a} zero h = rw mul-one h
  multiple_shl {a} (suc k) h = rw (pow-suc 2 k, ← mul_assoc a (2 ^ k) 2) (multiple_double (multiple_shl k h))

-- twice p, of a degree of n and more, stays so high with a polynomial of degree n added to it
stays_high : (g n p : ℕ) → g < 2 ^ (n + 1) → 2 ^ n ≤ p → 2 ^ n ≤ bit_xor g (p * 2)
stays_high g n p hg hp = grind (arith, xor_lt (n + 1) g (bit_xor g (p * 2)) hg, pow-add 2 n 1, xor_cancel g (p * 2))

-- a multiple is 0, or its degree is at least that of g
none_or_high : (g n : ℕ) → Degree g n → (q : List Bool) → (product q g ≡ 0) ⊎ (2 ^ n ≤ product q g)
none_or_high g n deg [] = inl refl
none_or_high g n deg (true ∷ q) = elim (none_or_high g n deg q) [
  | inl e ↦ inr (rw (e, xor_zero_r g) deg.0)
  | inr h ↦ inr (stays_high g n (product q g) deg.1 h)
]
none_or_high g n deg (false ∷ q) = elim (none_or_high g n deg q) [ inl e ↦ inl (omega arith) | inr h ↦ inr (omega arith) ]

-- a and b differ by a multiple of g
abbrev pub Same : ℕ → ℕ → ℕ → Type 0
Same g a b = Multiple g (bit_xor a b)

module _ {g : ℕ} where
  pub same_refl : (a : ℕ) → Same g a a
  same_refl a = subst (Multiple g) (sym (xor_self a)) multiple_0

  pub same_trans : (a b c : ℕ) → Same g a b → Same g b c → Same g a c
  same_trans a b c h k = subst (Multiple g) (xor_join a b c) (multiple_sum h k)

  pub same_sym : (a b : ℕ) → Same g a b → Same g b a
  same_sym a b h = subst (Multiple g) (xor_comm a b) h

  pub same_sum : (a b c d : ℕ) → Same g a b → Same g c d → Same g (bit_xor a c) (bit_xor b d)
  same_sum a b c d h k = subst (Multiple g) (xor_swap a b c d) (multiple_sum h k)

  pub same_shl : (k a b : ℕ) → Same g a b → Same g (a * 2 ^ k) (b * 2 ^ k)
  same_shl k a b h = subst (Multiple g) (xor_shl k a b) (multiple_shl k h)

-- below the degree of g only equals differ by a multiple
pub same_below : (g n a b : ℕ) → Degree g n → a < 2 ^ n → b < 2 ^ n → Same g a b → a ≡ b
same_below g n a b deg ha hb (q, e) = elim (none_or_high g n deg q) [
  | inl z ↦ xor_zero_eq a b (e ∙ z)
  | inr h ↦ let low : bit_xor a b < 2 ^ n = xor_lt n a b ha hb in absurd (omega arith)
]
