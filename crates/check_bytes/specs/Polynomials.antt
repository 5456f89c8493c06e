-- Polynomials over GF(2), each as a number: bit i is the coefficient of x^i. The sum and the difference of two
-- are `bit_xor`, and x^k times p is p * 2 ^ k.
use Rattle.std.specs.Prelude.{◌≡◌, ℕ, zero, suc, ◌+◌, ◌*◌, ◌^◌, ◌<◌, ◌≤◌, Bool, cond, List, [], ◌∷◌, bit_xor, nat_le}

-- g has degree n
abbrev pub Degree : ℕ → ℕ → Type 0
Degree g n = (2 ^ n ≤ g) × (g < 2 ^ (n + 1))

-- the product q g, where q is the list of its coefficients, the constant term first
abbrev pub product : List Bool → ℕ → ℕ
product [] g = 0
product (c ∷ q) g = bit_xor (cond c g 0) (product q g * 2)

-- r is a remainder of m by g, of degree n: m = q g + r for some q, and the degree of r is below n
abbrev pub IsRemainder : ℕ → ℕ → ℕ → ℕ → Type 0
IsRemainder g n m r = (r < 2 ^ n) × ((q : List Bool) × (m ≡ bit_xor (product q g) r))

-- long division by g, of degree n, from the term x^(n + k - 1) of m down to x^n: where a term is there, g times the
-- power of x that has the same highest term is taken away
unfoldable pub remainder : ℕ → ℕ → ℕ → ℕ → ℕ
remainder g n zero m = m
remainder g n (suc k) m = remainder g n k (cond (nat_le (2 ^ (n + k)) m) (bit_xor m (g * 2 ^ k)) m)
