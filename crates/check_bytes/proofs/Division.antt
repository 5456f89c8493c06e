-- Long division leaves the one remainder.
use Rattle.std.proofs.Common.{◌≡◌, ℕ, zero, suc, ◌+◌, ◌*◌, ◌^◌, ◌<◌, ◌≤◌, Bool, true, false, cond, leb, List, sym, refl, ap, ◌∙◌, add-zero, add-suc, mul-le-mul_right, mul-lt-mul_of_pos_right, pow-suc, arith, pow_pos, pow-add, leb-false, leb-true}
use lib.Bits.{bit_xor, xor_comm, xor_assoc, xor_self, xor_zero_r}
use Rattle.check_bytes.specs.Polynomials.{Degree, product, IsRemainder, remainder}
use Rattle.check_bytes.specs.Theorems.{DivisionLeavesARemainder, OnlyOneRemainder}
use Rattle.check_bytes.proofs.Xor.{xor_cancel, top_cancels}
use Rattle.check_bytes.proofs.Multiples.{Same, multiple_self, multiple_shl, same_refl, same_trans, same_sym, same_below}

-- one step lowers the degree by one
step_lt : (g n k m : ℕ) → Degree g n → m < 2 ^ (n + suc k) → (t : Bool) → leb (2 ^ (n + k)) m ≡ t → cond t (bit_xor m (g * 2 ^ k)) m < 2 ^ (n + k)
step_lt g n k m deg hm true e =
    let d : 2 ^ (n + suc k) ≡ 2 ^ (n + k) * 2 = rw (add-suc n k) (pow-suc 2 (n + k)) in
    let f : 2 ^ (n + k) ≡ 2 ^ n * 2 ^ k = pow-add 2 n k in
    let l : 2 ^ n * 2 ^ k ≤ g * 2 ^ k = mul-le-mul_right (2 ^ k) deg.0 in
    let h : g * 2 ^ k < 2 ^ (n + 1) * 2 ^ k = mul-lt-mul_of_pos_right deg.1 (pow_pos k) in
    let s : 2 ^ (n + 1) * 2 ^ k ≡ 2 ^ n * 2 ^ k * 2 = rw (pow-add 2 n 1) (grind arith) in
    top_cancels (n + k) m (g * 2 ^ k) (leb-true (2 ^ (n + k)) m e) (omega arith) (omega arith) (omega arith)
step_lt g n k m deg hm false e = leb-false (2 ^ (n + k)) m e

-- and takes a multiple of g away
step_same : (g k m : ℕ) (t : Bool) → Same g m (cond t (bit_xor m (g * 2 ^ k)) m)
step_same g k m true = rw (xor_cancel m (g * 2 ^ k)) (multiple_shl k multiple_self)
step_same g k m false = same_refl m

pub remainder_lt : (g n k m : ℕ) → Degree g n → m < 2 ^ (n + k) → remainder g n k m < 2 ^ n
unfolding remainder
remainder_lt g n zero m deg h = rw add-zero at h
remainder_lt g n (suc k) m deg h = remainder_lt g n k _ deg (step_lt g n k m deg h (leb (2 ^ (n + k)) m) refl)

pub remainder_same : (g n k m : ℕ) → Same g m (remainder g n k m)
unfolding remainder
remainder_same g n zero m = same_refl m
remainder_same g n (suc k) m =
    let next : ℕ = cond (leb (2 ^ (n + k)) m) (bit_xor m (g * 2 ^ k)) m in
    same_trans m next (remainder g n k next) (step_same g k m (leb (2 ^ (n + k)) m)) (remainder_same g n k next)

-- what has a degree below n and differs from m by a multiple is what the division leaves
pub remainder_is : (g n k m r : ℕ) → Degree g n → m < 2 ^ (n + k) → r < 2 ^ n → Same g m r → r ≡ remainder g n k m
remainder_is g n k m r deg hm hr s =
    same_below g n r (remainder g n k m) deg hr (remainder_lt g n k m deg hm)
    (same_trans r m (remainder g n k m) (same_sym m r s) (remainder_same g n k m))

-- what differs from m by a multiple of g, and is below its degree, is a remainder
pub is_remainder : (g n m r : ℕ) → r < 2 ^ n → Same g m r → IsRemainder g n m r
is_remainder g n m r low (q, e) = (
  low,
  (q, sym (xor_cancel r m) ∙ ap (bit_xor r) (xor_comm r m ∙ e) ∙ xor_comm r (product q g)),
)

pub division_leaves_a_remainder : DivisionLeavesARemainder
division_leaves_a_remainder g n k m deg h = is_remainder g n m (remainder g n k m) (remainder_lt g n k m deg h) (remainder_same g n k m)

pub only_one_remainder : OnlyOneRemainder
only_one_remainder g n m r s deg (hr, (p, ep)) (hs, (q, eq)) =
    same_below g n r s deg hr hs (same_trans r m s (same_sym m r (of p r ep)) (of q s eq))
  where
    of : (p : List Bool) (r : ℕ) → m ≡ bit_xor (product p g) r → Same g m r
    of p r e = (p, ap (λ x. bit_xor x r) e ∙ xor_assoc (product p g) r r ∙ ap (bit_xor (product p g)) (xor_self r) ∙ xor_zero_r (product p g))
