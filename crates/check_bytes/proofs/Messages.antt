-- Byte strings as polynomials.
use Rattle.std.proofs.Common.{◌≡◌, ℕ, zero, suc, ◌+◌, ◌*◌, ◌/◌, ◌%◌, ◌^◌, ◌<◌, List, [], ◌∷◌, ◌++◌, length, fold, refl, ap, ◌∙◌, not-suc-le-zero, mod-lt, zero-add, mul-suc, arith, lit<, pow_pos, pow-add}
use lib.Bits.{bit_xor, xor_self, xor_block}
use Rattle.std.proofs.lemmas.Nat.{mod-pow-add, mul-add-lt}
use Rattle.check_bytes.specs.Checks.{message, check_bytes}
use Rattle.check_bytes.specs.Theorems.{Bytes}

-- the bytes after others that came to m
abbrev pub spelt : ℕ → List ℕ → ℕ
spelt m bytes = fold (λ m byte. m * 2 ^ 8 + byte) m bytes

pub spelt_append : (m : ℕ) (xs ys : List ℕ) → spelt m (xs ++ ys) ≡ spelt (spelt m xs) ys
spelt_append m [] ys = refl
spelt_append m (x ∷ xs) ys = spelt_append (m * 2 ^ 8 + x) xs ys

pub spelt_from : (m : ℕ) (bs : List ℕ) → spelt m bs ≡ m * 2 ^ (8 * length bs) + message bs
spelt_from m [] = omega arith
spelt_from m (b ∷ bs) =
    let p : ℕ = 2 ^ (8 * length bs) in
    let here : spelt (m * 2 ^ 8 + b) bs ≡ (m * 2 ^ 8 + b) * p + message bs = spelt_from (m * 2 ^ 8 + b) bs in
    let none : spelt (0 + b) bs ≡ (0 + b) * p + message bs = spelt_from (0 + b) bs in
    let up : 2 ^ (8 * length (b ∷ bs)) ≡ 2 ^ 8 * p = rw (mul-suc, pow-add) (omega arith) in
    rw up (grind (arith, here, none))

pub message_lt : (bs : List ℕ) → Bytes bs → message bs < 2 ^ (8 * length bs)
message_lt [] all = lit< tt
message_lt (b ∷ bs) all =
    let p : ℕ = 2 ^ (8 * length bs) in
    let none : spelt (0 + b) bs ≡ (0 + b) * p + message bs = spelt_from (0 + b) bs in
    let up : 2 ^ (8 * length (b ∷ bs)) ≡ p * 256 = rw (mul-suc, pow-add) (omega arith) in
    rw (up, none, zero-add b) (mul-add-lt b p (message bs) 256 all.0 (message_lt bs all.1))

-- what differs in front differs as far up
pub spelt_sum : (x y : ℕ) (bs : List ℕ) → Bytes bs → bit_xor (spelt x bs) (spelt y bs) ≡ bit_xor x y * 2 ^ (8 * length bs)
spelt_sum x y bs all =
    let k : ℕ = 8 * length bs in
    let low : message bs < 2 ^ k = message_lt bs all in
    rw (spelt_from x bs, spelt_from y bs, xor_block k x y (message bs) (message bs) low low, xor_self (message bs)) (omega arith)

-- byte strings of one length are told apart
pub spelt_injective : (a b : ℕ) (xs ys : List ℕ) → Bytes xs → Bytes ys → length ys ≡ length xs → spelt a xs ≡ spelt b ys → (a ≡ b) × (xs ≡ ys)
spelt_injective a b [] [] hx hy l e = (e, refl)
spelt_injective a b [] (y ∷ ys) hx hy l e = absurd (not-suc-le-zero {n = length ys} (omega arith))
spelt_injective a b (x ∷ xs) [] hx hy l e = absurd (not-suc-le-zero {n = length xs} (omega arith))
spelt_injective a b (x ∷ xs) (y ∷ ys) hx hy l e =
    let rest = spelt_injective (a * 2 ^ 8 + x) (b * 2 ^ 8 + y) xs ys hx.1 hy.1 (omega arith) e in
    let h : a * 2 ^ 8 + x ≡ b * 2 ^ 8 + y = rest.0 in
    let low : x < 256 = hx.0 in
    let low' : y < 256 = hy.0 in
    let same : x ≡ y = omega arith in
    (omega arith, ap (λ z. z ∷ xs) same ∙ ap (λ zs. y ∷ zs) rest.1)

-- a check as bytes, and back
pub check_bytes_length : (width value : ℕ) → length (check_bytes width value) ≡ width
check_bytes_length zero value = refl
check_bytes_length (suc width) value = ap suc (check_bytes_length width value)

pub check_bytes_are : (width value : ℕ) → Bytes (check_bytes width value)
check_bytes_are zero value = tt
check_bytes_are (suc width) value = (mod-lt (value / 2 ^ (8 * width)) (pow_pos 8), check_bytes_are width value)

pub check_bytes_spell : (width value : ℕ) → message (check_bytes width value) ≡ value % 2 ^ (8 * width)
check_bytes_spell zero value = omega arith
check_bytes_spell (suc width) value =
    let high : ℕ = value / 2 ^ (8 * width) % 2 ^ 8 in
    let up : 8 * suc width ≡ 8 + 8 * width = simp mul-suc (omega arith) in
    rw (spelt_from (0 + high) (check_bytes width value), check_bytes_length width value, check_bytes_spell width value, up, mod-pow-add value 8 (8 * width)) (omega arith)
