-- One byte more of a message.
use Rattle.std.proofs.Common.{◌≡◌, ℕ, ◌+◌, ◌*◌, ◌/◌, ◌%◌, ◌^◌, ◌<◌, ◌≤◌, List, [], ◌∷◌, ◌++◌, length, get_or, take, sym, ap, ◌∙◌, lt_of_lt_of_le, add-zero, mod-lt, mod-eq_of_lt, mul_assoc, add_comm, zero-mul, mul-one, mul-add, arith, length-append, pow_pos, pow_mono, pow-add, refl}
use lib.Bits.{bit_xor, xor_assoc, xor_lt, xor_shifted, xor_zero_r}
use lib.Pow.{ones_lt}
use Rattle.std.proofs.lemmas.List.Sums.{fold_push}
use Rattle.std.proofs.lemmas.Nat.{shl_below, shr_split}
use Rattle.std.proofs.lemmas.List.{take_more}
use Rattle.check_bytes.specs.declared.rule.Start.{Start}
use Rattle.check_bytes.specs.declared.rule.Start.TheVariants.{Zeros, Ones}
use Rattle.check_bytes.specs.Polynomials.{Degree, remainder}
use Rattle.check_bytes.specs.Checks.{message, dividend, check_of, start_value, fed}
use Rattle.check_bytes.specs.Theorems.{Bytes, CheckIsTheRemainder, NothingFed, OneByteMore}
use Rattle.check_bytes.proofs.Xor.{xor_shl, xor_right}
use Rattle.check_bytes.proofs.Multiples.{Same, same_refl, same_trans, same_sum, same_shl}
use Rattle.check_bytes.proofs.Messages.{message_lt}
use Rattle.check_bytes.proofs.Division.{remainder_lt, remainder_same, remainder_is, is_remainder}

-- a register times x^8, with a byte added at x^n
abbrev pub shifted : ℕ → ℕ → ℕ → ℕ
shifted n register byte = bit_xor (register * 2 ^ 8) (byte * 2 ^ n)

shifted_lt : (n m register byte : ℕ) → register < 2 ^ m → n ≤ m → byte < 2 ^ 8 → shifted n register byte < 2 ^ (m + 8)
shifted_lt n m register byte hr hn hb =
    xor_lt (m + 8) (register * 2 ^ 8) (byte * 2 ^ n) (shl_below register m 8 hr)
    (lt_of_lt_of_le (shl_below byte 8 n hb) (pow_mono {i = 8 + n} {j = m + 8} (omega arith)))

-- the dividend of one byte more
dividend_push : (n s : ℕ) (bs : List ℕ) (b : ℕ) → b < 2 ^ 8 → dividend n s (bs ++ (b ∷ [])) ≡ shifted n (dividend n s bs) b
dividend_push n s bs b hb =
    let low : message (bs ++ (b ∷ [])) ≡ bit_xor (message bs * 2 ^ 8) b = fold_push (λ m x. m * 2 ^ 8 + x) 0 bs b ∙ sym (xor_shifted (message bs) 8 b hb) in
    let move : message bs * 2 ^ 8 * 2 ^ n ≡ message bs * 2 ^ n * 2 ^ 8 = grind arith in
    rw (low, length-append bs, mul-add 8 (length bs) 1, pow-add 2 (8 * length bs) 8, ← mul_assoc s, xor_shl n (message bs * 2 ^ 8) b, xor_shl 8 (s * 2 ^ (8 * length bs)) (message bs * 2 ^ n), xor_assoc, move)
    refl

dividend_none : (n s : ℕ) → dividend n s [] ≡ s
dividend_none n s = rw (mul-one s, zero-mul (2 ^ n)) (xor_zero_r s)

-- the register holds what the bytes fed so far leave
pub record Holds (g n s : ℕ) (bs : List ℕ) (register : ℕ) : Type 0 where
  pub low : register < 2 ^ n
  pub small : dividend n s bs < 2 ^ (n + 8 * length bs)
  pub left : Same g (dividend n s bs) register

pub holds_none : (g n s : ℕ) → s < 2 ^ n → Holds g n s [] s
holds_none g n s h = record {
  low = h;
  small = rw (dividend_none n s, add-zero n) h;
  left = rw (dividend_none n s) (same_refl s);
}

-- a register that has no bits above its width is fed as it is
fed_low : (g n register byte : ℕ) → register < 2 ^ n → remainder g n 8 (shifted n register byte) ≡ fed g n register byte
fed_low g n register byte h = ap (λ x. remainder g n 8 (shifted n x byte)) (sym (mod-eq_of_lt h))

pub holds_push : (g n s : ℕ) (bs : List ℕ) (register b : ℕ) → Degree g n → b < 2 ^ 8 → Holds g n s bs register → Holds g n s (bs ++ (b ∷ [])) (fed g n register b)
holds_push g n s bs register b deg hb h =
    let up : n + 8 * length (bs ++ (b ∷ [])) ≡ n + 8 * length bs + 8 = simp length-append (omega arith) in
    rw (← fed_low g n register b h.low)
    record {
      low = remainder_lt g n 8 (shifted n register b) deg (shifted_lt n n register b h.low (omega arith) hb);
      small = rw (up, dividend_push n s bs b hb) (shifted_lt n (n + 8 * length bs) (dividend n s bs) b h.small (omega arith) hb);
      left = rw (dividend_push n s bs b hb)
          (same_trans (shifted n (dividend n s bs) b) (shifted n register b) _
          (same_sum (dividend n s bs * 2 ^ 8) (register * 2 ^ 8) (b * 2 ^ n) (b * 2 ^ n) (same_shl 8 (dividend n s bs) register h.left) (same_refl (b * 2 ^ n)))
          (remainder_same g n 8 (shifted n register b)));
    }

-- a loop's step over `bytes`
pub holds_more : (g n s : ℕ) (bytes : List ℕ) (i register : ℕ) → Degree g n → i < length bytes → get_or bytes i 0 < 2 ^ 8 → Holds g n s (take i bytes) register → Holds g n s (take (i + 1) bytes) (fed g n register (get_or bytes i 0))
holds_more g n s bytes i register deg hi hb h = rw (take_more bytes i 0 hi) (holds_push g n s (take i bytes) register (get_or bytes i 0) deg hb h)

pub holds_all : (g n s : ℕ) (bs : List ℕ) (register : ℕ) → Degree g n → Holds g n s bs register → register ≡ check_of g n s bs
unfolding check_of
holds_all g n s bs register deg h = remainder_is g n (8 * length bs) (dividend n s bs) register deg h.small h.low h.left

pub start_lt : (s : Start) (n : ℕ) → start_value s n < 2 ^ n
start_lt Zeros n = pow_pos n
start_lt Ones n = ones_lt n

-- ---- a byte step in two parts: the eight coefficients that pass x^n, and the others

split : (m r b : ℕ) → shifted (m + 8) r b ≡ bit_xor (bit_xor (r / 2 ^ m) b * 2 ^ (m + 8)) ((r % 2 ^ m) * 2 ^ 8)
split m r b =
    let parts : bit_xor (r / 2 ^ m * 2 ^ m) (r % 2 ^ m) ≡ r = xor_shifted (r / 2 ^ m) m (r % 2 ^ m) (mod-lt r (pow_pos m)) ∙ shr_split r m in
    rw (xor_shl (m + 8) (r / 2 ^ m) b, xor_right (r / 2 ^ m * 2 ^ (m + 8)) (b * 2 ^ (m + 8)) ((r % 2 ^ m) * 2 ^ 8), pow-add 2 m 8, ← mul_assoc (r / 2 ^ m) (2 ^ m) (2 ^ 8), ← xor_shl 8 (r / 2 ^ m * 2 ^ m) (r % 2 ^ m), parts) refl

-- t is what the eight high coefficients leave
pub fed_by_parts : (g m register byte t : ℕ) → Degree g (m + 8) → byte < 2 ^ 8 → t < 2 ^ (m + 8) → Same g (bit_xor (register % 2 ^ (m + 8) / 2 ^ m) byte * 2 ^ (m + 8)) t → bit_xor t ((register % 2 ^ (m + 8) % 2 ^ m) * 2 ^ 8) ≡ fed g (m + 8) register byte
fed_by_parts g m register byte t deg hb ht s =
    let r : ℕ = register % 2 ^ (m + 8) in
    let hr : r < 2 ^ (m + 8) = mod-lt register (pow_pos (m + 8)) in
    let low : ℕ = (r % 2 ^ m) * 2 ^ 8 in
    remainder_is g (m + 8) 8 (shifted (m + 8) r byte) (bit_xor t low) deg (shifted_lt (m + 8) (m + 8) r byte hr (omega arith) hb)
    (xor_lt (m + 8) t low ht (shl_below (r % 2 ^ m) m 8 (mod-lt r (pow_pos m))))
    (rw (split m r byte) (same_sum _ t low low s (same_refl low)))

-- ---- the theorems on checks

pub holds_check : (g n s : ℕ) (bs : List ℕ) → Degree g n → s < 2 ^ n → Bytes bs → Holds g n s bs (check_of g n s bs)
unfolding check_of
holds_check g n s bs deg hs all =
    let len : ℕ = 8 * length bs in
    let low : dividend n s bs < 2 ^ (n + len) = xor_lt (n + len) (s * 2 ^ len) (message bs * 2 ^ n) (shl_below s n len hs) (rw (add_comm n len) (shl_below (message bs) len n (message_lt bs all))) in
    record { low = remainder_lt g n len (dividend n s bs) deg low; small = low; left = remainder_same g n len (dividend n s bs) }

pub check_is_the_remainder : CheckIsTheRemainder
check_is_the_remainder g n start bytes deg hs all =
    let h : Holds g n start bytes (check_of g n start bytes) = holds_check g n start bytes deg hs all in
    is_remainder g n (dividend n start bytes) (check_of g n start bytes) h.low h.left

pub nothing_fed : NothingFed
unfolding check_of remainder
nothing_fed g n start = dividend_none n start

pub one_byte_more : OneByteMore
one_byte_more g n start bytes byte deg hs all hb =
    sym (holds_all g n start (bytes ++ (byte ∷ [])) (fed g n (check_of g n start bytes) byte) deg (holds_push g n start bytes (check_of g n start bytes) byte deg hb (holds_check g n start bytes deg hs all)))
