-- A check and its bytes leave nothing, and damage within the check's width is seen.
use Rattle.std.proofs.Common.{◌≡◌, ℕ, zero, suc, ◌+◌, ◌*◌, ◌%◌, ◌^◌, ◌<◌, ◌≤◌, true, false, List, [], ◌∷◌, ◌++◌, length, sym, ap, ◌∙◌, subst, lt_of_lt_of_le, mod-eq_of_lt, mul_assoc, pow-suc, mul-one, mul-add, arith, length-append, pow_pos, pow_mono, pow-add}
use lib.Bits.{bit_xor, xor_assoc, xor_self, xor_zero_r, xor_lt, xor_mod, xor_shifted, xor_block}
use Rattle.std.proofs.lemmas.List.Sums.{fold-append}
use Rattle.std.proofs.lemmas.Grind.{common_steps}
use Rattle.std.proofs.ByRecursion.{All-append}
use Rattle.check_bytes.specs.Polynomials.{Degree, product}
use Rattle.check_bytes.specs.Checks.{message, dividend, check_of, check_bytes}
use Rattle.check_bytes.specs.Theorems.{Bytes, OwnCheckLeavesNothing, DamageIsSeen}
use Rattle.check_bytes.proofs.Xor.{xor_swap, xor_zero_eq, xor_shl}
use Rattle.check_bytes.proofs.Multiples.{Multiple, Same, multiple_shl, same_sym, same_trans, same_below}
use Rattle.check_bytes.proofs.Messages.{spelt, spelt_from, spelt_sum, spelt_injective, message_lt, check_bytes_length, check_bytes_are, check_bytes_spell}
use Rattle.check_bytes.proofs.Feeding.{Holds, holds_check}

-- a generator with a constant term divides no more by dividing twice as much
multiple_half : (g a : ℕ) → g % 2 ≡ 1 → Multiple g (a * 2) → Multiple g a
multiple_half g a odd ([], e) = ([], omega arith)
multiple_half g a odd (true ∷ q, e) =
    let one : bit_xor g (product q g * 2) % 2 ≡ 1 = rw (xor_mod g (product q g * 2) 1, odd) (grind (arith, common_steps)) in
    absurd (omega (arith, one, e))
multiple_half g a odd (false ∷ q, e) = (q, omega arith)

multiple_down : (g a k : ℕ) → g % 2 ≡ 1 → Multiple g (a * 2 ^ k) → Multiple g a
multiple_down g a zero odd h = rw mul-one at h
multiple_down g a (suc k) odd h = multiple_down g a k odd (multiple_half g (a * 2 ^ k) odd (rw (pow-suc 2 k, ← mul_assoc a (2 ^ k) 2) at h))

-- equal checks say that the dividends differ by a multiple
dividends_same : (g n start : ℕ) (xs ys : List ℕ) → Degree g n → start < 2 ^ n → Bytes xs → Bytes ys → check_of g n start xs ≡ check_of g n start ys → Same g (dividend n start xs) (dividend n start ys)
dividends_same g n start xs ys deg hs hx hy e =
    let x : Holds g n start xs (check_of g n start xs) = holds_check g n start xs deg hs hx in
    let y : Holds g n start ys (check_of g n start ys) = holds_check g n start ys deg hs hy in
    same_trans (dividend n start xs) (check_of g n start xs) (dividend n start ys) x.left (rw e (same_sym (dividend n start ys) (check_of g n start ys) y.left))

-- with as many bytes on both sides the start cancels out
dividends_differ : (n start : ℕ) (xs ys : List ℕ) → length ys ≡ length xs → bit_xor (dividend n start xs) (dividend n start ys) ≡ bit_xor (message xs) (message ys) * 2 ^ n
dividends_differ n start xs ys l =
    let s : ℕ = start * 2 ^ (8 * length xs) in
    rw (l, xor_swap s (message xs * 2 ^ n) s (message ys * 2 ^ n), xor_self s) (sym (xor_shl n (message xs) (message ys)))

-- the messages differ by what differs in the middle
messages_differ : (before run other after : List ℕ) → Bytes after → bit_xor (message (before ++ (run ++ after))) (message (before ++ (other ++ after))) ≡ bit_xor (spelt (message before) run) (spelt (message before) other) * 2 ^ (8 * length after)
messages_differ before run other after all = simp fold-append (spelt_sum (spelt (message before) run) (spelt (message before) other) after all)

all_front : (xs ys : List ℕ) → Bytes (xs ++ ys) → Bytes xs × Bytes ys
all_front [] ys h = (tt, h)
all_front (x ∷ xs) ys h = let rest = all_front xs ys h.1 in ((h.0, rest.0), rest.1)

-- what differs in the middle is no longer than the run
middle_is : (m : ℕ) (run other : List ℕ) → Bytes run → Bytes other → length other ≡ length run → bit_xor (spelt m run) (spelt m other) ≡ bit_xor (message run) (message other)
middle_is m run other hr ho l =
    let k : ℕ = 8 * length run in
    let low : message other < 2 ^ k = rw (← l) (message_lt other ho) in
    rw (spelt_from m run, spelt_from m other, l, xor_block k m m (message run) (message other) (message_lt run hr) low, xor_self m) (omega arith)

middle_lt : (n : ℕ) (run other : List ℕ) → Bytes run → Bytes other → length other ≡ length run → 8 * length run ≤ n → bit_xor (message run) (message other) < 2 ^ n
middle_lt n run other hr ho l short =
    lt_of_lt_of_le (xor_lt (8 * length run) (message run) (message other) (message_lt run hr) (rw (← l) (message_lt other ho)))
    (pow_mono {i = 8 * length run} {j = n} short)

pub damage_is_seen : DamageIsSeen
damage_is_seen g n start before run other after deg odd hs all ho l short e =
    let front = all_front before (run ++ after) all in
    let back = all_front run after front.1 in
    let m : ℕ = message before in
    let d : ℕ = bit_xor (spelt m run) (spelt m other) in
    let k : ℕ = 8 * length after in
    let whole : Bytes (before ++ (other ++ after)) = All-append (λ byte. byte < 2 ^ 8) before (other ++ after) front.0 (All-append (λ byte. byte < 2 ^ 8) other after ho back.1) in
    let len : length (before ++ (other ++ after)) ≡ length (before ++ (run ++ after)) = simp length-append (omega arith) in
    let apart : Multiple g (d * 2 ^ k * 2 ^ n) =
    subst (Multiple g) (dividends_differ n start (before ++ (run ++ after)) (before ++ (other ++ after)) len ∙ ap (λ x. x * 2 ^ n) (messages_differ before run other after back.1))
    (dividends_same g n start (before ++ (run ++ after)) (before ++ (other ++ after)) deg hs all whole e) in
    let divides : Multiple g d = multiple_down g d k odd (multiple_down g (d * 2 ^ k) n odd apart) in
    let low : d < 2 ^ n = subst (λ (x : ℕ). x < 2 ^ n) (sym (middle_is m run other back.0 ho l)) (middle_lt n run other back.0 ho l short) in
    let none : d ≡ 0 = same_below g n d 0 deg low (pow_pos n) (subst (Multiple g) (sym (xor_zero_r d)) divides) in
    (spelt_injective m m run other back.0 ho l (xor_zero_eq (spelt m run) (spelt m other) none)).1

-- the dividend of bytes and a check after them
dividend_with : (width start value : ℕ) (bytes : List ℕ) → value < 2 ^ (8 * width) → dividend (8 * width) start (bytes ++ check_bytes width value) ≡ bit_xor (dividend (8 * width) start bytes) value * 2 ^ (8 * width)
dividend_with width start value bytes h =
    let n : ℕ = 8 * width in
    let s : ℕ = start * 2 ^ (8 * length bytes) in
    let m : ℕ = message bytes * 2 ^ n in
    let spell : message (bytes ++ check_bytes width value) ≡ bit_xor m value = rw (fold-append (λ m byte. m * 2 ^ 8 + byte) 0 bytes, spelt_from (message bytes) (check_bytes width value), check_bytes_length width value, check_bytes_spell width value, mod-eq_of_lt h) (sym (xor_shifted (message bytes) n value h)) in
    rw (spell, length-append bytes, check_bytes_length width value, mul-add 8 (length bytes) width, pow-add 2 (8 * length bytes) n, ← mul_assoc start, xor_assoc s m value) (sym (xor_shl n s (bit_xor m value)))

pub own_check_leaves_nothing : OwnCheckLeavesNothing
own_check_leaves_nothing g width start bytes deg hs all =
    let n : ℕ = 8 * width in
    let c : ℕ = check_of g n start bytes in
    let h : Holds g n start bytes c = holds_check g n start bytes deg hs all in
    let more : List ℕ = bytes ++ check_bytes width c in
    let whole : Holds g n start more (check_of g n start more) = holds_check g n start more deg hs (All-append (λ byte. byte < 2 ^ 8) bytes (check_bytes width c) all (check_bytes_are width c)) in
    let d : ℕ = dividend n start more in
    let none : Same g d 0 = subst (Multiple g) (sym (xor_zero_r d ∙ dividend_with width start c bytes h.low)) (multiple_shl n h.left) in
    same_below g n (check_of g n start more) 0 deg whole.low (pow_pos n) (same_trans (check_of g n start more) d 0 (same_sym d (check_of g n start more) whole.left) none)
