-- What a buffer's count says of the bytes that it holds. Assumes nothing.
use Rattle.std.proofs.Common.{◌≡◌, ℕ, zero, suc, ◌+◌, ◌-◌, ◌<◌, ◌≤◌, true, false, ltb, List, [], ◌∷◌, ◌++◌, length, get_or, take, drop, sym, refl, inl, inr, arith, length-take}
use Rattle.std.proofs.lemmas.List.{length-take-le, take_all, take-append-le, take_more, take-take}
use Rattle.std.proofs.lemmas.Bool.{lt-ltb, le-ltb, cases_lt}
use Rattle.registers.specs.declared.buffer.Buffer.{Buffer}
use Rattle.registers.specs.Buffers.{held, added}

-- a buffer holds at most eight bytes
pub held_few : (b : Buffer) → length (held b) ≤ 8
unfolding held
held_few b = let k : b.count ≤ 8 = b.few in simp length-take (omega arith)

-- it holds as many as its count says
pub held_length : (b : Buffer) → length b.bytes ≡ 8 → length (held b) ≡ b.count
unfolding held
held_length b l = let k : b.count ≤ 8 = b.few in length-take-le b.count b.bytes (omega arith)

-- a list and a 0 behind it: all but the first of what was held
tail_and_zero : (n a : ℕ) (xs : List ℕ) → n ≤ length xs + 1 → take (n - 1) (xs ++ (0 ∷ [])) ≡ drop 1 (take n (a ∷ xs))
tail_and_zero zero a xs h = refl
tail_and_zero (suc m) a xs h = let e : suc m - 1 ≡ m = omega arith in rw e (take-append-le m xs (0 ∷ []) (omega arith))

-- the last seven of eight bytes, and a 0: all but the first of what was held
pub shifted : (xs : List ℕ) (n : ℕ) → length xs ≡ 8 → n ≤ 8 →
    take (n - 1) (get_or xs 1 0 ∷ get_or xs 2 0 ∷ get_or xs 3 0 ∷ get_or xs 4 0 ∷ get_or xs 5 0 ∷ get_or xs 6 0 ∷ get_or xs 7 0 ∷ 0 ∷ []) ≡ drop 1 (take n xs)
shifted (a ∷ b ∷ c ∷ d ∷ e ∷ f ∷ g ∷ h ∷ []) n l few = tail_and_zero n a (b ∷ c ∷ d ∷ e ∷ f ∷ g ∷ h ∷ []) few
shifted [] n l few = absurd (omega arith)
shifted (a ∷ []) n l few = absurd (omega arith)
shifted (a ∷ b ∷ []) n l few = absurd (omega arith)
shifted (a ∷ b ∷ c ∷ []) n l few = absurd (omega arith)
shifted (a ∷ b ∷ c ∷ d ∷ []) n l few = absurd (omega arith)
shifted (a ∷ b ∷ c ∷ d ∷ e ∷ []) n l few = absurd (omega arith)
shifted (a ∷ b ∷ c ∷ d ∷ e ∷ f ∷ []) n l few = absurd (omega arith)
shifted (a ∷ b ∷ c ∷ d ∷ e ∷ f ∷ g ∷ []) n l few = absurd (omega arith)
shifted (a ∷ b ∷ c ∷ d ∷ e ∷ f ∷ g ∷ h ∷ i ∷ xs) n l few = absurd (omega arith)

-- a full buffer takes no more
pub full_stays : (xs : List ℕ) (x : ℕ) → 8 ≤ length xs → xs ≡ added xs x
full_stays xs x h = let t : ltb (length xs) 8 ≡ false = le-ltb (length xs) 8 h in rw t

-- and any other does
pub free_takes : (xs : List ℕ) (x : ℕ) → length xs < 8 → xs ++ (x ∷ []) ≡ added xs x
free_takes xs x h = let t : ltb (length xs) 8 ≡ true = lt-ltb (length xs) 8 h in rw t

-- one more of a list's first eight bytes
pub first_eight_more : (xs : List ℕ) (i : ℕ) → i < length xs → added (take 8 (take i xs)) (get_or xs i 0) ≡ take 8 (take (i + 1) xs)
first_eight_more xs i l =
    elim (cases_lt i 8) [
      | inl h ↦
          let old : take 8 (take i xs) ≡ take i xs = take_all 8 (take i xs) (simp length-take (omega arith)) in
          let new : take 8 (take (i + 1) xs) ≡ take (i + 1) xs = take_all 8 (take (i + 1) xs) (simp length-take (omega arith)) in
          let k : length (take i xs) < 8 = simp length-take (omega arith) in
          rw (old, new, take_more xs i 0) (sym (free_takes (take i xs) (get_or xs i 0) k))
      | inr h ↦
          let old : take 8 (take i xs) ≡ take 8 xs = take-take 8 i xs h in
          let new : take 8 (take (i + 1) xs) ≡ take 8 xs = take-take 8 (i + 1) xs (omega arith) in
          let k : 8 ≤ length (take 8 xs) = simp length-take (omega arith) in
          rw (old, new) (sym (full_stays (take 8 xs) (get_or xs i 0) k))
    ]
