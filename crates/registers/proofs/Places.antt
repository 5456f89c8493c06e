-- A buffer's eight places, and what they are after its changes. Assumes nothing.
use Rattle.std.proofs.Common.{◌≡◌, ℕ, zero, suc, ◌+◌, ◌-◌, ◌<◌, ◌≤◌, List, [], ◌∷◌, ◌++◌, length, get_or, take, drop, replicate, refl, inl, inr, ap, sym, ◌∙◌, arith, length-take, length-append, append_assoc}
use Rattle.std.proofs.Math.ListN.{set}
use Rattle.std.proofs.Math.Seq.{set-append_seam}
use Rattle.std.proofs.lemmas.Bool.{cases_lt}
use Rattle.std.proofs.lemmas.List.{take_more_set, length-replicate, get_or-replicate, get_or_past}
use Rattle.registers.specs.Places.{places}
use Rattle.registers.proofs.Held.{shifted}

-- they tell how many bytes it holds
pub given_back : (bytes : List ℕ) (count : ℕ) → count ≤ 8 → bytes ≡ places (take count bytes) → length (take count bytes) ≡ count
given_back bytes count few e =
    let l : length bytes ≡ length (take count bytes) + (8 - length (take count bytes)) = ap length e ∙ simp (length-append, length-replicate) in
    omega (arith, length-take count bytes)

read_zeros : (m i : ℕ) → get_or {A = ℕ} (replicate m 0) i 0 ≡ 0
read_zeros m i =
    elim (cases_lt i m) [
      | inl h ↦ get_or-replicate m i 0 0 h
      | inr h ↦ get_or_past (replicate m 0) i 0 (simp length-replicate h)
    ]

read_before : (xs : List ℕ) (m i : ℕ) → get_or (xs ++ replicate m 0) i 0 ≡ get_or xs i 0
read_before [] m i = read_zeros m i
read_before (x ∷ xs) m zero = refl
read_before (x ∷ xs) m (suc i) = read_before xs m i

-- a place shows a byte that is held, or 0
pub read_placed : (bytes : List ℕ) (n i : ℕ) → bytes ≡ places (take n bytes) → get_or bytes i 0 ≡ get_or (take n bytes) i 0
read_placed bytes n i p =
    ap (λ (xs : List ℕ). get_or xs i 0) p ∙ read_before (take n bytes) (8 - length (take n bytes)) i

-- each byte moves up, and 0 comes last
abbrev pub moved_up : List ℕ → List ℕ
moved_up bytes = get_or bytes 1 0 ∷ get_or bytes 2 0 ∷ get_or bytes 3 0 ∷ get_or bytes 4 0 ∷ get_or bytes 5 0 ∷ get_or bytes 6 0 ∷ get_or bytes 7 0 ∷ 0 ∷ []

behind_first : (xs bytes : List ℕ) → bytes ≡ places xs → length xs ≤ 8 → moved_up bytes ≡ places (drop 1 xs)
behind_first [] bytes p few = rw p
behind_first (a ∷ []) bytes p few = rw p
behind_first (a ∷ b ∷ []) bytes p few = rw p
behind_first (a ∷ b ∷ c ∷ []) bytes p few = rw p
behind_first (a ∷ b ∷ c ∷ d ∷ []) bytes p few = rw p
behind_first (a ∷ b ∷ c ∷ d ∷ e ∷ []) bytes p few = rw p
behind_first (a ∷ b ∷ c ∷ d ∷ e ∷ f ∷ []) bytes p few = rw p
behind_first (a ∷ b ∷ c ∷ d ∷ e ∷ f ∷ g ∷ []) bytes p few = rw p
behind_first (a ∷ b ∷ c ∷ d ∷ e ∷ f ∷ g ∷ h ∷ []) bytes p few = rw p
behind_first (a ∷ b ∷ c ∷ d ∷ e ∷ f ∷ g ∷ h ∷ i ∷ xs) bytes p few = absurd (omega arith)

-- they are those of all but the first byte
rest_placed : (bytes : List ℕ) (n : ℕ) → n ≤ 8 → bytes ≡ places (take n bytes) → moved_up bytes ≡ places (drop 1 (take n bytes))
rest_placed bytes n few p = behind_first (take n bytes) bytes p (simp length-take (omega arith))

-- and so they are by what is counted then
pub rest_counted : (bytes : List ℕ) (n m : ℕ) → length bytes ≡ 8 → n ≤ 8 → m ≡ n - 1 → bytes ≡ places (take n bytes) → moved_up bytes ≡ places (take m (moved_up bytes))
rest_counted bytes n m whole few fewer p = rw (fewer, shifted bytes n whole few) (rest_placed bytes n few p)

first_free : (xs : List ℕ) (n m x : ℕ) → length xs ≡ n → set (xs ++ replicate (suc m) 0) n x ≡ (xs ++ (x ∷ [])) ++ replicate m 0
first_free xs n m x l = rw (← l) (set-append_seam xs 0 (replicate m 0) x ∙ sym (append_assoc xs (x ∷ []) (replicate m 0)))

-- one byte more, in the first free place
pub more_placed : (bytes : List ℕ) (n x : ℕ) → n < 8 → length bytes ≡ 8 → bytes ≡ places (take n bytes) → set bytes n x ≡ places (take (n + 1) (set bytes n x))
more_placed bytes n x free whole p =
    let xs : List ℕ = take n bytes in
    let l : length xs ≡ n = given_back bytes n (omega arith) p in
    let e : 8 - length xs ≡ suc (7 - n) = omega arith in
    let f : 8 - length (xs ++ (x ∷ [])) ≡ 7 - n = simp length-append (omega arith) in
    let t : take (n + 1) (set bytes n x) ≡ xs ++ (x ∷ []) = take_more_set bytes n x (omega arith) in
    let s : set bytes n x ≡ set (xs ++ replicate (8 - length xs) 0) n x = ap (λ (ys : List ℕ). set ys n x) p in
    s ∙ rw (t, e, f) (first_free xs n (7 - n) x l)
