-- Slots lie apart from each other, and inside their area.
use Rattle.std.proofs.Common.{◌≡◌, ℕ, ◌+◌, ◌*◌, ◌/◌, ◌%◌, ◌<◌, ◌≤◌, Bool, true, cond, ◌≢◌, ◌⊎◌, List, length, get_or, set, refl, inl, inr, ⊎_elim, arith, get_or-set_other, get_or-set_same}
use Rattle.std.proofs.lemmas.Nat.{mod-mul-add, mul-add-lt, row_fits, same_from_place}
use Rattle.std.proofs.lemmas.Bool.{cases_eq}
use Rattle.std.proofs.lemmas.Bool.Decides.{nat_tests}
use Rattle.drives.specs.declared.parts.Part.{Part}
use Rattle.drives.specs.declared.parts.Part.TheVariants.{Id, Data}
use Rattle.drives.specs.Drives.{Shape, is_place, part_size}
use Rattle.drives.specs.Changes.{same_part}
use Rattle.units.specs.Rows.{slot_size, slot_at, area, part_start, mark_bit, with_bit}

-- two bytes of slots that are one byte are the same byte of the same slot
pub same_slot : (g : Shape) (c h s c' h' s' r q : ℕ) → h < g.heads → s < g.slots → h' < g.heads → s' < g.slots → r < g.length + 11 → q < g.length + 11 → slot_at g c h s + r ≡ slot_at g c' h' s' + q → (c ≡ c') × (h ≡ h') × (s ≡ s') × (r ≡ q)
unfolding slot_at
same_slot g c h s c' h' s' r q hh hs hh' hs' hr hq e =
    let a = same_from_place _ r _ q (g.length + 11) hr hq e in
    let b = same_from_place _ s _ s' g.slots hs hs' a.0 in
    let d = same_from_place c h c' h' g.heads hh hh' b.0 in
    (d.0, d.1, b.1, a.1)

-- a slot lies inside the area
pub slot_inside : (g : Shape) (c h s : ℕ) → c < g.cylinders → h < g.heads → s < g.slots → slot_at g c h s + (g.length + 11) ≤ area g
unfolding slot_at
slot_inside g c h s lc lh ls =
    let track = mul-add-lt c g.heads h g.cylinders lc lh in
    let slot : (c * g.heads + h) * g.slots + s < g.cylinders * g.heads * g.slots = omega (arith, mul-add-lt (c * g.heads + h) g.slots s (g.cylinders * g.heads) (omega arith) ls) in
    omega (arith, row_fits _ (g.length + 11) _ (g.length + 11) slot (omega arith))

pub place_inside : (g : Shape) (c h s : ℕ) → is_place g c h s ≡ true → slot_at g c h s + (g.length + 11) ≤ area g
place_inside g c h s there = slot_inside g c h s (grind (arith, nat_tests)) (grind (arith, nat_tests)) (grind (arith, nat_tests))

-- where a byte of a slot lies in its slot
pub slot_offset : (g : Shape) (c h s r : ℕ) → r < g.length + 11 → (slot_at g c h s + r) % slot_size g ≡ r
unfolding slot_at
slot_offset g c h s r l = mod-mul-add ((c * g.heads + h) * g.slots + s) (g.length + 11) r l

-- a byte after a write
pub get_d_set : (row : List ℕ) (k j v : ℕ) → k < length row → ((j ≡ k) × (get_or (set row k v) j 0 ≡ v)) ⊎ ((j ≡ k → ⊥) × (get_or (set row k v) j 0 ≡ get_or row j 0))
get_d_set row k j v l =
    ⊎_elim (λ e. inl (e, rw (e, get_or-set_same))) (λ n. let ne : j ≢ k = n in inr (n, rw get_or-set_other)) (cases_eq j k)

-- one mark set: it shows, the other mark and the other bits stay
pub bit_shows : (p p' : Part) (value : Bool) (byte : ℕ) → mark_bit p' (with_bit p value byte) ≡ cond (same_part p p') value (mark_bit p' byte)
bit_shows Id Id value byte = grind (arith, nat_tests)
bit_shows Id Data value byte = grind (arith, nat_tests)
bit_shows Data Id value byte = grind (arith, nat_tests)
bit_shows Data Data value byte = grind (arith, nat_tests)

pub bits_kept : (p : Part) (value : Bool) (byte : ℕ) → with_bit p value byte / 4 ≡ byte / 4
bits_kept Id value byte = grind arith
bits_kept Data value byte = grind arith

-- a part's bytes lie in its slot, after the byte of marks, and apart from the other part's
pub part_inside : (g : Shape) (p : Part) (i : ℕ) → i < part_size g p → (part_start p + i < g.length + 11) × (0 < part_start p + i)
part_inside g Id i l = (omega arith, omega arith)
part_inside g Data i l = (omega arith, omega arith)

pub part_after : (p : Part) (i : ℕ) → 0 < part_start p + i
part_after Id i = omega arith
part_after Data i = omega arith

pub part_apart : (g : Shape) (p p' : Part) (i i' : ℕ) → i < part_size g p → i' < part_size g p' → part_start p + i ≡ part_start p' + i' → (same_part p p' ≡ true) × (i ≡ i')
part_apart g Id Id i i' l l' e = (refl, omega arith)
part_apart g Id Data i i' l l' e = absurd (omega arith)
part_apart g Data Id i i' l l' e = absurd (omega arith)
part_apart g Data Data i i' l l' e = (refl, omega arith)

pub same_part_is : (p p' : Part) → same_part p p' ≡ true → p ≡ p'
same_part_is Id Id e = refl
same_part_is Data Data e = refl
same_part_is Id Data e = cc
same_part_is Data Id e = cc
