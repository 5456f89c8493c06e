-- What a write to one byte of a slot alters.
use Rattle.std.proofs.Common.{◌≡◌, ℕ, ◌+◌, ◌-◌, ◌*◌, ◌/◌, ◌%◌, ◌<◌, ◌≤◌, Bool, true, cond, ◌&&◌, eqb, List, length, get_or, set, arith, get_or-set_other}
use Rattle.std.proofs.lemmas.Nat.{mod-mul-add}
use Rattle.std.proofs.lemmas.Grind.{get_or-set_at}
use Rattle.std.proofs.lemmas.Bool.Decides.{nat_tests}
use Rattle.drives.specs.declared.parts.Part.{Part}
use Rattle.drives.specs.Drives.{Shape, is_place, is_byte, part_size}
use Rattle.drives.specs.Changes.{same_part, same_place}
use Rattle.units.specs.Rows.{slot_size, slot_at, area, part_start, mark_bit, with_bit, marks_in, bytes_in, besides}
use Rattle.units.proofs.Slots.{same_slot, place_inside, bit_shows, part_inside, part_apart, same_part_is}

module _ (g : Shape) (first : ℕ) (row : List ℕ) (c h s : ℕ) (there : is_place g c h s ≡ true) where
  -- a mark written in its byte
  pub mark_of : (p : Part) (value : Bool) → first + slot_at g c h s < length row → (p' : Part) (c' h' s' : ℕ) → marks_in g first (set row (first + slot_at g c h s) (with_bit p value (get_or row (first + slot_at g c h s) 0))) p' c' h' s' ≡ cond (is_place g c h s && (same_part p p' && same_place c h s c' h' s')) value (marks_in g first row p' c' h' s')
  unfolding marks_in
  mark_of p value l p' c' h' s' =
      grind (arith, nat_tests, there, same_slot g c h s c' h' s' 0 0, bit_shows p p' value (get_or row (first + slot_at g c h s) 0), get_or-set_at, get_or-set_other)

  pub bytes_stay : (v : ℕ) → first + slot_at g c h s < length row → (p' : Part) (c' h' s' i' : ℕ) → bytes_in g first (set row (first + slot_at g c h s) v) p' c' h' s' i' ≡ bytes_in g first row p' c' h' s' i'
  unfolding bytes_in
  bytes_stay v l p' c' h' s' i' =
      grind (arith, nat_tests, there, same_slot g c h s c' h' s' 0 (part_start p' + i'), get_or-set_at, get_or-set_other, part_inside)

  -- a byte of a part written
  module _ (v : ℕ) (p : Part) (i : ℕ) (li : i < part_size g p) where
    pub marks_stay : first + slot_at g c h s + (part_start p + i) < length row → (p' : Part) (c' h' s' : ℕ) → marks_in g first (set row (first + slot_at g c h s + (part_start p + i)) v) p' c' h' s' ≡ marks_in g first row p' c' h' s'
    unfolding marks_in
    marks_stay l p' c' h' s' =
        grind (arith, nat_tests, there, same_slot g c h s c' h' s' (part_start p + i) 0, get_or-set_at, get_or-set_other, part_inside)

    pub bytes_of : first + slot_at g c h s + (part_start p + i) < length row → (p' : Part) (c' h' s' i' : ℕ) → bytes_in g first (set row (first + slot_at g c h s + (part_start p + i)) v) p' c' h' s' i' ≡ cond (is_byte g p c h s i && (same_part p p' && (same_place c h s c' h' s' && eqb i i'))) v (bytes_in g first row p' c' h' s' i')
    unfolding bytes_in
    bytes_of l p' c' h' s' i' =
        grind (arith, nat_tests, there, same_slot g c h s c' h' s' (part_start p + i) (part_start p' + i'), part_apart g p p' i i' li, same_part_is p p', get_or-set_at, get_or-set_other, part_inside)

-- the byte of marks written whole
module _ (g : Shape) (first : ℕ) (row : List ℕ) (c h s v : ℕ) (there : is_place g c h s ≡ true) where
  pub marks_of : first + slot_at g c h s < length row → (p' : Part) (c' h' s' : ℕ) → marks_in g first (set row (first + slot_at g c h s) v) p' c' h' s' ≡ cond (same_place c h s c' h' s') (mark_bit p' v) (marks_in g first row p' c' h' s')
  unfolding marks_in
  marks_of l p' c' h' s' =
      grind (arith, nat_tests, there, same_slot g c h s c' h' s' 0 0, get_or-set_at, get_or-set_other)

-- the row besides: a byte of marks keeps its other bits, and no other byte of a slot counts
module _ (g : Shape) (first : ℕ) (row : List ℕ) (c h s r at v : ℕ) (there : is_place g c h s ≡ true) (lr : r < g.length + 11) (inside : first + area g ≤ length row) (e : at ≡ first + slot_at g c h s + r) where
  -- where the byte that is written lies
  placed : (at < first + area g) × ((at - first) % slot_size g ≡ r)
  unfolding slot_at
  placed =
      let low = place_inside g c h s there in
      let d : at - first ≡ slot_at g c h s + r = omega arith in
      (omega arith, rw (d, mod-mul-add ((c * g.heads + h) * g.slots + s) (g.length + 11) r lr))

  pub rest_stays : cond (eqb r 0) (v / 4) 0 ≡ cond (eqb r 0) (get_or row at 0 / 4) 0 → (k : ℕ) → besides g first (set row at v) k ≡ besides g first row k
  unfolding besides
  rest_stays kept k =
      let q = placed in
      grind (arith, nat_tests, get_or-set_at, get_or-set_other)
