-- The theorems on rows.
use Rattle.std.proofs.Common.{◌≡◌, ℕ, ◌+◌, ◌-◌, ◌*◌, ◌/◌, ◌%◌, ◌<◌, ◌≤◌, Bool, true, false, cond, ◌&&◌, ltb, leb, List, length, get_or, sym, refl, ap, ◌∙◌, arith}
use Rattle.std.proofs.lemmas.Nat.{div-add-mod', div_below, mod_below}
use Rattle.std.proofs.lemmas.List.{ext_get_or}
use Rattle.std.proofs.lemmas.Bool.{cond-true, and_parts, ltb-true}
use Rattle.std.proofs.lemmas.Bool.Decides.{nat_tests}
use Rattle.drives.specs.declared.parts.Part.{Part}
use Rattle.drives.specs.declared.parts.Part.TheVariants.{Id, Data}
use Rattle.drives.specs.Drives.{Drive, Shape, is_place, is_byte, part_size}
use Rattle.drives.specs.Sound.{memory}
use Rattle.units.specs.declared.layout.Layout.{Layout}
use Rattle.drives.specs.Changes.{with_cylinder, with_line, with_mark, with_byte}
use Rattle.units.specs.declared.unit.State.{State}
use Rattle.units.specs.Rows.{slot_size, slot_at, area, marks_in, bytes_in, besides}
use Rattle.units.specs.Units.{said, shape_in, standing, lines_of, unit_of, rest_of}
use Rattle.laws.specs.OfStrings.{step, line_to, mark_to, byte_to}
use Rattle.laws.specs.OfRows.{WhereThingsLie, EveryByteIsNamed, ExactlyThatByteChanges}
use Rattle.units.proofs.Places.{row_holds, no_mark_changes, no_byte_changes, mark_set, byte_set, mark_rest, byte_rest, written, rest_written}
use Rattle.units.proofs.Slots.{slot_inside}

-- ---- where things lie

pub where_they_lie : WhereThingsLie
unfolding unit_of marks_in bytes_in slot_at
where_they_lie st row p c h s e lc lh ls =
    let l : Layout = st.layout in
    let whole : shape_in l (length row) ≡ said l = cond-true _ _ _ e in
    let lies : l.first + area (said l) ≤ length row = grind (arith, nat_tests) in (
      omega (arith, lies, slot_inside (said l) c h s lc lh ls),
      rw whole (grind (arith, nat_tests)),
      λ i li. rw whole (grind (arith, nat_tests)),
    )

-- ---- every byte is named

-- the place of byte o of the area: its slot, counted over all tracks, and that slot's number, head and cylinder
module _ (g : Shape) (o : ℕ) where
  abbrev q : ℕ
  q = o / (g.length + 11)

  abbrev track : ℕ
  track = q / g.slots

  exists : o < area g → (track / g.heads < g.cylinders) × (track % g.heads < g.heads) × (q % g.slots < g.slots)
  exists inside =
      let a : q < g.cylinders * g.heads * g.slots = div_below o (g.length + 11) (g.cylinders * g.heads * g.slots) (omega arith) inside in
      let slots : 0 < g.slots = grind (arith, nat_tests) in
      let b : track < g.cylinders * g.heads = div_below q g.slots (g.cylinders * g.heads) slots a in
      let heads : 0 < g.heads = grind (arith, nat_tests) in
      (div_below track g.heads g.cylinders heads b, mod_below track g.heads heads, mod_below q g.slots slots)

  -- and there it lies
  placed_at : slot_at g (track / g.heads) (track % g.heads) (q % g.slots) + o % (g.length + 11) ≡ o
  unfolding slot_at
  placed_at = rw (div-add-mod' track g.heads, div-add-mod' q g.slots, div-add-mod' o (g.length + 11))

module _ (g : Shape) (first : ℕ) (xs ys : List ℕ) (em : (p : Part) (c h s : ℕ) → marks_in g first xs p c h s ≡ marks_in g first ys p c h s) (eb : (p : Part) (c h s i : ℕ) → bytes_in g first xs p c h s i ≡ bytes_in g first ys p c h s i) (er : (k : ℕ) → besides g first xs k ≡ besides g first ys k) where
  in_slot : (c h s k r : ℕ) → c < g.cylinders → h < g.heads → s < g.slots → (leb first k && ltb k (first + area g)) ≡ true → (k - first) % slot_size g ≡ r → r < g.length + 11 → first + slot_at g c h s + r ≡ k → get_or xs k 0 ≡ get_or ys k 0
  unfolding besides marks_in bytes_in
  in_slot c h s k r lc lh ls i er' lr e =
      let marks : r ≡ 0 → get_or xs k 0 ≡ get_or ys k 0 = λ z. let m = em Id c h s in let n = em Data c h s in let b = er k in grind (arith, nat_tests) in
      let id : 1 ≤ r → r < 7 → get_or xs k 0 ≡ get_or ys k 0 = λ a b. let m = eb Id c h s (r - 1) in grind (arith, nat_tests) in
      let field : 7 ≤ r → get_or xs k 0 ≡ get_or ys k 0 = λ a. let m = eb Data c h s (r - 7) in grind (arith, nat_tests) in
      grind (arith, marks, id, field)

  named : (k : ℕ) → get_or xs k 0 ≡ get_or ys k 0
  unfolding besides
  named k =
      let o : ℕ = k - first in
      let there : (leb first k && ltb k (first + area g)) ≡ true → get_or xs k 0 ≡ get_or ys k 0 = λ i.
      let inside : o < area g = grind (arith, nat_tests) in
      let at = exists g o inside in
      in_slot (track g o / g.heads) (track g o % g.heads) (q g o % g.slots) k (o % (g.length + 11)) at.0 at.1 at.2 i refl (mod_below o (g.length + 11) (omega arith)) (grind (arith, nat_tests, placed_at g o)) in
      let rest = er k in
      grind (arith, nat_tests, there)

pub every_byte : EveryByteIsNamed
unfolding unit_of
every_byte st st' xs ys es em eb er =
    let same : length xs ≡ length ys = cc in
    ext_get_or 0 xs ys same (λ k lk. named (shape_in st.layout (length xs)) st.layout.first xs ys (λ p c h s. cc) (λ p c h s i. cc) (λ j. cc) k)

-- ---- exactly that byte changes

-- the same unit and rest over another row
same_unit : (st st' : State) (xs ys : List ℕ) → unit_of st' ys ≡ unit_of st xs → rest_of st' ys ≡ rest_of st xs → ys ≡ xs
same_unit st st' xs ys eu er = every_byte st' st ys xs (cc) (cc) (cc) er

-- a row whose unit is d and whose rest stays: the new row where a place exists, and otherwise the old one
changes_to : (st st' : State) (row row' new : List ℕ) (d : Drive) (there : Bool) → unit_of st' row' ≡ d → rest_of st' row' ≡ rest_of st row → (there ≡ true → (unit_of st new ≡ d) × (rest_of st new ≡ rest_of st row)) → (there ≡ false → d ≡ unit_of st row) → row' ≡ cond there new row
changes_to st st' row row' new d true eu er found missing = same_unit st st' new row' (eu ∙ sym (found refl).0) (er ∙ sym (found refl).1)
changes_to st st' row row' new d false eu er found missing = same_unit st st' row row' (eu ∙ missing refl) er

pub exactly_that_byte : ExactlyThatByteChanges
unfolding unit_of with_cylinder with_line
exactly_that_byte st st' row row' (step direction) eu er = every_byte st' st row' row (cc) (cc) (cc) er
exactly_that_byte st st' row row' (line_to line value) eu er = every_byte st' st row' row (cc) (cc) (cc) er
exactly_that_byte st st' row row' (mark_to p h s value) eu er =
    let g : Shape = shape_in st.layout (length row) in
    let c : ℕ = standing st (length row) in
    let first : ℕ = st.layout.first in
    changes_to st st' row row' _ (with_mark p h s value (unit_of st row)) (is_place g c h s) eu er
    (λ t.
    let fit = row_holds st.layout (length row) c h s t in (
      written st row _ _ ∙ mark_set g (lines_of st) c first row h s t fit p value,
      rest_written st row _ _ ∙ ap (memory (length row) first) (mark_rest g (lines_of st) c first row h s t fit p value),
    ))
    (no_mark_changes p h s value (unit_of st row))
exactly_that_byte st st' row row' (byte_to p h s i value) eu er =
    let g : Shape = shape_in st.layout (length row) in
    let c : ℕ = standing st (length row) in
    let first : ℕ = st.layout.first in
    changes_to st st' row row' _ (with_byte p h s i value (unit_of st row)) (is_byte g p c h s i) eu er
    (λ t.
    let there = and_parts (is_place g c h s) _ t in
    let fit = row_holds st.layout (length row) c h s there.0 in
    let li = ltb-true i (part_size g p) there.1 in (
      written st row _ _ ∙ byte_set g (lines_of st) c first row h s there.0 fit p i value li,
      rest_written st row _ _ ∙ ap (memory (length row) first) (byte_rest g (lines_of st) c first row h s there.0 fit p i value li),
    ))
    (no_byte_changes p h s i value (unit_of st row))
