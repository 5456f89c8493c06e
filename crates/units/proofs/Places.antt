-- Places of a unit over a row of bytes.
use Rattle.std.proofs.Common.{◌≡◌, ℕ, zero, suc, ◌+◌, ◌-◌, ◌*◌, ◌^◌, ◌<◌, ◌≤◌, min, Bool, true, false, List, [], ◌∷◌, length, get_or, set, sym, refl, ap, ◌∙◌, ap₂, arith, rules, length-set}
use mathlib.Core.Path.{fun_ext}
use Rattle.std.proofs.lemmas.Bool.Decides.{nat_tests}
use Rattle.std.proofs.lemmas.Bool.{cond-true, cond-false, and_left}
use Rattle.drives.specs.declared.parts.Part.{Part}
use Rattle.drives.specs.declared.parts.Line.{Line}
use Rattle.drives.specs.declared.parts.Line.TheVariants.{Ready, Protect, Fault}
use Rattle.drives.specs.declared.parts.Direction.{Direction}
use Rattle.drives.specs.declared.parts.Direction.TheVariants.{Inward, Outward}
use Rattle.drives.specs.Bounds.{bounded}
use Rattle.drives.specs.Drives.{Drive, Shape, drive, absent, is_place, is_byte, part_size, mark_here, byte_here}
use Rattle.drives.specs.Changes.{changed, next_cylinder, with_cylinder, pulsed, with_line, with_mark, with_byte}
use Rattle.drives.specs.Sound.{memory}
use Rattle.units.specs.declared.layout.Layout.{Layout}
use Rattle.units.specs.declared.unit.State.{State}
use Rattle.units.specs.Rows.{slot_at, area, part_start, with_bit, marks_in, bytes_in, besides}
use Rattle.units.specs.Units.{shape_in, standing, lines_of, with_state_line, unit_of, alone, rest_of}
use Rattle.units.specs.Found.{Missing, Standing}
use Rattle.units.proofs.Slots.{place_inside, bits_kept, part_inside}
use Rattle.units.proofs.Writes.{mark_of, bytes_stay, marks_stay, bytes_of, rest_stays}

-- a unit that has a place fits its row
pub row_holds : (l : Layout) (n c h s : ℕ) → is_place (shape_in l n) c h s ≡ true → l.first + area (shape_in l n) ≤ n
row_holds l n c h s there = grind (arith, nat_tests)

-- a unit alone, by its number
pub here : (d : Drive) (u : ℕ) → u ≡ 0 → drive (d ∷ []) u ≡ d
unfolding drive
here d u e = rw e

pub changed_here : (d : Drive) (u : ℕ) (f : Drive → Drive) → u ≡ 0 → changed (d ∷ []) u f ≡ f d ∷ []
unfolding changed
changed_here d u f e = rw e

-- where it is not the unit, or the unit shows nothing there
pub shows_none : {X : Type 0} (d : Drive) (u : ℕ) (q : Drive → X) → (u ≡ 0 → q d ≡ q absent) → q (drive (d ∷ []) u) ≡ q absent
unfolding drive
shows_none d zero q n = n refl
shows_none d (suc u) q n = refl

pub changes_none : (d : Drive) (u : ℕ) (f : Drive → Drive) → (u ≡ 0 → f d ≡ d) → d ∷ [] ≡ changed (d ∷ []) u f
unfolding changed
changes_none d zero f n = ap (λ x. x ∷ []) (sym (n refl))
changes_none d (suc u) f n = refl

-- a change of what does not exist is none
pub no_mark_changes : (p : Part) (h s : ℕ) (value : Bool) (d : Drive) → is_place d.shape d.cylinder h s ≡ false → with_mark p h s value d ≡ d
unfolding with_mark
no_mark_changes p h s value d e = rw e

pub no_byte_changes : (p : Part) (h s i value : ℕ) (d : Drive) → is_byte d.shape p d.cylinder h s i ≡ false → with_byte p h s i value d ≡ d
unfolding with_byte
no_byte_changes p h s i value d e = rw e

-- a unit by its parts
abbrev pub over : Shape → (Line → Bool) → ℕ → ℕ → List ℕ → Drive
over g lines n first row = record { shape = g; lines = lines; held = false; cylinder = n; marks = marks_in g first row; bytes = bytes_in g first row }

-- two units are the same if their marks and bytes are, and all else
same_parts : (d : Drive) {m : Part → ℕ → ℕ → ℕ → Bool} {b : Part → ℕ → ℕ → ℕ → ℕ → ℕ} → ((p : Part) (c h s : ℕ) → d.marks p c h s ≡ m p c h s) → ((p : Part) (c h s i : ℕ) → d.bytes p c h s i ≡ b p c h s i) → d ≡ record d { marks = m; bytes = b }
same_parts d em eb =
    ap₂ (λ m b. record d { marks = m; bytes = b })
    (fun_ext (λ p. fun_ext (λ c. fun_ext (λ h. fun_ext (λ s. em p c h s)))))
    (fun_ext (λ p. fun_ext (λ c. fun_ext (λ h. fun_ext (λ s. fun_ext (λ i. eb p c h s i))))))

-- a place that stands in the row: what shows there, and what a write means
module _ (g : Shape) (lines : Line → Bool) (c first : ℕ) (row : List ℕ) (h s : ℕ) (there : is_place g c h s ≡ true) (fit : first + area g ≤ length row) where
  inside_row : first + slot_at g c h s + (g.length + 11) ≤ length row
  inside_row = omega (arith, place_inside g c h s there)

  exists : (p : Part) (i : ℕ) → i < part_size g p → is_byte g p c h s i ≡ true
  exists p i l = grind (arith, nat_tests, there)

  past : (p : Part) (i : ℕ) → part_size g p ≤ i → is_byte g p c h s i ≡ false
  past p i l = grind (arith, nat_tests, there)

  pub mark_set : (p : Part) (value : Bool) → over g lines c first (set row (first + slot_at g c h s) (with_bit p value (get_or row (first + slot_at g c h s) 0))) ≡ with_mark p h s value (over g lines c first row)
  unfolding with_mark
  mark_set p value =
      let l : first + slot_at g c h s < length row = omega (arith, inside_row) in
      same_parts _ (mark_of g first row c h s there p value l) (bytes_stay g first row c h s there _ l)

  pub byte_set : (p : Part) (i value : ℕ) → i < part_size g p → over g lines c first (set row (first + slot_at g c h s + (part_start p + i)) value) ≡ with_byte p h s i value (over g lines c first row)
  unfolding with_byte
  byte_set p i value li =
      let l : first + slot_at g c h s + (part_start p + i) < length row = omega (arith, inside_row, part_inside g p i li) in
      same_parts _ (marks_stay g first row c h s there value p i li l) (bytes_of g first row c h s there value p i li l)

  pub mark_rest : (p : Part) (value : Bool) → besides g first (set row (first + slot_at g c h s) (with_bit p value (get_or row (first + slot_at g c h s) 0))) ≡ besides g first row
  mark_rest p value = fun_ext (rest_stays g first row c h s 0 _ _ there (omega arith) fit (omega arith) (bits_kept p value _))

  pub byte_rest : (p : Part) (i value : ℕ) → i < part_size g p → besides g first (set row (first + slot_at g c h s + (part_start p + i)) value) ≡ besides g first row
  byte_rest p i value li =
      fun_ext (rest_stays g first row c h s (part_start p + i) _ value there (part_inside g p i li).0 fit refl (grind (arith, nat_tests, part_inside g p i li)))

module _ (st : State) (row : List ℕ) where
  -- a write leaves the row's length, and so the shape, alone
  pub written : (k v : ℕ) → unit_of st (set row k v) ≡ over (shape_in st.layout (length row)) (lines_of st) (standing st (length row)) st.layout.first (set row k v)
  unfolding unit_of
  written k v = ap (λ n. over (shape_in st.layout n) (lines_of st) (standing st n) st.layout.first (set row k v)) (length-set row k v)

  pub rest_written : (k v : ℕ) → rest_of st (set row k v) ≡ memory (length row) st.layout.first (besides (shape_in st.layout (length row)) st.layout.first (set row k v))
  rest_written k v = ap (λ n. memory n st.layout.first (besides (shape_in st.layout n) st.layout.first (set row k v))) (length-set row k v)

  module _ (u h s : ℕ) where
    pub missing : (u ≡ 0 → is_place (shape_in st.layout (length row)) (standing st (length row)) h s ≡ false) → Missing st row u h s
    unfolding unit_of marks_in bytes_in
    missing no_place = record {
      mark = λ p. shows_none (unit_of st row) u (λ d. mark_here d p h s) (λ e. cond-false _ _ _ (no_place e));
      byte = λ p i. shows_none (unit_of st row) u (λ d. byte_here d p h s i) (λ e. cond-false _ _ _ (and_left _ _ (no_place e)));
      set_mark = λ p value. changes_none (unit_of st row) u (with_mark p h s value) (λ e. no_mark_changes p h s value (unit_of st row) (no_place e));
      set_byte = λ p i value. changes_none (unit_of st row) u (with_byte p h s i value) (λ e. no_byte_changes p h s i value (unit_of st row) (and_left _ _ (no_place e)));
    }

    -- the place stands in the row
    module _ (small : length row < 2 ^ 64) (at_0 : u ≡ 0) (there : is_place (shape_in st.layout (length row)) (standing st (length row)) h s ≡ true) where
      pub stands : Standing st row u h s (st.layout.first + slot_at (shape_in st.layout (length row)) (standing st (length row)) h s)
      unfolding unit_of drive changed marks_in bytes_in
      stands =
          let g : Shape = shape_in st.layout (length row) in
          let c : ℕ = standing st (length row) in
          let first : ℕ = st.layout.first in
          let fit = row_holds st.layout (length row) c h s there in
          let d : Drive = unit_of st row in
          record {
            room = omega (arith, inside_row g (lines_of st) c first row h s there fit, small);
            mark = λ p. rw at_0 (cond-true _ _ _ there);
            byte = λ p i l. rw at_0 (cond-true _ _ _ (exists g (lines_of st) c first row h s there fit p i l));
            no_byte = λ p i l. rw at_0 (cond-false _ _ _ (past g (lines_of st) c first row h s there fit p i l));
            set_mark = λ p value. rw at_0 (ap (λ d. d ∷ []) (written _ _ ∙ mark_set g (lines_of st) c first row h s there fit p value));
            set_mark_rest = λ p value. rest_written _ _ ∙ ap (memory (length row) first) (mark_rest g (lines_of st) c first row h s there fit p value);
            set_byte = λ p i value l. rw at_0 (ap (λ d. d ∷ []) (written _ _ ∙ byte_set g (lines_of st) c first row h s there fit p i value l));
            set_byte_rest = λ p i value l. rest_written _ _ ∙ ap (memory (length row) first) (byte_rest g (lines_of st) c first row h s there fit p i value l);
            no_set_byte = λ p i value l. changes_none d u (with_byte p h s i value) (λ e. no_byte_changes p h s i value d (past g (lines_of st) c first row h s there fit p i l));
          }

-- ---- the heads and the lines

standing_next : (direction : Direction) (cylinders n : ℕ) → min (next_cylinder direction cylinders (min n (cylinders - 1))) (cylinders - 1) ≡ next_cylinder direction cylinders (min n (cylinders - 1))
standing_next Inward cylinders n = grind (arith, nat_tests)
standing_next Outward cylinders n = omega arith

-- a state with its heads elsewhere
abbrev pub at_cylinder : ℕ → State → State
at_cylinder n st = record st { cylinder = n }

pub heads_moved : (direction : Direction) (st : State) (row : List ℕ) (u : ℕ) → u ≡ 0 → alone (at_cylinder (next_cylinder direction (shape_in st.layout (length row)).cylinders (standing st (length row))) st) row ≡ changed (alone st row) u (pulsed direction)
unfolding unit_of with_cylinder changed
heads_moved direction st row u e = rw e (ap (λ n. record (unit_of st row) { cylinder = n } ∷ []) (standing_next direction _ st.cylinder))

-- the lines of a unit that is not held
unit_line : (line : Line) (value : Bool) (st : State) (row : List ℕ) → unit_of (with_state_line line value st) row ≡ with_line line value (unit_of st row)
unfolding unit_of with_line
unit_line Ready value st row = ap (λ ls. record (unit_of st row) { lines = ls }) (fun_ext (λ l. grind rules))
unit_line Protect value st row = ap (λ ls. record (unit_of st row) { lines = ls }) (fun_ext (λ l. grind rules))
unit_line Fault value st row = ap (λ ls. record (unit_of st row) { lines = ls }) (fun_ext (λ l. grind rules))

pub line_set : (line : Line) (value : Bool) (st st' : State) (row : List ℕ) (u : ℕ) → st' ≡ with_state_line line value st → u ≡ 0 → alone st' row ≡ changed (alone st row) u (with_line line value)
unfolding changed
line_set line value st st' row u e z = rw (e, z) (ap (λ d. d ∷ []) (unit_line line value st row))

-- ---- the search for a slot

module _ (st : State) (row : List ℕ) (u h s : ℕ) (q : Shape) (size : ℕ) (es : size ≡ length row) (e : q ≡ shape_in st.layout size) where
  same_shape : q ≡ shape_in st.layout (length row)
  same_shape = e ∙ ap (shape_in st.layout) es

  -- the unit, the head or the slot does not exist
  pub not_found : (u ≡ 0 → is_place q (standing st (length row)) h s ≡ false) → Missing st row u h s
  not_found n = missing st row u h s (λ z. rw same_shape at (n z))

  -- they do: the standing cylinder exists too
  pub found : (k : ℕ) → length row < 2 ^ 64 → k ≡ standing st (length row) → bounded q.cylinders q.heads q.slots q.length ≡ true → u ≡ 0 → h < q.heads → s < q.slots → Standing st row u h s (st.layout.first + ((k * q.heads + h) * q.slots + s) * (q.length + 11))
  unfolding slot_at
  found k small ek bounds z lh ls =
      let there : is_place q (min st.cylinder (q.cylinders - 1)) h s ≡ true = grind (arith, nat_tests) in
      rw (ek, same_shape) (stands st row u h s small z (rw same_shape at there))

pub elsewhere : (d : Drive) (u : ℕ) → (u ≡ 0 → ⊥) → drive (d ∷ []) u ≡ absent
elsewhere d u n = shows_none d u (λ x. x) (λ e. absurd (n e))

pub changed_elsewhere : (d : Drive) (u : ℕ) (f : Drive → Drive) → (u ≡ 0 → ⊥) → d ∷ [] ≡ changed (d ∷ []) u f
changed_elsewhere d u f n = changes_none d u f (λ e. absurd (n e))

-- the unit alone
pub alone_here : (st : State) (row : List ℕ) (u : ℕ) → u ≡ 0 → drive (alone st row) u ≡ over (shape_in st.layout (length row)) (lines_of st) (standing st (length row)) st.layout.first row
unfolding unit_of drive
alone_here st row u e = rw e

-- what each method of a unit answers and alters
pub ruleset alone_steps = (nat_tests, alone_here, elsewhere, line_set, heads_moved, changed_elsewhere)
