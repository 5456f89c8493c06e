-- A string with every unit held.
use Rattle.std.proofs.Common.{◌≡◌, ℕ, zero, suc, Bool, true, false, ltb, ◌⊎◌, inl, inr, List, [], ◌∷◌, map, length, sym, refl, ap, ◌∙◌, ⊎_elim, arith}
use mathlib.Core.Path.{fun_ext}
use Rattle.std.proofs.lemmas.List.{get_or_past, get_or-map, length-map}
use Rattle.std.proofs.lemmas.Bool.{cases_lt, lt-ltb, le-ltb}
use Rattle.drives.specs.declared.parts.Part.{Part}
use Rattle.drives.specs.declared.parts.Line.{Line}
use Rattle.drives.specs.declared.parts.Line.TheVariants.{Ready, Protect, Fault}
use Rattle.drives.specs.declared.parts.Direction.{Direction}
use Rattle.drives.specs.Drives.{Drive, drive, absent}
use Rattle.drives.specs.Changes.{changed, pulsed, same_line, with_cylinder, with_line, with_mark, with_byte}
use Rattle.drives.specs.Joined.{hold, all_held}

-- what holding leaves alone shows as below
shows_below : {X : Type 0} (q : Drive → X) → ((d : Drive) → q (hold d) ≡ q d) → (ds : List Drive) (u : ℕ) → q (drive (all_held ds) u) ≡ q (drive ds u)
unfolding all_held drive
shows_below q e [] u = refl
shows_below q e (d ∷ ds) zero = e d
shows_below q e (d ∷ ds) (suc u) = shows_below q e ds u

-- a change that goes with holding is made below
made_below : (f : Drive → Drive) → ((d : Drive) → hold (f d) ≡ f (hold d)) → (ds : List Drive) (u : ℕ) → all_held (changed ds u f) ≡ changed (all_held ds) u f
unfolding all_held changed
made_below f e [] u = refl
made_below f e (d ∷ ds) zero = ap (λ x. x ∷ map hold ds) (e d)
made_below f e (d ∷ ds) (suc u) = ap (λ xs. hold d ∷ xs) (made_below f e ds u)

-- a change that a held unit does not feel is none
not_felt : (f : Drive → Drive) → ((d : Drive) → f (hold d) ≡ hold d) → (ds : List Drive) (u : ℕ) → changed (all_held ds) u f ≡ all_held ds
unfolding all_held changed
not_felt f e [] u = refl
not_felt f e (d ∷ ds) zero = ap (λ x. x ∷ map hold ds) (e d)
not_felt f e (d ∷ ds) (suc u) = ap (λ xs. hold d ∷ xs) (not_felt f e ds u)

-- a held unit with other lines
with_lines : Drive → (Line → Bool) → Drive
with_lines d ls = record d { lines = ls; held = true }

holds_protect : (value : Bool) (d : Drive) → with_line Protect value (hold d) ≡ hold d
unfolding hold with_line with_lines
holds_protect value d = ap (with_lines d) (fun_ext each) where
  each : (l : Line) → (with_line Protect value (hold d)).lines l ≡ (hold d).lines l
  each Ready = refl
  each Protect = refl
  each Fault = refl

-- ready and fault are set below
set_below : (line : Line) → same_line line Protect ≡ false → (value : Bool) (d : Drive) → hold (with_line line value d) ≡ with_line line value (hold d)
unfolding hold with_line with_lines
set_below line e value d = ap (with_lines d) (fun_ext (each line e)) where
  each : (line : Line) → same_line line Protect ≡ false → (l : Line) → (hold (with_line line value d)).lines l ≡ (with_line line value (hold d)).lines l
  each Ready e Ready = refl
  each Ready e Protect = refl
  each Ready e Fault = refl
  each Fault e Ready = refl
  each Fault e Protect = refl
  each Fault e Fault = refl
  each Protect e l = cc

line_below : (line : Line) → same_line line Protect ≡ false → (d : Drive) → (hold d).lines line ≡ d.lines line
unfolding hold
line_below Ready e d = refl
line_below Fault e d = refl
line_below Protect e d = cc

module _ (ds : List Drive) where
  pub held_length : length (all_held ds) ≡ length ds
  unfolding all_held
  held_length = length-map ds hold

  module _ (u : ℕ) where
    pub held_shape : (drive (all_held ds) u).shape ≡ (drive ds u).shape
    unfolding hold
    held_shape = shows_below (λ (d : Drive). d.shape) (λ d. refl) ds u

    pub held_cylinder : (drive (all_held ds) u).cylinder ≡ (drive ds u).cylinder
    unfolding hold
    held_cylinder = shows_below (λ (d : Drive). d.cylinder) (λ d. refl) ds u

    pub held_marks : (drive (all_held ds) u).marks ≡ (drive ds u).marks
    unfolding hold
    held_marks = shows_below (λ (d : Drive). d.marks) (λ d. refl) ds u

    pub held_bytes : (drive (all_held ds) u).bytes ≡ (drive ds u).bytes
    unfolding hold
    held_bytes = shows_below (λ (d : Drive). d.bytes) (λ d. refl) ds u

    pub held_other_line : (line : Line) → same_line line Protect ≡ false → (drive (all_held ds) u).lines line ≡ (drive ds u).lines line
    held_other_line line e = shows_below (λ (d : Drive). d.lines line) (line_below line e) ds u

    pub held_protect : (drive (all_held ds) u).lines Protect ≡ ltb u (length ds)
    unfolding all_held drive hold
    held_protect =
        ⊎_elim (λ l. ap (λ (d : Drive). d.lines Protect) (get_or-map hold ds u absent absent l) ∙ sym (lt-ltb _ _ l))
        (λ l. ap (λ (d : Drive). d.lines Protect) (get_or_past (map hold ds) u absent (omega (arith, length-map ds hold))) ∙ sym (le-ltb _ _ l))
        (cases_lt u (length ds))

    pub step_held : (direction : Direction) → all_held (changed ds u (pulsed direction)) ≡ changed (all_held ds) u (pulsed direction)
    unfolding hold with_cylinder
    step_held direction = made_below (pulsed direction) (λ d. refl) ds u

    pub mark_held : (p : Part) (h s : ℕ) (value : Bool) → all_held (changed ds u (with_mark p h s value)) ≡ changed (all_held ds) u (with_mark p h s value)
    unfolding hold with_mark
    mark_held p h s value = made_below (with_mark p h s value) (λ d. refl) ds u

    pub byte_held : (p : Part) (h s i value : ℕ) → all_held (changed ds u (with_byte p h s i value)) ≡ changed (all_held ds) u (with_byte p h s i value)
    unfolding hold with_byte
    byte_held p h s i value = made_below (with_byte p h s i value) (λ d. refl) ds u

    pub line_held : (line : Line) → same_line line Protect ≡ false → (value : Bool) → all_held (changed ds u (with_line line value)) ≡ changed (all_held ds) u (with_line line value)
    line_held line e value = made_below (with_line line value) (set_below line e value) ds u

    pub protect_held : (value : Bool) → changed (all_held ds) u (with_line Protect value) ≡ all_held ds
    protect_held value = not_felt (with_line Protect value) (holds_protect value) ds u

-- what each method of a collar answers and alters
pub ruleset held = (held_length, held_shape, held_cylinder, held_marks, held_bytes, held_other_line, held_protect, step_held, mark_held, byte_held, line_held, protect_held)

-- the same for any question and any change
module _ (ds : List Drive) where
  -- what holding leaves alone shows as below
  pub held_shows : {X : Type 0} (q : Drive → X) (u : ℕ) → ((d : Drive) → q (hold d) ≡ q d) → q (drive (all_held ds) u) ≡ q (drive ds u)
  held_shows q u e = shows_below q e ds u

  -- a change that goes with holding is made below
  pub held_changed : (f : Drive → Drive) (u : ℕ) → ((d : Drive) → hold (f d) ≡ f (hold d)) → all_held (changed ds u f) ≡ changed (all_held ds) u f
  held_changed f u e = made_below f e ds u

  pub held_keeps_protect : (value : Bool) (u : ℕ) → all_held ds ≡ changed (all_held ds) u (with_line Protect value)
  held_keeps_protect value u = sym (protect_held ds u value)

pub hold_pulsed : (direction : Direction) (d : Drive) → hold (pulsed direction d) ≡ pulsed direction (hold d)
unfolding hold with_cylinder
hold_pulsed direction d = refl

pub hold_mark : (p : Part) (h s : ℕ) (value : Bool) (d : Drive) → hold (with_mark p h s value d) ≡ with_mark p h s value (hold d)
unfolding hold with_mark
hold_mark p h s value d = refl

pub hold_byte : (p : Part) (h s i value : ℕ) (d : Drive) → hold (with_byte p h s i value d) ≡ with_byte p h s i value (hold d)
unfolding hold with_byte
hold_byte p h s i value d = refl

not_protect : (line : Line) → (line ≡ Ready) ⊎ (line ≡ Fault) → same_line line Protect ≡ false
not_protect Ready e = refl
not_protect Fault e = refl
not_protect Protect (inl e) = absurd (let z : ◌≡◌ {A = ℕ} 0 1 = cc in omega arith)
not_protect Protect (inr e) = absurd (let z : ◌≡◌ {A = ℕ} 0 1 = cc in omega arith)

module _ (ds : List Drive) (line : Line) (e : (line ≡ Ready) ⊎ (line ≡ Fault)) (u : ℕ) where
  pub held_line : (drive (all_held ds) u).lines line ≡ (drive ds u).lines line
  held_line = held_other_line ds u line (not_protect line e)

  pub held_set_line : (value : Bool) → all_held (changed ds u (with_line line value)) ≡ changed (all_held ds) u (with_line line value)
  held_set_line value = line_held ds u line (not_protect line e) value
