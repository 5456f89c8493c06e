-- The theorems on changes.
use Rattle.std.proofs.Common.{◌≡◌, ℕ, zero, suc, ◌≤◌, true, List, [], ◌∷◌, length, refl, sym, arith, length-set, get_or-set_other, get_or-set_same}
use Rattle.std.proofs.lemmas.List.{get_or_past}
use Rattle.std.proofs.lemmas.Bool.{and_parts}
use Rattle.std.proofs.lemmas.Bool.Decides.{nat_tests}
use Rattle.drives.specs.Drives.{Drive, drive, absent, is_place, mark_here, byte_here}
use Rattle.drives.specs.Changes.{changed, with_cylinder, with_line, with_mark, with_byte}
use Rattle.drives.specs.Sound.{SoundDrive}
use Rattle.units.proofs.Slots.{same_part_is}
use Rattle.laws.specs.OfStrings.{step, line_to, mark_to, byte_to, made, WhatNeverChanges, OtherUnitsStay, HeldStaysProtected, StringsStaySound, MarksReadBack, BytesReadBack}

-- ---- one unit of a string

-- what relates every unit to itself, and to itself after the change, relates each unit of the string to what it then is
related : (R : Drive → Drive → Type 0) → ((d : Drive) → R d d) → (f : Drive → Drive) → ((d : Drive) → R d (f d)) → (ds : List Drive) (u v : ℕ) → R (drive ds v) (drive (changed ds u f) v)
unfolding changed drive
related R r f e [] u v = r absent
related R r f e (d ∷ ds) zero zero = e d
related R r f e (d ∷ ds) zero (suc v) = r (drive ds v)
related R r f e (d ∷ ds) (suc u) zero = r d
related R r f e (d ∷ ds) (suc u) (suc v) = related R r f e ds u v

-- what a change leaves alone in every unit shows as before
kept : {X : Type 0} (q : Drive → X) (f : Drive → Drive) → ((d : Drive) → q (f d) ≡ q d) → (ds : List Drive) (u v : ℕ) → q (drive (changed ds u f) v) ≡ q (drive ds v)
kept q f = related (λ d d'. q d' ≡ q d) (λ d. refl) f

-- a unit that has a place exists, and is changed
is_changed : (ds : List Drive) (u c h s : ℕ) (f : Drive → Drive) → is_place (drive ds u).shape c h s ≡ true → drive (changed ds u f) u ≡ f (drive ds u)
unfolding changed drive
is_changed ds u c h s f e =
    let past : length ds ≤ u → ⊥ = λ l. let n = rw (get_or_past ds u absent l) at e in grind (arith, nat_tests) in
    get_or-set_same ds u _ absent (omega (arith, past))

-- ---- what never changes

pub never_changes : WhatNeverChanges
unfolding changed with_cylinder with_line with_mark with_byte
never_changes ds u change v = (
  length-set ds u _,
  kept (λ d. d.shape) (made change) (λ d. grind (arith, nat_tests)) ds u v,
  kept (λ d. d.held) (made change) (λ d. grind (arith, nat_tests)) ds u v,
)

pub others_stay : OtherUnitsStay
unfolding changed drive
others_stay ds u f v n = get_or-set_other ds u v _ absent n

-- ---- sound units

pub stays_sound : HeldStaysProtected
unfolding with_cylinder with_line with_mark with_byte
stays_sound (step direction) d a = record { bounds = a.bounds; standing = let b = a.standing in grind (arith, nat_tests); protected = a.protected; no_mark = a.no_mark; no_byte = a.no_byte }
stays_sound (line_to line value) d a = record { bounds = a.bounds; standing = a.standing; protected = let b = a.protected in grind (arith, nat_tests); no_mark = a.no_mark; no_byte = a.no_byte }
stays_sound (mark_to p h s value) d a = record { bounds = a.bounds; standing = a.standing; protected = a.protected; no_mark = λ p' c' h' s' n. let b = a.no_mark p' c' h' s' n in grind (arith, nat_tests); no_byte = a.no_byte }
stays_sound (byte_to p h s i value) d a = record { bounds = a.bounds; standing = a.standing; protected = a.protected; no_mark = a.no_mark; no_byte = λ p' c' h' s' i' n. let b = a.no_byte p' c' h' s' i' n in let same = same_part_is p p' in grind (arith, nat_tests) }

pub strings_sound : StringsStaySound
unfolding changed
strings_sound ds u change a =
    record {
      few = rw (length-set ds u _) a.few;
      each = λ v. related (λ d d'. SoundDrive d → SoundDrive d') (λ d b. b) (made change) (stays_sound change) ds u v (a.each v);
    }

-- ---- what shows after a change

pub marks_back : MarksReadBack
unfolding with_mark
marks_back ds u p h s value = (
  λ e. rw (is_changed ds u (drive ds u).cylinder h s (with_mark p h s value) e) (grind (arith, nat_tests)),
  λ p' h' s' n.
      let other : p ≡ p' → h' ≡ h → s' ≡ s → ⊥ = λ a b e. n (sym a, b, e) in
      kept (λ d. mark_here d p' h' s') (with_mark p h s value) (λ d. grind (arith, nat_tests)) ds u u,
  λ p' h' s' i'. kept (λ d. byte_here d p' h' s' i') (with_mark p h s value) (λ d. refl) ds u u,
)

pub bytes_back : BytesReadBack
unfolding with_byte
bytes_back ds u p h s i value = (
  λ e. rw (is_changed ds u (drive ds u).cylinder h s (with_byte p h s i value) (and_parts _ _ e).0) (grind (arith, nat_tests)),
  λ p' h' s' i' n.
      let other : p ≡ p' → h' ≡ h → s' ≡ s → i' ≡ i → ⊥ = λ a b e f. n (sym a, b, e, f) in
      kept (λ d. byte_here d p' h' s' i') (with_byte p h s i value) (λ d. grind (arith, nat_tests)) ds u u,
  λ p' h' s'. kept (λ d. mark_here d p' h' s') (with_byte p h s i value) (λ d. refl) ds u u,
)
