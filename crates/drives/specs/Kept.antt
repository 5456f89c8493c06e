-- Strings made of sound strings are sound: what the implementations prove as their law `sound`.
use Rattle.std.specs.Prelude.{ℕ, zero, suc, ◌≤◌, List, [], ◌∷◌, ◌++◌, map, length, take, slice_index_or, refl}
use Rattle.std.proofs.Common.{arith, lit≤, length-take}
use Rattle.std.proofs.lemmas.List.{length-map}
use Rattle.drives.specs.Drives.{Drive, drive, absent}
use Rattle.drives.specs.Sound.{SoundDrive, Sound}
use Rattle.drives.specs.Joined.{joined, hold, all_held}

pub absent_sound : SoundDrive absent
absent_sound = record { bounds = refl; standing = lit≤ tt; protected = refl; no_mark = λ p c h s e. refl; no_byte = λ p c h s i e. refl }

-- every unit of a list, and what is past its end
abbrev Each : List Drive → Type 0
Each ds = (u : ℕ) → SoundDrive (slice_index_or ds u absent)

each_take : (n : ℕ) (ds : List Drive) → Each ds → Each (take n ds)
each_take zero ds h u = absent_sound
each_take (suc n) [] h u = absent_sound
each_take (suc n) (d ∷ ds) h zero = h zero
each_take (suc n) (d ∷ ds) h (suc u) = each_take n ds (λ v. h (suc v)) u

each_append : (xs ys : List Drive) → Each xs → Each ys → Each (xs ++ ys)
each_append [] ys hx hy u = hy u
each_append (x ∷ xs) ys hx hy zero = hx zero
each_append (x ∷ xs) ys hx hy (suc u) = each_append xs ys (λ v. hx (suc v)) hy u

hold_sound : (d : Drive) → SoundDrive d → SoundDrive (hold d)
unfolding hold
hold_sound d h = record { bounds = h.bounds; standing = h.standing; protected = refl; no_mark = h.no_mark; no_byte = h.no_byte }

each_hold : (ds : List Drive) → Each ds → Each (map hold ds)
each_hold [] h u = absent_sound
each_hold (d ∷ ds) h zero = hold_sound d (h zero)
each_hold (d ∷ ds) h (suc u) = each_hold ds (λ v. h (suc v)) u

pub joined_sound : (xs ys : List Drive) → Sound xs → Sound ys → Sound (joined xs ys)
unfolding joined drive
joined_sound xs ys hx hy = record { few = omega (arith, length-take 8 (xs ++ ys)); each = each_take 8 (xs ++ ys) (each_append xs ys hx.each hy.each) }

pub all_held_sound : (ds : List Drive) → Sound ds → Sound (all_held ds)
unfolding all_held drive
all_held_sound ds h = let few : length ds ≤ 8 = h.few in record { few = omega (arith, length-map ds hold); each = each_hold ds h.each }
