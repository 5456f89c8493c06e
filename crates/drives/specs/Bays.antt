-- What a bay means: nothing where it is empty, else the string in it, held where it has a collar.
use Rattle.std.specs.Prelude.{List, []}
use Rattle.std.proofs.Common.{lit≤}
use Rattle.drives.specs.declared.bay.Bay.{Bay}
use Rattle.drives.specs.declared.bay.Bay.TheVariants.{Empty, Free, Held}
use Rattle.drives.specs.Drives.{Drive, drive}
use Rattle.drives.specs.Sound.{Rest, nothing, Sound}
use Rattle.drives.specs.Joined.{all_held}
use Rattle.drives.specs.Kept.{absent_sound, all_held_sound}

abbrev pub bay_meaning : {S : Type 0} → (S → List Drive) → Bay S → List Drive
bay_meaning meaning Empty = []
bay_meaning meaning (Free s) = meaning s
bay_meaning meaning (Held c) = all_held (meaning c.string)

abbrev pub bay_rest : {S : Type 0} → (S → Rest) → Bay S → Rest
bay_rest rest Empty = nothing
bay_rest rest (Free s) = rest s
bay_rest rest (Held c) = rest c.string

none_sound : Sound []
unfolding drive
none_sound = record { few = lit≤ tt; each = λ u. absent_sound }

pub bay_sound : {S : Type 0} (meaning : S → List Drive) → ((s : S) → Sound (meaning s)) → (b : Bay S) → Sound (bay_meaning meaning b)
bay_sound meaning sound Empty = none_sound
bay_sound meaning sound (Free s) = sound s
bay_sound meaning sound (Held c) = all_held_sound (meaning c.string) (sound c.string)
