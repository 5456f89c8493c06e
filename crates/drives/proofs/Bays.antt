-- Where there is no string, nothing shows and nothing changes.
use Rattle.std.proofs.Common.{◌≡◌, ℕ, [], refl}
use Rattle.drives.specs.Drives.{Drive, drive, absent}
use Rattle.drives.specs.Changes.{changed}

pub shows_nothing : (u : ℕ) → drive [] u ≡ absent
unfolding drive
shows_nothing u = refl

pub changes_nothing : (u : ℕ) (f : Drive → Drive) → changed [] u f ≡ []
unfolding changed
changes_nothing u f = refl
