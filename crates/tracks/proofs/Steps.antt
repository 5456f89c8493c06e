-- Changes of one unit, one after another.
use Rattle.std.proofs.Common.{◌≡◌, ℕ, zero, suc, ◌+◌, ◌/◌, ◌<◌, Bool, false, ◌||◌, List, [], ◌∷◌, length, get_or, set, sym, refl, ap, ◌∙◌, ⊎_elim, add-one, arith, length-set, get_or-set_same, set-set}
use lib.Seq.{set-get_or}
use Rattle.std.proofs.lemmas.List.{set_past, same_lists, places}
use Rattle.std.specs.List.{list_any, range_with_len}
use Rattle.std.proofs.lemmas.Bool.{cases_lt}
use Rattle.std.proofs.lemmas.Bool.Decides.{nat_tests}
use Rattle.check_bytes.specs.Schemes.{Divider}
use Rattle.drives.specs.declared.parts.Part.{Part}
use Rattle.drives.specs.declared.parts.Part.TheVariants.{Id, Data}
use Rattle.drives.specs.Drives.{Drive, drive, absent, is_byte}
use Rattle.drives.specs.Changes.{changed, with_byte, with_mark}
use Rattle.drives.specs.Sound.{SoundDrive}
use Rattle.sectors.specs.Fields.{field_bytes}
use Rattle.tracks.specs.Marks.{some_slot, lowered, track_opened}
use Rattle.tracks.specs.Writes.{with_bytes, byte_of_check, with_check}

module _ (ds : List Drive) (u : ℕ) where
  -- two changes of one unit are one
  pub changed_twice : (f k : Drive → Drive) → changed (changed ds u f) u k ≡ changed ds u (λ d. k (f d))
  unfolding changed
  changed_twice f k =
      ⊎_elim
      (λ l. set-set ds u _ _ ∙ ap (λ d. set ds u (k d)) (get_or-set_same ds u (f (get_or ds u absent)) absent l))
      (λ l. set_past _ u _ (omega (arith, length-set ds u (f (get_or ds u absent)))) ∙ (set_past ds u _ l ∙ sym (set_past ds u _ l)))
      (cases_lt u (length ds))

  pub changed_by_none : changed ds u (λ d. d) ≡ ds
  unfolding changed
  changed_by_none = set-get_or ds u absent

-- the last of a run of slots counts too
last_counts : (test : ℕ → Bool) (a n : ℕ) → list_any test (range_with_len a (suc n)) ≡ (list_any test (range_with_len a n) || test (a + n))
last_counts test a zero = let e : a + 0 ≡ a = omega arith in grind (arith, nat_tests)
last_counts test a (suc n) =
    let e : a + 1 + n ≡ a + suc n = omega arith in
    let rest = last_counts test (a + 1) n in
    grind (arith, nat_tests)

pub some_more : (test : ℕ → Bool) (s : ℕ) → some_slot test (s + 1) ≡ (some_slot test s || test s)
some_more test s = rw add-one (last_counts test 0 s ∙ ap (λ n. some_slot test s || test n) (omega arith))

module _ (ds : List Drive) (u : ℕ) (p : Part) (h s from : ℕ) (f : ℕ → ℕ) where
  pub bytes_none : changed ds u (with_bytes p h s from f 0) ≡ ds
  unfolding with_bytes
  bytes_none = changed_by_none ds u

  -- one byte more of a run
  pub bytes_more : (k at v : ℕ) → at ≡ from + k → v ≡ f k → changed (changed ds u (with_bytes p h s from f k)) u (with_byte p h s at v) ≡ changed ds u (with_bytes p h s from f (k + 1))
  unfolding with_bytes
  bytes_more k at v e w = changed_twice ds u _ _ ∙ rw (e, w, add-one) refl

-- what a loop over a run of bytes needs
pub ruleset byte_steps = (bytes_none, bytes_more)

module _ (ds : List Drive) (u h : ℕ) where
  pub lowered_none : changed ds u (lowered h 0) ≡ ds
  unfolding lowered
  lowered_none = changed_by_none ds u

  -- one slot more of a track
  pub lowered_more : (s : ℕ) → changed (changed (changed ds u (lowered h s)) u (with_mark Id h s false)) u (with_mark Data h s false) ≡ changed ds u (lowered h (s + 1))
  unfolding lowered
  lowered_more s = ap (λ x. changed x u (with_mark Data h s false)) (changed_twice ds u _ _) ∙ changed_twice ds u _ _ ∙ rw add-one refl

  -- all slots of it
  pub lowered_all : (n : ℕ) → n ≡ (drive ds u).shape.slots → changed ds u (lowered h n) ≡ changed ds u (track_opened h)
  unfolding track_opened changed drive
  lowered_all n e = rw e refl

-- what a loop over the slots of a track needs
pub ruleset slot_steps = (lowered_none, lowered_more, lowered_all)

-- a byte of a field past sixteen bits of index does not exist
pub no_such_byte : (d : Drive) (h s i v : ℕ) → SoundDrive d → 65535 < i → with_byte Data h s i v d ≡ d
unfolding with_byte
no_such_byte d h s i v sound l =
    let b = sound.bounds in
    let none : is_byte d.shape Data d.cylinder h s i ≡ false = grind (arith, nat_tests) in
    rw none refl

pub past_field : (ds : List Drive) (u h s i v : ℕ) → SoundDrive (drive ds u) → 65535 < i → ds ≡ changed ds u (with_byte Data h s i v)
unfolding changed drive
past_field ds u h s i v sound l = sym (ap (set ds u) (no_such_byte (get_or ds u absent) h s i v sound l) ∙ set-get_or ds u absent)

pub four : (xs : List ℕ) → length xs ≡ 4 → xs ≡ get_or xs 0 0 ∷ get_or xs 1 0 ∷ get_or xs 2 0 ∷ get_or xs 3 0 ∷ []
four xs l = same_lists _ _ (omega arith) (λ k d h. grind (arith, places))

-- all bytes of a check
pub check_all : (ds : List Drive) (u g n start h s length k : ℕ) → k ≡ n / 8 → let by : Divider = record { generator = g; degree = n; start = start } in changed ds u (with_bytes Data h s length (byte_of_check by (field_bytes (drive ds u) h s 0 length)) k) ≡ changed ds u (with_check by h s length)
unfolding changed drive with_check
check_all ds u g n start h s length k all = rw all refl
