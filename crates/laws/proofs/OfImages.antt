-- The theorems on images.
use Rattle.std.proofs.Common.{◌≡◌, ℕ, ◌+◌, ◌-◌, ◌*◌, ◌/◌, ◌%◌, ◌^◌, ◌<◌, ◌≤◌, Bool, true, false, cond, ◌&&◌, eqb, ltb, List, ◌++◌, length, get_or, replicate, Ok, Err, Result, sym, refl, ap, ◌∙◌, arith}
use Rattle.std.proofs.lemmas.Nat.{mul-le}
use Rattle.std.proofs.lemmas.Bool.{cond-true}
use Rattle.std.proofs.lemmas.Bool.Decides.{nat_tests}
use Rattle.std.proofs.lemmas.Grind.{common_steps}
use Rattle.drives.specs.Bounds.{within}
use Rattle.drives.specs.Drives.{Shape, no_shape}
use Rattle.units.specs.declared.layout.Layout.{Layout}
use Rattle.units.specs.Rows.{area}
use Rattle.units.specs.Units.{said, fits, shape_in, unit_of}
use Rattle.images.specs.declared.refusal.TrailerField.{TrailerField}
use Rattle.images.specs.declared.refusal.ImageFault.{ImageFault}
use Rattle.images.specs.declared.refusal.ImageFault.TheVariants.{TooShort, NotMarked}
use Rattle.images.specs.Trailer.{last, marked, in_bounds, then_placed, judged, verdict}
use Rattle.images.specs.Fresh.{no_layout, new}
use Rattle.images.specs.Blank.{trailer}
use Rattle.laws.specs.OfImages.{NewUnit, AcceptedImagesHaveTheirShape, RefusedImagesHaveNoPlaces, BlankImagesAreAccepted, WorkedDistances, ReadOnlyTheTrailer}

-- ---- worked distances

pub worked_distances : WorkedDistances
unfolding verdict
worked_distances = record { right = refl; wrong = refl; number = refl }

-- ---- new units

-- an answer that is given passed every test
tests_passed : (a b : Bool) (j : Result Layout ImageFault) (l : Layout) → cond a (Err TooShort) (cond b j (Err NotMarked)) ≡ Ok l → j ≡ Ok l
tests_passed a b j l e = grind (arith, nat_tests)

-- a shape that is in bounds is the one that was asked for
asked : (c h s l : ℕ) (g : Shape) → in_bounds c h s l ≡ Ok g → ((within 1 2048 c && (within 1 8 h && (within 1 32 s && within 128 4095 l))) ≡ true) × (record { cylinders = c; heads = h; slots = s; length = l } ≡ g)
asked c h s l g e = grind (arith, nat_tests)

judged_fits : (n c h s len z d : ℕ) (r : Result Shape TrailerField) (l : Layout) → in_bounds c h s len ≡ r → then_placed r n z d ≡ Ok l → fits l n ≡ true
judged_fits n c h s len z d (Ok g) l b e =
    let k : Layout = record { first = n - 16 - d; cylinders = g.cylinders; heads = g.heads; slots = g.slots; length = g.length } in
    let same : k ≡ l = grind (arith, nat_tests) in
    rw (← same) (grind (arith, nat_tests))
judged_fits n c h s len z d (Err f) l b e = cc

accepted_fits : (image : List ℕ) (l : Layout) → verdict image ≡ Ok l → fits l (length image) ≡ true
unfolding verdict
accepted_fits image l e =
    let t : ℕ → ℕ = last image in
    judged_fits (length image) (t 16 * 256 + t 15) (t 14) (t 13) (t 12 * 256 + t 11) (t 10 * 256 + t 9) (((t 8 * 256 + t 7) * 256 + t 6) * 256 + t 5) _ l refl (tests_passed (ltb (length image) 16) (marked image) _ l e)

new_unit : (l : Layout) (ready : Bool) (image : List ℕ) (g : Shape) → shape_in l (length image) ≡ g → NewUnit (unit_of (new l ready) image) g ready
unfolding unit_of
new_unit l ready image g e = record { shape = e; is_ready = refl; unprotected = refl; no_fault = refl; at_zero = omega arith; free = refl }

pub accepted_shape : AcceptedImagesHaveTheirShape
accepted_shape image l e =
    let fit = accepted_fits image l e in (
      fit,
      rw e (new_unit l true image (said l) (cond-true _ _ _ fit)),
    )

pub refused_none : RefusedImagesHaveNoPlaces
refused_none image f e = rw e (new_unit no_layout false image no_shape (grind (arith, nat_tests)))

-- ---- what the verdict reads

-- the verdict on an image of n bytes, of which byte k from the end is t k
read : ℕ → (ℕ → ℕ) → Result Layout ImageFault
read n t =
    cond (ltb n 16)
    (Err TooShort)
    (cond (eqb (t 4) 0x37 && (eqb (t 3) 0x32 && (eqb (t 2) 0x36 && eqb (t 1) 0x31)))
    (judged n (t 16 * 256 + t 15) (t 14) (t 13) (t 12 * 256 + t 11) (t 10 * 256 + t 9) (((t 8 * 256 + t 7) * 256 + t 6) * 256 + t 5))
    (Err NotMarked))

verdict_reads : (xs : List ℕ) → verdict xs ≡ read (length xs) (last xs)
unfolding verdict read
verdict_reads xs = refl

read_same : (n : ℕ) (t t' : ℕ → ℕ) → ((k : ℕ) → 0 < k → k ≤ 16 → t k ≡ t' k) → read n t ≡ read n t'
unfolding read
read_same n t t' f = grind (arith, f)

pub only_the_trailer : ReadOnlyTheTrailer
only_the_trailer xs ys e f = rw (verdict_reads xs, verdict_reads ys, read_same _ (last xs) (last ys) f, e)

-- ---- blank images

-- an image that ends with sixteen bytes
ended : (n : ℕ) (t : List ℕ) → length t ≡ 16 → verdict (replicate n 0 ++ t) ≡ read (n + 16) (λ k. get_or t (16 - k) 0)
ended n t e =
    let size : length (replicate n 0 ++ t) ≡ n + 16 = grind (arith, common_steps) in
    rw (verdict_reads, read_same _ (last (replicate n 0 ++ t)) (λ k. get_or t (16 - k) 0) (λ k l m. grind (arith, common_steps)), size)

-- numbers from their bytes
distance : (n : ℕ) → n < 2 ^ 32 → ((n / 0x1000000 % 256 * 256 + n / 0x10000 % 256) * 256 + n / 0x100 % 256) * 256 + n % 256 ≡ n
distance n l = omega arith

read_blank : (n : ℕ) (g : Shape) → n ≡ area g → in_bounds g.cylinders g.heads g.slots g.length ≡ Ok g → n < 2 ^ 32 → read (n + 16) (λ k. get_or (trailer g) (16 - k) 0) ≡ Ok (record { first = 0; cylinders = g.cylinders; heads = g.heads; slots = g.slots; length = g.length })
unfolding read
read_blank n g e b m =
    let placed : then_placed (Ok g) (n + 16) 0 n ≡ Ok (record { first = 0; cylinders = g.cylinders; heads = g.heads; slots = g.slots; length = g.length }) = grind (arith, nat_tests) in
    grind (arith, nat_tests, distance)

small : (c h s l : ℕ) → (within 1 2048 c && (within 1 8 h && (within 1 32 s && within 128 4095 l))) ≡ true → c * h * s * (l + 11) < 2 ^ 32
small c h s l e =
    let a = mul-le c h 2048 8 (grind (arith, nat_tests)) (grind (arith, nat_tests)) in
    let b = mul-le (c * h) s (2048 * 8) 32 a (grind (arith, nat_tests)) in
    omega (arith, mul-le (c * h * s) (l + 11) (2048 * 8 * 32) 4106 b (grind (arith, nat_tests)))

pub blank_accepted : BlankImagesAreAccepted
blank_accepted c h s l g e =
    let a = asked c h s l g e in
    let k : Shape = record { cylinders = c; heads = h; slots = s; length = l } in
    let b : in_bounds c h s l ≡ Ok k = e ∙ ap Ok (sym a.1) in
    rw (← a.1, ended (area k) (trailer k) refl) (read_blank (area k) k refl b (small c h s l a.0))
