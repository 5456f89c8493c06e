-- Two strings joined.
use Rattle.std.proofs.Common.{◌≡◌, ℕ, ◌+◌, ◌-◌, ◌<◌, ◌≤◌, min, List, ◌++◌, length, get_or, take, drop, set, sym, ap, ◌∙◌, arith, length-append, length-take, drop-set-lt}
use lib.Seq.{take-set-lt}
use Rattle.std.proofs.lemmas.List.{get_or-take, get_or_append_left, get_or-append_right, get_or_past, set-append_left, set-append_right, set_past}
use Rattle.drives.specs.declared.pair.Side.TheVariants.{First, Second, Neither}
use Rattle.drives.specs.Drives.{Drive, drive, absent}
use Rattle.drives.specs.Changes.{changed}
use Rattle.drives.specs.Joined.{joined, left_over}
use Rattle.drives.specs.Sides.{UnitOf, SideOf}

-- where unit u of all units is unit v of the string zs among them, it is so of the first eight
among : (zs : List Drive) (all : List Drive → List Drive) (u v : ℕ) → u < 8 → get_or (all zs) u absent ≡ get_or zs v absent → ((d : Drive) → all (set zs v d) ≡ set (all zs) u d) → UnitOf zs (λ ws. take 8 (all ws)) (λ ws. drop 8 (all ws)) u v
unfolding drive changed
among zs all u v l same put =
    let shown : get_or (take 8 (all zs)) u absent ≡ get_or zs v absent = get_or-take 8 (all zs) u absent l ∙ same in
    record {
      shows = shown;
      changes = λ f. ap (take 8) (put _) ∙ (take-set-lt 8 (all zs) u _ l ∙ ap (λ d. set (take 8 (all zs)) u (f d)) (sym shown));
      stays = λ f. ap (drop 8) (put _) ∙ drop-set-lt 8 (all zs) u _ l;
    }

module _ (xs ys : List Drive) where
  pub joined_length : length (joined xs ys) ≡ min 8 (length xs + length ys)
  unfolding joined
  joined_length = length-take 8 (xs ++ ys) ∙ ap (λ n. min 8 n) (length-append xs ys)

  module _ (u : ℕ) where
    pub side_first : u < length xs → length xs ≤ 8 → SideOf xs ys u (First u)
    unfolding joined left_over
    side_first l m = among xs (λ zs. zs ++ ys) u u (omega arith) (get_or_append_left xs ys absent u l) (λ d. sym (set-append_left xs ys u d l))

    pub side_second : (n : ℕ) → n ≡ length xs → n ≤ u → u < 8 → SideOf xs ys u (Second (u - n))
    unfolding joined left_over
    side_second n e l m = among ys (λ zs. xs ++ zs) u (u - n) m (get_or-append_right xs ys n u absent (sym e) l) (λ d. sym (set-append_right xs ys n u d (sym e) l))

    pub side_neither : 8 ≤ u → SideOf xs ys u Neither
    unfolding joined changed drive
    side_neither l =
        let past : length (take 8 (xs ++ ys)) ≤ u = omega (arith, length-take 8 (xs ++ ys)) in
        (get_or_past (take 8 (xs ++ ys)) u absent past, λ f. sym (set_past (take 8 (xs ++ ys)) u _ past))

    -- where neither has a unit, nothing shows in the second and nothing changes there
    pub neither_as_second : 8 ≤ u → length ys ≤ 8 → SideOf xs ys u (Second u)
    unfolding joined changed drive
    neither_as_second l m =
        let past : length (take 8 (xs ++ ys)) ≤ u = omega (arith, length-take 8 (xs ++ ys)) in
        let still : (f : Drive → Drive) → changed ys u f ≡ ys = λ f. set_past ys u _ (omega arith) in
        record {
          shows = get_or_past (take 8 (xs ++ ys)) u absent past ∙ sym (get_or_past ys u absent (omega arith));
          changes = λ f. ap (joined xs) (still f) ∙ sym (set_past (take 8 (xs ++ ys)) u _ past);
          stays = λ f. ap (left_over xs) (still f);
        }
