-- The images of a string, one after the other.
use Rattle.std.proofs.Common.{◌≡◌, ℕ, suc, ◌+◌, ◌<◌, ◌≤◌, List, map, length, get_or, drop, Ok, sym, ap, ◌∙◌, add-one, arith, drop-cons}
use Rattle.std.proofs.lemmas.List.{at_drop_all, get_or-map, length-map}
use Rattle.images.specs.Layers.{string_verdict, after, with_unit, unit_verdict}

module _ {X : Type 0} (f : X → List ℕ) (xs : List X) where
  -- the next image decides, or those after it
  pub next_image : (d : X) (u i : ℕ) → i < length xs → string_verdict u (drop i (map f xs)) ≡ after (with_unit (unit_verdict (f (get_or xs i d))) u) (string_verdict (u + 1) (drop (i + 1) (map f xs)))
  unfolding string_verdict
  next_image d u i l =
      let m : i < length (map f xs) = omega (arith, length-map xs f) in
      ap (string_verdict u) (drop-cons (map f xs) i (f d) m)
      ∙ ap (λ image. after (with_unit (unit_verdict image) u) (string_verdict (u + 1) (drop (suc i) (map f xs)))) (get_or-map f xs i d (f d) l)
      ∙ ap (λ k. after (with_unit (unit_verdict (f (get_or xs i d))) u) (string_verdict (u + 1) (drop k (map f xs)))) (sym (add-one i))

  pub no_image : (u i : ℕ) → length xs ≤ i → string_verdict u (drop i (map f xs)) ≡ Ok tt
  unfolding string_verdict
  no_image u i l = at_drop_all (string_verdict u) (map f xs) i (omega (arith, length-map xs f))
