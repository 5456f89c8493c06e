-- Runs of bytes from a function of the index, one byte more at a time.
use Rattle.std.proofs.Common.{◌≡◌, ℕ, ◌+◌, ◌*◌, ◌^◌, ◌<◌, ◌≤◌, List, [], ◌∷◌, ◌++◌, length, map, sym, ap, ◌∙◌, subst, lt_of_lt_of_le, arith, pow_mono}
use Rattle.std.specs.List.{range_with_len}
use Rattle.std.proofs.lemmas.List.FromFn.{map-range_with_len_more, length-map-range_with_len}
use Rattle.std.proofs.ByRecursion.{All-push}
use Rattle.std.proofs.lemmas.List.Sums.{fold_push}
use Rattle.check_bytes.specs.Polynomials.{Degree}
use Rattle.check_bytes.specs.Checks.{message, fed}
use Rattle.check_bytes.specs.Schemes.{Divider}
use Rattle.check_bytes.specs.Theorems.{Bytes}
use Rattle.check_bytes.proofs.Feeding.{Holds, holds_push}
use Rattle.check_bytes.proofs.Messages.{message_lt}

-- the register holds what the bytes fed so far leave
abbrev pub Fed : Divider → List ℕ → ℕ → Type 0
Fed by bytes register = Holds by.generator by.degree by.start bytes register

-- the number that bytes spell
pub record Spelt (bytes : List ℕ) (number : ℕ) : Type 0 where
  pub is : number ≡ message bytes
  pub each : Bytes bytes

module _ (f : ℕ → ℕ) where
  abbrev run : ℕ → ℕ → List ℕ
  run from count = map f (range_with_len from count)

  -- the register takes the next byte
  pub feeds : (by : Divider) (i register : ℕ) {byte next : ℕ} → Degree by.generator by.degree → byte < 256 → byte ≡ f i → next ≡ fed by.generator by.degree register byte → Fed by (run 0 i) register → Fed by (run 0 (i + 1)) next
  feeds by i register {byte = byte} deg low e taken held =
      let more = ap (λ b. run 0 i ++ (b ∷ [])) e ∙ sym (map-range_with_len_more f 0 i i (omega arith)) in
      rw taken (subst (λ (xs : List ℕ). Fed by xs (fed by.generator by.degree register byte)) more (holds_push by.generator by.degree by.start (run 0 i) register byte deg low held))

  -- a number takes the next byte
  pub spells : (from i j : ℕ) {found byte : ℕ} → from + i ≡ j → byte < 256 → byte ≡ f j → Spelt (run from i) found → Spelt (run from (i + 1)) (found * 256 + byte)
  spells from i j {found = found} {byte = byte} at low e spelt =
      let more = ap (λ b. run from i ++ (b ∷ [])) e ∙ sym (map-range_with_len_more f from i j at) in
      subst (λ (xs : List ℕ). Spelt xs (found * 256 + byte)) more record {
        is = ap (λ x. x * 256 + byte) spelt.is ∙ sym (fold_push (λ m byte. m * 2 ^ 8 + byte) 0 (run from i) byte);
        each = All-push (λ byte. byte < 2 ^ 8) (run from i) byte spelt.each low;
      }

  -- three bytes leave room for one more
  pub few : (from i found : ℕ) → i ≤ 3 → Spelt (run from i) found → found < 2 ^ 24
  few from i found l spelt =
      let len : length (run from i) ≡ i = length-map-range_with_len f from i in
      rw spelt.is (lt_of_lt_of_le (message_lt (run from i) spelt.each) (pow_mono {i = 8 * length (run from i)} {j = 24} (omega arith)))
