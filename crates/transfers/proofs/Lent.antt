-- A turn on a path whose string is lent: the loan stays, and the string changes as if the path owned it.
use Rattle.std.proofs.Common.{◌≡◌, ℕ, List, sym, ap, ◌∙◌, arith}
use Rattle.std.proofs.lemmas.Grind.{common_steps}
use Rattle.drives.specs.Sound.{Rest, loan}
use Rattle.registers.specs.declared.running.Transfer.{Transfer}
use Rattle.registers.specs.declared.running.Format.{Format}
use Rattle.transfers.specs.Steps.{Path, Outcome, Step}
use Rattle.transfers.specs.Transfers.{transfer_turn}
use Rattle.transfers.specs.Formats.{format_turn}

-- a step with other memory beside the drives
abbrev with_rest : {T : Type 0} → Rest → Step T → Step T
with_rest r s = (s.0, record s.1 { rest = r })

transfers_apart : (t : Transfer) (p : Path) (r : Rest) → transfer_turn t (record p { rest = r }) ≡ with_rest r (transfer_turn t p)
transfers_apart t p r = grind (arith, common_steps)

formats_apart : (f : Format) (p : Path) (r : Rest) → format_turn f (record p { rest = r }) ≡ with_rest r (format_turn f p)
formats_apart f p r = grind (arith, common_steps)

loan_of : Rest → ℕ
loan_of (loan n r) = n
loan_of other = 0

lent_rest : Rest → Rest
lent_rest (loan n r) = r
lent_rest other = other

module _ {T : Type 0} (turn : Path → Step T) (apart : (p : Path) (r : Rest) → turn (record p { rest = r }) ≡ with_rest r (turn p)) (o : Outcome T) (p q : Path) (n m : ℕ) (e : (o, record q { rest = loan m q.rest }) ≡ turn (record p { rest = loan n p.rest })) where
  held_apart : (o, record q { rest = loan m q.rest }) ≡ with_rest (loan n p.rest) (turn p)
  held_apart = e ∙ apart p (loan n p.rest)

  same_loan : m ≡ n
  unfolding loan_of
  same_loan = ap (λ (s : Step T). loan_of s.1.rest) held_apart

  same_rest : q.rest ≡ p.rest
  unfolding lent_rest
  same_rest = ap (λ (s : Step T). lent_rest s.1.rest) held_apart

  same_step : (o, q) ≡ turn p
  same_step =
      let f : (o, q) ≡ with_rest q.rest (turn p) = ap (λ (s : Step T). with_rest q.rest s) held_apart in
      f ∙ ap (λ (r : Rest). with_rest r (turn p)) same_rest ∙ sym (apart p p.rest)

module _ (t : Transfer) (o : Outcome Transfer) (p q : Path) (n m : ℕ) (e : (o, record q { rest = loan m q.rest }) ≡ transfer_turn t (record p { rest = loan n p.rest })) where
  pub transfer_keeps_loan : m ≡ n
  transfer_keeps_loan = same_loan (transfer_turn t) (transfers_apart t) o p q n m e

  pub transfer_keeps_rest : q.rest ≡ p.rest
  transfer_keeps_rest = same_rest (transfer_turn t) (transfers_apart t) o p q n m e

  pub transfer_on_loan : (o, q) ≡ transfer_turn t p
  transfer_on_loan = same_step (transfer_turn t) (transfers_apart t) o p q n m e

module _ (f : Format) (o : Outcome Format) (p q : Path) (n m : ℕ) (e : (o, record q { rest = loan m q.rest }) ≡ format_turn f (record p { rest = loan n p.rest })) where
  pub format_keeps_loan : m ≡ n
  format_keeps_loan = same_loan (format_turn f) (formats_apart f) o p q n m e

  pub format_keeps_rest : q.rest ≡ p.rest
  format_keeps_rest = same_rest (format_turn f) (formats_apart f) o p q n m e

  pub format_on_loan : (o, q) ≡ format_turn f p
  format_on_loan = same_step (format_turn f) (formats_apart f) o p q n m e
