use Rattle.std.proofs.Common.{◌≡◌, ℕ, List, Option, not, ◌+◌, eqb, drop, sym, ap, ◌∙◌, arith, rules, tests}
use Rattle.std.specs.Option.{option_map}
use Rattle.std.proofs.lemmas.Iterator.{YieldsList-from_slice}
use Rattle.std.proofs.lemmas.Iterator.Adapters.{YieldsList-from_skip, position_from-zero}
use Rattle.std.proofs.lemmas.Iterator.Search.{position_from_yields_List}
use Rattle.plans.specs.Bytes.{stray}
use Rattle.plans.proofs.Scans.{stray_from}
use Rattle.plans.proofs.plan.decode.first_stray.Goals as goal

-- the place of the first byte that is not 0, and the same from the start on
first_from : (start : ℕ) (bs : List ℕ) (o p : Option ℕ) → o ≡ stray 0 bs → option_map (λ k. start + k) o ≡ p → p ≡ stray start bs
first_from start bs o p e f = sym f ∙ ap (option_map (λ k. start + k)) e ∙ sym (stray_from start 0 bs) ∙ ap (λ n. stray n bs) (omega arith)

pub returns-in_err-skipped : goal.returns-in_err-skipped
returns-in_err-skipped c =
    let bs = drop c.args.start c.args.bytes.now in
    let first : c.position.result ≡ stray 0 bs = position_from_yields_List (λ b. not (eqb b 0)) _ _ c.position.result c.position.ensures.ran (YieldsList-from_skip c.args.start (YieldsList-from_slice c.args.bytes.now cc) cc) (λ x b q k. search (rules, tests)) ∙ position_from-zero {B = ℕ} (λ b. not (eqb b 0)) bs in
    first_from c.args.start bs _ _ first (ap (option_map (λ k. c.args.start + k)) c.in_err-skipped.was ∙ sym c.from_residual.ensures)

pub returns : goal.returns
returns c =
    let bs = drop c.args.start c.args.bytes.now in
    let first : c.position.result ≡ stray 0 bs = position_from_yields_List (λ b. not (eqb b 0)) _ _ c.position.result c.position.ensures.ran (YieldsList-from_skip c.args.start (YieldsList-from_slice c.args.bytes.now cc) cc) (λ x b q k. search (rules, tests)) ∙ position_from-zero {B = ℕ} (λ b. not (eqb b 0)) bs in
    first_from c.args.start bs _ _ first (ap (option_map (λ k. c.args.start + k)) c.in_ok-skipped.was)
