-- Check schemes: a rule, and what its register starts with.
use Rattle.std.specs.Prelude.{ℕ, List}
use Rattle.check_bytes.specs.declared.kind.CheckKind.{CheckKind}
use Rattle.check_bytes.specs.declared.rule.CheckRule.{Ghosts}
use Rattle.check_bytes.specs.declared.scheme.CheckScheme.{CheckScheme}
use Rattle.check_bytes.specs.Rules.{generator_of}
use Rattle.check_bytes.specs.Checks.{check_of, start_value}

-- what divides, and from where: the generator, its degree, and the register's start
pub record Divider : Type 0 where
  pub generator : ℕ
  pub degree : ℕ
  pub start : ℕ

-- the one that a scheme stands for
abbrev pub divider : {R : Type 0} → Ghosts R → CheckScheme R → Divider
divider by scheme =
    record { generator = by.generator scheme.rule; degree = by.degree scheme.rule; start = start_value scheme.start (by.degree scheme.rule) }

-- the one that a scheme with one of the two rules of a 7261 stands for
abbrev pub divider_of : CheckScheme CheckKind → Divider
divider_of scheme = record { generator = generator_of scheme.rule; degree = 16; start = start_value scheme.start 16 }

-- the check of the bytes by it
abbrev pub check_by : Divider → List ℕ → ℕ
check_by by bytes = check_of by.generator by.degree by.start bytes
