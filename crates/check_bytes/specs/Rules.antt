-- The two rules of a 7261, by their generators, both of degree 16.
use Rattle.std.specs.Prelude.{ℕ, ◌+◌, ◌^◌, List, codes}
use Rattle.check_bytes.specs.declared.kind.CheckKind.{CheckKind}
use Rattle.check_bytes.specs.declared.kind.CheckKind.TheVariants.{Crc, Lrc}

-- x^16 + x^12 + x^5 + 1
abbrev pub crc16 : ℕ
crc16 = 2 ^ 16 + 2 ^ 12 + 2 ^ 5 + 1

-- x^16 + 1
abbrev pub lrc16 : ℕ
lrc16 = 2 ^ 16 + 1

-- the generator that a choice at run time stands for
abbrev pub generator_of : CheckKind → ℕ
generator_of Crc = crc16
generator_of Lrc = lrc16

-- that generator as it is written
abbrev pub generator_text : CheckKind → List ℕ
generator_text Crc = codes "x^16+x^12+x^5+1"
generator_text Lrc = codes "x^16+1"
