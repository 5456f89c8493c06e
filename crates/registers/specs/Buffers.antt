-- The bytes in a buffer, the oldest first.
use Rattle.std.specs.Prelude.{ℕ, cond, List, [], ◌∷◌, ◌++◌, length, take, nat_lt}
use Rattle.registers.specs.declared.buffer.Buffer.{Buffer}

unfoldable pub held : Buffer → List ℕ
held b = take b.count b.bytes

-- one byte more, unless there are eight
abbrev pub added : List ℕ → ℕ → List ℕ
added bytes byte = cond (nat_lt (length bytes) 8) (bytes ++ (byte ∷ [])) bytes
