use Rattle.std.proofs.Common.{take, ap, ◌∙◌}
use Rattle.std.proofs.lemmas.List.{take_all}
use Rattle.registers.proofs.Held.{first_eight_more}
use Rattle.registers.proofs.buffer.Buffer.of.Goals as goal

pub loop-byte-preserved : goal.loop-byte-preserved
loop-byte-preserved c =
    c.with-buffer.ensures
    ∙ simp c.loop-byte.invariant (first_eight_more c.args.bytes.now c.loop-byte.byte-index c.loop-byte-test.true)

pub returns : goal.returns
returns c = c.loop-byte.invariant ∙ ap (take 8) (take_all c.loop-byte.byte-index c.args.bytes.now c.loop-byte-test.false)
