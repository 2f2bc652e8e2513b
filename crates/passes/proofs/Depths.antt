-- How deep the readers of forms of two operands may call before a token is taken.
-- Assumes nothing.
use Rattle.std.proofs.Common.{ℕ}
use Rattle.passes.specs.declared.binary.Binary.{Binary}

abbrev pub operand_depth : Binary → ℕ
operand_depth Binary.Sequence = 4
operand_depth Binary.And = 6
operand_depth Binary.Or = 8

abbrev pub group_depth : Binary → ℕ
group_depth Binary.Sequence = 5
group_depth Binary.And = 7
group_depth Binary.Or = 9
