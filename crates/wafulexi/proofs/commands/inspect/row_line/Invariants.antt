use Rattle.std.proofs.Common.{◌≡◌, ◌++◌, string_bytes}
use Rattle.stepfiles.specs.Views.{viewed}
use Rattle.wafulexi.specs.Lines.{row_head, targets}
use Rattle.wafulexi.proofs.commands.inspect.row_line.Given as goal

-- the line so far has the targets by the classes so far
abbrev pub invariant-loop-class : goal.invariant-loop-class
invariant-loop-class l = string_bytes l.line ≡ row_head (viewed l.file) l.row ++ targets (viewed l.file) l.row l.class
