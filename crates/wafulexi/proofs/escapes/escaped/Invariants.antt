use Rattle.std.proofs.Common.{◌≡◌, take, string_bytes}
use Rattle.wafulexi.specs.Escapes.{escaped}
use Rattle.wafulexi.proofs.escapes.escaped.Given as goal

-- the text so far is what the bytes so far are written as
abbrev pub invariant-loop-byte : goal.invariant-loop-byte
invariant-loop-byte l = string_bytes l.text ≡ escaped (take l.byte-index l.bytes)
