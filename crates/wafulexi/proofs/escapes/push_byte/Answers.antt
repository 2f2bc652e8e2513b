use Rattle.std.proofs.Common.{◌/◌, ◌%◌, string_bytes, sym, arith}
use Rattle.wafulexi.proofs.Escaping.{in_hex, digit}
use Rattle.wafulexi.proofs.escapes.push_byte.Goals as goal

pub returns-in_ok-push-3 : goal.returns-in_ok-push-3
returns-in_ok-push-3 c =
    let byte = c.args.byte in
    let high = c.in_ok-push-2.ensures in
    let low = c.in_ok-push-3.ensures in
    let s = string_bytes c.args.text.now in
    let t = string_bytes c.push_str.new.self in
    let u = string_bytes c.push-else-prints.new.self in
    let v = string_bytes c.push-else-prints-2.new.self in
    in_hex s t u v byte (sym c.if-prints.ensures) c.in_ok-push_str.ensures.bytes
    (digit t u (byte / 16) c.hex_digit.result (omega arith) c.hex_digit.ensures high.ascii high.bytes)
    (digit u v (byte % 16) c.hex_digit-else-prints.result (omega arith) c.hex_digit-else-prints.ensures low.ascii low.bytes)
