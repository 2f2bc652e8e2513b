use Rattle.std.proofs.Common.{◌≡◌, length, take, drop, replicate, string_bytes, ap, ◌∙◌}
use Rattle.std.proofs.lemmas.List.{take_min, drop_min}
use Rattle.std.proofs.lemmas.Result.{IfOk-weaker}
use Rattle.wafulexi.specs.Escapes.{escaped}
use Rattle.wafulexi.specs.Excerpts.{first_line, last_line}
use Rattle.wafulexi.proofs.Cutting.{pointed-is, repeat_one}
use Rattle.wafulexi.proofs.excerpts.excerpt.Goals as goal

pub returns : goal.returns
returns c =
    let text = c.args.text.now in
    let p = c.args.place in
    let b = c.in_ok-before.before in
    let front = c.split_at.ensures.front ∙ ap (λ k. take k text) c.min.ensures ∙ take_min p text in
    let back = c.split_at.ensures.back ∙ ap (λ k. drop k text) c.min.ensures ∙ drop_min p text in
    let before : string_bytes b ≡ escaped (last_line (take p text)) = c.in_ok-before.ensures ∙ ap escaped (c.last_line.ensures ∙ ap last_line front) in
    let after : string_bytes c.in_ok-after.after ≡ escaped (first_line (drop p text)) = c.in_ok-after.ensures ∙ ap escaped (c.first_line.ensures ∙ ap first_line back) in
    let indent : string_bytes c.in_ok-indent.indent ≡ replicate (length (string_bytes b)) 32 = c.in_ok-indent.ensures.bytes ∙ repeat_one c.len.result 32 ∙ ap (λ n. replicate n 32) (c.len.ensures ∙ b.bytes.ok.0) in
    IfOk-weaker c.format.result _ _ (λ s made. made ∙ pointed-is _ _ _ _ _ before after indent) c.format.ensures.ok
