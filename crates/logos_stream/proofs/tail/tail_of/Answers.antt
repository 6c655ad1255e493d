use Rattle.std.proofs.Common.{◌≡◌, ◌∙◌, ap, drop, sym, subst}
use Rattle.std.specs.Option.{is_some}
use Rattle.std.specs.Str.{IsValidUpTo}
use Rattle.std.specs.Str.Lossy.{utf8_error_len}
use Rattle.logos_stream.proofs.TailLemmas.{text_front}
use Rattle.logos_stream.proofs.tail.tail_of.Goals as goal

pub returns-in-Err : goal.returns-in-Err
returns-in-Err c =
    let e = c.valid_up_to.ensures in
    let fault : c.is_some.result ≡ is_some (utf8_error_len (drop c.valid_up_to.result c.args.bytes.now)) =
    c.is_some.ensures ∙ ap is_some (c.error_len.ensures ∙ c.in-Err.ensures.fault ∙ ap (λ n. utf8_error_len (drop n c.args.bytes.now)) (sym e)) in
    text_front c.args.is_utf8 c.args.bytes.now c.valid_up_to.result c.is_some.result c.if-not-is_utf8.false (subst (IsValidUpTo c.args.bytes.now) (sym e) c.in-Err.ensures.cases.1) fault
