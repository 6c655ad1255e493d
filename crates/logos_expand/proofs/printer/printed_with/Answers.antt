use Rattle.std.proofs.Common.{◌∙◌, ℕ, List, [], ◌∷◌, ◌++◌, ap, append_assoc, string_bytes}
use lib.Utf8
use Rattle.logos_expand.proofs.printer.printed_with.Goals as goal

pub returns : goal.returns
unfolding lib.Utf8.encode
returns c =
    let written = string_bytes c.in_ok-text.text in
    let laid = string_bytes c.in_ok-laid.laid in
    record {
      written = written;
      lexer = string_bytes c.in_ok-lexer.lexer.text;
      laid = laid;
      by_name = c.args.site.by_name;
      occur = c.in_ok-lexer.ensures.shown;
      is_written = c.in_ok-text.ensures;
      is_laid_out = rw c.as_str.ensures.value at (rw c.in_ok-whole.ensures at (rw c.as_str-2.ensures.value at c.in_ok-laid.ensures));
      is = c.in_ok-push_str.ensures.bytes ∙ ap (λ (text : List ℕ). text ++ c.as_str-3.result.now) c.in_ok-push.ensures.bytes ∙ ap (λ (text : List ℕ). (written ++ 10 ∷ []) ++ text) c.as_str-3.ensures.value ∙ append_assoc written (10 ∷ []) laid;
    }
