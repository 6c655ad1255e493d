use Rattle.std.proofs.Common.{◌≡◌, arith, length, string_bytes}
use Rattle.logos_text.proofs.PieceLemmas.{piece_noted}
use Rattle.logos_text.proofs.sink.Sink.push_piece.Goals as goal

pub returns : goal.returns
returns c =
    let from : c.len-from.result ≡ length (string_bytes c.args.self.now.text) = omega (arith, c.len-from.ensures, c.args.self.now.text.bytes.ok.0) in
    let to : c.len-to.result ≡ length (string_bytes c.push_str.new.self) = omega (arith, c.len-to.ensures, c.push_str.new.self.bytes.ok.0) in
    record {
      is_text = c.in_ok-push_str.ensures.bytes;
      are_pieces = piece_noted _ _ c.args.text.now _ _ c.args.span _ _ from to c.in_ok-push_str.ensures.bytes c.in_ok-push.ensures.items;
    }
