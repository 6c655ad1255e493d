-- Chunks and last items that are of UTF-8 are those of an input that is.
use Rattle.std.proofs.Common.{◌≡◌, ℕ, ◌<◌, ◌≤◌, List, [], ◌∷◌, ◌++◌, length, take, drop, IsTrue, IsUtf8, IsCharBoundary, sym, subst, arith}
use Rattle.std.proofs.Math.Seq.{take-take}
use Rattle.std.proofs.lemmas.List.{get_or_append_left, length-append, length-take-le, take-append-drop}
use Rattle.std.proofs.lemmas.Str.{IsCharBoundary-from_drop, IsCharBoundary-from_take, IsUtf8-append, IsUtf8-drop, IsUtf8-take}
use Rattle.logos_code.specs.Code.{CodeValue}
use Rattle.logos_code.specs.Items.{Callback}
use Rattle.logos_relex.specs.Chunks.{AreChunks}
use Rattle.logos_relex.specs.Lexed.{IsMade}
use Rattle.logos_relex.specs.declared.chunk.Chunk.{Chunk}
use Rattle.logos_relex.specs.declared.chunk.ItemAt.{ItemAt}

-- a boundary of the whole is one of its front
cut_front : (front rest : List ℕ) (i : ℕ) → i ≤ length front → IsCharBoundary (front ++ rest) i → IsCharBoundary front i
cut_front front rest i fits b = (
  fits,
  λ inside above.
      let same = get_or_append_left front rest 0 i inside in
      let least = b.1 (omega (arith, inside, length-append front rest)) (omega (arith, above, same)) in
      omega (arith, least, same),
)

-- a front that is UTF-8, and a rest that is and begins in it, are the whole
utf8_joined : (bytes : List ℕ) (far window : ℕ) → far ≤ window → window ≤ length bytes → IsUtf8 (take window bytes) → IsUtf8 (drop far bytes) → IsUtf8 bytes
utf8_joined bytes far window le fits front rest =
    let long = length-take-le window bytes fits in
    let whole : take window bytes ++ drop window bytes ≡ bytes = take-append-drop window bytes in
    let cut : IsCharBoundary bytes far = IsCharBoundary-from_drop bytes far (omega (arith, le, fits)) rest in
    let inside : IsCharBoundary (take window bytes) far =
    cut_front (take window bytes) (drop window bytes) far (omega (arith, le, long)) (subst (λ (l : List ℕ). IsCharBoundary l far) (sym whole) cut) in
    let first : IsUtf8 (take far bytes) = subst IsUtf8 (take-take far window bytes le) (IsUtf8-take (take window bytes) far front inside) in
    subst IsUtf8 (take-append-drop far bytes) (IsUtf8-append (take far bytes) (drop far bytes) first rest)

-- the bytes after a front that is UTF-8 are UTF-8
pub window_rest : (bytes : List ℕ) (window : ℕ) → window ≤ length bytes → IsUtf8 bytes → IsUtf8 (take window bytes) → IsUtf8 (drop window bytes)
window_rest bytes window fits whole front = IsUtf8-drop bytes window whole (IsCharBoundary-from_take bytes window whole fits front)

module _ (code : CodeValue) (callback : Callback) (utf8 : IsTrue code.utf8) where
  pub chunks_text : (bytes rest : List ℕ) (chunks : List Chunk) → AreChunks code callback bytes chunks rest → IsUtf8 rest → IsUtf8 bytes
  chunks_text bytes rest [] e text = subst IsUtf8 (sym e) text
  chunks_text bytes rest (x ∷ xs) c text = utf8_joined bytes x.length x.window c.0.fits c.0.within (c.0.text utf8) (chunks_text (drop x.length bytes) rest xs c.1 text)

  pub made_text : (input : List ℕ) (chunks : List Chunk) (last : List ItemAt) → IsMade code callback input chunks last → IsUtf8 input
  made_text input chunks last made = chunks_text input made.rest chunks made.chunks_are (made.text utf8)
