-- The items that stay and the new ones are the items of the edited input.
use Rattle.std.proofs.Common.{◌≡◌, ◌∙◌, ℕ, ◌+◌, ◌-◌, ◌≤◌, List, ◌++◌, length, map, take, drop, sym, ap, subst, arith}
use Rattle.std.proofs.Math.Seq.{drop-append-add, drop-drop}
use Rattle.std.proofs.lemmas.List.{append_assoc, take-append-drop, length-take-le, length-drop, length-append}
use Rattle.logos_code.specs.Code.{CodeValue}
use Rattle.logos_code.specs.Items.{Callback}
use Rattle.logos_code.specs.Runs.{Runs}
use Rattle.logos_lexeme.specs.declared.lexeme.Span.{Span}
use Rattle.logos_relex.specs.Chunks.{AreChunks, LookBelow, bytes_of, item_at}
use Rattle.logos_relex.specs.Lexed.{IsEdited, IsLexed, IsMade, WasLexed}
use Rattle.logos_relex.specs.inside.Anews.{EndsWith, Follows, IsAnew, IsBorder, IsMet, PutsAnew}
use Rattle.logos_relex.specs.declared.anew.After.{After}
use Rattle.logos_relex.specs.declared.anew.After.TheVariants.{Former, Last}
use Rattle.logos_relex.specs.declared.anew.Anew.{Anew}
use Rattle.logos_relex.specs.declared.borders.Border.{Border}
use Rattle.logos_relex.specs.declared.chunk.Chunk.{Chunk}
use Rattle.logos_relex.specs.declared.chunk.ItemAt.{ItemAt}
use Rattle.logos_relex.specs.declared.lexed.Lexed.{Lexed}
use Rattle.logos_relex.proofs.ChunkLemmas.{chunks_append, chunks_front, chunks_length, chunks_split}

-- the last bytes of a list that ends with others are the last of these
last_bytes : (whole pre left front tail : List ℕ) → whole ≡ pre ++ left → whole ≡ front ++ tail → length left ≤ length tail → left ≡ drop (length tail - length left) tail
last_bytes whole pre left front tail one other fits =
    let k = length tail - length left in
    let n : length pre + 0 ≡ length front + k = omega (arith, fits, ap length one, ap length other, length-append pre left, length-append front tail) in
    sym (drop-append-add pre left 0) ∙ ap (drop (length pre + 0)) (sym one) ∙ ap (λ m. drop m whole) n ∙ ap (drop (length front + k)) other ∙ drop-append-add front tail k

module _ (code : CodeValue) (callback : Callback) (old new : Lexed) (former input : List ℕ) (replaced : Span) (edited : IsEdited former replaced input) (lexed : IsLexed code callback former old) where
  abbrev front : List ℕ
  front = take replaced.from former

  front_long : length front ≡ replaced.from
  front_long = let order = edited.order in let within = edited.within in length-take-le replaced.from former (omega (arith, order, within))

  -- the items before the edit
  stays_before : (k : ℕ) → LookBelow replaced.from (take k old.chunks.items) → AreChunks code callback input (take k old.chunks.items) (drop (bytes_of (take k old.chunks.items)) input)
  stays_before k below =
      let made = lexed.made in
      let chunks = take k old.chunks.items in
      let rest = edited.inserted ++ drop replaced.to former in
      let was : AreChunks code callback (front ++ drop replaced.from former) chunks (drop (bytes_of chunks) former) =
      subst (λ (l : List ℕ). AreChunks code callback l chunks (drop (bytes_of chunks) former)) (sym (take-append-drop replaced.from former)) (chunks_split code callback former made.rest old.chunks.items k made.chunks_are).0 in
      let is : input ≡ front ++ rest = edited.is ∙ append_assoc front edited.inserted (drop replaced.to former) in
      let now = chunks_front code callback front (drop replaced.from former) rest (drop (bytes_of chunks) former) chunks (subst (λ (n : ℕ). LookBelow n chunks) (sym front_long) below) was in
      subst (λ (l : List ℕ). AreChunks code callback l chunks (drop (bytes_of chunks) l)) (sym is) now

  -- the items after it
  stays_after : (k start : ℕ) (pre left : List ℕ) → input ≡ pre ++ left → IsMet old replaced.to left start k → left ≡ drop (bytes_of (take k old.chunks.items)) former
  stays_after k start pre left is met =
      let p = bytes_of (take k old.chunks.items) in
      let tail = drop replaced.to former in
      let long : length tail ≡ length former - replaced.to = length-drop replaced.to former in
      let after = met.after in
      let same = met.left_is in
      let total = lexed.length_is in
      let within = edited.within in
      let fits : length left ≤ length tail = omega (arith, long, after, same, total, within) in
      let n : replaced.to + (length tail - length left) ≡ p = omega (arith, long, after, same, total, within) in
      let two : input ≡ (front ++ edited.inserted) ++ tail = edited.is in
      last_bytes input pre left (front ++ edited.inserted) tail is two fits ∙ drop-drop (length tail - length left) replaced.to former ∙ ap (λ m. drop m former) n

  put_together : (start : Border) (made : Anew) (after : After) (left : List ℕ) → IsBorder old.chunks.items start → LookBelow replaced.from (take start.index old.chunks.items) →
      (passed : List ℕ) × (drop start.at input ≡ passed ++ left) → AreChunks code callback (drop start.at input) made.chunks.items left →
      Follows code callback old replaced.to left start.index after → EndsWith old start.index after made.chunks.items new → IsMade code callback input new.chunks.items new.last.items
  put_together start made (Former k) left border below rest chunks met ends =
      let lexed_made = lexed.made in
      let before = stays_before start.index below in
      let at = border.at in
      let front_chunks : AreChunks code callback input (take start.index old.chunks.items) (drop start.at input) =
      subst (λ (n : ℕ). AreChunks code callback input (take start.index old.chunks.items) (drop n input)) (sym at) before in
      let is : input ≡ (take start.at input ++ rest.0) ++ left = sym (take-append-drop start.at input) ∙ ap (λ l. take start.at input ++ l) rest.1 ∙ sym (append_assoc (take start.at input) rest.0 left) in
      let same = stays_after k start.index (take start.at input ++ rest.0) left is met in
      let tail : AreChunks code callback left (drop k old.chunks.items) lexed_made.rest =
      subst (λ (l : List ℕ). AreChunks code callback l (drop k old.chunks.items) lexed_made.rest) (sym same) (chunks_split code callback former lexed_made.rest old.chunks.items k lexed_made.chunks_are).1 in
      let all = chunks_append code callback input left lexed_made.rest (take start.index old.chunks.items ++ made.chunks.items) (drop k old.chunks.items)
      (chunks_append code callback input (drop start.at input) left (take start.index old.chunks.items) made.chunks.items front_chunks chunks) tail in
      record {
        rest = lexed_made.rest;
        chunks_are = subst (λ (l : List Chunk). AreChunks code callback input l lexed_made.rest) (sym ends.0) all;
        last_are = subst (λ (l : List ItemAt). Runs code callback lexed_made.rest 0 (map (item_at lexed_made.rest) l)) (ap (λ v. v.items) (sym ends.1)) lexed_made.last_are;
        text = lexed_made.text;
      }
  put_together start made (Last last) left border below rest chunks runs ends =
      let before = stays_before start.index below in
      let at = border.at in
      let front_chunks : AreChunks code callback input (take start.index old.chunks.items) (drop start.at input) =
      subst (λ (n : ℕ). AreChunks code callback input (take start.index old.chunks.items) (drop n input)) (sym at) before in
      let all = chunks_append code callback input (drop start.at input) left (take start.index old.chunks.items) made.chunks.items front_chunks chunks in
      record {
        rest = left;
        chunks_are = subst (λ (l : List Chunk). AreChunks code callback input l left) (sym ends.0) all;
        last_are = subst (λ (l : List ItemAt). Runs code callback left 0 (map (item_at left) l)) (ap (λ v. v.items) (sym ends.1)) runs.0;
        text = runs.1;
      }

pub relexed : (code : CodeValue) (callback : Callback) (old new : Lexed) (input : List ℕ) (replaced : Span) (start : Border) (made : Anew) → WasLexed code callback replaced input old →
    IsBorder old.chunks.items start → LookBelow replaced.from (take start.index old.chunks.items) → IsAnew code callback old replaced.to input start made → PutsAnew start.index made (length input) old new →
    IsLexed code callback input new
relexed code callback old new input replaced start made was border below anew puts = record {
  made = put_together code callback old new was.former input replaced was.edited was.lexed_of start made made.after anew.left border below anew.is_rest anew.chunks_are anew.follows puts.ends;
  length_is = puts.length_is;
}

-- the facts about the numbers from the former input
pub known : (code : CodeValue) (callback : Callback) (old : Lexed) (input : List ℕ) (replaced : Span) → WasLexed code callback replaced input old →
    (replaced.to ≤ old.length) × (bytes_of old.chunks.items ≤ old.length) × (replaced.from ≤ length input)
known code callback old input replaced was =
    let lexed = was.lexed_of in
    let made = lexed.made in
    let edited = was.edited in
    let order = edited.order in
    let within = edited.within in
    let total = lexed.length_is in
    let all = chunks_length code callback was.former made.rest old.chunks.items made.chunks_are in
    let long = ap length edited.is in
    let front = length-take-le replaced.from was.former (omega (arith, order, within)) in
    let sum = length-append (take replaced.from was.former ++ edited.inserted) (drop replaced.to was.former) in
    let begun = length-append (take replaced.from was.former) edited.inserted in
    (omega (arith, within, total), omega (arith, all, total), omega (arith, long, front, sum, begun))
