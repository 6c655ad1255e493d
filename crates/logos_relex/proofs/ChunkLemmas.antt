-- Chunks, one after another.
use Rattle.std.proofs.Common.{◌≡◌, ◌∙◌, ℕ, zero, suc, ◌+◌, ◌-◌, ◌<◌, ◌≤◌, List, [], ◌∷◌, ◌++◌, length, map, take, drop, get_or, IsTrue, IsUtf8, refl, sym, ap, subst, arith}
use Rattle.std.proofs.Math.Seq.{drop-drop, take-length, take-take}
use Rattle.std.proofs.lemmas.List.{append_assoc, take_more, take-append-drop, take-append-le, drop-append-le, length-drop, length-append, length-take-le}
use Rattle.logos_code.specs.Code.{CodeValue}
use Rattle.logos_code.specs.Items.{Callback}
use Rattle.logos_machine.specs.Loops.{AnswersAmong}
use Rattle.logos_machine.specs.Streams.{AreBegun}
use Rattle.logos_relex.specs.Chunks.{AreChunks, IsChunk, LookBelow, SettlesUpTo, bytes_of, item_at}
use Rattle.logos_relex.specs.inside.Anews.{IsBorder}
use Rattle.logos_relex.specs.declared.borders.Border.{Border}
use Rattle.logos_relex.specs.declared.chunk.Chunk.{Chunk}
use Rattle.logos_relex.proofs.ItemLemmas.{begun_by}

module _ (code : CodeValue) (callback : Callback) where
  -- a chunk depends on its window alone
  pub chunk_front : (bytes others : List ℕ) (chunk : Chunk) → IsChunk code callback bytes chunk → chunk.window ≤ length others → take chunk.window bytes ≡ take chunk.window others → IsChunk code callback others chunk
  chunk_front bytes others chunk c fits same = record {
    nonempty = c.nonempty;
    fits = c.fits;
    within = fits;
    spans = c.spans;
    begun = subst (λ (window : List ℕ). AreBegun code callback window (map (item_at window) chunk.items.items) chunk.length) same c.begun;
    text = λ utf8. subst IsUtf8 same (c.text utf8);
  }

  -- one of the first bytes is one of all
  pub chunk_of_front : (bytes : List ℕ) (size : ℕ) (chunk : Chunk) → size ≤ length bytes → IsChunk code callback (take size bytes) chunk → IsChunk code callback bytes chunk
  chunk_of_front bytes size chunk fits c =
      let within = c.within in
      let long = length-take-le size bytes fits in
      let less : chunk.window ≤ size = omega (arith, within, long) in
      chunk_front (take size bytes) bytes chunk c (omega (arith, less, fits)) (take-take chunk.window size bytes less)

  -- the items that a lexer found in a part up to a point are a chunk
  pub settled_chunk : (part : List ℕ) (chunk : Chunk) → SettlesUpTo code callback (take chunk.window part) chunk.items.items chunk.length → chunk.window ≤ length part → 0 < chunk.length →
      (IsTrue code.utf8 → IsUtf8 (take chunk.window part)) → IsChunk code callback part chunk
  settled_chunk part chunk s fits some text =
      let within = s.within in
      let long = length-take-le chunk.window part fits in
      record {
        nonempty = some;
        fits = omega (arith, within, long);
        within = fits;
        spans = s.spans;
        begun = s.begun;
        text = text;
      }

  pub chunks_append : (bytes middle rest : List ℕ) (xs ys : List Chunk) → AreChunks code callback bytes xs middle → AreChunks code callback middle ys rest → AreChunks code callback bytes (xs ++ ys) rest
  chunks_append bytes middle rest [] ys e h = subst (λ (l : List ℕ). AreChunks code callback l ys rest) (sym e) h
  chunks_append bytes middle rest (x ∷ xs) ys c h = (c.0, chunks_append (drop x.length bytes) middle rest xs ys c.1 h)

  pub chunks_split : (bytes rest : List ℕ) (chunks : List Chunk) (k : ℕ) → AreChunks code callback bytes chunks rest →
      AreChunks code callback bytes (take k chunks) (drop (bytes_of (take k chunks)) bytes) × AreChunks code callback (drop (bytes_of (take k chunks)) bytes) (drop k chunks) rest
  chunks_split bytes rest chunks zero c = (refl, c)
  chunks_split bytes rest [] (suc k) c = (refl, c)
  chunks_split bytes rest (x ∷ xs) (suc k) c =
      let more = chunks_split (drop x.length bytes) rest xs k c.1 in
      let n = bytes_of (take k xs) in
      let e : drop n (drop x.length bytes) ≡ drop (x.length + n) bytes = drop-drop n x.length bytes in
      ((c.0, subst (λ (l : List ℕ). AreChunks code callback (drop x.length bytes) (take k xs) l) e more.0), subst (λ (l : List ℕ). AreChunks code callback l (drop k xs) rest) e more.1)

  -- chunks that examine only the first bytes are the same in each input with these bytes
  pub chunks_front : (front one other rest : List ℕ) (chunks : List Chunk) → LookBelow (length front) chunks → AreChunks code callback (front ++ one) chunks rest →
      AreChunks code callback (front ++ other) chunks (drop (bytes_of chunks) (front ++ other))
  chunks_front front one other rest [] b c = refl
  chunks_front front one other rest (x ∷ xs) b c =
      let looks = b.0 in
      let fits = b.1 in
      let is_one : drop x.length (front ++ one) ≡ drop x.length front ++ one = drop-append-le x.length front one fits in
      let is_other : drop x.length (front ++ other) ≡ drop x.length front ++ other = drop-append-le x.length front other fits in
      let first = chunk_front (front ++ one) (front ++ other) x c.0 (omega (arith, looks, length-append front other)) (take-append-le x.window front one looks ∙ sym (take-append-le x.window front other looks)) in
      let below : LookBelow (length (drop x.length front)) xs = subst (λ (n : ℕ). LookBelow n xs) (sym (length-drop x.length front)) b.2 in
      let more = chunks_front (drop x.length front) one other rest xs below (subst (λ (l : List ℕ). AreChunks code callback l xs rest) is_one c.1) in
      let e : drop (bytes_of xs) (drop x.length front ++ other) ≡ drop (x.length + bytes_of xs) (front ++ other) = ap (drop (bytes_of xs)) (sym is_other) ∙ drop-drop (bytes_of xs) x.length (front ++ other) in (
        first,
        subst (λ (l : List ℕ). AreChunks code callback l xs (drop (x.length + bytes_of xs) (front ++ other))) (sym is_other)
            (subst (λ (l : List ℕ). AreChunks code callback (drop x.length front ++ other) xs l) e more),
      )

  -- the number of bytes of chunks
  pub chunks_length : (bytes rest : List ℕ) (chunks : List Chunk) → AreChunks code callback bytes chunks rest → bytes_of chunks + length rest ≡ length bytes
  chunks_length bytes rest [] e = let same = ap length e in omega (arith, same)
  chunks_length bytes rest (x ∷ xs) c =
      let more = chunks_length (drop x.length bytes) rest xs c.1 in
      let fits = c.0.fits in
      let within = c.0.within in
      omega (arith, more, fits, within, length-drop x.length bytes)

-- by a callback with the same answers
pub chunk_by : (code : CodeValue) (callback other : Callback) (bytes : List ℕ) (chunk : Chunk) → AnswersAmong callback other → AnswersAmong other callback → IsChunk code callback bytes chunk → IsChunk code other bytes chunk
chunk_by code callback other bytes chunk there back c = record {
  nonempty = c.nonempty;
  fits = c.fits;
  within = c.within;
  spans = c.spans;
  begun = begun_by code callback other (take chunk.window bytes) (map (item_at (take chunk.window bytes)) chunk.items.items) chunk.length there back c.begun;
  text = c.text;
}

-- ---- lists of chunks

pub bytes_take : (chunks : List Chunk) (k : ℕ) → bytes_of (take k chunks) ≤ bytes_of chunks
bytes_take chunks zero = omega arith
bytes_take [] (suc k) = omega arith
bytes_take (x ∷ xs) (suc k) = let more = bytes_take xs k in omega (arith, more)

pub bytes_with : (xs : List Chunk) (y : Chunk) → bytes_of (xs ++ y ∷ []) ≡ bytes_of xs + y.length
bytes_with [] y = omega arith
bytes_with (x ∷ xs) y = let more = bytes_with xs y in omega (arith, more)

pub below_with : (xs : List Chunk) (y : Chunk) (limit : ℕ) → LookBelow limit xs → bytes_of xs + y.window ≤ limit → bytes_of xs + y.length ≤ limit → LookBelow limit (xs ++ y ∷ [])
below_with [] y limit b looks fits = (omega (arith, looks), omega (arith, fits), tt)
below_with (x ∷ xs) y limit b looks fits =
    let one = b.1 in
    (b.0, b.1, below_with xs y (limit - x.length) b.2 (omega (arith, one, looks)) (omega (arith, one, fits)))

pub below_bytes : (chunks : List Chunk) (limit : ℕ) → LookBelow limit chunks → bytes_of chunks ≤ limit
below_bytes [] limit b = omega arith
below_bytes (x ∷ xs) limit b = let one = b.1 in let more = below_bytes xs (limit - x.length) b.2 in omega (arith, one, more)

-- one border further, after this chunk
module _ (chunks : List Chunk) (border : Border) (chunk : Chunk) (is : chunk ≡ get_or chunks border.index chunk) (b : IsBorder chunks border) (inside : border.index < length chunks) where
  taken : take (border.index + 1) chunks ≡ take border.index chunks ++ chunk ∷ []
  taken = take_more chunks border.index chunk inside ∙ ap (λ x. take border.index chunks ++ x ∷ []) (sym is)

  pub border_next : (n : ℕ) → n ≡ chunk.length → IsBorder chunks (record { index = border.index + 1; at = border.at + n })
  border_next n same =
      let at = b.at in
      let sum = ap bytes_of taken ∙ bytes_with (take border.index chunks) chunk in
      record { within = omega (arith, inside); at = omega (arith, at, sum, same) }

  pub border_fits : (n : ℕ) → n ≡ chunk.length → border.at + n ≤ bytes_of chunks
  border_fits n same =
      let next = border_next n same in
      let at = next.at in
      omega (arith, at, bytes_take chunks (border.index + 1))

  pub border_below : (limit : ℕ) → LookBelow limit (take border.index chunks) → border.at + chunk.window ≤ limit → border.at + chunk.length ≤ limit → LookBelow limit (take (border.index + 1) chunks)
  border_below limit below looks fits =
      let at = b.at in
      subst (LookBelow limit) (sym taken) (below_with (take border.index chunks) chunk limit below (omega (arith, at, looks)) (omega (arith, at, fits)))

-- one chunk more
pub chunk_added : (code : CodeValue) (callback : Callback) (bytes rest : List ℕ) (chunks : List Chunk) (chunk : Chunk) → AreChunks code callback bytes chunks rest → IsChunk code callback rest chunk →
    AreChunks code callback bytes (chunks ++ chunk ∷ []) (drop chunk.length rest)
chunk_added code callback bytes rest chunks chunk c one = chunks_append code callback bytes rest (drop chunk.length rest) chunks (chunk ∷ []) c (one, refl)

pub passed_added : (bytes rest passed : List ℕ) (n : ℕ) → bytes ≡ passed ++ rest → bytes ≡ (passed ++ take n rest) ++ drop n rest
passed_added bytes rest passed n e = e ∙ ap (λ l. passed ++ l) (sym (take-append-drop n rest)) ∙ sym (append_assoc passed (take n rest) (drop n rest))

-- the same where the rest is taken as a slice
module _ (rest : List ℕ) (n : ℕ) where
  rest_is : take (length rest - n) (drop n rest) ≡ drop n rest
  rest_is = ap (λ k. take k (drop n rest)) (sym (length-drop n rest)) ∙ take-length (drop n rest)

  pub chunk_taken : (code : CodeValue) (callback : Callback) (bytes : List ℕ) (chunks : List Chunk) (chunk : Chunk) → n ≡ chunk.length → AreChunks code callback bytes chunks rest → IsChunk code callback rest chunk →
      AreChunks code callback bytes (chunks ++ chunk ∷ []) (take (length rest - n) (drop n rest))
  chunk_taken code callback bytes chunks chunk same c one =
      subst (λ (l : List ℕ). AreChunks code callback bytes (chunks ++ chunk ∷ []) l) (ap (λ k. drop k rest) (sym same) ∙ sym rest_is) (chunk_added code callback bytes rest chunks chunk c one)

  pub passed_taken : (bytes : List ℕ) → (passed : List ℕ) × (bytes ≡ passed ++ rest) → (passed : List ℕ) × (bytes ≡ passed ++ take (length rest - n) (drop n rest))
  passed_taken bytes p = (p.0 ++ take n rest, passed_added bytes rest p.0 n p.1 ∙ ap (λ l. (p.0 ++ take n rest) ++ l) (sym rest_is))
