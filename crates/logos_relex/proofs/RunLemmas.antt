-- The items of chunks are those of a run.
use Rattle.std.proofs.Common.{◌≡◌, ◌∙◌, ℕ, ◌+◌, ◌-◌, ◌<◌, ◌≤◌, List, [], ◌∷◌, ◌++◌, length, map, take, drop, slice_range, option_map, IsTrue, IsUtf8, refl, sym, ap, subst, arith}
use Rattle.std.proofs.Math.Seq.{drop-drop, take-take}
use Rattle.std.proofs.lemmas.List.{drop-take, map-append, take-append-drop, length-take-le}
use Rattle.logos_code.specs.Code.{CodeValue}
use Rattle.logos_code.specs.Headline.{IsSound}
use Rattle.logos_code.specs.Items.{Callback, Item, token, error}
use Rattle.logos_code.specs.Runs.{CodeFinds, Runs}
use Rattle.logos_machine.specs.Streams.{MayFollow, item_later}
use Rattle.logos_machine.proofs.LaterLemmas.{finds_later, lexes_later}
use Rattle.logos_relex.specs.Chunks.{AreChunks, EndBy, IsChunk, all_items, item_at, moved, from_of, to_of}
use Rattle.logos_relex.specs.Lexed.{LexedIsRun}
use Rattle.logos_relex.proofs.TextLemmas.{chunks_text, window_rest}
use Rattle.logos_relex.specs.declared.chunk.Chunk.{Chunk}
use Rattle.logos_relex.specs.declared.chunk.ItemAt.{ItemAt}
use Rattle.logos_relex.specs.declared.chunk.ItemAt.TheVariants.{Token, Error}

range_later : (bytes : List ℕ) (far from to : ℕ) → slice_range (drop far bytes) from to ≡ slice_range bytes (far + from) (far + to)
range_later bytes far from to =
    let n : far + to - (far + from) ≡ to - from = omega arith in
    ap (take (to - from)) (drop-drop from far bytes) ∙ ap (λ k. take k (drop (far + from) bytes)) (sym n)

at_later : (bytes : List ℕ) (far : ℕ) (item : ItemAt) → item_later far (item_at (drop far bytes) item) ≡ item_at bytes (moved far item)
at_later bytes far (Token leaf span) = ap (λ s. token leaf.0 (far + span.from) (far + span.to) s) (range_later bytes far span.from span.to)
at_later bytes far (Error leaf span) = ap (λ s. error (option_map (λ l. l.0) leaf) (far + span.from) (far + span.to) s) (range_later bytes far span.from span.to)

all_later : (bytes : List ℕ) (far : ℕ) (items : List ItemAt) → map (item_later far) (map (item_at (drop far bytes)) items) ≡ map (item_at bytes) (map (moved far) items)
all_later bytes far [] = refl
all_later bytes far (item ∷ items) = λ i. at_later bytes far item i ∷ all_later bytes far items i

-- a span in the first bytes has the same bytes there
range_front : (bytes : List ℕ) (window from to : ℕ) → from < to → to ≤ window → slice_range (take window bytes) from to ≡ slice_range bytes from to
range_front bytes window from to some within =
    let n : from + (window - from) ≡ window = omega (arith, some, within) in
    ap (λ k. take (to - from) (drop from (take k bytes))) (sym n) ∙ ap (take (to - from)) (drop-take from (window - from) bytes)
    ∙ take-take (to - from) (window - from) (drop from bytes) (omega (arith, some, within))

at_front : (bytes : List ℕ) (window : ℕ) (item : ItemAt) → from_of item < to_of item → to_of item ≤ window → item_at (take window bytes) item ≡ item_at bytes item
at_front bytes window (Token leaf span) some within = ap (λ s. token leaf.0 span.from span.to s) (range_front bytes window span.from span.to some within)
at_front bytes window (Error leaf span) some within = ap (λ s. error (option_map (λ l. l.0) leaf) span.from span.to s) (range_front bytes window span.from span.to some within)

all_front : (bytes : List ℕ) (window end : ℕ) (items : List ItemAt) → end ≤ window → EndBy end items → map (item_at (take window bytes)) items ≡ map (item_at bytes) items
all_front bytes window end [] le h = refl
all_front bytes window end (item ∷ items) le h =
    let within = h.1 in
    let first = at_front bytes window item h.0 (omega (arith, le, within)) in
    λ i. first i ∷ all_front bytes window end items le h.2 i

module _ (code : CodeValue) (callback : Callback) (sound : IsSound code) where
  -- a run on the bytes after a point is one from there on
  runs_after : (bytes : List ℕ) (far : ℕ) (items : List ItemAt) → far ≤ length bytes → Runs code callback (drop far bytes) 0 (map (item_at (drop far bytes)) items) →
      Runs code callback bytes far (map (item_at bytes) (map (moved far) items))
  runs_after bytes far items fits r =
      let front = take far bytes in
      let rest = drop far bytes in
      let long : length front ≡ far = length-take-le far bytes fits in
      let there : Runs code callback (front ++ rest) (length front + 0) (map (item_later (length front)) (map (item_at rest) items)) =
      lexes_later code.leaves callback front rest (CodeFinds code rest) (CodeFinds code (front ++ rest)) (finds_later code sound front rest) r in
      let whole : Runs code callback bytes (length front + 0) (map (item_later (length front)) (map (item_at rest) items)) =
      subst (λ (l : List ℕ). Runs code callback l (length front + 0) (map (item_later (length front)) (map (item_at rest) items))) (take-append-drop far bytes) there in
      let at : length front + 0 ≡ far = omega (arith, long) in
      let here : Runs code callback bytes far (map (item_later (length front)) (map (item_at rest) items)) =
      subst (λ (n : ℕ). Runs code callback bytes n (map (item_later (length front)) (map (item_at rest) items))) at whole in
      subst (λ (l : List Item). Runs code callback bytes far l) (ap (λ n. map (item_later n) (map (item_at rest) items)) long ∙ all_later bytes far items) here

  chunk_first : (bytes : List ℕ) (chunk : Chunk) (later : List Item) → MayFollow code (drop chunk.window bytes) → IsChunk code callback bytes chunk → Runs code callback bytes chunk.length later →
      Runs code callback bytes 0 (map (item_at bytes) chunk.items.items ++ later)
  chunk_first bytes chunk later follows c r =
      let window = take chunk.window bytes in
      let rest = drop chunk.window bytes in
      let is : window ++ rest ≡ bytes = take-append-drop chunk.window bytes in
      let there = c.begun rest follows later (subst (λ (l : List ℕ). Runs code callback l chunk.length later) (sym is) r) in
      let here : Runs code callback bytes 0 (map (item_at window) chunk.items.items ++ later) =
      subst (λ (l : List ℕ). Runs code callback l 0 (map (item_at window) chunk.items.items ++ later)) is there in
      subst (λ (l : List Item). Runs code callback bytes 0 (l ++ later)) (all_front bytes chunk.window chunk.length chunk.items.items c.fits c.spans) here

  made_is_run : (bytes rest : List ℕ) (chunks : List Chunk) (last : List ItemAt) → AreChunks code callback bytes chunks rest → (IsTrue code.utf8 → IsUtf8 rest) → Runs code callback rest 0 (map (item_at rest) last) →
      Runs code callback bytes 0 (map (item_at bytes) (all_items chunks last))
  made_is_run bytes rest [] last e text r = subst (λ (l : List ℕ). Runs code callback l 0 (map (item_at l) last)) (sym e) r
  made_is_run bytes rest (x ∷ xs) last c text r =
      let more = made_is_run (drop x.length bytes) rest xs last c.1 text r in
      let fits = c.0.fits in
      let within = c.0.within in
      let later = runs_after bytes x.length (all_items xs last) (omega (arith, fits, within)) more in
      subst (λ (l : List Item). Runs code callback bytes 0 l) (sym (map-append (item_at bytes) x.items.items (map (moved x.length) (all_items xs last))))
      (chunk_first bytes x (map (item_at bytes) (map (moved x.length) (all_items xs last))) (λ utf8. window_rest bytes x.window within (chunks_text code callback utf8 bytes rest (x ∷ xs) c (text utf8)) (c.0.text utf8)) c.0 later)

pub lexed_is_run : (code : CodeValue) (callback : Callback) → LexedIsRun code callback
lexed_is_run code callback sound input lexed is =
    let made = is.made in
    made_is_run code callback sound input made.rest lexed.chunks.items lexed.last.items made.chunks_are made.text made.last_are
