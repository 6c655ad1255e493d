-- Chunks that are made from a border on, one after another.
use Rattle.std.proofs.Common.{◌≡◌, ◌∙◌, ℕ, ◌-◌, ◌≤◌, List, [], ◌∷◌, ◌++◌, length, take, drop, sym, ap, subst, arith}
use Rattle.std.proofs.Math.Seq.{take-length}
use Rattle.std.proofs.lemmas.List.{length-drop}
use Rattle.logos_code.specs.Code.{CodeValue}
use Rattle.logos_code.specs.Items.{Callback}
use Rattle.logos_relex.specs.Chunks.{AreChunks, IsChunk}
use Rattle.logos_relex.specs.inside.Anews.{IsBorder}
use Rattle.logos_relex.specs.declared.borders.Border.{Border}
use Rattle.logos_relex.specs.declared.chunk.Chunk.{Chunk}
use Rattle.logos_relex.proofs.ChunkLemmas.{chunk_taken, passed_taken}

-- The chunks so far follow the start, and the rest follows them.
pub record Making (code : CodeValue) (callback : Callback) (former : List Chunk) (input : List ℕ) (start border : Border) (chunks : List Chunk) (rest : List ℕ) : Type 0 where
  pub chunks_are : AreChunks code callback (drop start.at input) chunks rest
  pub is_rest : (passed : List ℕ) × (drop start.at input ≡ passed ++ rest)
  pub is_border : IsBorder former border
  pub later : start.index ≤ border.index

module _ (code : CodeValue) (callback : Callback) (former : List Chunk) (input : List ℕ) (start : Border) where
  pub making_first : (chunks : List Chunk) → chunks ≡ [] → IsBorder former start → Making code callback former input start start chunks (take (length input - start.at) (drop start.at input))
  making_first chunks none border =
      let all : drop start.at input ≡ take (length input - start.at) (drop start.at input) = sym (ap (λ k. take k (drop start.at input)) (sym (length-drop start.at input)) ∙ take-length (drop start.at input)) in
      record {
        chunks_are = subst (λ (l : List Chunk). AreChunks code callback (drop start.at input) l (take (length input - start.at) (drop start.at input))) (sym none) all;
        is_rest = ([], all);
        is_border = border;
        later = omega arith;
      }

  pub making_next : (border next : Border) (chunks new : List Chunk) (chunk : Chunk) (rest : List ℕ) (n : ℕ) → Making code callback former input start border chunks rest → IsBorder former next → border.index ≤ next.index →
      n ≡ chunk.length → new ≡ chunks ++ chunk ∷ [] → IsChunk code callback rest chunk → Making code callback former input start next new (take (length rest - n) (drop n rest))
  making_next border next chunks new chunk rest n m is_next on same added one =
      let later = m.later in
      record {
        chunks_are = subst (λ (l : List Chunk). AreChunks code callback (drop start.at input) l (take (length rest - n) (drop n rest))) (sym added) (chunk_taken rest n code callback (drop start.at input) chunks chunk same m.chunks_are one);
        is_rest = passed_taken rest n (drop start.at input) m.is_rest;
        is_border = is_next;
        later = omega (arith, later, on);
      }
