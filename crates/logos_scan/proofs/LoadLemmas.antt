-- Runs over a chunk: as it is loaded, as it is stepped over again, and as its cursor moves.
use Rattle.std.proofs.Common.{◌≡◌, ℕ, zero, suc, ◌+◌, ◌-◌, ◌*◌, ◌/◌, ◌<◌, ◌≤◌, ◌⊎◌, inl, inr, List, [], length, take, drop, get_or, slice_index, bit_and, refl, sym, ap, subst, ◌∙◌, arith, length-take, length-drop}
use Rattle.std.proofs.Math.ListN.{get_or-eq_default}
use Rattle.std.proofs.lemmas.List.{get_or-take}
use Rattle.logos_hir.specs.Text.{IsBytes}
use Rattle.std.proofs.lemmas.Nat.{and_mask}
use Rattle.std.proofs.lemmas.Nat.Bits.{bit_at-lt, bit_at-zero, and_pow}
use Rattle.std.specs.Int.{bit_at}
use Rattle.logos_automaton.specs.Munch.{matched}
use Rattle.logos_code.specs.Code.{CodeValue}
use Rattle.logos_code.specs.Rows.{IsUse}
use Rattle.logos_code.specs.declared.code.rows.MatchUse.{MatchUse}
use Rattle.logos_code.specs.declared.code.rows.MatchUse.TheVariants.{Emits, Skips, CallsBack}
use Rattle.logos_scan.specs.fold.Folds.{AreFolded, HasUse, leaf_of}
use Rattle.logos_machine.specs.inside.Looks.{Attempted}
use Rattle.logos_machine.proofs.WalkLemmas.{comes_first}
use Rattle.logos_scan.specs.Attempts.{ComesTo, SkipsTo, skips_none, skips_then}
use Rattle.logos_scan.specs.Runs.{IsChunk, IsLoaded, IsRun, IsTaken, WithChunk, point_of}
use Rattle.logos_scan.specs.declared.attempts.Taken.{Taken}
use Rattle.logos_scan.specs.declared.attempts.Taken.TheVariants.{Emits as TakenEmits, CallsBack as TakenCallsBack, Fails as TakenFails, Ends as TakenEnds}
use Rattle.logos_scan.specs.declared.run.Loaded.{Loaded}
use Rattle.logos_scan.proofs.RunLemmas.{Holds, later_at, starts_short, attempted, ends_as, holds_next}
use Rattle.logos_scan.proofs.AttemptLemmas.{is_at_begun}
use Rattle.logos_scan.specs.declared.walk.cursor.ChunkCursor.{ChunkCursor}
use Rattle.logos_scan.specs.walk.Cursor.{HasRoom, IsNext, NoToken, StartsAt, token_bit, end_bit}
use Rattle.logos_scan.specs.walk.Cursors.{IsMarked, IsAt, start_of}
use Rattle.logos_scan.proofs.walk.CursorLemmas.{starts_same}
use Rattle.logos_scan.specs.walk.Masks.{MarksFrom}
use Rattle.logos_scan.specs.walk.Walk.{IsRowStart, IsSameBeside, Walked, entry_at, row_start_of}

pub ways : (a b : ℕ) → (a < b) ⊎ (b ≤ a)
ways a b = grind arith

-- a walk over a text is one over another that has these bytes
pub walked_text : (rows text other : List ℕ) (p : ℕ) (trace : List ℕ) (from to q : ℕ) → ((j : ℕ) → j < to → slice_index text j ≡ slice_index other j) →
    Walked rows text p trace from to q → Walked rows other p trace from to q
walked_text rows text other p trace from to q same w = record {
  first = λ h. w.first h ∙ ap (λ b. slice_index rows (b + p)) (same from h);
  later = λ j h k. w.later j h k ∙ ap (λ b. slice_index rows (b + row_start_of (slice_index trace j))) (same (j + 1) k);
  none = w.none;
  last = w.last;
}

-- a walk without its first bytes
pub walked_suffix : (rows text : List ℕ) (p : ℕ) (trace : List ℕ) (at from to q : ℕ) → at < from → from ≤ to → Walked rows text p trace at to q →
    Walked rows text (row_start_of (slice_index trace (from - 1))) trace from to q
walked_suffix rows text p trace at from to q lt le w =
    let e : from - 1 + 1 ≡ from = omega (arith, lt) in
    record {
      first = λ h. subst (λ k. slice_index trace k ≡ entry_at rows text k (row_start_of (slice_index trace (from - 1)))) e (w.later (from - 1) (omega (arith, lt)) (omega (arith, h, e)));
      later = λ j h k. w.later j (omega (arith, h, lt)) k;
      none = λ n. w.last (from - 1) (omega (arith, lt)) (omega (arith, e, n));
      last = λ j h n. w.last j (omega (arith, h, lt)) n;
    }

-- the bytes of an input from a base on
pub rest_there : (input : List ℕ) (base j : ℕ) → j < length input - base → slice_index (take (length input - base) (drop base input)) j ≡ slice_index (drop base input) j
rest_there input base j h = get_or-take (length input - base) (drop base input) j 0 h

pub rest_long : (input : List ℕ) (base : ℕ) → length (take (length input - base) (drop base input)) ≡ length input - base
rest_long input base = omega (arith, length-take (length input - base) (drop base input), length-drop base input)

pub part_there : (input : List ℕ) (base j : ℕ) → base + 4608 ≤ length input → j < 4608 → slice_index (take 4608 (take (length input - base) (drop base input))) j ≡ slice_index (drop base input) j
part_there input base j long h = get_or-take 4608 (take (length input - base) (drop base input)) j 0 h ∙ rest_there input base j (omega (arith, long, h))

-- the row offset of the root
pub root_is_row_start : (code : CodeValue) (rows : List ℕ) → AreFolded code rows → IsRowStart rows (272 * code.root)
root_is_row_start code rows folded =
    let c = comes_first code folded.sound [] 0 (omega arith) in
    let s = c.is_at in
    let there = s.state in
    omega (arith, folded.count, there)

-- a run from the bytes that were loaded
pub loaded_run : (code : CodeValue) (rows input : List ℕ) (run : WithChunk) (start base row_start : ℕ) (entries : List ℕ) (loaded : Loaded) → IsLoaded rows input base row_start entries loaded →
    run.chunk.entries ≡ entries → run.cursor.base ≡ base → run.count ≡ loaded.count → run.row_start ≡ loaded.row_start → run.low ≡ 0 → IsMarked run.chunk → IsAt run.chunk.entries run.cursor → HasRoom base →
    ComesTo code input start base row_start → IsRun code rows input run start 0
loaded_run code rows input run start base row_start entries loaded l ee eb ec ep el marked is_at room s =
    let within = l.within in
    let few = l.few in
    let zero : base ≡ run.cursor.base + 0 = omega (arith, eb) in
    record {
      in_chunk = record {
        within = omega (arith, eb, ec, within);
        few = omega (arith, ec, few);
        full = λ h. ec ∙ l.full (omega (arith, h, eb, ec));
        stays = subst (λ (p : ℕ). IsRowStart rows p) (sym ep) l.stays;
        rest = λ k f h. ap (λ e. slice_index e k) ee ∙ l.rest k (omega (arith, f, ec)) h;
        marked = marked;
        cursor = is_at;
        room = omega (arith, room, eb);
        whole = (row_start, rw (ee, eb, ec, ep, el) l.walked);
      };
      near = omega arith;
      before = row_start;
      is_at = subst (λ (k : ℕ). ComesTo code input start k row_start) zero s;
      walked = rw (ee, eb, ec, ep) l.walked;
    }

-- the words of flags whose entries were not written
pub marks_beside : (flag from stop words : ℕ) (old new : List ℕ) (w word : ℕ) → IsSameBeside from stop old new → stop ≤ 64 * words → (w < from / 64) ⊎ (words ≤ w) →
    MarksFrom flag old (64 * w) word → MarksFrom flag new (64 * w) word
marks_beside flag from stop words old new w word same le out m i l =
    m i l ∙ ap (λ e. bit_at e flag) (sym (same (64 * w + i) (elim out [
      | inl h ↦ inl (omega (arith, h, l))
      | inr h ↦ inr (omega (arith, h, le))
    ])))

-- a run that was stepped over again from an entry on
pub repaired_run : (code : CodeValue) (rows input : List ℕ) (old run : WithChunk) (from stop : ℕ) (entries : List ℕ) → AreFolded code rows → IsChunk rows input old →
    run.chunk.entries ≡ entries → run.cursor.base ≡ old.cursor.base → run.count ≡ old.count → run.low ≡ from → from ≤ old.count → stop ≤ old.count →
    IsSameBeside from stop old.chunk.entries entries → IsMarked run.chunk → IsAt run.chunk.entries run.cursor → IsRowStart rows run.row_start →
    Walked rows (take (length input - old.cursor.base) (drop old.cursor.base input)) (272 * code.root) entries from old.count run.row_start → IsRun code rows input run (old.cursor.base + from) from
repaired_run code rows input old run from stop entries folded c ee eb ec el le ls same marked is_at stays w =
    let within = c.within in
    let few = c.few in
    let past : old.cursor.base + from ≤ length input = omega (arith, within, le) in
    let there = is_at_begun code folded.sound input (old.cursor.base + from) past in
    let there_walked = (walked_text rows _ (drop old.cursor.base input) (272 * code.root) entries from old.count run.row_start (λ j h. rest_there input old.cursor.base j (omega (arith, h, within))) w) in
    record {
      in_chunk = record {
        within = omega (arith, eb, ec, within);
        few = omega (arith, ec, few);
        full = λ h. ec ∙ c.full (omega (arith, h, eb, ec));
        stays = stays;
        rest = λ k f h. ap (λ e. slice_index e k) ee ∙ same k (inr (omega (arith, f, ec, ls))) ∙ c.rest k (omega (arith, f, ec)) h;
        marked = marked;
        cursor = is_at;
        room = (let room = c.room in omega (arith, room, eb));
        whole = (272 * code.root, rw (ee, eb, ec, el) there_walked);
      };
      near = omega (arith, le, ec);
      before = 272 * code.root;
      is_at = rw eb there;
      walked = rw (ee, eb, ec) there_walked;
    }

-- a scan that is between two calls
pub ready_run : (code : CodeValue) (rows input : List ℕ) (run : WithChunk) (start at : ℕ) → start_of run.cursor ≡ start → point_of run ≡ at → IsRun code rows input run start at →
    IsRun code rows input run (start_of run.cursor) (point_of run)
ready_run code rows input run start at es ea r = subst (λ (k : ℕ). IsRun code rows input run k (point_of run)) (sym es) (subst (λ (k : ℕ). IsRun code rows input run start k) (sym ea) r)

-- the run with another cursor
abbrev pub moved : WithChunk → ChunkCursor → WithChunk
moved run cursor = record { chunk = run.chunk; cursor = cursor; count = run.count; row_start = run.row_start; low = run.low }

-- skipped, and then skipped again
pub skips_join : (code : CodeValue) (bytes : List ℕ) (from mid to : ℕ) → SkipsTo code bytes from mid → SkipsTo code bytes mid to → SkipsTo code bytes from to
skips_join code bytes from mid to a (skips_none at) = a
skips_join code bytes from mid to a (skips_then m n t leaf steps b attempted is) = skips_then from n to leaf steps (skips_join code bytes from m n a b) attempted is

module _ (code : CodeValue) (rows : List ℕ) (folded : AreFolded code rows) (input : List ℕ) (are : (k : ℕ) → get_or input k 0 < 256) (run : WithChunk) where
  abbrev base : ℕ
  base = run.cursor.base

  abbrev entries : List ℕ
  entries = run.chunk.entries

  -- the attempt that is active before an entry
  holds_at : (start at : ℕ) (r : IsRun code rows input run start at) → Holds code rows folded input are base run.count run.row_start entries (let c = r.in_chunk in c.within) start at r.before
  holds_at start at r =
      let s = r.is_at in
      let past = s.past in
      let comes = s.comes in
      let is_at = comes.is_at in
      let begun = is_at.begun in
      let near = r.near in
      let c = r.in_chunk in
      let within = c.within in
      record {
        is_at = s;
        walked = r.walked;
        starts = omega (arith, past, begun, near, within);
      }

  module _ (cur : ChunkCursor) (same_base : cur.base ≡ base) (is_at : IsAt entries cur) where
    -- the run with the cursor at a later match attempt is in its state
    later_run : (start from at now : ℕ) (r : IsRun code rows input run start from) → from ≤ at → at ≤ run.count → NoToken entries from at → StartsAt base entries from start at now →
        IsRun code rows input (moved run cur) now at × SkipsTo code input start now
    later_run start from at now r le near none starts =
        let c = r.in_chunk in
        let l = later_at code rows folded input are base run.count run.row_start entries c.within from at start r.before le near none (holds_at start from r) in
        let e : l.start ≡ now = starts_same base entries from start at l.start now l.starts_at starts in
        let h = l.holds in (
          record {
            in_chunk = record {
              within = (let w = c.within in omega (arith, w, same_base));
              few = c.few;
              full = λ g. c.full (omega (arith, g, same_base));
              stays = c.stays;
              rest = c.rest;
              marked = c.marked;
              cursor = is_at;
              room = (let room = c.room in omega (arith, room, same_base));
              whole = (c.whole.0, rw same_base c.whole.1);
            };
            near = near;
            before = l.row_start;
            is_at = rw (same_base, ← e) h.is_at;
            walked = rw same_base h.walked;
          },
          subst (λ (k : ℕ). SkipsTo code input start k) e l.skipped,
        )

    -- an entry at which there is something to do
    pub flag_found : (start at now : ℕ) → IsRun code rows input run start (point_of run) → IsNext entries run.cursor.from at → StartsAt base entries run.cursor.from start at now →
        (at < run.count) × IsRun code rows input (moved run cur) now at × SkipsTo code input start now
    flag_found start at now r next starts =
        let c = r.in_chunk in
        let token = next.token in
        let after = next.after in
        let inside : at < run.count = elim (ways at run.count) [
          | inl h ↦ h
          | inr g ↦ absurd (omega (arith, token, ap (λ x. bit_at x 30) (c.rest at g next.within), bit_at-zero 30))
        ] in
        let point : point_of run ≡ run.cursor.from = omega (arith, after, inside) in
        let r' : IsRun code rows input run start run.cursor.from = subst (λ (k : ℕ). IsRun code rows input run start k) point r in
        let l = later_run start run.cursor.from at now r' after (omega (arith, inside)) next.first starts in
        (inside, l.0, l.1)

    -- the end of the chunk
    pub over_found : (start now : ℕ) → IsRun code rows input run start (point_of run) → NoToken entries run.cursor.from 4608 → StartsAt base entries run.cursor.from start 4608 now →
        IsRun code rows input (moved run cur) now run.count × SkipsTo code input start now
    over_found start now r none starts =
        let c = r.in_chunk in
        let few = c.few in
        elim (ways run.count run.cursor.from) [
          | inr g ↦
              let point : point_of run ≡ run.cursor.from = omega (arith, g) in
              later_run start run.cursor.from run.count now (subst (λ (k : ℕ). IsRun code rows input run start k) point r) g (omega arith) (λ k f h. none k f (omega (arith, h, few)))
              (starts_short code rows folded input are base run.count run.row_start entries c.within run.cursor.from start now few c.rest starts)
          | inl l ↦
              let point : point_of run ≡ run.count = omega (arith, l) in
              later_run start run.count run.count now (subst (λ (k : ℕ). IsRun code rows input run start k) point r) (omega arith) (omega arith) (λ k f h. absurd (omega (arith, f, h)))
              (elim starts [
                | inl m ↦ inl (m.0, λ k f h. absurd (omega (arith, f, h)))
                | inr m ↦
                    let last = m.1 in
                    let ended = last.ended in
                    let f = last.after in
                    absurd (omega (arith, ended, ap (λ x. bit_at x 31) (c.rest m.0 (omega (arith, f, l)) last.before), bit_at-zero 31))
              ])
        ]

  -- the row offset after the chunk
  pub is_at_last : (start : ℕ) → IsRun code rows input run start run.count → ComesTo code input start (base + run.count) run.row_start
  is_at_last start r =
      let w = r.walked in
      subst (λ (p : ℕ). ComesTo code input start (base + run.count) p) (sym (w.none refl)) r.is_at

  -- the match that ends before a flagged entry
  module _ (start at : ℕ) (r : IsRun code rows input run start at) (inside : at < run.count) (ended : end_bit entries at ≡ 1) where
    abbrev entry : ℕ
    entry = slice_index entries at

    pub found_match : ((n : ℕ) × Attempted code input start (matched (leaf_of entry) (base + at)) n)
    found_match = (let c = r.in_chunk in attempted code rows folded input are base run.count run.row_start entries c.within start at r.before (holds_at start at r) inside ended).0

    pub found_use : token_bit entries at ≡ 1 → bit_at entry 29 ≡ 0 → IsUse code (leaf_of entry) Emits
    found_use t b = (let c = r.in_chunk in
        let used = ends_as code rows folded input are base run.count run.row_start entries c.within start at r.before (holds_at start at r) inside ended in
        by_use used.used used.has_use (attempted code rows folded input are base run.count run.row_start entries c.within start at r.before (holds_at start at r) inside ended).1)
      where
        by_use : (used : MatchUse) → HasUse entry used → IsUse code (leaf_of entry) used → IsUse code (leaf_of entry) Emits
        by_use Emits has is = is
        by_use Skips has is = absurd (omega (arith, has, t))
        by_use CallsBack has is = absurd (let o = has.1 in omega (arith, o, b))

    -- the next attempt is after it
    pub found_next : IsRun code rows input run (base + at) (at + 1)
    found_next =
        let c = r.in_chunk in
        let h = holds_next code rows folded input are base run.count run.row_start entries c.within start at r.before (holds_at start at r) inside ended in
        record {
          in_chunk = c;
          near = omega (arith, inside);
          before = row_start_of entry;
          is_at = h.is_at;
          walked = h.walked;
        }

-- the bytes of an input
pub bytes_at : (bytes : List ℕ) → IsBytes bytes → (k : ℕ) → get_or bytes k 0 < 256
bytes_at bytes are k = elim (ways k (length bytes)) [
  | inl h ↦ are k 0 h
  | inr g ↦ let e = get_or-eq_default bytes 0 g in omega (arith, e)
]

-- the match that is taken after more skipped matches
pub taken_after : (code : CodeValue) (bytes : List ℕ) (from mid : ℕ) (taken : Taken) (next : ℕ) → SkipsTo code bytes from mid → IsTaken code bytes mid taken next → IsTaken code bytes from taken next
taken_after code bytes from mid (TakenEmits leaf span) next s t = (skips_join code bytes from mid span.from s t.0, t.1, t.2, t.3)
taken_after code bytes from mid (TakenCallsBack leaf span) next s t = (skips_join code bytes from mid span.from s t.0, t.1, t.2)
taken_after code bytes from mid (TakenFails span) next s t = (skips_join code bytes from mid span.from s t.0, t.1, t.2)
taken_after code bytes from mid TakenEnds next s t = (skips_join code bytes from mid next s t.0, t.1)

-- the bits of an entry, as they are taken
pub is_ended : (entry : ℕ) → 0 < bit_and entry 2147483648 → bit_at entry 31 ≡ 1
is_ended entry some = one (bit_at entry 31) refl (bit_at-lt entry 31)
  where
    one : (b : ℕ) → bit_at entry 31 ≡ b → b < 2 → bit_at entry 31 ≡ 1
    one zero e l = absurd (omega (arith, some, and_pow entry 31, e))
    one (suc zero) e l = e
    one (suc (suc b)) e l = absurd (omega (arith, l))

pub leaf_is : (entry : ℕ) → bit_and (entry / 1048576) 511 ≡ leaf_of entry
leaf_is entry = and_mask (entry / 1048576) 9

pub calls_not : (entry : ℕ) → bit_and entry 536870912 ≡ 0 → bit_at entry 29 ≡ 0
calls_not entry none = omega (arith, none, and_pow entry 29)
