-- Reading what was written, and writing what was read.
use Rattle.std.proofs.Common.{◌≡◌, ℕ, ◌+◌, ◌<◌, false, eqb, List, [], ◌∷◌, ◌++◌, map, length, Some, None, Ok, codes, refl, ap, ◌∙◌, arith}
use Rattle.std.specs.List.{All, AllByRecursion}
use Rattle.std.proofs.lemmas.List.Elements.{All-head, All-tail}
use Rattle.std.proofs.lemmas.List.{append_assoc, length-append}
use Rattle.trace.specs.declared.forms.First.{First}
use Rattle.trace.specs.declared.forms.TraceTurn.{TraceTurn}
use Rattle.trace.specs.Pieces.{Piece, line_feed, space, pieces, placed, joined_by}
use Rattle.trace.specs.Lines.{verdict}
use Rattle.trace.specs.Reading.{Rest, after_turn, after_end, judged, read_lines, reading, read_pieces, read_text}
use Rattle.trace.specs.Writing.{first_words, turn_words, line_of, lines_of, text_of}
use Rattle.trace.specs.Laws.{TurnFits, FirstFits, says_all}
use Rattle.trace.proofs.Joins.{Free, pieces_lines}
use Rattle.trace.proofs.Readings.{lines_more, first_more}
use Rattle.trace.proofs.Writings.{turn_text}
use Rattle.trace.proofs.Verdicts.{call_free, first_free, turn_reads, first_reads}

abbrev pub line_at : List ℕ → ℕ → Piece
line_at l at = record { bytes = l; at = at }

-- what ends every text: the line `end`, and nothing after it
abbrev pub last_lines : List (List ℕ)
last_lines = codes "end" ∷ [] ∷ []

-- a turn, and lines after it
pub turn_more : (line at : ℕ) (l : List ℕ) (t : TraceTurn) (ps : List (List ℕ)) (r : Rest) → 0 < length ps → verdict (line_at l at) ≡ Ok (Some t) → read_lines (line + 1) (placed (at + length l + 1) ps) ≡ r → read_lines line (placed at (l ∷ ps)) ≡ after_turn t r
turn_more line at l t ps r h e ih =
    lines_more line (line_at l at) (at + length l + 1) ps h ∙ ap (λ v. judged v line at (read_lines (line + 1) (placed (at + length l + 1) ps)) (after_end (line + 1) (placed (at + length l + 1) ps))) e ∙ ap (after_turn t) ih

pub some_lines : (ls : List (List ℕ)) (l : List ℕ) (ms : List (List ℕ)) → 0 < length (ls ++ l ∷ ms)
some_lines ls l ms = simp length-append (omega arith)

-- 1. What was written reads back.

read_back : (line at : ℕ) (ts : List TraceTurn) → All TurnFits ts → read_lines line (placed at (map turn_text ts ++ last_lines)) ≡ record { turns = ts; fault = None }
read_back line at [] h = refl
read_back line at (t ∷ ts) h =
    turn_more line at (turn_text t) t (map turn_text ts ++ last_lines) (record { turns = ts; fault = None }) (some_lines (map turn_text ts) (codes "end") ([] ∷ [])) (turn_reads t at (All-head TurnFits t ts h)) (read_back (line + 1) (at + length (turn_text t) + 1) ts (All-tail TurnFits t ts h))

-- no line that is written has a line feed
free_append : (s : ℕ) (v w : List ℕ) → Free s v → Free s w → Free s (v ++ w)
free_append s [] w h k = k
free_append s (b ∷ v) w h k = (h.0, free_append s v w h.1 k)

free_join : (s sep : ℕ) (ws : List (List ℕ)) → eqb sep s ≡ false → AllByRecursion (Free s) ws → Free s (joined_by sep ws)
free_join s sep [] e h = tt
free_join s sep (w ∷ []) e h = h.0
free_join s sep (w ∷ v ∷ ws) e h = free_append s w (sep ∷ joined_by sep (v ∷ ws)) h.0 (e, free_join s sep (v ∷ ws) e h.1)

first_line_free : (f : First) → FirstFits f → Free line_feed (line_of (first_words f))
first_line_free f h = free_join line_feed space (first_words f) refl (first_free line_feed f (omega arith) h)

turns_free : (ts : List TraceTurn) → All TurnFits ts → AllByRecursion (Free line_feed) (map turn_text ts ++ codes "end" ∷ [])
turns_free [] h = ((refl, (refl, (refl, tt))), tt)
turns_free (t ∷ ts) h = (free_join line_feed space (turn_words t) refl (call_free line_feed t.seat t.call (omega arith) (All-head TurnFits t ts h)), turns_free ts (All-tail TurnFits t ts h))

pub written_reads : (f : First) (ts : List TraceTurn) → FirstFits f → All TurnFits ts → read_text (text_of f ts) ≡ says_all (Some f) ts
written_reads f ts hf hs =
    let l = line_of (first_words f) in
    let rest = map turn_text ts ++ last_lines in
    let parts : pieces line_feed (text_of f ts) ≡ l ∷ rest =
    pieces_lines (lines_of f ts) (first_line_free f hf, turns_free ts hs) ∙ ap (λ x. l ∷ x) (append_assoc (map turn_text ts) (codes "end" ∷ []) ([] ∷ [])) in
    ap (λ x. read_pieces (placed 0 x)) parts ∙ first_more (line_at l 0) (0 + length l + 1) rest (some_lines (map turn_text ts) (codes "end") ([] ∷ [])) ∙ ap (λ x. reading x (read_lines 2 (placed (0 + length l + 1) rest))) (first_reads f 0 hf) ∙ ap (reading (Some f)) (read_back 2 (0 + length l + 1) ts hs)
