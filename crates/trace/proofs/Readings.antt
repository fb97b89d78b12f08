-- One line read after another.
use Rattle.std.proofs.Common.{◌≡◌, ℕ, ◌+◌, ◌<◌, List, [], ◌∷◌, ◌++◌, map, length, Some, None, Ok, Err, Option, Result, sym, refl, ap, ◌∙◌, subst, arith}
use Rattle.std.proofs.lemmas.List.{nil_from_length, append-nil}
use Rattle.trace.specs.declared.forms.First.{First}
use Rattle.trace.specs.declared.forms.TraceTurn.{TraceTurn}
use Rattle.trace.specs.declared.forms.Fault.{Fault}
use Rattle.trace.specs.declared.part.Part.{Part}
use Rattle.trace.specs.declared.reader.Reader.{Reader}
use Rattle.trace.specs.Meanings.{piece, parted, parts_left, EndsAs}
use Rattle.trace.specs.Pieces.{Piece, line_feed, pieces, placed}
use Rattle.trace.specs.Tokens.{words}
use Rattle.trace.specs.Lines.{Verdict, verdict, first_of}
use Rattle.trace.specs.Reading.{Rest, ended, stopped, out_of_place, tail_of, judged, after_end, read_lines, reading, read_pieces, read_text}
use Rattle.trace.specs.Ahead.{lines_left, ahead, last_item, items_of}
use Rattle.trace.proofs.Joins.{pieces_some}

-- a line with its line feed
pub lines_more : (line : ℕ) (p : Piece) (at : ℕ) (ps : List (List ℕ)) → 0 < length ps → read_lines line (p ∷ placed at ps) ≡ judged (verdict p) line p.at (read_lines (line + 1) (placed at ps)) (after_end (line + 1) (placed at ps))
lines_more line p at [] h = absurd (omega arith)
lines_more line p at (q ∷ ps) h = refl

-- the first line with its line feed
pub first_more : (p : Piece) (at : ℕ) (ps : List (List ℕ)) → 0 < length ps → read_pieces (p ∷ placed at ps) ≡ reading (first_of (words p)) (read_lines 2 (placed at ps))
first_more p at [] h = absurd (omega arith)
first_more p at (q ∷ ps) h = refl

-- nothing after `end`
pub nothing_after : (line at : ℕ) (bs : List ℕ) → length bs ≡ 0 → after_end line (placed at (pieces line_feed bs)) ≡ ended
nothing_after line at bs e = ap (λ x. after_end line (placed at (pieces line_feed x))) (nil_from_length bs e)

tail_some : (bs : List ℕ) (x y : Rest) → 0 < length bs → tail_of bs x y ≡ y
tail_some [] x y h = absurd (omega arith)
tail_some (b ∷ bs) x y h = refl

after_at : (line : ℕ) (p : Piece) (at : ℕ) (ps : List (List ℕ)) → 0 < length ps → after_end line (p ∷ placed at ps) ≡ stopped (out_of_place (verdict p)) line p.at
after_at line p at [] h = absurd (omega arith)
after_at line p at (q ∷ ps) h = refl

-- something after `end`
pub something_after : (line : ℕ) (whole p : Part) (more : Option Part) → parted line_feed whole ≡ piece p ∷ parts_left line_feed more → EndsAs whole p more → 0 < length whole.bytes.now → after_end line (parted line_feed whole) ≡ stopped (out_of_place (verdict (piece p))) line p.at
something_after line whole p None e same h = ap (after_end line) e ∙ tail_some p.bytes.now ended _ (omega arith)
something_after line whole p (Some r) e same h = ap (after_end line) e ∙ after_at line (piece p) r.at (pieces line_feed r.bytes.now) (pieces_some line_feed r.bytes.now)

-- a first line has bytes
pub first_has_bytes : (bs : List ℕ) (at : ℕ) (f : First) → Some f ≡ first_of (words (record { bytes = bs; at = at })) → 0 < length bs
first_has_bytes [] at f e = cc
first_has_bytes (b ∷ bs) at f e = omega arith

place_at : (at : ℕ) (p : Piece) (more : List Piece) (ps : List (List ℕ)) → 0 < length ps → placed at ps ≡ p ∷ more → p.at ≡ at
place_at at p more [] h x = absurd (omega arith)
place_at at p more (q ∷ ps) h x = cc

-- the place of a first piece is that of the whole
pub first_place : (whole p : Part) (more : Option Part) → parted line_feed whole ≡ piece p ∷ parts_left line_feed more → p.at ≡ whole.at
first_place whole p more e = place_at whole.at (piece p) (parts_left line_feed more) (pieces line_feed whole.bytes.now) (pieces_some line_feed whole.bytes.now) e

-- a text with a first line
pub opened : (text : List ℕ) (p q : Part) (more : Option Part) (f : First) → placed 0 (pieces line_feed text) ≡ piece p ∷ parts_left line_feed more → more ≡ Some q → Some f ≡ first_of (words (piece p)) → read_text text ≡ reading (Some f) (lines_left 2 (Some q))
opened text p q more f e m w =
    ap read_pieces (e ∙ ap (λ x. piece p ∷ parts_left line_feed x) m) ∙ first_more (piece p) q.at (pieces line_feed q.bytes.now) (pieces_some line_feed q.bytes.now) ∙ ap (λ o. reading o (lines_left 2 (Some q))) (sym w)

-- a reader at a line with its line feed
pub line_read : (r : Reader) (w p q : Part) (more : Option Part) (v : Verdict) → r.rest ≡ Some w → parted line_feed w ≡ piece p ∷ parts_left line_feed more → more ≡ Some q → v ≡ verdict (piece p) → ahead r ≡ judged v r.line p.at (read_lines (r.line + 1) (parted line_feed q)) (after_end (r.line + 1) (parted line_feed q))
line_read r w p q more v rest e m ev =
    ap (lines_left r.line) rest ∙ ap (read_lines r.line) (e ∙ ap (λ x. piece p ∷ parts_left line_feed x) m) ∙ lines_more r.line (piece p) q.at (pieces line_feed q.bytes.now) (pieces_some line_feed q.bytes.now) ∙ ap (λ x. judged x r.line p.at (read_lines (r.line + 1) (parted line_feed q)) (after_end (r.line + 1) (parted line_feed q))) (sym ev)

-- the rest of a text begins after a first piece and a line feed
pub rest_later : (whole p q x : Part) (more : Option Part) → parted line_feed whole ≡ piece p ∷ parts_left line_feed more → EndsAs whole p more → more ≡ Some q → Some q ≡ Some x → whole.at + length p.bytes.now + 1 ≡ x.at
rest_later whole p q x more e h m same =
    let P : Option Part → Type 0 = EndsAs whole p in
    let ends = subst P (m ∙ same) h in
    let place = first_place whole p more e in
    omega (arith, ends.1)

-- after `end` there is no turn
pub tail_turns : (bs : List ℕ) (x y : Rest) → x.turns ≡ [] → y.turns ≡ [] → (tail_of bs x y).turns ≡ []
tail_turns [] x y ex ey = ex
tail_turns (b ∷ bs) x y ex ey = ey

pub end_turns : (line : ℕ) (ps : List Piece) → (after_end line ps).turns ≡ []
end_turns line [] = refl
end_turns line (p ∷ []) = tail_turns p.bytes ended (stopped (out_of_place (verdict p)) line p.at) refl refl
end_turns line (p ∷ q ∷ ps) = refl

-- so the fault is all
pub end_items : (line : ℕ) (ps : List Piece) (o : Option Fault) → o ≡ (after_end line ps).fault → items_of (after_end line ps) ≡ last_item o
end_items line ps o e = ap (λ ts. map (λ t. Ok t) ts ++ last_item (after_end line ps).fault) (end_turns line ps) ∙ ap last_item (sym e)

-- turns before a fault, and turns alone
before_fault : (ts us : List TraceTurn) (f : Fault) (o : Option Fault) (more : List (Result TraceTurn Fault)) → map (λ t. Ok t) ts ++ Err f ∷ more ≡ map (λ t. Ok t) us ++ last_item o → (ts ≡ us) × (Some f ≡ o)
before_fault [] [] f None more e = cc
before_fault [] [] f (Some g) more e = (refl, cc)
before_fault [] (u ∷ us) f o more e = cc
before_fault (t ∷ ts) [] f None more e = cc
before_fault (t ∷ ts) [] f (Some g) more e = cc
before_fault (t ∷ ts) (u ∷ us) f o more e = let q = before_fault ts us f o more cc in (cc, q.1)

no_fault : (ts us : List TraceTurn) (o : Option Fault) → map (λ t. Ok t) ts ≡ map (λ t. Ok t) us ++ last_item o → (ts ≡ us) × (None ≡ o)
no_fault [] [] None e = (refl, refl)
no_fault [] [] (Some g) e = cc
no_fault [] (u ∷ us) o e = cc
no_fault (t ∷ ts) [] None e = cc
no_fault (t ∷ ts) [] (Some g) e = cc
no_fault (t ∷ ts) (u ∷ us) o e = let q = no_fault ts us o cc in (cc, q.1)

-- what was taken of a reading, with its fault
pub taken_fault : (ts : List TraceTurn) (f : Fault) (more items : List (Result TraceTurn Fault)) (r : Rest) → items ≡ Err f ∷ more → map (λ t. Ok t) ts ++ items ≡ items_of r → record { turns = ts; fault = Some f } ≡ r
taken_fault ts f more items r e inv =
    let q = before_fault ts r.turns f r.fault more (ap (λ x. map (λ t. Ok t) ts ++ x) (sym e) ∙ inv) in
    let out : record { turns = ts; fault = Some f } ≡ record { turns = r.turns; fault = r.fault } = ap (λ us. record { turns = us; fault = Some f }) q.0 ∙ ap (λ o. record { turns = r.turns; fault = o }) q.1 in
    out

-- and without one
pub taken_all : (ts : List TraceTurn) (items : List (Result TraceTurn Fault)) (r : Rest) → items ≡ [] → map (λ t. Ok t) ts ++ items ≡ items_of r → record { turns = ts; fault = None } ≡ r
taken_all ts items r e inv =
    let q = no_fault ts r.turns r.fault (sym (append-nil (map (λ t. Ok t) ts)) ∙ ap (λ x. map (λ t. Ok t) ts ++ x) (sym e) ∙ inv) in
    let out : record { turns = ts; fault = None } ≡ record { turns = r.turns; fault = r.fault } = ap (λ us. record { turns = us; fault = None }) q.0 ∙ ap (λ o. record { turns = r.turns; fault = o }) q.1 in
    out
