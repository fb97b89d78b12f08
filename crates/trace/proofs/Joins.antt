-- Pieces put together, and parted again.
use Rattle.std.proofs.Common.{◌≡◌, ℕ, zero, suc, ◌+◌, ◌-◌, ◌<◌, ◌≤◌, Bool, true, false, cond, eqb, ltb, List, [], ◌∷◌, ◌++◌, length, take, drop, None, Some, refl, ap, ◌∙◌, arith}
use Rattle.std.specs.List.{AllByRecursion, onto_first, position, position_or_len}
use Rattle.std.proofs.lemmas.Bool.{eq-eqb, ltb-true, ltb-false}
use Rattle.std.proofs.lemmas.Option.{cond_some}
use Rattle.std.proofs.lemmas.List.{length-take-le, take_rest}
use Rattle.std.proofs.lemmas.List.Sums.{fails_before_first}
use Rattle.std.proofs.lemmas.List.Elements.{All-from_recursion}
use Rattle.std.proofs.lemmas.List.Splits.{slice_split_none, slice_split_at, slice_split_first, length-slice_split}
use Rattle.trace.specs.Pieces.{line_feed, pieces, placed, joined_by}
use Rattle.trace.specs.Writing.{ended_lines}

-- no byte of the list parts it
abbrev pub Free : ℕ → List ℕ → Type 0
Free s w = AllByRecursion (λ b. eqb b s ≡ false) w

pub pieces_some : (s : ℕ) (bs : List ℕ) → 0 < length (pieces s bs)
pieces_some s bs = omega (arith, length-slice_split (λ b. eqb b s) bs)

none_found : (t : Bool) (n : ℕ) → cond t (Some n) None ≡ None → t ≡ false
none_found true n e = cc
none_found false n e = refl

-- the first piece, by the place of the first byte that parts
pub pieces_never : (s : ℕ) (bs : List ℕ) → position (λ b. eqb b s) bs ≡ None → pieces s bs ≡ bs ∷ []
pieces_never s bs e =
    let p : ℕ → Bool = λ b. eqb b s in
    let far : length bs ≤ position_or_len p bs = ltb-false (position_or_len p bs) (length bs) (none_found (ltb (position_or_len p bs) (length bs)) _ e) in
    slice_split_none p bs (λ k d h. fails_before_first p bs k d (omega arith))

-- of `bytes[..i]`, and of `bytes[i + 1..]` after it
pub placed_at : (s at : ℕ) (bs : List ℕ) (i : ℕ) → position (λ b. eqb b s) bs ≡ Some i → placed at (pieces s bs) ≡ record { bytes = take i bs; at = at } ∷ placed (at + i + 1) (pieces s (take (length bs - (i + 1)) (drop (i + 1) bs)))
placed_at s at bs i e =
    let p : ℕ → Bool = λ b. eqb b s in
    let q = cond_some _ _ _ e in
    let near : position_or_len p bs < length bs = ltb-true _ _ q.0 in
    let size : length (take i bs) ≡ i = length-take-le i bs (omega (arith, q.1)) in
    ap (placed at) (slice_split_first p bs 0 near ∙ ap (λ k. take k bs ∷ pieces s (drop (k + 1) bs)) q.1) ∙ rw (size, take_rest bs (i + 1)) refl

-- the pieces of what was put together are the same
pieces_lone : (s : ℕ) (w : List ℕ) → Free s w → pieces s w ≡ w ∷ []
pieces_lone s w h = slice_split_none (λ b. eqb b s) w (All-from_recursion (λ b. eqb b s ≡ false) w h)

pieces_first : (s : ℕ) (w bs : List ℕ) → Free s w → pieces s (w ++ s ∷ bs) ≡ w ∷ pieces s bs
pieces_first s w bs h = slice_split_at (λ b. eqb b s) w s bs (All-from_recursion (λ b. eqb b s ≡ false) w h) (eq-eqb s s refl)

pub pieces_join : (s : ℕ) (w : List ℕ) (ws : List (List ℕ)) → Free s w → AllByRecursion (Free s) ws → pieces s (joined_by s (w ∷ ws)) ≡ w ∷ ws
pieces_join s w [] h hs = pieces_lone s w h
pieces_join s w (v ∷ ws) h hs = pieces_first s w (joined_by s (v ∷ ws)) h ∙ ap (λ x. w ∷ x) (pieces_join s v ws hs.0 hs.1)

pub pieces_lines : (ls : List (List ℕ)) → AllByRecursion (Free line_feed) ls → pieces line_feed (ended_lines ls) ≡ ls ++ [] ∷ []
pieces_lines [] h = refl
pieces_lines (l ∷ ls) h = pieces_first line_feed l (ended_lines ls) h.0 ∙ ap (λ x. l ∷ x) (pieces_lines ls h.1)

-- no piece has a byte that parts
free_begin : (s b : ℕ) (ps : List (List ℕ)) → eqb b s ≡ false → AllByRecursion (Free s) ps → AllByRecursion (Free s) (onto_first b ps)
free_begin s b [] e h = ((e, tt), tt)
free_begin s b (p ∷ ps) e h = ((e, h.0), h.1)

free_at : (t : Bool) (s b : ℕ) (ps : List (List ℕ)) → (t ≡ false → eqb b s ≡ false) → AllByRecursion (Free s) ps → AllByRecursion (Free s) (cond t ([] ∷ ps) (onto_first b ps))
free_at true s b ps e h = (tt, h)
free_at false s b ps e h = free_begin s b ps (e refl) h

pub pieces_free : (s : ℕ) (bs : List ℕ) → AllByRecursion (Free s) (pieces s bs)
pieces_free s [] = (tt, tt)
pieces_free s (b ∷ bs) = free_at (eqb b s) s b (pieces s bs) (λ e. e) (pieces_free s bs)

pub free_take : (s n : ℕ) (ps : List (List ℕ)) → AllByRecursion (Free s) ps → AllByRecursion (Free s) (take n ps)
free_take s zero ps h = tt
free_take s (suc n) [] h = tt
free_take s (suc n) (p ∷ ps) h = (h.0, free_take s n ps h.1)

-- lines with their line feeds are the pieces with nothing after the last
pub lines_joined : (ls : List (List ℕ)) → joined_by line_feed (ls ++ [] ∷ []) ≡ ended_lines ls
lines_joined [] = refl
lines_joined (l ∷ []) = refl
lines_joined (l ∷ m ∷ ls) = ap (λ x. l ++ line_feed ∷ x) (lines_joined (m ∷ ls))
