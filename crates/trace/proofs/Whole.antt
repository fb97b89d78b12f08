-- The laws of a whole text.
use Rattle.std.proofs.Common.{◌≡◌, ℕ, zero, suc, ◌+◌, ◌-◌, ◌<◌, ◌≤◌, Bool, true, false, cond, eqb, ◌⊎◌, List, [], ◌∷◌, ◌++◌, map, length, get_or, take, Some, None, codes, Option, sym, refl, ap, ◌∙◌, subst, inl, inr, ⊎_elim, arith}
use Rattle.std.specs.List.{All, AllByRecursion}
use Rattle.std.proofs.lemmas.List.Elements.{All-nil}
use Rattle.std.proofs.lemmas.List.Recursion.{is_count_by}
use Rattle.std.proofs.lemmas.List.Splits.{join_with_byte-slice_split, length-slice_split}
use Rattle.std.proofs.lemmas.List.{append_assoc, length-append}
use Rattle.interface.specs.declared.answers.Refusal.TheVariants.{BadFirstLine, BadNumber}
use Rattle.trace.specs.declared.forms.First.{First}
use Rattle.trace.specs.declared.forms.TraceTurn.{TraceTurn}
use Rattle.trace.specs.declared.forms.Fault.{Fault}
use Rattle.trace.specs.Pieces.{line_feed, pieces, placed, joined_by}
use Rattle.trace.specs.Tokens.{words}
use Rattle.trace.specs.Lines.{first_of}
use Rattle.trace.specs.Reading.{Rest, Reading, no_first, read_lines, reading, read_pieces, read_text}
use Rattle.trace.specs.Writing.{first_words, line_of, lines_of, ended_lines, text_of}
use Rattle.trace.specs.Laws.{TurnFits, FirstFits, says_all, lines, line_feeds, front, end_line, Lies, Faithful}
use Rattle.trace.proofs.Joins.{Free, pieces_some, pieces_lines, pieces_free, free_take, lines_joined}
use Rattle.trace.proofs.Spellings.{first_is}
use Rattle.trace.proofs.Writings.{turn_text, ended_append}
use Rattle.trace.proofs.Readings.{first_more}
use Rattle.trace.proofs.Faithful.{line_at, last_lines, some_lines, written_reads}
use Rattle.trace.proofs.Exact.{Stops, exact_lines, fits_lines, lines_stop}

-- a reading with a first line f and lines after it
abbrev after_first : List ℕ → List (List ℕ) → Rest
after_first p qs = read_lines 2 (placed (0 + length p + 1) qs)

-- what a reading has is from its first line, and from the lines after it
first_from : (o : Option First) (r : Rest) (f : First) → (reading o r).first ≡ Some f → o ≡ Some f
first_from None r f e = cc
first_from (Some g) r f e = e

some_first : (o : Option First) (r : Rest) → (reading o r).fault ≡ None → (f : First) × ((reading o r).first ≡ Some f)
some_first None r e = cc
some_first (Some f) r e = (f, refl)

turns_fit : (o : Option First) (r : Rest) → All TurnFits r.turns → All TurnFits (reading o r).turns
turns_fit None r h = All-nil TurnFits
turns_fit (Some f) r h = h

-- a text without fault
exact_first : (p : List ℕ) (qs : List (List ℕ)) (f : First) (o : Option First) → first_of (words (line_at p 0)) ≡ o → 0 < length qs → o ≡ Some f → (reading o (after_first p qs)).fault ≡ None → joined_by line_feed (p ∷ qs) ≡ text_of f (reading o (after_first p qs)).turns
exact_first p qs f None e some ef h = cc
exact_first p qs f (Some g) e some ef h =
    let ts = (after_first p qs).turns in
    let l = line_of (first_words f) in
    let first : p ≡ l = (first_is 0 p f (e ∙ ef)).0 in
    let rest : qs ≡ map turn_text ts ++ last_lines = exact_lines 2 (0 + length p + 1) qs some h in
    ap (λ x. joined_by line_feed (x ∷ qs)) first ∙ ap (λ x. joined_by line_feed (l ∷ x)) (rest ∙ sym (append_assoc (map turn_text ts) (codes "end" ∷ []) ([] ∷ []))) ∙ lines_joined (lines_of f ts)

exact_pieces : (ps : List (List ℕ)) (f : First) → (read_pieces (placed 0 ps)).first ≡ Some f → (read_pieces (placed 0 ps)).fault ≡ None → joined_by line_feed ps ≡ text_of f (read_pieces (placed 0 ps)).turns
exact_pieces [] f e h = cc
exact_pieces (p ∷ []) f e h = cc
exact_pieces (p ∷ q ∷ qs) f e h =
    let o = first_of (words (line_at p 0)) in
    exact_first p (q ∷ qs) f o refl (omega arith) (first_from o (after_first p (q ∷ qs)) f e) h

some_pieces : (ps : List (List ℕ)) → (read_pieces (placed 0 ps)).fault ≡ None → (f : First) × ((read_pieces (placed 0 ps)).first ≡ Some f)
some_pieces [] e = cc
some_pieces (p ∷ []) e = cc
some_pieces (p ∷ q ∷ qs) e = some_first (first_of (words (line_at p 0))) (after_first p (q ∷ qs)) e

fits_pieces : (ps : List (List ℕ)) → All TurnFits (read_pieces (placed 0 ps)).turns
fits_pieces [] = All-nil TurnFits
fits_pieces (p ∷ []) = All-nil TurnFits
fits_pieces (p ∷ q ∷ qs) = turns_fit (first_of (words (line_at p 0))) (after_first p (q ∷ qs)) (fits_lines 2 (0 + length p + 1) (q ∷ qs))

first_fits_pieces : (ps : List (List ℕ)) (f : First) → (read_pieces (placed 0 ps)).first ≡ Some f → FirstFits f
first_fits_pieces [] f e = cc
first_fits_pieces (p ∷ []) f e = cc
first_fits_pieces (p ∷ q ∷ qs) f e = (first_is 0 p f (first_from (first_of (words (line_at p 0))) (after_first p (q ∷ qs)) f e)).1

-- a line lies in its text
line_in : (k : ℕ) (ps : List (List ℕ)) → k < length ps → length (ended_lines (take k ps)) + length (get_or ps k []) ≤ length (joined_by line_feed ps)
line_in k [] h = absurd (omega arith)
line_in zero (p ∷ []) h = omega arith
line_in zero (p ∷ q ∷ ps) h = let n = length-append p (line_feed ∷ joined_by line_feed (q ∷ ps)) in omega arith
line_in (suc k) (p ∷ []) h = absurd (omega arith)
line_in (suc k) (p ∷ q ∷ ps) h =
    let ih = line_in k (q ∷ ps) (omega arith) in
    let n = length-append p (line_feed ∷ joined_by line_feed (q ∷ ps)) in
    let m = length-append p (line_feed ∷ ended_lines (take k (q ∷ ps))) in
    omega arith

-- a text has a line more than line feeds
feed_more : (t : Bool) (n : ℕ) → cond t (n + 1) n ≡ cond t (1 + n) n
feed_more true n = omega arith
feed_more false n = refl

lines_count : (text : List ℕ) → length (lines text) ≡ line_feeds text + 1
lines_count text =
    let feeds = is_count_by line_feeds (λ b. eqb b line_feed) refl (λ b bs. feed_more (eqb b line_feed) (line_feeds bs)) text in
    omega (arith, length-slice_split (λ b. eqb b line_feed) text)

module _ (text : List ℕ) (ps : List (List ℕ)) (e : pieces line_feed text ≡ ps) where
  size : length (joined_by line_feed ps) ≡ length text
  size = ap (λ x. length (joined_by line_feed x)) (sym e) ∙ ap length (join_with_byte-slice_split line_feed text)

  -- from k lines before it
  lies_at : (k : ℕ) (x : Fault) → x.line ≡ suc k → k < length ps → length (ended_lines (take k ps)) ≤ x.at → x.at ≤ length (ended_lines (take k ps)) + length (get_or ps k []) → ((x.why ≡ BadNumber → ⊥) → x.at ≡ length (ended_lines (take k ps))) → Lies text x
  lies_at k x l few low high start =
      let before : x.line - 1 ≡ k = omega arith in
      let fr : front (x.line - 1) text ≡ ended_lines (take k ps) = ap (λ y. ended_lines (take (x.line - 1) y)) e ∙ ap (λ m. ended_lines (take m ps)) before in
      let frl = ap length fr in
      let ln : get_or (lines text) (x.line - 1) [] ≡ get_or ps k [] = ap (λ y. get_or y (x.line - 1) []) e ∙ ap (λ m. get_or ps m []) before in
      let lnl = ap length ln in
      let all = ap length e in
      let feeds = lines_count text in
      let inside = line_in k ps few in
      let whole = size in
      record {
        counted = omega arith;
        in_the_text = omega arith;
        after_the_start = omega arith;
        before_the_end = omega arith;
        byte_in_the_text = omega arith;
        at_the_start = λ h. omega (arith, start h);
      }

  front_is : (k : ℕ) (x : Fault) → x.line ≡ suc k → front (x.line - 1) text ≡ ended_lines (take k ps)
  front_is k x l =
      let before : x.line - 1 ≡ k = omega arith in
      ap (λ y. ended_lines (take (x.line - 1) y)) e ∙ ap (λ m. ended_lines (take m ps)) before

  free_front : (k : ℕ) → AllByRecursion (Free line_feed) (take k ps)
  free_front k = free_take line_feed k ps (subst (AllByRecursion (Free line_feed)) e (pieces_free line_feed text))

free_push : (ls : List (List ℕ)) (l : List ℕ) → AllByRecursion (Free line_feed) ls → Free line_feed l → AllByRecursion (Free line_feed) (ls ++ l ∷ [])
free_push [] l h k = (k, tt)
free_push (m ∷ ls) l h k = (h.0, free_push ls l h.1 k)

-- a bad first line
bad_first : (text : List ℕ) (ps : List (List ℕ)) (x : Fault) → pieces line_feed text ≡ ps → 0 < length ps → no_first.fault ≡ Some x → Lies text x
bad_first text ps x e some h =
    let same : record { why = BadFirstLine; line = 1; at = 0 } ≡ x = cc in
    let l : 1 ≡ x.line = ap (λ (y : Fault). y.line) same in
    let a : 0 ≡ x.at = ap (λ (y : Fault). y.at) same in
    lies_at text ps e zero x (sym l) some (omega arith) (omega arith) (λ _. sym a)

module _ (text p q : List ℕ) (qs : List (List ℕ)) (x : Fault) (e : pieces line_feed text ≡ p ∷ q ∷ qs) (ts : List TraceTurn) (s : Stops 2 (0 + length p + 1) (q ∷ qs) ts x) where
  on_line : x.line ≡ suc (suc s.k)
  on_line = let l = s.line_is in omega arith

  later_lies : Lies text x
  later_lies =
      let n : length (ended_lines (take (suc s.k) (p ∷ q ∷ qs))) ≡ 0 + length p + 1 + length (ended_lines (take s.k (q ∷ qs))) = simp length-append (omega arith) in
      let few = s.few in
      let low = s.after_start in
      let high = s.before_end in
      lies_at text (p ∷ q ∷ qs) e (suc s.k) x on_line (omega arith) (omega arith) (omega arith) (λ h. omega (arith, s.at_start h))

  -- what the lines before the fault read to, with lines after them
  before_reads : (f : First) (l : List ℕ) (ms : List (List ℕ)) → first_of (words (line_at p 0)) ≡ Some f → read_lines 2 (placed (0 + length p + 1) (take s.k (q ∷ qs) ++ l ∷ ms)) ≡ record { turns = ts; fault = None } → read_pieces (placed 0 (p ∷ (take s.k (q ∷ qs) ++ l ∷ ms))) ≡ says_all (Some f) ts
  before_reads f l ms ef h =
      first_more (line_at p 0) (0 + length p + 1) (take s.k (q ∷ qs) ++ l ∷ ms) (some_lines (take s.k (q ∷ qs)) l ms) ∙ ap (λ o. reading o (read_lines 2 (placed (0 + length p + 1) (take s.k (q ∷ qs) ++ l ∷ ms)))) ef ∙ ap (reading (Some f)) h

  later_stands : (f : First) → first_of (words (line_at p 0)) ≡ Some f → (read_text (front (x.line - 1) text) ≡ says_all (Some f) ts) ⊎ (read_text (front (x.line - 1) text ++ end_line) ≡ says_all (Some f) ts)
  later_stands f ef =
      let ls = p ∷ take s.k (q ∷ qs) in
      let fr : front (x.line - 1) text ≡ ended_lines ls = front_is text (p ∷ q ∷ qs) e (suc s.k) x on_line in
      let free = free_front text (p ∷ q ∷ qs) e (suc s.k) in
      let closed : front (x.line - 1) text ++ end_line ≡ ended_lines (ls ++ codes "end" ∷ []) = ap (λ y. y ++ end_line) fr ∙ sym (ended_append ls (codes "end" ∷ [])) in
      let parts : pieces line_feed (ended_lines (ls ++ codes "end" ∷ [])) ≡ ls ++ last_lines =
      pieces_lines (ls ++ codes "end" ∷ []) (free_push ls (codes "end") free (refl, (refl, (refl, tt)))) ∙ append_assoc ls (codes "end" ∷ []) ([] ∷ []) in
      ⊎_elim
      (λ h. inl (ap read_text fr ∙ ap (λ y. read_pieces (placed 0 y)) (pieces_lines ls free) ∙ before_reads f [] [] ef h))
      (λ h. inr (ap read_text closed ∙ ap (λ y. read_pieces (placed 0 y)) parts ∙ before_reads f (codes "end") ([] ∷ []) ef h))
      s.stands

-- where the fault of a text lies, and what stands before it
lies_first : (text p q : List ℕ) (qs : List (List ℕ)) (x : Fault) (o : Option First) → pieces line_feed text ≡ p ∷ q ∷ qs → (reading o (after_first p (q ∷ qs))).fault ≡ Some x → Lies text x
lies_first text p q qs x None e h = bad_first text (p ∷ q ∷ qs) x e (omega arith) h
lies_first text p q qs x (Some f) e h = later_lies text p q qs x e (after_first p (q ∷ qs)).turns (lines_stop 2 (0 + length p + 1) (q ∷ qs) x h)

lies_pieces : (text : List ℕ) (ps : List (List ℕ)) (x : Fault) → pieces line_feed text ≡ ps → 0 < length ps → (read_pieces (placed 0 ps)).fault ≡ Some x → Lies text x
lies_pieces text [] x e some h = absurd (omega arith)
lies_pieces text (p ∷ []) x e some h = bad_first text (p ∷ []) x e some h
lies_pieces text (p ∷ q ∷ qs) x e some h = lies_first text p q qs x (first_of (words (line_at p 0))) e h

abbrev Stands : List ℕ → Fault → First → List TraceTurn → Type 0
Stands text x f ts = (read_text (front (x.line - 1) text) ≡ says_all (Some f) ts) ⊎ (read_text (front (x.line - 1) text ++ end_line) ≡ says_all (Some f) ts)

stands_first : (text p q : List ℕ) (qs : List (List ℕ)) (x : Fault) (f : First) (o : Option First) → first_of (words (line_at p 0)) ≡ o → pieces line_feed text ≡ p ∷ q ∷ qs → (reading o (after_first p (q ∷ qs))).fault ≡ Some x → o ≡ Some f → Stands text x f (reading o (after_first p (q ∷ qs))).turns
stands_first text p q qs x f None eo e h ef = cc
stands_first text p q qs x f (Some g) eo e h ef = later_stands text p q qs x e (after_first p (q ∷ qs)).turns (lines_stop 2 (0 + length p + 1) (q ∷ qs) x h) f (eo ∙ ef)

stands_pieces : (text : List ℕ) (ps : List (List ℕ)) (x : Fault) (f : First) → pieces line_feed text ≡ ps → (read_pieces (placed 0 ps)).fault ≡ Some x → (read_pieces (placed 0 ps)).first ≡ Some f → Stands text x f (read_pieces (placed 0 ps)).turns
stands_pieces text [] x f e h ef = cc
stands_pieces text (p ∷ []) x f e h ef = cc
stands_pieces text (p ∷ q ∷ qs) x f e h ef =
    let o = first_of (words (line_at p 0)) in
    stands_first text p q qs x f o refl e h (first_from o (after_first p (q ∷ qs)) f ef)

pub faithful : (text : List ℕ) → Faithful text (read_text text)
faithful text = record {
  returned = λ f ts hf hs e. ap read_text e ∙ written_reads f ts hf hs;
  exact = λ f ef h. sym (join_with_byte-slice_split line_feed text) ∙ exact_pieces (pieces line_feed text) f ef h;
  first_or_fault = λ h. some_pieces (pieces line_feed text) h;
  fits = fits_pieces (pieces line_feed text);
  first_fits = λ f ef. first_fits_pieces (pieces line_feed text) f ef;
  lies = λ x h. lies_pieces text (pieces line_feed text) x refl (pieces_some line_feed text) h;
  stands = λ x f h ef. stands_pieces text (pieces line_feed text) x f refl h ef;
}

pub faithful_to : (text : List ℕ) (r : Reading) → r ≡ read_text text → Faithful text r
faithful_to text r e = subst (Faithful text) (sym e) (faithful text)
