-- What a text is that reads without fault, and where a fault lies.
use Rattle.std.proofs.Common.{◌≡◌, ℕ, zero, suc, ◌+◌, ◌<◌, ◌≤◌, ◌⊎◌, List, [], ◌∷◌, ◌++◌, map, length, get_or, take, Some, None, Ok, Err, codes, sym, refl, ap, ◌∙◌, subst, inl, inr, ⊎_elim, arith}
use Rattle.std.specs.List.{All}
use Rattle.std.proofs.lemmas.List.Elements.{All-nil, All-cons}
use Rattle.std.proofs.lemmas.List.{length-append}
use Rattle.interface.specs.declared.answers.Refusal.{Refusal}
use Rattle.interface.specs.declared.answers.Refusal.TheVariants.{BadLine, BadEnding, BadNumber}
use Rattle.trace.specs.declared.forms.TraceTurn.{TraceTurn}
use Rattle.trace.specs.declared.forms.Fault.{Fault}
use Rattle.trace.specs.declared.line.Mistake.TheVariants.{Misshapen, BadNumber as NoNumber}
use Rattle.trace.specs.Pieces.{line_feed, placed}
use Rattle.trace.specs.Lines.{Verdict, verdict}
use Rattle.trace.specs.Reading.{Rest, stopped, ended, out_of_place, tail_of, after_end, judged, read_lines}
use Rattle.trace.specs.Writing.{ended_lines}
use Rattle.trace.specs.Laws.{TurnFits}
use Rattle.trace.proofs.Spellings.{turn_line, end_is, number_place}
use Rattle.trace.proofs.Writings.{turn_text}
use Rattle.trace.proofs.Readings.{tail_turns, end_turns}
use Rattle.trace.proofs.Faithful.{line_at, last_lines, turn_more, some_lines}

-- after `end`, without fault, there is nothing
nothing_left : (line at : ℕ) (q : List ℕ) (ps : List (List ℕ)) → (after_end line (placed at (q ∷ ps))).fault ≡ None → q ∷ ps ≡ [] ∷ []
nothing_left line at [] [] e = refl
nothing_left line at (b ∷ q) [] e = cc
nothing_left line at q (r ∷ ps) e = cc

-- 2. A text without fault is what writing gives.

abbrev Exact : List (List ℕ) → List TraceTurn → Type 0
Exact ps ts = ps ≡ map turn_text ts ++ last_lines

exact_line : (line at : ℕ) (p q : List ℕ) (ps : List (List ℕ)) (r : Rest) (v : Verdict) → verdict (line_at p at) ≡ v → (r.fault ≡ None → Exact (q ∷ ps) r.turns) → (judged v line at r (after_end (line + 1) (placed (at + length p + 1) (q ∷ ps)))).fault ≡ None → Exact (p ∷ q ∷ ps) (judged v line at r (after_end (line + 1) (placed (at + length p + 1) (q ∷ ps)))).turns
exact_line line at p q ps r (Ok (Some t)) e ih h = ap (λ x. x ∷ q ∷ ps) (turn_line at p t e).0 ∙ ap (λ x. turn_text t ∷ x) (ih h)
exact_line line at p q ps r (Ok None) e ih h =
    ap (λ x. x ∷ q ∷ ps) (end_is at p e) ∙ ap (λ x. codes "end" ∷ x) (nothing_left (line + 1) (at + length p + 1) q ps h) ∙ ap (λ ts. map turn_text ts ++ last_lines) (sym (end_turns (line + 1) (placed (at + length p + 1) (q ∷ ps))))
exact_line line at p q ps r (Err Misshapen) e ih h = cc
exact_line line at p q ps r (Err (NoNumber k)) e ih h = cc

tail_fault : {X : Type 0} (bs : List ℕ) (x y : Fault) → (tail_of bs (record { turns = []; fault = Some x }) (record { turns = []; fault = Some y })).fault ≡ None → X
tail_fault [] x y e = cc
tail_fault (b ∷ bs) x y e = cc

pub exact_lines : (line at : ℕ) (ps : List (List ℕ)) → 0 < length ps → (read_lines line (placed at ps)).fault ≡ None → Exact ps (read_lines line (placed at ps)).turns
exact_lines line at [] some h = absurd (omega arith)
exact_lines line at (p ∷ []) some h = tail_fault p _ _ h
exact_lines line at (p ∷ q ∷ ps) some h = exact_line line at p q ps (read_lines (line + 1) (placed (at + length p + 1) (q ∷ ps))) (verdict (line_at p at)) refl (exact_lines (line + 1) (at + length p + 1) (q ∷ ps) (omega arith)) h

-- every turn read fits
fits_line : (line at k : ℕ) (p : List ℕ) (r o : Rest) (v : Verdict) → verdict (line_at p at) ≡ v → All TurnFits r.turns → o.turns ≡ [] → All TurnFits (judged v line k r o).turns
fits_line line at k p r o (Ok (Some t)) e ih h = All-cons TurnFits t r.turns (turn_line at p t e).1 ih
fits_line line at k p r o (Ok None) e ih h = subst (All TurnFits) (sym h) (All-nil TurnFits)
fits_line line at k p r o (Err Misshapen) e ih h = All-nil TurnFits
fits_line line at k p r o (Err (NoNumber i)) e ih h = All-nil TurnFits

pub fits_lines : (line at : ℕ) (ps : List (List ℕ)) → All TurnFits (read_lines line (placed at ps)).turns
fits_lines line at [] = All-nil TurnFits
fits_lines line at (p ∷ []) = subst (All TurnFits) (sym (tail_turns p (stopped BadEnding line at) (stopped (out_of_place (verdict (line_at p at))) line at) refl refl)) (All-nil TurnFits)
fits_lines line at (p ∷ q ∷ ps) = fits_line line at at p _ _ (verdict (line_at p at)) refl (fits_lines (line + 1) (at + length p + 1) (q ∷ ps)) (end_turns (line + 1) (placed (at + length p + 1) (q ∷ ps)))

-- 3. Where a fault lies.

-- k lines stand before the fault
pub record Stops (line at : ℕ) (ps : List (List ℕ)) (ts : List TraceTurn) (x : Fault) : Type 0 where
  pub k : ℕ
  pub line_is : x.line ≡ line + k
  pub few : k < length ps
  pub after_start : at + length (ended_lines (take k ps)) ≤ x.at
  pub before_end : x.at ≤ at + length (ended_lines (take k ps)) + length (get_or ps k [])
  pub at_start : (x.why ≡ BadNumber → ⊥) → x.at ≡ at + length (ended_lines (take k ps))
  pub stands : (read_lines line (placed at (take k ps ++ [] ∷ [])) ≡ record { turns = ts; fault = None }) ⊎ (read_lines line (placed at (take k ps ++ last_lines)) ≡ record { turns = ts; fault = None })

-- at the first of the lines
here : (line at : ℕ) (p : List ℕ) (ps : List (List ℕ)) (x : Fault) → x.line ≡ line → at ≤ x.at → x.at ≤ at + length p → ((x.why ≡ BadNumber → ⊥) → x.at ≡ at) → Stops line at (p ∷ ps) [] x
here line at p ps x l low high start = record {
  k = zero;
  line_is = omega arith;
  few = omega arith;
  after_start = omega arith;
  before_end = omega arith;
  at_start = λ h. omega (arith, start h);
  stands = inr refl;
}

here_at : (line at : ℕ) (p : List ℕ) (ps : List (List ℕ)) (why : Refusal) (x : Fault) → Some (record { why = why; line = line; at = at }) ≡ Some x → Stops line at (p ∷ ps) [] x
here_at line at p ps why x e =
    let same : record { why = why; line = line; at = at } ≡ x = cc in
    let l : line ≡ x.line = ap (λ (y : Fault). y.line) same in
    let a : at ≡ x.at = ap (λ (y : Fault). y.at) same in
    here line at p ps x (sym l) (omega arith) (omega arith) (λ _. sym a)

here_number : (line at k : ℕ) (p : List ℕ) (ps : List (List ℕ)) (x : Fault) → Some (record { why = BadNumber; line = line; at = k }) ≡ Some x → (at ≤ k) × (k ≤ at + length p) → Stops line at (p ∷ ps) [] x
here_number line at k p ps x e within =
    let same : record { why = BadNumber; line = line; at = k } ≡ x = cc in
    let l : line ≡ x.line = ap (λ (y : Fault). y.line) same in
    let a : k ≡ x.at = ap (λ (y : Fault). y.at) same in
    let w : BadNumber ≡ x.why = ap (λ (y : Fault). y.why) same in
    here line at p ps x (sym l) (omega (arith, within.0)) (omega (arith, within.1)) (λ h. absurd (h (sym w)))

tail_here : (line at : ℕ) (p bs : List ℕ) (ps : List (List ℕ)) (v w : Refusal) (x : Fault) → (tail_of bs (stopped v line at) (stopped w line at)).fault ≡ Some x → Stops line at (p ∷ ps) [] x
tail_here line at p [] ps v w x e = here_at line at p ps v x e
tail_here line at p (b ∷ bs) ps v w x e = here_at line at p ps w x e

-- one line further
further : (line at : ℕ) (p q : List ℕ) (ps : List (List ℕ)) (t : TraceTurn) (ts : List TraceTurn) (x : Fault) → verdict (line_at p at) ≡ Ok (Some t) → Stops (line + 1) (at + length p + 1) (q ∷ ps) ts x → Stops line at (p ∷ q ∷ ps) (t ∷ ts) x
further line at p q ps t ts x e s =
    let n : length (ended_lines (take (suc s.k) (p ∷ q ∷ ps))) ≡ length p + (1 + length (ended_lines (take s.k (q ∷ ps)))) = simp length-append (omega arith) in
    let l = s.line_is in
    let f = s.few in
    let low = s.after_start in
    let high = s.before_end in
    record {
      k = suc s.k;
      line_is = omega arith;
      few = omega arith;
      after_start = omega arith;
      before_end = omega arith;
      at_start = λ h. omega (arith, s.at_start h);
      stands = ⊎_elim
          (λ h. inl (turn_more line at p t (take s.k (q ∷ ps) ++ [] ∷ []) (record { turns = ts; fault = None }) (some_lines (take s.k (q ∷ ps)) [] []) e h))
          (λ h. inr (turn_more line at p t (take s.k (q ∷ ps) ++ last_lines) (record { turns = ts; fault = None }) (some_lines (take s.k (q ∷ ps)) (codes "end") ([] ∷ [])) e h))
          s.stands;
    }

-- after the line `end`
after_here : (line at : ℕ) (q : List ℕ) (ps : List (List ℕ)) (x : Fault) → (after_end line (placed at (q ∷ ps))).fault ≡ Some x → (x.line ≡ line) × (x.at ≡ at)
after_here line at [] [] x e = cc
after_here line at (b ∷ q) [] x e =
    let same : record { why = out_of_place (verdict (line_at (b ∷ q) at)); line = line; at = at } ≡ x = cc in
    (ap (λ (y : Fault). y.line) (sym same), ap (λ (y : Fault). y.at) (sym same))
after_here line at q (r ∷ ps) x e =
    let same : record { why = out_of_place (verdict (line_at q at)); line = line; at = at } ≡ x = cc in
    (ap (λ (y : Fault). y.line) (sym same), ap (λ (y : Fault). y.at) (sym same))

after_stops : (line at : ℕ) (p q : List ℕ) (ps : List (List ℕ)) (x : Fault) → verdict (line_at p at) ≡ Ok None → (after_end (line + 1) (placed (at + length p + 1) (q ∷ ps))).fault ≡ Some x → Stops line at (p ∷ q ∷ ps) (after_end (line + 1) (placed (at + length p + 1) (q ∷ ps))).turns x
after_stops line at p q ps x e h =
    let n : length (p ++ line_feed ∷ []) ≡ length p + 1 = simp length-append (omega arith) in
    let place = after_here (line + 1) (at + length p + 1) q ps x h in
    let l = place.0 in
    let a = place.1 in
    let over : read_lines line (placed at (p ∷ [] ∷ [])) ≡ ended = ap (λ v. judged v line at (read_lines (line + 1) (placed (at + length p + 1) ([] ∷ []))) (after_end (line + 1) (placed (at + length p + 1) ([] ∷ [])))) e in
    record {
      k = suc zero;
      line_is = omega arith;
      few = omega arith;
      after_start = omega arith;
      before_end = omega arith;
      at_start = λ _. omega arith;
      stands = inl (over ∙ ap (λ ts. record { turns = ts; fault = None }) (sym (end_turns (line + 1) (placed (at + length p + 1) (q ∷ ps)))));
    }

line_stops : (line at : ℕ) (p q : List ℕ) (ps : List (List ℕ)) (r : Rest) (x : Fault) (v : Verdict) → verdict (line_at p at) ≡ v → (r.fault ≡ Some x → Stops (line + 1) (at + length p + 1) (q ∷ ps) r.turns x) → (judged v line at r (after_end (line + 1) (placed (at + length p + 1) (q ∷ ps)))).fault ≡ Some x → Stops line at (p ∷ q ∷ ps) (judged v line at r (after_end (line + 1) (placed (at + length p + 1) (q ∷ ps)))).turns x
line_stops line at p q ps r x (Ok (Some t)) e ih h = further line at p q ps t r.turns x e (ih h)
line_stops line at p q ps r x (Ok None) e ih h = after_stops line at p q ps x e h
line_stops line at p q ps r x (Err Misshapen) e ih h = here_at line at p (q ∷ ps) BadLine x h
line_stops line at p q ps r x (Err (NoNumber k)) e ih h = here_number line at k p (q ∷ ps) x h (number_place at p k e)

pub lines_stop : (line at : ℕ) (ps : List (List ℕ)) (x : Fault) → (read_lines line (placed at ps)).fault ≡ Some x → Stops line at ps (read_lines line (placed at ps)).turns x
lines_stop line at [] x h = cc
lines_stop line at (p ∷ []) x h =
    let none = tail_turns p (stopped BadEnding line at) (stopped (out_of_place (verdict (line_at p at))) line at) refl refl in
    subst (λ ts. Stops line at (p ∷ []) ts x) (sym none) (tail_here line at p p [] BadEnding (out_of_place (verdict (line_at p at))) x h)
lines_stop line at (p ∷ q ∷ ps) x h = line_stops line at p q ps (read_lines (line + 1) (placed (at + length p + 1) (q ∷ ps))) x (verdict (line_at p at)) refl (lines_stop (line + 1) (at + length p + 1) (q ∷ ps) x) h
