-- A plain match only grows: counts rise, and inputs and notes stay where they are.
use Rattle.std.proofs.Common.{◌≡◌, ℕ, ◌<◌, ◌≤◌, Bool, List, [], ◌∷◌, ◌++◌, length, get_or, sym, refl, ◌∙◌, subst, arith}
use Rattle.std.proofs.lemmas.List.{get_or_append_left, length_push}
use Rattle.plain.specs.Rules.{Rules}
use Rattle.plain.specs.Match.{Side, Note, Plain, Turn, side, put, played, known, acknowledged, note, after, onward, run}
use Rattle.plain.proofs.Steps.{Step, stays, presses, sends, takes, step, onward_append}

-- a seat's side d, and e later
pub record Later {I : Type 0} (d e : Side I) : Type 0 where
  pub played_more : length d.inputs ≤ length e.inputs
  pub known_more : d.known_frames ≤ e.known_frames
  pub acknowledged_more : d.acknowledged_frames ≤ e.acknowledged_frames
  pub same_inputs : (f : ℕ) (x : I) → f < length d.inputs → get_or e.inputs f x ≡ get_or d.inputs f x

-- a match p, and q later
pub record Grown {I : Type 0} (p q : Plain I) : Type 0 where
  pub sides : (s : Bool) → Later (side p s) (side q s)
  pub more_notes : length p.notes ≤ length q.notes
  pub same_notes : (k : ℕ) → k < length p.notes → note q k ≡ note p k

module _ {I : Type 0} where
  later_same : (d : Side I) → Later d d
  later_same d = grind arith

  later_after : (d e c : Side I) → Later d e → Later e c → Later d c
  later_after d e c a b = grind arith

  pub grown_same : (p : Plain I) → Grown p p
  grown_same p = grind (arith, later_same)

  pub grown_after : (p q c : Plain I) → Grown p q → Grown q c → Grown p c
  grown_after p q c a b =
      record {
        sides = λ s. later_after _ _ _ (a.sides s) (b.sides s);
        more_notes = omega arith;
        same_notes = λ k h. b.same_notes k (omega arith) ∙ a.same_notes k h;
      }

  -- one seat's side has changed
  pub put_later : (p : Plain I) (s : Bool) (d : Side I) → Later (side p s) d → (t : Bool) → Later (side p t) (side (put p s d) t)
  put_later p s d h t = grind (arith, later_same)

  pub put_notes : (p : Plain I) (s : Bool) (d : Side I) → (put p s d).notes ≡ p.notes
  put_notes p s d = grind arith

  put_grown : (p : Plain I) (s : Bool) (d : Side I) → Later (side p s) d → Grown p (put p s d)
  put_grown p s d h = record { sides = put_later p s d h; more_notes = grind (arith, put_notes); same_notes = λ k _. grind (arith, put_notes) }

  -- the sides of a match with one note more
  noted_side : (p : Plain I) (ns : List Note) (s : Bool) → side (record { seat_0 = p.seat_0; seat_1 = p.seat_1; notes = ns }) s ≡ side p s
  noted_side p ns s = grind arith

module _ {S I : Type 0} (r : Rules S I) where
  pub step_grows : {p q : Plain I} {t : Turn} → Step r p t q → Grown p q
  step_grows {p} (stays why e) = grown_same p
  step_grows {p} (presses s l code _ _ _ _ _) =
      put_grown p s _
      (let n = length_push (side p s).inputs (Rattle.plain.specs.Match.input_of r code) in
      record {
        played_more = omega arith;
        known_more = omega arith;
        acknowledged_more = omega arith;
        same_inputs = λ f x h. get_or_append_left _ _ x f h;
      })
  step_grows {p} (sends s l records _ _) =
      let n : Note = record { sender = s; start = acknowledged p s; end = played p s; acknowledgement = known p s } in
      let more = length_push p.notes n in
      record {
        sides = λ t. subst (λ d. Later (side p t) d) (sym (noted_side p (p.notes ++ n ∷ []) t)) (later_same (side p t));
        more_notes = omega arith;
        same_notes = λ k h. get_or_append_left _ _ _ k h;
      }
  step_grows {p} (takes s l k records _ _ _ _) =
      put_grown p s _
      (record {
        played_more = omega arith;
        known_more = omega arith;
        acknowledged_more = omega arith;
        same_inputs = λ f x h. refl;
      })

  pub grows : (p : Plain I) (ts : List Turn) → Grown p (onward r p ts)
  grows p [] = grown_same p
  grows p (t ∷ ts) = grown_after _ _ _ (step_grows (step r p t)) (grows (after r p t) ts)

  -- a run, and the run of any continuation
  pub run_grows : (ts more : List Turn) → Grown (run r ts) (run r (ts ++ more))
  run_grows ts more = subst (λ q. Grown (run r ts) q) (sym (onward_append r _ ts more)) (grows (run r ts) more)
