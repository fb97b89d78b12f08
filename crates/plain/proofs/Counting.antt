-- The laws of the counts, of the notes, and what they give.
use Rattle.std.proofs.Common.{◌≡◌, ℕ, ◌+◌, ◌<◌, ◌≤◌, max, Bool, true, false, List, [], ◌∷◌, ◌++◌, length, Option, sym, ap, subst, ⊎_elim, arith}
use Rattle.std.proofs.lemmas.List.{get_or_push, length_push}
use Rattle.std.proofs.lemmas.Bool.{cases_lt}
use Rattle.std.proofs.lemmas.Bool.Decides.{nat_tests}
use Rattle.interface.specs.declared.answers.Refusal.{Refusal}
use Rattle.interface.specs.declared.answers.Refusal.TheVariants.{Unacknowledged}
use Rattle.interface.specs.Answers.{number_of}
use Rattle.interface.specs.Limits.{match_length, most_lead}
use Rattle.plain.specs.Rules.{Rules}
use Rattle.plain.specs.Match.{Note, Plain, Turn, Move, Press, Send, Take, acting, other, side, played, known, acknowledged, note, fresh, pressed, noted, taken, answered, input_of, move_refusal, refusal, run}
use Rattle.plain.specs.Laws.{Counts, CountLaws, codes, Welcome}
use Rattle.plain.proofs.Steps.{Step, stays, presses, sends, takes, step, keeps}
use Rattle.plain.proofs.Growth.{Grown, put_notes, step_grows}

-- what holds of a note that seat s made
pub record Noted {I : Type 0} (p : Plain I) (s : Bool) (n : Note) : Type 0 where
  pub started : n.start ≤ acknowledged p s
  pub ended : n.end ≤ played p s
  pub knew : n.acknowledgement ≤ known p s
  pub near : n.end ≤ n.acknowledgement + most_lead
  pub forward : n.start ≤ n.end
  pub short : n.end ≤ n.start + (most_lead + most_lead)

-- what holds of a match at all times
pub record Sound {I : Type 0} (p : Plain I) : Type 0 where
  pub counts : (s : Bool) → Counts p s
  pub notes : (k : ℕ) → k < length p.notes → Noted p (note p k).sender (note p k)

-- not the answer 13
abbrev Not : Option Refusal → Type 0
Not o = answered o ≡ number_of Unacknowledged → ⊥

module _ {I : Type 0} where
  counts_pressed : (p : Plain I) (s : Bool) (x : I) → ((t : Bool) → Counts p t) → (played p s ≡ match_length → ⊥) → (played p s ≡ known p s + most_lead → ⊥) → (t : Bool) → Counts (pressed p s x) t
  counts_pressed p s x h a b t = let n = length_push (side p s).inputs x in grind (arith, h true, h false)

  counts_taken : (p : Plain I) (s : Bool) (n : Note) → ((t : Bool) → Counts p t) → Noted p (other s) n → (t : Bool) → Counts (taken p s n) t
  counts_taken p s n h a t = grind (arith, h true, h false)

  counts_noted : (p : Plain I) (s : Bool) → ((t : Bool) → Counts p t) → (t : Bool) → Counts (noted p s) t
  counts_noted p s h t = grind (arith, h t)

  -- a seat's own counts, with those that the other's give
  pub acknowledged_at_most_played : (p : Plain I) → ((t : Bool) → Counts p t) → (s : Bool) → acknowledged p s ≤ played p s
  acknowledged_at_most_played p h s = grind (arith, h true, h false)

  -- a note stays as good when the match grows
  noted_later : (p q : Plain I) (s : Bool) (n : Note) → Grown p q → Noted p s n → Noted q s n
  noted_later p q s n g h = omega (arith, g.sides s)

  new_note : (p : Plain I) (s : Bool) → ((t : Bool) → Counts p t) → Noted p s (record { sender = s; start = acknowledged p s; end = played p s; acknowledgement = known p s })
  new_note p s h = omega (arith, h s, acknowledged_at_most_played p h s)

  notes_kept : (p q : Plain I) → Grown p q → Sound p → (k : ℕ) → k < length p.notes → Noted q (note q k).sender (note q k)
  notes_kept p q g h k inside = subst (λ n. Noted q n.sender n) (sym (g.same_notes k inside)) (noted_later p q _ _ g (h.notes k inside))

module _ {S I : Type 0} (r : Rules S I) where
  sound_step : {p q : Plain I} {t : Turn} → Step r p t q → Sound p → Sound q
  sound_step {p} (stays why e) h = h
  sound_step {p} {q} (presses s l code e n reads full far) h =
      let g = step_grows r (presses s l code e n reads full far) in
      record {
        counts = counts_pressed p s _ h.counts full far;
        notes = λ k i. notes_kept p _ g h k (let same = ap length (put_notes p s (record { inputs = (side p s).inputs ++ input_of r code ∷ []; known_frames = known p s; acknowledged_frames = acknowledged p s })) in omega arith);
      }
  sound_step {p} {q} (sends s l records e n) h =
      let g = step_grows r (sends s l records e n) in
      let new : Note = record { sender = s; start = acknowledged p s; end = played p s; acknowledgement = known p s } in
      let long = length_push p.notes new in
      record {
        counts = counts_noted p s h.counts;
        notes = λ k i.
            ⊎_elim
            (λ inside. notes_kept p _ g h k inside)
            (λ past.
            let here : length p.notes ≡ k = omega arith in
            subst (λ m. Noted (noted p s) m.sender m) (sym (get_or_push p.notes new _ k here)) (noted_later p _ s new g (new_note p s h.counts)))
            (cases_lt k (length p.notes));
      }
  sound_step {p} {q} (takes s l k records e n inside from) h =
      let g = step_grows r (takes s l k records e n inside from) in
      record {
        counts = counts_taken p s _ h.counts (subst (λ a. Noted p a (note p k)) from (h.notes k inside));
        notes = λ j i. notes_kept p _ g h j (let same = ap length (put_notes p s (record { inputs = (side p s).inputs; known_frames = max (known p s) (note p k).end; acknowledged_frames = max (acknowledged p s) (note p k).acknowledgement })) in omega arith);
      }

  sound_fresh : Sound {I = I} fresh
  sound_fresh = record { counts = fresh_counts; notes = λ k h. absurd (omega arith) }
    where
      fresh_counts : (s : Bool) → Counts {I = I} fresh s
      fresh_counts s = grind arith

  -- every run is sound
  pub sound : (ts : List Turn) → Sound (run r ts)
  sound ts = keeps r Sound (λ p t h. sound_step (step r p t) h) fresh ts sound_fresh

  move_never : (p : Plain I) (s : Bool) (m : Move) → Counts p s → Not (move_refusal r p s m)
  move_never p s (Press code) h e = grind (arith, nat_tests)
  move_never p s (Send records) h e = grind (arith, nat_tests)
  move_never p s (Take k records) h e = grind (arith, nat_tests)

  turn_never : (p : Plain I) (t : Turn) → ((s : Bool) → Counts p s) → Not (refusal r p t)
  turn_never p t h e = let never = move_never p (acting t) t.move (h (acting t)) in grind (arith, nat_tests)

  pub counts_hold : (ts : List Turn) → CountLaws r (run r ts)
  counts_hold ts = record { counts = (sound ts).counts; never_unacknowledged = λ t. turn_never (run r ts) t (sound ts).counts }

  pub codes_within : (ts : List Turn) (k : ℕ) → k < length (run r ts).notes → codes (note (run r ts) k) ≤ most_lead + most_lead
  codes_within ts k inside = omega (arith, (sound ts).notes k inside)

  welcome_at : (p : Plain I) (s : Bool) (n : Note) → Sound p → Noted p (other s) n → (most : ℕ) → most_lead ≤ most → Welcome most p s n
  welcome_at p s n h a most b = grind (arith, h.counts true, h.counts false)

  pub welcome : (most : ℕ) → most_lead ≤ most → (ts : List Turn) (s : Bool) (k : ℕ) → k < length (run r ts).notes → (note (run r ts) k).sender ≡ other s → Welcome most (run r ts) s (note (run r ts) k)
  welcome most b ts s k inside from = welcome_at (run r ts) s _ (sound ts) (subst (λ a. Noted (run r ts) a (note (run r ts) k)) from ((sound ts).notes k inside)) most b
