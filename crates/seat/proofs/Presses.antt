-- A press, from the calls that make it.
use Rattle.std.proofs.Common.{◌≡◌, ℕ, ◌+◌, ◌%◌, not, eqb, List, set, is_some, None, ap, ◌∙◌}
use Rattle.interface.specs.declared.answers.Refusal.TheVariants.{UnreadCode, Parted, MatchOver, TooFarAhead, Unacknowledged}
use Rattle.interface.specs.Games.{State}
use Rattle.rollback.specs.Inputs.{Setting, Inputs}
use Rattle.rollback.specs.Replay.{kept_states, frame_at}
use Rattle.seat.specs.Views.{View}
use Rattle.std.proofs.lemmas.Bool.{eqb-false}
use Rattle.seat.specs.Calls.{press_check, pressed, pressed_inputs}
use Rattle.seat.proofs.Checks.{passes}

module _ {I : Type 0} (g : Setting I) (v : View I) (x : I) where
  abbrev inputs_with : List I → ℕ → Inputs I
  inputs_with own played = record { own = own; played = played; others = v.others; known = v.known }

  abbrev view_with : List I → ℕ → List State → List ℕ → View I
  view_with own played ss ds = record { seat = v.seat; match_number = v.match_number; played = played; known = v.known; acknowledged = v.acknowledged; parted = v.parted; states = ss; own = own; others = v.others; digests = ds }

  pub pressed_is : (own : List I) (played : ℕ) (ss : List State) (ds : List ℕ) (f : ℕ) → f ≡ v.played → own ≡ set v.own (v.played % 32) x → played ≡ v.played + 1 → kept_states ss ds ≡ frame_at g v.seat (inputs_with own played) f (kept_states v.states v.digests) → view_with own played ss ds ≡ pressed g v x
  unfolding pressed
  pressed_is own played ss ds f at put grown step =
      let q : inputs_with own played ≡ pressed_inputs g v x = λ i. inputs_with (put i) (grown i) in
      let k = step ∙ ap (λ n. frame_at g v.seat (inputs_with own played) n (kept_states v.states v.digests)) at ∙ ap (λ r. frame_at g v.seat r v.played (kept_states v.states v.digests)) q in
      λ i. view_with (put i) (grown i) (k i).states (k i).digests

-- what a press that passes tells of the counts
pub record Passed {I : Type 0} (v : View I) : Type 0 where
  pub below_the_end : v.played ≡ 60000 → ⊥
  pub not_far : v.played ≡ v.known + 8 → ⊥
  pub few_unacknowledged : v.played ≡ v.acknowledged + 32 → ⊥

pub press_passed : {I : Type 0} (g : Setting I) (v : View I) (code : ℕ) → press_check g v code ≡ None → Passed v
press_passed g v code e =
    let a = passes v.parted Parted _ e in
    let b = passes (not (is_some (g.reads code))) UnreadCode _ a.1 in
    let c = passes (eqb v.played 60000) MatchOver _ b.1 in
    let d = passes (eqb v.played (v.known + 8)) TooFarAhead _ c.1 in
    let f = passes (eqb v.played (v.acknowledged + 32)) Unacknowledged None d.1 in
    record { below_the_end = eqb-false _ _ c.0; not_far = eqb-false _ _ d.0; few_unacknowledged = eqb-false _ _ f.0 }
