-- A turn of one seat, as a step of the whole match.
use Rattle.std.proofs.Common.{◌≡◌, ℕ, Bool, true, false, cond, List, sym, refl, ap, ◌∙◌, subst}
use Rattle.interface.specs.Keepers.{Kept}
use Rattle.seat.specs.Views.{View}
use Rattle.refine.specs.Setup.{Setup}
use Rattle.refine.specs.Memory.{Entry, SlotLists, Memory, seat}
use Rattle.refine.specs.Outcomes.{numbered}
use Rattle.refine.specs.Plays.{Step}
use Rattle.refine.specs.Matches.{next, step_result, told}
use Rattle.match_engine.specs.declared.state.Match.{Match}
use Rattle.match_engine.specs.Meaning.{seat_view, whole_memory, memory}

told_is : {I : Type 0} (a : Setup I) (M M' : Memory I) (t : Step) (s : Bool) → numbered t.number ≡ s → M' ≡ next a M t → (code frames played known : ℕ) → (code ≡ (step_result a M t).code) × (frames ≡ (step_result a M t).frames) → played ≡ (seat M' s).played → known ≡ (seat M' s).known → record { code = code; frames = frames; played = played; known = known } ≡ told a M t
told_is a M M' t s is left code frames played known answers p k =
    let p' : played ≡ (seat (next a M t) (numbered t.number)).played = p ∙ ap (λ z. (seat z s).played) left ∙ ap (λ u. (seat (next a M t) u).played) (sym is) in
    let k' : known ≡ (seat (next a M t) (numbered t.number)).known = k ∙ ap (λ z. (seat z s).known) left ∙ ap (λ u. (seat (next a M t) u).known) (sym is) in
    λ i. record { code = answers.0 i; frames = answers.1 i; played = p' i; known = k' i }

module _ {G K0 K1 H0 H1 I : Type 0} (kept_0 : K0 → Kept) (kept_1 : K1 → Kept) (a : Setup I) (m m' : Match G K0 K1 H0 H1) (t : Step) (lent lent' rest : SlotLists I) (log log' : List Entry) (s : Bool) (is : numbered t.number ≡ s) where
  -- the match by the seat
  abbrev by : Bool → Match G K0 K1 H0 H1 → SlotLists I → List Entry → Memory I
  by u k x l = whole_memory kept_0 kept_1 k (cond u rest x) (cond u x rest) l

  pub step_leaves : memory kept_0 kept_1 m' t.number lent' rest log' ≡ next a (memory kept_0 kept_1 m t.number lent rest log) t → by s m' lent' log' ≡ next a (by s m lent log) t
  step_leaves left = subst (λ u. by u m' lent' log' ≡ next a (by u m lent log) t) is left

  acting_by : (u : Bool) → seat (by u m' lent' log') u ≡ seat_view kept_0 kept_1 m' u lent'
  acting_by true = refl
  acting_by false = refl

  pub step_told : (code frames played known : ℕ) → by s m' lent' log' ≡ next a (by s m lent log) t → (code ≡ (step_result a (memory kept_0 kept_1 m t.number lent rest log) t).code) × (frames ≡ (step_result a (memory kept_0 kept_1 m t.number lent rest log) t).frames) → ((x : SlotLists I) → played ≡ (seat_view kept_0 kept_1 m' s x).played) → ((x : SlotLists I) → known ≡ (seat_view kept_0 kept_1 m' s x).known) → record { code = code; frames = frames; played = played; known = known } ≡ told a (by s m lent log) t
  step_told code frames played known left answers p k =
      told_is a (by s m lent log) (by s m' lent' log') t s is left code frames played known
      (subst (λ u. (code ≡ (step_result a (by u m lent log) t).code) × (frames ≡ (step_result a (by u m lent log) t).frames)) is answers)
      (p lent' ∙ sym (ap (λ (v : View I). v.played) (acting_by s)))
      (k lent' ∙ sym (ap (λ (v : View I). v.known) (acting_by s)))
