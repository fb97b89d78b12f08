-- A match just opened, from its seats.
use Rattle.std.proofs.Common.{◌≡◌, ℕ, ◌^◌, ◌<◌, true, false, List, [], sym, subst}
use Rattle.std.proofs.lemmas.Bool.{and_parts, eqb-true}
use Rattle.interface.specs.Games.{State}
use Rattle.interface.specs.Keepers.{Kept}
use Rattle.refine.specs.Setup.{Setup}
use Rattle.refine.specs.Memory.{Entry, SlotLists, sent_part}
use Rattle.refine.specs.Laws.{opened, opened_seat, AllSlots}
use Rattle.refine.specs.Standing.{Stands}
use Rattle.refine.proofs.Opening.{opening_stands}
use Rattle.match_engine.specs.declared.state.Match.{Match}
use Rattle.match_engine.specs.Meaning.{seat_view, whole_memory, whole_slots}

pub all_slots : {I : Type 0} (x : SlotLists I) → whole_slots x ≡ true → AllSlots 32 x
all_slots x e =
    let p = and_parts _ _ e in
    let q = and_parts _ _ p.0 in
    record { own = eqb-true _ _ q.0; others = eqb-true _ _ q.1; digests = eqb-true _ _ p.1 }

module _ {G K0 K1 H0 H1 I : Type 0} (kept_0 : K0 → Kept) (kept_1 : K1 → Kept) (opening : State) (match_number : ℕ) (m : Match G K0 K1 H0 H1) (x x' y y' : SlotLists I) (sent : m.sent ≡ 0) where
  pub match_opened : seat_view kept_0 kept_1 m false x' ≡ opened_seat opening match_number false x → seat_view kept_0 kept_1 m true y' ≡ opened_seat opening match_number true y → (log : List Entry) → whole_memory kept_0 kept_1 m x' y' log ≡ opened opening match_number x y log
  match_opened e e' log i = record { seat_0 = e i; seat_1 = e' i; log = log; sent = sent i }

  pub match_stands : (a : Setup I) → a.opening ≡ opening → match_number < 2 ^ 16 → whole_slots x ≡ true → whole_slots y ≡ true → ((log : List Entry) → whole_memory kept_0 kept_1 m x' y' log ≡ opened opening match_number x y log) → (log : List Entry) → Stands a match_number [] (sent_part (whole_memory kept_0 kept_1 m x' y' log))
  match_stands a same small hx hy is log =
      subst (λ z. Stands a match_number [] (sent_part z)) (sym (is log))
      (subst (λ o. Stands a match_number [] (sent_part (opened o match_number x y log))) same (opening_stands a match_number x y log small (all_slots x hx) (all_slots y hy)))
