-- What the types of src/state.rt mean.
use Rattle.std.specs.Prelude.{◌≡◌, ℕ, Bool, true, false, cond, not, ◌&&◌, List}
use Rattle.interface.specs.Keepers.{Kept}
use Rattle.frames.specs.Queue.{whole}
use Rattle.seat.specs.Meaning.{view}
use Rattle.seat.specs.Views.{View}
use Rattle.refine.specs.Memory.{Entry, SlotLists, Memory}
use Rattle.refine.specs.Outcomes.{numbered}
use Rattle.match_engine.specs.declared.state.Match.{Match}

-- each queue has its 32 slots
abbrev pub whole_slots : {I : Type 0} → SlotLists I → Bool
whole_slots x = whole x.own && whole x.others && whole x.digests

module _ {G K0 K1 H0 H1 I : Type 0} (kept_0 : K0 → Kept) (kept_1 : K1 → Kept) where
  -- one seat of a match, with its slots
  abbrev pub seat_view : Match G K0 K1 H0 H1 → Bool → SlotLists I → View I
  seat_view m false x = view kept_0 m.first x.own x.others x.digests
  seat_view m true x = view kept_1 m.second x.own x.others x.digests

  -- a match with the slots of seat 0, of seat 1, and a log
  abbrev pub whole_memory : Match G K0 K1 H0 H1 → SlotLists I → SlotLists I → List Entry → Memory I
  whole_memory m x y log = record { seat_0 = seat_view m false x; seat_1 = seat_view m true y; log = log; sent = m.sent }

  -- a match in a call by number n: the slots lent to it, those of the other seat, and a log
  abbrev pub memory : Match G K0 K1 H0 H1 → ℕ → SlotLists I → SlotLists I → List Entry → Memory I
  memory m n lent rest log = whole_memory m (cond (numbered n) rest lent) (cond (numbered n) lent rest) log

-- all but seat s is as it was
abbrev pub KeepsRest : {G K0 K1 H0 H1 : Type 0} (I : Type 0) → (K0 → Kept) → (K1 → Kept) → Match G K0 K1 H0 H1 → Match G K0 K1 H0 H1 → Bool → Type 0
KeepsRest I kept_0 kept_1 m m' s = ((x : SlotLists I) → seat_view kept_0 kept_1 m' (not s) x ≡ seat_view kept_0 kept_1 m (not s) x) × (m'.sent ≡ m.sent)
