-- A match that is just opened stands.
use Rattle.std.proofs.Common.{◌≡◌, ℕ, ◌^◌, ◌<◌, ◌≤◌, Bool, true, false, List, [], length, take, sym, subst, arith}
use lib.Seq.{take-set-lt}
use Rattle.std.proofs.lemmas.List.{length-take}
use Rattle.std.proofs.lemmas.Grind.{elements}
use Rattle.interface.specs.Digest.{digest_of}
use Rattle.refine.specs.Setup.{Setup}
use Rattle.refine.specs.Memory.{Entry, SlotLists, with_slots, sent_part, own_lent, fronts, cut, own_part}
use Rattle.refine.specs.Standing.{Stands}
use Rattle.refine.specs.Laws.{opened_seat, opened, AllSlots}
use Rattle.refine.specs.Matches.{EnoughSlots}

module _ {I : Type 0} (a : Setup I) (match_number : ℕ) where
  pub opening_stands : (x y : SlotLists I) (log : List Entry) → match_number < 2 ^ 16 → AllSlots 32 x → AllSlots 32 y → Stands a match_number [] (sent_part (opened a.opening match_number x y log))
  opening_stands x y log small hx hy = grind (arith, elements)

-- and with more slots brought than its own
module _ {I : Type 0} (a : Setup I) (match_number : ℕ) where
  front_long : {T : Type 0} (xs : List T) → 32 ≤ length xs → length (take 32 xs) ≡ 32
  front_long xs long = omega (arith, length-take 32 xs)

  own_slots : (x : SlotLists I) → EnoughSlots 32 x → AllSlots 32 (fronts own_lent x)
  own_slots x h = record { own = front_long x.own h.own; others = front_long x.others h.others; digests = front_long x.digests h.digests }

  seat_cut : (s : Bool) (x : SlotLists I) → EnoughSlots 32 x → cut own_lent (opened_seat a.opening match_number s x) ≡ opened_seat a.opening match_number s (fronts own_lent x)
  seat_cut s x h = let d = take-set-lt 32 x.digests 0 (digest_of a.opening) (omega arith) in λ i. with_slots (opened_seat a.opening match_number s x) (record { own = take 32 x.own; others = take 32 x.others; digests = d i })

  -- by hand, as grind stops at its limit here
  pub opening_stands_within : (x y : SlotLists I) (log : List Entry) → match_number < 2 ^ 16 → EnoughSlots 32 x → EnoughSlots 32 y → Stands a match_number [] (own_part (opened a.opening match_number x y log))
  opening_stands_within x y log small hx hy =
      let cx = seat_cut false x hx in
      let cy = seat_cut true y hy in
      let is : sent_part (opened a.opening match_number (fronts own_lent x) (fronts own_lent y) log) ≡ own_part (opened a.opening match_number x y log) = λ i. record { seat_0 = sym cx i; seat_1 = sym cy i; log = []; sent = 0 } in
      subst (λ m. Stands a match_number [] m) is (opening_stands a match_number (fronts own_lent x) (fronts own_lent y) log small (own_slots x hx) (own_slots y hy))
