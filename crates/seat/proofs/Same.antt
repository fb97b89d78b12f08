-- A seat whose keeper alone was handed out, and came back as it was.
use Rattle.std.proofs.Common.{◌≡◌, ◌+◌, ◌≤◌}
use native.Mathlib.Bridge.{le_prop}
use native.Mathlib.Nat.{ℕ_set}
use Rattle.seat.specs.declared.state.Seat.{Seat}

-- the seat's facts about its counts are the same however they are shown
pub same_seat : {G K H : Type 0} (s : Seat G K H) (k : K) (digested : s.digests.next ≡ s.own.next + 1) (within : s.own.next ≤ 60000) (known : s.other.next ≤ 60000) (lead : s.own.next ≤ s.other.next + 8) (news : s.other.next ≤ s.own.next + 8) (acknowledged : s.acknowledged ≤ s.own.next) (unacknowledged : s.own.next ≤ s.acknowledged + 32) → k ≡ s.keeper → ◌≡◌ {A = Seat G K H} (record { second = s.second; match_number = s.match_number; own = s.own; other = s.other; digests = s.digests; acknowledged = s.acknowledged; parted = s.parted; keeper = k; rules = s.rules; digested = digested; within = within; known_within = known; lead = lead; news = news; acknowledged_within = acknowledged; unacknowledged = unacknowledged }) s
same_seat s k digested within known lead news acknowledged unacknowledged e i = record {
  second = s.second;
  match_number = s.match_number;
  own = s.own;
  other = s.other;
  digests = s.digests;
  acknowledged = s.acknowledged;
  parted = s.parted;
  keeper = e i;
  rules = s.rules;
  digested = ℕ_set _ _ digested s.digested i;
  within = le_prop within s.within i;
  known_within = le_prop known s.known_within i;
  lead = le_prop lead s.lead i;
  news = le_prop news s.news i;
  acknowledged_within = le_prop acknowledged s.acknowledged_within i;
  unacknowledged = le_prop unacknowledged s.unacknowledged i;
}
