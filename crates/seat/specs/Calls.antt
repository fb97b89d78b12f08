-- What a seat's calls answer, and what they leave.
use Rattle.std.specs.Prelude.{ℕ, ◌+◌, ◌-◌, ◌%◌, max, Bool, false, cond, not, ◌&&◌, ◌||◌, List, [], ◌∷◌, map, length, drop, is_some, Some, None, Ok, Err, Option, Result, ◌==◌, nat_le, nat_lt, slice_set}
use Rattle.std.specs.List.{list_all, range_with_len}
use Rattle.std.specs.Option.{unwrap_or}
use Rattle.interface.specs.Digest.{digest_of}
use Rattle.interface.specs.Games.{State}
use Rattle.interface.specs.Answers.{accepted, accepted_and_parted}
use Rattle.interface.specs.Limits.{match_length, most_lead, most_unacknowledged, queue_slots}
use Rattle.interface.specs.declared.answers.Acceptance.{Acceptance}
use Rattle.interface.specs.declared.answers.Acceptance.TheVariants.{Accepted, AcceptedAndParted}
use Rattle.interface.specs.declared.answers.Refusal.{Refusal}
use Rattle.interface.specs.declared.answers.Refusal.TheVariants.{NotOurs, UnreadCode, StartTooLate, EndTooLate, AcknowledgementTooLate, ReportTooLate, Parted, MatchOver, TooFarAhead, Unacknowledged, BufferTooShort, OutOfReach, BadFrame}
use Rattle.frames.specs.Queue.{held}
use Rattle.datagram.specs.Fields.{Fields}
use Rattle.datagram.specs.Layout.{bytes_of}
use Rattle.datagram.specs.Reading.{read_of}
use Rattle.datagram.specs.Writing.{too_short, write_leaves}
use Rattle.plain.specs.Match.{answered, unless_refused}
use Rattle.rollback.specs.Inputs.{Setting, Inputs, input_at, caught_up, lowest_change}
use Rattle.rollback.specs.Replay.{KeptStates, kept_states, frame_at, frames_from}
use Rattle.seat.specs.Views.{View, inputs, rightly_lent, confirmed, digest_at, seat_number}

-- the refusal of slots comes before all else
abbrev pub with_slots : {I : Type 0} → View I → Option Refusal → Option Refusal
with_slots v why = cond (rightly_lent v) why (Some BadFrame)

-- Press.

module _ {I : Type 0} (g : Setting I) (v : View I) where
  -- the first check that fails, with the slots given
  abbrev pub press_check : ℕ → Option Refusal
  press_check code =
      cond v.parted (Some Parted)
      (cond (not (is_some (g.reads code))) (Some UnreadCode)
      (cond (v.played == match_length) (Some MatchOver)
      (cond (v.played == v.known + most_lead) (Some TooFarAhead)
      (cond (v.played == v.acknowledged + most_unacknowledged) (Some Unacknowledged)
      None))))

  abbrev pub press_refusal : ℕ → Option Refusal
  press_refusal code = with_slots v (press_check code)

  abbrev pub press_answer : ℕ → ℕ
  press_answer code = answered (press_refusal code)

  -- the inputs once the seat's own for frame P is put
  abbrev pub pressed_inputs : I → Inputs I
  pressed_inputs x = record { own = slice_set v.own (v.played % queue_slots) x; played = v.played + 1; others = v.others; known = v.known }

  -- the input is the seat's for frame P, the keeper steps ahead, the new digest is put, and P grows by 1
  unfoldable pub pressed : I → View I
  pressed x =
      let q = pressed_inputs x in
      let k = frame_at g v.seat q v.played (kept_states v.states v.digests) in
      record { seat = v.seat; match_number = v.match_number; played = q.played; known = v.known; acknowledged = v.acknowledged; parted = v.parted; states = k.states; own = q.own; others = v.others; digests = k.digests }

  abbrev pub press_leaves : ℕ → View I
  press_leaves code = unless_refused (press_refusal code) v (pressed (unwrap_or (g.reads code) g.idle))

-- Send.

module _ {I : Type 0} (g : Setting I) (v : View I) where
  -- the codes of the seat's inputs from A to P − 1
  abbrev pub unacknowledged_codes : List ℕ
  unacknowledged_codes = map (λ f. g.code (input_at g v.own v.played f)) (range_with_len v.acknowledged (v.played - v.acknowledged))

  -- start A, acknowledgement R, and the digest held for C
  abbrev pub to_send : Fields
  to_send = record { sender = seat_number v.seat; match_number = v.match_number; start = v.acknowledged; codes = unacknowledged_codes; acknowledgement = v.known; report_frame = confirmed v; digest = digest_at v (confirmed v) }

  abbrev pub send_refusal : List ℕ → Option Refusal
  send_refusal buffer = with_slots v (cond (too_short to_send buffer) (Some BufferTooShort) None)

  -- the code, and the length or 0
  abbrev pub send_answer : List ℕ → ℕ × ℕ
  send_answer buffer = unless_refused (send_refusal buffer) (answered (send_refusal buffer), 0) (accepted, length (bytes_of to_send))

  abbrev pub send_leaves : List ℕ → List ℕ
  send_leaves buffer = unless_refused (send_refusal buffer) buffer (write_leaves to_send buffer)

-- Take.

-- every code reads
abbrev pub all_read : {I : Type 0} → (ℕ → Option I) → List ℕ → Bool
all_read reads codes = list_all (λ c. is_some (reads c)) codes

abbrev pub end_of : Fields → ℕ
end_of d = d.start + length d.codes

-- a digest that is held differs from the one reported
abbrev pub differs : Option ℕ → ℕ → Bool
differs None digest = false
differs (Some held) digest = not (held == digest)

-- a seat that parts or not
abbrev pub judged : {I : Type 0} → View I → Bool → View I
judged v b = record { seat = v.seat; match_number = v.match_number; played = v.played; known = v.known; acknowledged = v.acknowledged; parted = b; states = v.states; own = v.own; others = v.others; digests = v.digests }

module _ {I : Type 0} (g : Setting I) (v : View I) (d : Fields) where
  -- another match number, or not the other seat's
  abbrev pub not_ours : Bool
  not_ours = not (d.match_number == v.match_number) || not (d.sender == seat_number (not v.seat))

  -- the first check of the fields that fails
  abbrev pub fields_check : Option Refusal
  fields_check =
      cond not_ours (Some NotOurs)
      (cond (not (all_read g.reads d.codes)) (Some UnreadCode)
      (cond (nat_lt v.known d.start) (Some StartTooLate)
      (cond (nat_lt (v.played + most_lead) (end_of d) || nat_lt match_length (end_of d)) (Some EndTooLate)
      (cond (nat_lt v.played d.acknowledgement) (Some AcknowledgementTooLate)
      (cond (nat_lt v.played d.report_frame || (nat_lt v.known d.report_frame && nat_lt (end_of d) d.report_frame)) (Some ReportTooLate)
      None)))))

  -- what is known of inputs once the codes from R on are kept
  abbrev pub fresh_inputs : Inputs I
  fresh_inputs = caught_up g (inputs v) d.codes d.start

  -- P less the lowest frame whose other input is not what it was
  abbrev pub frames_replayed : ℕ
  frames_replayed = v.played - lowest_change g (inputs v) fresh_inputs

  -- the keeper cannot go back so far
  abbrev pub reach_check : Option Refusal
  reach_check = cond (nat_lt frames_replayed (length v.states)) None (Some OutOfReach)

  -- the keeper and the digests after the frames are replayed
  abbrev pub replayed_states : KeptStates
  replayed_states = frames_from g v.seat fresh_inputs (v.played - frames_replayed) frames_replayed (kept_states (drop frames_replayed v.states) v.digests)

  -- the report is judged where its frame is recent
  abbrev pub report_differs : List ℕ → Bool
  report_differs digests = nat_le v.played (d.report_frame + 31) && differs (held digests (v.played + 1) d.report_frame) d.digest

  unfoldable pub taken : View I
  taken =
      let q = fresh_inputs in
      let k = replayed_states in
      record { seat = v.seat; match_number = v.match_number; played = v.played; known = q.known; acknowledged = max v.acknowledged d.acknowledgement; parted = report_differs k.digests; states = k.states; own = v.own; others = q.others; digests = k.digests }

-- one check after another
abbrev pub and_then : Option Refusal → Option Refusal → Option Refusal
and_then None next = next
and_then (Some why) next = Some why

module _ {I : Type 0} (g : Setting I) (v : View I) where
  abbrev pub read_check : Result Fields Refusal → Option Refusal
  read_check (Err why) = Some why
  read_check (Ok d) = and_then (fields_check g v d) (reach_check g v d)

  abbrev pub take_refusal : List ℕ → Option Refusal
  take_refusal bytes = with_slots v (cond v.parted (Some Parted) (read_check (read_of bytes)))

  abbrev pub read_taken : Result Fields Refusal → View I
  read_taken (Err why) = v
  read_taken (Ok d) = taken g v d

  abbrev pub take_leaves : List ℕ → View I
  take_leaves bytes = unless_refused (take_refusal bytes) v (read_taken (read_of bytes))

  abbrev pub read_replayed : Result Fields Refusal → ℕ
  read_replayed (Err why) = 0
  read_replayed (Ok d) = frames_replayed g v d

  -- the code, and the frames replayed
  abbrev pub take_answer : List ℕ → ℕ × ℕ
  take_answer bytes = unless_refused (take_refusal bytes) (answered (take_refusal bytes), 0) (cond (take_leaves bytes).parted accepted_and_parted accepted, read_replayed (read_of bytes))

-- how a take is accepted: its seat parts or not
abbrev pub acceptance : Bool → Acceptance
acceptance parts = cond parts AcceptedAndParted Accepted

module _ {I : Type 0} (g : Setting I) (v : View I) where
  -- the same, where the take is accepted, with the frames replayed
  abbrev pub take_accepted : List ℕ → Acceptance × ℕ
  take_accepted bytes = (acceptance (take_leaves g v bytes).parted, read_replayed g v (read_of bytes))

-- what checks let through, or the refusal
abbrev pub or_refused : {X : Type 0} → Option Refusal → X → Result X Refusal
or_refused None x = Ok x
or_refused (Some why) x = Err why

module _ {I : Type 0} (g : Setting I) (v : View I) where
  -- the fields that pass the checks before the keeper is asked, or the first that fails
  abbrev pub read_checked : Result Fields Refusal → Result Fields Refusal
  read_checked (Err why) = Err why
  read_checked (Ok d) = or_refused (fields_check g v d) d

  abbrev pub take_checked : List ℕ → Result Fields Refusal
  take_checked bytes = cond v.parted (Err Parted) (read_checked (read_of bytes))

  -- what is left once the codes are kept and the frames replayed, before the report is judged
  unfoldable pub caught : Fields → View I
  caught d =
      let q = fresh_inputs g v d in
      let k = replayed_states g v d in
      record { seat = v.seat; match_number = v.match_number; played = v.played; known = q.known; acknowledged = max v.acknowledged d.acknowledgement; parted = v.parted; states = k.states; own = v.own; others = q.others; digests = k.digests }

-- a seat that was just opened
abbrev pub opened : {I : Type 0} → Bool → ℕ → State → List I → List I → List ℕ → View I
opened seat number opening own others digests = record { seat = seat; match_number = number; played = 0; known = 0; acknowledged = 0; parted = false; states = opening ∷ []; own = own; others = others; digests = slice_set digests 0 (digest_of opening) }
