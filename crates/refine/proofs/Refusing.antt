-- What a refused call leaves, and which answers a match gives.
use Rattle.std.proofs.Common.{◌≡◌, ℕ, ◌+◌, Bool, cond, length, set, Some, None, Option, unwrap_or, refl, arith}
use Rattle.std.proofs.lemmas.Bool.Decides.{nat_tests}
use Rattle.interface.specs.declared.answers.Refusal.{Refusal}
use Rattle.interface.specs.Answers.{accepted, accepted_and_parted}
use Rattle.datagram.specs.Layout.{bytes_of}
use Rattle.datagram.specs.Reading.{read_of}
use Rattle.plain.specs.Rules.{Rules}
use Rattle.plain.specs.Match.{Plain, Turn, Move, Press, Send, Take, acting, answered, unless_refused, move_refusal, answer}
use Rattle.plain.specs.Laws.{Counts}
use Rattle.seat.specs.Calls as calls
use Rattle.refine.specs.Setup.{Setup, setting_of}
use Rattle.refine.specs.Memory.{Memory, seat, put_seat, entry, datagram}
use Rattle.refine.specs.Outcomes.{Call, Pressing, Sending, Taking, Outcome, outcome, numbered, check, written, made, result}
use Rattle.refine.specs.Laws.{match_answers, OneOf}
use Rattle.refine.proofs.Logging.{put_same}

-- not accepted: all is as it was
abbrev KeptAll : {I : Type 0} → Memory I → Outcome I → Type 0
KeptAll b o = (o.code ≡ accepted → ⊥) → (o.code ≡ accepted_and_parted → ⊥) → (o.left ≡ b) × (o.frames ≡ 0)

module _ {I : Type 0} (a : Setup I) (b : Memory I) where
  -- a take that no check refuses is answered 0 or 30
  taken_or_parted : (parted : Bool) → (cond parted accepted_and_parted accepted ≡ accepted → ⊥) → (cond parted accepted_and_parted accepted ≡ accepted_and_parted → ⊥) → ⊥
  taken_or_parted parted x y = grind arith

  made_keeps : (s : Bool) (c : Call) → KeptAll b (made a b s c)
  made_keeps s (Pressing code) = at (calls.press_refusal (setting_of a s) (seat b s) code)
    where
      at : (o : Option Refusal) → KeptAll b (outcome (put_seat b s (unless_refused o (seat b s) (calls.pressed (setting_of a s) (seat b s) (unwrap_or (a.reads code) a.idle)))) (answered o) 0)
      at None x y = absurd (x refl)
      at (Some why) x y = (put_same b s, refl)
  made_keeps s Sending = at (calls.send_refusal (setting_of a s) (seat b s) (entry b b.sent).bytes)
    where
      at : (o : Option Refusal) → KeptAll b (outcome (unless_refused o b (record { seat_0 = b.seat_0; seat_1 = b.seat_1; log = set b.log b.sent (written a (seat b s) s (entry b b.sent)); sent = b.sent + 1 })) (unless_refused {X = ℕ × ℕ} o (answered o, 0) (accepted, length (bytes_of (calls.to_send (setting_of a s) (seat b s))))).0 0)
      at None x y = absurd (x refl)
      at (Some why) x y = (refl, refl)
  made_keeps s (Taking k) = at (calls.take_refusal (setting_of a s) (seat b s) (datagram (entry b k)))
    where
      at : (o : Option Refusal) → let v = seat b s in let bytes = datagram (entry b k) in let w = calls.read_taken (setting_of a s) v (read_of bytes) in let r = unless_refused {X = ℕ × ℕ} o (answered o, 0) (cond (unless_refused o v w).parted accepted_and_parted accepted, calls.read_replayed (setting_of a s) v (read_of bytes)) in KeptAll b (outcome (put_seat b s (unless_refused o v w)) r.0 r.1)
      at None x y = absurd (taken_or_parted (calls.read_taken (setting_of a s) (seat b s) (read_of (datagram (entry b k)))).parted x y)
      at (Some why) x y = (put_same b s, refl)

  -- by hand, as grind stops at its limit here
  pub refused_keeps : (n : ℕ) (c : Call) → KeptAll b (result a b n c)
  unfolding result
  refused_keeps n c = at (check b n c)
    where
      at : (o : Option Refusal) → KeptAll b (unless_refused o (outcome b (answered o) 0) (made a b (numbered n) c))
      at None x y = made_keeps (numbered n) c x y
      at (Some why) x y = (refl, refl)

-- The answers of the plain match, row by row.

abbrev Usual : ℕ → Type 0
Usual n = OneOf match_answers n

module _ {S I : Type 0} (r : Rules S I) where
  move_usual : (p : Plain I) (s : Bool) (m : Move) → Counts p s → Usual (answered (move_refusal r p s m))
  move_usual p s (Press code) h = grind (arith, nat_tests)
  move_usual p s (Send records) h = grind (arith, nat_tests)
  move_usual p s (Take k records) h = grind (arith, nat_tests)

  pub usual : (p : Plain I) (t : Turn) → ((s : Bool) → Counts p s) → Usual (answer r p t)
  usual p t h = let rest = move_usual p (acting t) t.move (h (acting t)) in grind (arith, nat_tests)
