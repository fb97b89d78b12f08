-- What a call leaves of the log that it is lent, and the whole log then.
use Rattle.std.proofs.Common.{◌≡◌, ℕ, ◌+◌, ◌<◌, Bool, not, ltb, leb, ◌⊎◌, List, [], ◌∷◌, ◌++◌, length, get_or, take, drop, set, Some, None, Option, sym, refl, ap, ◌∙◌, subst, inl, inr, arith, length-set}
use Rattle.std.proofs.lemmas.List.{take-append-drop, take_more_set, set-append_left, length-take, get_or-set_same}
use Rattle.std.proofs.lemmas.Bool.{leb-false}
use Rattle.std.proofs.lemmas.Bool.Decides.{nat_tests}
use Rattle.std.proofs.lemmas.Grind.{common_steps}
use Rattle.interface.specs.declared.answers.Refusal.{Refusal}
use Rattle.interface.specs.declared.answers.Refusal.TheVariants.{LogFull, BadFrame, NoSuchSeat}
use Rattle.datagram.specs.Fields.{Fields}
use Rattle.datagram.specs.Writing.{write_leaves}
use Rattle.plain.specs.Match.{unless_refused, answered}
use Rattle.plain.proofs.Steps.{passes}
use Rattle.seat.specs.Views.{View, rightly_lent}
use Rattle.seat.specs.Calls as calls
use Rattle.refine.specs.Setup.{Setup, setting_of}
use Rattle.refine.specs.Memory.{Entry, Memory, seat, no_entry, entry}
use Rattle.refine.specs.Outcomes.{Call, Pressing, Sending, Taking, outcome, numbered, check, written, appended, made, result}
use Rattle.refine.specs.Plays.{Roomy}
use Rattle.refine.proofs.Logging.{put_log, put_sent, joined_none, joined_one}

-- writing keeps a buffer's length
write_long : (d : Fields) (old : List ℕ) → length (write_leaves d old) ≡ length old
write_long d old = grind (arith, nat_tests, common_steps)

written_long : {I : Type 0} (a : Setup I) (v : View I) (s : Bool) (e : Entry) → length (written a v s e).bytes ≡ length e.bytes
written_long a v s e = at (calls.send_refusal (setting_of a s) v e.bytes) (calls.to_send (setting_of a s) v)
  where
    at : (o : Option Refusal) (d : Fields) → length (unless_refused o e.bytes (write_leaves d e.bytes)) ≡ length e.bytes
    at None d = write_long d e.bytes
    at (Some why) d = refl

-- what a call leaves of the log
pub record Wrote (log log' : List Entry) (sent sent' : ℕ) : Type 0 where
  pub new : Entry
  pub inside : sent < length log
  pub put : log' ≡ set log sent new
  pub one_more : sent' ≡ sent + 1
  pub as_long : length new.bytes ≡ length (get_or log sent no_entry).bytes

-- or nothing
abbrev pub Left : (log log' : List Entry) (sent sent' : ℕ) → Type 0
Left log log' sent sent' = ((log' ≡ log) × (sent' ≡ sent)) ⊎ Wrote log log' sent sent'

abbrev pub LogLeft : {I : Type 0} → Memory I → Memory I → Type 0
LogLeft b o = Left b.log o.log b.sent o.sent

module _ {I : Type 0} (a : Setup I) (b : Memory I) (n : ℕ) where
  send_left : b.sent < length b.log → LogLeft b (appended a b (numbered n))
  send_left inside = at (calls.send_refusal (setting_of a s) (seat b s) e.bytes)
    where
      s : Bool
      s = numbered n

      e : Entry
      e = entry b b.sent

      at : (o : Option Refusal) → LogLeft b (unless_refused o b (record { seat_0 = b.seat_0; seat_1 = b.seat_1; log = set b.log b.sent (written a (seat b (numbered n)) (numbered n) (entry b b.sent)); sent = b.sent + 1 }))
      at None = inr (record { new = written a (seat b s) s e; inside = inside; put = refl; one_more = refl; as_long = written_long a (seat b s) s e })
      at (Some why) = inl (refl, refl)

  pub log_left : (c : Call) → LogLeft b (result a b n c).left
  unfolding result
  log_left c = at c (check b n c) refl
    where
      at : (c : Call) (o : Option Refusal) → check b n c ≡ o → LogLeft b (unless_refused o (outcome b (answered o) 0) (made a b (numbered n) c)).left
      at c (Some why) e = inl (refl, refl)
      at (Pressing code) None e = inl (put_log b (numbered n) _, put_sent b (numbered n) _)
      at (Taking k) None e = inl (put_log b (numbered n) _, put_sent b (numbered n) _)
      at Sending None e =
          let x = passes (ltb 1 n) NoSuchSeat _ e in
          let y = passes (not (rightly_lent (seat b (numbered n)))) BadFrame _ x.1 in
          let z = passes (leb (length b.log) b.sent) LogFull None y.1 in
          send_left (leb-false (length b.log) b.sent z.0)

pub left_long : (log log' : List Entry) (sent sent' : ℕ) → Left log log' sent sent' → length log' ≡ length log
left_long log log' sent sent' (inl (e, _)) = ap length e
left_long log log' sent sent' (inr w) = ap length w.put ∙ length-set log sent w.new

-- the log of which a front was lent, put together again
module _ (all : List Entry) (records sent sent' : ℕ) (log' : List Entry) where
  unwritten : log' ≡ take records all → log' ++ drop records all ≡ all
  unwritten e = ap (λ l. l ++ drop records all) e ∙ take-append-drop records all

  rewritten : (w : Wrote (take records all) log' sent sent') → log' ++ drop records all ≡ set all sent w.new
  rewritten w =
      ap (λ l. l ++ drop records all) w.put
      ∙ sym (set-append_left (take records all) (drop records all) sent w.new w.inside)
      ∙ ap (λ l. set l sent w.new) (take-append-drop records all)

  pub whole_again : Left (take records all) log' sent sent' → take sent all ++ drop sent (take sent' log') ≡ take sent' (log' ++ drop records all)
  whole_again (inl (e, e')) =
      joined_none (take sent all) log' sent sent' e'
      ∙ ap (λ k. take k all) (sym e')
      ∙ ap (take sent') (sym (unwritten e))
  whole_again (inr w) =
      let y = w.new in
      let inside = w.inside in
      let short = length-take records all in
      let long = length-set (take records all) sent y in
      joined_one (take sent all) log' sent sent' no_entry w.one_more (omega (arith, ap length w.put))
      ∙ ap (λ l. take sent all ++ get_or l sent no_entry ∷ []) w.put
      ∙ ap (λ z. take sent all ++ z ∷ []) (get_or-set_same (take records all) sent y no_entry inside)
      ∙ sym (take_more_set all sent y (omega arith))
      ∙ ap (λ k. take k (set all sent y)) (sym w.one_more)
      ∙ ap (take sent') (sym (rewritten w))

  pub roomy_again : Left (take records all) log' sent sent' → Roomy all → Roomy (log' ++ drop records all)
  roomy_again (inl (e, _)) room = subst Roomy (sym (unwritten e)) room
  roomy_again (inr w) room =
      let y = w.new in
      let short = length-take records all in
      let long = length-set all sent y in
      let there : sent < length all = omega (arith, w.inside) in
      subst Roomy (sym (rewritten w))
      (λ k low.
      let as_long = w.as_long in
      let was = room sent there in
      let others = room k in
      grind (arith, common_steps))
