-- A replayed match, from the turns made again.
use Rattle.std.proofs.Common.{◌≡◌, ℕ, min, Bool, List, [], ◌∷◌, map, length, take, vec_items, vec_len, Vec, sym, refl, ap, ◌∙◌, subst, arith}
use Rattle.std.specs.Vec.{with_items}
use Rattle.std.specs.declared.alloc.Global.{Global}
use Rattle.std.proofs.lemmas.List.{with_items_is, take_all, length-map}
use Rattle.interface.specs.Games.{State}
use Rattle.plain.specs.Rules.{Rules}
use Rattle.plain.specs.Match.{turn, fresh, seat_number}
use Rattle.plain.specs.Match as plain
use Rattle.refine.specs.Memory.{own_lent}
use Rattle.play.specs.declared.turns.Turn.{Turn}
use Rattle.play.specs.declared.turns.Told.{Told}
use Rattle.play.specs.Turns.{told_of}
use Rattle.trace.specs.declared.forms.TraceCall.{TraceCall}
use Rattle.trace.specs.declared.forms.TraceCall.TheVariants.{Press, Send, Take}
use Rattle.trace.specs.declared.forms.TraceTurn.{TraceTurn}
use Rattle.report.specs.declared.ends.SeatEnd.{SeatEnd}
use Rattle.report.specs.Reruns.{move_in, turn_in, Reran}
use Rattle.report.specs.Turns.{call_in, lent_turn, plain_move, plain_turn}
use Rattle.refine.specs.Plays as plays
use Rattle.report.specs.Totals.{total}
use Rattle.report.specs.Reports.{seat_line}
use Rattle.report.proofs.Lists.{frames}
use Rattle.report.specs.Replays.{tale_of, replayed}

all_of : (n : ℕ) → min n n ≡ n
all_of n = omega arith

-- a turn of a trace is lent all there is
turn_lent : (records : ℕ) (t : TraceTurn) → turn_in records (lent_turn records t) ≡ plain_turn records t
turn_lent records t =
    let moves = at t.call in
    λ i. turn (seat_number t.seat) own_lent (moves i)
  where
    at : (c : TraceCall) → move_in (min records records) (call_in c) ≡ plain_move records c
    at (Press code) = refl
    at Send = ap plain.Send (all_of records)
    at (Take k) = ap (plain.Take k) (all_of records)

turns_lent : (records : ℕ) (ts : List TraceTurn) → map (turn_in records) (map (lent_turn records) ts) ≡ map (plain_turn records) ts
turns_lent records [] = refl
turns_lent records (t ∷ ts) = ap (λ u. u ∷ map (turn_in records) (map (lent_turn records) ts)) (turn_lent records t) ∙ ap (λ us. plain_turn records t ∷ us) (turns_lent records ts)

module _ {I : Type 0} (r : Rules State I) (records : ℕ) (ts : List TraceTurn) (us : List Turn) (lines : Vec Told Global) (told : List Told) (ends : SeatEnd × SeatEnd) where
  pub replay_told : us ≡ map (lent_turn records) ts → length told ≡ vec_len lines → vec_len lines ≡ length ts → Reran r (map (turn_in records) us) (map told_of (take (length us) told)) ends → tale_of (record { lines = with_items lines told; first = ends.0; second = ends.1 }) ≡ replayed r records ts
  replay_told is long as_many h =
      let all : map (turn_in records) us ≡ map (plain_turn records) ts = ap (map (turn_in records)) is ∙ turns_lent records ts in
      let n : length us ≡ length ts = ap length is ∙ length-map ts (lent_turn records) in
      let h' = subst (λ vs. Reran r vs (map told_of (take (length us) told)) ends) all h in
      let items : vec_items (with_items lines told) ≡ take (length us) told = with_items_is lines told long ∙ sym (take_all (length us) told (omega arith)) in
      let told' = ap (map told_of) items ∙ h'.tells in
      let first = h'.first in
      let second = h'.second in
      λ i. record { lines = told' i; first = first i; second = second i }

-- the lines of the seats
frames_told : (ys : List Told) → map (λ (y : plays.Told). y.frames) (map told_of ys) ≡ map frames ys
frames_told [] = refl
frames_told (y ∷ ys) = ap (λ ns. y.frames ∷ ns) (frames_told ys)

pub line_is : (end : SeatEnd) (s : Bool) (ts : List TraceTurn) (ys zs : List Told) (n : ℕ) → n ≡ total s ts (map frames zs) → zs ≡ ys → record { end = end; replayed = n } ≡ seat_line end s ts (map told_of ys)
line_is end s ts ys zs n e is =
    let sum = e ∙ ap (λ ws. total s ts (map frames ws)) is ∙ ap (total s ts) (sym (frames_told ys)) in
    λ i. record { end = end; replayed = sum i }
