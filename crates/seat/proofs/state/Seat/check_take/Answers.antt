use Rattle.std.proofs.Common.{cond, [], Err, sym, refl, ap, ◌∙◌, arith}
use Rattle.interface.specs.declared.answers.Refusal.TheVariants.{Parted}
use Rattle.datagram.specs.Meanings.{fields_read}
use Rattle.datagram.specs.Reading.{read_of}
use Rattle.rollback.specs.Inputs.{setting}
use Rattle.seat.specs.Calls.{or_refused, read_checked, end_of}
use Rattle.seat.specs.Meaning.{view}
use Rattle.seat.proofs.Checks.{seat_is}
use Rattle.seat.proofs.Takes.{pass, confirms_from}
use Rattle.seat.proofs.state.Seat.check_take.Goals as goal

pub end_of-end-requires : goal.end_of-end-requires
end_of-end-requires g c = (c.in_ok-datagram.ensures.laws.fits (fields_read c.in_ok-datagram.datagram) refl).few

pub returns : goal.returns
returns g c =
    let s = setting g.G.Game.next g.G.Input.InputKind.idle g.G.Input.InputKind.reads g.G.Input.InputKind.code g.H.GuessRule.guessed in
    let v = view {I = g.row.G-Input.Denot} g.K.Keeper.kept c.args.self.now [] [] [] in
    let d = fields_read c.in_ok-datagram.datagram in
    let told = c.in_ok-datagram.ensures in
    let ok = pass s v d (record {
      this_match = c.if-datagram-self.false;
      other_seat = c.if-datagram-from.false ∙ c.from.ensures ∙ seat_is _;
      codes_read = sym c.if-not-all_read.ensures;
      starts = omega arith;
      ends_near = omega arith;
      ends_within = omega arith;
      acknowledges = omega arith;
      reports = omega arith;
      confirms = confirms_from c.args.self.now.other.next (end_of d) d.report_frame (omega arith);
    }) in
    record {
      answer = sym (ap (λ o. or_refused o d) ok) ∙ ap (read_checked s v) told.answer ∙ sym (ap (λ b. cond b (Err Parted) (read_checked s v (read_of c.args.bytes.now))) c.if-self.false);
      few = (told.laws.fits d refl).few;
    }
