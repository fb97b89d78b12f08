use Rattle.std.proofs.Common.{false, vec_items, string_bytes, ap, ◌∙◌, subst}
use Rattle.std.specs.List.{All}
use Rattle.std.proofs.lemmas.List.{take_all}
use Rattle.std.proofs.lemmas.List.Elements.{All-more}
use Rattle.trace.specs.declared.forms.TraceCall.TheVariants.{Press}
use Rattle.trace.specs.Laws.{TurnFits}
use Rattle.trace.specs.Reading.{read_text}
use Rattle.trace.proofs.Faithful.{written_reads}
use Rattle.trace.proofs.Writings.{lines_more, lines_all}
use Rattle.trace.proofs.write.write.Goals as goal

pub loop-turn-preserved : goal.loop-turn-preserved
loop-turn-preserved c =
    let turns = c.args.turns.now in
    let i = c.loop-turn.turn-index in (
      c.in_ok-push_line.ensures.line ∙ lines_more (string_bytes c.in_ok-text.text) turns i (record { seat = false; call = Press 0 }) (string_bytes c.loop-turn.text) c.loop-turn-test.true c.loop-turn.invariant.0,
      All-more TurnFits turns i (record { seat = false; call = Press 0 }) c.loop-turn-test.true c.loop-turn.invariant.1 c.push_line.ensures.fits,
    )

pub returns : goal.returns
returns c =
    let turns = c.args.turns.now in
    let text = ap vec_items c.into_bytes.ensures.value ∙ c.in_ok-push_str.ensures.bytes ∙ lines_all c.args.first turns c.loop-turn.turn-index (string_bytes c.in_ok-text.text) (string_bytes c.loop-turn.text) c.loop-turn-test.false c.in_ok-text.ensures.line c.loop-turn.invariant.0 in
    record {
      text = text;
      reads = ap read_text text ∙ written_reads c.args.first turns c.in_ok-text.ensures.fits (subst (All TurnFits) (take_all c.loop-turn.turn-index turns c.loop-turn-test.false) c.loop-turn.invariant.1);
    }
