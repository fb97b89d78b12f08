use Rattle.std.proofs.Common.{◌≡◌, ◌-◌, Some, None, unwrap_or, sym, ap, ◌∙◌}
use Rattle.std.specs.List.{slice_get}
use Rattle.datagram.specs.Reading.{codes_of}
use Rattle.rollback.proofs.Sent.{sent_none, sent_some}
use Rattle.rollback.proofs.news.sent_at.Goals as goal

pub returns-in_default : goal.returns-in_default
returns-in_default g c =
    let d = c.args.datagram.now in
    let told = c.in_default.ensures in
    let there : slice_get (codes_of d.codes.now) (c.args.frame - d.start) ≡ None = cc in
    c.idle.ensures ∙ sym (sent_none g.I.InputKind.reads g.I.InputKind.idle (codes_of d.codes.now) (c.args.frame - d.start) g.met.I.InputKind.idle_reads there)

pub returns : goal.returns
returns g c =
    let d = c.args.datagram.now in
    let told = c.in-Some.ensures in
    let there : slice_get (codes_of d.codes.now) (c.args.frame - d.start) ≡ Some c.in-Some.code = cc in
    c.unwrap_or.ensures ∙ ap (unwrap_or c.read.result) c.idle-2.ensures
    ∙ sent_some g.I.InputKind.reads g.I.InputKind.idle (codes_of d.codes.now) (c.args.frame - d.start) c.in-Some.code c.read.result there c.read.ensures
