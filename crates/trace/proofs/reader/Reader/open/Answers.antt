use Rattle.std.proofs.Common.{sym, ◌∙◌}
use Rattle.trace.proofs.Readings.{opened}
use Rattle.trace.proofs.reader.Reader.open.Goals as goal

pub returns : goal.returns
returns c = rw c.in_default-Some.is-1 (opened c.args.text.now c.split.result.0 c.in_default-Some.rest c.split.result.1 c.in_ok-first.first c.split.ensures.pieces c.in_default-Some.is-1 (sym c.in_ok-first.ensures.ok_part ∙ c.first_line.ensures))
