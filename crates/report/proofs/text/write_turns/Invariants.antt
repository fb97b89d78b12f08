use Rattle.std.proofs.Common.{◌≡◌, ◌+◌, ◌++◌, map, drop, string_bytes}
use Rattle.play.specs.Turns.{told_of}
use Rattle.report.specs.Texts.{turn_texts}
use Rattle.report.proofs.text.write_turns.Given as goal

abbrev pub invariant-loop-i : goal.invariant-loop-i
invariant-loop-i l = string_bytes l.text ++ turn_texts (l.i + 2) (map told_of (drop l.i l.lines)) ≡ string_bytes l.initial.text ++ turn_texts 2 (map told_of l.lines)
