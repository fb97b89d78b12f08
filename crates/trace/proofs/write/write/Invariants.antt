use Rattle.std.proofs.Common.{◌≡◌, ◌++◌, map, take, string_bytes}
use Rattle.std.specs.List.{All}
use Rattle.trace.specs.Laws.{TurnFits}
use Rattle.trace.specs.Writing.{ended_lines}
use Rattle.trace.proofs.Writings.{turn_text}
use Rattle.trace.proofs.write.write.Given as goal

-- the lines so far, of turns that fit
abbrev pub invariant-loop-turn : goal.invariant-loop-turn
invariant-loop-turn l = (string_bytes l.text ≡ string_bytes l.initial.text ++ ended_lines (map turn_text (take l.turn-index l.turns))) × All TurnFits (take l.turn-index l.turns)
