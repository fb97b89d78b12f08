-- The games that a trace can name, each with snapshots and hold at seat 0, and trails and still at seat 1.
use Rattle.std.specs.Prelude.{ℕ, List}
use Rattle.refine.specs.Setup.{Setup, setup, rules}
use Rattle.refine.specs.Memory.{Entry}
use Rattle.duel.specs.declared.input.DuelInput.{DuelInput}
use Rattle.duel.specs.Inputs as duel_inputs
use Rattle.duel.specs.Words as duel_words
use Rattle.speed.specs.declared.moves.Move.{Move}
use Rattle.speed.specs.Moves as speed_moves
use Rattle.speed.specs.Opening as speed_opening
use Rattle.speed.specs.Rules as speed_rules
use Rattle.trace.specs.declared.forms.GameName.{GameName}
use Rattle.trace.specs.declared.forms.GameName.TheVariants.{Duel, Speed}
use Rattle.trace.specs.declared.forms.TraceTurn.{TraceTurn}
use Rattle.report.specs.Replays.{Tale, replayed, log_left}

abbrev pub duel_setup : ℕ → Setup DuelInput
duel_setup seed = setup (duel_words.opening seed) duel_words.next duel_inputs.staying duel_inputs.input_of duel_inputs.code_of (λ last gap. last) (λ last gap. duel_inputs.staying)

abbrev pub speed_setup : ℕ → Setup Move
speed_setup seed = setup (speed_opening.opening_state seed) speed_rules.next_state speed_moves.idle_move speed_moves.read_code speed_moves.code_of (λ last gap. last) (λ last gap. speed_moves.idle_move)

-- what the replay of a trace's turns tells, with so many records
abbrev pub tale_by : GameName → ℕ → ℕ → List TraceTurn → Tale
tale_by Duel seed records ts = replayed (rules (duel_setup seed)) records ts
tale_by Speed seed records ts = replayed (rules (speed_setup seed)) records ts

-- and the log that it leaves
abbrev pub log_by : GameName → ℕ → ℕ → List Entry → List TraceTurn → List Entry
log_by Duel seed match_number log ts = log_left (duel_setup seed) match_number log ts
log_by Speed seed match_number log ts = log_left (speed_setup seed) match_number log ts
