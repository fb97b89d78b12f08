-- A seat at the end of a match: as it is, and as the plain match has it.
use Rattle.std.specs.Prelude.{Bool}
use Rattle.interface.specs.Digest.{digest_of}
use Rattle.interface.specs.Games.{State}
use Rattle.interface.specs.Keepers.{newest}
use Rattle.plain.specs.Rules.{Rules}
use Rattle.plain.specs.Match.{Plain, played, known, acknowledged}
use Rattle.plain.specs.Match as plain
use Rattle.plain.specs.States.{plain_state}
use Rattle.seat.specs.Views.{View, confirmed}
use Rattle.report.specs.declared.ends.SeatEnd.{SeatEnd}

-- P, R, A, C, and the digest of the newest state
abbrev pub view_end : {I : Type 0} → View I → SeatEnd
view_end v = record { played = v.played; known = v.known; acknowledged = v.acknowledged; confirmed = confirmed v; digest = digest_of (newest v.states) }

-- the same of a plain match
abbrev pub plain_end : {I : Type 0} → Rules State I → Plain I → Bool → SeatEnd
plain_end r p s = record { played = played p s; known = known p s; acknowledged = acknowledged p s; confirmed = plain.confirmed p s; digest = digest_of (plain_state r p s (played p s)) }
