-- A seat with the slots that it is lent: all that a call can read or change.
use Rattle.std.specs.Prelude.{ℕ, ◌+◌, min, Bool, cond, ◌&&◌, List}
use Rattle.std.specs.Option.{unwrap_or}
use Rattle.frames.specs.Queue.{whole, held}
use Rattle.interface.specs.Games.{State}
use Rattle.rollback.specs.Inputs.{Inputs}

pub record View (I : Type 0) : Type 0 where
  -- true for seat 1
  pub seat : Bool
  pub match_number : ℕ
  -- P, R and A
  pub played : ℕ
  pub known : ℕ
  pub acknowledged : ℕ
  pub parted : Bool
  -- what the keeper lists, newest first
  pub states : List State
  -- the slots: own inputs, the other seat's, digests
  pub own : List I
  pub others : List I
  pub digests : List ℕ

module _ {I : Type 0} where
  abbrev pub inputs : View I → Inputs I
  inputs v = record { own = v.own; played = v.played; others = v.others; known = v.known }

  -- each queue has its 32 slots
  abbrev pub rightly_lent : View I → Bool
  rightly_lent v = whole v.own && whole v.others && whole v.digests

  -- C: states 0 to C are confirmed
  abbrev pub confirmed : View I → ℕ
  confirmed v = min v.played v.known

  -- the digest held for a state, or 0
  abbrev pub digest_at : View I → ℕ → ℕ
  digest_at v n = unwrap_or (held v.digests (v.played + 1) n) 0

abbrev pub seat_number : Bool → ℕ
seat_number s = cond s 1 0
