use Rattle.std.proofs.Common.{refl, inl, inr}
use Rattle.worked_cases.proofs.PlainMatch.{heard, none}
use Rattle.worked_cases.proofs.plain_match.plain_match_cases.Goals as goal

pub returns : goal.returns
returns c =
    record {
      short_game_lines = refl;
      short_game_seat_0 = refl;
      short_game_seat_1 = refl;
      short_game_lists_0 = refl;
      short_game_lists_1 = refl;
      short_game_truth = refl;
      ninth_press = refl;
      replays_two = refl;
      replays_none = refl;
      replays_all = refl;
      holds_on = refl;
      holds_the_last = refl;
      unread_before_over = refl;
      sixteen_codes = refl;
      eight_replayed = refl;
      ends_eight_ahead = refl;
      gaps_from_0 = refl;
      gaps_from_2 = refl;
      nine_listed = refl;
      late_lowers_nothing = refl;
      last_frame = refl;
      past_the_last = refl;
      over_before_ahead = refl;
      seven_ahead = refl;
      eight_ahead = refl;
      unacknowledged_31 = refl;
      unacknowledged_32 = refl;
      ahead_before_unacknowledged = refl;
      unread = refl;
      has_the_latest = inl heard;
      nothing_to_have = inr none;
      no_such_seat = refl;
      short_own = refl;
      long_other = refl;
      no_digest_slots = refl;
      log_has_room = refl;
      log_is_full = refl;
      taken = refl;
      own_datagram = refl;
      not_sent = refl;
      not_lent = refl;
    }
