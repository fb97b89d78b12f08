-- A frame, and frames one after another.
use Rattle.std.proofs.Common.{◌≡◌, ℕ, suc, ◌+◌, ◌-◌, ◌%◌, ◌<◌, ◌≤◌, max, Bool, true, List, length, set, sym, ap, ◌∙◌, arith}
use Rattle.interface.specs.Digest.{digest_of}
use Rattle.interface.specs.Games.{State}
use Rattle.interface.specs.Keepers.{newest, advanced}
use Rattle.frames.specs.Queue.{slots_after}
use Rattle.rollback.specs.Inputs.{Setting, Inputs, pair_at, in_order}
use Rattle.rollback.specs.Replay.{KeptStates, kept_states, stepped_at, frame_at, frames_from}

module _ {I : Type 0} (g : Setting I) (seat : Bool) (q : Inputs I) (f : ℕ) where
  -- the calls that make a frame
  pub frame_made : (ss ss' : List State) (ds ds' : List ℕ) (p o : I × I) (d : ℕ) (may : Bool) → p ≡ pair_at g q f → o ≡ in_order seat (p.0, p.1) → ss' ≡ advanced g.next ss o.0 o.1 → d ≡ digest_of (newest ss') → may ≡ true → ds' ≡ slots_after may ds (f + 1) d → kept_states ss' ds' ≡ frame_at g seat q f (kept_states ss ds)
  unfolding frame_at
  frame_made ss ss' ds ds' p o d may fetched ordered stepped told allowed put =
      let pair : o ≡ in_order seat (pair_at g q f) = ordered ∙ ap (in_order seat) fetched in
      let states : ss' ≡ stepped_at g seat q f ss = stepped ∙ ap (λ r. advanced g.next ss r.0 r.1) pair in
      let digest : d ≡ digest_of (newest (stepped_at g seat q f ss)) = told ∙ ap (λ l. digest_of (newest l)) states in
      let digests : ds' ≡ set ds ((f + 1) % 32) (digest_of (newest (stepped_at g seat q f ss))) = put ∙ ap (λ b. slots_after b ds (f + 1) d) allowed ∙ ap (set ds ((f + 1) % 32)) digest in
      λ i. kept_states (states i) (digests i)

  -- the first of some frames
  pub frames_more : (n m : ℕ) (k k' : KeptStates) → n ≡ suc m → k' ≡ frame_at g seat q f k → frames_from g seat q (f + 1) m k' ≡ frames_from g seat q f n k
  unfolding frames_from
  frames_more n m k k' e step = ap (frames_from g seat q (f + 1) m) step ∙ ap (λ x. frames_from g seat q f x k) (sym e)

  pub frames_none : (n : ℕ) (k : KeptStates) → n ≡ 0 → frames_from g seat q f n k ≡ k
  unfolding frames_from
  frames_none n k e = ap (λ x. frames_from g seat q f x k) e

-- in the middle of n frames from `from` on: what is left, played from here, is the whole
pub record Owing {I : Type 0} (g : Setting I) (seat : Bool) (q : Inputs I) (from n next : ℕ) (whole : KeptStates) (frame owed next' : ℕ) (k : KeptStates) : Type 0 where
  pub place : frame + owed ≡ from + n
  pub start : from ≤ frame
  pub same : next' ≡ next
  pub long : length k.digests ≡ 32
  pub left : frames_from g seat q frame owed k ≡ whole

-- one of them played
pub owing_less : {I : Type 0} (g : Setting I) (seat : Bool) (q : Inputs I) (from n next : ℕ) (whole : KeptStates) (frame owed next' : ℕ) (k : KeptStates) (owed'' next'' : ℕ) (k'' : KeptStates) → Owing g seat q from n next whole frame owed next' k → 0 < owed → from + n < next → owed'' ≡ owed - 1 → next'' ≡ max next' (frame + 2) → length k''.digests ≡ 32 → k'' ≡ frame_at g seat q frame k → Owing g seat q from n next whole (frame + 1) owed'' next'' k''
owing_less g seat q from n next whole frame owed next' k owed'' next'' k'' o some low e grown long'' step =
    let place = o.place in
    let start = o.start in
    let same = o.same in
    record {
      place = omega arith;
      start = omega arith;
      same = omega arith;
      long = long'';
      left = frames_more g seat q frame owed owed'' k k'' (omega arith) step ∙ o.left;
    }
