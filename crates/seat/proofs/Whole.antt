-- A whole take: the checks, the catching up, and the report.
use Rattle.std.proofs.Common.{◌≡◌, ℕ, ◌+◌, Bool, true, false, cond, ◌&&◌, leb, List, Some, None, Ok, Err, Option, Result, sym, refl, ap, ◌∙◌, arith}
use Rattle.interface.specs.Answers.{accepted, accepted_and_parted, acceptance_number, number_of}
use Rattle.interface.specs.declared.answers.Acceptance.{Acceptance}
use Rattle.interface.specs.declared.answers.Acceptance.TheVariants.{Accepted, AcceptedAndParted}
use Rattle.interface.specs.declared.answers.Refusal.{Refusal}
use Rattle.interface.specs.declared.answers.Refusal.TheVariants.{Parted}
use Rattle.frames.specs.Queue.{held}
use Rattle.datagram.specs.Fields.{Fields}
use Rattle.datagram.specs.Reading.{read_of}
use Rattle.plain.specs.Match.{answered, unless_refused}
use Rattle.rollback.specs.Inputs.{Setting}
use Rattle.seat.specs.Laws.{Replays, Refused}
use Rattle.seat.specs.Views.{View, inputs, rightly_lent}
use Rattle.seat.specs.Calls.{or_refused, and_then, fields_check, reach_check, frames_replayed, differs, report_differs, judged, caught, taken, read_check, read_checked, read_taken, read_replayed, take_checked, take_refusal, take_leaves, take_answer, acceptance, take_accepted}
use Rattle.seat.proofs.Checks.{or_ok, or_err, slots_given, each_whole}
use Rattle.seat.proofs.Replay.{replays_nothing, replays_frames, after_caught}

-- the number of a take that is accepted
acceptance_is : (b : Bool) → acceptance_number (acceptance b) ≡ cond b accepted_and_parted accepted
acceptance_is true = refl
acceptance_is false = refl

-- and it does not refuse
pub accepts : (how : Acceptance) (code : ℕ) → code ≡ acceptance_number how → Refused code → ⊥
accepts AcceptedAndParted code e refused = refused.1 e
accepts Accepted code e refused = refused.0 e

-- a view with other slots
abbrev pub lent : {I : Type 0} → View I → List I → List I → List ℕ → View I
lent v own others digests = record { seat = v.seat; match_number = v.match_number; played = v.played; known = v.known; acknowledged = v.acknowledged; parted = v.parted; states = v.states; own = own; others = others; digests = digests }

module _ {I : Type 0} (g : Setting I) (v : View I) (bytes : List ℕ) where
  read_err : (r : Result Fields Refusal) (why : Refusal) → Err why ≡ read_checked g v r → read_check g v r ≡ Some why
  read_err (Err w) why e = cc
  read_err (Ok d) why e = ap (λ o. and_then o (reach_check g v d)) (or_err (fields_check g v d) d why e)

  read_ok : (r : Result Fields Refusal) (d : Fields) → Ok d ≡ read_checked g v r → (r ≡ Ok d) × (fields_check g v d ≡ None)
  read_ok (Err w) d e = let z : ◌≡◌ {A = ℕ} 0 1 = cc in absurd (omega arith)
  read_ok (Ok x) d e = let p = or_ok (fields_check g v x) x d e in (ap Ok (sym p.1), ap (fields_check g v) p.1 ∙ p.0)

  checked_err : (why : Refusal) → Err why ≡ take_checked g v bytes → cond v.parted (Some Parted) (read_check g v (read_of bytes)) ≡ Some why
  checked_err why e = go v.parted e
    where
      go : (b : Bool) → Err why ≡ cond b (Err Parted) (read_checked g v (read_of bytes)) → cond b (Some Parted) (read_check g v (read_of bytes)) ≡ Some why
      go true r = cc
      go false r = read_err (read_of bytes) why r

  pub checked_ok : (d : Fields) → Ok d ≡ take_checked g v bytes → (v.parted ≡ false) × (read_of bytes ≡ Ok d) × (fields_check g v d ≡ None)
  checked_ok d e = go v.parted refl e
    where
      go : (b : Bool) → v.parted ≡ b → Ok d ≡ cond b (Err Parted) (read_checked g v (read_of bytes)) → (v.parted ≡ false) × (read_of bytes ≡ Ok d) × (fields_check g v d ≡ None)
      go true p r = let z : ◌≡◌ {A = ℕ} 0 1 = cc in absurd (omega arith)
      go false p r = let q = read_ok (read_of bytes) d r in (p, q.0, q.1)

  -- the checks, from those of the bytes and of the fields
  pub checks_told : (d : Fields) (o : Option Refusal) → v.parted ≡ false → Ok d ≡ read_of bytes → fields_check g v d ≡ o → or_refused o d ≡ take_checked g v bytes
  checks_told d o together read e = sym (ap (λ x. or_refused x d) e) ∙ ap (read_checked g v) read ∙ sym (ap (λ b. cond b (Err Parted) (read_checked g v (read_of bytes))) together)

  pub refused_leaves : (why : Refusal) → take_refusal g v bytes ≡ Some why → v ≡ take_leaves g v bytes
  refused_leaves why e = sym (ap (λ o. unless_refused o v (read_taken g v (read_of bytes))) e)

  -- the numbers that a take answers
  pub refused_answer : (why : Refusal) (n : ℕ) → Err why ≡ or_refused (take_refusal g v bytes) (take_accepted g v bytes) → n ≡ number_of why → (n, 0) ≡ take_answer g v bytes
  refused_answer why n e is =
      ap (λ x. (x, 0)) is ∙ sym (ap (λ o. unless_refused o (answered o, 0) (cond (take_leaves g v bytes).parted accepted_and_parted accepted, read_replayed g v (read_of bytes))) (or_err _ _ why e))

  pub accepted_answer : (how : Acceptance) (n frames : ℕ) → Ok (how, frames) ≡ or_refused (take_refusal g v bytes) (take_accepted g v bytes) → n ≡ acceptance_number how → (n, frames) ≡ take_answer g v bytes
  accepted_answer how n frames e is =
      let ok = or_ok _ _ (how, frames) e in
      let number : n ≡ cond (take_leaves g v bytes).parted accepted_and_parted accepted = is ∙ ap (λ x. acceptance_number x.0) ok.1 ∙ acceptance_is (take_leaves g v bytes).parted in
      (λ i. (number i, (ok.1 i).1)) ∙ sym (ap (λ o. unless_refused o (answered o, 0) (cond (take_leaves g v bytes).parted accepted_and_parted accepted, read_replayed g v (read_of bytes))) ok.0)

  -- a refused take replays nothing
  pub refused_replays : (why : Refusal) (w : View I) → Err why ≡ or_refused (take_refusal g v bytes) (take_accepted g v bytes) → w ≡ take_leaves g v bytes → Replays g v w 0
  refused_replays why w e left = replays_nothing g v w (sym (left ∙ sym (refused_leaves why (or_err _ _ why e))))

  module _ (given : rightly_lent v ≡ true) where
    -- a check before the keeper is asked
    pub refused_early : (why : Refusal) → Err why ≡ take_checked g v bytes → take_refusal g v bytes ≡ Some why
    refused_early why e = slots_given v _ given ∙ checked_err why e

    after_checks : (d : Fields) → Ok d ≡ take_checked g v bytes → take_refusal g v bytes ≡ reach_check g v d
    after_checks d e =
        let k = checked_ok d e in
        slots_given v _ given ∙ ap (λ b. cond b (Some Parted) (read_check g v (read_of bytes))) k.0 ∙ ap (read_check g v) k.1 ∙ ap (λ o. and_then o (reach_check g v d)) k.2

    -- the keeper cannot go back so far
    pub refused_late : (d : Fields) (why : Refusal) → Ok d ≡ take_checked g v bytes → Err why ≡ or_refused (reach_check g v d) (frames_replayed g v d) → take_refusal g v bytes ≡ Some why
    refused_late d why e late = after_checks d e ∙ or_err (reach_check g v d) (frames_replayed g v d) why late

    pub late_leaves : (d : Fields) (why : Refusal) (w : View I) → Ok d ≡ take_checked g v bytes → Err why ≡ or_refused (reach_check g v d) (frames_replayed g v d) → w ≡ unless_refused (reach_check g v d) v (caught g v d) → w ≡ take_leaves g v bytes
    late_leaves d why w e late left =
        left ∙ ap (λ o. unless_refused o v (caught g v d)) (or_err (reach_check g v d) (frames_replayed g v d) why late) ∙ refused_leaves why (refused_late d why e late)

    judged_caught : (d : Fields) (b : Bool) → b ≡ report_differs g v d (caught g v d).digests → judged (caught g v d) b ≡ taken g v d
    unfolding caught taken
    judged_caught d b e = ap (judged (caught g v d)) e

    caught_played : (d : Fields) → (caught g v d).played ≡ v.played
    unfolding caught
    caught_played d = refl

    -- an accepted take
    pub accepted_take : (d : Fields) (n : ℕ) (w : View I) (b : Bool) → Ok d ≡ take_checked g v bytes → Ok n ≡ or_refused (reach_check g v d) (frames_replayed g v d) → w ≡ unless_refused (reach_check g v d) v (caught g v d) → b ≡ report_differs g w d w.digests → (Ok (acceptance b, n) ≡ or_refused (take_refusal g v bytes) (take_accepted g v bytes)) × (judged w b ≡ take_leaves g v bytes)
    accepted_take d n w b e late left report =
        let ok = or_ok (reach_check g v d) (frames_replayed g v d) n late in
        let r = after_checks d e ∙ ok.0 in
        let k = checked_ok d e in
        let is : w ≡ caught g v d = left ∙ ap (λ o. unless_refused o v (caught g v d)) ok.0 in
        let same : report_differs g w d w.digests ≡ report_differs g v d (caught g v d).digests =
        ap (λ x. report_differs g x d x.digests) is ∙ ap (λ p. leb p (d.report_frame + 31) && differs (held (caught g v d).digests (p + 1) d.report_frame) d.digest) (caught_played d) in
        let whole : judged w b ≡ taken g v d = ap (λ x. judged x b) is ∙ judged_caught d b (report ∙ same) in
        let leaves : judged w b ≡ take_leaves g v bytes = whole ∙ sym (ap (read_taken g v) k.1) ∙ sym (ap (λ o. unless_refused o v (read_taken g v (read_of bytes))) r) in
        let frames : n ≡ read_replayed g v (read_of bytes) = ok.1 ∙ sym (ap (read_replayed g v) k.1) in (
          (λ i. Ok (acceptance (leaves i).parted, frames i)) ∙ sym (ap (λ o. or_refused o (take_accepted g v bytes)) r),
          leaves,
        )

    -- and the frames that it replays
    pub accepted_replays : (d : Fields) (n : ℕ) (w : View I) (b : Bool) → Ok n ≡ or_refused (reach_check g v d) (frames_replayed g v d) → w ≡ unless_refused (reach_check g v d) v (caught g v d) → Replays g v (judged w b) n
    accepted_replays d n w b late left =
        let ok = or_ok (reach_check g v d) (frames_replayed g v d) n late in
        let is : w ≡ caught g v d = left ∙ ap (λ o. unless_refused o v (caught g v d)) ok.0 in
        let a = after_caught g v d (each_whole v given).1 in
        replays_frames g v d (each_whole v given).1 (judged w b) n (record { fresh = ap inputs is ∙ a.fresh; acknowledged = ap (λ x. x.acknowledged) is ∙ a.acknowledged }) ok.1
