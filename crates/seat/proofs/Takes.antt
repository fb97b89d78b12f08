-- A take, from the calls that make it.
use Rattle.std.proofs.Common.{◌≡◌, ℕ, ◌+◌, ◌-◌, ◌≤◌, max, Bool, true, false, cond, not, ◌&&◌, ◌||◌, ltb, List, length, drop, Some, None, Ok, Err, Option, sym, refl, ap, ◌∙◌, arith}
use Rattle.std.proofs.lemmas.Bool.{not-false, not_from_true, or_from, or_parts, eq-eqb, eqb-true, ltb-false, le-ltb}
use Rattle.std.proofs.lemmas.Bool.Decides.{nat_tests}
use Rattle.interface.specs.Games.{State}
use Rattle.interface.specs.Keepers.{back_answer, back}
use Rattle.interface.specs.declared.answers.Refusal.{Refusal}
use Rattle.interface.specs.declared.answers.Refusal.TheVariants.{NotOurs, UnreadCode, StartTooLate, EndTooLate, AcknowledgementTooLate, ReportTooLate, OutOfReach}
use Rattle.interface.specs.declared.debt.Debt.{Debt}
use Rattle.datagram.specs.Fields.{Fields}
use Rattle.plain.specs.Match.{unless_refused}
use Rattle.rollback.specs.Inputs.{Setting, Inputs}
use Rattle.rollback.specs.Replay.{kept_states, frames_from}
use Rattle.seat.specs.Views.{View, seat_number}
use Rattle.seat.specs.Calls.{all_read, end_of, not_ours, fields_check, fresh_inputs, frames_replayed, reach_check, caught}
use Rattle.seat.proofs.Checks.{passes, kept_by}

-- a keeper that went back
pub back_ok : (n : ℕ) (ss : List State) (debt : Debt) → back_answer n ss ≡ Ok debt → (ltb n (length ss) ≡ true) × (debt.owed ≡ n)
back_ok n ss debt e = go (ltb n (length ss)) refl e
  where
    go : (b : Bool) → ltb n (length ss) ≡ b → cond b (Ok (record { owed = n })) (Err OutOfReach) ≡ Ok debt → (ltb n (length ss) ≡ true) × (debt.owed ≡ n)
    go true p r = (p, let same : record { owed = n } ≡ debt = cc in ap (λ x. x.owed) (sym same))
    go false p r = let z : ◌≡◌ {A = ℕ} 0 1 = cc in absurd (omega arith)

pub back_drops : (n : ℕ) (ss ss' : List State) → ltb n (length ss) ≡ true → ss' ≡ back n ss → ss' ≡ drop n ss
back_drops n ss ss' e b = b ∙ ap (λ t. cond t (drop n ss) ss) e

module _ {I : Type 0} (g : Setting I) (v : View I) (d : Fields) where
  abbrev with_others : List I → ℕ → Inputs I
  with_others others known = record { own = v.own; played = v.played; others = others; known = known }

  abbrev view_with : List I → ℕ → ℕ → List State → List ℕ → View I
  view_with others known acknowledged ss ds = record { seat = v.seat; match_number = v.match_number; played = v.played; known = known; acknowledged = acknowledged; parted = v.parted; states = ss; own = v.own; others = others; digests = ds }

  pub caught_is : (n from owed : ℕ) (others : List I) (known acknowledged : ℕ) (ss₀ ss : List State) (ds : List ℕ) → n ≡ frames_replayed g v d → from ≡ v.played - n → owed ≡ n → others ≡ (fresh_inputs g v d).others → known ≡ (fresh_inputs g v d).known → acknowledged ≡ max v.acknowledged d.acknowledgement → ss₀ ≡ drop n v.states → kept_states ss ds ≡ frames_from g v.seat (with_others others known) from owed (kept_states ss₀ v.digests) → view_with others known acknowledged ss ds ≡ caught g v d
  unfolding caught
  caught_is n from owed others known acknowledged ss₀ ss ds is begins owes o k a back played =
      let count : owed ≡ frames_replayed g v d = owes ∙ is in
      let place : from ≡ v.played - frames_replayed g v d = begins ∙ ap (λ m. v.played - m) is in
      let states : ss₀ ≡ drop (frames_replayed g v d) v.states = back ∙ ap (λ m. drop m v.states) is in
      let r = played ∙ (λ i. frames_from g v.seat (with_others (o i) (k i)) (place i) (count i) (kept_states (states i) v.digests)) in
      λ i. view_with (o i) (k i) (a i) (r i).states (r i).digests

  pub reached : (n : ℕ) → n ≡ frames_replayed g v d → ltb n (length v.states) ≡ true → reach_check g v d ≡ None
  reached n is e = ap (λ b. cond b None (Some OutOfReach)) (ap (λ m. ltb m (length v.states)) (sym is) ∙ e)

  pub unreached : (n : ℕ) → n ≡ frames_replayed g v d → length v.states ≤ n → reach_check g v d ≡ Some OutOfReach
  unreached n is short = ap (λ b. cond b None (Some OutOfReach)) (ap (λ m. ltb m (length v.states)) (sym is) ∙ le-ltb n (length v.states) short)

  -- a keeper that did not go back
  pub as_before : (ss : List State) (why : Refusal) → ss ≡ v.states → reach_check g v d ≡ Some why → view_with v.others v.known v.acknowledged ss v.digests ≡ unless_refused (reach_check g v d) v (caught g v d)
  as_before ss why same refused = ap (λ x. view_with v.others v.known v.acknowledged x v.digests) same ∙ kept_by (reach_check g v d) why v (caught g v d) refused

  -- the facts that let a datagram's fields pass
  pub record Passing : Type 0 where
    pub this_match : d.match_number ≡ v.match_number
    pub other_seat : d.sender ≡ seat_number (not v.seat)
    pub codes_read : all_read g.reads d.codes ≡ true
    pub starts : d.start ≤ v.known
    pub ends_near : end_of d ≤ v.played + 8
    pub ends_within : end_of d ≤ 60000
    pub acknowledges : d.acknowledgement ≤ v.played
    pub reports : d.report_frame ≤ v.played
    pub confirms : (ltb v.known d.report_frame && ltb (end_of d) d.report_frame) ≡ false

  skip : (b : Bool) (why : Refusal) (o : Option Refusal) → b ≡ false → cond b (Some why) o ≡ o
  skip b why o e = ap (λ t. cond t (Some why) o) e

  pub pass : Passing → fields_check g v d ≡ None
  pass p =
      skip (not_ours g v d) NotOurs _ (or_from _ _ (not_from_true _ (eq-eqb _ _ p.this_match)) (not_from_true _ (eq-eqb _ _ p.other_seat)))
      ∙ skip (not (all_read g.reads d.codes)) UnreadCode _ (not_from_true _ p.codes_read)
      ∙ skip (ltb v.known d.start) StartTooLate _ (le-ltb _ _ p.starts)
      ∙ skip (ltb (v.played + 8) (end_of d) || ltb 60000 (end_of d)) EndTooLate _ (or_from _ _ (le-ltb _ _ p.ends_near) (le-ltb _ _ p.ends_within))
      ∙ skip (ltb v.played d.acknowledgement) AcknowledgementTooLate _ (le-ltb _ _ p.acknowledges)
      ∙ skip (ltb v.played d.report_frame || (ltb v.known d.report_frame && ltb (end_of d) d.report_frame)) ReportTooLate None (or_from _ _ (le-ltb _ _ p.reports) p.confirms)

  pub passed : fields_check g v d ≡ None → Passing
  passed e =
      let a = passes (not_ours g v d) NotOurs _ e in
      let b = passes (not (all_read g.reads d.codes)) UnreadCode _ a.1 in
      let c = passes (ltb v.known d.start) StartTooLate _ b.1 in
      let f = passes (ltb (v.played + 8) (end_of d) || ltb 60000 (end_of d)) EndTooLate _ c.1 in
      let h = passes (ltb v.played d.acknowledgement) AcknowledgementTooLate _ f.1 in
      let i = passes (ltb v.played d.report_frame || (ltb v.known d.report_frame && ltb (end_of d) d.report_frame)) ReportTooLate None h.1 in
      let ours = or_parts _ _ a.0 in
      let ends = or_parts _ _ f.0 in
      let report = or_parts _ _ i.0 in
      record {
        this_match = eqb-true _ _ (not-false _ ours.0);
        other_seat = eqb-true _ _ (not-false _ ours.1);
        codes_read = not-false _ b.0;
        starts = ltb-false _ _ c.0;
        ends_near = ltb-false _ _ ends.0;
        ends_within = ltb-false _ _ ends.1;
        acknowledges = ltb-false _ _ h.0;
        reports = ltb-false _ _ report.0;
        confirms = report.1;
      }

-- a report that is above at most one of two frames
pub confirms_from : (known end report : ℕ) → report ≤ max known end → (ltb known report && ltb end report) ≡ false
confirms_from known end report h = grind (arith, nat_tests)
