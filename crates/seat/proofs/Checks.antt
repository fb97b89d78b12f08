-- Checks one after another: what passing them tells.
use Rattle.std.proofs.Common.{◌≡◌, ℕ, Bool, true, false, cond, length, Some, None, Ok, Err, Option, sym, refl, ap, ◌∙◌, arith}
use Rattle.std.specs.Int.{from_bool}
use Rattle.std.proofs.lemmas.Bool.{and_parts, eqb-true}
use Rattle.interface.specs.Answers.{accepted, number_of}
use Rattle.interface.specs.declared.answers.Refusal.{Refusal}
use Rattle.interface.specs.declared.answers.Refusal.TheVariants.{BadFrame}
use Rattle.plain.specs.Match.{answered, unless_refused}
use Rattle.seat.specs.Views.{View, rightly_lent, seat_number}
use Rattle.seat.specs.Calls.{or_refused, with_slots}

-- a check that passed, and those after it
pub passes : (b : Bool) (why : Refusal) (o : Option Refusal) → cond b (Some why) o ≡ None → (b ≡ false) × (o ≡ None)
passes true why o e = let z : ◌≡◌ {A = ℕ} 0 1 = cc in absurd (omega arith)
passes false why o e = (refl, e)

pub or_ok : {X : Type 0} (o : Option Refusal) (x y : X) → Ok y ≡ or_refused o x → (o ≡ None) × (y ≡ x)
or_ok None x y e = (refl, cc)
or_ok (Some why) x y e = let z : ◌≡◌ {A = ℕ} 0 1 = cc in absurd (omega arith)

pub or_err : {X : Type 0} (o : Option Refusal) (x : X) (why : Refusal) → Err why ≡ or_refused o x → o ≡ Some why
or_err None x why e = let z : ◌≡◌ {A = ℕ} 0 1 = cc in absurd (omega arith)
or_err (Some w) x why e = cc

module _ {I : Type 0} (v : View I) where
  pub slots_given : (o : Option Refusal) → rightly_lent v ≡ true → with_slots v o ≡ o
  slots_given o e = ap (λ b. cond b o (Some BadFrame)) e

  pub slots_wrong : (o : Option Refusal) → rightly_lent v ≡ false → with_slots v o ≡ Some BadFrame
  slots_wrong o e = ap (λ b. cond b o (Some BadFrame)) e

  -- the three numbers of slots
  pub each_whole : rightly_lent v ≡ true → (length v.own ≡ 32) × (length v.others ≡ 32) × (length v.digests ≡ 32)
  each_whole e =
      let p = and_parts _ _ e in
      let q = and_parts _ _ p.0 in
      (eqb-true _ 32 q.0, eqb-true _ 32 q.1, eqb-true _ 32 p.1)

pub answered_by : (o : Option Refusal) (why : Refusal) (n : ℕ) → o ≡ Some why → n ≡ number_of why → n ≡ answered o
answered_by o why n e is = is ∙ sym (ap answered e)

pub accepted_by : (o : Option Refusal) → o ≡ None → accepted ≡ answered o
accepted_by o e = sym (ap answered e)

pub kept_by : {X : Type 0} (o : Option Refusal) (why : Refusal) (old new : X) → o ≡ Some why → old ≡ unless_refused o old new
kept_by o why old new e = sym (ap (λ p. unless_refused p old new) e)

pub changed_by : {X : Type 0} (o : Option Refusal) (old new : X) → o ≡ None → new ≡ unless_refused o old new
changed_by o old new e = sym (ap (λ p. unless_refused p old new) e)

-- a seat's number, as a byte
pub seat_is : (s : Bool) → from_bool s ≡ seat_number s
seat_is true = refl
seat_is false = refl
