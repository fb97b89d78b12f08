-- Going back, where enough states are listed and where not.
use Rattle.std.proofs.Common.{◌≡◌, ℕ, ◌<◌, ◌≤◌, List, length, drop, Ok, Err, arith}
use Rattle.std.proofs.lemmas.Bool.Decides.{nat_tests}
use Rattle.interface.specs.declared.answers.Refusal.{Refusal}
use Rattle.interface.specs.declared.answers.Refusal.TheVariants.{OutOfReach}
use Rattle.interface.specs.declared.debt.Debt.{Debt}
use Rattle.interface.specs.Games.{State}
use Rattle.interface.specs.Keepers.{back_answer, back}

module _ (n : ℕ) (ss : List State) where
  pub back_reaches : (d : Debt) → d.owed ≡ n → n < length ss → Ok d ≡ back_answer n ss
  back_reaches d e h = grind (arith, nat_tests)

  pub back_drops : n < length ss → back n ss ≡ drop n ss
  back_drops h = grind (arith, nat_tests)

  pub back_refuses : length ss ≤ n → Err OutOfReach ≡ back_answer n ss
  back_refuses h = grind (arith, nat_tests)

  pub back_keeps : length ss ≤ n → back n ss ≡ ss
  back_keeps h = grind (arith, nat_tests)

  -- and back: what an answer tells
  pub reached_by : (d : Debt) → Ok d ≡ back_answer n ss → (d.owed ≡ n) × (n < length ss)
  reached_by d e = grind (arith, nat_tests)

  pub refused_by : (r : Refusal) → Err r ≡ back_answer n ss → (r ≡ OutOfReach) × (length ss ≤ n)
  refused_by r e = grind (arith, nat_tests)
