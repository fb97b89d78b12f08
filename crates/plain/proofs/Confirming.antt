-- Confirmed states are the truth, so they stay, and the seats agree on them.
use Rattle.std.proofs.Common.{◌≡◌, ℕ, ◌≤◌, Bool, true, false, List, ◌++◌, sym, ◌∙◌, arith}
use Rattle.plain.specs.Rules.{Rules}
use Rattle.plain.specs.Match.{Plain, Turn, played, confirmed, run}
use Rattle.plain.specs.States.{plain_state, truth}
use Rattle.plain.specs.Laws.{Counts, ConfirmedLaws}
use Rattle.plain.proofs.Growth.{Grown, run_grows}
use Rattle.plain.proofs.Counting.{sound}
use Rattle.plain.proofs.Walks.{known_is_true, truth_stays, listed_is}

module _ {I : Type 0} where
  -- both seats have played what one has confirmed
  pub both_played : (p : Plain I) → ((t : Bool) → Counts p t) → (s : Bool) (n : ℕ) → n ≤ confirmed p s → (n ≤ played p false) × (n ≤ played p true)
  both_played p h s n c = grind (arith, h true, h false)

  pub confirmed_grows : (p q : Plain I) → Grown p q → (s : Bool) → confirmed p s ≤ confirmed q s
  confirmed_grows p q g s = omega (arith, g.sides s)

module _ {S I : Type 0} (r : Rules S I) where
  pub confirmed_is_true : (p : Plain I) (s : Bool) (n : ℕ) → n ≤ confirmed p s → plain_state r p s n ≡ truth r p n
  confirmed_is_true p s n c = known_is_true r p s n (omega arith)

  pub confirmed_agree : (ts more : List Turn) (s t : Bool) (n : ℕ) → n ≤ confirmed (run r ts) s → n ≤ confirmed (run r (ts ++ more)) t → plain_state r (run r ts) s n ≡ plain_state r (run r (ts ++ more)) t n
  confirmed_agree ts more s t n a b =
      let p = run r ts in
      let q = run r (ts ++ more) in
      let both = both_played p (sound r ts).counts s n a in
      confirmed_is_true p s n a ∙ sym (truth_stays r p q (run_grows r ts more) n both.0 both.1) ∙ sym (confirmed_is_true q t n b)

  pub confirmed_hold : (ts more : List Turn) → ConfirmedLaws r (run r ts) (run r (ts ++ more))
  confirmed_hold ts more =
      let p = run r ts in
      let q = run r (ts ++ more) in
      let stays = confirmed_grows p q (run_grows r ts more) in
      record {
        is_the_truth = confirmed_is_true p;
        stays_confirmed = stays;
        never_changes = λ s n c. let h = stays s in sym (confirmed_agree ts more s s n c (omega arith));
        all_agree = confirmed_agree ts more;
        lists_agree = λ s t n x y a b lx ly. listed_is r p s n x lx ∙ confirmed_agree ts more s t n a b ∙ sym (listed_is r q t n y ly);
      }
