-- Going back and replaying, where enough states are listed and where not.
use Rattle.std.proofs.Common.{◌≡◌, ℕ, zero, suc, ◌-◌, ◌<◌, ◌≤◌, ltb, List, length, drop, Ok, Result, sym, ap, ◌∙◌, arith}
use Rattle.std.proofs.lemmas.Bool.{cond-true, lt-ltb}
use Rattle.interface.specs.declared.answers.Refusal.{Refusal}
use Rattle.interface.specs.Games.{State}
use Rattle.interface.specs.Keepers.{advanced, replayed}
use Rattle.interface.proofs.Replays.{replayed_reach, replayed_again}
use Rattle.keepers.specs.Replaying.{redo_answer, redone, repeated, SameAgain}

pub redo_reaches : (n : ℕ) (ss : List State) → n < length ss → redo_answer n ss ≡ Ok tt
redo_reaches n ss h = cond-true (ltb n (length ss)) _ _ (lt-ltb n (length ss) h)

module _ {I : Type 0} (next : State → I → I → State) (ps : List (I × I)) (ss : List State) where
  pub redone_replays : length ps < length ss → redone next ps ss ≡ replayed next (drop (length ps) ss) ps
  redone_replays h = cond-true (ltb (length ps) (length ss)) _ _ (lt-ltb (length ps) (length ss) h)

  -- with the inputs that the frames had, nothing changes
  pub same_again : (r : Result (Unit {0}) Refusal) (after : List State) → r ≡ redo_answer (length ps) ss → after ≡ redone next ps ss → SameAgain next ps ss r after
  same_again r after e f before some few short was =
      let eight : length ps ≤ 8 = omega arith in
      let reach : length ps < length ss = rw was (replayed_reach next before ps some few eight) in
      (e ∙ redo_reaches (length ps) ss reach, f ∙ redone_replays reach ∙ ap (λ ts. replayed next (drop (length ps) ts) ps) was ∙ replayed_again next before ps some few eight ∙ sym was)

-- one frame of a debt
pub paid_one : {I : Type 0} (next : State → I → I → State) (n m : ℕ) (a b : I) (ss ts all : List State) → 0 < n → m ≡ n - 1 → ts ≡ advanced next ss a b → repeated next n a b ss ≡ all → repeated next m a b ts ≡ all
paid_one next zero m a b ss ts all some e step inv = absurd (omega arith)
paid_one next (suc k) m a b ss ts all some e step inv =
    let less : m ≡ k = omega arith in
    ap (λ j. repeated next j a b ts) less ∙ ap (repeated next k a b) step ∙ inv
