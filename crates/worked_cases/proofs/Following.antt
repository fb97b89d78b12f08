-- Steps of the loop over a script.
use Rattle.std.proofs.Common.{◌≡◌, ℕ, ◌+◌, ◌<◌, ◌≤◌, List, ◌∷◌, length, get_or, drop, sym, ap, ◌∙◌}
use Rattle.std.proofs.lemmas.List.{drop_all, drop_more}
use Rattle.interface.specs.Games.{State}
use Rattle.worked_cases.specs.Scripts.{moved, scripted}
use Rattle.worked_cases.specs.declared.keeper_scripts.Move.{Move}

-- one move of a script, and the end
pub scripted_more : {I : Type 0} (next : State → I → I → State) (ss after all : List State) (ms : List (Move I)) (k : ℕ) (m : Move I) → k < length ms → m ≡ get_or ms k m → after ≡ moved next m ss → scripted next ss (drop k ms) ≡ all → scripted next after (drop (k + 1) ms) ≡ all
scripted_more next ss after all ms k m h is step inv =
    let split : drop k ms ≡ m ∷ drop (k + 1) ms = drop_more ms k m h ∙ ap (λ x. x ∷ drop (k + 1) ms) (sym is) in
    ap (λ ts. scripted next ts (drop (k + 1) ms)) step ∙ sym (ap (scripted next ss) split) ∙ inv

pub scripted_all : {I : Type 0} (next : State → I → I → State) (ss all : List State) (ms : List (Move I)) (k : ℕ) → length ms ≤ k → scripted next ss (drop k ms) ≡ all → ss ≡ all
scripted_all next ss all ms k h inv = sym (ap (scripted next ss) (drop_all k ms h)) ∙ inv
