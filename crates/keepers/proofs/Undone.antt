-- Going back by trails.
use Rattle.std.proofs.Common.{◌≡◌, ℕ, ◌+◌, true, false, List, [], ◌∷◌, length, drop, is_ok, Some, None, Option, Result, sym, refl, ap, ◌∙◌, arith, length-drop}
use Rattle.std.specs.List.{slice_get}
use Rattle.std.proofs.lemmas.Bool.{true≢false, false≢true}
use Rattle.std.proofs.lemmas.List.{drop_all, drop-drop}
use Rattle.std.proofs.lemmas.Option.{slice_get_cases}
use Rattle.interface.proofs.Places.{drop_from_slice_get}
use Rattle.interface.specs.Games.{State, or_unlawful, or_kept}
use Rattle.interface.specs.declared.answers.Refusal.{Refusal}
use Rattle.keepers.specs.Keeping.{reached}

-- one more is dropped
pub tail_drop : (ss : List State) (k : ℕ) (s : State) (rest : List State) → drop k ss ≡ s ∷ rest → drop (k + 1) ss ≡ rest
tail_drop ss k s rest e = sym (drop-drop 1 k ss) ∙ ap (drop 1) e

-- where the newest alone is left, one more is listed than was dropped
pub last_left : (ss : List State) (k : ℕ) (s : State) → drop k ss ≡ s ∷ [] → length ss ≡ k + 1
last_left ss k s e = let l = length-drop k ss in let one : length (drop k ss) ≡ 1 = ap length e in omega arith

module _ (undone : State → List ℕ → Option State) where
  -- one trail leads on
  pub reached_more : (s : State) (ts : List (List ℕ)) (k : ℕ) (t : List ℕ) (o : Option State) → slice_get ts k ≡ Some t → undone s t ≡ o → reached undone (Some s) (drop k ts) ≡ s ∷ reached undone o (drop (k + 1) ts)
  reached_more s ts k t o e u = ap (reached undone (Some s)) (drop_from_slice_get ts k t e) ∙ ap (λ p. s ∷ reached undone p (drop (k + 1) ts)) u

  -- with k undone and the rest still to be reached: no trail is left, or the next fails
  pub stuck_none : (ss : List State) (s : State) (ts : List (List ℕ)) (k : ℕ) → reached undone (Some s) (drop k ts) ≡ drop k ss → slice_get ts k ≡ None → length ss ≡ k + 1
  stuck_none ss s ts k inv e = last_left ss k s (sym inv ∙ ap (reached undone (Some s)) (drop_all k ts (grind (arith, slice_get_cases))))

  pub stuck_failed : (ss : List State) (s : State) (ts : List (List ℕ)) (k : ℕ) (t : List ℕ) → reached undone (Some s) (drop k ts) ≡ drop k ss → slice_get ts k ≡ Some t → undone s t ≡ None → length ss ≡ k + 1
  stuck_failed ss s ts k t inv e u = last_left ss k s (sym inv ∙ reached_more s ts k t None e u)

  -- or one more is undone
  pub undone_more : (ss : List State) (s p : State) (ts : List (List ℕ)) (k : ℕ) (t : List ℕ) → reached undone (Some s) (drop k ts) ≡ drop k ss → slice_get ts k ≡ Some t → undone s t ≡ Some p → reached undone (Some p) (drop (k + 1) ts) ≡ drop (k + 1) ss
  undone_more ss s p ts k t inv e u = sym (tail_drop ss k s _ (sym inv ∙ reached_more s ts k t (Some p) e u))

-- what an undo says of the state that it was to lead to
pub undo_failed : (o : Option State) (r : Result (Unit {0}) Refusal) → r ≡ or_unlawful o → is_ok r ≡ false → o ≡ None
undo_failed None r e h = refl
undo_failed (Some s) r e h = absurd (false≢true (sym h ∙ ap is_ok e))

pub undo_done : (o : Option State) (r : Result (Unit {0}) Refusal) (old new : State) → r ≡ or_unlawful o → is_ok r ≡ true → new ≡ or_kept o old → o ≡ Some new
undo_done None r old new e h k = absurd (true≢false (sym h ∙ ap is_ok e))
undo_done (Some s) r old new e h k = ap Some (sym k)
