-- Sums over lists.
use Rattle.std.proofs.Common.{◌≡◌, ℕ, ◌+◌, Bool, true, false, cond, List, [], ◌∷◌, map, sum, refl, ap, ◌∙◌, arith}
use Rattle.std.specs.Bool.{beq}
use Rattle.std.specs.List.{filter, zip}
use Rattle.std.proofs.lemmas.List.Sums.{sum_by-cons}
use Rattle.play.specs.declared.turns.Told.{Told}
use Rattle.trace.specs.declared.forms.TraceTurn.{TraceTurn}
use Rattle.report.specs.Totals.{total}

abbrev pub frames : Told → ℕ
frames y = y.frames

-- the frames of the seat's turns, summed
module _ (s : Bool) where
  abbrev own : List TraceTurn → List Told → List (TraceTurn × Told)
  own ts ys = filter (λ (p : TraceTurn × Told). beq p.0.seat s) (zip ts ys)

  abbrev replayed : List (TraceTurn × Told) → ℕ
  replayed ps = sum (map (λ (p : TraceTurn × Told). p.1.frames) ps)

  pub total_is : (ts : List TraceTurn) (ys : List Told) → replayed (own ts ys) ≡ total s ts (map frames ys)
  total_is [] ys = refl
  total_is (t ∷ ts) [] = refl
  total_is (t ∷ ts) (y ∷ ys) = at (beq t.seat s) (total_is ts ys)
    where
      at : (b : Bool) → replayed (own ts ys) ≡ total s ts (map frames ys) → replayed (cond b ((t, y) ∷ own ts ys) (own ts ys)) ≡ cond b (frames y) 0 + total s ts (map frames ys)
      at true e = sum_by-cons (λ n. n) (frames y) (map (λ (p : TraceTurn × Told). p.1.frames) (own ts ys)) ∙ ap (λ n. frames y + n) e
      at false e = omega (arith, e)
