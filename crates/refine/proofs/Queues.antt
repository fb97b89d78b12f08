-- What a queue holds, as frames are put.
use Rattle.std.proofs.Common.{◌≡◌, ℕ, ◌+◌, ◌%◌, ◌<◌, ◌≤◌, List, length, set, Some, unwrap_or, sym, ap, ◌∙◌, arith, length-set}
use Rattle.std.specs.List.{slice_get}
use Rattle.std.proofs.lemmas.Bool.Decides.{nat_tests}
use Rattle.std.proofs.lemmas.Grind.{common_steps}
use Rattle.std.proofs.lemmas.Option.{gets}
use Rattle.frames.specs.Queue.{held}
use Rattle.rollback.specs.Inputs.{put_all}
use Rattle.rollback.proofs.Fresh.{put_all_long, put_all_before, put_all_new, held_is}
use Rattle.refine.specs.Standing.{Holds}

module _ {T : Type 0} where
  pub held_slice_get : (slots : List T) (next k : ℕ) → length slots ≡ 32 → k < next → next ≤ k + 32 → held slots next k ≡ slice_get slots (k % 32)
  held_slice_get slots next k long low near = grind (arith, nat_tests)

  -- slots in which the frames below n, of the 32 before top, have their values
  pub record Upto (slots : List T) (top n : ℕ) (f : ℕ → T) : Type 0 where
    pub long : length slots ≡ 32
    pub at : (k : ℕ) → k < n → top ≤ k + 32 → slice_get slots (k % 32) ≡ Some (f k)

  pub upto_holds : (slots : List T) (n : ℕ) (f : ℕ → T) → Upto slots n n f → Holds slots n f
  upto_holds slots n f u = record { whole = u.long; values = λ k low near. held_is slots n k (f k) u.long low near (u.at k low near) }

  -- what holds, of fewer frames and of a later function that agrees on them
  pub holds_upto : (slots : List T) (next top n : ℕ) (f f' : ℕ → T) → next ≤ top → n ≤ next → ((k : ℕ) → k < n → f' k ≡ f k) → Holds slots next f → Upto slots top n f'
  holds_upto slots next top n f f' up few same h =
      let long = h.whole in
      record {
        long = h.whole;
        at = λ k low near. sym (held_slice_get slots next k long (omega arith) (omega arith)) ∙ h.values k (omega arith) (omega arith) ∙ ap Some (sym (same k low));
      }

  pub holds_same : (slots : List T) (next : ℕ) (f f' : ℕ → T) → ((k : ℕ) → k < next → f' k ≡ f k) → Holds slots next f → Holds slots next f'
  holds_same slots next f f' same h = record { whole = h.whole; values = λ k low near. h.values k low near ∙ ap Some (sym (same k low)) }

  -- the next of them put
  pub upto_put : (slots : List T) (top n : ℕ) (f : ℕ → T) (x : T) → n < top → x ≡ f n → Upto slots top n f → Upto (set slots (n % 32) x) top (n + 1) f
  upto_put slots top n f x below is u =
      let long = u.long in
      let same = length-set slots (n % 32) x in
      record {
        long = omega arith;
        at = λ k low near.
            let old = u.at k in
            grind (arith, common_steps, gets);
      }

  -- and n of them, from the next on
  pub holds_put_all : (slots : List T) (next n : ℕ) (f f' : ℕ → T) → n ≤ 32 → ((k : ℕ) → k < next → f' k ≡ f k) → (g : ℕ → T) → ((k : ℕ) → next ≤ k → k < next + n → g k ≡ f' k) → Holds slots next f → Holds (put_all slots next n g) (next + n) f'
  holds_put_all slots next n f f' few same g new h =
      let long = h.whole in
      let old = holds_upto slots next next next f f' (omega arith) (omega arith) same h in
      let longer = put_all_long g slots next n ∙ long in
      upto_holds (put_all slots next n g) (next + n) f'
      (record {
        long = longer;
        at = λ k low near.
            let before = put_all_before g slots next n k in
            let after = put_all_new g slots next n k long few in
            let kept = old.at k in
            grind (arith, new k);
      })

  -- what is held is read
  pub holds_reads : (slots : List T) (next k : ℕ) (f : ℕ → T) (d : T) → k < next → next ≤ k + 32 → Holds slots next f → unwrap_or (held slots next k) d ≡ f k
  holds_reads slots next k f d low near h = ap (λ o. unwrap_or o d) (h.values k low near)
