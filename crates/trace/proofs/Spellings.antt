-- What is known of a line from what it was read as.
use Rattle.std.proofs.Common.{◌≡◌, ℕ, ◌+◌, ◌^◌, ◌<◌, ◌≤◌, Bool, true, false, cond, ◌&&◌, ◌⊎◌, List, [], ◌∷◌, map, length, Some, None, Ok, Err, codes, decimal, Option, Result, sym, refl, ap, ◌∙◌, subst, inl, inr, ⊎_elim, arith}
use Rattle.std.proofs.lemmas.Bool.{and_parts}
use Rattle.std.proofs.lemmas.List.Splits.{join_with_byte-slice_split}
use Rattle.std.proofs.lemmas.List.{length-append}
use Rattle.trace.specs.declared.forms.GameName.{GameName}
use Rattle.trace.specs.declared.forms.GameName.TheVariants.{Duel, Speed}
use Rattle.trace.specs.declared.forms.First.{First}
use Rattle.trace.specs.declared.forms.TraceTurn.{TraceTurn}
use Rattle.trace.specs.declared.forms.TraceCall.{TraceCall}
use Rattle.trace.specs.declared.forms.TraceCall.TheVariants.{Press, Send, Take}
use Rattle.trace.specs.declared.line.Mistake.{Mistake}
use Rattle.trace.specs.declared.line.Mistake.TheVariants.{Misshapen, BadNumber}
use Rattle.trace.specs.Pieces.{Piece, space, pieces, placed, joined_by}
use Rattle.trace.specs.Numbers.{most_16, most_32, number}
use Rattle.trace.specs.Tokens.{lexeme, words, place, says, number_in, seat_in, short_in}
use Rattle.trace.specs.Lines.{Verdict, both, seat_and_number, calls, sends, verdict_of, verdict, game_in, first_by, first_of}
use Rattle.trace.specs.Writing.{game_word, seat_word, call_words, first_words, turn_words, line_of}
use Rattle.trace.specs.Laws.{CallFits, TurnFits, FirstFits}
use Rattle.trace.proofs.Verdicts.{places, says_it, number_is, seat_is}

-- what the tests of a line tell, by its number of words

two_tells : (a : Bool) (x v : Verdict) → cond a x (Err Misshapen) ≡ v → (v ≡ Err Misshapen) ⊎ ((a ≡ true) × (v ≡ x))
two_tells true x v e = inr (refl, sym e)
two_tells false x v e = inl (sym e)

three_tells : (a b : Bool) (x y v : Verdict) → cond a x (cond b y (Err Misshapen)) ≡ v → (v ≡ Err Misshapen) ⊎ (((a ≡ true) × (v ≡ x)) ⊎ ((b ≡ true) × (v ≡ y)))
three_tells true b x y v e = inr (inl (refl, sym e))
three_tells false true x y v e = inr (inr (refl, sym e))
three_tells false false x y v e = inl (sym e)

-- what a turn with a number tells of its words
pub record Numbered (call : ℕ → TraceCall) (os : Option Bool) (on : Option ℕ) (t : TraceTurn) : Type 0 where
  pub number : ℕ
  pub seat_found : os ≡ Some t.seat
  pub number_found : on ≡ Some number
  pub call_is : t.call ≡ call number

numbered : (call : ℕ → TraceCall) (i j : ℕ) (os : Option Bool) (on : Option ℕ) (t : TraceTurn) → Ok (Some t) ≡ calls call (both i os j on) → Numbered call os on t
numbered call i j None on t e = cc
numbered call i j (Some s) None t e = cc
numbered call i j (Some s) (Some n) t e =
    let same : t ≡ record { seat = s; call = call n } = cc in
    record { number = n; seat_found = ap (λ (u : TraceTurn). Some u.seat) (sym same); number_found = refl; call_is = ap (λ (u : TraceTurn). u.call) same }

sent : (i : ℕ) (os : Option Bool) (t : TraceTurn) → Ok (Some t) ≡ sends i os → (os ≡ Some t.seat) × (t.call ≡ Send)
sent i None t e = cc
sent i (Some s) t e =
    let same : t ≡ record { seat = s; call = Send } = cc in
    (ap (λ (u : TraceTurn). Some u.seat) (sym same), ap (λ (u : TraceTurn). u.call) same)

-- a turn that the words say
pub record Written (ws : List (List ℕ)) (t : TraceTurn) : Type 0 where
  pub line : joined_by space ws ≡ line_of (turn_words t)
  pub fits : TurnFits t

three_written : (word : List ℕ) (call : ℕ → TraceCall) (at : ℕ) (w s m : List ℕ) (t : TraceTurn) → ((s' m' : List ℕ) (n : ℕ) → call_words s' (call n) ≡ word ∷ s' ∷ decimal n ∷ []) → ((n : ℕ) → n < 2 ^ 16 → CallFits (call n)) → (p q r : Piece) → p.bytes ≡ w → q.bytes ≡ s → r.bytes ≡ m → says word (lexeme p) ≡ true → Ok (Some t) ≡ calls call (seat_and_number (lexeme q) (lexeme r)) → Written (w ∷ s ∷ m ∷ []) t
three_written word call at w s m t form fit p q r ep eq er said e =
    let x = numbered call (place (lexeme q)) (place (lexeme r)) (seat_in (lexeme q)) (short_in (lexeme r)) t e in
    let first = sym ep ∙ says_it word p said in
    let second = sym eq ∙ seat_is t.seat q x.seat_found in
    let third = number_is most_16 x.number r x.number_found in
    record {
      line = ap (λ y. joined_by space (y ∷ s ∷ m ∷ [])) first ∙ ap (λ y. joined_by space (word ∷ y ∷ m ∷ [])) second ∙ ap (λ y. joined_by space (word ∷ seat_word t.seat ∷ y ∷ [])) (sym er ∙ third.0) ∙ ap (joined_by space) (sym (form (seat_word t.seat) m x.number)) ∙ ap (λ y. line_of (call_words (seat_word t.seat) y)) (sym x.call_is);
      fits = subst CallFits (sym x.call_is) (fit x.number (omega (arith, third.1)));
    }

two_written : (w s : List ℕ) (t : TraceTurn) (p q : Piece) → p.bytes ≡ w → q.bytes ≡ s → says (codes "send") (lexeme p) ≡ true → Ok (Some t) ≡ sends (place (lexeme q)) (seat_in (lexeme q)) → Written (w ∷ s ∷ []) t
two_written w s t p q ep eq said e =
    let x = sent (place (lexeme q)) (seat_in (lexeme q)) t e in
    let first = sym ep ∙ says_it (codes "send") p said in
    let second = sym eq ∙ seat_is t.seat q x.0 in
    record {
      line = ap (λ y. joined_by space (y ∷ s ∷ [])) first ∙ ap (λ y. joined_by space (codes "send" ∷ y ∷ [])) second ∙ ap (λ y. line_of (call_words (seat_word t.seat) y)) (sym x.1);
      fits = subst CallFits (sym x.1) tt;
    }

turn_written : (at : ℕ) (ws : List (List ℕ)) (t : TraceTurn) → verdict_of (map lexeme (placed at ws)) ≡ Ok (Some t) → Written ws t
turn_written at [] t e = cc
turn_written at (w ∷ []) t e =
    ⊎_elim (λ h. cc) (λ h. cc h.1) (two_tells (says (codes "end") (lexeme (record { bytes = w; at = at }))) (Ok None) (Ok (Some t)) e)
turn_written at (w ∷ s ∷ []) t e =
    let p : Piece = record { bytes = w; at = at } in
    let q : Piece = record { bytes = s; at = at + length w + 1 } in
    ⊎_elim (λ h. cc) (λ h. two_written w s t p q refl refl h.0 h.1) (two_tells (says (codes "send") (lexeme p)) (sends (place (lexeme q)) (seat_in (lexeme q))) (Ok (Some t)) e)
turn_written at (w ∷ s ∷ m ∷ []) t e =
    let p : Piece = record { bytes = w; at = at } in
    let q : Piece = record { bytes = s; at = at + length w + 1 } in
    let r : Piece = record { bytes = m; at = at + length w + 1 + length s + 1 } in
    let x = seat_and_number (lexeme q) (lexeme r) in
    ⊎_elim (λ h. cc)
    (λ h. ⊎_elim
    (λ k. three_written (codes "press") Press at w s m t (λ s' m' n. refl) (λ n small. small) p q r refl refl refl k.0 k.1)
    (λ k. three_written (codes "take") Take at w s m t (λ s' m' n. refl) (λ n small. small) p q r refl refl refl k.0 k.1)
    h)
    (three_tells (says (codes "press") (lexeme p)) (says (codes "take") (lexeme p)) (calls Press x) (calls Take x) (Ok (Some t)) e)
turn_written at (w ∷ s ∷ m ∷ x ∷ ws) t e = cc

-- a line that is read as a turn is the line of that turn
pub turn_line : (at : ℕ) (l : List ℕ) (t : TraceTurn) → verdict (record { bytes = l; at = at }) ≡ Ok (Some t) → (l ≡ line_of (turn_words t)) × TurnFits t
turn_line at l t e =
    let x = turn_written at (pieces space l) t e in
    (sym (join_with_byte-slice_split space l) ∙ x.line, x.fits)

-- neither a send nor a turn with numbers is `end`
sends_no_end : {X : Type 0} (i : ℕ) (os : Option Bool) → Ok None ≡ sends i os → X
sends_no_end i None e = cc
sends_no_end i (Some s) e = cc

calls_no_end : {X : Type 0} (call : ℕ → TraceCall) (x : Result (Bool × ℕ) Mistake) → Ok None ≡ calls call x → X
calls_no_end call (Ok x) e = cc
calls_no_end call (Err i) e = cc

end_written : (at : ℕ) (ws : List (List ℕ)) → verdict_of (map lexeme (placed at ws)) ≡ Ok None → joined_by space ws ≡ codes "end"
end_written at [] e = cc
end_written at (w ∷ []) e =
    let p : Piece = record { bytes = w; at = at } in
    ⊎_elim (λ h. cc) (λ h. says_it (codes "end") p h.0) (two_tells (says (codes "end") (lexeme p)) (Ok None) (Ok None) e)
end_written at (w ∷ s ∷ []) e =
    let p : Piece = record { bytes = w; at = at } in
    let q : Piece = record { bytes = s; at = at + length w + 1 } in
    ⊎_elim (λ h. cc) (λ h. sends_no_end (place (lexeme q)) (seat_in (lexeme q)) h.1) (two_tells (says (codes "send") (lexeme p)) (sends (place (lexeme q)) (seat_in (lexeme q))) (Ok None) e)
end_written at (w ∷ s ∷ m ∷ []) e =
    let p : Piece = record { bytes = w; at = at } in
    let q : Piece = record { bytes = s; at = at + length w + 1 } in
    let r : Piece = record { bytes = m; at = at + length w + 1 + length s + 1 } in
    let x = seat_and_number (lexeme q) (lexeme r) in
    ⊎_elim (λ h. cc)
    (λ h. ⊎_elim (λ k. calls_no_end Press x k.1) (λ k. calls_no_end Take x k.1) h)
    (three_tells (says (codes "press") (lexeme p)) (says (codes "take") (lexeme p)) (calls Press x) (calls Take x) (Ok None) e)
end_written at (w ∷ s ∷ m ∷ x ∷ ws) e = cc

pub end_is : (at : ℕ) (l : List ℕ) → verdict (record { bytes = l; at = at }) ≡ Ok None → l ≡ codes "end"
end_is at l e = sym (join_with_byte-slice_split space l) ∙ end_written at (pieces space l) e

-- a bad number lies in its line
sends_place : (i : ℕ) (os : Option Bool) (k : ℕ) → Err (BadNumber k) ≡ sends i os → k ≡ i
sends_place i None k e = cc
sends_place i (Some s) k e = cc

calls_place : (call : ℕ → TraceCall) (i j : ℕ) (os : Option Bool) (on : Option ℕ) (k : ℕ) → Err (BadNumber k) ≡ calls call (both i os j on) → (k ≡ i) ⊎ (k ≡ j)
calls_place call i j None on k e = inl cc
calls_place call i j (Some s) None k e = inr cc
calls_place call i j (Some s) (Some n) k e = cc

abbrev Within : ℕ → List (List ℕ) → ℕ → Type 0
Within at ws k = (at ≤ k) × (k ≤ at + length (joined_by space ws))

three_within : (at : ℕ) (w s m : List ℕ) (k i j : ℕ) → i ≡ at + length w + 1 → j ≡ at + length w + 1 + length s + 1 → (k ≡ i) ⊎ (k ≡ j) → Within at (w ∷ s ∷ m ∷ []) k
three_within at w s m k i j ei ej h =
    let n : length (joined_by space (w ∷ s ∷ m ∷ [])) ≡ length w + (1 + (length s + (1 + length m))) = simp length-append (omega arith) in
    ⊎_elim (λ e. (omega arith, omega arith)) (λ e. (omega arith, omega arith)) h

number_written : (at : ℕ) (ws : List (List ℕ)) (k : ℕ) → verdict_of (map lexeme (placed at ws)) ≡ Err (BadNumber k) → Within at ws k
number_written at [] k e = cc
number_written at (w ∷ []) k e =
    let p : Piece = record { bytes = w; at = at } in
    ⊎_elim (λ h. cc) (λ h. cc h.1) (two_tells (says (codes "end") (lexeme p)) (Ok None) (Err (BadNumber k)) e)
number_written at (w ∷ s ∷ []) k e =
    let p : Piece = record { bytes = w; at = at } in
    let q : Piece = record { bytes = s; at = at + length w + 1 } in
    let n : length (joined_by space (w ∷ s ∷ [])) ≡ length w + (1 + length s) = simp length-append (omega arith) in
    ⊎_elim (λ h. cc)
    (λ h. let here = sends_place (place (lexeme q)) (seat_in (lexeme q)) k h.1 ∙ places q (number most_32 s) in (omega arith, omega arith))
    (two_tells (says (codes "send") (lexeme p)) (sends (place (lexeme q)) (seat_in (lexeme q))) (Err (BadNumber k)) e)
number_written at (w ∷ s ∷ m ∷ []) k e =
    let p : Piece = record { bytes = w; at = at } in
    let q : Piece = record { bytes = s; at = at + length w + 1 } in
    let r : Piece = record { bytes = m; at = at + length w + 1 + length s + 1 } in
    let x = seat_and_number (lexeme q) (lexeme r) in
    let i = place (lexeme q) in
    let j = place (lexeme r) in
    let lies = three_within at w s m k i j (places q (number most_32 s)) (places r (number most_32 m)) in
    ⊎_elim (λ h. cc)
    (λ h. ⊎_elim (λ u. lies (calls_place Press i j (seat_in (lexeme q)) (short_in (lexeme r)) k u.1)) (λ u. lies (calls_place Take i j (seat_in (lexeme q)) (short_in (lexeme r)) k u.1)) h)
    (three_tells (says (codes "press") (lexeme p)) (says (codes "take") (lexeme p)) (calls Press x) (calls Take x) (Err (BadNumber k)) e)
number_written at (w ∷ s ∷ m ∷ x ∷ ws) k e = cc

pub number_place : (at : ℕ) (l : List ℕ) (k : ℕ) → verdict (record { bytes = l; at = at }) ≡ Err (BadNumber k) → (at ≤ k) × (k ≤ at + length l)
number_place at l k e =
    let x = number_written at (pieces space l) k e in
    let n = ap length (join_with_byte-slice_split space l) in
    (x.0, omega (arith, x.1))

-- the first line
game_tells : (a b : Bool) (g : GameName) (w : List ℕ) → cond a (Some Duel) (cond b (Some Speed) None) ≡ Some g → (a ≡ true → w ≡ codes "duel") → (b ≡ true → w ≡ codes "speed") → w ≡ game_word g
game_tells true b g w e ha hb = let same : Duel ≡ g = cc in ha refl ∙ ap game_word same
game_tells false true g w e ha hb = let same : Speed ≡ g = cc in hb refl ∙ ap game_word same
game_tells false false g w e ha hb = cc

game_is : (g : GameName) (p : Piece) → game_in (lexeme p) ≡ Some g → p.bytes ≡ game_word g
game_is g p e = game_tells (says (codes "duel") (lexeme p)) (says (codes "speed") (lexeme p)) g p.bytes e (says_it (codes "duel") p) (says_it (codes "speed") p)

pub record Firsts (og : Option GameName) (on os : Option ℕ) (f : First) : Type 0 where
  pub game_found : og ≡ Some f.game
  pub number_found : on ≡ Some f.match_number
  pub seed_found : os ≡ Some f.seed

firsts : (og : Option GameName) (on os : Option ℕ) (f : First) → first_by og on os ≡ Some f → Firsts og on os f
firsts None on os f e = cc
firsts (Some g) None os f e = cc
firsts (Some g) (Some n) None f e = cc
firsts (Some g) (Some n) (Some s) f e =
    let same : record { game = g; match_number = n; seed = s } ≡ f = cc in
    record { game_found = ap (λ (x : First). Some x.game) same; number_found = ap (λ (x : First). Some x.match_number) same; seed_found = ap (λ (x : First). Some x.seed) same }

first_tells : (a : Bool) (x : Option First) (f : First) → cond a x None ≡ Some f → (a ≡ true) × (x ≡ Some f)
first_tells true x f e = (refl, e)
first_tells false x f e = cc

first_written : (at : ℕ) (ws : List (List ℕ)) (f : First) → first_of (map lexeme (placed at ws)) ≡ Some f → (joined_by space ws ≡ line_of (first_words f)) × FirstFits f
first_written at [] f e = cc
first_written at (a ∷ []) f e = cc
first_written at (a ∷ b ∷ []) f e = cc
first_written at (a ∷ b ∷ g ∷ []) f e = cc
first_written at (a ∷ b ∷ g ∷ n ∷ []) f e = cc
first_written at (a ∷ b ∷ g ∷ n ∷ z ∷ []) f e =
    let i = at + length a + 1 in
    let j = i + length b + 1 in
    let k = j + length g + 1 in
    let pa : Piece = record { bytes = a; at = at } in
    let pb : Piece = record { bytes = b; at = i } in
    let pg : Piece = record { bytes = g; at = j } in
    let pn : Piece = record { bytes = n; at = k } in
    let pz : Piece = record { bytes = z; at = k + length n + 1 } in
    let x = first_tells (says (codes "RBT") (lexeme pa) && says (codes "1") (lexeme pb)) (first_by (game_in (lexeme pg)) (short_in (lexeme pn)) (number_in most_32 (lexeme pz))) f e in
    let y = firsts (game_in (lexeme pg)) (short_in (lexeme pn)) (number_in most_32 (lexeme pz)) f x.1 in
    let marks = and_parts (says (codes "RBT") (lexeme pa)) (says (codes "1") (lexeme pb)) x.0 in
    let ea : a ≡ codes "RBT" = says_it (codes "RBT") pa marks.0 in
    let eb : b ≡ codes "1" = says_it (codes "1") pb marks.1 in
    let eg : g ≡ game_word f.game = game_is f.game pg y.game_found in
    let en = number_is most_16 f.match_number pn y.number_found in
    let ez = number_is most_32 f.seed pz y.seed_found in (
      ap (λ v. joined_by space (v ∷ b ∷ g ∷ n ∷ z ∷ [])) ea ∙ ap (λ v. joined_by space (codes "RBT" ∷ v ∷ g ∷ n ∷ z ∷ [])) eb ∙ ap (λ v. joined_by space (codes "RBT" ∷ codes "1" ∷ v ∷ n ∷ z ∷ [])) eg ∙ ap (λ v. joined_by space (codes "RBT" ∷ codes "1" ∷ game_word f.game ∷ v ∷ z ∷ [])) en.0 ∙ ap (λ v. joined_by space (codes "RBT" ∷ codes "1" ∷ game_word f.game ∷ decimal f.match_number ∷ v ∷ [])) ez.0,
      record { match_number = omega (arith, en.1); seed = omega (arith, ez.1) },
    )
first_written at (a ∷ b ∷ g ∷ n ∷ z ∷ x ∷ ws) f e = cc

-- a first line is the line of what it says
pub first_is : (at : ℕ) (l : List ℕ) (f : First) → first_of (words (record { bytes = l; at = at })) ≡ Some f → (l ≡ line_of (first_words f)) × FirstFits f
first_is at l f e =
    let x = first_written at (pieces space l) f e in
    (sym (join_with_byte-slice_split space l) ∙ x.0, x.1)
