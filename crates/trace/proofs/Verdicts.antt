-- A line that was written, and a line that is read.
use Rattle.std.proofs.Common.{◌≡◌, ℕ, ◌+◌, ◌^◌, ◌<◌, ◌≤◌, Bool, true, false, cond, eqb, leb, List, [], ◌∷◌, map, length, Some, None, Ok, codes, decimal, Option, sym, refl, ap, ◌∙◌, arith}
use Rattle.std.specs.Option.{option_map}
use Rattle.std.specs.List.{AllByRecursion}
use Rattle.std.proofs.lemmas.Slice.Eq.{bytes_eq-Decides}
use Rattle.std.proofs.lemmas.Bool.{le-leb, leb-true, eqb-true, eqb-false}
use Rattle.std.proofs.lemmas.Fmt.{decimal_digit}
use mir.Val.{bool_byte}
use Rattle.trace.specs.declared.forms.GameName.{GameName}
use Rattle.trace.specs.declared.forms.GameName.TheVariants.{Duel, Speed}
use Rattle.trace.specs.declared.forms.First.{First}
use Rattle.trace.specs.declared.forms.TraceTurn.{TraceTurn}
use Rattle.trace.specs.declared.forms.TraceCall.{TraceCall}
use Rattle.trace.specs.declared.forms.TraceCall.TheVariants.{Press, Send, Take}
use Rattle.trace.specs.Pieces.{Piece, space, placed}
use Rattle.trace.specs.Numbers.{most_16, most_32, number}
use Rattle.trace.specs.Tokens.{Lexeme, by_value, lexeme, words, spelling, place, says, number_in, seat_in, short_in}
use Rattle.trace.specs.Lines.{both, seat_and_number, calls, sends, verdict_of, verdict, game_in, first_by, first_of}
use Rattle.trace.specs.Writing.{game_word, seat_word, first_words, call_words, turn_words, line_of}
use Rattle.trace.specs.Laws.{CallFits, TurnFits, FirstFits}
use Rattle.trace.proofs.Joins.{Free, pieces_join}
use Rattle.trace.proofs.Decimals.{letters_free, number_decimal, decimal_number, decimal_free}

-- the words of a line that was put together
pub words_joined : (at : ℕ) (w : List ℕ) (ws : List (List ℕ)) → Free space w → AllByRecursion (Free space) ws → words (record { bytes = line_of (w ∷ ws); at = at }) ≡ map lexeme (placed at (w ∷ ws))
words_joined at w ws h hs = ap (λ x. map lexeme (placed at x)) (pieces_join space w ws h hs)

-- no word that is written has a byte that parts
seat_free : (s : ℕ) (b : Bool) → s < 48 → Free s (seat_word b)
seat_free s false k = letters_free s (codes "0") k refl
seat_free s true k = letters_free s (codes "1") k refl

game_free : (s : ℕ) (g : GameName) → s < 48 → Free s (game_word g)
game_free s Duel k = letters_free s (codes "duel") k refl
game_free s Speed k = letters_free s (codes "speed") k refl

pub call_free : (s : ℕ) (b : Bool) (call : TraceCall) → s < 48 → CallFits call → AllByRecursion (Free s) (call_words (seat_word b) call)
call_free s b (Press n) k h = (letters_free s (codes "press") k refl, (seat_free s b k, (decimal_free s n k (omega arith), tt)))
call_free s b Send k h = (letters_free s (codes "send") k refl, (seat_free s b k, tt))
call_free s b (Take n) k h = (letters_free s (codes "take") k refl, (seat_free s b k, (decimal_free s n k (omega arith), tt)))

pub first_free : (s : ℕ) (f : First) → s < 48 → FirstFits f → AllByRecursion (Free s) (first_words f)
first_free s f k h =
    let small = h.match_number in
    let few = h.seed in
    (letters_free s (codes "RBT") k refl, (letters_free s (codes "1") k refl, (game_free s f.game k, (decimal_free s f.match_number k (omega arith), (decimal_free s f.seed k (omega arith), tt)))))

-- a seat, and a number of 16 bits, as they are written
seat_reads : (b : Bool) (at : ℕ) → seat_in (lexeme (record { bytes = seat_word b; at = at })) ≡ Some b
seat_reads false at = refl
seat_reads true at = refl

short_reads : (n at : ℕ) → n < 2 ^ 16 → short_in (lexeme (record { bytes = decimal n; at = at })) ≡ Some n
short_reads n at h =
    let p : Piece = record { bytes = decimal n; at = at } in
    ap (λ o. short_in (by_value p o)) (number_decimal most_32 n (omega arith) (omega arith)) ∙ ap (λ t. cond t (Some n) None) (le-leb n most_16 (omega arith))

seed_reads : (n at : ℕ) → n < 2 ^ 32 → number_in most_32 (lexeme (record { bytes = decimal n; at = at })) ≡ Some n
seed_reads n at h =
    let p : Piece = record { bytes = decimal n; at = at } in
    ap (λ o. number_in most_32 (by_value p o)) (number_decimal most_32 n (omega arith) (omega arith)) ∙ ap (λ t. cond t (Some n) None) (le-leb n most_32 (omega arith))

both_read : (call : ℕ → TraceCall) (b : Bool) (n i j : ℕ) → n < 2 ^ 16 → calls call (seat_and_number (lexeme (record { bytes = seat_word b; at = i })) (lexeme (record { bytes = decimal n; at = j }))) ≡ Ok (Some (record { seat = b; call = call n }))
both_read call b n i j h =
    let s = lexeme (record { bytes = seat_word b; at = i }) in
    let t = lexeme (record { bytes = decimal n; at = j }) in
    ap (λ x. calls call (both (place s) x (place t) (short_in t))) (seat_reads b i) ∙ ap (λ x. calls call (both (place s) (Some b) (place t) x)) (short_reads n j h)

-- the line of a turn is read as that turn
call_reads : (b : Bool) (call : TraceCall) (at : ℕ) → CallFits call → verdict (record { bytes = line_of (turn_words (record { seat = b; call = call })); at = at }) ≡ Ok (Some (record { seat = b; call = call }))
call_reads b (Press n) at h =
    let free = call_free space b (Press n) (omega arith) h in
    ap verdict_of (words_joined at (codes "press") (seat_word b ∷ decimal n ∷ []) free.0 free.1) ∙ both_read Press b n (at + 5 + 1) (at + 5 + 1 + length (seat_word b) + 1) h
call_reads b Send at h =
    let free = call_free space b Send (omega arith) h in
    ap verdict_of (words_joined at (codes "send") (seat_word b ∷ []) free.0 free.1) ∙ ap (sends (place (lexeme (record { bytes = seat_word b; at = at + 4 + 1 })))) (seat_reads b (at + 4 + 1))
call_reads b (Take n) at h =
    let free = call_free space b (Take n) (omega arith) h in
    ap verdict_of (words_joined at (codes "take") (seat_word b ∷ decimal n ∷ []) free.0 free.1) ∙ both_read Take b n (at + 4 + 1) (at + 4 + 1 + length (seat_word b) + 1) h

pub turn_reads : (t : TraceTurn) (at : ℕ) → TurnFits t → verdict (record { bytes = line_of (turn_words t); at = at }) ≡ Ok (Some t)
turn_reads t at h = call_reads t.seat t.call at h

pub end_reads : (at : ℕ) → verdict (record { bytes = codes "end"; at = at }) ≡ Ok None
end_reads at = refl

-- the first line
game_reads : (g : GameName) (at : ℕ) → game_in (lexeme (record { bytes = game_word g; at = at })) ≡ Some g
game_reads Duel at = refl
game_reads Speed at = refl

pub first_reads : (f : First) (at : ℕ) → FirstFits f → first_of (words (record { bytes = line_of (first_words f); at = at })) ≡ Some f
first_reads f at h =
    let n = f.match_number in
    let i = at + 3 + 1 + 1 + 1 in
    let j = i + length (game_word f.game) + 1 in
    let k = j + length (decimal n) + 1 in
    let g : Lexeme = lexeme (record { bytes = game_word f.game; at = i }) in
    let m : Lexeme = lexeme (record { bytes = decimal n; at = j }) in
    let z : Lexeme = lexeme (record { bytes = decimal f.seed; at = k }) in
    let small = h.match_number in
    let few = h.seed in
    let free = first_free space f (omega arith) h in
    ap first_of (words_joined at (codes "RBT") (codes "1" ∷ game_word f.game ∷ decimal n ∷ decimal f.seed ∷ []) free.0 free.1) ∙ ap (λ x. first_by x (short_in m) (number_in most_32 z)) (game_reads f.game i) ∙ ap (λ x. first_by (Some f.game) x (number_in most_32 z)) (short_reads n j small) ∙ ap (λ x. first_by (Some f.game) (Some n) x) (seed_reads f.seed k few)

-- a lexeme spells its piece, and stands at its place
spells : (p : Piece) (o : Option ℕ) → spelling (by_value p o) ≡ p.bytes
spells p None = refl
spells p (Some n) = refl

pub places : (p : Piece) (o : Option ℕ) → place (by_value p o) ≡ p.at
places p None = refl
places p (Some n) = refl

-- a word that says a text is that text
pub says_it : (w : List ℕ) (p : Piece) → says w (lexeme p) ≡ true → p.bytes ≡ w
says_it w p e = sym (spells p (number most_32 p.bytes)) ∙ (bytes_eq-Decides (spelling (lexeme p)) w).0 e

some_at : (t : Bool) (m n most : ℕ) → cond t (Some m) None ≡ Some n → (t ≡ true → m ≤ most) → (Some m ≡ Some n) × (n ≤ most)
some_at true m n most e h = let same : m ≡ n = cc in (e, omega (arith, h refl))
some_at false m n most e h = cc

some_in : (most n at : ℕ) (w : List ℕ) (o : Option ℕ) → number_in most (by_value (record { bytes = w; at = at }) o) ≡ Some n → (o ≡ Some n) × (n ≤ most)
some_in most n at w None e = cc
some_in most n at w (Some m) e = some_at (leb m most) m n most e (leb-true m most)

-- a number is as it is written
pub number_is : (most n : ℕ) (p : Piece) → number_in most (lexeme p) ≡ Some n → (p.bytes ≡ decimal n) × (n ≤ most)
number_is most n p e =
    let q = some_in most n p.at p.bytes (number most_32 p.bytes) e in
    ((decimal_number most_32 n p.bytes (omega arith) q.0).0, q.1)

-- a seat as it is written
pub seat_decimal : (b : Bool) → decimal (bool_byte b) ≡ seat_word b
seat_decimal false = decimal_digit 0 (omega arith)
seat_decimal true = decimal_digit 1 (omega arith)

seat_digit : (n : ℕ) (b : Bool) → n ≤ 1 → eqb n 1 ≡ b → decimal n ≡ seat_word b
seat_digit n true h e = ap decimal (eqb-true n 1 e) ∙ decimal_digit 1 (omega arith)
seat_digit n false h e =
    let zero : n ≡ 0 = omega (arith, eqb-false n 1 e) in
    ap decimal zero ∙ decimal_digit 0 (omega arith)

seat_from : (o : Option ℕ) (b : Bool) (w : List ℕ) → option_map (λ n. eqb n 1) o ≡ Some b → ((n : ℕ) → o ≡ Some n → (w ≡ decimal n) × (n ≤ 1)) → w ≡ seat_word b
seat_from None b w e h = cc
seat_from (Some n) b w e h =
    let q = h n refl in
    let s : eqb n 1 ≡ b = cc in
    q.0 ∙ seat_digit n b q.1 s

-- a seat is as it is written
pub seat_is : (b : Bool) (p : Piece) → seat_in (lexeme p) ≡ Some b → p.bytes ≡ seat_word b
seat_is b p e = seat_from (number_in 1 (lexeme p)) b p.bytes e (λ n h. number_is 1 n p h)
