-- What reading accepts, and that it is what writing gives.
use Rattle.std.proofs.Common.{◌≡◌, ℕ, ◌+◌, ◌-◌, ◌*◌, ◌<◌, ◌≤◌, Bool, true, false, cond, List, [], ◌∷◌, ◌++◌, map, length, get_or, take, drop, set, is_ok, Ok, Err, Result, sym, refl, ap, ◌∙◌, ap₂, subst, ⊎_elim, arith}
use Rattle.std.specs.List.{AllByRecursion, range_with_len}
use Rattle.interface.specs.declared.answers.Refusal.{Refusal}
use Rattle.interface.specs.declared.answers.Refusal.TheVariants.{BadLength, BadMark, BadCheckWord, NotOurs}
use Rattle.std.proofs.lemmas.List.FromFn.{fill_by_all}
use Rattle.std.proofs.ByRecursion.{All-get_or, All-append, All-from_get_or}
use Rattle.std.proofs.lemmas.List.{take_at, take-take, take-append-drop, drop-take, drop_more, drop_all, get_or_past, get_or-take, get_or-drop, get_or-set_same, length-append, length-take-le, length-drop}
use Rattle.std.proofs.lemmas.Bool.{cases_lt}
use Rattle.std.proofs.lemmas.Bool.Decides.{nat_tests}
use Rattle.datagram.specs.Fields.{Fields, Fits}
use Rattle.datagram.specs.Layout.{two_bytes, header_bytes, code_bytes, body_bytes, check_word, bytes_of}
use Rattle.datagram.specs.Reading.{two_at, codes_of, codes_part, bad_length, bad_mark, bad_check_word, bad_sender, fields_at, read_of}
use Rattle.datagram.specs.Laws.{Bytes, Faithful}
use Rattle.std.proofs.lemmas.Nat.{from_le_bytes-to_le_bytes_2, from_le_bytes-to_le_bytes_4}
use Rattle.datagram.proofs.Digits.{two_of, four_of}
use Rattle.datagram.proofs.Pairs.{length_codes_of, length_code_bytes, codes_of_code_bytes, code_bytes_codes_of, codes_fit, code_bytes_fit}
use Rattle.datagram.proofs.Sums.{Checked, checked, altered}

-- what the checks tell
pub record Sound (bs : List ℕ) : Type 0 where
  pub few : get_or bs 10 0 ≤ 32
  pub long : length bs ≡ 21 + 2 * get_or bs 10 0
  pub mark_0 : get_or bs 0 0 ≡ 82
  pub mark_1 : get_or bs 1 0 ≡ 66
  pub mark_2 : get_or bs 2 0 ≡ 75
  pub version : two_at bs 3 ≡ 1
  pub word : Checked bs
  pub sender : get_or bs 5 0 < 2

-- four checks are passed, or one of them refuses
passed : (a b c e : Bool) (x d : Fields) → cond a (Err BadLength) (cond b (Err BadMark) (cond c (Err BadCheckWord) (cond e (Err NotOurs) (Ok x)))) ≡ Ok d → (a ≡ false) × (b ≡ false) × (c ≡ false) × (e ≡ false) × (x ≡ d)
passed true b c e x d h = let z : ◌≡◌ {A = ℕ} 0 1 = cc in absurd (omega arith)
passed false true c e x d h = let z : ◌≡◌ {A = ℕ} 0 1 = cc in absurd (omega arith)
passed false false true e x d h = let z : ◌≡◌ {A = ℕ} 0 1 = cc in absurd (omega arith)
passed false false false true x d h = let z : ◌≡◌ {A = ℕ} 0 1 = cc in absurd (omega arith)
passed false false false false x d h = (refl, refl, refl, refl, cc)

pub sound : (bs : List ℕ) (d : Fields) → read_of bs ≡ Ok d → Sound bs × (fields_at bs ≡ d)
sound bs d e =
    let (length_ok, mark_ok, word_ok, sender_ok, same) = passed (bad_length bs) (bad_mark bs) (bad_check_word bs) (bad_sender bs) (fields_at bs) d e in (
      record {
        few = grind (arith, nat_tests);
        long = grind (arith, nat_tests);
        mark_0 = grind (arith, nat_tests);
        mark_1 = grind (arith, nat_tests);
        mark_2 = grind (arith, nat_tests);
        version = grind (arith, nat_tests);
        word = grind (arith, nat_tests);
        sender = grind (arith, nat_tests);
      },
      same,
    )

pub sound_read : (bs : List ℕ) → Sound bs → read_of bs ≡ Ok (fields_at bs)
sound_read bs s = grind (arith, nat_tests)

same_fields : (a b : Fields) → a.sender ≡ b.sender → a.match_number ≡ b.match_number → a.start ≡ b.start → a.codes ≡ b.codes → a.acknowledgement ≡ b.acknowledgement → a.report_frame ≡ b.report_frame → a.digest ≡ b.digest → a ≡ b
same_fields a b e₀ e₁ e₂ e₃ e₄ e₅ e₆ i = record { sender = e₀ i; match_number = e₁ i; start = e₂ i; codes = e₃ i; acknowledgement = e₄ i; report_frame = e₅ i; digest = e₆ i }

-- how long a datagram is
pub length_body : (d : Fields) → length (body_bytes d) ≡ 19 + 2 * length d.codes
length_body d = let n = length_code_bytes d.codes in omega arith

pub length_bytes : (d : Fields) → length (bytes_of d) ≡ 21 + 2 * length d.codes
length_bytes d =
    let n = length_body d in
    let all = length-append (body_bytes d) (two_bytes (check_word (body_bytes d))) in
    omega arith

-- what is written passes the checks
pub written_sound : (d : Fields) → Fits d → Sound (bytes_of d)
written_sound d f =
    let n = length_bytes d in
    record { few = f.few; long = n; mark_0 = refl; mark_1 = refl; mark_2 = refl; version = refl; word = checked (body_bytes d); sender = f.sender }

-- and has its fields at their places
pub written_fields : (d : Fields) → Fits d → fields_at (bytes_of d) ≡ d
written_fields d f =
    let word = two_bytes (check_word (body_bytes d)) in
    let part : codes_part (bytes_of d) ≡ code_bytes d.codes = take_at (code_bytes d.codes) word (2 * length d.codes) (length_code_bytes d.codes) in
    same_fields (fields_at (bytes_of d)) d refl (from_le_bytes-to_le_bytes_2 d.match_number f.numbers.match_number) (from_le_bytes-to_le_bytes_2 d.start f.numbers.start) (ap codes_of part ∙ codes_of_code_bytes d.codes f.codes) (from_le_bytes-to_le_bytes_2 d.acknowledgement f.numbers.acknowledgement) (from_le_bytes-to_le_bytes_2 d.report_frame f.numbers.report_frame) (from_le_bytes-to_le_bytes_4 d.digest f.numbers.digest)

pub read_back : (d : Fields) → Fits d → read_of (bytes_of d) ≡ Ok d
read_back d f = sound_read (bytes_of d) (written_sound d f) ∙ ap Ok (written_fields d f)

-- every number of it is a byte
written_bytes : (d : Fields) → d.sender < 256 → length d.codes ≤ 32 → Bytes (bytes_of d)
written_bytes d seat few k =
    let byte : ℕ → Type 0 = λ b. b < 256 in
    let head : AllByRecursion byte (header_bytes d) = omega arith in
    let word : AllByRecursion byte (two_bytes (check_word (body_bytes d))) = omega arith in
    let all = All-append byte (body_bytes d) (two_bytes (check_word (body_bytes d))) (All-append byte (header_bytes d) (code_bytes d.codes) head (code_bytes_fit d.codes)) word in
    ⊎_elim
    (λ h. All-get_or byte (bytes_of d) k 0 h all)
    (λ h. let none = get_or_past (bytes_of d) k 0 h in omega arith)
    (cases_lt k (length (bytes_of d)))

front_is : (n : ℕ) (bs : List ℕ) → n ≤ length bs → take n bs ≡ map (λ k. get_or bs k 0) (range_with_len 0 n)
front_is n bs h = fill_by_all (λ k. get_or bs k 0) (take n bs) n 0 (length-take-le n bs h) (λ k l. get_or-take n bs k 0 l)

-- the check word at the end
ends : (bs body : List ℕ) (n : ℕ) → n + 2 ≡ length bs → Bytes bs → body ≡ take n bs → two_at bs n ≡ check_word (take n bs) → bs ≡ body ++ two_bytes (check_word body)
ends bs body n size fit front word =
    let last : drop (n + 1) bs ≡ get_or bs (n + 1) 0 ∷ [] = drop_more bs (n + 1) 0 (omega arith) ∙ ap (λ xs. get_or bs (n + 1) 0 ∷ xs) (drop_all (n + 1 + 1) bs (omega arith)) in
    let tail : two_bytes (check_word (take n bs)) ≡ drop n bs = ap two_bytes (sym word) ∙ two_of _ _ (fit n) (fit (n + 1)) ∙ ap (λ xs. get_or bs n 0 ∷ xs) (sym last) ∙ sym (drop_more bs n 0 (omega arith)) in
    rw front (sym (ap (λ xs. take n bs ++ xs) tail ∙ take-append-drop n bs))

-- what is accepted is what its fields give, part by part
module _ (bs : List ℕ) (s : Sound bs) (fit : Bytes bs) where
  part_length : length (codes_part bs) ≡ 2 * get_or bs 10 0
  part_length = let long = s.long in length-take-le (2 * get_or bs 10 0) (drop 19 bs) (simp length-drop (omega arith))

  header_is : header_bytes (fields_at bs) ≡ take 19 bs
  header_is =
      let long = s.long in
      let version = s.version in
      let number = two_of _ _ (fit 6) (fit 7) in
      let start = two_of _ _ (fit 8) (fit 9) in
      let count : length (codes_of (codes_part bs)) ≡ get_or bs 10 0 = let n = part_length in let m = length_codes_of (codes_part bs) in omega arith in
      let acknowledgement = two_of _ _ (fit 11) (fit 12) in
      let report = two_of _ _ (fit 13) (fit 14) in
      let digest = four_of _ _ _ _ (fit 15) (fit 16) (fit 17) (fit 18) in
      let version₀ : get_or bs 3 0 ≡ 1 = omega arith in
      let version₁ : get_or bs 4 0 ≡ 0 = omega arith in
      let front = front_is 19 bs (omega arith) in
      rw front (λ i. (sym s.mark_0 i ∷ sym s.mark_1 i ∷ sym s.mark_2 i ∷ sym version₀ i ∷ sym version₁ i ∷ get_or bs 5 0 ∷ []) ++ number i ++ start i ++ (count i ∷ []) ++ acknowledgement i ++ report i ++ digest i)

  part_fits : AllByRecursion (λ b. b < 256) (codes_part bs)
  part_fits =
      let n = part_length in
      All-from_get_or (λ b. b < 256) (codes_part bs) 0 (λ i h. let at = get_or-take (2 * get_or bs 10 0) (drop 19 bs) i 0 (omega arith) ∙ get_or-drop 19 bs i 0 in let b = fit (19 + i) in omega arith)

  codes_are : code_bytes (codes_of (codes_part bs)) ≡ codes_part bs
  codes_are = let n = part_length in code_bytes_codes_of (codes_part bs) (omega arith) part_fits

  body_is : body_bytes (fields_at bs) ≡ take (19 + 2 * get_or bs 10 0) bs
  body_is =
      let m = 2 * get_or bs 10 0 in
      let front = take-take 19 (19 + m) bs (omega arith) in
      let back = drop-take 19 m bs in
      ap₂ ◌++◌ (header_is ∙ sym front) (codes_are ∙ sym back) ∙ take-append-drop 19 (take (19 + m) bs)

  sound_exact : bs ≡ bytes_of (fields_at bs)
  sound_exact =
      let long = s.long in
      let n : length bs - 2 ≡ 19 + 2 * get_or bs 10 0 = omega arith in
      ends bs (body_bytes (fields_at bs)) (19 + 2 * get_or bs 10 0) (omega arith) fit body_is (rw n at s.word)

  sound_fits : Fits (fields_at bs)
  sound_fits =
      let few = s.few in
      let n = part_length in
      let m = length_codes_of (codes_part bs) in
      record {
        sender = s.sender;
        numbers = record {
          match_number = omega (arith, fit 6, fit 7);
          start = omega (arith, fit 8, fit 9);
          acknowledgement = omega (arith, fit 11, fit 12);
          report_frame = omega (arith, fit 13, fit 14);
          digest = omega (arith, fit 15, fit 16, fit 17, fit 18);
        };
        few = omega arith;
        codes = codes_fit (codes_part bs) part_fits;
      }

-- the laws, of bytes and what reading them answers
module _ (bs : List ℕ) (r : Result Fields Refusal) (fit : Bytes bs) (e : r ≡ read_of bs) where
  exact : (d : Fields) → r ≡ Ok d → bs ≡ bytes_of d
  exact d ok = let (s, same) = sound bs d (sym e ∙ ok) in sound_exact bs s fit ∙ ap bytes_of same

  fits : (d : Fields) → r ≡ Ok d → Fits d
  fits d ok = let (s, same) = sound bs d (sym e ∙ ok) in subst Fits same (sound_fits bs s fit)

  detected : (d : Fields) (i b : ℕ) → d.sender < 256 → length d.codes ≤ 32 → i < length (bytes_of d) → (b ≡ get_or (bytes_of d) i 0 → ⊥) → bs ≡ set (bytes_of d) i b → is_ok r ≡ false
  detected d i b seat few h other was = go r refl
    where
      go : (x : Result Fields Refusal) → r ≡ x → is_ok x ≡ false
      go (Err w) k = refl
      go (Ok d') k =
          let s = (sound bs d' (sym e ∙ k)).0 in
          let n = length_bytes d in
          let at : get_or bs i 0 ≡ b = ap (λ xs. get_or xs i 0) was ∙ get_or-set_same (bytes_of d) i b 0 h in
          let small = fit i in
          absurd (other (altered (bytes_of d) i b (omega arith) (omega arith) h (written_bytes d seat few) (omega arith) (checked (body_bytes d)) (subst Checked was s.word)))

pub faithful : (bs : List ℕ) (r : Result Fields Refusal) → Bytes bs → r ≡ read_of bs → Faithful bs r
faithful bs r fit e = record {
  returned = λ d f written. e ∙ ap read_of written ∙ read_back d f;
  exact = exact bs r fit e;
  fits = fits bs r fit e;
  alone = λ d other fit' ok ok'. exact other (read_of other) fit' refl d ok' ∙ sym (exact bs r fit e d ok);
  detected = detected bs r fit e;
}
