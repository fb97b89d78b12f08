-- The check word, byte by byte.
use Rattle.std.proofs.Common.{◌≡◌, ℕ, zero, suc, ◌+◌, ◌-◌, ◌*◌, ◌/◌, ◌%◌, ◌<◌, ◌≤◌, List, [], ◌∷◌, ◌++◌, length, get_or, take, set, refl, ap, ◌∙◌, ⊎_elim, zero-add, arith}
use native.Mathlib.Nat.{eq_of_mul-eq-mul_left}
use lib.Seq.{take-set-lt}
use Rattle.std.proofs.lemmas.Nat.{mul-le, from_le_bytes-to_le_bytes_2}
use Rattle.std.proofs.lemmas.List.{take_at, get_or_at, get_or-append-add, get_or-set_other, get_or-set_same, get_or-take, take-set-le, length-append, length-set, length-take-le}
use Rattle.std.proofs.lemmas.Bool.{cases_lt, cases_eq}
use Rattle.datagram.specs.Layout.{two_bytes, weighted, check_word}
use Rattle.datagram.specs.Reading.{two_at}
use Rattle.datagram.specs.Laws.{Bytes}

-- the sum changes by the place times the change of the byte
pub weighted_set : (k : ℕ) (bs : List ℕ) (i b : ℕ) → i < length bs → weighted k (set bs i b) + (k + i + 1) * get_or bs i 0 ≡ weighted k bs + (k + i + 1) * b
weighted_set k [] i b h = absurd (omega arith)
weighted_set k (x ∷ bs) zero b h = let e : k + 0 + 1 ≡ k + 1 = omega arith in rw e (omega arith)
weighted_set k (x ∷ bs) (suc i) b h =
    let e : k + suc i + 1 ≡ k + 1 + i + 1 = omega arith in
    let ih = weighted_set (k + 1) bs i b (omega arith) in
    rw e (omega arith)

-- the check word at the end is that of the bytes before it
abbrev pub Checked : List ℕ → Type 0
Checked bs = two_at bs (length bs - 2) ≡ check_word (take (length bs - 2) bs)

pub checked : (body : List ℕ) → Checked (body ++ two_bytes (check_word body))
checked body =
    let w = check_word body in
    let n : length (body ++ two_bytes w) - 2 ≡ length body = simp length-append (omega arith) in
    let low = get_or_at body (w % 256) (w / 256 % 256 ∷ []) 0 (length body) refl in
    let high = get_or-append-add body (two_bytes w) 1 0 in
    let front = take_at body (two_bytes w) (length body) refl in
    rw (n, front, low, high) (from_le_bytes-to_le_bytes_2 w (omega arith))

-- two bytes that weigh the same at one place
same_byte : (k a b : ℕ) → k < 85 → a < 256 → b < 256 → ((k + 1) * a) % 65536 ≡ ((k + 1) * b) % 65536 → a ≡ b
same_byte k a b hk ha hb e =
    let la : (k + 1) * a ≤ 85 * 255 = mul-le (k + 1) a 85 255 (omega arith) (omega arith) in
    let lb : (k + 1) * b ≤ 85 * 255 = mul-le (k + 1) b 85 255 (omega arith) (omega arith) in
    let same : (k + 1) * a ≡ (k + 1) * b = omega arith in
    eq_of_mul-eq-mul_left (k + 1) (omega arith) a b same

-- one byte altered before the check word
altered_body : (body : List ℕ) (i b : ℕ) → i < length body → length body ≤ 83 → get_or body i 0 < 256 → b < 256 → check_word (set body i b) ≡ check_word body → b ≡ get_or body i 0
altered_body body i b h few old new e =
    let moved : weighted 0 (set body i b) + (i + 1) * get_or body i 0 ≡ weighted 0 body + (i + 1) * b = rw zero-add at (weighted_set 0 body i b h) in
    same_byte i b (get_or body i 0) (omega arith) new old (omega arith)

-- one byte altered, wherever it stands; the check word stands at n
module _ (bs : List ℕ) (i b n : ℕ) (size : n + 2 ≡ length bs) (few : n ≤ 83) (fit : Bytes bs) (new : b < 256) (was : two_at bs n ≡ check_word (take n bs)) (is : two_at (set bs i b) n ≡ check_word (take n (set bs i b))) where
  early : i < n → b ≡ get_or bs i 0
  early h =
      let low = get_or-set_other bs i n b 0 (omega arith) in
      let high = get_or-set_other bs i (n + 1) b 0 (omega arith) in
      let body = ap check_word (take-set-lt n bs i b h) in
      let there = get_or-take n bs i 0 h in
      let old = fit i in
      let whole = length-take-le n bs (omega arith) in
      altered_body (take n bs) i b (omega arith) (omega arith) (omega arith) new (omega arith) ∙ there

  late : n ≤ i → i < n + 2 → b ≡ get_or bs i 0
  late h k =
      let body = ap check_word (take-set-le n bs i b h) in
      let here = get_or-set_same bs i b 0 (omega arith) in
      ⊎_elim
      (λ e. let high = get_or-set_other bs i (n + 1) b 0 (omega arith) in
      let first = ap (λ k. get_or bs k 0) e in
      let first' = ap (λ k. get_or (set bs i b) k 0) e in
      omega arith)
      (λ e. let low = get_or-set_other bs i n b 0 (omega arith) in
      let at : i ≡ n + 1 = omega arith in
      let second = ap (λ k. get_or bs k 0) at in
      let second' = ap (λ k. get_or (set bs i b) k 0) at in
      omega arith)
      (cases_eq i n)

pub altered : (bs : List ℕ) (i b : ℕ) → 2 ≤ length bs → length bs ≤ 85 → i < length bs → Bytes bs → b < 256 → Checked bs → Checked (set bs i b) → b ≡ get_or bs i 0
altered bs i b long few h fit new was is =
    let is' : two_at (set bs i b) (length bs - 2) ≡ check_word (take (length bs - 2) (set bs i b)) = rw length-set at is in
    ⊎_elim
    (early bs i b (length bs - 2) (omega arith) (omega arith) fit new was is')
    (λ k. late bs i b (length bs - 2) (omega arith) (omega arith) fit new was is' k (omega arith))
    (cases_lt i (length bs - 2))
