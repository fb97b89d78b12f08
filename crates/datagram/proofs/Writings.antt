-- A datagram put into a buffer: header, codes, check word.
use Rattle.std.proofs.Common.{◌≡◌, ℕ, ◌+◌, ◌*◌, ◌<◌, ◌≤◌, false, List, ◌++◌, length, take, drop, Ok, sym, refl, ap, ◌∙◌, zero-add, arith}
use Rattle.std.proofs.lemmas.List.{take_at}
use Rattle.std.proofs.lemmas.Bool.{le-ltb}
use Rattle.datagram.specs.Fields.{Fields, Fits}
use Rattle.datagram.specs.Layout.{two_bytes, header_bytes, code_bytes, body_bytes, check_word, bytes_of}
use Rattle.datagram.specs.Writing.{spliced, too_short, write_answer, write_leaves}
use Rattle.datagram.specs.Reading.{read_of}
use Rattle.datagram.specs.Laws.{Readable}
use Rattle.datagram.proofs.Buffers.{spliced_more}
use Rattle.datagram.proofs.Readings.{length_body, read_back}

-- a part put at the start
start_is : (old part : List ℕ) → spliced old 0 part ≡ part ++ drop (length part) old
start_is old part = ap (λ k. part ++ drop k old) (zero-add (length part))

-- header, codes and check word one after another
pub all_put : (d : Fields) (old b₁ b₂ b₃ seen : List ℕ) (end : ℕ) → end ≡ 19 + 2 * length d.codes → b₁ ≡ spliced old 0 (header_bytes d) → b₂ ≡ spliced b₁ 19 (code_bytes d.codes) → seen ≡ take end b₂ → b₃ ≡ spliced b₂ end (two_bytes (check_word seen)) → b₃ ≡ bytes_of d ++ drop (length (bytes_of d)) old
all_put d old b₁ b₂ b₃ seen end size e₁ e₂ es e₃ =
    let second : b₂ ≡ spliced old 0 (body_bytes d) = e₂ ∙ ap (λ b. spliced b 19 (code_bytes d.codes)) e₁ ∙ spliced_more old 0 (header_bytes d) (code_bytes d.codes) 19 refl (omega arith) in
    let n : length (body_bytes d) ≡ end = length_body d ∙ sym size in
    let body : seen ≡ body_bytes d = es ∙ ap (take end) (second ∙ start_is old (body_bytes d)) ∙ take_at (body_bytes d) (drop (length (body_bytes d)) old) end n in
    let third : b₃ ≡ spliced old 0 (bytes_of d) =
    e₃ ∙ ap (λ w. spliced b₂ end (two_bytes (check_word w))) body ∙ ap (λ b. spliced b end (two_bytes (check_word (body_bytes d)))) second ∙ spliced_more old 0 (body_bytes d) (two_bytes (check_word (body_bytes d))) end (zero-add (length (body_bytes d)) ∙ n) (omega arith) in
    third ∙ start_is old (bytes_of d)

-- in a buffer that is long enough
module _ (d : Fields) (old : List ℕ) (room : length (bytes_of d) ≤ length old) where
  long_enough : too_short d old ≡ false
  long_enough = le-ltb (length old) (length (bytes_of d)) room

  pub put_answer : (n : ℕ) → n ≡ length (bytes_of d) → Ok n ≡ write_answer d old
  put_answer n e = rw (long_enough, e) refl

  pub put_leaves : (after : List ℕ) → after ≡ bytes_of d ++ drop (length (bytes_of d)) old → after ≡ write_leaves d old
  put_leaves after e = rw long_enough e

pub put_readable : (d : Fields) (old after : List ℕ) → (d.sender < 2 → Fits d) → after ≡ bytes_of d ++ drop (length (bytes_of d)) old → Readable d after
put_readable d old after fits e = record {
  returned = λ seat.
      let front : take (length (bytes_of d)) after ≡ bytes_of d = ap (take (length (bytes_of d))) e ∙ take_at (bytes_of d) (drop (length (bytes_of d)) old) (length (bytes_of d)) refl in
      ap read_of front ∙ read_back d (fits seat);
}
