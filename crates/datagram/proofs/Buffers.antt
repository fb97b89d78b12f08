-- A buffer that is written from its start on.
use Rattle.std.proofs.Common.{◌≡◌, ℕ, ◌+◌, ◌*◌, ◌<◌, ◌≤◌, List, ◌++◌, length, get_or, take, drop, sym, ap, ◌∙◌, arith}
use Rattle.std.proofs.lemmas.List.{append_assoc, take_at, take_more, drop_at, drop-drop, length-append, length-take-le}
use Rattle.datagram.specs.Layout.{two_bytes, code_bytes}
use Rattle.datagram.specs.Writing.{spliced}
use Rattle.datagram.proofs.Pairs.{length_code_bytes, code_bytes_push}

-- one part after another
pub spliced_more : (old : List ℕ) (at : ℕ) (done part : List ℕ) (n : ℕ) → at + length done ≡ n → at ≤ length old → spliced (spliced old at done) n part ≡ spliced old at (done ++ part)
spliced_more old at done part n e h =
    let front : length (take at old ++ done) ≡ n = length-append (take at old) done ∙ ap (λ k. k + length done) (length-take-le at old h) ∙ e in
    let kept = take_at (take at old ++ done) (drop (at + length done) old) n front in
    let past : drop (n + length part) (spliced old at done) ≡ drop (at + length (done ++ part)) old =
    sym (drop-drop (length part) n (spliced old at done)) ∙ ap (drop (length part)) (drop_at (take at old ++ done) (drop (at + length done) old) n front) ∙ drop-drop (length part) (at + length done) old ∙ ap (λ k. drop k old) (simp length-append (omega arith)) in
    ap (λ xs. xs ++ part ++ drop (n + length part) (spliced old at done)) kept ∙ ap (λ xs. take at old ++ done ++ part ++ xs) past ∙ ap (λ xs. xs ++ drop (at + length (done ++ part)) old) (append_assoc (take at old) done part)

-- one code more
pub codes_more : (old codes : List ℕ) (at k : ℕ) (buffer part after : List ℕ) → k < length codes → at ≤ length old → part ≡ two_bytes (get_or codes k 0) → buffer ≡ spliced old at (code_bytes (take k codes)) → after ≡ spliced buffer (at + 2 * k) part → after ≡ spliced old at (code_bytes (take (k + 1) codes))
codes_more old codes at k buffer part after h room ep eb ea =
    let done = code_bytes (take k codes) in
    let size : length done ≡ 2 * k = length_code_bytes (take k codes) ∙ ap (λ n. 2 * n) (length-take-le k codes (omega arith)) in
    let more : code_bytes (take (k + 1) codes) ≡ done ++ two_bytes (get_or codes k 0) = ap code_bytes (take_more codes k 0 h) ∙ code_bytes_push (take k codes) (get_or codes k 0) in
    let step = spliced_more old at done (two_bytes (get_or codes k 0)) (at + 2 * k) (ap (λ n. at + n) size) room in
    rw (ea, ep, eb) (step ∙ ap (spliced old at) (sym more))
