-- Lines as they are formatted.
use Rattle.std.proofs.Common.{◌≡◌, ℕ, ◌≤◌, ltb, List, [], ◌∷◌, ◌++◌, length, codes, decimal, sym, ap, ◌∙◌, arith}
use Rattle.std.proofs.lemmas.List.{append_assoc}
use Rattle.std.proofs.lemmas.Fmt.{decimal_digit}
use Rattle.std.proofs.lemmas.Bool.{cond-false, le-ltb}
use Rattle.report.specs.Program.{most_bytes, log_records, program_text}
use Rattle.report.specs.Reports.{Reported, report_on}
use Rattle.report.specs.declared.reports.SeatLine.{SeatLine}
use Rattle.report.specs.Texts.{line, line_text, seat_text, report_text}

-- the lines of both seats
abbrev row : List ℕ → SeatLine → List ℕ
row s x = line (codes "seat" ∷ s ∷ decimal x.end.played ∷ decimal x.end.known ∷ decimal x.end.acknowledged ∷ decimal x.end.confirmed ∷ decimal x.end.digest ∷ decimal x.replayed ∷ [])

pub seats_words : (x y : SeatLine) (bs : List ℕ) → bs ≡ codes "seat 0 " ++ (line_text x ++ (codes "\nseat 1 " ++ (line_text y ++ 10 ∷ []))) → bs ≡ seat_text 0 x ++ seat_text 1 y
seats_words x y bs is =
    let words : codes "seat 0 " ++ (line_text x ++ (codes "\nseat 1 " ++ (line_text y ++ 10 ∷ []))) ≡ row (48 ∷ []) x ++ row (49 ∷ []) y = simp append_assoc in
    is ∙ words ∙ ap (λ s. row s x ++ row (49 ∷ []) y) (sym (decimal_digit 0 (omega arith))) ∙ ap (λ s. row (decimal 0) x ++ row s y) (sym (decimal_digit 1 (omega arith)))

pub fault_words : (a b c bs : List ℕ) → bs ≡ codes "fault " ++ (a ++ (codes " line " ++ (b ++ (codes " byte " ++ (c ++ 10 ∷ []))))) → bs ≡ line (codes "fault" ∷ a ∷ codes "line" ∷ b ∷ codes "byte" ∷ c ∷ [])
fault_words a b c bs is = is ∙ sym (simp append_assoc)

-- an input that is not too long
pub within : (text bs : List ℕ) (x : Reported) (records : ℕ) → length text ≤ most_bytes → records ≡ log_records → x ≡ report_on text records → bs ≡ report_text x → bs ≡ program_text text
within text bs x records short as_many is e =
    e ∙ ap report_text (is ∙ ap (report_on text) as_many) ∙ sym (cond-false (ltb most_bytes (length text)) _ _ (le-ltb most_bytes (length text) short))
