-- What taking the bytes apart tells.
use Rattle.std.proofs.Common.{◌≡◌, ℕ, Bool, true, false, cond, List, Ok, Err, Result, arith}
use Rattle.interface.specs.declared.answers.Refusal.{Refusal}
use Rattle.interface.specs.declared.answers.Refusal.TheVariants.{BadLength, BadMark, BadCheckWord, NotOurs}
use Rattle.datagram.specs.Fields.{Fields}
use Rattle.datagram.specs.Reading.{bad_length, bad_mark, bad_check_word, bad_sender, fields_at, taken_apart, read_of}

refused : (a b : Bool) (e : Refusal) (x : Fields) (y : Result Fields Refusal) → Err e ≡ cond a (Err BadLength) (cond b (Err BadMark) (Ok x)) → Err e ≡ cond a (Err BadLength) (cond b (Err BadMark) y)
refused true b e x y h = h
refused false true e x y h = h
refused false false e x y h = let z : ◌≡◌ {A = ℕ} 0 1 = cc in absurd (omega arith)

-- what the first two checks refuse stays refused
pub refused_first : (bs : List ℕ) (e : Refusal) → Err e ≡ taken_apart bs → Err e ≡ read_of bs
refused_first bs e h = refused (bad_length bs) (bad_mark bs) e (fields_at bs) (cond (bad_check_word bs) (Err BadCheckWord) (cond (bad_sender bs) (Err NotOurs) (Ok (fields_at bs)))) h
