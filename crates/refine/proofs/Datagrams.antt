-- The datagram of a note: it stays the same, and it fits its bytes.
use Rattle.std.proofs.Common.{◌≡◌, ℕ, zero, suc, ◌+◌, ◌-◌, ◌^◌, ◌<◌, ◌≤◌, Bool, List, [], ◌∷◌, map, length, sym, refl, ap, ◌∙◌, subst, arith}
use Rattle.std.specs.List.{range_with_len, AllByRecursion}
use Rattle.std.proofs.lemmas.List.FromFn.{length-map-range_with_len}
use Rattle.interface.specs.Digest.{digest_of}
use Rattle.interface.specs.Games.{State}
use Rattle.datagram.specs.Fields.{Fits}
use Rattle.datagram.specs.Layout.{bytes_of}
use Rattle.plain.specs.Rules.{Rules}
use Rattle.plain.specs.Match.{Plain, Note, other, note, seat_number}
use Rattle.plain.specs.States.{true_input}
use Rattle.plain.specs.Laws.{Counts, report}
use Rattle.plain.proofs.Growth.{Grown}
use Rattle.plain.proofs.Counting.{Noted, Sound}
use Rattle.plain.proofs.Reporting.{report_stays}
use Rattle.refine.specs.Setup.{Setup, rules, Lawful}
use Rattle.refine.specs.Memory.{Entry}
use Rattle.refine.specs.Standing.{fields_of, Sent}

pub map_counting_same : {X : Type 0} (f g : ℕ → X) (from n : ℕ) → ((k : ℕ) → from ≤ k → k < from + n → f k ≡ g k) → map f (range_with_len from n) ≡ map g (range_with_len from n)
map_counting_same f g from zero same = refl
map_counting_same f g from (suc n) same = let rest = map_counting_same f g (from + 1) n in grind (arith, same)

all_map : (f : ℕ → ℕ) (P : ℕ → Type 0) → ((k : ℕ) → P (f k)) → (ks : List ℕ) → AllByRecursion P (map f ks)
all_map f P each [] = tt
all_map f P each (k ∷ ks) = (each k, all_map f P each ks)

module _ {I : Type 0} (r : Rules State I) (match_number : ℕ) where
  -- what a note says is fixed
  pub fields_stay : (p q : Plain I) (k : ℕ) → Sound p → Grown p q → k < length p.notes → fields_of r match_number q (note p k) ≡ fields_of r match_number p (note p k)
  fields_stay p q k sound grown inside =
      let n = note p k in
      let good = sound.notes k inside in
      let codes = map_counting_same (λ f. r.code (true_input r q n.sender f)) (λ f. r.code (true_input r p n.sender f)) n.start (n.end - n.start) (λ f low high. ap r.code ((grown.sides n.sender).same_inputs f r.idle (omega (arith, good.ended)))) in
      let state = report_stays r p q k sound grown inside in
      λ i. record { sender = seat_number n.sender; match_number = match_number; start = n.start; codes = codes i; acknowledgement = n.acknowledgement; report_frame = report n; digest = digest_of (state i) }

  pub sent_stays : (p q : Plain I) (k : ℕ) (e : Entry) → Sound p → Grown p q → k < length p.notes → Sent r match_number p (note p k) e → Sent r match_number q (note q k) e
  sent_stays p q k e sound grown inside h =
      let same = grown.same_notes k inside in
      subst (λ n. Sent r match_number q n e) (sym same)
      (record {
        its_sender = h.its_sender;
        its_bytes = h.its_bytes ∙ ap bytes_of (sym (fields_stay p q k sound grown inside));
      })

seat_small : (s : Bool) → seat_number s < 2
seat_small s = grind arith

module _ {I : Type 0} (a : Setup I) (lawful : Lawful a) (match_number : ℕ) where
  pub fields_fit : (p : Plain I) (n : Note) → match_number < 2 ^ 16 → ((t : Bool) → Counts p t) → Noted p n.sender n → Fits (fields_of (rules a) match_number p n)
  fields_fit p n small counts good =
      let c = counts n.sender in
      let c' = counts (other n.sender) in
      let few = length-map-range_with_len (λ f. a.code (true_input (rules a) p n.sender f)) n.start (n.end - n.start) in
      record {
        sender = seat_small n.sender;
        numbers = record { match_number = small; start = omega arith; acknowledgement = omega arith; report_frame = omega arith; digest = omega arith };
        few = omega arith;
        codes = all_map (λ f. a.code (true_input (rules a) p n.sender f)) (λ c. c < 2 ^ 16) (λ f. lawful.fits _) (range_with_len n.start (n.end - n.start));
      }
