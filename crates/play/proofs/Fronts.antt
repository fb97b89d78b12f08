-- A turn that is lent the front of the slots and of the log: what it leaves is the step of the definitions.
use Rattle.std.proofs.Common.{◌≡◌, ℕ, ◌<◌, ◌≤◌, min, Bool, true, false, cond, List, ◌++◌, length, take, drop, sym, refl, ap, ◌∙◌, ⊎_elim, arith}
use Rattle.std.proofs.lemmas.List.{take_all, drop_all, take-map, drop-map, map-append}
use Rattle.std.proofs.lemmas.Bool.{cases_lt}
use Rattle.interface.specs.Keepers.{Kept}
use Rattle.plain.specs.Match.{Lent, other}
use Rattle.refine.specs.Setup.{Setup}
use Rattle.refine.specs.Memory.{SlotLists, Memory, slots_of, with_slots, seat, put_seat, with_log, own_lent, fronts, joined, cut, own_part}
use Rattle.refine.specs.Outcomes.{Outcome, outcome, numbered, result}
use Rattle.refine.specs.Plays.{Step}
use Rattle.refine.specs.Matches.{brought, next, step_result, put_back}
use Rattle.match_engine.specs.declared.log.Record.{Record}
use Rattle.match_engine.specs.declared.state.Match.{Match}
use Rattle.match_engine.specs.Log.{entry_of, entries}
use Rattle.match_engine.specs.Meaning.{whole_memory, memory}

-- as many as there are, or fewer
pub take_min : {T : Type 0} (k : ℕ) (xs : List T) → take (min k (length xs)) xs ≡ take k xs
take_min k xs =
    ⊎_elim
    (λ (high : length xs < k). take_all (min k (length xs)) xs (omega arith) ∙ sym (take_all k xs (omega arith)))
    (λ (low : k ≤ length xs). let e : min k (length xs) ≡ k = omega arith in ap (λ j. take j xs) e)
    (cases_lt (length xs) k)

pub drop_min : {T : Type 0} (k : ℕ) (xs : List T) → drop (min k (length xs)) xs ≡ drop k xs
drop_min k xs =
    ⊎_elim
    (λ (high : length xs < k). drop_all (min k (length xs)) xs (omega arith) ∙ sym (drop_all k xs (omega arith)))
    (λ (low : k ≤ length xs). let e : min k (length xs) ≡ k = omega arith in ap (λ j. drop j xs) e)
    (cases_lt (length xs) k)

module _ {G K0 K1 H0 H1 I : Type 0} (kept_0 : K0 → Kept) (kept_1 : K1 → Kept) (a : Setup I) (m m' : Match G K0 K1 H0 H1) (t : Step) (x y rest : SlotLists I) (log log' : List Record) (code frames : ℕ) where
  abbrev n : ℕ
  n = t.number

  abbrev s : Bool
  s = numbered n

  abbrev l : Lent
  l = t.slots

  -- the match, what the call is brought, and what it leaves
  abbrev M : Memory I
  M = memory kept_0 kept_1 m n x rest (entries log)

  abbrev B : Memory I
  B = memory kept_0 kept_1 m n (fronts l x) (fronts own_lent rest) (entries (take t.records log))

  abbrev O : Memory I
  O = memory kept_0 kept_1 m' n y (fronts own_lent rest) (entries log')

  brought_is : brought M t ≡ B
  brought_is = at s ∙ ap (λ z. memory kept_0 kept_1 m n (fronts l x) (fronts own_lent rest) z) (take-map entry_of t.records log)
    where
      at : (u : Bool) → let W = whole_memory kept_0 kept_1 m (cond u rest x) (cond u x rest) (entries log) in with_log (put_seat (own_part W) u (cut l (seat W u))) (take t.records (entries log)) ≡ whole_memory kept_0 kept_1 m (cond u (fronts own_lent rest) (fronts l x)) (cond u (fronts l x) (fronts own_lent rest)) (take t.records (entries log))
      at true = refl
      at false = refl

  put_back_is : put_back M t O ≡ memory kept_0 kept_1 m' n (joined l y x) rest (entries log' ++ drop t.records (entries log))
  put_back_is = at s
    where
      at : (u : Bool) → let W = whole_memory kept_0 kept_1 m (cond u rest x) (cond u x rest) (entries log) in let V = whole_memory kept_0 kept_1 m' (cond u (fronts own_lent rest) y) (cond u y (fronts own_lent rest)) (entries log') in put_seat (put_seat (with_log V (entries log' ++ drop t.records (entries log))) (other u) (with_slots (seat V (other u)) (slots_of (seat W (other u))))) u (with_slots (seat V u) (joined l (slots_of (seat V u)) (slots_of (seat W u)))) ≡ whole_memory kept_0 kept_1 m' (cond u rest (joined l y x)) (cond u (joined l y x) rest) (entries log' ++ drop t.records (entries log))
      at true = refl
      at false = refl

  module _ (made : outcome O code frames ≡ result a B n t.call) where
    made' : step_result a M t ≡ outcome O code frames
    made' = ap (λ b. result a b n t.call) brought_is ∙ sym made

    pub turn_answers : (code ≡ (step_result a M t).code) × (frames ≡ (step_result a M t).frames)
    turn_answers = (sym (ap (λ (o : Outcome I). o.code) made'), sym (ap (λ (o : Outcome I). o.frames) made'))

    pub turn_leaves : memory kept_0 kept_1 m' n (joined l y x) rest (entries (log' ++ drop t.records log)) ≡ next a M t
    turn_leaves =
        ap (memory kept_0 kept_1 m' n (joined l y x) rest) (map-append entry_of log' (drop t.records log) ∙ ap (λ r. entries log' ++ r) (sym (drop-map entry_of t.records log)))
        ∙ sym put_back_is
        ∙ ap (λ (o : Outcome I). put_back M t o.left) (sym made')

taken : {T : Type 0} (k j : ℕ) (xs : List T) → k ≡ min j (length xs) → take k xs ≡ take j xs
taken k j xs e = ap (λ i. take i xs) e ∙ take_min j xs

dropped : {T : Type 0} (k j : ℕ) (xs : List T) → k ≡ min j (length xs) → drop k xs ≡ drop j xs
dropped k j xs e = ap (λ i. drop i xs) e ∙ drop_min j xs

-- as code has it, which lends as many as there are or fewer
module _ {G K0 K1 H0 H1 I : Type 0} (kept_0 : K0 → Kept) (kept_1 : K1 → Kept) (a : Setup I) (m m' : Match G K0 K1 H0 H1) (t : Step) (x y rest : SlotLists I) (log log' : List Record) (code frames : ℕ) (owns others digests records : ℕ) (e₁ : owns ≡ min t.slots.own_slots (length x.own)) (e₂ : others ≡ min t.slots.other_slots (length x.others)) (e₃ : digests ≡ min t.slots.digest_slots (length x.digests)) (e₄ : records ≡ min t.records (length log)) (made : outcome (memory kept_0 kept_1 m' t.number y (fronts own_lent rest) (entries log')) code frames ≡ result a (memory kept_0 kept_1 m t.number (record { own = take owns x.own; others = take others x.others; digests = take digests x.digests }) (fronts own_lent rest) (entries (take records log))) t.number t.call) where
  made'' : outcome (memory kept_0 kept_1 m' t.number y (fronts own_lent rest) (entries log')) code frames ≡ result a (memory kept_0 kept_1 m t.number (fronts t.slots x) (fronts own_lent rest) (entries (take t.records log))) t.number t.call
  made'' =
      let p = taken owns t.slots.own_slots x.own e₁ in
      let q = taken others t.slots.other_slots x.others e₂ in
      let r = taken digests t.slots.digest_slots x.digests e₃ in
      let u = taken records t.records log e₄ in
      made ∙ (λ i. result a (memory kept_0 kept_1 m t.number (record { own = p i; others = q i; digests = r i }) (fronts own_lent rest) (entries (u i))) t.number t.call)

  pub lent_answers : (code ≡ (step_result a (memory kept_0 kept_1 m t.number x rest (entries log)) t).code) × (frames ≡ (step_result a (memory kept_0 kept_1 m t.number x rest (entries log)) t).frames)
  lent_answers = turn_answers kept_0 kept_1 a m m' t x y rest log log' code frames made''

  pub lent_leaves : memory kept_0 kept_1 m' t.number (record { own = y.own ++ drop owns x.own; others = y.others ++ drop others x.others; digests = y.digests ++ drop digests x.digests }) rest (entries (log' ++ drop records log)) ≡ next a (memory kept_0 kept_1 m t.number x rest (entries log)) t
  lent_leaves =
      let p = dropped owns t.slots.own_slots x.own e₁ in
      let q = dropped others t.slots.other_slots x.others e₂ in
      let r = dropped digests t.slots.digest_slots x.digests e₃ in
      let u = dropped records t.records log e₄ in
      (λ i. memory kept_0 kept_1 m' t.number (record { own = y.own ++ p i; others = y.others ++ q i; digests = y.digests ++ r i }) rest (entries (log' ++ u i)))
      ∙ turn_leaves kept_0 kept_1 a m m' t x y rest log log' code frames made''
