-- A ring place by place: the k-th from the newest stands k places on, around eight.
use Rattle.std.proofs.Common.{◌≡◌, ℕ, zero, suc, ◌+◌, ◌-◌, ◌%◌, ◌<◌, ◌≤◌, min, List, ◌∷◌, ◌++◌, length, get_or, take, drop, set, Some, None, sym, ap, ◌∙◌, ⊎_elim, arith, length-drop, length-set}
use Rattle.std.specs.List.{slice_get}
use Rattle.std.proofs.lemmas.Option.{slice_get-get_or}
use Rattle.std.proofs.lemmas.Bool.{cases_lt}
use Rattle.interface.proofs.Slots.{slice_get-set_same, slice_get-set_other, slice_get-take, slice_get-take_past, slice_get-drop, slice_get_append_left, slice_get-append-add, ext_slice_get}
use Rattle.keepers.specs.Rings.{around}

module _ {T : Type 0} where
  pub around_at : (ps : List T) (n c k : ℕ) → length ps ≡ 8 → n < 8 → c ≤ 8 → k < c → slice_get (around ps n c) k ≡ slice_get ps ((n + k) % 8)
  around_at ps n c k long inside few h =
      let rest = length-drop n ps in
      slice_get-take c (drop n ps ++ take n ps) k h ∙ ⊎_elim
      (λ near.
      let at : n + k ≡ (n + k) % 8 = omega arith in
      slice_get_append_left (drop n ps) (take n ps) k near ∙ slice_get-drop n ps k ∙ ap (slice_get ps) at)
      (λ far.
      let j : ℕ = k - length (drop n ps) in
      let back : k ≡ length (drop n ps) + j = omega arith in
      let at : j ≡ (n + k) % 8 = omega arith in
      ap (slice_get (drop n ps ++ take n ps)) back ∙ slice_get-append-add (drop n ps) (take n ps) j ∙ slice_get-take n ps j (omega arith) ∙ ap (slice_get ps) at)
      (cases_lt k (length (drop n ps)))

  pub around_past : (ps : List T) (n c k : ℕ) → c ≤ k → slice_get (around ps n c) k ≡ None
  around_past ps n c k h = slice_get-take_past c (drop n ps ++ take n ps) k h

  -- what the code reads of a place is what the list has there
  pub around_read : (ps : List T) (n c k : ℕ) (d : T) → length ps ≡ 8 → n < 8 → c ≤ 8 → k < c → Some (get_or ps ((n + k) % 8) d) ≡ slice_get (around ps n c) k
  around_read ps n c k d long inside few h = sym (around_at ps n c k long inside few h ∙ slice_get-get_or ps ((n + k) % 8) d (omega arith))

  pub around_pushed : (ps : List T) (n c m d : ℕ) (x : T) → length ps ≡ 8 → n < 8 → c ≤ 8 → m ≡ (n + 8 - 1) % 8 → d ≡ min (c + 1) 8 → around (set ps m x) m d ≡ take 8 (x ∷ around ps n c)
  around_pushed ps n c m d x long inside few em ed = ext_slice_get (around (set ps m x) m d) (take 8 (x ∷ around ps n c)) at
    where
      wide : length (set ps m x) ≡ 8
      wide = length-set ps m x ∙ long

      at : (k : ℕ) → slice_get (around (set ps m x) m d) k ≡ slice_get (take 8 (x ∷ around ps n c)) k
      at zero =
          let here : (m + 0) % 8 ≡ m = omega arith in
          around_at (set ps m x) m d 0 wide (omega arith) (omega arith) (omega arith) ∙ ap (slice_get (set ps m x)) here ∙ slice_get-set_same ps m x (omega arith)
      at (suc j) =
          ⊎_elim
          (λ h.
          let place : (m + suc j) % 8 ≡ (n + j) % 8 = omega arith in
          around_at (set ps m x) m d (suc j) wide (omega arith) (omega arith) h
          ∙ slice_get-set_other ps m ((m + suc j) % 8) x (λ e. omega arith)
          ∙ ap (slice_get ps) place
          ∙ sym (slice_get-take 7 (around ps n c) j (omega arith) ∙ around_at ps n c j long inside few (omega arith)))
          (λ h.
          around_past (set ps m x) m d (suc j) h ∙ sym (⊎_elim
          (λ near. slice_get-take 7 (around ps n c) j near ∙ around_past ps n c j (omega arith))
          (λ far. slice_get-take_past 7 (around ps n c) j far)
          (cases_lt j 7)))
          (cases_lt (suc j) d)

  pub around_dropped : (ps : List T) (n c g m : ℕ) → length ps ≡ 8 → n < 8 → c ≤ 8 → g ≡ min m c → around ps ((n + g) % 8) (c - g) ≡ drop m (around ps n c)
  around_dropped ps n c g m long inside few e = ext_slice_get (around ps ((n + g) % 8) (c - g)) (drop m (around ps n c)) at
    where
      at : (k : ℕ) → slice_get (around ps ((n + g) % 8) (c - g)) k ≡ slice_get (drop m (around ps n c)) k
      at k =
          ⊎_elim
          (λ h.
          let place : ((n + g) % 8 + k) % 8 ≡ (n + (m + k)) % 8 = omega arith in
          around_at ps ((n + g) % 8) (c - g) k long (omega arith) (omega arith) h ∙ ap (slice_get ps) place ∙ sym (slice_get-drop m (around ps n c) k ∙ around_at ps n c (m + k) long inside few (omega arith)))
          (λ h. around_past ps ((n + g) % 8) (c - g) k h ∙ sym (slice_get-drop m (around ps n c) k ∙ around_past ps n c (m + k) (omega arith)))
          (cases_lt k (c - g))
