-- Lines written one after another.
use Rattle.std.proofs.Common.{◌≡◌, ℕ, ◌+◌, ◌<◌, ◌≤◌, List, [], ◌∷◌, ◌++◌, map, length, get_or, take, codes, sym, refl, ap, ◌∙◌}
use Rattle.std.proofs.lemmas.List.{append_assoc, take_all, map_more}
use Rattle.trace.specs.declared.forms.First.{First}
use Rattle.trace.specs.declared.forms.TraceTurn.{TraceTurn}
use Rattle.trace.specs.Pieces.{line_feed}
use Rattle.trace.specs.Writing.{first_words, turn_words, line_of, ended_lines, text_of}

abbrev pub turn_text : TraceTurn → List ℕ
turn_text t = line_of (turn_words t)

pub ended_append : (ls ms : List (List ℕ)) → ended_lines (ls ++ ms) ≡ ended_lines ls ++ ended_lines ms
ended_append [] ms = refl
ended_append (l ∷ ls) ms = ap (λ x. l ++ line_feed ∷ x) (ended_append ls ms) ∙ sym (append_assoc l (line_feed ∷ ended_lines ls) (ended_lines ms))

-- one line more
pub lines_more : (before : List ℕ) (ts : List TraceTurn) (i : ℕ) (d : TraceTurn) (bs : List ℕ) → i < length ts → bs ≡ before ++ ended_lines (map turn_text (take i ts)) → bs ++ (turn_text (get_or ts i d) ++ line_feed ∷ []) ≡ before ++ ended_lines (map turn_text (take (i + 1) ts))
lines_more before ts i d bs h e =
    let lines : ended_lines (map turn_text (take (i + 1) ts)) ≡ ended_lines (map turn_text (take i ts)) ++ (turn_text (get_or ts i d) ++ line_feed ∷ []) = ap ended_lines (map_more turn_text ts i d h) ∙ ended_append (map turn_text (take i ts)) (turn_text (get_or ts i d) ∷ []) in
    ap (λ x. x ++ (turn_text (get_or ts i d) ++ line_feed ∷ [])) e ∙ append_assoc before (ended_lines (map turn_text (take i ts))) (turn_text (get_or ts i d) ++ line_feed ∷ []) ∙ ap (λ x. before ++ x) (sym lines)

-- all lines, and the last
pub lines_all : (f : First) (ts : List TraceTurn) (i : ℕ) (before bs : List ℕ) → length ts ≤ i → before ≡ line_of (first_words f) ++ line_feed ∷ [] → bs ≡ before ++ ended_lines (map turn_text (take i ts)) → bs ++ codes "end\n" ≡ text_of f ts
lines_all f ts i before bs h e0 eb =
    let l = line_of (first_words f) in
    let body = ended_lines (map turn_text ts) in
    ap (λ x. x ++ codes "end\n") (eb ∙ ap (λ x. before ++ ended_lines (map turn_text x)) (take_all i ts h) ∙ ap (λ x. x ++ body) e0) ∙ ap (λ x. x ++ codes "end\n") (append_assoc l (line_feed ∷ []) body) ∙ append_assoc l (line_feed ∷ body) (codes "end\n") ∙ ap (λ x. l ++ line_feed ∷ x) (sym (ended_append (map turn_text ts) (codes "end" ∷ [])))
