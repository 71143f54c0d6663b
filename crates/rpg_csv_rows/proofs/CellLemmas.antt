-- The first cell of a row, and those after it.
use Rattle.std.proofs.Common.{◌≡◌, ℕ, suc, ◌+◌, ◌-◌, ◌<◌, ◌≤◌, ◌&&◌, ◌||◌, Bool, true, false, not, cond, eqb, nat_le, nat_lt, get_or, List, [], ◌∷◌, ◌++◌, length, take, drop, slice_range, refl, sym, ap, ◌∙◌, arith, one-add, add-one, length-drop, length-take, take_all, inl, inr, append-nil, append_assoc, map, Err, None, Option, Some}
use Rattle.std.proofs.Math.Seq.{drop-cons, take-add}
use Rattle.std.proofs.lemmas.Bool.{cases_lt, eqb-true, le-leb, lt-leb, lt-ltb}
use Rattle.std.proofs.lemmas.List.{drop-drop, map-append, take-take, take_rest}
use Rattle.std.specs.Prelude.{◌⊎◌}
use Rattle.std.specs.List.{list_any}
use Rattle.rpg_csv_rows.specs.declared.cells.CellFault.{CellFault}
use Rattle.rpg_csv_rows.specs.declared.cells.CellPlace.{CellPlace}
use Rattle.rpg_csv_rows.specs.Cells.{cell_fault, checked_after, checked_row, content_of, is_mark, is_open_after, onto_cell, raw_cells, raw_end, undoubled}

-- a delimiter ends the first cell
pub first_of_many : (d : ℕ) (text : List ℕ) (inside : Bool) (n : ℕ) → raw_end d inside text ≡ n → n < length text
    → raw_cells d inside text ≡ take n text ∷ raw_cells d false (drop (n + 1) text)
first_of_many d [] inside n e h = absurd (omega arith)
first_of_many d (c ∷ cs) inside n e h = at (eqb c d && not inside) e (first_of_many d cs (is_open_after inside c) (raw_end d (is_open_after inside c) cs) refl)
  where
    at : (b : Bool) → cond b 0 (1 + raw_end d (is_open_after inside c) cs) ≡ n
        → (raw_end d (is_open_after inside c) cs < length cs → raw_cells d (is_open_after inside c) cs ≡ take (raw_end d (is_open_after inside c) cs) cs ∷ raw_cells d false (drop (raw_end d (is_open_after inside c) cs + 1) cs))
        → cond b ([] ∷ raw_cells d false cs) (onto_cell c (raw_cells d (is_open_after inside c) cs)) ≡ take n (c ∷ cs) ∷ raw_cells d false (drop (n + 1) (c ∷ cs))
    at true f more = ap (λ (k : ℕ). take k (c ∷ cs) ∷ raw_cells d false (drop (k + 1) (c ∷ cs))) f
    at false f more =
        let m = raw_end d (is_open_after inside c) cs in
        let same : suc m ≡ n = sym (one-add m) ∙ f in
        let few : m < length cs = omega (arith, same, h) in
        let step : suc (m + 1) ≡ suc m + 1 = omega arith in
        ap (onto_cell c) (more few) ∙ ap (λ (j : ℕ). (c ∷ take m cs) ∷ raw_cells d false (drop j (c ∷ cs))) step
        ∙ ap (λ (k : ℕ). take k (c ∷ cs) ∷ raw_cells d false (drop (k + 1) (c ∷ cs))) same

-- no delimiter
pub only_one : (d : ℕ) (text : List ℕ) (inside : Bool) → length text ≤ raw_end d inside text → raw_cells d inside text ≡ text ∷ []
only_one d [] inside h = refl
only_one d (c ∷ cs) inside h = at (eqb c d && not inside) h (only_one d cs (is_open_after inside c))
  where
    at : (b : Bool) → suc (length cs) ≤ cond b 0 (1 + raw_end d (is_open_after inside c) cs)
        → (length cs ≤ raw_end d (is_open_after inside c) cs → raw_cells d (is_open_after inside c) cs ≡ cs ∷ [])
        → cond b ([] ∷ raw_cells d false cs) (onto_cell c (raw_cells d (is_open_after inside c) cs)) ≡ (c ∷ cs) ∷ []
    at true g more = absurd (omega arith)
    at false g more = ap (onto_cell c) (more (omega arith))

-- the cells from a place of a row on; after its end there are none
abbrev pub cells_from : ℕ → List ℕ → ℕ → List (List ℕ)
cells_from d row start = cond (nat_le start (length row)) (raw_cells d false (drop start row)) []

-- the first of them, and the others
pub next_cells : (d : ℕ) (row : List ℕ) (start n : ℕ) → start ≤ length row → n ≡ raw_end d false (drop start row)
    → cells_from d row start ≡ take n (drop start row) ∷ cells_from d row (start + n + 1)
next_cells d row start n h e = by (cases_lt n (length (drop start row)))
  where
    here : cells_from d row start ≡ raw_cells d false (drop start row)
    here = ap (λ (b : Bool). cond b (raw_cells d false (drop start row)) []) (le-leb start (length row) h)

    by : (n < length (drop start row)) ⊎ (length (drop start row) ≤ n) → cells_from d row start ≡ take n (drop start row) ∷ cells_from d row (start + n + 1)
    by (inl lt) =
        let inside : start + n + 1 ≤ length row = omega (arith, length-drop start row) in
        let parts : start + (n + 1) ≡ start + n + 1 = omega arith in
        let rest : drop (n + 1) (drop start row) ≡ drop (start + n + 1) row = drop-drop (n + 1) start row ∙ ap (λ (k : ℕ). drop k row) parts in
        here ∙ first_of_many d (drop start row) false n (sym e) lt ∙ ap (λ (l : List ℕ). take n (drop start row) ∷ raw_cells d false l) rest
        ∙ ap (λ (b : Bool). take n (drop start row) ∷ cond b (raw_cells d false (drop (start + n + 1) row)) []) (sym (le-leb (start + n + 1) (length row) inside))
    by (inr le) =
        let after : length row < start + n + 1 = omega (arith, length-drop start row) in
        here ∙ only_one d (drop start row) false (omega (arith, e)) ∙ ap (λ (l : List ℕ). l ∷ []) (sym (take_all n (drop start row) le))
        ∙ ap (λ (b : Bool). take n (drop start row) ∷ cond b (raw_cells d false (drop (start + n + 1) row)) []) (sym (lt-leb (start + n + 1) (length row) after))

-- ---- contents

pub or_false : (a b : Bool) → (a || b) ≡ false → (a ≡ false) × (b ≡ false)
or_false true b h = cc
or_false false b h = (refl, h)

no_marks : (text : List ℕ) → list_any is_mark text ≡ false → undoubled false text ≡ text
no_marks [] h = refl
no_marks (c ∷ cs) h =
    let p = or_false (is_mark c) (list_any is_mark cs) h in
    ap (λ (b : Bool). c ∷ undoubled b cs) p.0 ∙ ap (λ (l : List ℕ). c ∷ l) (no_marks cs p.1)

enclosed : (m : ℕ) (ys : List ℕ) → suc m ≤ length ys → content_of (34 ∷ take (suc m) ys) ≡ undoubled false (take m ys)
enclosed m [] h = absurd (omega arith)
enclosed m (y ∷ ys) h =
    let one : suc (length (take m ys)) - 1 ≡ m = omega (arith, length-take m ys) in
    let some : nat_lt 0 (suc (length (take m ys))) ≡ true = lt-ltb 0 (suc (length (take m ys))) (omega arith) in
    ap (λ (b : Bool). cond b (undoubled false (take (suc (length (take m ys)) - 1) (y ∷ take m ys))) (34 ∷ y ∷ take m ys)) some
    ∙ ap (λ (k : ℕ). undoubled false (take k (y ∷ take m ys))) one ∙ ap (undoubled false) (take-take m (suc m) (y ∷ ys) (omega arith))

-- a cell in quotation marks
pub quoted_place : (row : List ℕ) (start end : ℕ) (marks : Bool) → 1 < end - start → end ≤ length row → get_or row start 0 ≡ 34
    → marks ≡ list_any is_mark (slice_range row (start + 1) (end - 1))
    → cond marks (undoubled false (slice_range row (start + 1) (end - 1))) (slice_range row (start + 1) (end - 1)) ≡ content_of (slice_range row start end)
quoted_place row start end marks some within first e =
    let m = end - start - 2 in
    let size : end - start ≡ suc (suc m) = omega arith in
    let inside : start < length row = omega arith in
    let begins : drop start row ≡ 34 ∷ drop (suc start) row = drop-cons row start 0 inside ∙ ap (λ (c : ℕ). c ∷ drop (suc start) row) first in
    let whole : slice_range row start end ≡ 34 ∷ take (suc m) (drop (suc start) row) = ap (λ (k : ℕ). take k (drop start row)) size ∙ ap (take (suc (suc m))) begins in
    let less : end - 1 - (start + 1) ≡ m = omega arith in
    let inner : slice_range row (start + 1) (end - 1) ≡ take m (drop (suc start) row) = ap (λ (k : ℕ). take k (drop (start + 1) row)) less ∙ ap (λ (k : ℕ). take m (drop k row)) (add-one start) in
    let content : content_of (slice_range row start end) ≡ undoubled false (slice_range row (start + 1) (end - 1)) =
    ap content_of whole ∙ enclosed m (drop (suc start) row) (omega (arith, length-drop (suc start) row)) ∙ ap (undoubled false) (sym inner) in
    at marks (sym e) ∙ sym content
  where
    at : (b : Bool) → list_any is_mark (slice_range row (start + 1) (end - 1)) ≡ b
        → cond b (undoubled false (slice_range row (start + 1) (end - 1))) (slice_range row (start + 1) (end - 1)) ≡ undoubled false (slice_range row (start + 1) (end - 1))
    at true f = refl
    at false f = sym (no_marks (slice_range row (start + 1) (end - 1)) f)

alone : (c : ℕ) (t : List ℕ) → (c ≡ 34 → length t ≡ 0) → content_of (c ∷ t) ≡ c ∷ t
alone c t h = at (eqb c 34) refl
  where
    at : (b : Bool) → eqb c 34 ≡ b → cond (b && nat_lt 0 (length t)) (undoubled false (take (length t - 1) t)) (c ∷ t) ≡ c ∷ t
    at false e = refl
    at true e = ap (λ (k : ℕ). cond (nat_lt 0 k) (undoubled false (take (length t - 1) t)) (c ∷ t)) (h (eqb-true c 34 e))

-- any other cell
pub plain_place : (row : List ℕ) (start end : ℕ) → end ≤ length row → (start < end → get_or row start 0 ≡ 34 → end - start ≤ 1)
    → slice_range row start end ≡ content_of (slice_range row start end)
plain_place row start end within other = by (cases_lt start end)
  where
    by : (start < end) ⊎ (end ≤ start) → slice_range row start end ≡ content_of (slice_range row start end)
    by (inr none) =
        let size : end - start ≡ 0 = omega arith in
        let whole : slice_range row start end ≡ [] = ap (λ (k : ℕ). take k (drop start row)) size in
        whole ∙ sym (ap content_of whole)
    by (inl some) =
        let m = end - start - 1 in
        let size : end - start ≡ suc m = omega arith in
        let inside : start < length row = omega arith in
        let c = get_or row start 0 in
        let t = take m (drop (suc start) row) in
        let whole : slice_range row start end ≡ c ∷ t = ap (λ (k : ℕ). take k (drop start row)) size ∙ ap (take (suc m)) (drop-cons row start 0 inside) in
        let few : c ≡ 34 → length t ≡ 0 = λ f. (let one = other some f in omega (arith, length-take m (drop (suc start) row))) in
        whole ∙ sym (ap content_of whole ∙ alone c t few)

-- ---- its end

pub end_within : (d : ℕ) (inside : Bool) (text : List ℕ) → raw_end d inside text ≤ length text
end_within d inside [] = omega arith
end_within d inside (c ∷ cs) = at (eqb c d && not inside) (end_within d (is_open_after inside c) cs)
  where
    at : (b : Bool) → raw_end d (is_open_after inside c) cs ≤ length cs → cond b 0 (1 + raw_end d (is_open_after inside c) cs) ≤ suc (length cs)
    at true h = omega arith
    at false h = omega arith

-- A cell is bad by its character c after n others that are good so far: F finds what is wrong with a cell, and G with what follows them.
pub bad_cell : (F G : List ℕ → Option CellFault) (d n c : ℕ) (before inside : Bool) (text cs : List ℕ) (f : CellFault) → drop n text ≡ c ∷ cs
    → (eqb c d && not inside) ≡ false → raw_end d before text ≡ n + raw_end d inside (drop n text) → ((ys : List ℕ) → F (take n text ++ ys) ≡ G ys)
    → ((ys : List ℕ) → G (c ∷ ys) ≡ Some f) → F (take (raw_end d before text) text) ≡ Some f
bad_cell F G d n c before inside text cs f e other end good bad =
    let k = raw_end d (is_open_after inside c) cs in
    let more : raw_end d inside (drop n text) ≡ suc k = ap (raw_end d inside) e ∙ ap (λ (b : Bool). cond b 0 (1 + k)) other ∙ one-add k in
    let cut : take (n + suc k) text ≡ take n text ++ c ∷ take k cs = take-add n (suc k) text ∙ ap (λ (l : List ℕ). take n text ++ take (suc k) l) e in
    ap (λ (j : ℕ). F (take j text)) (end ∙ ap (λ (j : ℕ). n + j) more) ∙ ap F cut ∙ good (c ∷ take k cs) ∙ bad (take k cs)

-- nothing follows them
pub good_cell : (F G : List ℕ → Option CellFault) (n : ℕ) (text : List ℕ) → ((ys : List ℕ) → F (take n text ++ ys) ≡ G ys) → F (take n text) ≡ G []
good_cell F G n text good = ap F (sym (append-nil (take n text))) ∙ good []

-- ---- one cell more

cut_same : (row : List ℕ) (start n : ℕ) → slice_range row start (start + n) ≡ take n (take (length row - start) (drop start row))
cut_same row start n =
    let size : start + n - start ≡ n = omega arith in
    ap (λ (k : ℕ). take k (drop start row)) size ∙ ap (take n) (sym (take_rest row start))

-- the first of the cells from a place on
pub first_from : (d : ℕ) (row : List ℕ) (start n : ℕ) → start ≤ length row → n ≡ raw_end d false (take (length row - start) (drop start row))
    → cells_from d row start ≡ slice_range row start (start + n) ∷ cells_from d row (start + n + 1)
first_from d row start n h e =
    let size : start + n - start ≡ n = omega arith in
    next_cells d row start n h (e ∙ ap (raw_end d false) (take_rest row start)) ∙ ap (λ (k : ℕ). take k (drop start row) ∷ cells_from d row (start + n + 1)) (sym size)

pub contents_more : (f : CellPlace → List ℕ) (all : List (List ℕ)) (old new : List CellPlace) (p : CellPlace) (raw : List ℕ) (cells next : List (List ℕ))
    → map content_of all ≡ map f old ++ map content_of cells → cells ≡ raw ∷ next → f p ≡ content_of raw → new ≡ old ++ p ∷ [] → map content_of all ≡ map f new ++ map content_of next
contents_more f all old new p raw cells next e first same more =
    e ∙ ap (λ (l : List (List ℕ)). map f old ++ map content_of l) first ∙ ap (λ (x : List ℕ). map f old ++ x ∷ map content_of next) (sym same)
    ∙ sym (append_assoc (map f old) (f p ∷ []) (map content_of next)) ∙ ap (λ (l : List (List ℕ)). l ++ map content_of next) (sym (map-append f old (p ∷ [])))
    ∙ ap (λ (l : List CellPlace). map f l ++ map content_of next) (sym more)

pub strict_more : (all cells next : List (List ℕ)) (raw : List ℕ) (k : ℕ) → checked_row 0 all ≡ checked_row k cells → cells ≡ raw ∷ next → cell_fault raw ≡ None
    → checked_row 0 all ≡ checked_row (k + 1) next
strict_more all cells next raw k e first none = e ∙ ap (checked_row k) first ∙ ap (λ (f : Option CellFault). checked_after (k + 1) f (checked_row (k + 1) next)) none

pub bad_row : (all cells next : List (List ℕ)) (raw : List ℕ) (k : ℕ) (fault : CellFault) → checked_row 0 all ≡ checked_row k cells → cells ≡ raw ∷ next → cell_fault raw ≡ Some fault
    → checked_row 0 all ≡ Err (record { cell = k + 1; fault = fault })
bad_row all cells next raw k fault e first some = e ∙ ap (checked_row k) first ∙ ap (λ (f : Option CellFault). checked_after (k + 1) f (checked_row (k + 1) next)) some

-- what is found in the slice of a row from a place on
pub found_there : (row : List ℕ) (start n : ℕ) (found : Option CellFault) → cell_fault (take n (take (length row - start) (drop start row))) ≡ found
    → cell_fault (slice_range row start (start + n)) ≡ found
found_there row start n found e = ap cell_fault (cut_same row start n) ∙ e
