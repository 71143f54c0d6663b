-- Cells that are written are read back.
use Rattle.std.proofs.Common.{◌≡◌, ℕ, ◌-◌, ◌==◌, ◌&&◌, ◌||◌, Bool, true, false, not, cond, eqb, nat_lt, List, [], ◌∷◌, ◌++◌, length, map, take, refl, sym, ap, ◌∙◌, arith, None, Some, length-append}
use Rattle.std.proofs.Math.Seq.{take-append_seam}
use Rattle.std.proofs.lemmas.Bool.{eq-eqb, eqb-true, lt-ltb}
use Rattle.std.specs.List.{list_any}
use Rattle.rpg_csv_rows.proofs.CellLemmas.{or_false}
use Rattle.rpg_csv_rows.specs.Cells.{cell_fault, content_of, is_open_after, onto_cell, plain_fault, quoted_fault, raw_cells, undoubled}
use Rattle.rpg_csv_rows.specs.Quoting.{CellsAreReadBack, doubled, is_special, joined, quoted, written_cell}
use Rattle.rpg_csv_rows.specs.declared.cells.CellFault.TheVariants as faults
use Rattle.rpg_csv_rows.specs.declared.quoting.Quoting.{Quoting}

-- ---- its delimiters are inside quotation marks, and none is open after it

abbrev pub stays : ℕ → Bool → List ℕ → Bool
stays d inside [] = not inside
stays d inside (c ∷ cs) = not (c == d && not inside) && stays d (is_open_after inside c) cs

-- a delimiter after such a cell separates it
cells_front : (d : ℕ) (xs rest : List ℕ) (inside : Bool) → stays d inside xs ≡ true → raw_cells d inside (xs ++ d ∷ rest) ≡ xs ∷ raw_cells d false rest
cells_front d [] rest true h = cc
cells_front d [] rest false h = ap (λ (b : Bool). cond (b && true) ([] ∷ raw_cells d false rest) (onto_cell d (raw_cells d (is_open_after false d) rest))) (eq-eqb d d refl)
cells_front d (c ∷ cs) rest inside h = at (eqb c d && not inside) h (cells_front d cs rest (is_open_after inside c))
  where
    at : (b : Bool) → (not b && stays d (is_open_after inside c) cs) ≡ true
        → (stays d (is_open_after inside c) cs ≡ true → raw_cells d (is_open_after inside c) (cs ++ d ∷ rest) ≡ cs ∷ raw_cells d false rest)
        → cond b ([] ∷ raw_cells d false (cs ++ d ∷ rest)) (onto_cell c (raw_cells d (is_open_after inside c) (cs ++ d ∷ rest))) ≡ (c ∷ cs) ∷ raw_cells d false rest
    at true g more = cc
    at false g more = ap (onto_cell c) (more g)

-- such a cell alone
one_cell : (d : ℕ) (xs : List ℕ) (inside : Bool) → stays d inside xs ≡ true → raw_cells d inside xs ≡ xs ∷ []
one_cell d [] inside h = refl
one_cell d (c ∷ cs) inside h = at (eqb c d && not inside) h (one_cell d cs (is_open_after inside c))
  where
    at : (b : Bool) → (not b && stays d (is_open_after inside c) cs) ≡ true → (stays d (is_open_after inside c) cs ≡ true → raw_cells d (is_open_after inside c) cs ≡ cs ∷ [])
        → cond b ([] ∷ raw_cells d false cs) (onto_cell c (raw_cells d (is_open_after inside c) cs)) ≡ (c ∷ cs) ∷ []
    at true g more = cc
    at false g more = ap (onto_cell c) (more g)

-- a cell that needs no quotation marks stays
plain_stays : (d : ℕ) (cell : List ℕ) → list_any (is_special d) cell ≡ false → stays d false cell ≡ true
plain_stays d [] h = refl
plain_stays d (c ∷ cs) h =
    let p = or_false (is_special d c) (list_any (is_special d) cs) h in
    let q = or_false (eqb c d) (eqb c 34 || (eqb c 13 || eqb c 10)) p.0 in
    let r = or_false (eqb c 34) (eqb c 13 || eqb c 10) q.1 in
    ap (λ (b : Bool). not (b && true) && stays d (is_open_after false c) cs) q.0 ∙ ap (λ (b : Bool). stays d (cond b true false) cs) r.0 ∙ plain_stays d cs p.1

inside_stays : (d c : ℕ) (rest : List ℕ) (b : Bool) → eqb c d ≡ b → stays d true (c ∷ rest) ≡ stays d (is_open_after true c) rest
inside_stays d c rest true e = ap (λ (b : Bool). not (b && false) && stays d (is_open_after true c) rest) e
inside_stays d c rest false e = ap (λ (b : Bool). not (b && false) && stays d (is_open_after true c) rest) e

mark_opens : (d : ℕ) (rest : List ℕ) → eqb 34 d ≡ false → stays d false (34 ∷ rest) ≡ stays d true rest
mark_opens d rest e = ap (λ (b : Bool). not (b && true) && stays d true rest) e

-- so does one in quotation marks
doubled_stays : (d : ℕ) (cell : List ℕ) → eqb 34 d ≡ false → stays d true (doubled cell ++ 34 ∷ []) ≡ true
doubled_stays d [] m = inside_stays d 34 [] (eqb 34 d) refl
doubled_stays d (c ∷ cs) m = at (eqb c 34) refl (doubled_stays d cs m)
  where
    at : (b : Bool) → eqb c 34 ≡ b → stays d true (doubled cs ++ 34 ∷ []) ≡ true → stays d true (cond b (c ∷ (34 ∷ doubled cs)) (c ∷ doubled cs) ++ 34 ∷ []) ≡ true
    at true e h =
        inside_stays d c (34 ∷ (doubled cs ++ 34 ∷ [])) (eqb c d) refl ∙ ap (λ (b : Bool). stays d (cond b false true) (34 ∷ (doubled cs ++ 34 ∷ []))) e
        ∙ mark_opens d (doubled cs ++ 34 ∷ []) m ∙ h
    at false e h = inside_stays d c (doubled cs ++ 34 ∷ []) (eqb c d) refl ∙ ap (λ (b : Bool). stays d (cond b false true) (doubled cs ++ 34 ∷ [])) e ∙ h

quoted_stays : (d : ℕ) (cell : List ℕ) → eqb 34 d ≡ false → stays d false (quoted cell) ≡ true
quoted_stays d cell m = mark_opens d (doubled cell ++ 34 ∷ []) m ∙ doubled_stays d cell m

-- ---- it is strict

plain_strict : (d : ℕ) (cell : List ℕ) → list_any (is_special d) cell ≡ false → plain_fault cell ≡ None
plain_strict d [] h = refl
plain_strict d (c ∷ cs) h =
    let p = or_false (is_special d c) (list_any (is_special d) cs) h in
    let q = or_false (eqb c d) (eqb c 34 || (eqb c 13 || eqb c 10)) p.0 in
    let r = or_false (eqb c 34) (eqb c 13 || eqb c 10) q.1 in
    let s = or_false (eqb c 13) (eqb c 10) r.1 in
    ap (λ (b : Bool). cond b (Some faults.StrayMark) (cond (eqb c 13) (Some faults.LoneReturn) (plain_fault cs))) r.0
    ∙ ap (λ (b : Bool). cond b (Some faults.LoneReturn) (plain_fault cs)) s.0 ∙ plain_strict d cs p.1

first_plain : (d c : ℕ) (cs : List ℕ) → list_any (is_special d) (c ∷ cs) ≡ false → eqb c 34 ≡ false
first_plain d c cs h =
    let p = or_false (is_special d c) (list_any (is_special d) cs) h in
    let q = or_false (eqb c d) (eqb c 34 || (eqb c 13 || eqb c 10)) p.0 in
    (or_false (eqb c 34) (eqb c 13 || eqb c 10) q.1).0

plain_cell : (d : ℕ) (cell : List ℕ) → list_any (is_special d) cell ≡ false → cell_fault cell ≡ None
plain_cell d [] h = refl
plain_cell d (c ∷ cs) h = ap (λ (b : Bool). cond b (quoted_fault false cs) (plain_fault (c ∷ cs))) (first_plain d c cs h) ∙ plain_strict d (c ∷ cs) h

doubled_strict : (cell : List ℕ) → quoted_fault false (doubled cell ++ 34 ∷ []) ≡ None
doubled_strict [] = refl
doubled_strict (c ∷ cs) = at (eqb c 34) refl (doubled_strict cs)
  where
    at : (b : Bool) → eqb c 34 ≡ b → quoted_fault false (doubled cs ++ 34 ∷ []) ≡ None → quoted_fault false (cond b (c ∷ (34 ∷ doubled cs)) (c ∷ doubled cs) ++ 34 ∷ []) ≡ None
    at true e h = ap (λ (b : Bool). cond b (quoted_fault true (34 ∷ (doubled cs ++ 34 ∷ []))) (quoted_fault false (34 ∷ (doubled cs ++ 34 ∷ [])))) e ∙ h
    at false e h = ap (λ (b : Bool). cond b (quoted_fault true (doubled cs ++ 34 ∷ [])) (quoted_fault false (doubled cs ++ 34 ∷ []))) e ∙ h

-- ---- its content

plain_content : (d : ℕ) (cell : List ℕ) → list_any (is_special d) cell ≡ false → content_of cell ≡ cell
plain_content d [] h = refl
plain_content d (c ∷ cs) h = ap (λ (b : Bool). cond (b && nat_lt 0 (length cs)) (undoubled false (take (length cs - 1) cs)) (c ∷ cs)) (first_plain d c cs h)

undouble : (cell : List ℕ) → undoubled false (doubled cell) ≡ cell
undouble [] = refl
undouble (c ∷ cs) = at (eqb c 34) refl (undouble cs)
  where
    at : (b : Bool) → eqb c 34 ≡ b → undoubled false (doubled cs) ≡ cs → undoubled false (cond b (c ∷ (34 ∷ doubled cs)) (c ∷ doubled cs)) ≡ c ∷ cs
    at true e h = ap (λ (b : Bool). c ∷ undoubled b (34 ∷ doubled cs)) e ∙ ap (λ l. c ∷ l) h
    at false e h = ap (λ (b : Bool). c ∷ undoubled b (doubled cs)) e ∙ ap (λ l. c ∷ l) h

quoted_content : (cell : List ℕ) → content_of (quoted cell) ≡ cell
quoted_content cell =
    let body = doubled cell ++ 34 ∷ [] in
    let some : nat_lt 0 (length body) ≡ true = lt-ltb 0 (length body) (omega (arith, length-append (doubled cell) (34 ∷ []))) in
    let one : length body - 1 ≡ length (doubled cell) = omega (arith, length-append (doubled cell) (34 ∷ [])) in
    ap (λ (b : Bool). cond b (undoubled false (take (length body - 1) body)) (34 ∷ body)) some ∙ ap (λ (k : ℕ). undoubled false (take k body)) one
    ∙ ap (undoubled false) (take-append_seam (doubled cell) (34 ∷ [])) ∙ undouble cell

-- ---- a written cell is plain or quoted

by_writing : (P : List ℕ → Type 0) (q : Quoting) (cell : List ℕ) → (list_any (is_special q.delimiter) cell ≡ false → P cell) → P (quoted cell) → P (written_cell q cell)
by_writing P q cell plain marked = at (list_any (is_special q.delimiter) cell) refl (not (q.quotes_empty && length cell == 0))
  where
    at : (b : Bool) → list_any (is_special q.delimiter) cell ≡ b → (k : Bool) → P (cond (not b && k) cell (quoted cell))
    at true e k = marked
    at false e true = plain e
    at false e false = marked

other_mark : (d : ℕ) → eqb d 34 ≡ false → eqb 34 d ≡ false
other_mark d h = at (eqb 34 d) refl
  where
    at : (b : Bool) → eqb 34 d ≡ b → eqb 34 d ≡ false
    at false e = e
    at true e = let same : 34 ≡ d = eqb-true 34 d e in let also : eqb d 34 ≡ true = eq-eqb d 34 (sym same) in cc

written_stays : (q : Quoting) → eqb q.delimiter 34 ≡ false → (cell : List ℕ) → stays q.delimiter false (written_cell q cell) ≡ true
written_stays q m cell =
    let P : List ℕ → Type 0 = λ w. stays q.delimiter false w ≡ true in
    by_writing P q cell (plain_stays q.delimiter cell) (quoted_stays q.delimiter cell (other_mark q.delimiter m))

all_cells : (q : Quoting) → eqb q.delimiter 34 ≡ false → (first : List ℕ) (cells : List (List ℕ))
    → raw_cells q.delimiter false (joined q.delimiter (written_cell q first) (map (written_cell q) cells)) ≡ written_cell q first ∷ map (written_cell q) cells
all_cells q m first [] = one_cell q.delimiter (written_cell q first) false (written_stays q m first)
all_cells q m first (cell ∷ cells) =
    cells_front q.delimiter (written_cell q first) (joined q.delimiter (written_cell q cell) (map (written_cell q) cells)) false (written_stays q m first)
    ∙ ap (λ l. written_cell q first ∷ l) (all_cells q m cell cells)

pub read_back : CellsAreReadBack
read_back q m first cells =
    let Strict : List ℕ → Type 0 = λ w. cell_fault w ≡ None in
    let Kept : List ℕ → Type 0 = λ w. content_of w ≡ first in (
      all_cells q m first cells,
      by_writing Strict q first (plain_cell q.delimiter first) (doubled_strict first),
      by_writing Kept q first (plain_content q.delimiter first) (quoted_content first),
    )
