-- What is read from a table is what all its lines say, or the least first column of a bad value.
use Rattle.std.proofs.Common.{◌≡◌, ℕ, zero, suc, ◌+◌, ◌-◌, ◌<◌, ◌≤◌, Bool, true, false, cond, List, [], ◌∷◌, ◌++◌, length, get_or, Result, Ok, Err, Option, Some, None, refl, sym, ap, subst, ◌∙◌, arith, inl, inr, drop}
use Rattle.std.specs.Prelude.{if◌then◌else◌, not, ◌⊎◌, position, OnOk, IfErr}
use Rattle.std.specs.Option.{ok_or}
use Rattle.std.specs.List.{prefix_len}
use Rattle.std.proofs.lemmas.Grind.{common_steps}
use Rattle.std.proofs.lemmas.List.{length-take}
use Rattle.rpg_sheet_specs.specs.declared.column.ColumnFault.{ColumnFault}
use Rattle.rpg_sheet_specs.specs.Columns.{IsLeastColumn, Columns, cols, values, at_with, blank, where_card, also, past, applied, and_only, column_fault, fault_if_some, bad_if_none, filled_from, is_filled}

-- columns that rise, from low on and below high
abbrev pub Rises : ℕ → List ℕ → ℕ → Type 0
Rises low [] high = low ≤ high
Rises low (k ∷ ks) high = (low ≤ k) × Rises (k + 1) ks high

lower : (a b : ℕ) (ks : List ℕ) (c : ℕ) → a ≤ b → Rises b ks c → Rises a ks c
lower a b [] c h r = omega arith
lower a b (k ∷ ks) c h r = let s = r.0 in (omega arith, r.1)

higher : (a : ℕ) (ks : List ℕ) (b c : ℕ) → b ≤ c → Rises a ks b → Rises a ks c
higher a [] b c h r = omega arith
higher a (k ∷ ks) b c h r = (r.0, higher (k + 1) ks b c h r.1)

Rises-append : (a : ℕ) (xs ys : List ℕ) (b c : ℕ) → Rises a xs b → Rises b ys c → Rises a (xs ++ ys) c
Rises-append a [] ys b c p q = lower a b ys c p q
Rises-append a (x ∷ xs) ys b c p q = (p.0, Rises-append (x + 1) xs ys b c p.1 q)

abbrev StartsWith : List ℕ → ℕ → Type 0
StartsWith ks k = (rest : List ℕ) × (ks ≡ k ∷ rest)

pub record IsTable {X : Type 0} (f : Columns X) (low high : ℕ) : Type 0 where
  pub valid : (card : List ℕ) (x : X) → f.reading card ≡ Ok x → f.bad card ≡ []
  pub first : (card : List ℕ) (e : ColumnFault) → f.reading card ≡ Err e → StartsWith (f.bad card) e.column
  pub rises : (card : List ℕ) → Rises low (f.bad card) high

pub values_law : {X : Type 0} (x : X) (low : ℕ) → IsTable (values x) low low
unfolding values
values_law x low = record { valid = λ card y e. refl; first = λ card d e. absurd cc; rises = λ card. omega arith }

pub at_law : {X : Type 0} {low a b : ℕ} (rule : List ℕ → List ℕ → Option X) → low ≤ a → a ≤ b → IsTable (at_with a b rule) low (b + 1)
unfolding at_with
at_law {X} {low} {a} {b} rule h l = record { valid = λ card. valid (rule card (cols a b card)); first = λ card. first (rule card (cols a b card)); rises = λ card. rises (rule card (cols a b card)) }
  where
    valid : (r : Option X) (x : X) → ok_or r (column_fault a b) ≡ Ok x → bad_if_none a r ≡ []
    valid None x e = absurd cc
    valid (Some y) x e = refl

    first : (r : Option X) (d : ColumnFault) → ok_or r (column_fault a b) ≡ Err d → StartsWith (bad_if_none a r) d.column
    first None d e = let k : column_fault a b ≡ d = cc in ([], ap (λ (f : ColumnFault). f.column ∷ []) k)
    first (Some y) d e = absurd cc

    rises : (r : Option X) → Rises low (bad_if_none a r) (b + 1)
    rises None = (h, omega arith)
    rises (Some y) = omega arith

filled_rises : (a : ℕ) (text : List ℕ) → Rises a (filled_from a text) (a + length text)
filled_rises a [] = omega arith
filled_rises a (c ∷ cs) = by (is_filled c) (higher (a + 1) (filled_from (a + 1) cs) (a + 1 + length cs) (a + length (c ∷ cs)) (omega arith) (filled_rises (a + 1) cs))
  where
    by : (t : Bool) → Rises (a + 1) (filled_from (a + 1) cs) (a + length (c ∷ cs)) → Rises a (if t then a ∷ filled_from (a + 1) cs else filled_from (a + 1) cs) (a + length (c ∷ cs))
    by true more = (omega arith, more)
    by false more = lower a (a + 1) (filled_from (a + 1) cs) (a + length (c ∷ cs)) (omega arith) more

-- the first that is filled
abbrev First : ℕ → List ℕ → ℕ → Type 0
First a text n = ((n < length text) × StartsWith (filled_from a text) (a + n)) ⊎ ((length text ≤ n) × (filled_from a text ≡ []))

filled_first : (a : ℕ) (text : List ℕ) → First a text (prefix_len (λ c. not (is_filled c)) text)
filled_first a [] = inr (omega arith, refl)
filled_first a (c ∷ cs) = by (is_filled c) (filled_first (a + 1) cs)
  where
    by : (t : Bool) → First (a + 1) cs (prefix_len (λ c. not (is_filled c)) cs) → ((cond (not t) (1 + prefix_len (λ c. not (is_filled c)) cs) 0 < length (c ∷ cs)) × StartsWith (if t then a ∷ filled_from (a + 1) cs else filled_from (a + 1) cs) (a + cond (not t) (1 + prefix_len (λ c. not (is_filled c)) cs) 0)) ⊎ ((length (c ∷ cs) ≤ cond (not t) (1 + prefix_len (λ c. not (is_filled c)) cs) 0) × ((if t then a ∷ filled_from (a + 1) cs else filled_from (a + 1) cs) ≡ []))
    by true more = inl (omega arith, (filled_from (a + 1) cs, ap (λ (k : ℕ). k ∷ filled_from (a + 1) cs) (omega arith)))
    by false (inl m) = inl (let l = m.0 in omega arith, (m.1.0, m.1.1 ∙ ap (λ (k : ℕ). k ∷ m.1.0) (omega arith)))
    by false (inr m) = inr (let l = m.0 in omega arith, m.1)

pub blank_law : {low a b : ℕ} → low ≤ a → 1 ≤ a → a ≤ b → IsTable (blank a b) low (b + 1)
unfolding blank
blank_law {low} {a} {b} h one l = record { valid = λ card x. valid (cols a b card) x (filled_first a (cols a b card)); first = λ card d. first (cols a b card) d (filled_first a (cols a b card)); rises = rises }
  where
    size : (card : List ℕ) → a + length (cols a b card) ≤ b + 1
    size card = omega (arith, length-take (b - (a - 1)) (drop (a - 1) card))

    rises : (card : List ℕ) → Rises low (filled_from a (cols a b card)) (b + 1)
    rises card = lower low a (filled_from a (cols a b card)) (b + 1) h (higher a (filled_from a (cols a b card)) (a + length (cols a b card)) (b + 1) (size card) (filled_rises a (cols a b card)))

    valid : (text : List ℕ) (x : Unit {0}) → First a text (prefix_len (λ c. not (is_filled c)) text) → fault_if_some a (position is_filled text) ≡ Ok x → filled_from a text ≡ []
    valid text x (inr m) e = m.1
    valid text x (inl m) e = let lt = m.0 in let k : position is_filled text ≡ Some (prefix_len (λ c. not (is_filled c)) text) = grind (arith, common_steps) in absurd (let e' = rw k at e in cc)

    first : (text : List ℕ) (d : ColumnFault) → First a text (prefix_len (λ c. not (is_filled c)) text) → fault_if_some a (position is_filled text) ≡ Err d → StartsWith (filled_from a text) d.column
    first text d (inl m) e = let lt = m.0 in let k : position is_filled text ≡ Some (prefix_len (λ c. not (is_filled c)) text) = grind (arith, common_steps) in let e' = rw k at e in let j : column_fault (a + prefix_len (λ c. not (is_filled c)) text) (a + prefix_len (λ c. not (is_filled c)) text) ≡ d = cc in (m.1.0, m.1.1 ∙ ap (λ (f : ColumnFault). f.column ∷ m.1.0) j)
    first text d (inr m) e = let le = m.0 in let k : position is_filled text ≡ None = grind (arith, common_steps) in absurd (let e' = rw k at e in cc)

pub also_law : {X Y : Type 0} {f : Columns (X → Y)} {g : Columns X} {a b c : ℕ} → IsTable f a b → IsTable g b c → IsTable (also f g) a c
unfolding also
also_law {X} {Y} {f} {g} {a} {b} {c} p q = record { valid = valid; first = first; rises = λ card. Rises-append a (f.bad card) (g.bad card) b c (p.rises card) (q.rises card) }
  where
    valid : (card : List ℕ) (y : Y) → applied (f.reading card) (g.reading card) ≡ Ok y → f.bad card ++ g.bad card ≡ []
    valid card y e = by (f.reading card) (g.reading card) refl refl e
      where
        by : (r : Result (X → Y) ColumnFault) (s : Result X ColumnFault) → f.reading card ≡ r → g.reading card ≡ s → applied r s ≡ Ok y → f.bad card ++ g.bad card ≡ []
        by (Ok h) (Ok x) i j e = rw (p.valid card h i, q.valid card x j) refl
        by (Ok h) (Err d) i j e = absurd cc
        by (Err d) s i j e = absurd cc

    first : (card : List ℕ) (d : ColumnFault) → applied (f.reading card) (g.reading card) ≡ Err d → StartsWith (f.bad card ++ g.bad card) d.column
    first card d e = by (f.reading card) (g.reading card) refl refl e
      where
        by : (r : Result (X → Y) ColumnFault) (s : Result X ColumnFault) → f.reading card ≡ r → g.reading card ≡ s → applied r s ≡ Err d → StartsWith (f.bad card ++ g.bad card) d.column
        by (Ok h) (Ok x) i j e = absurd cc
        by (Ok h) (Err d') i j e = let k : d' ≡ d = cc in let s = q.first card d (j ∙ ap Err k) in rw (p.valid card h i) s
        by (Err d') s i j e = let k : d' ≡ d = cc in let s = p.first card d (i ∙ ap Err k) in (s.0 ++ g.bad card, rw s.1 refl)

pub past_law : {X Y : Type 0} {f : Columns X} {g : Columns Y} {a b c : ℕ} → IsTable f a b → IsTable g b c → IsTable (past f g) a c
unfolding past
past_law {X} {Y} {f} {g} {a} {b} {c} p q = record { valid = valid; first = first; rises = λ card. Rises-append a (f.bad card) (g.bad card) b c (p.rises card) (q.rises card) }
  where
    valid : (card : List ℕ) (y : X) → and_only (f.reading card) (g.reading card) ≡ Ok y → f.bad card ++ g.bad card ≡ []
    valid card y e = by (f.reading card) (g.reading card) refl refl e
      where
        by : (r : Result X ColumnFault) (s : Result Y ColumnFault) → f.reading card ≡ r → g.reading card ≡ s → and_only r s ≡ Ok y → f.bad card ++ g.bad card ≡ []
        by (Ok h) (Ok x) i j e = rw (p.valid card h i, q.valid card x j) refl
        by (Ok h) (Err d) i j e = absurd cc
        by (Err d) s i j e = absurd cc

    first : (card : List ℕ) (d : ColumnFault) → and_only (f.reading card) (g.reading card) ≡ Err d → StartsWith (f.bad card ++ g.bad card) d.column
    first card d e = by (f.reading card) (g.reading card) refl refl e
      where
        by : (r : Result X ColumnFault) (s : Result Y ColumnFault) → f.reading card ≡ r → g.reading card ≡ s → and_only r s ≡ Err d → StartsWith (f.bad card ++ g.bad card) d.column
        by (Ok h) (Ok x) i j e = absurd cc
        by (Ok h) (Err d') i j e = let k : d' ≡ d = cc in let s = q.first card d (j ∙ ap Err k) in rw (p.valid card h i) s
        by (Err d') s i j e = let k : d' ≡ d = cc in let s = p.first card d (i ∙ ap Err k) in (s.0 ++ g.bad card, rw s.1 refl)

pub where_law : {X : Type 0} {f g : Columns X} {a b : ℕ} (test : List ℕ → Bool) → IsTable f a b → IsTable g a b → IsTable (where_card test f g) a b
unfolding where_card
where_law {X} {f} {g} {a} {b} test p q = record { valid = λ card. valid card (test card); first = λ card. first card (test card); rises = λ card. rises card (test card) }
  where
    valid : (card : List ℕ) (t : Bool) (x : X) → (if t then f.reading card else g.reading card) ≡ Ok x → (if t then f.bad card else g.bad card) ≡ []
    valid card true x e = p.valid card x e
    valid card false x e = q.valid card x e

    first : (card : List ℕ) (t : Bool) (d : ColumnFault) → (if t then f.reading card else g.reading card) ≡ Err d → StartsWith (if t then f.bad card else g.bad card) d.column
    first card true d e = p.first card d e
    first card false d e = q.first card d e

    rises : (card : List ℕ) (t : Bool) → Rises a (if t then f.bad card else g.bad card) b
    rises card true = p.rises card
    rises card false = q.rises card

above : (low : ℕ) (ks : List ℕ) (high i : ℕ) → Rises low ks high → i < length ks → low ≤ get_or ks i 0
above low [] high i r l = absurd (omega arith)
above low (k ∷ ks) high zero r l = r.0
above low (k ∷ ks) high (suc i) r l = let m = above (k + 1) ks high i r.1 (omega arith) in let s = r.0 in omega arith

pub least : {X : Type 0} (f : Columns X) (low high : ℕ) → IsTable f low high → (card : List ℕ) (e : ColumnFault) → f.reading card ≡ Err e → IsLeastColumn (f.bad card) e.column
least f low high p card e h =
    let s = p.first card e h in
    record { rest = s.0; among = s.1; none_below = rw s.1 (λ i l. by (low) s.0 (subst (λ (ks : List ℕ). Rises low ks high) s.1 (p.rises card)) i l) }
  where
    by : (low : ℕ) (rest : List ℕ) → Rises low (e.column ∷ rest) high → (i : ℕ) → i < length (e.column ∷ rest) → e.column ≤ get_or (e.column ∷ rest) i 0
    by low rest r zero l = omega arith
    by low rest r (suc i) l = let m = above (e.column + 1) rest high i r.1 (omega arith) in omega arith

pub IsTable-lower : {X : Type 0} (a b c : ℕ) (f : Columns X) → a ≤ b → IsTable f b c → IsTable f a c
IsTable-lower a b c f h p = record { valid = p.valid; first = p.first; rises = λ card. lower a b (f.bad card) c h (p.rises card) }

-- what a reader of the table returns
pub read_by : {X : Type 0} {f : Columns X} {low high : ℕ} → IsTable f low high → (card : List ℕ) (r : Result X ColumnFault) → r ≡ f.reading card
    → record { value : r ≡ f.reading card; valid : OnOk r (f.bad card ≡ []); least : IfErr r (λ fault. IsLeastColumn (f.bad card) fault.column) }
read_by p card (Ok x) e = record { value = e; valid = p.valid card x (sym e); least = tt }
read_by {X} {f} {low} {high} p card (Err d) e = record { value = e; valid = tt; least = least f low high p card d (sym e) }
