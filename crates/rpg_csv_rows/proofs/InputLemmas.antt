-- Bytes that are read, and rows that are returned one part after the other.
use Rattle.std.proofs.Common.{◌≡◌, ℕ, zero, suc, ◌+◌, ◌-◌, ◌<◌, ◌≤◌, ◌&&◌, ◌||◌, Bool, true, false, not, cond, eqb, List, [], ◌∷◌, ◌++◌, length, take, drop, slice_range, refl, sym, ap, subst, ◌∙◌, append_assoc, append-nil, arith, Option, None, Some, IfSome, take-append-drop, length-take, length-append}
use Rattle.std.proofs.KnownBytes.{Consumes-trans, Keeps-refl}
use Rattle.std.proofs.Math.Nat.{sub-zero}
use Rattle.std.proofs.Math.Seq.{drop-append_seam}
use Rattle.std.proofs.lemmas.List.{drop-drop, drop-take, take-take}
use Rattle.std.specs.Io.KnownBytes.{Consumes, IsAtEnd, Keeps, prepend_known}
use Rattle.rpg_csv_rows.specs.Cells.{is_open_after}
use Rattle.rpg_csv_rows.specs.Inputs.{GivesRow}
use Rattle.rpg_csv_rows.specs.Rows.{ends_row, is_open_through, row_through}

no_range : (xs : List ℕ) (start end : ℕ) → end ≤ start → slice_range xs start end ≡ []
no_range xs start end h = let none : end - start ≡ 0 = omega arith in ap (λ (k : ℕ). take k (drop start xs)) none

front_range : (ys : List ℕ) (n : ℕ) → slice_range ys 0 n ≡ take n ys
front_range ys n = ap (λ (k : ℕ). take k ys) (sub-zero n)

kept_after : (a b : Option (List ℕ)) (bs : List ℕ) → Consumes a b bs → Keeps (prepend_known [] a) (prepend_known bs b)
kept_after None b bs p = tt
kept_after (Some x) None bs p = absurd p
kept_after (Some x) (Some y) bs p = sym p

-- an empty buffer is filled with what was read
pub filled : (a b : Option (List ℕ)) (xs ys : List ℕ) (start end n : ℕ) → end ≤ start → Consumes a b (take n ys)
    → Keeps (prepend_known (slice_range xs start end) a) (prepend_known (slice_range ys 0 n) b)
filled a b xs ys start end n h p = rw (no_range xs start end h, front_range ys n) (kept_after a b (take n ys) p)

end_after : (b : Option (List ℕ)) → IsAtEnd b → IsAtEnd (prepend_known [] b)
end_after None h = tt
end_after (Some x) h = h

pub filled_end : (b : Option (List ℕ)) (ys : List ℕ) → IsAtEnd b → IsAtEnd (prepend_known (slice_range ys 0 0) b)
filled_end b ys h = end_after b h

given_front : (a : Option (List ℕ)) (bs : List ℕ) (n : ℕ) → Consumes (prepend_known bs a) (prepend_known (drop n bs) a) (take n bs)
given_front None bs n = tt
given_front (Some x) bs n = ap (λ l. l ++ x) (sym (take-append-drop n bs)) ∙ append_assoc (take n bs) (drop n bs) x

-- the rest of a buffer after n more bytes
pub left_after_more : (xs : List ℕ) (start end n : ℕ) → n ≤ length (slice_range xs start end) → slice_range xs (start + n) end ≡ drop n (slice_range xs start end)
left_after_more xs start end n few =
    let m = end - (start + n) in
    let within : n ≤ end - start = omega (arith, few, length-take (end - start) (drop start xs)) in
    let parts : end - start ≡ n + m = omega arith in
    sym (ap (λ (k : ℕ). drop n (take k (drop start xs))) parts ∙ drop-take n m (drop start xs) ∙ ap (take m) (drop-drop n start xs))

-- a front of the bytes that are left was given
given_part : (r : Option (List ℕ)) (left piece rest : List ℕ) → take (length piece) left ≡ piece → rest ≡ drop (length piece) left → Consumes (prepend_known left r) (prepend_known rest r) piece
given_part r left piece rest e f =
    subst (λ (l : List ℕ). Consumes (prepend_known left r) (prepend_known l r) piece) (sym f)
    (subst (Consumes (prepend_known left r) (prepend_known (drop (length piece) left) r)) e (given_front r left (length piece)))

pub unchanged : (a : Option (List ℕ)) → Keeps a a
unchanged = Keeps-refl

-- ---- rows

-- the first row of so many bytes
abbrev pub first_row : Bool → ℕ → List ℕ → List ℕ
first_row inside k xs = row_through inside (take k xs)

through_le : (inside : Bool) (xs : List ℕ) → length (row_through inside xs) ≤ length xs
through_le inside [] = omega arith
through_le inside (x ∷ xs) = at (eqb x 10 && not inside) (through_le (is_open_after inside x) xs)
  where
    at : (b : Bool) → length (row_through (is_open_after inside x) xs) ≤ length xs → length (cond b (x ∷ []) (x ∷ row_through (is_open_after inside x) xs)) ≤ suc (length xs)
    at true h = omega arith
    at false h = omega arith

through_front : (inside : Bool) (xs : List ℕ) → take (length (row_through inside xs)) xs ≡ row_through inside xs
through_front inside [] = refl
through_front inside (x ∷ xs) = at (eqb x 10 && not inside) (through_front (is_open_after inside x) xs)
  where
    at : (b : Bool) → take (length (row_through (is_open_after inside x) xs)) xs ≡ row_through (is_open_after inside x) xs
        → take (length (cond b (x ∷ []) (x ∷ row_through (is_open_after inside x) xs))) (x ∷ xs) ≡ cond b (x ∷ []) (x ∷ row_through (is_open_after inside x) xs)
    at true e = refl
    at false e = ap (λ l. x ∷ l) e

first_row_le : (inside : Bool) (k : ℕ) (xs : List ℕ) → length (first_row inside k xs) ≤ k
first_row_le inside k xs = omega (arith, through_le inside (take k xs), length-take k xs)

-- a first row is a front of the bytes
pub part_front : (inside : Bool) (k : ℕ) (xs : List ℕ) → take (length (first_row inside k xs)) xs ≡ first_row inside k xs
part_front inside k xs =
    let m = length (first_row inside k xs) in
    sym (take-take m k xs (first_row_le inside k xs)) ∙ through_front inside (take k xs)

pub part_shorter : (inside : Bool) (k : ℕ) (xs : List ℕ) → length (first_row inside k xs) ≤ length xs
part_shorter inside k xs = omega (arith, through_le inside (take k xs), length-take k xs)

-- a row that doesn't end is all bytes
no_end : (inside : Bool) (xs : List ℕ) → ends_row inside xs ≡ false → row_through inside xs ≡ xs
no_end inside [] e = refl
no_end inside (x ∷ xs) e = at (eqb x 10 && not inside) e (no_end (is_open_after inside x) xs)
  where
    at : (b : Bool) → (b || ends_row (is_open_after inside x) xs) ≡ false → (ends_row (is_open_after inside x) xs ≡ false → row_through (is_open_after inside x) xs ≡ xs)
        → cond b (x ∷ []) (x ∷ row_through (is_open_after inside x) xs) ≡ x ∷ xs
    at true f more = cc
    at false f more = ap (λ l. x ∷ l) (more f)

fewer : (k n : ℕ) → suc k - suc n ≡ k - n
fewer k n = omega arith

-- bytes in which no row ends are the front of the first row
without_end : (inside : Bool) (k : ℕ) (piece zs : List ℕ) → length piece ≤ k → ends_row inside piece ≡ false
    → first_row inside k (piece ++ zs) ≡ piece ++ first_row (is_open_through inside piece) (k - length piece) zs
without_end inside k [] zs h none = ap (λ (n : ℕ). first_row inside n zs) (sym (sub-zero k))
without_end inside zero (x ∷ piece) zs h none = absurd (omega arith)
without_end inside (suc k) (x ∷ piece) zs h none = at (eqb x 10 && not inside) none (without_end (is_open_after inside x) k piece zs (omega arith))
  where
    at : (b : Bool) → (b || ends_row (is_open_after inside x) piece) ≡ false
        → (ends_row (is_open_after inside x) piece ≡ false → first_row (is_open_after inside x) k (piece ++ zs) ≡ piece ++ first_row (is_open_through (is_open_after inside x) piece) (k - length piece) zs)
        → cond b (x ∷ []) (x ∷ first_row (is_open_after inside x) k (piece ++ zs)) ≡ (x ∷ piece) ++ first_row (is_open_through (is_open_after inside x) piece) (suc k - suc (length piece)) zs
    at true e more = cc
    at false e more = ap (λ l. x ∷ l) (more e) ∙ ap (λ (n : ℕ). x ∷ (piece ++ first_row (is_open_through (is_open_after inside x) piece) n zs)) (sym (fewer k (length piece)))

-- a row that ends in the first of two parts ends there
with_end : (inside : Bool) (k : ℕ) (left rest : List ℕ) → ends_row inside (take k left) ≡ true → first_row inside k (left ++ rest) ≡ first_row inside k left
with_end inside zero left rest e = refl
with_end inside (suc k) [] rest e = cc
with_end inside (suc k) (x ∷ left) rest e = at (eqb x 10 && not inside) e (with_end (is_open_after inside x) k left rest)
  where
    at : (b : Bool) → (b || ends_row (is_open_after inside x) (take k left)) ≡ true
        → (ends_row (is_open_after inside x) (take k left) ≡ true → first_row (is_open_after inside x) k (left ++ rest) ≡ first_row (is_open_after inside x) k left)
        → cond b (x ∷ []) (x ∷ first_row (is_open_after inside x) k (left ++ rest)) ≡ cond b (x ∷ []) (x ∷ first_row (is_open_after inside x) k left)
    at true f more = refl
    at false f more = ap (λ l. x ∷ l) (more f)

-- what was given of the first row so far, and whether a mark is inside after it
abbrev pub SoFar : ℕ → Bool → Option (List ℕ) → Option (List ℕ) → List ℕ → Type 0
SoFar n inside None new got = Unit {0}
SoFar n inside (Some xs) None got = ⊥
SoFar n inside (Some xs) (Some ys) got = (xs ≡ got ++ ys) × (first_row false n xs ≡ got ++ first_row inside (n - length got) ys)

so_far_start : (n : ℕ) (a : Option (List ℕ)) → SoFar n false a a []
so_far_start n None = tt
so_far_start n (Some xs) = (refl, ap (λ (k : ℕ). first_row false k xs) (sym (sub-zero n)))

pub row_start : (n : ℕ) (a : Option (List ℕ)) (got : List ℕ) → got ≡ [] → SoFar n false a a got
row_start n a got e = subst (SoFar n false a a) (sym e) (so_far_start n a)

so_far_kept : (n : ℕ) (inside : Bool) (a b c : Option (List ℕ)) (got : List ℕ) → SoFar n inside a b got → Keeps b c → SoFar n inside a c got
so_far_kept n inside None b c got p k = tt
so_far_kept n inside (Some xs) None c got p k = absurd p
so_far_kept n inside (Some xs) (Some ys) None got p k = absurd k
so_far_kept n inside (Some xs) (Some ys) (Some zs) got p k = (p.0 ∙ ap (λ l. got ++ l) (sym k), p.1 ∙ ap (λ l. got ++ first_row inside (n - length got) l) (sym k))

left_after : (n : ℕ) (got piece : List ℕ) → n - length got - length piece ≡ n - length (got ++ piece)
left_after n got piece = omega (arith, length-append got piece)

so_far_more : (n : ℕ) (inside : Bool) (a b c : Option (List ℕ)) (got piece : List ℕ) → SoFar n inside a b got → length piece ≤ n - length got → ends_row inside piece ≡ false
    → Consumes b c piece → SoFar n (is_open_through inside piece) a c (got ++ piece)
so_far_more n inside None b c got piece p few none k = tt
so_far_more n inside (Some xs) None c got piece p few none k = absurd p
so_far_more n inside (Some xs) (Some ys) None got piece p few none k = absurd k
so_far_more n inside (Some xs) (Some ys) (Some zs) got piece p few none k =
    let after = is_open_through inside piece in
    let rest : first_row inside (n - length got) ys ≡ piece ++ first_row after (n - length got - length piece) zs =
    ap (first_row inside (n - length got)) k ∙ without_end inside (n - length got) piece zs few none in (
      p.0 ∙ ap (λ l. got ++ l) k ∙ sym (append_assoc got piece zs),
      p.1 ∙ ap (λ l. got ++ l) rest ∙ sym (append_assoc got piece (first_row after (n - length got - length piece) zs))
          ∙ ap (λ (m : ℕ). (got ++ piece) ++ first_row after m zs) (left_after n got piece),
    )

gives : (n : ℕ) (a c : Option (List ℕ)) (bytes : List ℕ) → Consumes a c bytes → IfSome a (λ xs. bytes ≡ first_row false n xs) → GivesRow n a c bytes
gives n None c bytes p h = tt
gives n (Some xs) None bytes p h = absurd p
gives n (Some xs) (Some ys) bytes p h = (h, ap Some (sym (drop-append_seam bytes ys) ∙ ap (drop (length bytes)) (sym p)))

-- the row ended
so_far_found : (n : ℕ) (inside : Bool) (a r c : Option (List ℕ)) (left got : List ℕ) → SoFar n inside a (prepend_known left r) got
    → ends_row inside (take (n - length got) left) ≡ true → Consumes (prepend_known left r) c (first_row inside (n - length got) left)
    → GivesRow n a c (got ++ first_row inside (n - length got) left)
so_far_found n inside None r c left got p some k = tt
so_far_found n inside (Some xs) None c left got p some k = absurd p
so_far_found n inside (Some xs) (Some ys) c left got p some k =
    let piece = first_row inside (n - length got) left in
    gives n (Some xs) c (got ++ piece) (Consumes-trans (Some xs) (Some (left ++ ys)) c got piece p.0 k)
    (sym (p.1 ∙ ap (λ l. got ++ l) (with_end inside (n - length got) left ys some)))

nothing_through : (inside : Bool) (k : ℕ) → first_row inside k [] ≡ []
nothing_through inside zero = refl
nothing_through inside (suc k) = refl

-- there is no more room
pub row_full : (n : ℕ) (inside : Bool) (a b : Option (List ℕ)) (got : List ℕ) → SoFar n inside a b got → n ≤ length got → GivesRow n a b got
row_full n inside None b got p h = tt
row_full n inside (Some xs) None got p h = absurd p
row_full n inside (Some xs) (Some ys) got p h =
    let none : n - length got ≡ 0 = omega arith in
    gives n (Some xs) (Some ys) got p.0 (sym (p.1 ∙ ap (λ (k : ℕ). got ++ first_row inside k ys) none ∙ append-nil got))

at_end : (n : ℕ) (inside : Bool) (a b : Option (List ℕ)) (got : List ℕ) → SoFar n inside a b got → IsAtEnd b → GivesRow n a b got
at_end n inside None b got p h = tt
at_end n inside (Some xs) None got p h = absurd p
at_end n inside (Some xs) (Some ys) got p h =
    gives n (Some xs) (Some ys) got p.0 (sym (p.1 ∙ ap (λ l. got ++ first_row inside (n - length got) l) h ∙ ap (λ l. got ++ l) (nothing_through inside (n - length got)) ∙ append-nil got))

-- the input ends
pub row_ended : (n : ℕ) (inside : Bool) (a b c : Option (List ℕ)) (got : List ℕ) → SoFar n inside a b got → Keeps b c → IsAtEnd c → GivesRow n a c got
row_ended n inside a b c got p k e = at_end n inside a c got (so_far_kept n inside a b c got p k) e

-- ---- after the buffer was filled, by how many bytes there may be

pub row_more : (n k : ℕ) (inside after : Bool) (a b r : Option (List ℕ)) (left rest got new : List ℕ) → k ≡ n - length got → SoFar n inside a b got → Keeps b (prepend_known left r)
    → ends_row inside (take k left) ≡ false → after ≡ is_open_through inside (take k left) → rest ≡ drop (length (first_row inside k left)) left → new ≡ got ++ first_row inside k left
    → SoFar n after a (prepend_known rest r) new
row_more n k inside after a b r left rest got new e p q none o s f =
    let piece = take k left in
    let c = prepend_known left r in
    let d = prepend_known rest r in
    let whole : first_row inside k left ≡ piece = no_end inside piece none in
    let few : length piece ≤ n - length got = omega (arith, e, length-take k left) in
    let given = given_part r left (first_row inside k left) rest (part_front inside k left) s in
    let next = so_far_more n inside a c d got piece (so_far_kept n inside a b c got p q) few none (subst (Consumes c d) whole given) in
    subst (λ (l : List ℕ). SoFar n after a d l) (sym (f ∙ ap (λ l. got ++ l) whole)) (subst (λ (o : Bool). SoFar n o a d (got ++ piece)) (sym o) next)

pub row_found : (n k : ℕ) (inside : Bool) (a b r : Option (List ℕ)) (left rest got new : List ℕ) → k ≡ n - length got → SoFar n inside a b got → Keeps b (prepend_known left r)
    → ends_row inside (take k left) ≡ true → rest ≡ drop (length (first_row inside k left)) left → new ≡ got ++ first_row inside k left → GivesRow n a (prepend_known rest r) new
row_found n k inside a b r left rest got new e p q some t f =
    let d = prepend_known rest r in
    let s = given_part r left (first_row inside k left) rest (part_front inside k left) t in
    subst (GivesRow n a d) (sym (f ∙ ap (λ (j : ℕ). got ++ first_row inside j left) e))
    (so_far_found n inside a r d left got (so_far_kept n inside a b (prepend_known left r) got p q) (subst (λ (j : ℕ). ends_row inside (take j left) ≡ true) e some)
    (subst (λ (j : ℕ). Consumes (prepend_known left r) d (first_row inside j left)) e s))

nonempty_through : (inside : Bool) (xs : List ℕ) → 0 < length xs → 0 < length (row_through inside xs)
nonempty_through inside [] h = absurd (omega arith)
nonempty_through inside (x ∷ xs) h = at (eqb x 10 && not inside)
  where
    at : (b : Bool) → 0 < length (cond b (x ∷ []) (x ∷ row_through (is_open_after inside x) xs))
    at true = omega arith
    at false = omega arith

pub row_grows : (n k : ℕ) (inside : Bool) (left got new : List ℕ) → k ≡ n - length got → length got < n → 0 < length left → new ≡ got ++ first_row inside k left → length got < length new
row_grows n k inside left got new e h some f =
    omega (arith, e, ap length f, length-append got (first_row inside k left), nonempty_through inside (take k left) (omega (arith, e, length-take k left)))

pub row_within : (n k : ℕ) (inside : Bool) (left got new : List ℕ) → k ≡ n - length got → length got ≤ n → new ≡ got ++ first_row inside k left → length new ≤ n
row_within n k inside left got new e h f = omega (arith, e, ap length f, length-append got (first_row inside k left), first_row_le inside k left)
