-- Bytes that are written into an area.
use Rattle.std.proofs.Common.{◌≡◌, ℕ, zero, suc, ◌+◌, ◌-◌, ◌≤◌, List, [], ◌∷◌, ◌++◌, length, take, drop, refl, sym, ap, ◌∙◌, arith, append_assoc, length-append, length-take}
use Rattle.std.proofs.Math.Seq.{drop-append-add}
use Rattle.std.proofs.lemmas.Grind.{common_steps}
use Rattle.rpg_store.specs.Area.{bytes_at}
use Rattle.rpg_store.specs.Flat.{written_at}

front : (zs : List ℕ) (n len : ℕ) → len ≤ n → take len (take n zs) ≡ take len zs
front zs n zero h = refl
front [] zero (suc len) h = absurd (omega arith)
front [] (suc n) (suc len) h = refl
front (z ∷ zs) zero (suc len) h = absurd (omega arith)
front (z ∷ zs) (suc n) (suc len) h = ap (λ ys. z ∷ ys) (front zs n len (omega arith))

in_front : (zs : List ℕ) (n b len : ℕ) → b + len ≤ n → bytes_at (take n zs) b len ≡ bytes_at zs b len
in_front zs n zero len h = front zs n len (omega arith)
in_front [] zero (suc b) len h = refl
in_front [] (suc n) (suc b) len h = refl
in_front (z ∷ zs) zero (suc b) len h = absurd (omega arith)
in_front (z ∷ zs) (suc n) (suc b) len h = in_front zs n b len (omega arith)

in_append : (xs ys : List ℕ) (b len : ℕ) → b + len ≤ length xs → bytes_at (xs ++ ys) b len ≡ bytes_at xs b len
in_append xs ys zero zero h = refl
in_append [] ys zero (suc len) h = absurd (omega arith)
in_append (x ∷ xs) ys zero (suc len) h = ap (λ zs. x ∷ zs) (in_append xs ys zero len (omega arith))
in_append [] ys (suc b) len h = absurd (omega arith)
in_append (x ∷ xs) ys (suc b) len h = in_append xs ys b len (omega arith)

drop_more : (zs : List ℕ) (n m : ℕ) → drop m (drop n zs) ≡ drop (n + m) zs
drop_more zs zero m = let e : m ≡ 0 + m = omega arith in ap (λ k. drop k zs) e
drop_more [] (suc n) m = grind (arith, common_steps)
drop_more (z ∷ zs) (suc n) m = let e : suc (n + m) ≡ suc n + m = omega arith in drop_more zs n m ∙ ap (λ k. drop k (z ∷ zs)) e

taken : (n : ℕ) (xs : List ℕ) → n ≤ length xs → length (take n xs) ≡ n
taken n xs h = let t = length-take n xs in omega arith

-- the area keeps its length
pub length-written : (area : List ℕ) (at : ℕ) (w : List ℕ) → length (written_at area at w) ≡ length area
length-written area at w = grind (arith, common_steps)

-- what lies before stays, however long the bytes are
pub before_stays : (area : List ℕ) (at : ℕ) (w : List ℕ) (b len : ℕ) → b + len ≤ at → at ≤ length area → bytes_at (written_at area at w) b len ≡ bytes_at area b len
before_stays area at w b len h l =
    let y : List ℕ = w ++ drop (length w) (drop at area) in
    let z : List ℕ = drop (length (take at area ++ y)) area in
    let t = taken at area l in
    in_front ((take at area ++ y) ++ z) (length area) b len (omega arith)
    ∙ ap (λ xs. bytes_at xs b len) (append_assoc (take at area) y z)
    ∙ in_append (take at area) (y ++ z) b len (omega arith)
    ∙ in_front area at b len h

-- bytes that lie in the area are put between what is before and what is after
pub between : (area : List ℕ) (at : ℕ) (w : List ℕ) → at + length w ≤ length area → written_at area at w ≡ take at area ++ (w ++ drop (at + length w) area)
between area at w h = grind (arith, common_steps)

pub here_written : (area : List ℕ) (at : ℕ) (w : List ℕ) (len : ℕ) → at + len ≤ length area → length w ≡ len → bytes_at (written_at area at w) at len ≡ w
here_written area at w len h l = grind (arith, common_steps, between)

pub after_stays : (area : List ℕ) (at : ℕ) (w : List ℕ) (b len : ℕ) → at + length w ≤ b → at + length w ≤ length area → bytes_at (written_at area at w) b len ≡ bytes_at area b len
after_stays area at w b len h l =
    let s = at + length w in
    let r = b - s in
    let x : List ℕ = take at area ++ w in
    let t = taken at area (omega arith) in
    let lx : length x ≡ s = length-append (take at area) w ∙ omega arith in
    let eb : b ≡ length x + r = omega arith in
    let back : s + r ≡ b = omega arith in
    ap (λ zs. bytes_at zs b len) (between area at w l ∙ sym (append_assoc (take at area) w (drop s area)))
    ∙ ap (λ k. bytes_at (x ++ drop s area) k len) eb
    ∙ ap (take len) (drop-append-add x (drop s area) r ∙ drop_more area s r)
    ∙ ap (λ k. bytes_at area k len) back
