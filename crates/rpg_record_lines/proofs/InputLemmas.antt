-- Bytes that are read, and given one part after the other.
use Rattle.std.proofs.Common.{◌≡◌, ℕ, zero, suc, ◌+◌, ◌-◌, ◌^◌, ◌<◌, ◌≤◌, ◌==◌, Bool, true, false, not, ◌||◌, cond, eqb, nat_lt, List, [], ◌∷◌, ◌++◌, length, take, drop, slice_range, refl, sym, ap, subst, ◌∙◌, append_assoc, append-nil, arith, add-one, one-add, position, Option, None, Some, IfSome, length-take-le, take_all, take-append-drop, length-take, length-append}
use Rattle.std.proofs.KnownBytes.{Consumes-kept, Consumes-nil, Consumes-trans, Keeps-refl, prepend_known-nil}
use Rattle.std.proofs.Math.Nat.{sub-zero}
use Rattle.std.proofs.Math.Seq.{drop-append_seam, take-append_seam, take-length}
use Rattle.std.proofs.lemmas.List.{drop-drop, drop-take, take-take}
use Rattle.std.proofs.lemmas.Bool.{lt-ltb, ltb-false, ltb-true}
use Rattle.std.specs.Io.BufRead.{take_through}
use Rattle.std.specs.Io.KnownBytes.{Consumes, IsAtEnd, Keeps, prepend_known}
use Rattle.std.specs.List.{list_any, prefix_len}
use Rattle.rpg_record_lines.proofs.LineLemmas.{any_before}
use Rattle.rpg_records.specs.Sizes.{counted}
use Rattle.rpg_record_lines.specs.Inputs.{GivesFront}

pub nothing_before : (a : Option (List ℕ)) → prepend_known [] a ≡ a
nothing_before = prepend_known-nil

no_range : (xs : List ℕ) (start end : ℕ) → end ≤ start → slice_range xs start end ≡ []
no_range xs start end h = let none : end - start ≡ 0 = omega arith in ap (λ (k : ℕ). take k (drop start xs)) none

front_range : (ys : List ℕ) (n : ℕ) → slice_range ys 0 n ≡ take n ys
front_range ys n = ap (λ (k : ℕ). take k ys) (sub-zero n)

kept_after : (a b : Option (List ℕ)) (bs : List ℕ) → Consumes a b bs → Keeps (prepend_known [] a) (prepend_known bs b)
kept_after None b bs p = tt
kept_after (Some x) None bs p = absurd p
kept_after (Some x) (Some y) bs p = sym p

-- an empty buffer is filled with what was read
pub filled : (a b : Option (List ℕ)) (xs ys : List ℕ) (start end n : ℕ) → end ≤ start → Consumes a b (take n ys)
    → Keeps (prepend_known (slice_range xs start end) a) (prepend_known (slice_range ys 0 n) b)
filled a b xs ys start end n h p = rw (no_range xs start end h, front_range ys n) (kept_after a b (take n ys) p)

end_after : (b : Option (List ℕ)) → IsAtEnd b → IsAtEnd (prepend_known [] b)
end_after None h = tt
end_after (Some x) h = h

pub filled_end : (b : Option (List ℕ)) (ys : List ℕ) → IsAtEnd b → IsAtEnd (prepend_known (slice_range ys 0 0) b)
filled_end b ys h = end_after b h

given_front : (a : Option (List ℕ)) (bs : List ℕ) (n : ℕ) → Consumes (prepend_known bs a) (prepend_known (drop n bs) a) (take n bs)
given_front None bs n = tt
given_front (Some x) bs n = ap (λ l. l ++ x) (sym (take-append-drop n bs)) ∙ append_assoc (take n bs) (drop n bs) x

slice_range-add : (xs : List ℕ) (start end n : ℕ) → n ≤ length (slice_range xs start end) → slice_range xs (start + n) end ≡ drop n (slice_range xs start end)
slice_range-add xs start end n few =
    let m = end - (start + n) in
    let within : n ≤ end - start = omega (arith, few, length-take (end - start) (drop start xs)) in
    let parts : end - start ≡ n + m = omega arith in
    sym (ap (λ (k : ℕ). drop n (take k (drop start xs))) parts ∙ drop-take n m (drop start xs) ∙ ap (take m) (drop-drop n start xs))

-- the first n bytes of a buffer were given
pub given_bytes : (a : Option (List ℕ)) (xs : List ℕ) (start end n p q : ℕ) → n ≤ length (slice_range xs start end) → q ≡ counted (p + n)
    → Consumes (prepend_known (slice_range xs start end) a) (prepend_known (slice_range xs (start + n) end) a) (take n (slice_range xs start end))
    × (q ≡ counted (p + length (take n (slice_range xs start end))))
given_bytes a xs start end n p q few e =
    let left = slice_range xs start end in
    let count : n ≡ length (take n left) = sym (length-take-le n left few) in (
      subst (λ (l : List ℕ). Consumes (prepend_known left a) (prepend_known l a) (take n left)) (sym (slice_range-add xs start end n few)) (given_front a left n),
      e ∙ ap (λ (k : ℕ). counted (p + k)) count,
    )

pub unchanged : (a : Option (List ℕ)) → Keeps a a
unchanged = Keeps-refl

-- ---- lines

abbrev pub is_line_feed : ℕ → Bool
is_line_feed b = b == 10

-- the first line of so many bytes
abbrev pub first_line : ℕ → List ℕ → List ℕ
first_line k xs = take_through 10 (take k xs)

through_here : (xs : List ℕ) → take (suc (prefix_len (λ b. not (is_line_feed b)) xs)) xs ≡ take_through 10 xs
through_here [] = refl
through_here (x ∷ xs) = at (eqb x 10) (through_here xs)
  where
    at : (b : Bool) → take (suc (prefix_len (λ b. not (is_line_feed b)) xs)) xs ≡ take_through 10 xs
        → take (suc (cond (not b) (1 + prefix_len (λ b. not (is_line_feed b)) xs) 0)) (x ∷ xs) ≡ cond b (x ∷ []) (x ∷ take_through 10 xs)
    at true e = refl
    at false e = ap (λ (m : ℕ). x ∷ take m xs) (one-add (prefix_len (λ b. not (is_line_feed b)) xs)) ∙ ap (λ l. x ∷ l) e

any_line_feed : (xs : List ℕ) → list_any is_line_feed xs ≡ nat_lt (prefix_len (λ b. not (is_line_feed b)) xs) (length xs)
any_line_feed = any_before is_line_feed

-- where the first line feed is
found_at : (xs : List ℕ) (i : ℕ) → position (λ b. b == 10) xs ≡ Some i → (prefix_len (λ b. not (is_line_feed b)) xs ≡ i) × (i < length xs)
found_at xs i e = at (nat_lt (prefix_len (λ b. not (is_line_feed b)) xs) (length xs)) refl e
  where
    at : (b : Bool) → nat_lt (prefix_len (λ b. not (is_line_feed b)) xs) (length xs) ≡ b → cond b (Some (prefix_len (λ b. not (is_line_feed b)) xs)) None ≡ Some i
        → (prefix_len (λ b. not (is_line_feed b)) xs ≡ i) × (i < length xs)
    at true t h = let same : prefix_len (λ b. not (is_line_feed b)) xs ≡ i = cc in (same, omega (arith, same, ltb-true _ _ t))
    at false t h = cc

not_found : (xs : List ℕ) → position (λ b. b == 10) xs ≡ None → nat_lt (prefix_len (λ b. not (is_line_feed b)) xs) (length xs) ≡ false
not_found xs e = at (nat_lt (prefix_len (λ b. not (is_line_feed b)) xs) (length xs)) refl e
  where
    at : (b : Bool) → nat_lt (prefix_len (λ b. not (is_line_feed b)) xs) (length xs) ≡ b → cond b (Some (prefix_len (λ b. not (is_line_feed b)) xs)) None ≡ None
        → nat_lt (prefix_len (λ b. not (is_line_feed b)) xs) (length xs) ≡ false
    at true t h = cc
    at false t h = t

pub place_within : (xs : List ℕ) (i : ℕ) → position (λ b. b == 10) xs ≡ Some i → i < length xs
place_within xs i e = (found_at xs i e).1

pub through_first : (xs : List ℕ) (i : ℕ) → position (λ b. b == 10) xs ≡ Some i → take (i + 1) xs ≡ take_through 10 xs
through_first xs i e = ap (λ (n : ℕ). take n xs) (add-one i) ∙ ap (λ (n : ℕ). take (suc n) xs) (sym (found_at xs i e).0) ∙ through_here xs

pub through_all : (xs : List ℕ) → position (λ b. b == 10) xs ≡ None → take_through 10 xs ≡ xs
through_all xs e = sym (through_here xs) ∙ take_all (suc (prefix_len (λ b. not (is_line_feed b)) xs)) xs (omega (arith, ltb-false _ _ (not_found xs e)))

pub some_line_feed : (xs : List ℕ) (i : ℕ) → position (λ b. b == 10) xs ≡ Some i → list_any is_line_feed xs ≡ true
some_line_feed xs i e = any_line_feed xs ∙ lt-ltb _ _ (omega (arith, (found_at xs i e).0, (found_at xs i e).1))

pub no_line_feed : (xs : List ℕ) → position (λ b. b == 10) xs ≡ None → list_any is_line_feed xs ≡ false
no_line_feed xs e = any_line_feed xs ∙ not_found xs e

shift : (c : Bool) (x : ℕ) (p q : List ℕ) → x ∷ cond c p q ≡ cond c (x ∷ p) (x ∷ q)
shift true x p q = refl
shift false x p q = refl

fewer : (k n : ℕ) → suc k - suc n ≡ k - n
fewer k n = omega arith

-- the first line of two parts ends in the first of them, or continues in the second
abbrev MoreOf : ℕ → List ℕ → List ℕ → Type 0
MoreOf k left rest =
    first_line k (left ++ rest) ≡ cond (list_any is_line_feed (take k left)) (first_line k left) (first_line k left ++ first_line (k - length (first_line k left)) rest)

pub first_line_more : (k : ℕ) (left rest : List ℕ) → MoreOf k left rest
first_line_more zero left rest = refl
first_line_more (suc k) [] rest = ap (λ (n : ℕ). first_line n rest) (sym (sub-zero (suc k)))
first_line_more (suc k) (x ∷ left) rest = at (eqb x 10) (first_line_more k left rest)
  where
    at : (b : Bool) → MoreOf k left rest → cond b (x ∷ []) (x ∷ first_line k (left ++ rest))
        ≡ cond (b || list_any is_line_feed (take k left)) (cond b (x ∷ []) (x ∷ first_line k left))
        (cond b (x ∷ []) (x ∷ first_line k left) ++ first_line (suc k - length (cond b (x ∷ []) (x ∷ first_line k left))) rest)
    at true e = refl
    at false e = ap (λ l. x ∷ l) e ∙ shift (list_any is_line_feed (take k left)) x (first_line k left) (first_line k left ++ first_line (k - length (first_line k left)) rest)
        ∙ ap (λ (n : ℕ). cond (list_any is_line_feed (take k left)) (x ∷ first_line k left) (x ∷ (first_line k left ++ first_line n rest))) (sym (fewer k (length (first_line k left))))

-- what was given of the first line so far
abbrev pub SoFar : ℕ → Option (List ℕ) → Option (List ℕ) → List ℕ → Type 0
SoFar n None new got = Unit {0}
SoFar n (Some xs) None got = ⊥
SoFar n (Some xs) (Some ys) got = (xs ≡ got ++ ys) × (first_line n xs ≡ got ++ first_line (n - length got) ys)

pub so_far_start : (n : ℕ) (a : Option (List ℕ)) → SoFar n a a []
so_far_start n None = tt
so_far_start n (Some xs) = (refl, ap (λ (k : ℕ). first_line k xs) (sym (sub-zero n)))

pub so_far_kept : (n : ℕ) (a b c : Option (List ℕ)) (got : List ℕ) → SoFar n a b got → Keeps b c → SoFar n a c got
so_far_kept n None b c got p k = tt
so_far_kept n (Some xs) None c got p k = absurd p
so_far_kept n (Some xs) (Some ys) None got p k = absurd k
so_far_kept n (Some xs) (Some ys) (Some zs) got p k = (p.0 ∙ ap (λ l. got ++ l) (sym k), p.1 ∙ ap (λ l. got ++ first_line (n - length got) l) (sym k))

left_after : (n : ℕ) (got piece : List ℕ) → n - length got - length piece ≡ n - length (got ++ piece)
left_after n got piece = omega (arith, length-append got piece)

joined_step : (x : ℕ) (k : ℕ) (more zs : List ℕ) → x ∷ (more ++ first_line (k - length more) zs) ≡ (x ∷ more) ++ first_line (suc k - suc (length more)) zs
joined_step x k more zs = ap (λ (n : ℕ). x ∷ (more ++ first_line n zs)) (sym (fewer k (length more)))

-- bytes without a line feed are the front of the first line
without_line_feed : (k : ℕ) (piece zs : List ℕ) → length piece ≤ k → list_any is_line_feed piece ≡ false → first_line k (piece ++ zs) ≡ piece ++ first_line (k - length piece) zs
without_line_feed k [] zs h none = ap (λ (n : ℕ). first_line n zs) (sym (sub-zero k))
without_line_feed zero (x ∷ piece) zs h none = absurd (omega arith)
without_line_feed (suc k) (x ∷ piece) zs h none = at (eqb x 10) none (without_line_feed k piece zs (omega arith))
  where
    at : (b : Bool) → (b || list_any is_line_feed piece) ≡ false → (list_any is_line_feed piece ≡ false → first_line k (piece ++ zs) ≡ piece ++ first_line (k - length piece) zs)
        → cond b (x ∷ []) (x ∷ first_line k (piece ++ zs)) ≡ (x ∷ piece) ++ first_line (suc k - suc (length piece)) zs
    at true e more = cc
    at false e more = ap (λ l. x ∷ l) (more e) ∙ joined_step x k piece zs

any_same : (xs : List ℕ) → list_any is_line_feed (take_through 10 xs) ≡ list_any is_line_feed xs
any_same [] = refl
any_same (x ∷ xs) = at (eqb x 10) refl (any_same xs)
  where
    at : (b : Bool) → eqb x 10 ≡ b → list_any is_line_feed (take_through 10 xs) ≡ list_any is_line_feed xs
        → list_any is_line_feed (cond b (x ∷ []) (x ∷ take_through 10 xs)) ≡ (b || list_any is_line_feed xs)
    at true e same = ap (λ (b : Bool). b || false) e
    at false e same = ap (λ (b : Bool). b || list_any is_line_feed (take_through 10 xs)) e ∙ same

through_le : (xs : List ℕ) → length (take_through 10 xs) ≤ length xs
through_le [] = omega arith
through_le (x ∷ xs) = at (eqb x 10) (through_le xs)
  where
    at : (b : Bool) → length (take_through 10 xs) ≤ length xs → length (cond b (x ∷ []) (x ∷ take_through 10 xs)) ≤ suc (length xs)
    at true h = omega arith
    at false h = omega arith

through_front : (xs : List ℕ) → take (length (take_through 10 xs)) xs ≡ take_through 10 xs
through_front [] = refl
through_front (x ∷ xs) = at (eqb x 10) (through_front xs)
  where
    at : (b : Bool) → take (length (take_through 10 xs)) xs ≡ take_through 10 xs → take (length (cond b (x ∷ []) (x ∷ take_through 10 xs))) (x ∷ xs) ≡ cond b (x ∷ []) (x ∷ take_through 10 xs)
    at true e = refl
    at false e = ap (λ l. x ∷ l) e

pub first_line_le : (k : ℕ) (xs : List ℕ) → length (first_line k xs) ≤ k
first_line_le k xs = omega (arith, through_le (take k xs), length-take k xs)

-- a first line is a front of the bytes
pub line_front : (k : ℕ) (xs : List ℕ) → take (length (first_line k xs)) xs ≡ first_line k xs
line_front k xs =
    let m = length (first_line k xs) in
    sym (take-take m k xs (first_line_le k xs)) ∙ through_front (take k xs)

pub line_shorter : (k : ℕ) (xs : List ℕ) → length (first_line k xs) ≤ length xs
line_shorter k xs = omega (arith, through_le (take k xs), length-take k xs)

-- so are the first k of them
pub piece_front : (k : ℕ) (xs : List ℕ) → take (length (take k xs)) xs ≡ take k xs
piece_front k xs =
    let short : length (take k xs) ≤ k = omega (arith, length-take k xs) in
    sym (take-take (length (take k xs)) k xs short) ∙ take-length (take k xs)

pub so_far_more : (n : ℕ) (a b c : Option (List ℕ)) (left got : List ℕ) → SoFar n a b got → list_any is_line_feed (take (n - length got) left) ≡ false
    → Consumes b c (first_line (n - length got) left) → SoFar n a c (got ++ first_line (n - length got) left)
so_far_more n None b c left got p none k = tt
so_far_more n (Some xs) None c left got p none k = absurd p
so_far_more n (Some xs) (Some ys) None left got p none k = absurd k
so_far_more n (Some xs) (Some ys) (Some zs) left got p none k =
    let piece = first_line (n - length got) left in
    let clean : list_any is_line_feed piece ≡ false = any_same (take (n - length got) left) ∙ none in
    let rest : first_line (n - length got) ys ≡ piece ++ first_line (n - length got - length piece) zs =
    ap (first_line (n - length got)) k ∙ without_line_feed (n - length got) piece zs (first_line_le (n - length got) left) clean in (
      p.0 ∙ ap (λ l. got ++ l) k ∙ sym (append_assoc got piece zs),
      p.1 ∙ ap (λ l. got ++ l) rest ∙ sym (append_assoc got piece (first_line (n - length got - length piece) zs))
          ∙ ap (λ (m : ℕ). (got ++ piece) ++ first_line m zs) (left_after n got piece),
    )

-- ---- what was given is a first part of the known bytes

gives : (front : List ℕ → List ℕ) (a c : Option (List ℕ)) (bytes : List ℕ) → Consumes a c bytes → IfSome a (λ xs. bytes ≡ front xs) → GivesFront front a c bytes
gives front None c bytes p h = tt
gives front (Some xs) None bytes p h = absurd p
gives front (Some xs) (Some ys) bytes p h = (h, ap Some (sym (drop-append_seam bytes ys) ∙ ap (drop (length bytes)) (sym p)))

-- a line feed was met
pub so_far_found : (n : ℕ) (a r c : Option (List ℕ)) (left got : List ℕ) → SoFar n a (prepend_known left r) got → list_any is_line_feed (take (n - length got) left) ≡ true
    → Consumes (prepend_known left r) c (first_line (n - length got) left) → GivesFront (first_line n) a c (got ++ first_line (n - length got) left)
so_far_found n None r c left got p some k = tt
so_far_found n (Some xs) None c left got p some k = absurd p
so_far_found n (Some xs) (Some ys) c left got p some k =
    let piece = first_line (n - length got) left in
    let rest : first_line (n - length got) (left ++ ys) ≡ piece =
    first_line_more (n - length got) left ys ∙ ap (λ (b : Bool). cond b piece (piece ++ first_line (n - length got - length piece) ys)) some in
    gives (first_line n) (Some xs) c (got ++ piece) (Consumes-trans (Some xs) (Some (left ++ ys)) c got piece p.0 k) (sym (p.1 ∙ ap (λ l. got ++ l) rest))

-- there are as many bytes as there may be
pub so_far_full : (n : ℕ) (a b : Option (List ℕ)) (got : List ℕ) → SoFar n a b got → n ≤ length got → GivesFront (first_line n) a b got
so_far_full n None b got p h = tt
so_far_full n (Some xs) None got p h = absurd p
so_far_full n (Some xs) (Some ys) got p h =
    let none : n - length got ≡ 0 = omega arith in
    gives (first_line n) (Some xs) (Some ys) got p.0 (sym (p.1 ∙ ap (λ (k : ℕ). got ++ first_line k ys) none ∙ append-nil got))

nothing_through : (k : ℕ) → first_line k [] ≡ []
nothing_through zero = refl
nothing_through (suc k) = refl

-- the input ends
pub so_far_end : (n : ℕ) (a b : Option (List ℕ)) (got : List ℕ) → SoFar n a b got → IsAtEnd b → GivesFront (first_line n) a b got
so_far_end n None b got p h = tt
so_far_end n (Some xs) None got p h = absurd p
so_far_end n (Some xs) (Some ys) got p h =
    gives (first_line n) (Some xs) (Some ys) got p.0 (sym (p.1 ∙ ap (λ l. got ++ first_line (n - length got) l) h ∙ ap (λ l. got ++ l) (nothing_through (n - length got)) ∙ append-nil got))

-- the same of bytes without lines
pub front_full : (n : ℕ) (a b : Option (List ℕ)) (got : List ℕ) → Consumes a b got → length got ≡ n → GivesFront (take n) a b got
front_full n None b got p h = tt
front_full n (Some xs) None got p h = absurd p
front_full n (Some xs) (Some ys) got p h = gives (take n) (Some xs) (Some ys) got p (sym (ap (take n) p ∙ ap (λ (k : ℕ). take k (got ++ ys)) (sym h) ∙ take-append_seam got ys))

pub front_end : (n : ℕ) (a b : Option (List ℕ)) (got : List ℕ) → Consumes a b got → IsAtEnd b → length got ≤ n → GivesFront (take n) a b got
front_end n None b got p e h = tt
front_end n (Some xs) None got p e h = absurd p
front_end n (Some xs) (Some ys) got p e h =
    let all : xs ≡ got = p ∙ ap (λ l. got ++ l) e ∙ append-nil got in
    gives (take n) (Some xs) (Some ys) got p (sym (ap (take n) all ∙ take_all n got h))

-- ---- after the buffer was filled

pub read_more : (a b c d : Option (List ℕ)) (got piece new : List ℕ) → Consumes a b got → Keeps b c → Consumes c d piece → new ≡ got ++ piece → Consumes a d new
read_more a b c d got piece new p k q e = subst (Consumes a d) (sym e) (Consumes-trans a c d got piece (Consumes-kept a b c got p k) q)

pub given_more : (p q s : ℕ) (got piece new : List ℕ) → q ≡ counted (p + length got) → s ≡ counted (q + length piece) → new ≡ got ++ piece → s ≡ counted (p + length new)
given_more p q s got piece new e f h = omega (arith, e, f, ap length h, length-append got piece)

pub front_ended : (n : ℕ) (a b c : Option (List ℕ)) (got : List ℕ) → Consumes a b got → Keeps b c → IsAtEnd c → length got ≤ n → GivesFront (take n) a c got
front_ended n a b c got p k e h = front_end n a c got (Consumes-kept a b c got p k) e h

pub line_more : (n : ℕ) (a b c d : Option (List ℕ)) (left got new : List ℕ) → SoFar n a b got → Keeps b c → list_any is_line_feed (take (n - length got) left) ≡ false
    → Consumes c d (first_line (n - length got) left) → new ≡ got ++ first_line (n - length got) left → SoFar n a d new
line_more n a b c d left got new p k none q e = subst (SoFar n a d) (sym e) (so_far_more n a c d left got (so_far_kept n a b c got p k) none q)

pub line_found : (n : ℕ) (a b r d : Option (List ℕ)) (left got new : List ℕ) → SoFar n a b got → Keeps b (prepend_known left r) → list_any is_line_feed (take (n - length got) left) ≡ true
    → Consumes (prepend_known left r) d (first_line (n - length got) left) → new ≡ got ++ first_line (n - length got) left → GivesFront (first_line n) a d new
line_found n a b r d left got new p k some q e =
    subst (GivesFront (first_line n) a d) (sym e) (so_far_found n a r d left got (so_far_kept n a b (prepend_known left r) got p k) some q)

pub line_ended : (n : ℕ) (a b c : Option (List ℕ)) (got : List ℕ) → SoFar n a b got → Keeps b c → IsAtEnd c → GivesFront (first_line n) a c got
line_ended n a b c got p k e = so_far_end n a c got (so_far_kept n a b c got p k) e

pub line_within : (n : ℕ) (left got new : List ℕ) → length got ≤ n → new ≡ got ++ first_line (n - length got) left → length new ≤ n
line_within n left got new h e = omega (arith, ap length e, length-append got (first_line (n - length got) left), first_line_le (n - length got) left)

-- some bytes were given
nonempty_through : (xs : List ℕ) → 0 < length xs → 0 < length (take_through 10 xs)
nonempty_through [] h = absurd (omega arith)
nonempty_through (x ∷ xs) h = at (eqb x 10)
  where
    at : (b : Bool) → 0 < length (cond b (x ∷ []) (x ∷ take_through 10 xs))
    at true = omega arith
    at false = omega arith

pub line_grows : (n : ℕ) (left got new : List ℕ) → length got < n → 0 < length left → new ≡ got ++ first_line (n - length got) left → length got < length new
line_grows n left got new h some e =
    omega (arith, ap length e, length-append got (first_line (n - length got) left), nonempty_through (take (n - length got) left) (omega (arith, length-take (n - length got) left)))

-- ---- at the beginning

pub read_start : (a : Option (List ℕ)) (got : List ℕ) → got ≡ [] → Consumes a a got
read_start a got e = subst (Consumes a a) (sym e) (Consumes-nil a)

pub line_start : (n : ℕ) (a : Option (List ℕ)) (got : List ℕ) → got ≡ [] → SoFar n a a got
line_start n a got e = subst (SoFar n a a) (sym e) (so_far_start n a)

pub given_start : (p n : ℕ) → p < 2 ^ 64 → n ≡ 0 → p ≡ counted (p + n)
given_start p n h e = omega (arith, e)

-- ---- the same by how many bytes there may be

pub more_by : (n k : ℕ) (a b c d : Option (List ℕ)) (left got new : List ℕ) → k ≡ n - length got → SoFar n a b got → Keeps b c → list_any is_line_feed (take k left) ≡ false
    → Consumes c d (first_line k left) → new ≡ got ++ first_line k left → SoFar n a d new
more_by n k a b c d left got new e p q none r f =
    line_more n a b c d left got new p q (subst (λ (j : ℕ). list_any is_line_feed (take j left) ≡ false) e none) (subst (λ (j : ℕ). Consumes c d (first_line j left)) e r)
    (subst (λ (j : ℕ). new ≡ got ++ first_line j left) e f)

pub found_by : (n k : ℕ) (a b r d : Option (List ℕ)) (left got new : List ℕ) → k ≡ n - length got → SoFar n a b got → Keeps b (prepend_known left r)
    → list_any is_line_feed (take k left) ≡ true → Consumes (prepend_known left r) d (first_line k left) → new ≡ got ++ first_line k left → GivesFront (first_line n) a d new
found_by n k a b r d left got new e p q some s f =
    line_found n a b r d left got new p q (subst (λ (j : ℕ). list_any is_line_feed (take j left) ≡ true) e some)
    (subst (λ (j : ℕ). Consumes (prepend_known left r) d (first_line j left)) e s) (subst (λ (j : ℕ). new ≡ got ++ first_line j left) e f)

pub within_by : (n k : ℕ) (left got new : List ℕ) → k ≡ n - length got → length got ≤ n → new ≡ got ++ first_line k left → length new ≤ n
within_by n k left got new e h f = line_within n left got new h (subst (λ (j : ℕ). new ≡ got ++ first_line j left) e f)

pub grows_by : (n k : ℕ) (left got new : List ℕ) → k ≡ n - length got → length got < n → 0 < length left → new ≡ got ++ first_line k left → length got < length new
grows_by n k left got new e h some f = line_grows n left got new h some (subst (λ (j : ℕ). new ≡ got ++ first_line j left) e f)
