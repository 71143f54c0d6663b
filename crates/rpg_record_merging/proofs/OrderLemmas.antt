-- Which record is next, file by file.
use Rattle.std.proofs.Common.{◌≡◌, ◌⊎◌, ℕ, zero, suc, ◌+◌, ◌-◌, ◌<◌, ◌≤◌, Bool, true, false, List, [], ◌∷◌, ◌++◌, length, length-take, map, take, cond, subst, replicate, get_or, refl, sym, ap, ap₂, ◌∙◌, arith, length-append, Option, None, Some, inl, inr}
use Rattle.std.proofs.lemmas.Bool.{cases_lt, true_from_ne_false, true≢false}
use Rattle.std.proofs.lemmas.Cmp.{upto}
use Rattle.std.proofs.lemmas.List.{append_assoc, get_or_append_left, get_or_past, get_or_push, get_or-map, get_or-take, length-map, length-replicate, map_more}
use Rattle.std.specs.Cmp.{IsTotalOrder, nat_cmp_total, on_total}
use Rattle.std.specs.Cmp.Lexicographic.{lists_total, slice_cmp}
use Rattle.std.specs.Ordering.{is_gt, ordering_reverse, ordering_then}
use Rattle.std.specs.declared.cmp.Ordering.{Ordering}
use Rattle.std.specs.declared.cmp.Ordering.TheVariants.{Less, Equal, Greater}
use Rattle.std.proofs.lemmas.Cmp.{tied_itself}
use Rattle.rpg_decimal_words.specs.Order.{character_cmp, padded_text, rank, text_cmp}
use Rattle.rpg_record_merging.specs.Order.{IsNext, is_before, value_of, waiting_of}
use Rattle.rpg_record_merging.specs.declared.head.Head.{Head}

-- ---- texts of any lengths

more_blanks : (j k v : ℕ) → replicate (j + k) v ≡ replicate j v ++ replicate k v
more_blanks zero k v = let e : 0 + k ≡ k = omega arith in ap (λ (n : ℕ). replicate n v) e
more_blanks (suc j) k v = let e : suc j + k ≡ suc (j + k) = omega arith in ap (λ (n : ℕ). replicate n v) e ∙ ap (λ (l : List ℕ). v ∷ l) (more_blanks j k v)

characters_total : IsTotalOrder character_cmp
characters_total = on_total rank nat_cmp_total

texts_total : IsTotalOrder (slice_cmp character_cmp)
texts_total = lists_total characters_total

-- what follows both of two texts of one length doesn't matter
same_end : (xs ys zs : List ℕ) → length xs ≡ length ys → slice_cmp character_cmp (xs ++ zs) (ys ++ zs) ≡ slice_cmp character_cmp xs ys
same_end [] [] zs e = tied_itself texts_total zs
same_end [] (y ∷ ys) zs e = absurd (omega (arith, e))
same_end (x ∷ xs) [] zs e = absurd (omega (arith, e))
same_end (x ∷ xs) (y ∷ ys) zs e = ap (ordering_then (character_cmp x y)) (same_end xs ys zs (omega (arith, e)))

abbrev widened : ℕ → List ℕ → List ℕ
widened n text = text ++ replicate (n - length text) 32

widened_more : (n m : ℕ) (text : List ℕ) → length text ≤ m → m ≤ n → widened n text ≡ widened m text ++ replicate (n - m) 32
widened_more n m text low high =
    let e : n - length text ≡ m - length text + (n - m) = omega (arith, low, high) in
    ap (λ (k : ℕ). text ++ replicate k 32) e ∙ ap (λ (l : List ℕ). text ++ l) (more_blanks (m - length text) (n - m) 32)
    ∙ sym (append_assoc text (replicate (m - length text) 32) (replicate (n - m) 32))

-- texts are compared at any length that both have room in
at_length : (n : ℕ) (v w : List ℕ) → length v ≤ n → length w ≤ n → text_cmp v w ≡ slice_cmp character_cmp (widened n v) (widened n w)
at_length n v w fits_v fits_w =
    let m = length v + (length w - length v) in
    let front_v : padded_text (length w) v ≡ widened m v = let e : length w - length v ≡ m - length v = omega arith in ap (λ (k : ℕ). v ++ replicate k 32) e in
    let front_w : padded_text (length v) w ≡ widened m w = let e : length v - length w ≡ m - length w = omega arith in ap (λ (k : ℕ). w ++ replicate k 32) e in
    let long : length (widened m v) ≡ length (widened m w) =
    omega (arith, length-append v (replicate (m - length v) 32), length-append w (replicate (m - length w) 32), length-replicate {A = ℕ} (m - length v) 32, length-replicate {A = ℕ} (m - length w) 32) in
    ap₂ (slice_cmp character_cmp) front_v front_w
    ∙ sym (ap₂ (slice_cmp character_cmp) (widened_more n m v (omega arith) (omega (arith, fits_v, fits_w))) (widened_more n m w (omega arith) (omega (arith, fits_v, fits_w)))
    ∙ same_end (widened m v) (widened m w) (replicate (n - m) 32) long)

not_above : (u v w : List ℕ) → is_gt (text_cmp u v) ≡ false → is_gt (text_cmp v w) ≡ false → is_gt (text_cmp u w) ≡ false
not_above u v w g h =
    let n = length u + (length v + length w) in
    let total = on_total (widened n) texts_total in
    ap is_gt (at_length n u w (omega arith) (omega arith))
    ∙ upto total u v w (sym (ap is_gt (at_length n u v (omega arith) (omega arith))) ∙ g) (sym (ap is_gt (at_length n v w (omega arith) (omega arith))) ∙ h)

back : (o : Ordering) → is_gt o ≡ true → is_gt (ordering_reverse o) ≡ false
back Less h = cc
back Equal h = cc
back Greater h = refl

not_both : (v w : List ℕ) → is_gt (text_cmp v w) ≡ true → is_gt (text_cmp w v) ≡ false
not_both v w h =
    let n = length v + length w in
    let total = on_total (widened n) texts_total in
    let turned : text_cmp w v ≡ ordering_reverse (text_cmp v w) =
    at_length n w v (omega arith) (omega arith) ∙ total.antisymm w v ∙ ap ordering_reverse (sym (at_length n v w (omega arith) (omega arith))) in
    ap is_gt turned ∙ back (text_cmp v w) h

-- ---- records

not_back : (d : Bool) (v w : Option (List ℕ)) → is_before d v w ≡ true → is_before d w v ≡ false
not_back d None None h = refl
not_back d None (Some w) h = refl
not_back d (Some v) None h = cc
not_back true (Some v) (Some w) h = not_both v w h
not_back false (Some v) (Some w) h = not_both w v h

not_itself : (d : Bool) (v : Option (List ℕ)) → is_before d v v ≡ false
not_itself d v = at (is_before d v v) refl
  where
    at : (b : Bool) → is_before d v v ≡ b → is_before d v v ≡ false
    at true e = not_back d v v e
    at false e = e

between : (d : Bool) (v w u : Option (List ℕ)) → is_before d v w ≡ true → is_before d u w ≡ false → is_before d v u ≡ true
between d None None u h g = cc
between d None (Some w) None h g = cc
between d None (Some w) (Some u) h g = refl
between d (Some v) None u h g = cc
between d (Some v) (Some w) None h g = cc
between true (Some v) (Some w) (Some u) h g = true_from_ne_false (is_gt (text_cmp v u)) (λ e. true≢false (sym h ∙ not_above v u w e g))
between false (Some v) (Some w) (Some u) h g = true_from_ne_false (is_gt (text_cmp u v)) (λ e. true≢false (sym h ∙ not_above w u v g e))

-- ---- files

abbrev Waits : Type 0
Waits = Option (Option (List ℕ))

-- a record waits in one of these files, or in the one after them
where_it_waits : (fs : List Waits) (x : Waits) (k : ℕ) (w : Option (List ℕ)) → get_or (fs ++ x ∷ []) k None ≡ Some w
    → ((k < length fs) × (get_or fs k None ≡ Some w)) ⊎ ((k ≡ length fs) × (x ≡ Some w))
where_it_waits fs x k w h = elim (cases_lt k (length fs)) [
  | inl low ↦ inl (low, sym (get_or_append_left fs (x ∷ []) None k low) ∙ h)
  | inr high ↦ elim (cases_lt (length fs) k) [
    | inl past ↦ let none = get_or_past (fs ++ x ∷ []) k None (omega (arith, past, length-append fs (x ∷ []))) in cc
    | inr le ↦ let e : k ≡ length fs = omega (arith, high, le) in inr (e, sym (get_or_push fs x None k (sym e)) ∙ h)
  ]
]

left : (fs : List Waits) (x : Waits) (k : ℕ) → k < length fs → get_or (fs ++ x ∷ []) k None ≡ get_or fs k None
left fs x k low = get_or_append_left fs (x ∷ []) None k low

inside : (fs : List Waits) (k : ℕ) (w : Option (List ℕ)) → get_or fs k None ≡ Some w → k < length fs
inside fs k w h = elim (cases_lt k (length fs)) [
  | inl low ↦ low
  | inr high ↦ let none = get_or_past fs k None high in cc
]

abbrev value : Waits → Option (List ℕ)
value None = None
value (Some v) = v

-- nothing waits in these files or the one after them
pub next_none : (d : Bool) (fs : List Waits) (x : Waits) → IsNext d fs None → x ≡ None → IsNext d (fs ++ x ∷ []) None
next_none d fs x h e = λ k. elim (cases_lt k (length fs)) [
  | inl low ↦ left fs x k low ∙ h k
  | inr high ↦ elim (cases_lt (length fs) k) [
    | inl past ↦ get_or_past (fs ++ x ∷ []) k None (omega (arith, past, length-append fs (x ∷ [])))
    | inr le ↦ get_or_push fs x None k (omega (arith, high, le)) ∙ e
  ]
]

-- what waits in the file after them isn't before the next record
pub next_kept : (d : Bool) (fs : List Waits) (x : Waits) (p : ℕ) (n : IsNext d fs (Some p)) → ((u : Option (List ℕ)) → x ≡ Some u → is_before d u n.0 ≡ false) → IsNext d (fs ++ x ∷ []) (Some p)
next_kept d fs x p n before =
    let low_p = inside fs p n.0 n.1 in (
      n.0,
      left fs x p low_p ∙ n.1,
      λ k w h. elim (where_it_waits fs x k w h) [
        | inl here ↦ n.2 k w here.1
        | inr here ↦ (before w here.1, λ low. absurd (omega (arith, here.0, low, low_p)))
      ],
    )

-- it is the first that waits
pub next_first : (d : Bool) (fs : List Waits) (x : Waits) (u : Option (List ℕ)) → IsNext d fs None → x ≡ Some u → IsNext d (fs ++ x ∷ []) (Some (length fs))
next_first d fs x u n e = (
  u,
  get_or_push fs x None (length fs) refl ∙ e,
  λ k w h. elim (where_it_waits fs x k w h) [
    | inl here ↦ let none = n k in let some = here.1 in cc
    | inr here ↦ (ap (λ z. is_before d z u) (ap value (sym here.1 ∙ e)) ∙ not_itself d u, λ low. absurd (omega (arith, here.0, low)))
  ],
)

-- it is before the next record
pub next_taken : (d : Bool) (fs : List Waits) (x : Waits) (p : ℕ) (u : Option (List ℕ)) (n : IsNext d fs (Some p)) → x ≡ Some u → is_before d u n.0 ≡ true → IsNext d (fs ++ x ∷ []) (Some (length fs))
next_taken d fs x p u n e before = (
  u,
  get_or_push fs x None (length fs) refl ∙ e,
  λ k w h. elim (where_it_waits fs x k w h) [
    | inl here ↦ let up = between d u n.0 w before (n.2 k w here.1).0 in (not_back d u w up, λ low. up)
    | inr here ↦ (ap (λ z. is_before d z u) (ap value (sym here.1 ∙ e)) ∙ not_itself d u, λ low. absurd (omega (arith, here.0, low)))
  ],
)

-- ---- files and the one after them

abbrev of_files : List Head → List Waits
of_files hs = map waiting_of hs

file_more : (hs : List Head) (i : ℕ) (h : Head) → i < length hs → h ≡ get_or hs i h → of_files (take i hs) ++ waiting_of h ∷ [] ≡ of_files (take (i + 1) hs)
file_more hs i h low e = ap (λ x. of_files (take i hs) ++ waiting_of x ∷ []) e ∙ sym (map_more waiting_of hs i h low)

long : (hs : List Head) (i : ℕ) → i < length hs → length (of_files (take i hs)) ≡ i
long hs i low = length-map (take i hs) waiting_of ∙ omega (arith, low, length-take i hs)

gone : (h : Head) → h.is_there ≡ false → waiting_of h ≡ None
gone h e = ap (λ (b : Bool). cond b (Some (value_of h)) None) e

there : (h : Head) → h.is_there ≡ true → waiting_of h ≡ Some (value_of h)
there h e = ap (λ (b : Bool). cond b (Some (value_of h)) None) e

value_is : (h : Head) (v : Option (List ℕ)) → waiting_of h ≡ Some v → value_of h ≡ v
value_is h v e = at h.is_there e
  where
    at : (b : Bool) → cond b (Some (value_of h)) None ≡ Some v → value_of h ≡ v
    at true e = ap value e
    at false e = cc

-- the value of what is next
next_value : (d : Bool) (hs : List Head) (i p : ℕ) (q : Head) (n : IsNext d (of_files (take i hs)) (Some p)) → i < length hs → p < i → q ≡ get_or hs p q → value_of q ≡ n.0
next_value d hs i p q n low before e =
    let inside : p < length (take i hs) = omega (arith, low, before, length-take i hs) in
    let here : get_or (of_files (take i hs)) p None ≡ waiting_of q =
    get_or-map waiting_of (take i hs) p q None inside ∙ ap waiting_of (get_or-take i hs p q before) ∙ ap waiting_of (sym e) in
    value_is q n.0 (sym here ∙ n.1)

pub still_next : (d : Bool) (hs : List Head) (i : ℕ) (h : Head) (next : Option ℕ) → i < length hs → h ≡ get_or hs i h → h.is_there ≡ false
    → IsNext d (of_files (take i hs)) next → IsNext d (of_files (take (i + 1) hs)) next
still_next d hs i h None low e none n = subst (λ fs. IsNext d fs None) (file_more hs i h low e) (next_none d (of_files (take i hs)) (waiting_of h) n (gone h none))
still_next d hs i h (Some p) low e none n =
    let empty = gone h none in
    subst (λ fs. IsNext d fs (Some p)) (file_more hs i h low e) (next_kept d (of_files (take i hs)) (waiting_of h) p n (λ u some. cc))

pub first_next : (d : Bool) (hs : List Head) (i : ℕ) (h : Head) → i < length hs → h ≡ get_or hs i h → h.is_there ≡ true
    → IsNext d (of_files (take i hs)) None → IsNext d (of_files (take (i + 1) hs)) (Some i)
first_next d hs i h low e some n =
    subst (λ fs. IsNext d fs (Some i)) (file_more hs i h low e)
    (subst (λ k. IsNext d (of_files (take i hs) ++ waiting_of h ∷ []) (Some k)) (long hs i low) (next_first d (of_files (take i hs)) (waiting_of h) (value_of h) n (there h some)))

pub this_next : (d : Bool) (hs : List Head) (i p : ℕ) (h q : Head) → i < length hs → h ≡ get_or hs i h → h.is_there ≡ true → p < i → q ≡ get_or hs p q
    → is_before d (value_of h) (value_of q) ≡ true → IsNext d (of_files (take i hs)) (Some p) → IsNext d (of_files (take (i + 1) hs)) (Some i)
this_next d hs i p h q low e some before e_q up n =
    let v = next_value d hs i p q n low before e_q in
    subst (λ fs. IsNext d fs (Some i)) (file_more hs i h low e)
    (subst (λ k. IsNext d (of_files (take i hs) ++ waiting_of h ∷ []) (Some k)) (long hs i low)
    (next_taken d (of_files (take i hs)) (waiting_of h) p (value_of h) n (there h some) (sym (ap (λ x. is_before d (value_of h) x) v) ∙ up)))

pub other_next : (d : Bool) (hs : List Head) (i p : ℕ) (h q : Head) → i < length hs → h ≡ get_or hs i h → h.is_there ≡ true → p < i → q ≡ get_or hs p q
    → is_before d (value_of h) (value_of q) ≡ false → IsNext d (of_files (take i hs)) (Some p) → IsNext d (of_files (take (i + 1) hs)) (Some p)
other_next d hs i p h q low e some before e_q up n =
    let v = next_value d hs i p q n low before e_q in
    subst (λ fs. IsNext d fs (Some p)) (file_more hs i h low e)
    (next_kept d (of_files (take i hs)) (waiting_of h) p n (λ u is. ap₂ (is_before d) (sym (value_is h u is)) (sym v) ∙ up))
