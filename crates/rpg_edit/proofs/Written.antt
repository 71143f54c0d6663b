-- Texts written from the last mark to the first.
use Rattle.std.proofs.Common.{◌-◌, ℤ, unsigned_abs, ◌≡◌, ℕ, suc, ◌+◌, ◌/◌, ◌^◌, ◌≤◌, Bool, List, [], ◌∷◌, ◌++◌, length, take, drop, refl, sym, ap, ◌∙◌, arith, append_assoc, length-append, length-drop, append-nil, add-one, pow-suc, get_or, drop-cons, ◌<◌, replicate}
use Rattle.rpg_edit_marks.specs.declared.mark.Mark.TheVariants.{Digit}
use Rattle.std.proofs.Math.Nat.{div-div-eq-div-mul}
use Rattle.std.proofs.lemmas.List.{take-take, drop_all, take-append-drop, take_all}
use borrow.Rule.Slice.PartMut.{put_mid, mid_of, post_of}
use Rattle.std.specs.Int.{is_negative}
use Rattle.std.proofs.lemmas.List.Sums.{sum_by-append}
use Rattle.rpg_edit_marks.specs.declared.mark.Mark.{Mark}
use Rattle.rpg_edit.specs.declared.suppression.Pass.{Pass}
use Rattle.rpg_edit_marks.specs.Edited.{places, character, characters, marked_text}
use Rattle.rpg_edit.specs.Written.{characters_before, Writes}

pub places-append : (xs ys : List Mark) → places (xs ++ ys) ≡ places xs + places ys
places-append xs ys = sum_by-append _ xs ys

pub before-append : (negative : Bool) (size kept fill : ℕ) (xs ys : List Mark) (k : ℕ) → characters_before negative size kept fill (xs ++ ys) k ≡ characters_before negative size kept fill xs (places ys + k) ++ characters_before negative size kept fill ys k
before-append negative size kept fill [] ys k = refl
before-append negative size kept fill (m ∷ rest) ys k =
    let both = places-append rest ys in
    let same : places (rest ++ ys) + k ≡ places rest + (places ys + k) = omega arith in
    rw same (ap (λ xs. character negative size kept fill m (places rest + (places ys + k)) ∷ xs) (before-append negative size kept fill rest ys k))

pub before-none : (negative : Bool) (size kept fill : ℕ) (marks : List Mark) → characters_before negative size kept fill marks 0 ≡ characters negative size kept fill marks
before-none negative size kept fill [] = refl
before-none negative size kept fill (m ∷ rest) =
    let same : places rest + 0 ≡ places rest = omega arith in
    rw same (ap (λ xs. character negative size kept fill m (places rest) ∷ xs) (before-none negative size kept fill rest))

pub quotient_next : (size k : ℕ) → size / 10 ^ k / 10 ≡ size / 10 ^ (k + 1)
quotient_next size k = div-div-eq-div-mul size (10 ^ k) 10 ∙ ap (λ p. size / p) (sym (pow-suc 10 k) ∙ ap (λ n. 10 ^ n) (sym (add-one k)))

shorter : (n m : ℕ) (xs ys : List ℕ) → n ≤ m → take m xs ≡ take m ys → take n xs ≡ take n ys
shorter n m xs ys h e = sym (take-take n m xs h) ∙ ap (take n) e ∙ take-take n m ys h

-- marks in front of others are written after them
pub writes-more : (xs ys : List Mark) (p q s : Pass) (o r t : List ℕ) → Writes xs p o q r → Writes ys q r s t → Writes (ys ++ xs) p o s t
writes-more xs ys p q s o r t one more =
    let negative = p.number.negative in
    let size = p.number.size in
    let kept = p.suppression.kept in
    let fill = p.suppression.fill in
    let left : q.start ≡ s.start + length ys = sym more.start in
    let within : s.start ≤ q.start = omega (arith, left) in
    let both = places-append ys xs in
    let lengths = length-append ys xs in
    let before : characters_before q.number.negative q.number.size q.suppression.kept q.suppression.fill ys q.after ≡ characters_before negative size kept fill ys (places xs + p.after) =
    let after : q.after ≡ places xs + p.after = omega (arith, one.after) in
    rw (one.number, one.suppression, after) refl in
    record {
      text = more.text ∙ ap (λ zs. zs ++ drop q.start r) before ∙ ap (λ zs. characters_before negative size kept fill ys (places xs + p.after) ++ zs) one.text
          ∙ sym (append_assoc (characters_before negative size kept fill ys (places xs + p.after)) (characters_before negative size kept fill xs p.after) (drop p.start o))
          ∙ ap (λ zs. zs ++ drop p.start o) (sym (before-append negative size kept fill ys xs p.after));
      front = more.front ∙ shorter s.start q.start r o within one.front;
      same_length = more.same_length ∙ one.same_length;
      start = omega (arith, one.start, more.start, lengths);
      after = omega (arith, one.after, more.after, both);
      number = more.number ∙ one.number;
      suppression = more.suppression ∙ one.suppression;
    }

pub writes-digit : (n : ℕ) (p q s : Pass) (o r t : List ℕ) → Writes (replicate n Digit) p o q r → Writes (Digit ∷ []) q r s t → Writes (replicate (n + 1) Digit) p o s t
writes-digit n p q s o r t before one = rw (add-one n) (writes-more (replicate n Digit) (Digit ∷ []) p q s o r t before one)

pub writes-mark : (marks : List Mark) (left i : ℕ) (p q s : Pass) (o r t : List ℕ) → i + 1 ≡ left → i < length marks → Writes (drop left marks) p o q r → Writes (get_or marks i Digit ∷ []) q r s t → Writes (drop i marks) p o s t
writes-mark marks left i p q s o r t e within before one =
    let next : suc i ≡ left = sym (add-one i) ∙ e in
    rw (drop-cons marks i Digit within, next) (writes-more (drop left marks) (get_or marks i Digit ∷ []) p q s o r t before one)

-- a whole text is written before the end of what was there
pub record IsWritten (marks : List Mark) (n : ℤ) (kept fill : ℕ) (old : List ℕ) (at : ℕ) (new : List ℕ) : Type 0 where
  pub is_start : at ≡ length old - length marks
  pub front : take at new ≡ take at old
  pub text : drop at new ≡ marked_text n kept fill marks

pub is_written : (marks : List Mark) (n : ℤ) (kept fill : ℕ) (p q : Pass) (old new : List ℕ) → p.number.negative ≡ is_negative n → p.number.size ≡ unsigned_abs n →
    p.suppression.kept ≡ kept → p.suppression.fill ≡ fill → p.start ≡ length old → p.after ≡ 0 → Writes marks p old q new → IsWritten marks n kept fill old q.start new
is_written marks n kept fill p q old new negative size is_kept is_fill start after writes =
    let none : drop p.start old ≡ [] = drop_all p.start old (omega (arith, start)) in
    record {
      is_start = omega (arith, writes.start, start);
      front = writes.front;
      text = writes.text ∙ rw (negative, size, is_kept, is_fill, after, none) (append-nil _ ∙ before-none (is_negative n) (unsigned_abs n) kept fill marks);
    }

-- in front of it stands what stood there
pub written_text : (marks : List Mark) (n : ℤ) (kept fill : ℕ) (old new : List ℕ) (at : ℕ) → IsWritten marks n kept fill old at new → new ≡ take (length old - length marks) old ++ marked_text n kept fill marks
written_text marks n kept fill old new at w =
    sym (take-append-drop at new) ∙ ap (λ xs. xs ++ drop at new) w.front ∙ ap (λ xs. take at old ++ xs) w.text ∙ ap (λ i. take i old ++ marked_text n kept fill marks) w.is_start

-- and so where the text is changed once more
pub finished_text : (marks : List Mark) (n : ℤ) (kept fill : ℕ) (old new : List ℕ) (at : ℕ) (change : List ℕ → List ℕ) (last : List ℕ) → IsWritten marks n kept fill old at new →
    last ≡ change (mid_of at (length new - at) new) → put_mid at (length new - at) new last ≡ take (length old - length marks) old ++ change (marked_text n kept fill marks)
finished_text marks n kept fill old new at change last w e =
    let following : length (drop at new) ≡ length new - at = length-drop at new in
    let none : post_of at (length new - at) new ≡ [] = drop_all (length new - at) (drop at new) (omega (arith, following)) in
    let whole : mid_of at (length new - at) new ≡ drop at new = take_all (length new - at) (drop at new) (omega (arith, following)) in
    ap (λ xs. take at new ++ (last ++ xs)) none
    ∙ ap (λ xs. take at new ++ xs) (append-nil last)
    ∙ ap (λ xs. xs ++ last) w.front
    ∙ ap (λ i. take i old ++ last) w.is_start
    ∙ ap (λ xs. take (length old - length marks) old ++ xs) (e ∙ ap change (whole ∙ w.text))
