-- The next record of known bytes.
use Rattle.std.proofs.Common.{◌≡◌, ℕ, ◌+◌, ◌<◌, ◌≤◌, List, [], ◌∷◌, length, take, drop, get_or, refl, sym, ap, subst, ◌∙◌, arith, Option, None, Some, IfSome, length-take}
use Rattle.std.proofs.lemmas.Bool.{le-leb, lt-leb, le-ltb, lt-ltb, eq-eqb, ne_eqb}
use Rattle.std.proofs.lemmas.List.{drop-drop}
use Rattle.std.specs.Io.BufRead.{take_through}
use Rattle.rpg_records.specs.Sizes.{counted}
use Rattle.rpg_record_lines.specs.Cuts.{Finished, Refused, Whole, after_word, described_cut, line_cut, next_described, next_line, next_of_length, unterminated}
use Rattle.rpg_record_lines.specs.Inputs.{GivesFront, GivesWhole}
use Rattle.rpg_record_lines.specs.declared.fault.RecordFault.{RecordFault}
use Rattle.rpg_record_lines.specs.declared.fault.RecordFault.TheVariants as faults
use Rattle.rpg_record_lines.specs.declared.frames.Framing.TheVariants as framings

counted_more : (p a b : ℕ) → counted (counted (p + a) + b) ≡ counted (p + (b + a))
counted_more p a b = omega arith

enough : (n : ℕ) (xs : List ℕ) → n ≤ length (take n xs) → n ≤ length xs
enough n xs h = omega (arith, length-take n xs)

few_length : (n : ℕ) (xs r : List ℕ) → r ≡ take n xs → length r < n → length r ≡ length xs
few_length n xs r e h = omega (arith, length-take n xs, ap length e)

-- ---- records of one length

pub of_length_whole : (n p q : ℕ) (a b : Option (List ℕ)) (r : List ℕ) → GivesFront (take n) a b r → length r ≡ n → q ≡ counted (p + length r) → IfSome a (GivesWhole framings.EndToEnd n b p q r)
of_length_whole n p q None b r g e f = tt
of_length_whole n p q (Some xs) b r g e f =
    let long : n ≤ length xs = enough n xs (omega (arith, ap length g.0)) in (
      n,
      rw (le-leb n (length xs) long) (ap (Whole n) (sym g.0)),
      g.1 ∙ ap (λ (k : ℕ). Some (drop k xs)) e,
      f ∙ ap (λ (k : ℕ). counted (p + k)) e,
    )

pub of_length_end : (n : ℕ) (a b : Option (List ℕ)) (r : List ℕ) → GivesFront (take n) a b r → length r < n → length r ≡ 0 → IfSome a (λ xs. next_of_length n xs ≡ Finished)
of_length_end n None b r g h e = tt
of_length_end n (Some xs) b r g h e =
    let same = few_length n xs r g.0 h in
    rw (lt-leb n (length xs) (omega arith), eq-eqb (length xs) 0 (omega arith)) refl

pub of_length_cut : (n : ℕ) (a b : Option (List ℕ)) (r : List ℕ) → GivesFront (take n) a b r → length r < n → (length r ≡ 0 → ⊥)
    → IfSome a (λ xs. next_of_length n xs ≡ Refused (faults.Cut (length r)))
of_length_cut n None b r g h e = tt
of_length_cut n (Some xs) b r g h e =
    let same = few_length n xs r g.0 h in
    rw (lt-leb n (length xs) (omega arith), ne_eqb (length xs) 0 (λ z. e (same ∙ z))) (ap (λ (k : ℕ). Refused (faults.Cut k)) (sym same))

-- ---- records after descriptor words

pub four_bytes : (w : List ℕ) → length w ≡ 4 → get_or w 0 0 ∷ get_or w 1 0 ∷ get_or w 2 0 ∷ get_or w 3 0 ∷ [] ≡ w
four_bytes [] e = absurd (omega (arith, e))
four_bytes (p ∷ []) e = absurd (omega (arith, e))
four_bytes (p ∷ (q ∷ [])) e = absurd (omega (arith, e))
four_bytes (p ∷ (q ∷ (x ∷ []))) e = absurd (omega (arith, e))
four_bytes (p ∷ (q ∷ (x ∷ (y ∷ [])))) e = refl
four_bytes (p ∷ (q ∷ (x ∷ (y ∷ (z ∷ w))))) e = absurd (omega (arith, e))

pub word_end : (most : ℕ) (a b : Option (List ℕ)) (w : List ℕ) → GivesFront (take 4) a b w → length w ≡ 0 → IfSome a (λ xs. next_described most xs ≡ Finished)
word_end most None b w g e = tt
word_end most (Some xs) b w g e =
    let same = few_length 4 xs w g.0 (omega arith) in
    rw (eq-eqb (length xs) 0 (omega arith)) refl

pub word_cut : (most : ℕ) (a b : Option (List ℕ)) (w : List ℕ) → GivesFront (take 4) a b w → length w < 4 → (length w ≡ 0 → ⊥)
    → IfSome a (λ xs. next_described most xs ≡ Refused (faults.Cut (length w)))
word_cut most None b w g h e = tt
word_cut most (Some xs) b w g h e =
    let same = few_length 4 xs w g.0 h in
    rw (ne_eqb (length xs) 0 (λ z. e (same ∙ z)), lt-ltb (length xs) 4 (omega arith)) (ap (λ (k : ℕ). Refused (faults.Cut k)) (sym same))

-- a whole word was read
after_whole_word : (most : ℕ) (xs w : List ℕ) → w ≡ take 4 xs → 4 ≤ length w → next_described most xs ≡ described_cut most w (drop 4 xs)
after_whole_word most xs w e h =
    let long : 4 ≤ length xs = enough 4 xs (omega (arith, ap length e)) in
    rw (ne_eqb (length xs) 0 (λ z. omega arith), le-ltb (length xs) 4 long) (ap (λ (l : List ℕ). described_cut most l (drop 4 xs)) (sym e))

pub word_refused : (most : ℕ) (a b : Option (List ℕ)) (w : List ℕ) (fault : RecordFault) → GivesFront (take 4) a b w → 4 ≤ length w
    → ((rest : List ℕ) → described_cut most w rest ≡ Refused fault) → IfSome a (λ xs. next_described most xs ≡ Refused fault)
word_refused most None b w fault g h f = tt
word_refused most (Some xs) b w fault g h f = after_whole_word most xs w g.0 h ∙ f (drop 4 xs)

pub described_cut_off : (most n : ℕ) (a b c : Option (List ℕ)) (w r : List ℕ) → GivesFront (take 4) a b w → length w ≡ 4 → ((rest : List ℕ) → described_cut most w rest ≡ after_word n rest)
    → GivesFront (take n) b c r → length r < n → IfSome a (λ xs. next_described most xs ≡ Refused (faults.Cut (length r + 4)))
described_cut_off most n None b c w r g e f k h = tt
described_cut_off most n (Some xs) None c w r g e f k h = cc
described_cut_off most n (Some xs) (Some ys) c w r g e f k h =
    let rest : drop 4 xs ≡ ys = cc (ap (λ (m : ℕ). drop m xs) e, g.1) in
    let same = few_length n ys r k.0 h in
    after_whole_word most xs w g.0 (omega arith) ∙ f (drop 4 xs) ∙ ap (after_word n) rest
    ∙ rw (lt-leb n (length ys) (omega arith)) (ap (λ (m : ℕ). Refused (faults.Cut (m + 4))) (sym same))

four_first : (n : ℕ) → 4 + n ≡ n + 4
four_first n = omega arith

pub described_read : (most n p q s : ℕ) (a b c : Option (List ℕ)) (w r : List ℕ) → GivesFront (take 4) a b w → length w ≡ 4 → ((rest : List ℕ) → described_cut most w rest ≡ after_word n rest)
    → GivesFront (take n) b c r → n ≤ length r → length r ≤ n → q ≡ counted (p + length w) → s ≡ counted (q + length r) → IfSome a (GivesWhole framings.Descriptors most c p s r)
described_read most n p q s None b c w r g e f k low high first second = tt
described_read most n p q s (Some xs) None c w r g e f k low high first second = cc
described_read most n p q s (Some xs) (Some ys) c w r g e f k low high first second =
    let rest : drop 4 xs ≡ ys = cc (ap (λ (m : ℕ). drop m xs) e, g.1) in
    let is : length r ≡ n = omega arith in
    let long : n ≤ length ys = enough n ys (omega (arith, ap length k.0)) in (
      n + 4,
      after_whole_word most xs w g.0 (omega arith) ∙ f (drop 4 xs) ∙ ap (after_word n) rest ∙ rw (le-leb n (length ys) long) (ap (Whole (n + 4)) (sym k.0)),
      k.1 ∙ ap (λ (l : List ℕ). Some (drop (length r) l)) (sym rest) ∙ ap (λ (m : ℕ). Some (drop m (drop 4 xs))) is ∙ ap Some (dropped n xs),
      second ∙ ap (λ (m : ℕ). counted (q + m)) is ∙ ap (λ (m : ℕ). counted (m + n)) (first ∙ ap (λ (m : ℕ). counted (p + m)) e) ∙ counted_more p 4 n,
    )
  where
    dropped : (n : ℕ) (xs : List ℕ) → drop n (drop 4 xs) ≡ drop (n + 4) xs
    dropped n xs = drop-drop n 4 xs ∙ ap (λ (m : ℕ). drop m xs) (four_first n)

-- ---- lines

pub line_end : (most k : ℕ) (a b : Option (List ℕ)) (r : List ℕ) → k ≡ counted (most + 2) → GivesFront (λ xs. take_through 10 (take k xs)) a b r → length r ≡ 0
    → IfSome a (λ xs. next_line most xs ≡ Finished)
line_end most k None b r c g e = tt
line_end most k (Some xs) b r c g e = ap (λ (m : ℕ). line_cut most (take_through 10 (take m xs))) (sym c) ∙ ap (line_cut most) (sym g.0) ∙ rw (eq-eqb (length r) 0 e) refl

pub line_long : (most k : ℕ) (a b : Option (List ℕ)) (r s : List ℕ) → k ≡ counted (most + 2) → GivesFront (λ xs. take_through 10 (take k xs)) a b r → (length r ≡ 0 → ⊥)
    → s ≡ unterminated r → most < length s → IfSome a (λ xs. next_line most xs ≡ Refused (faults.LongLine most))
line_long most k None b r s c g e u h = tt
line_long most k (Some xs) b r s c g e u h =
    ap (λ (m : ℕ). line_cut most (take_through 10 (take m xs))) (sym c) ∙ ap (line_cut most) (sym g.0)
    ∙ rw (ne_eqb (length r) 0 e, ← u, lt-ltb most (length s) h) refl

pub line_read : (most k p q : ℕ) (a b : Option (List ℕ)) (r s : List ℕ) → k ≡ counted (most + 2) → GivesFront (λ xs. take_through 10 (take k xs)) a b r → (length r ≡ 0 → ⊥)
    → s ≡ unterminated r → length s ≤ most → q ≡ counted (p + length r) → IfSome a (GivesWhole framings.Lines most b p q s)
line_read most k p q None b r s c g e u h f = tt
line_read most k p q (Some xs) b r s c g e u h f = (
  length r,
  ap (λ (m : ℕ). line_cut most (take_through 10 (take m xs))) (sym c) ∙ ap (line_cut most) (sym g.0)
      ∙ rw (ne_eqb (length r) 0 e, ← u, le-ltb most (length s) h) refl,
  g.1,
  f,
)

pub described_short : (most n m : ℕ) (a b c : Option (List ℕ)) (w r : List ℕ) → GivesFront (take 4) a b w → length w ≡ 4 → ((rest : List ℕ) → described_cut most w rest ≡ after_word n rest)
    → GivesFront (take n) b c r → m ≡ length r → m < n → IfSome a (λ xs. next_described most xs ≡ Refused (faults.Cut (m + 4)))
described_short most n m a b c w r g e f k s h =
    subst (λ (j : ℕ). IfSome a (λ xs. next_described most xs ≡ Refused (faults.Cut (j + 4)))) (sym s) (described_cut_off most n a b c w r g e f k (omega (arith, s)))
