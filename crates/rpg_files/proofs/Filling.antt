-- A buffer whose front was given, and one that was filled.
use Rattle.std.proofs.Common.{◌≡◌, ℕ, ◌+◌, ◌-◌, ◌<◌, ◌≤◌, List, ◌++◌, length, take, drop, slice_range, Option, Ok, sym, ap, ◌∙◌, arith, length-take, length-drop}
use Rattle.std.specs.Io.KnownBytes.{ReadConsumes}
use Rattle.std.proofs.lemmas.List.{drop-take, drop-drop, length-take-le}
use Rattle.std.proofs.Math.Seq.{take-add}
use Rattle.std.proofs.Math.Nat.{sub-zero}
use Rattle.rpg_files.specs.Reads.{Fills}

pub slice_range-add : (xs : List ℕ) (start end n : ℕ) → n ≤ length (slice_range xs start end) → slice_range xs (start + n) end ≡ drop n (slice_range xs start end)
slice_range-add xs start end n few =
    let m = end - (start + n) in
    let within : n ≤ end - start = omega (arith, few, length-take (end - start) (drop start xs)) in
    let parts : end - start ≡ n + m = omega arith in
    sym (ap (λ (k : ℕ). drop n (take k (drop start xs))) parts ∙ drop-take n m (drop start xs) ∙ ap (take m) (drop-drop n start xs))

length-part : (xs : List ℕ) (start end : ℕ) → start ≤ end → end ≤ length xs → length (slice_range xs start end) ≡ end - start
length-part xs start end low high = length-take-le (end - start) (drop start xs) (omega (arith, length-drop start xs))

pub filled : {E : Type 0} (a b : Option (List ℕ)) (xs ys zs : List ℕ) (start end len n : ℕ) → zs ≡ ys → len ≡ length (slice_range xs start end) → start ≤ end → end ≤ length xs
    → take len ys ≡ take len (drop start xs) → len < length ys → len + n ≤ length ys → ReadConsumes {E = E} a b (Ok n) (drop len ys) → Fills {E = E} a b (slice_range xs start end) (slice_range zs 0 (len + n)) (Ok n)
filled a b xs ys zs start end len n are is low high same room within bytes =
    let whole : len ≡ end - start = omega (arith, is, length-part xs start end low high) in
    record {
      read = take n (drop len ys);
      consumed = bytes.0;
      bytes = ap (λ (all : List ℕ). slice_range all 0 (len + n)) are ∙ ap (λ (k : ℕ). take k ys) (sub-zero (len + n)) ∙ take-add len n ys
          ∙ ap (λ (front : List ℕ). front ++ take n (drop len ys)) (same ∙ ap (λ (k : ℕ). take k (drop start xs)) whole);
      count = (sym (length-take-le n (drop len ys) (omega (arith, length-drop len ys))), λ none. bytes.1 none (omega (arith, length-drop len ys)));
    }
