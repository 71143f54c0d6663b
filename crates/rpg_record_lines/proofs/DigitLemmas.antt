-- Digits after a text, field by field, and digits in a line.
use Rattle.std.proofs.Common.{◌≡◌, ℕ, ◌-◌, ◌≤◌, min, List, [], ◌++◌, drop, length, replicate, take, refl, sym, ap, ◌∙◌, append_assoc, append-nil, arith, inl, inr, take_all, Ok, Err}
use Rattle.std.proofs.lemmas.Bool.{cases_lt}
use Rattle.std.proofs.Math.ListN.{drop_of_length-le}
use Rattle.std.proofs.Math.Seq.{drop-length}
use Rattle.std.proofs.lemmas.List.{drop-replicate, length-replicate, take-replicate}
use Rattle.rpg_record_lines.specs.Outcomes.{IsLineFaultOf, TextOrFault, joined_texts}
use Rattle.rpg_record_lines.specs.Numbers.{filled}
use Rattle.rpg_record_lines.specs.declared.fault.LineFault.{LineFault}
use Rattle.rpg_record_lines.specs.declared.fault.LineFault.TheVariants as stops

pub joined_empty : (x : TextOrFault) → joined_texts (Ok []) x ≡ x
joined_empty (Ok text) = refl
joined_empty (Err fault) = refl

pub joined_nothing : (text : List ℕ) → joined_texts (Ok text) (Ok []) ≡ Ok text
joined_nothing text = ap Ok (append-nil text)

pub joined_next : (text more : List ℕ) (digits rest : TextOrFault) → joined_texts (Ok text) digits ≡ Ok more → joined_texts (Ok text) (joined_texts digits rest) ≡ joined_texts (Ok more) rest
joined_next text more (Err fault) rest e = cc
joined_next text more (Ok digits) (Err fault) e = refl
joined_next text more (Ok digits) (Ok rest) e = let same : text ++ digits ≡ more = cc in ap Ok (sym (append_assoc text digits rest) ∙ ap (λ l. l ++ rest) same)

pub joined_fault : (text : List ℕ) (digits rest : TextOrFault) (fault : LineFault) → IsLineFaultOf digits fault → IsLineFaultOf (joined_texts (Ok text) (joined_texts digits rest)) fault
joined_fault text digits rest (stops.Record fault) e = ap (λ (d : TextOrFault). joined_texts (Ok text) (joined_texts d rest)) e
joined_fault text digits rest stops.NoMemory e = tt

same_front : (text : List ℕ) (n m : ℕ) → n ≡ min (length text) m → take n text ≡ take m text
same_front text n m e =
    elim (cases_lt (length text) m) [
      | inl h ↦ take_all n text (omega (arith, e)) ∙ sym (take_all m text (omega arith))
      | inr h ↦ (let same : n ≡ m = omega (arith, e) in ap (λ (k : ℕ). take k text) same)
    ]

-- blanks after a text
pub filled_front : (room text : List ℕ) (n : ℕ) → room ≡ replicate (length room) 32 → n ≡ min (length text) (length room)
    → take n text ++ drop n room ≡ filled (length room) text
filled_front room text n blank e =
    let back : drop n room ≡ replicate (length room - n) 32 = ap (drop n) blank ∙ drop-replicate n (length room) 32 in
    let count : length room - n ≡ length room - length text = omega (arith, e) in
    ap (λ l. take n text ++ l) back ∙ ap (λ l. l ++ replicate (length room - n) 32) (same_front text n (length room) e)
    ∙ ap (λ (k : ℕ). take (length room) text ++ replicate k 32) count

pub blank_room : (n : ℕ) → n ≤ 15 → take {A = ℕ} n (replicate 15 32) ≡ replicate (length (take {A = ℕ} n (replicate 15 32))) 32
blank_room n h =
    let whole : take {A = ℕ} n (replicate 15 32) ≡ replicate n 32 = take-replicate n 15 32 h in
    let count : n ≡ length (take {A = ℕ} n (replicate 15 32)) = sym (ap length whole ∙ length-replicate n 32) in
    whole ∙ ap (λ (k : ℕ). replicate k 32) count

pub beyond : (line : List ℕ) (place : ℕ) → length line ≤ place → drop (length line) line ≡ drop place line
beyond line place h = drop-length line ∙ sym (drop_of_length-le line h)
