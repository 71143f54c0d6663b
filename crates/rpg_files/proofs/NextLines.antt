-- How far the reading of a line can continue, and what it is at the end of the input.
use Rattle.std.proofs.Common.{◌≡◌, ℕ, ◌+◌, ◌-◌, ◌<◌, ◌≤◌, Bool, true, false, if◌then◌else◌, List, ◌++◌, length, drop, Option, refl, sym, ap, ap₂, ◌∙◌, subst, append_assoc, arith, length-append, length-drop, ◌⊎◌, inl, inr}
use Rattle.std.proofs.KnownBytes.{Consumes-trans}
use Rattle.rpg_files.specs.NextLine.{IsNextLine}
use Rattle.rpg_files.specs.FirstLine.{IsIncomplete}
use Rattle.rpg_files.specs.declared.input.NextLine.{NextLine}
use Rattle.rpg_files.specs.Reads.{Reads}

-- a line without an end is at most one byte longer than the limit
pub open_short : (limit : ℕ) (xs : List ℕ) (n : ℕ) → IsIncomplete limit xs n → length xs ≤ limit + 1
open_short limit xs n is = elim is.following [
  | inl none ↦ let rest : length (drop n xs) ≡ 0 = ap length none in omega (arith, is.short, is.within, length-drop n xs, rest)
  | inr one ↦ let rest : length (drop n xs) ≡ 1 = ap length one in omega (arith, is.short, is.within, length-drop n xs, rest)
]

pub reads_longer : (a b : Option (List ℕ)) (old new : List ℕ) (ended ended' : Bool) → Reads a b old new ended ended' → length old ≤ length new
reads_longer a b old new ended ended' reads = omega (arith, ap length reads.bytes, length-append old reads.read)

-- one read after others
pub reads_trans : (a b c : Option (List ℕ)) (xs ys zs : List ℕ) (e f g : Bool) → Reads a b xs ys e f → Reads b c ys zs f g → Reads a c xs zs e g
reads_trans a b c xs ys zs e f g one two = record {
  read = one.read ++ two.read;
  consumed = Consumes-trans a b c one.read two.read one.consumed two.consumed;
  bytes = two.bytes ∙ ap (λ (front : List ℕ). front ++ two.read) one.bytes ∙ append_assoc xs one.read two.read;
  none_at_end = λ ended. let first = one.none_at_end ended in let second = two.none_at_end first.1 in (ap₂ (◌++◌) first.0 second.0, second.1);
  at_end = λ ended before. two.at_end ended (λ seen. one.at_end seen before);
}

-- once the end was seen, or the longest line is there with its end, no line is without an end while bytes can come
pub never_open : (a b : Option (List ℕ)) (limit : ℕ) (old new : List ℕ) (ended ended' : Bool) → Reads a b old new ended ended' → ended' ≡ false → length new ≤ limit + 1
    → (ended ≡ true) ⊎ (limit + 2 ≤ length old) → ⊥
never_open a b limit old new ended ended' reads no_end short sure = elim sure [
  | inl seen ↦ let still : ended' ≡ true = (reads.none_at_end seen).1 in cc
  | inr whole ↦ let longer = reads_longer _ _ _ _ _ _ reads in omega arith
]

-- each read of a line without an end brings bytes, or the end of the input
pub comes_nearer : (limit before after : ℕ) (ended ended' : Bool) → ended ≡ false → before ≤ limit + 1 → before ≤ after → (ended' ≡ false → before < after)
    → (limit + 2 - after) + (if ended' then 0 else 1) < (limit + 2 - before) + (if ended then 0 else 1)
comes_nearer limit before after true ended' is short longer more = absurd cc
comes_nearer limit before after false true is short longer more = omega arith
comes_nearer limit before after false false is short longer more = let further = more refl in omega arith

pub found_at_end : (limit : ℕ) (xs ys : List ℕ) (ended : Bool) (found : NextLine) → ys ≡ xs → ended ≡ true → IsNextLine limit ys true found → IsNextLine limit xs ended found
found_at_end limit xs ys ended found same is has =
    subst (λ (e : Bool). IsNextLine limit xs e found) (sym is) (subst (λ (bytes : List ℕ). IsNextLine limit bytes true found) same has)
