-- The results of a reader in a row.
use Rattle.std.proofs.Common.{◌≡◌, ℕ, zero, suc, ◌+◌, ◌-◌, ◌<◌, true, false, nat_lt, if◌then◌else◌, List, [], ◌∷◌, ◌++◌, length, take, take_while, Option, Some, None, Result, Ok, Err, refl, sym, ap, subst, ◌∙◌, arith, inl, inr}
use Rattle.std.specs.List.{list_all, prefix_len}
use Rattle.std.specs.Io.KnownBytes.{Consumes, IsAtEnd}
use Rattle.std.proofs.lemmas.Bool.{cases_Bool, lt-ltb, le-ltb, ltb-true, ltb-false, ne_eqb}
use Rattle.std.proofs.lemmas.List.{append-nil}
use Rattle.rpg_files.specs.Answers.{GivesAll, is_device_fault, given_records, input_with, last_answer}
use Rattle.rpg_files.specs.NextLine.{CanFollow}
use Rattle.rpg_files.specs.Records.{records, is_valid, max_records}
use Rattle.rpg_files.specs.Reading.{Advances, GivesNext, Input, is_record}
use Rattle.rpg_files.proofs.Lines.{some_record}
use Rattle.rpg_files.specs.declared.reader.Next.{Next}
use Rattle.rpg_files.specs.declared.reader.Next.TheVariants as next
use Rattle.rpg_files.specs.declared.reader.ReadFault.{ReadFault}
use Rattle.rpg_files.specs.declared.reader.ReadFault.TheVariants as fault

-- the device has these bytes left, none once the end was seen
record IsKnown (input : Input) (bytes : List ℕ) : Type 0 where
  remaining : input.remaining ≡ Some bytes
  at_end : input.ended ≡ true → bytes ≡ []

-- what is left of an input of known bytes
record Leaves (old new : Input) (bytes : List ℕ) (Fact : List ℕ → List ℕ → Type 0) : Type 0 where
  left : List ℕ
  known : IsKnown new left
  fact : Fact (old.buffered ++ bytes) (new.buffered ++ left)

leaves_some : (left : Option (List ℕ)) (old new : Input) (bytes : List ℕ) (Fact : List ℕ → List ℕ → Type 0) → new.remaining ≡ left → (old.ended ≡ true → bytes ≡ [])
    → (read : List ℕ) → Consumes (Some bytes) left read → (new.ended ≡ true → (old.ended ≡ true → IsAtEnd (Some bytes)) → IsAtEnd left)
    → ((more : List ℕ) → CanFollow new.ended more → Fact (old.buffered ++ (read ++ more)) (new.buffered ++ more)) → Leaves old new bytes Fact
leaves_some None old new bytes Fact is none read consumed at_end fact = absurd consumed
leaves_some (Some left) old new bytes Fact is none read consumed at_end fact =
    let ends : new.ended ≡ true → left ≡ [] = λ e. at_end e none in
    record {
      left = left;
      known = record { remaining = is; at_end = ends };
      fact = subst (λ (all : List ℕ). Fact (old.buffered ++ all) (new.buffered ++ left)) (sym consumed) (fact left ends);
    }

leaves : (old new : Input) (bytes : List ℕ) (Fact : List ℕ → List ℕ → Type 0) → IsKnown old bytes → Advances old new Fact → Leaves old new bytes Fact
leaves old new bytes Fact known adv =
    leaves_some new.remaining old new bytes Fact refl known.at_end adv.read (subst (λ (before : Option (List ℕ)). Consumes before new.remaining adv.read) known.remaining adv.consumed)
    (λ ends none. adv.at_end ends (λ e. subst (λ (before : Option (List ℕ)). IsAtEnd before) (sym known.remaining) (none e))) adv.fact

-- the same words, of so many records that may still come
abbrev given_of : ℕ → ℕ → List (List ℕ) → List (List ℕ)
given_of limit left rs = take_while (is_valid limit) (take left rs)

abbrev last_of : ℕ → ℕ → List (List ℕ) → Result Next ReadFault
last_of limit left rs = if list_all (is_valid limit) (take left rs) then (if nat_lt left (length rs) then Err fault.TooMany else Ok next.End) else Ok next.Bad

abbrev Reported : ℕ → ℕ → List ℕ → List (List ℕ) → Result Next ReadFault → Type 0
Reported limit left bytes rs last = (rs ≡ given_of limit left (records bytes)) × (last ≡ last_of limit left (records bytes))

lt_suc : (m n : ℕ) → nat_lt (suc m) (suc n) ≡ nat_lt m n
lt_suc m n = elim (cases_Bool (nat_lt m n)) [
  | inl is ↦ let lt = ltb-true m n is in lt-ltb (suc m) (suc n) (omega arith) ∙ sym is
  | inr is ↦ let ge = ltb-false m n is in le-ltb (suc m) (suc n) (omega arith) ∙ sym is
]

bad_reported : (limit m : ℕ) (r : List ℕ) (rest : List (List ℕ)) → is_valid limit r ≡ false → ([] ≡ given_of limit (suc m) (r ∷ rest)) × (Ok next.Bad ≡ last_of limit (suc m) (r ∷ rest))
bad_reported limit m r rest bad = (rw bad refl, rw bad refl)

none_reported : (limit left : ℕ) → ([] ≡ given_of limit left []) × (Ok next.End ≡ last_of limit left [])
none_reported limit zero = (refl, refl)
none_reported limit (suc m) = (refl, rw (le-ltb (suc m) 0 (omega arith)) refl)

many_reported : (limit : ℕ) (rs : List (List ℕ)) → 0 < length rs → ([] ≡ given_of limit 0 rs) × (Err fault.TooMany ≡ last_of limit 0 rs)
many_reported limit rs some = (refl, rw (lt-ltb 0 (length rs) some) refl)

one_more : (k : ℕ) (r : List ℕ) (rs : List (List ℕ)) → take (1 + k) (r ∷ rs) ≡ r ∷ take k rs
one_more k r rs = let is : 1 + k ≡ suc k = omega arith in ap (λ (n : ℕ). take n (r ∷ rs)) is

given_more : (limit m : ℕ) (r : List ℕ) (rest : List (List ℕ)) → is_valid limit r ≡ true → given_of limit (suc m) (r ∷ rest) ≡ r ∷ given_of limit m rest
given_more limit m r rest valid = rw valid (one_more (prefix_len (is_valid limit) (take m rest)) r (take m rest))

last_more : (limit m : ℕ) (r : List ℕ) (rest : List (List ℕ)) → is_valid limit r ≡ true → last_of limit (suc m) (r ∷ rest) ≡ last_of limit m rest
last_more limit m r rest valid = rw (valid, lt_suc m (length rest)) refl

-- the last call
ends_reported : (limit count left : ℕ) → count + left ≡ max_records → (bytes new r : List ℕ) (last : Result Next ReadFault) → is_record last ≡ false → is_device_fault last ≡ false
    → GivesNext limit count r last bytes new → Reported limit left bytes [] last
ends_reported limit count left all bytes new r (Ok next.Record) no_record reported gives = absurd cc
ends_reported limit count zero all bytes new r (Ok next.Bad) no_record reported gives = absurd (let lt = gives.0 in omega arith)
ends_reported limit count (suc m) all bytes new r (Ok next.Bad) no_record reported gives =
    let bad = gives.1 in
    subst (λ (rs : List (List ℕ)). ([] ≡ given_of limit (suc m) rs) × (Ok next.Bad ≡ last_of limit (suc m) rs)) (sym bad.2) (bad_reported limit m bad.0 bad.1 bad.3)
ends_reported limit count left all bytes new r (Ok next.End) no_record reported gives =
    subst (λ (xs : List ℕ). Reported limit left xs [] (Ok next.End)) (sym gives.0) (none_reported limit left)
ends_reported limit count left all bytes new r (Err fault.Device) no_record reported gives = absurd cc
ends_reported limit count left all bytes new r (Err fault.TooMany) no_record reported gives =
    let none : left ≡ 0 = let is = gives.0 in omega arith in
    subst (λ (n : ℕ). Reported limit n bytes [] (Err fault.TooMany)) (sym none) (many_reported limit (records bytes) (some_record bytes (sym (ne_eqb _ _ (λ empty. absurd (let some = gives.1 in omega arith))))))

-- These records were given of those that may still come, and so many more may come after them.
record Follows (limit count left : ℕ) (old : Input) (bytes : List ℕ) (rs : List (List ℕ)) (new : Input) : Type 0 where
  more : ℕ
  all : (count + length rs) + more ≡ max_records
  following : List ℕ
  known : IsKnown new following
  given : given_of limit left (records (old.buffered ++ bytes)) ≡ rs ++ given_of limit more (records (new.buffered ++ following))
  last : last_of limit left (records (old.buffered ++ bytes)) ≡ last_of limit more (records (new.buffered ++ following))

-- one record more, before those that follow
one_more_given : (limit count left m : ℕ) (old mid new : Input) (bytes following r : List ℕ) (rs : List (List ℕ)) → left ≡ suc m → is_valid limit r ≡ true
    → records (old.buffered ++ bytes) ≡ r ∷ records (mid.buffered ++ following) → Follows limit (count + 1) m mid following rs new → Follows limit count left old bytes (r ∷ rs) new
one_more_given limit count left m old mid new bytes following r rs parts valid first later =
    let same : given_of limit left (records (old.buffered ++ bytes)) ≡ given_of limit (suc m) (r ∷ records (mid.buffered ++ following)) = rw (parts, first) refl in
    let same_last : last_of limit left (records (old.buffered ++ bytes)) ≡ last_of limit (suc m) (r ∷ records (mid.buffered ++ following)) = rw (parts, first) refl in
    record {
      more = later.more;
      all = let counts = later.all in omega arith;
      following = later.following;
      known = later.known;
      given = same ∙ given_more limit m r (records (mid.buffered ++ following)) valid ∙ ap (λ (rest : List (List ℕ)). r ∷ rest) later.given;
      last = same_last ∙ last_more limit m r (records (mid.buffered ++ following)) valid ∙ later.last;
    }

follows : (limit count left : ℕ) → count + left ≡ max_records → (old : Input) (bytes : List ℕ) → IsKnown old bytes → (rs : List (List ℕ)) (new : Input) → GivesAll limit count rs old new
    → Follows limit count left old bytes rs new
follows limit count left all old bytes known [] new gives =
    subst (λ (input : Input). Follows limit count left old bytes [] input) (sym gives) (record { more = left; all = omega arith; following = bytes; known = known; given = refl; last = refl })
follows limit count left all old bytes known (r ∷ rs) new gives =
    let step = leaves old gives.0 bytes (GivesNext limit count r (Ok next.Record)) known gives.1 in
    let parts : left ≡ suc (left - 1) = let lt = step.fact.0 in omega arith in
    one_more_given limit count left (left - 1) old gives.0 new bytes step.left r rs parts step.fact.1 step.fact.2 (follows limit (count + 1) (left - 1) (omega arith) gives.0 step.left step.known rs new gives.2)

from_start : (limit : ℕ) (bytes : List ℕ) (rs : List (List ℕ)) (new : Input) → GivesAll limit 0 rs (input_with bytes) new → Follows limit 0 10000000 (input_with bytes) bytes rs new
from_start limit bytes rs new gives = follows limit 0 10000000 refl (input_with bytes) bytes (record { remaining = refl; at_end = λ is. absurd cc }) rs new gives

pub first_reported : (limit : ℕ) (bytes : List ℕ) (rs : List (List ℕ)) (new : Input) → GivesAll limit 0 rs (input_with bytes) new
    → (more : List (List ℕ)) × (given_records limit (records bytes) ≡ rs ++ more)
first_reported limit bytes rs new gives =
    let done = from_start limit bytes rs new gives in
    (given_of limit done.more (records (new.buffered ++ done.following)), done.given)

pub all_reported : (limit : ℕ) (bytes : List ℕ) (rs : List (List ℕ)) (mid new : Input) (r : List ℕ) (last : Result Next ReadFault) → GivesAll limit 0 rs (input_with bytes) mid
    → Advances mid new (GivesNext limit (length rs) r last) → is_record last ≡ false → is_device_fault last ≡ false
    → (rs ≡ given_records limit (records bytes)) × (last ≡ last_answer limit (records bytes))
all_reported limit bytes rs mid new r last gives adv no_record no_fault =
    let done = from_start limit bytes rs mid gives in
    let step = leaves mid new done.following (GivesNext limit (length rs) r last) done.known adv in
    let counts : length rs + done.more ≡ max_records = let all = done.all in omega arith in
    let reported = ends_reported limit (length rs) done.more counts (mid.buffered ++ done.following) (new.buffered ++ step.left) r last no_record no_fault step.fact in
    (sym (done.given ∙ ap (λ (following : List (List ℕ)). rs ++ following) (sym reported.0) ∙ append-nil rs), reported.1 ∙ sym done.last)
