-- Tables whose rows all keep something, and tables that were read.
use Rattle.std.proofs.Common.{◌≡◌, ℕ, zero, suc, ◌+◌, ◌*◌, ◌≤◌, List, [], ◌∷◌, length, Result, Ok, sym, ap, subst, ◌∙◌, arith}
use Rattle.std.specs.Prelude.{All}
use Rattle.rpg_object_format.specs.declared.fault.Fault.{Fault}
use Rattle.rpg_object_format.specs.Format.{Format, AllAlong, keep, table, times_with, read_times, read_two, with_listed, ◌>>=◌}
use Rattle.rpg_object_format.specs.Numbers.{up_to}
use Rattle.rpg_object_format.proofs.Laws.{bind_ok, ok_is, ruled_ok}
use Rattle.rpg_object_format.proofs.Rules.{up_to_rule}
use Rattle.rpg_object_format.proofs.Choices.{counted}

-- what each row keeps, all rows keep
pub all_from_along : {S X : Type 0} (P : S → X → Type 0) (Q : X → Type 0) (next : S → X → S) → ((s : S) (x : X) → P s x → Q x) → (s : S) (xs : List X) → AllAlong P next s xs → All Q xs
all_from_along P Q next each s [] h k d lt = absurd (omega arith)
all_from_along P Q next each s (x ∷ xs) h zero d lt = each s x h.0
all_from_along P Q next each s (x ∷ xs) h (suc k) d lt = all_from_along P Q next each (next s x) xs h.1 k d (omega arith)

pub all_head : {X : Type 0} (P : X → Type 0) (x : X) (xs : List X) → All P (x ∷ xs) → P x
all_head P x xs h = h 0 x (omega arith)

pub all_tail : {X : Type 0} (P : X → Type 0) (x : X) (xs : List X) → All P (x ∷ xs) → All P xs
all_tail P x xs h k d lt = h (suc k) d (omega arith)

-- what is read as a table has as many rows as it was to have
rows_read : {S X : Type 0} (read : S → List ℕ → Result (X × List ℕ) Fault) (next : S → X → S) (n : ℕ) (s : S) (bytes : List ℕ) (xs : List X) (rest : List ℕ) → read_times read next n s bytes ≡ Ok (xs, rest) → length xs ≡ n
unfolding read_times
rows_read {S} {X} read next zero s bytes xs rest e =
    let none : List X × List ℕ = ([], bytes) in
    ap (λ (y : List X × List ℕ). length y.0) (sym (ok_is none (xs, rest) e))
rows_read {S} {X} read next (suc n) s bytes xs rest e =
    let a = bind_ok (read s bytes) (λ x. read_times read next n (next s x.0) x.1 >>= with_listed x.0) (xs, rest) e in
    let b = bind_ok (read_times read next n (next s a.0.0) a.0.1) (with_listed a.0.0) (xs, rest) a.2 in
    let all_read : List X × List ℕ = (a.0.0 ∷ b.0.0, b.0.1) in
    ap (λ (y : List X × List ℕ). length y.0) (sym (ok_is all_read (xs, rest) b.2)) ∙ ap suc (rows_read read next n (next s a.0.0) a.0.1 b.0.0 b.0.1 b.1)

pub table_read : {X : Type 0} (f : Format X) (n : ℕ) (bytes : List ℕ) (xs : List X) (rest : List ℕ) → (table n f).reading bytes ≡ Ok (xs, rest) → length xs ≡ n
unfolding times_with
table_read f n bytes xs rest e = rows_read (λ s b. f.reading b) keep n tt bytes xs rest e

-- a count that is read is within its limit
pub count_read : (limit : ℕ) (bytes : List ℕ) (n : ℕ) (rest : List ℕ) → read_two (up_to limit) bytes ≡ Ok (n, rest) → n ≤ limit
unfolding read_two
count_read limit [] n rest e = absurd cc
count_read limit (a ∷ []) n rest e = absurd cc
count_read limit (a ∷ b ∷ bytes) n rest e =
    let k = ruled_ok (a ∷ b ∷ bytes) bytes rest (up_to limit (256 * a + b)) n e in
    let same : n ≡ 256 * a + b = up_to_rule limit (256 * a + b) n k.0 in
    counted limit n (subst (λ (m : ℕ). up_to limit m ≡ Ok n) (sym same) k.0)
