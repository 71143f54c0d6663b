-- What a cycle charges of record types is at most their weight.
use Rattle.std.proofs.Common.{◌≡◌, ℕ, zero, suc, ◌+◌, ◌≤◌, Bool, true, false, cond, not, ◌&&◌, List, [], ◌∷◌, length, slice_get, refl, sym, ◌∙◌, arith}
use Rattle.std.specs.List.{list_all}
use Rattle.rpg_program.specs.Input.{TypeRow}
use Rattle.rpg_program.specs.Weights.{types_weight}
use Rattle.rpg_program.specs.declared.input.InputFile.{InputFile}
use Rattle.rpg_program.specs.declared.input.InputFile.TheVariants.{Primary, Secondary}
use Rattle.rpg_cycle_records.specs.Paying.{match_field_count, moved_of}
use Rattle.rpg_cycle_records.specs.Earlier.{file_of}
use Rattle.rpg_cycle_records.specs.Identifying.{code_holds, has_position, same_file, trial_weight}

codes_sum : List (TypeRow ℕ) → ℕ
codes_sum [] = 0
codes_sum (t ∷ ts) = length t.codes + codes_sum ts

pub matches_sum : List (TypeRow ℕ) → ℕ
matches_sum [] = 0
matches_sum (t ∷ ts) = length t.matches + matches_sum ts

pub moved_sum : List (TypeRow ℕ) → ℕ
moved_sum [] = 0
moved_sum (t ∷ ts) = (length t.levels + length t.inputs) + moved_sum ts

all_sums : (ts : List (TypeRow ℕ)) → types_weight ts ≡ codes_sum ts + moved_sum ts + matches_sum ts
unfolding codes_sum matches_sum moved_sum
all_sums [] = refl
all_sums (t ∷ ts) = let h = all_sums ts in omega (arith, h)

one_tried : (f : InputFile) (n a b c : ℕ) (k l : Bool) → a + b ≤ c →
    cond (not (same_file f Primary)) a (cond k (n + a) n) + cond (not (same_file f Secondary)) b (cond l (n + b) n) ≤ n + c
one_tried Primary n a b c true l h = omega (arith, h)
one_tried Primary n a b c false l h = omega (arith, h)
one_tried Secondary n a b c k true h = omega (arith, h)
one_tried Secondary n a b c k false h = omega (arith, h)

tried : (ts : List (TypeRow ℕ)) (x y : List ℕ) → trial_weight Primary ts x + trial_weight Secondary ts y ≤ codes_sum ts
unfolding codes_sum
tried [] x y = omega arith
tried (t ∷ ts) x y =
    one_tried t.file (length t.codes) (trial_weight Primary ts x) (trial_weight Secondary ts y) (codes_sum ts)
    (list_all (has_position x) t.codes && not (list_all (code_holds x) t.codes)) (list_all (has_position y) t.codes && not (list_all (code_holds y) t.codes)) (tried ts x y)

pub one_row : (ts : List (TypeRow ℕ)) (k : ℕ) → match_field_count ts k ≤ matches_sum ts
unfolding matches_sum
one_row [] k = omega arith
one_row (t ∷ ts) zero = omega arith
one_row (t ∷ ts) (suc k) = let h = one_row ts k in omega (arith, h)

pub two_rows : (ts : List (TypeRow ℕ)) (j k : ℕ) → file_of (slice_get ts j) ≡ Primary → file_of (slice_get ts k) ≡ Secondary → match_field_count ts j + match_field_count ts k ≤ matches_sum ts
unfolding matches_sum
two_rows [] j k e f = omega arith
two_rows (t ∷ ts) zero zero e f = let x : Primary ≡ Secondary = sym e ∙ f in absurd (cc)
two_rows (t ∷ ts) zero (suc k) e f = let h = one_row ts k in omega (arith, h)
two_rows (t ∷ ts) (suc j) zero e f = let h = one_row ts j in omega (arith, h)
two_rows (t ∷ ts) (suc j) (suc k) e f = let h = two_rows ts j k e f in omega (arith, h)

pub row_moved : (ts : List (TypeRow ℕ)) (k : ℕ) → moved_of (slice_get ts k) ≤ moved_sum ts
unfolding moved_sum
row_moved [] k = omega arith
row_moved (t ∷ ts) zero = omega arith
row_moved (t ∷ ts) (suc k) = let h = row_moved ts k in omega (arith, h)

-- all types together, each once
pub all_paid : (ts : List (TypeRow ℕ)) (x y : List ℕ) → trial_weight Primary ts x + trial_weight Secondary ts y + matches_sum ts + moved_sum ts ≤ types_weight ts
all_paid ts x y = let a = tried ts x y in let d = all_sums ts in omega (arith, a, d)

pub few : (ts : List (TypeRow ℕ)) (x y : List ℕ) (j k n : ℕ) → file_of (slice_get ts j) ≡ Primary → file_of (slice_get ts k) ≡ Secondary →
    trial_weight Primary ts x + match_field_count ts j + (trial_weight Secondary ts y + match_field_count ts k) + moved_of (slice_get ts n) ≤ types_weight ts
few ts x y j k n e f = let a = tried ts x y in let b = two_rows ts j k e f in let c = row_moved ts n in let d = all_sums ts in omega (arith, a, b, c, d)
