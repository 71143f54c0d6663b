-- What a cycle charges of record types: of each file the trying of codes and the match fields of one row, and the fields of the selected record's.
use Rattle.std.proofs.Common.{◌≡◌, ℕ, zero, suc, ◌+◌, ◌≤◌, Bool, true, false, cond, not, ◌&&◌, List, [], ◌∷◌, length, slice_get, refl, subst, arith}
use Rattle.std.specs.List.{list_all}
use Rattle.rpg_cycle_records.specs.Earlier.{file_of}
use Rattle.rpg_cycle_records.specs.Identifying.{code_holds, has_position, same_file, trial_weight}
use Rattle.rpg_cycle_records.specs.Paying.{match_field_count, moved_of}
use Rattle.rpg_program.specs.Input.{TypeRow}
use Rattle.rpg_program.specs.Weights.{types_weight}
use Rattle.rpg_program.specs.declared.input.InputFile.{InputFile}
use Rattle.rpg_program.specs.declared.input.InputFile.TheVariants.{Primary, Secondary}

if_own : Bool → ℕ → ℕ
if_own true n = n
if_own false n = 0

-- the codes and match fields of a file's types
pub taking_weight : InputFile → List (TypeRow ℕ) → ℕ
taking_weight f [] = 0
taking_weight f (t ∷ ts) = if_own (same_file t.file f) (length t.codes + length t.matches) + taking_weight f ts

-- the control fields and input fields of all types
pub moving_weight : List (TypeRow ℕ) → ℕ
moving_weight [] = 0
moving_weight (t ∷ ts) = length t.levels + length t.inputs + moving_weight ts

one_type : (f : InputFile) (n m : ℕ) → if_own (same_file f Primary) (n + m) + if_own (same_file f Secondary) (n + m) ≡ n + m
unfolding if_own
one_type Primary n m = omega arith
one_type Secondary n m = omega arith

-- together they are all that types weigh
pub all_weights : (ts : List (TypeRow ℕ)) → taking_weight Primary ts + (taking_weight Secondary ts + moving_weight ts) ≡ types_weight ts
unfolding taking_weight moving_weight
all_weights [] = refl
all_weights (t ∷ ts) = let h = all_weights ts in let one = one_type t.file (length t.codes) (length t.matches) in omega (arith, h, one)

-- ---- taking in

tried_or : (own b : Bool) (codes matches rest all : ℕ) → rest ≤ all → cond (not own) rest (cond b (codes + rest) codes) ≤ if_own own (codes + matches) + all
unfolding if_own
tried_or true true codes matches rest all h = omega (arith, h)
tried_or true false codes matches rest all h = omega arith
tried_or false b codes matches rest all h = omega (arith, h)

-- the trying of a file's types
pub tried_few : (f : InputFile) (ts : List (TypeRow ℕ)) (text : List ℕ) → trial_weight f ts text ≤ taking_weight f ts
unfolding taking_weight
tried_few f [] text = omega arith
tried_few f (t ∷ ts) text =
    tried_or (same_file t.file f) (list_all (has_position text) t.codes && not (list_all (code_holds text) t.codes)) (length t.codes) (length t.matches)
    (trial_weight f ts text) (taking_weight f ts) (tried_few f ts text)

own_row : (f : InputFile) → same_file f f ≡ true
own_row Primary = refl
own_row Secondary = refl

first_row : (own b : Bool) (codes matches rest all : ℕ) → own ≡ true → rest ≤ all → cond (not own) rest (cond b (codes + rest) codes) + matches ≤ if_own own (codes + matches) + all
unfolding if_own
first_row true true codes matches rest all is h = omega (arith, h)
first_row true false codes matches rest all is h = omega arith
first_row false b codes matches rest all is h = cc

later_row : (own b : Bool) (codes matches rest all more : ℕ) → rest + more ≤ all → cond (not own) rest (cond b (codes + rest) codes) + more ≤ if_own own (codes + matches) + all
unfolding if_own
later_row true true codes matches rest all more h = omega (arith, h)
later_row true false codes matches rest all more h = omega (arith, h)
later_row false b codes matches rest all more h = omega (arith, h)

-- and the match fields of one of them
pub taken_few : (f : InputFile) (ts : List (TypeRow ℕ)) (text : List ℕ) (k : ℕ) → file_of (slice_get ts k) ≡ f → trial_weight f ts text + match_field_count ts k ≤ taking_weight f ts
unfolding taking_weight
taken_few f [] text k is = omega arith
taken_few f (t ∷ ts) text zero is =
    first_row (same_file t.file f) (list_all (has_position text) t.codes && not (list_all (code_holds text) t.codes)) (length t.codes) (length t.matches)
    (trial_weight f ts text) (taking_weight f ts) (subst (λ (g : InputFile). same_file t.file g ≡ true) is (own_row t.file)) (tried_few f ts text)
taken_few f (t ∷ ts) text (suc k) is =
    later_row (same_file t.file f) (list_all (has_position text) t.codes && not (list_all (code_holds text) t.codes)) (length t.codes) (length t.matches)
    (trial_weight f ts text) (taking_weight f ts) (match_field_count ts k) (taken_few f ts text k is)

-- ---- selecting

pub moved_few : (ts : List (TypeRow ℕ)) (k : ℕ) → moved_of (slice_get ts k) ≤ moving_weight ts
unfolding moving_weight
moved_few [] k = omega arith
moved_few (t ∷ ts) zero = omega arith
moved_few (t ∷ ts) (suc k) = let h = moved_few ts k in omega (arith, h)
