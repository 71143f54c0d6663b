-- The type that takes a record.
use Rattle.std.proofs.Common.{◌≡◌, ℕ, ◌+◌, suc, Bool, true, false, cond, not, List, [], ◌∷◌, slice_get, refl, subst, arith}
use Rattle.std.specs.List.{list_all}
use Rattle.rpg_cycle_records.proofs.Trying.{one_file}
use Rattle.rpg_cycle_records.specs.Earlier.{file_of}
use Rattle.rpg_cycle_records.specs.Identifying.{IsOf, Misplaced, Trial, code_holds, has_position, identified, same_file}
use Rattle.rpg_program.specs.Input.{TypeRow}
use Rattle.rpg_program.specs.declared.input.InputFile.{InputFile}

-- a type that takes a record of the file is the file's
own_file : (f : InputFile) (n : ℕ) (t : TypeRow ℕ) (ts : List (TypeRow ℕ)) (rest : Trial) (k : ℕ) (own there hold : Bool) → same_file t.file f ≡ own →
    (rest ≡ IsOf k → (i : ℕ) × (k ≡ n + 1 + i) × (file_of (slice_get ts i) ≡ f)) → cond (not own) rest (cond there (cond hold (IsOf n) rest) Misplaced) ≡ IsOf k →
    (i : ℕ) × (k ≡ n + i) × (file_of (slice_get (t ∷ ts) i) ≡ f)
own_file f n t ts rest k false there hold e more is = let x = more is in (suc x.0, omega (arith, x.1), x.2)
own_file f n t ts rest k true false hold e more is = cc
own_file f n t ts rest k true true true e more is = let same : n ≡ k = cc in (0, omega (arith, same), one_file t.file f e)
own_file f n t ts rest k true true false e more is = let x = more is in (suc x.0, omega (arith, x.1), x.2)

found_in : (f : InputFile) (n : ℕ) (ts : List (TypeRow ℕ)) (text : List ℕ) (k : ℕ) → identified f n ts text ≡ IsOf k → (i : ℕ) × (k ≡ n + i) × (file_of (slice_get ts i) ≡ f)
found_in f n [] text k is = cc
found_in f n (t ∷ ts) text k is =
    own_file f n t ts (identified f (n + 1) ts text) k (same_file t.file f) (list_all (has_position text) t.codes) (list_all (code_holds text) t.codes) refl (λ h. found_in f (n + 1) ts text k h) is

pub found_own : (f : InputFile) (ts : List (TypeRow ℕ)) (text : List ℕ) (k : ℕ) → identified f 0 ts text ≡ IsOf k → file_of (slice_get ts k) ≡ f
found_own f ts text k is =
    let x = found_in f 0 ts text k is in
    let row : x.0 ≡ k = omega (arith, x.1) in
    subst (λ i. file_of (slice_get ts i) ≡ f) row x.2
