-- Where the code of calculations stands.
use Rattle.std.proofs.Common.{◌≡◌, ◌≢◌, ℕ, zero, suc, ◌+◌, ◌≤◌, Bool, true, false, cond, List, [], ◌∷◌, ◌++◌, length, Option, Some, refl, sym, ap, ◌∙◌, arith, length-append, append_assoc, slice_get}
use Rattle.std.proofs.lemmas.Bool.{false≢true}
use Rattle.rpg_cards.specs.Statements.{Calculation, has_instruction, tests}
use Rattle.rpg_cards.specs.Keys.{Key, Name}
use Rattle.rpg_compile_program.proofs.Counts.{group_length}
use Rattle.rpg_compile_program.specs.Code.{code_from, group_code, label_place, level_code, size, step_code, tests_code, waits}
use Rattle.rpg_program.specs.declared.operation.Instruction.{Instruction}
use Rattle.rpg_meaning.specs.Calculations.Agreement.{place_at}
use Rattle.rpg_meaning.specs.Calculations.Parts.{bears, label_position}

pub size_none : (g : Calculation Key) → has_instruction g.statement ≡ false → size g ≡ 0
unfolding size
size_none g e = ap (λ b. cond b (waits g.level + tests g.alternatives + 1) 0) e

pub size_some : (g : Calculation Key) → has_instruction g.statement ≡ true → size g ≡ waits g.level + tests g.alternatives + 1
unfolding size
size_some g e = ap (λ b. cond b (waits g.level + tests g.alternatives + 1) 0) e

module _ (number : Key → ℕ) (place_of callee_of : Option Name → ℕ) (own : ℕ) where
  -- the code of a calculation that becomes some
  pub parts : (place op : ℕ) (g : Calculation Key) → has_instruction g.statement ≡ true → op ≡ place + waits g.level + tests g.alternatives →
      group_code number place_of callee_of own place g
      ≡ level_code (op + 1) g.level ++ (tests_code (place + waits g.level) op (op + 1) g.alternatives ++ step_code number place_of callee_of own g.statement)
  unfolding group_code
  parts place op g e o =
      let z = size_some g e in
      let following : place + size g ≡ op + 1 = omega arith in
      ap (λ b. cond b (level_code (place + size g) g.level ++ (tests_code (place + waits g.level) (place + waits g.level + tests g.alternatives) (place + size g) g.alternatives ++ step_code number place_of callee_of own g.statement)) []) e
      ∙ (λ i. level_code (following i) g.level ++ (tests_code (place + waits g.level) (sym o i) (following i) g.alternatives ++ step_code number place_of callee_of own g.statement))

  -- the code of all of them is that of those before, of the n-th, and of those after it
  pub cut : (gs : List (Calculation Key)) (place n : ℕ) (g : Calculation Key) → slice_get gs n ≡ Some g →
      (before : List (Instruction ℕ)) × (following : List (Instruction ℕ))
      × (code_from number place_of callee_of own place gs ≡ before ++ (group_code number place_of callee_of own (place_at place gs n) g ++ following)) × (place + length before ≡ place_at place gs n)
  unfolding code_from
  cut [] place n g e = absurd cc
  cut (x ∷ xs) place zero g e =
      let same : x ≡ g = cc in
      ([], code_from number place_of callee_of own (place + size x) xs, ap (λ y. group_code number place_of callee_of own place y ++ code_from number place_of callee_of own (place + size x) xs) same, omega arith)
  cut (x ∷ xs) place (suc n) g e =
      let rest = cut xs (place + size x) n g e in
      let a = group_code number place_of callee_of own place x in
      let l = group_length number place_of callee_of own place x in
      let m = length-append a rest.0 in
      let r = rest.3 in
      (a ++ rest.0, rest.1, ap (λ y. a ++ y) rest.2 ∙ sym (append_assoc a rest.0 _), omega arith)

-- ---- places

pub place_start : (place : ℕ) (gs : List (Calculation Key)) → place_at place gs 0 ≡ place
place_start place [] = refl
place_start place (g ∷ gs) = refl

pub place_next : (gs : List (Calculation Key)) (place n : ℕ) (g : Calculation Key) → slice_get gs n ≡ Some g → place_at place gs (n + 1) ≡ place_at place gs n + size g
place_next gs place n g e = let i : n + 1 ≡ suc n = omega arith in ap (place_at place gs) i ∙ by_step gs place n g e
  where
    by_step : (gs : List (Calculation Key)) (place n : ℕ) (g : Calculation Key) → slice_get gs n ≡ Some g → place_at place gs (suc n) ≡ place_at place gs n + size g
    by_step [] place n g e = absurd cc
    by_step (x ∷ xs) place zero g e = let same : x ≡ g = cc in place_start (place + size x) xs ∙ ap (λ y. place + size y) same
    by_step (x ∷ xs) place (suc n) g e = by_step xs (place + size x) n g e

pub place_low : (gs : List (Calculation Key)) (place n : ℕ) → place ≤ place_at place gs n
place_low [] place n = omega arith
place_low (g ∷ gs) place zero = omega arith
place_low (g ∷ gs) place (suc n) = let r = place_low gs (place + size g) n in omega arith

pub place_up : (gs : List (Calculation Key)) (place m n : ℕ) → m ≤ n → place_at place gs m ≤ place_at place gs n
place_up [] place m n h = omega arith
place_up (g ∷ gs) place zero n h = place_low (g ∷ gs) place n
place_up (g ∷ gs) place (suc m) zero h = absurd (omega arith)
place_up (g ∷ gs) place (suc m) (suc n) h = place_up gs (place + size g) m n (omega arith)

pub label_there : (name : Option Name) (gs : List (Calculation Key)) (place : ℕ) → label_place name gs place ≡ place_at place gs (label_position name gs)
label_there name [] place = refl
label_there name (g ∷ gs) place = by_label (bears name g) (label_there name gs (place + size g))
  where
    by_label : (b : Bool) → label_place name gs (place + size g) ≡ place_at (place + size g) gs (label_position name gs) → cond b place (label_place name gs (place + size g)) ≡ place_at place (g ∷ gs) (cond b 0 (suc (label_position name gs)))
    by_label true r = refl
    by_label false r = r

-- a calculation without the label isn't the label's
pub not_own : (name : Option Name) (gs : List (Calculation Key)) (n : ℕ) (g : Calculation Key) → slice_get gs n ≡ Some g → bears name g ≡ false → label_position name gs ≢ n
not_own name [] n g e b = λ h. absurd cc
not_own name (x ∷ xs) zero g e b = by_label (bears name x) refl
  where
    by_label : (y : Bool) → bears name x ≡ y → cond y 0 (suc (label_position name xs)) ≢ 0
    by_label true f = λ h. let same : x ≡ g = cc in let z = ap (bears name) same in absurd (false≢true (sym b ∙ sym z ∙ f))
    by_label false f = λ h. omega arith
not_own name (x ∷ xs) (suc n) g e b = by_label (bears name x) (not_own name xs n g e b)
  where
    by_label : (y : Bool) → label_position name xs ≢ n → cond y 0 (suc (label_position name xs)) ≢ suc n
    by_label true r = λ h. omega arith
    by_label false r = λ h. r (omega arith)
