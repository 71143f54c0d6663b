-- How many instructions groups become, and where branches lead.
use Rattle.std.proofs.Common.{◌≡◌, ℕ, suc, ◌+◌, ◌≤◌, Bool, true, false, cond, List, [], ◌∷◌, ◌++◌, length, map, Option, None, Some, refl, sym, ap, ◌∙◌, arith, length-append, append_assoc, ◌||◌}
use Rattle.std.proofs.lemmas.List.{length-map}
use Rattle.rpg_program.specs.declared.condition.Conditions.{Conditions}
use Rattle.rpg_program.specs.declared.operation.Instruction.{Instruction}
use Rattle.rpg_program.specs.declared.operation.Instruction.TheVariants as made
use Rattle.rpg_compile_program.proofs.Each.{each_append}
use Rattle.rpg_cards.specs.Statements.{Acts, Begins, Calculation, Statement, Ends, Executes, GoesTo, Marks, Nothing, WritesExceptions, has_instruction, tests}
use Rattle.rpg_cards.specs.Keys.{Key, Name}
use Rattle.rpg_cards.specs.Plain.{Each, has_label}
use Rattle.rpg_cards.specs.Sections.{is_same_name, label_on}
use Rattle.rpg_compile_program.specs.Code.{alternative_code, code_from, group_code, label_place, level_code, size, sizes, skip_code, step_code, tests_code, waits}

-- ---- counts

pub alternative_length : (next operation : ℕ) (cs : List Conditions) → length (alternative_code next operation cs) ≡ length cs
alternative_length next operation [] = refl
alternative_length next operation (c ∷ []) = refl
alternative_length next operation (c ∷ d ∷ rest) = ap suc (alternative_length next operation (d ∷ rest))

pub tests_length : (place operation following : ℕ) (alts : List (List Conditions)) → length (tests_code place operation following alts) ≡ tests alts
tests_length place operation following [] = refl
tests_length place operation following (cs ∷ []) = let e = length-map cs (skip_code following) in omega arith
tests_length place operation following (cs ∷ ds ∷ rest) =
    let e = length-append (alternative_code (place + length cs) operation cs) (tests_code (place + length cs) operation following (ds ∷ rest)) in
    let a = alternative_length (place + length cs) operation cs in
    let b = tests_length (place + length cs) operation following (ds ∷ rest) in
    omega arith

pub level_length : (following : ℕ) (o : Option ℕ) → length (level_code following o) ≡ waits o
level_length following None = refl
level_length following (Some n) = refl

-- ---- branches

-- a branch leads to a place from low to high
abbrev pub Within : ℕ → ℕ → Instruction ℕ → Type 0
Within low high (made.Branch where_ cs target) = (low ≤ target) × (target ≤ high)
Within low high (made.Act a) = Unit {0}
Within low high made.Except = Unit {0}
Within low high (made.Call n) = Unit {0}
Within low high (made.Return n) = Unit {0}

level_within : (low high following : ℕ) (o : Option ℕ) → low ≤ following → following ≤ high → Each (Within low high) (level_code following o)
level_within low high following None a b = tt
level_within low high following (Some n) a b = ((a, b), tt)

skips_within : (low high target : ℕ) (cs : List Conditions) → low ≤ target → target ≤ high → Each (Within low high) (map (skip_code target) cs)
skips_within low high target [] a b = tt
skips_within low high target (c ∷ cs) a b = ((a, b), skips_within low high target cs a b)

alternative_within : (low high next operation : ℕ) (cs : List Conditions) → low ≤ next → next ≤ high → low ≤ operation → operation ≤ high → Each (Within low high) (alternative_code next operation cs)
alternative_within low high next operation [] a b c d = tt
alternative_within low high next operation (x ∷ []) a b c d = ((c, d), tt)
alternative_within low high next operation (x ∷ y ∷ rest) a b c d = ((a, b), alternative_within low high next operation (y ∷ rest) a b c d)

tests_within : (low high place operation following : ℕ) (alts : List (List Conditions)) → low ≤ place → place + tests alts ≤ high → low ≤ operation → operation ≤ high → low ≤ following → following ≤ high
    → Each (Within low high) (tests_code place operation following alts)
tests_within low high place operation following [] a b c d e f = tt
tests_within low high place operation following (cs ∷ []) a b c d e f = skips_within low high following cs e f
tests_within low high place operation following (cs ∷ ds ∷ rest) a b c d e f =
    each_append (Within low high) (alternative_code (place + length cs) operation cs) (tests_code (place + length cs) operation following (ds ∷ rest))
    (alternative_within low high (place + length cs) operation cs (omega arith) (omega arith) c d)
    (tests_within low high (place + length cs) operation following (ds ∷ rest) (omega arith) (omega arith) c d e f)

module _ (number : Key → ℕ) (place_of callee_of : Option Name → ℕ) (own : ℕ) where
  step_length : (s : Statement Key) → has_instruction s ≡ true → length (step_code number place_of callee_of own s) ≡ 1
  unfolding step_code
  step_length (Acts a) e = refl
  step_length WritesExceptions e = refl
  step_length (GoesTo l) e = refl
  step_length (Executes s) e = refl
  step_length (Marks l) e = cc
  step_length (Begins l) e = cc
  step_length (Ends l) e = refl
  step_length Nothing e = cc

  -- a group becomes as many instructions as its size says
  pub group_length : (place : ℕ) (g : Calculation Key) → length (group_code number place_of callee_of own place g) ≡ size g
  unfolding group_code size
  group_length place g = by_step (has_instruction g.statement) refl
    where
      n : ℕ
      n = waits g.level + tests g.alternatives + 1

      whole : ℕ → List (Instruction ℕ)
      whole s = level_code (place + s) g.level ++ (tests_code (place + waits g.level) (place + waits g.level + tests g.alternatives) (place + s) g.alternatives ++ step_code number place_of callee_of own g.statement)

      by_step : (b : Bool) → has_instruction g.statement ≡ b → length (cond b (whole (cond b n 0)) []) ≡ cond b n 0
      by_step false e = refl
      by_step true e =
          let a = level_length (place + n) g.level in
          let b = tests_length (place + waits g.level) (place + waits g.level + tests g.alternatives) (place + n) g.alternatives in
          let c = step_length g.statement e in
          let d = length-append (level_code (place + n) g.level) (tests_code (place + waits g.level) (place + waits g.level + tests g.alternatives) (place + n) g.alternatives ++ step_code number place_of callee_of own g.statement) in
          let f = length-append (tests_code (place + waits g.level) (place + waits g.level + tests g.alternatives) (place + n) g.alternatives) (step_code number place_of callee_of own g.statement) in
          let all : length (whole n) ≡ n = omega arith in
          all

  pub code_length : (place : ℕ) (gs : List (Calculation Key)) → length (code_from number place_of callee_of own place gs) ≡ sizes gs
  unfolding code_from
  code_length place [] = refl
  code_length place (g ∷ gs) =
      let a = group_length place g in
      let b = code_length (place + size g) gs in
      let c = length-append (group_code number place_of callee_of own place g) (code_from number place_of callee_of own (place + size g) gs) in
      omega arith

  -- the labels of GOTOs stand from low to high
  abbrev pub LeadsWithin : ℕ → ℕ → Statement Key → Type 0
  LeadsWithin low high (GoesTo l) = (low ≤ place_of l) × (place_of l ≤ high)
  LeadsWithin low high _ = Unit {0}

  step_within : (low high : ℕ) (s : Statement Key) → LeadsWithin low high s → Each (Within low high) (step_code number place_of callee_of own s)
  unfolding step_code
  step_within low high (Acts a) h = (tt, tt)
  step_within low high WritesExceptions h = (tt, tt)
  step_within low high (GoesTo l) h = (h, tt)
  step_within low high (Executes s) h = (tt, tt)
  step_within low high (Marks l) h = tt
  step_within low high (Begins l) h = tt
  step_within low high (Ends l) h = (tt, tt)
  step_within low high Nothing h = tt

  pub group_within : (low high place : ℕ) (g : Calculation Key) → low ≤ place → place + size g ≤ high → LeadsWithin low high g.statement → Each (Within low high) (group_code number place_of callee_of own place g)
  unfolding group_code size
  group_within low high place g a b h = by_step (has_instruction g.statement) b
    where
      n : ℕ
      n = waits g.level + tests g.alternatives + 1

      whole : ℕ → List (Instruction ℕ)
      whole s = level_code (place + s) g.level ++ (tests_code (place + waits g.level) (place + waits g.level + tests g.alternatives) (place + s) g.alternatives ++ step_code number place_of callee_of own g.statement)

      by_step : (b : Bool) → place + cond b n 0 ≤ high → Each (Within low high) (cond b (whole (cond b n 0)) [])
      by_step false e = tt
      by_step true e =
          each_append (Within low high) (level_code (place + n) g.level) (tests_code (place + waits g.level) (place + waits g.level + tests g.alternatives) (place + n) g.alternatives ++ step_code number place_of callee_of own g.statement) (level_within low high (place + n) g.level (omega arith) (omega arith))
          (each_append (Within low high) (tests_code (place + waits g.level) (place + waits g.level + tests g.alternatives) (place + n) g.alternatives) (step_code number place_of callee_of own g.statement)
          (tests_within low high (place + waits g.level) (place + waits g.level + tests g.alternatives) (place + n) g.alternatives (omega arith) (omega arith) (omega arith) (omega arith) (omega arith) (omega arith))
          (step_within low high g.statement h))

  pub code_within : (low high place : ℕ) (gs : List (Calculation Key)) → low ≤ place → place + sizes gs ≤ high → Each (λ g. LeadsWithin low high g.statement) gs → Each (Within low high) (code_from number place_of callee_of own place gs)
  unfolding code_from
  code_within low high place [] a b h = tt
  code_within low high place (g ∷ gs) a b h =
      each_append (Within low high) (group_code number place_of callee_of own place g) (code_from number place_of callee_of own (place + size g) gs)
      (group_within low high place g a (omega arith) h.0) (code_within low high (place + size g) gs (omega arith) (omega arith) h.1)

  pub code_append : (place : ℕ) (gs hs : List (Calculation Key)) → code_from number place_of callee_of own place (gs ++ hs) ≡ code_from number place_of callee_of own place gs ++ code_from number place_of callee_of own (place + sizes gs) hs
  unfolding code_from
  code_append place [] hs = ap (λ n. code_from number place_of callee_of own n hs) (omega arith)
  code_append place (g ∷ gs) hs =
      let rest = code_append (place + size g) gs hs in
      let e : place + size g + sizes gs ≡ place + sizes (g ∷ gs) = omega arith in
      ap (λ xs. group_code number place_of callee_of own place g ++ xs) (rest ∙ ap (λ n. code_from number place_of callee_of own (place + size g) gs ++ code_from number place_of callee_of own n hs) e) ∙ sym (append_assoc (group_code number place_of callee_of own place g) (code_from number place_of callee_of own (place + size g) gs) (code_from number place_of callee_of own (place + sizes (g ∷ gs)) hs))

-- ---- labels

-- a label is a place of its section or its end
pub label_inside : (l : Option Name) (gs : List (Calculation Key)) (place : ℕ) → (place ≤ label_place l gs place) × (label_place l gs place ≤ place + sizes gs)
label_inside l [] place = (omega arith, omega arith)
label_inside l (g ∷ gs) place = by_label (is_same_name l (label_on g.statement)) (label_inside l gs (place + size g))
  where
    by_label : (b : Bool) → (place + size g ≤ label_place l gs (place + size g)) × (label_place l gs (place + size g) ≤ place + size g + sizes gs)
        → (place ≤ cond b place (label_place l gs (place + size g))) × (cond b place (label_place l gs (place + size g)) ≤ place + (size g + sizes gs))
    by_label true h = (omega arith, omega arith)
    by_label false h = let a = h.0 in let b = h.1 in (omega arith, omega arith)

-- a label of groups of which g is the last stands before g at the latest
pub label_before : (l : Option Name) (front : List (Calculation Key)) (g : Calculation Key) (place : ℕ) → has_label l (front ++ g ∷ []) ≡ true → label_place l (front ++ g ∷ []) place ≤ place + sizes front
label_before l [] g place h = by_label (is_same_name l (label_on g.statement)) h
  where
    by_label : (b : Bool) → (b || false) ≡ true → cond b place (place + size g) ≤ place + 0
    by_label true h = omega arith
    by_label false h = absurd cc
label_before l (x ∷ xs) g place h = by_label (is_same_name l (label_on x.statement)) h (label_before l xs g (place + size x))
  where
    by_label : (b : Bool) → (b || has_label l (xs ++ g ∷ [])) ≡ true → (has_label l (xs ++ g ∷ []) ≡ true → label_place l (xs ++ g ∷ []) (place + size x) ≤ place + size x + sizes xs)
        → cond b place (label_place l (xs ++ g ∷ []) (place + size x)) ≤ place + (size x + sizes xs)
    by_label true h rest = omega arith
    by_label false h rest = let r = rest h in omega arith
