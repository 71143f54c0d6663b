-- The code of sound sections: where branches, calls and returns lead.
use Rattle.std.proofs.Common.{◌≡◌, ℕ, ◌+◌, ◌≤◌, ◌<◌, Bool, true, false, cond, ◌&&◌, ◌||◌, List, [], ◌∷◌, ◌++◌, length, map, Option, None, Some, refl, sym, ap, ◌∙◌, subst, arith}
use Rattle.std.specs.Prelude.{◌==◌, nat_le, nat_lt, nat_eq}
use Rattle.std.proofs.lemmas.Bool.{and_from, eq-eqb, le-leb, lt-ltb, ltb-false}
use Rattle.rpg_program.specs.declared.condition.Conditions.{Conditions}
use Rattle.rpg_program.specs.declared.operation.Instruction.{Instruction}
use Rattle.rpg_program.specs.declared.operation.Instruction.TheVariants as made
use Rattle.rpg_program.specs.Object.{Object}
use Rattle.rpg_program.specs.Sections.{first_place, has_end, is_place, place_after}
use Rattle.rpg_program.specs.declared.section.Section.{Section}
use Rattle.rpg_verify_rules.specs.PlaceRules.{calls_higher, is_own, is_return, stays_inside}
use Rattle.rpg_compile_program.proofs.Counts.{Within}
use Rattle.rpg_compile_program.proofs.Each.{each_always, each_append, each_map}
use Rattle.rpg_cards.specs.Statements.{Acts, Begins, Calculation, Statement, Ends, Executes, GoesTo, Marks, Nothing, WritesExceptions, has_instruction, tests}
use Rattle.rpg_cards.specs.Keys.{Key, Name}
use Rattle.rpg_cards.specs.Plain.{Each, IsNoReturn}
use Rattle.rpg_compile_program.specs.Code.{alternative_code, code_from, group_code, level_code, size, skip_code, step_code, tests_code, waits}

-- ---- what an instruction leads to

abbrev IsOwn : ℕ → Instruction ℕ → Type 0
IsOwn own i = is_own own i ≡ true

nat_eq_itself : (n : ℕ) → nat_eq n n ≡ true
nat_eq_itself n = eq-eqb n n refl

-- what the tests of a group become is neither call nor return
pub record IsTest (i : Instruction ℕ) : Type 0 where
  pub returns : is_return i ≡ false
  pub own : (n : ℕ) → is_own n i ≡ true
  pub calls : (p : Object) (s : Section) → calls_higher p s i ≡ true

branch_test : (where_ : Bool) (cs : Conditions) (t : ℕ) → IsTest (made.Branch where_ cs t)
branch_test where_ cs t = record { returns = refl; own = λ n. refl; calls = λ p s. refl }

level_tests : (following : ℕ) (o : Option ℕ) → Each IsTest (level_code following o)
level_tests following None = tt
level_tests following (Some n) = (branch_test false _ following, tt)

skip_tests : (target : ℕ) (cs : List Conditions) → Each IsTest (map (skip_code target) cs)
skip_tests target [] = tt
skip_tests target (c ∷ cs) = (branch_test false c target, skip_tests target cs)

alternative_tests : (next operation : ℕ) (cs : List Conditions) → Each IsTest (alternative_code next operation cs)
alternative_tests next operation [] = tt
alternative_tests next operation (c ∷ []) = (branch_test true c operation, tt)
alternative_tests next operation (c ∷ d ∷ rest) = (branch_test false c next, alternative_tests next operation (d ∷ rest))

all_tests : (place operation following : ℕ) (alts : List (List Conditions)) → Each IsTest (tests_code place operation following alts)
all_tests place operation following [] = tt
all_tests place operation following (cs ∷ []) = skip_tests following cs
all_tests place operation following (cs ∷ ds ∷ rest) = each_append IsTest (alternative_code (place + length cs) operation cs) (tests_code (place + length cs) operation following (ds ∷ rest)) (alternative_tests (place + length cs) operation cs) (all_tests (place + length cs) operation following (ds ∷ rest))

module _ (number : Key → ℕ) (place_of callee_of : Option Name → ℕ) (own : ℕ) (P : Instruction ℕ → Type 0) (of_test : (i : Instruction ℕ) → IsTest i → P i) where
  -- what holds of all tests and of the instruction of each step holds of the code
  group_each : (place : ℕ) (g : Calculation Key) → Each P (step_code number place_of callee_of own g.statement) → Each P (group_code number place_of callee_of own place g)
  unfolding group_code
  group_each place g h = by_step (has_instruction g.statement)
    where
      by_step : (b : Bool) → Each P (cond b (level_code (place + size g) g.level ++ (tests_code (place + waits g.level) (place + waits g.level + tests g.alternatives) (place + size g) g.alternatives ++ step_code number place_of callee_of own g.statement)) [])
      by_step false = tt
      by_step true =
          each_append P (level_code (place + size g) g.level) (tests_code (place + waits g.level) (place + waits g.level + tests g.alternatives) (place + size g) g.alternatives ++ step_code number place_of callee_of own g.statement)
          (each_map IsTest P (level_code (place + size g) g.level) of_test (level_tests (place + size g) g.level))
          (each_append P (tests_code (place + waits g.level) (place + waits g.level + tests g.alternatives) (place + size g) g.alternatives) (step_code number place_of callee_of own g.statement)
          (each_map IsTest P (tests_code (place + waits g.level) (place + waits g.level + tests g.alternatives) (place + size g) g.alternatives) of_test (all_tests (place + waits g.level) (place + waits g.level + tests g.alternatives) (place + size g) g.alternatives)) h)

  pub code_each : (place : ℕ) (gs : List (Calculation Key)) → Each (λ g. Each P (step_code number place_of callee_of own g.statement)) gs → Each P (code_from number place_of callee_of own place gs)
  unfolding code_from
  code_each place [] h = tt
  code_each place (g ∷ gs) h = each_append P (group_code number place_of callee_of own place g) (code_from number place_of callee_of own (place + size g) gs) (group_each place g h.0) (code_each (place + size g) gs h.1)

module _ (number : Key → ℕ) (place_of callee_of : Option Name → ℕ) (own : ℕ) where
  -- all returns are the section's own
  step_own : (s : Statement Key) → Each (IsOwn own) (step_code number place_of callee_of own s)
  unfolding step_code
  step_own (Acts a) = (refl, tt)
  step_own WritesExceptions = (refl, tt)
  step_own (GoesTo l) = (refl, tt)
  step_own (Executes s) = (refl, tt)
  step_own (Marks l) = tt
  step_own (Begins l) = tt
  step_own (Ends l) = (nat_eq_itself own, tt)
  step_own Nothing = tt

  pub code_own : (place : ℕ) (gs : List (Calculation Key)) → Each (IsOwn own) (code_from number place_of callee_of own place gs)
  code_own place gs = code_each number place_of callee_of own (IsOwn own) (λ i t. t.own own) place gs (each_always (λ g. Each (IsOwn own) (step_code number place_of callee_of own g.statement)) gs (λ g. step_own g.statement))

  abbrev IsNone : Instruction ℕ → Type 0
  IsNone i = is_return i ≡ false

  step_none : (s : Statement Key) → IsNoReturn s → Each IsNone (step_code number place_of callee_of own s)
  unfolding step_code
  step_none (Acts a) h = (refl, tt)
  step_none WritesExceptions h = (refl, tt)
  step_none (GoesTo l) h = (refl, tt)
  step_none (Executes s) h = (refl, tt)
  step_none (Marks l) h = tt
  step_none (Begins l) h = tt
  step_none (Ends l) h = absurd h
  step_none Nothing h = tt

  pub code_none : (place : ℕ) (gs : List (Calculation Key)) → Each (λ g. IsNoReturn g.statement) gs → Each IsNone (code_from number place_of callee_of own place gs)
  code_none place gs h = code_each number place_of callee_of own IsNone (λ i t. t.returns) place gs (each_map (λ g. IsNoReturn g.statement) (λ g. Each IsNone (step_code number place_of callee_of own g.statement)) gs (λ g n. step_none g.statement n) h)

  -- the code of the last group, an ENDSR that is always done
  pub last_return : (place : ℕ) (g : Calculation Key) (l : Option Name) → g.statement ≡ Ends l → g.level ≡ None → tests g.alternatives ≡ 0 → group_code number place_of callee_of own place g ≡ made.Return own ∷ []
  unfolding group_code step_code
  last_return place g l s w f =
      let a : tests_code (place + waits g.level) (place + waits g.level + tests g.alternatives) (place + size g) g.alternatives ≡ [] = no_tests (place + waits g.level) (place + waits g.level + tests g.alternatives) (place + size g) g.alternatives f in
      let b : level_code (place + size g) g.level ≡ [] = ap (level_code (place + size g)) w in
      ap (λ (x : Statement Key). cond (has_instruction x) (level_code (place + size g) g.level ++ (tests_code (place + waits g.level) (place + waits g.level + tests g.alternatives) (place + size g) g.alternatives ++ step_code number place_of callee_of own x)) []) s
      ∙ ap (λ xs. xs ++ (tests_code (place + waits g.level) (place + waits g.level + tests g.alternatives) (place + size g) g.alternatives ++ made.Return own ∷ [])) b
      ∙ ap (λ xs. xs ++ made.Return own ∷ []) a
    where
      no_tests : (place operation following : ℕ) (alts : List (List Conditions)) → tests alts ≡ 0 → tests_code place operation following alts ≡ []
      no_tests place operation following [] e = refl
      no_tests place operation following ([] ∷ []) e = refl
      no_tests place operation following ((c ∷ cs) ∷ []) e = absurd (omega arith)
      no_tests place operation following ([] ∷ ds ∷ rest) e = no_tests (place + 0) operation following (ds ∷ rest) (omega arith)
      no_tests place operation following ((c ∷ cs) ∷ ds ∷ rest) e = absurd (omega arith)

-- ---- places

module _ (p : Object) where
  -- a place of detail or total, or its end
  pub stays : (s : Section) (first end : ℕ) (i : Instruction ℕ) → first_place p s ≡ first → place_after p s ≡ end → has_end s ≡ true → Within first end i → stays_inside p s i ≡ true
  unfolding is_place
  stays s first end (made.Act a) f e h w = refl
  stays s first end made.Except f e h w = refl
  stays s first end (made.Call n) f e h w = refl
  stays s first end (made.Return n) f e h w = refl
  stays s first end (made.Branch where_ cs t) f e h w =
      let low : first_place p s ≤ t = subst (λ n. n ≤ t) (sym f) w.0 in
      let high : t ≤ place_after p s = subst (λ n. t ≤ n) (sym e) w.1 in
      and_from (nat_le (first_place p s) t) (nat_lt t (place_after p s) || (has_end s && t == place_after p s)) (le-leb (first_place p s) t low) (by_end (nat_lt t (place_after p s)) refl high)
    where
      by_end : (b : Bool) → nat_lt t (place_after p s) ≡ b → t ≤ place_after p s → (b || (has_end s && t == place_after p s)) ≡ true
      by_end true g high = refl
      by_end false g high = and_from (has_end s) (t == place_after p s) h (eq-eqb t (place_after p s) (let low = ltb-false t (place_after p s) g in omega arith))

  -- a place of any section
  pub stays_before : (s : Section) (first high : ℕ) (i : Instruction ℕ) → first_place p s ≡ first → high < place_after p s → Within first high i → stays_inside p s i ≡ true
  unfolding is_place
  stays_before s first high (made.Act a) f e w = refl
  stays_before s first high made.Except f e w = refl
  stays_before s first high (made.Call n) f e w = refl
  stays_before s first high (made.Return n) f e w = refl
  stays_before s first high (made.Branch where_ cs t) f e w =
      let low : first_place p s ≤ t = subst (λ n. n ≤ t) (sym f) w.0 in
      let h = w.1 in
      and_from (nat_le (first_place p s) t) (nat_lt t (place_after p s) || (has_end s && t == place_after p s)) (le-leb (first_place p s) t low) (or_true (nat_lt t (place_after p s)) (has_end s && t == place_after p s) (lt-ltb t (place_after p s) (omega arith)))
    where
      or_true : (a b : Bool) → a ≡ true → (a || b) ≡ true
      or_true true b e = refl
      or_true false b e = cc
