-- The conditions of a calculation lead to its operation or after it.
use Rattle.std.proofs.Common.{◌≡◌, ℕ, suc, ◌+◌, ◌<◌, ◌≤◌, Bool, true, false, not, cond, ◌&&◌, ◌||◌, eqb, List, [], ◌∷◌, ◌++◌, length, map, Option, Some, None, refl, sym, ap, ◌∙◌, subst, arith, leb-true, nat_le}
use Rattle.std.specs.List.{list_any}
use Rattle.std.specs.FinSet as set
use Rattle.rpg_cards.specs.Statements.{tests}
use Rattle.rpg_compile_program.proofs.Counts.{alternative_length}
use Rattle.rpg_compile_program.specs.Code.{alternative_code, jump, level_code, on_level, skip_code, tests_code, waits}
use Rattle.rpg_program.specs.Ends.{Continues, Halt}
use Rattle.rpg_program.specs.Instructions.{instruction_effect}
use Rattle.rpg_program.specs.World.{three_hold}
use Rattle.rpg_program.specs.declared.condition.Conditions.{Conditions}
use Rattle.rpg_program.specs.declared.operation.Instruction.{Instruction}
use Rattle.rpg_program.specs.declared.operation.Instruction.TheVariants.{Branch}
use Rattle.rpg_machine.proofs.Ranges.{more_there}
use Rattle.rpg_machine.proofs.Steps.{step_right}
use Rattle.rpg_machine.specs.Accepted.{IsOrderly}
use Rattle.rpg_machine.specs.Config.{Config, Output, charged, here, no_output}
use Rattle.rpg_machine.specs.Control.{branch, control, spends}
use Rattle.rpg_machine.specs.Run.{onward, put_before, run}
use Rattle.rpg_machine.specs.Step.{Outcome, Next, Stop, arrived, control_in, destination, effect, step, went}
use Rattle.rpg_machine.specs.declared.control.Control.{Control}
use Rattle.rpg_machine.specs.declared.control.Control.TheVariants.{Goes, GoesBack}
use Rattle.rpg_program.specs.ObjectInstructions.{weight}
use Rattle.rpg_meaning.proofs.Calculations.Accepted.{fit_after, right}
use Rattle.rpg_meaning.specs.Calculations.Agreement.{Comes, IsRunnable}
use Rattle.rpg_meaning.specs.Calculations.Meaning.{all_cards_hold, level_holds}
use Rattle.rpg_meaning.specs.Calculations.Translation.{AreFilled}
use Rattle.rpg_program.specs.Object.{Object}
use Rattle.rpg_program.specs.Sections.{instruction_at}

-- ---- outputs

pub nothing_before : (x : Outcome) → put_before no_output x ≡ x
nothing_before (Next c o) = refl
nothing_before (Stop e c o) = refl

pub stays : (p : Object) (c : Config) → Comes p c c no_output
stays p c = record { by = λ k. (k, sym (nothing_before (run p k c))) }

pub then_comes : (p : Object) (c d e : Config) (o : Output) → Comes p c d no_output → Comes p d e o → Comes p c e o
then_comes p c d e o x y = record { by = λ k. let b = y.by k in let a = x.by b.0 in (a.0, a.1 ∙ nothing_before (run p b.0 d) ∙ b.1) }

module _ (p : Object) (orderly : IsOrderly p) where
  pub one_step : (c d : Config) (o : Output) (i : Instruction ℕ) → IsRunnable p c → instruction_at p (here c) ≡ Some i → step p c ≡ Next d o → Comes p c d o
  one_step c d o i ready at is = record {
    by = λ k. (
      suc k,
      ap (λ b. cond b (Stop Continues c no_output) (onward (step p c) (run p k))) (more_there p c i ready.0.place at) ∙ ap (λ x. onward x (run p k)) is,
    );
  }

  pub one_stop : (c d : Config) (o : Output) (k : ℕ) (i : Instruction ℕ) → IsRunnable p c → instruction_at p (here c) ≡ Some i → step p c ≡ Stop (Halt k) d o → run p 1 c ≡ Stop (Halt k) d o
  one_stop c d o k i ready at is =
      ap (λ b. cond b (Stop Continues c no_output) (onward (step p c) (run p 0))) (more_there p c i ready.0.place at) ∙ ap (λ x. onward x (run p 0)) is

  pub stop_after : (c d e : Config) (o : Output) (k : ℕ) → Comes p c d no_output → run p 1 d ≡ Stop (Halt k) e o → (j : ℕ) × (run p j c ≡ Stop (Halt k) e o)
  stop_after c d e o k x r = let a = x.by 1 in (a.0, a.1 ∙ nothing_before (run p 1 d) ∙ r)

  -- the step of an instruction with which nothing is wrong
  pub step_of : (c : Config) (i : Instruction ℕ) (k : Control) → IsRunnable p c → instruction_at p (here c) ≡ Some i → control_in c i ≡ k →
      step p c ≡ cond (spends k && eqb c.allowance 0) (Stop (Halt 5) (charged (weight p i) c) no_output)
      (went (charged (weight p i) c) (arrived (charged (weight p i) c) k (destination p c k)) (effect p i c.world))
  step_of c i k ready at is =
      step_right p c i at (right p orderly c i ready at)
      ∙ ap (λ j. cond (spends j && eqb c.allowance 0) (Stop (Halt 5) (charged (weight p i) c) no_output) (went (charged (weight p i) c) (arrived (charged (weight p i) c) j (destination p c j)) (effect p i c.world))) is

  module _ (d : Config) where
    -- at a place of the section, after that many steps
    abbrev pub at : ℕ → ℕ → Config
    at x s = record d { place = x; steps = s }

    -- control comes from one place to another, and nothing else changes but the steps
    pub record Reaches (x y : ℕ) : Type 0 where
      pub by : (s : ℕ) → IsRunnable p (at x s) → (t : ℕ) × Comes p (at x s) (at y t) no_output × IsRunnable p (at y t)

    pub here_is : (x y : ℕ) → x ≡ y → Reaches x y
    here_is x y e = subst (Reaches x) e (record { by = λ s ready. (s, stays p (at x s), ready) })

    pub then_reaches : (x y z : ℕ) → Reaches x y → Reaches y z → Reaches x z
    then_reaches x y z f g = record {
      by = λ s ready.
          let a = f.by s ready in
          let b = g.by a.0 a.2 in
          (b.0, then_comes p (at x s) (at y a.0) (at z b.0) no_output a.1 b.1, b.2);
    }

    pub lands : (x y z : ℕ) → y ≡ z → Reaches x y → Reaches x z
    lands x y z e f = subst (Reaches x) e f

    abbrev pub stands : ℕ → Instruction ℕ → Type 0
    stands x i = instruction_at p (record { section = d.section; number = x }) ≡ Some i

    -- the instructions stand from this place on
    abbrev pub HasAt : ℕ → List (Instruction ℕ) → Type 0
    HasAt x [] = Unit {0}
    HasAt x (i ∷ is) = stands x i × HasAt (x + 1) is

    goes : (x y : ℕ) (b : Bool) (cs : Conditions) (t : ℕ) → stands x (Branch b cs t) → control d.world.data.on x (Branch b cs t) ≡ Goes y → Reaches x y
    unfolding instruction_effect
    goes x y b cs t at_x is = record {
      by = λ s ready.
          let c = at x s in
          let i = Branch b cs t in
          let e = step_of c i (Goes y) ready at_x is in
          (s + weight p i, one_step c (at y (s + weight p i)) no_output i ready at_x e, fit_after p orderly c (at y (s + weight p i)) no_output ready e);
    }

    ahead : (x t : ℕ) (b : Bool) → b ≡ true → x < t → branch b x t ≡ Goes t
    ahead x t b e l = ap (λ z. branch z x t) e ∙ by_test (nat_le t x) refl
      where
        by_test : (z : Bool) → nat_le t x ≡ z → cond z (GoesBack t) (Goes t) ≡ Goes t
        by_test true h = absurd (omega (arith, leb-true))
        by_test false h = refl

    on_by : (x t : ℕ) (b : Bool) → b ≡ false → branch b x t ≡ Goes (x + 1)
    on_by x t b e = ap (λ z. branch z x t) e

    pub skip_holds : (x t : ℕ) (cs : Conditions) → stands x (skip_code t cs) → three_hold d.world.data.on cs ≡ true → Reaches x (x + 1)
    unfolding control
    skip_holds x t cs h e = goes x (x + 1) false cs t h (on_by x t (not (three_hold d.world.data.on cs)) (ap not e))

    pub skip_fails : (x t : ℕ) (cs : Conditions) → stands x (skip_code t cs) → three_hold d.world.data.on cs ≡ false → x < t → Reaches x t
    unfolding control
    skip_fails x t cs h e l = goes x t false cs t h (ahead x t (not (three_hold d.world.data.on cs)) (ap not e) l)

    pub jump_holds : (x t : ℕ) (cs : Conditions) → stands x (jump t cs) → three_hold d.world.data.on cs ≡ true → x < t → Reaches x t
    unfolding control
    jump_holds x t cs h e l = goes x t true cs t h (ahead x t (three_hold d.world.data.on cs) e l)

    pub jump_fails : (x t : ℕ) (cs : Conditions) → stands x (jump t cs) → three_hold d.world.data.on cs ≡ false → Reaches x (x + 1)
    unfolding control
    jump_fails x t cs h e = goes x (x + 1) true cs t h (on_by x t (three_hold d.world.data.on cs) e)

    -- ---- code in parts

    pub has_front : (x : ℕ) (a b : List (Instruction ℕ)) → HasAt x (a ++ b) → HasAt x a
    has_front x [] b h = tt
    has_front x (i ∷ a) b h = (h.0, has_front (x + 1) a b h.1)

    pub has_back : (x : ℕ) (a b : List (Instruction ℕ)) → HasAt x (a ++ b) → HasAt (x + length a) b
    has_back x [] b h = let e : x ≡ x + 0 = omega arith in subst (λ n. HasAt n b) e h
    has_back x (i ∷ a) b h = let e : x + 1 + length a ≡ x + length (i ∷ a) = omega arith in subst (λ n. HasAt n b) e (has_back (x + 1) a b h.1)

    -- ---- alternatives

    last_leads : (a : List Conditions) (x op : ℕ) → x + length a ≡ op → HasAt x (map (skip_code (op + 1)) a) → Reaches x (cond (all_cards_hold d.world.data.on a) op (op + 1))
    last_leads [] x op e h = here_is x op (omega arith)
    last_leads (cs ∷ rest) x op e h = by_holds (three_hold d.world.data.on cs) refl (last_leads rest (x + 1) op (omega arith) h.1)
      where
        by_holds : (b : Bool) → three_hold d.world.data.on cs ≡ b → Reaches (x + 1) (cond (all_cards_hold d.world.data.on rest) op (op + 1)) → Reaches x (cond (b && all_cards_hold d.world.data.on rest) op (op + 1))
        by_holds true f g = then_reaches x (x + 1) _ (skip_holds x (op + 1) cs h.0 f) g
        by_holds false f g = skip_fails x (op + 1) cs h.0 f (omega arith)

    earlier_leads : (cs : Conditions) (rest : List Conditions) (x op next : ℕ) → x + length (cs ∷ rest) ≡ next → next ≤ op → HasAt x (alternative_code next op (cs ∷ rest)) → Reaches x (cond (all_cards_hold d.world.data.on (cs ∷ rest)) op next)
    earlier_leads cs [] x op next e l h = by_holds (three_hold d.world.data.on cs) refl
      where
        by_holds : (b : Bool) → three_hold d.world.data.on cs ≡ b → Reaches x (cond (b && true) op next)
        by_holds true f = jump_holds x op cs h.0 f (omega arith)
        by_holds false f = lands x (x + 1) next (omega arith) (jump_fails x op cs h.0 f)
    earlier_leads cs (more ∷ rest) x op next e l h = by_holds (three_hold d.world.data.on cs) refl (earlier_leads more rest (x + 1) op next (omega arith) l h.1)
      where
        by_holds : (b : Bool) → three_hold d.world.data.on cs ≡ b → Reaches (x + 1) (cond (all_cards_hold d.world.data.on (more ∷ rest)) op next) → Reaches x (cond (b && all_cards_hold d.world.data.on (more ∷ rest)) op next)
        by_holds true f g = then_reaches x (x + 1) _ (skip_holds x next cs h.0 f) g
        by_holds false f g = skip_fails x next cs h.0 f (omega arith)

    or_false : (b : Bool) → b ≡ (b || false)
    or_false true = refl
    or_false false = refl

    pub tests_lead : (alts : List (List Conditions)) → AreFilled alts → (x op : ℕ) → x + tests alts ≡ op → HasAt x (tests_code x op (op + 1) alts) → Reaches x (cond (list_any (all_cards_hold d.world.data.on) alts) op (op + 1))
    tests_lead [] filled x op e h = absurd filled
    tests_lead (a ∷ []) filled x op e h = subst (λ b. Reaches x (cond b op (op + 1))) (or_false (all_cards_hold d.world.data.on a)) (last_leads a x op (omega arith) h)
    tests_lead ([] ∷ b ∷ rest) filled x op e h = let no = filled.0 in absurd (omega arith)
    tests_lead ((cs ∷ a) ∷ b ∷ rest) filled x op e h =
        let next = x + length (cs ∷ a) in
        let one = earlier_leads cs a x op next refl (omega arith) (has_front x (alternative_code next op (cs ∷ a)) _ h) in
        let len = ap (λ n. x + n) (alternative_length next op (cs ∷ a)) in
        let two = tests_lead (b ∷ rest) filled.1 next op (omega arith) (subst (λ n. HasAt n (tests_code next op (op + 1) (b ∷ rest))) len (has_back x (alternative_code next op (cs ∷ a)) _ h)) in
        by_first (all_cards_hold d.world.data.on (cs ∷ a)) one two
      where
        by_first : (b1 : Bool) → Reaches x (cond b1 op (x + length (cs ∷ a))) → Reaches (x + length (cs ∷ a)) (cond (list_any (all_cards_hold d.world.data.on) (b ∷ rest)) op (op + 1))
            → Reaches x (cond (b1 || list_any (all_cards_hold d.world.data.on) (b ∷ rest)) op (op + 1))
        by_first true one two = one
        by_first false one two = then_reaches x _ _ one two

    -- the level that it waits for, and then these
    pub level_leads : (level : Option ℕ) (alts : List (List Conditions)) → AreFilled alts → (x op : ℕ) (rest : List (Instruction ℕ)) → x + waits level + tests alts ≡ op
        → HasAt x (level_code (op + 1) level ++ (tests_code (x + waits level) op (op + 1) alts ++ rest))
        → Reaches x (cond (level_holds d.world.data.on level && list_any (all_cards_hold d.world.data.on) alts) op (op + 1))
    level_leads None alts filled x op rest e h =
        let k : x + 0 ≡ x = omega arith in
        tests_lead alts filled x op (omega arith) (subst (λ n. HasAt x (tests_code n op (op + 1) alts)) k (has_front x _ rest h))
    level_leads (Some level) alts filled x op rest e h = by_holds (set.contains d.world.data.on level) refl
      where
        by_holds : (b : Bool) → set.contains d.world.data.on level ≡ b → Reaches x (cond (b && list_any (all_cards_hold d.world.data.on) alts) op (op + 1))
        by_holds true f = then_reaches x (x + 1) _ (skip_holds x (op + 1) (on_level level) h.0 (ap (λ b. b && true) f)) (tests_lead alts filled (x + 1) op e (has_front (x + 1) _ rest h.1))
        by_holds false f = skip_fails x (op + 1) (on_level level) h.0 (ap (λ b. b && true) f) (omega arith)
