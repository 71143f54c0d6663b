-- The code of one calculation does what the calculation means.
use Rattle.std.proofs.Common.{◌≡◌, ℕ, ◌+◌, ◌-◌, ◌<◌, ◌≤◌, Bool, true, false, cond, eqb, List, [], ◌∷◌, ◌++◌, length, map, Option, Some, refl, sym, ap, ◌∙◌, subst, arith, append_assoc, slice_get, nat_le, nat_lt, leb-true, ltb-true, le-leb}
use Rattle.std.proofs.lemmas.Bool.{ltb-false}
use Rattle.rpg_cards.specs.Statements.{Acts, Begins, Calculation, Statement, Ends, Executes, GoesTo, Marks, Nothing, WritesExceptions, has_instruction, tests}
use Rattle.rpg_cards.specs.Keys.{Key, Name, key_cmp}
use Rattle.rpg_compile_program.proofs.Counts.{level_length, tests_length}
use Rattle.rpg_compile_program.specs.Code.{group_code, jump, label_place, level_code, no_conditions, calculations_code, step_code, tests_code, waits}
use Rattle.rpg_compile_program.specs.Whole.{called_number}
use Rattle.rpg_program.specs.Effect.{Effect}
use Rattle.rpg_program.specs.Ended.{on_data}
use Rattle.rpg_program.specs.Ends.{End, Continues, Halt, Wrong}
use Rattle.rpg_program.specs.Forms.{form_at}
use Rattle.rpg_program.specs.Instructions.{instruction_effect}
use Rattle.rpg_program.specs.Lines.{exception_output}
use Rattle.rpg_program.specs.Operate.{operate}
use Rattle.rpg_program.specs.declared.line.Pass.TheVariants as passes
use Rattle.rpg_program.specs.declared.operation.Action.{Action}
use Rattle.rpg_program.specs.declared.operation.Instruction.{Instruction}
use Rattle.rpg_program.specs.declared.operation.Instruction.TheVariants.{Act, Except}
use Rattle.rpg_program.specs.declared.operation.Operand.{Operand}
use Rattle.rpg_machine.specs.Accepted.{IsOrderly}
use Rattle.rpg_machine.specs.Config.{Config, Output, charged, no_output}
use Rattle.rpg_machine.specs.Control.{branch, control, spends}
use Rattle.rpg_machine.specs.Step.{Next, Stop, effect, outcome_of, step}
use Rattle.rpg_machine.specs.declared.control.Control.TheVariants.{Goes, GoesBack}
use Rattle.rpg_program.specs.ObjectInstructions.{weight}
use Rattle.rpg_meaning.proofs.Calculations.Accepted.{fit_after, never_ends}
use Rattle.rpg_meaning.proofs.Calculations.Leads.{HasAt, Reaches, at, has_back, here_is, level_leads, one_step, one_stop, stands, step_of, stop_after, then_comes}
use Rattle.rpg_meaning.proofs.Calculations.Named.{all_at, lines_named, uses_at}
use Rattle.rpg_meaning.proofs.Calculations.Parts.{code_of_part, own_number}
use Rattle.rpg_meaning.proofs.Calculations.Placed.{cut, label_there, not_own, parts, place_low, place_next, place_up, size_none, size_some}
use Rattle.rpg_meaning.specs.Calculations.Agreement.{AgreeAt, Comes, IsRunnable, MachineFollows, part_section, place_at}
use Rattle.rpg_meaning.specs.Calculations.Laws.{stays_in_part}
use Rattle.rpg_meaning.specs.Calculations.Meaning.{On, Source, State, Stops, affected, after_effect, at_next, calculation_done, cards_step, statement_done, gone_to, is_done}
use Rattle.rpg_meaning.specs.Calculations.Parts.{bears, calculations_in, label_position}
use Rattle.rpg_meaning.specs.Calculations.Translation.{IsFilled, IsTranslation}
use Rattle.rpg_program.specs.Constants.{word_at}
use Rattle.rpg_program.specs.Object.{Object}
use Rattle.rpg_program.specs.Sections.{first_place, instruction_at, section_instructions}
use Rattle.rpg_program.proofs.Renaming.Lines.{data_same, lines_same}
use Rattle.rpg_program.proofs.Renaming.Operations.{operate_same}
use Rattle.rpg_program.specs.Naming.{SameEffect, renamed_action, renamed_line}

at_end : {X : Type 0} (before : List X) (x : X) (following : List X) → slice_get (before ++ x ∷ following) (length before) ≡ Some x
at_end [] x following = refl
at_end (y ∷ ys) x following = at_end ys x following

module _ {p : Object} {source : Source} {number : Key → ℕ} (orderly : IsOrderly p) (is : IsTranslation p source number) where
  -- the first place of the section, and the calculations of the part
  abbrev pub first : State → ℕ
  first s = first_place p (part_section source.sections s.part)

  abbrev pub calculations : State → List (Calculation Key)
  calculations s = calculations_in source.sections s.part

  -- where a label leads, a subroutine's number, and the number of the part's own
  abbrev pub own_label : State → Option Name → ℕ
  own_label s l = label_place l (calculations s) (first s)

  abbrev pub callee_of : Option Name → ℕ
  callee_of name = called_number source.sections name

  abbrev pub own : State → ℕ
  own s = own_number source.sections s.part

  -- ---- a calculation's code stands at its place

  code_stands : (d : Config) (code before following : List (Instruction ℕ)) → section_instructions p d.section ≡ before ++ (code ++ following) → HasAt p orderly d (first_place p d.section + length before) code
  unfolding instruction_at
  code_stands d [] before following e = tt
  code_stands d (i ∷ code) before following e =
      let n : first_place p d.section + length before - first_place p d.section ≡ length before = omega arith in
      let more : first_place p d.section + length (before ++ i ∷ []) ≡ first_place p d.section + length before + 1 = (let l = pushed before i in omega arith) in (
        ap (slice_get (section_instructions p d.section)) n ∙ ap (λ (x : List (Instruction ℕ)). slice_get x (length before)) e ∙ at_end before i (code ++ following),
        subst (λ m. HasAt p orderly d m code) more (code_stands d code (before ++ i ∷ []) following (e ∙ sym (append_assoc before (i ∷ []) (code ++ following)))),
      )
    where
      pushed : (xs : List (Instruction ℕ)) (x : Instruction ℕ) → length (xs ++ x ∷ []) ≡ length xs + 1
      pushed [] x = refl
      pushed (y ∷ ys) x = let r = pushed ys x in omega arith

  calculation_stands : (s : State) (d : Config) (g : Calculation Key) → AgreeAt p source number s d → slice_get (calculations s) s.next ≡ Some g → HasAt p orderly d d.place (group_code number (own_label s) callee_of (own s) d.place g)
  unfolding calculations_code
  calculation_stands s d g a e =
      let part = cut number (own_label s) callee_of (own s) (calculations s) (first s) s.next g e in
      let code = ap (section_instructions p) a.section ∙ code_of_part number is.level source.sections p is.code s.part ∙ part.2 in
      let there = code_stands d (group_code number (own_label s) callee_of (own s) (place_at (first s) (calculations s) s.next) g) part.0 part.1 code in
      let base = ap (λ x. first_place p x + length part.0) a.section ∙ part.3 ∙ sym a.place in
      subst (λ n. HasAt p orderly d n (group_code number (own_label s) callee_of (own s) d.place g)) base
      (subst (λ n. HasAt p orderly d (first_place p d.section + length part.0) (group_code number (own_label s) callee_of (own s) n g)) (sym a.place) there)

  -- ---- the conditions of a calculation, and its statement

  -- control reaches the statement or what is after the calculation, and the statement's instruction stands there
  pub record IsReached (s : State) (d : Config) (g : Calculation Key) : Type 0 where
    pub op : ℕ
    pub reaches : Reaches p orderly d d.place (cond (is_done d.world.data.on g) op (op + 1))
    pub code : HasAt p orderly d op (step_code number (own_label s) callee_of (own s) g.statement)
    pub low : place_at (first s) (calculations s) s.next ≤ op
    pub next : op + 1 ≡ place_at (first s) (calculations s) (s.next + 1)

  pub reached : (s : State) (d : Config) (g : Calculation Key) → AgreeAt p source number s d → slice_get (calculations s) s.next ≡ Some g → has_instruction g.statement ≡ true → IsReached s d g
  reached s d g a e f =
      let op = d.place + waits g.level + tests g.alternatives in
      let statement = step_code number (own_label s) callee_of (own s) g.statement in
      let alternatives = tests_code (d.place + waits g.level) op (op + 1) g.alternatives in
      let h = subst (HasAt p orderly d d.place) (parts number (own_label s) callee_of (own s) d.place op g f refl) (calculation_stands s d g a e) in
      let following = has_back p orderly d d.place (level_code (op + 1) g.level) (alternatives ++ statement) h in
      let last = has_back p orderly d _ alternatives statement following in
      let l = level_length (op + 1) g.level in
      let t = tests_length (d.place + waits g.level) op (op + 1) g.alternatives in
      let there : d.place + length (level_code (op + 1) g.level) + length alternatives ≡ op = omega arith in
      let q = a.place in
      let n = place_next (calculations s) (first s) s.next g e in
      let z = size_some g f in
      record {
        op = op;
        reaches = level_leads p orderly d g.level g.alternatives (all_at IsFilled (calculations s) s.next g (is.filled s.part) e) d.place op statement refl h;
        code = subst (λ m. HasAt p orderly d m statement) there last;
        low = omega arith;
        next = omega arith;
      }

  -- ---- going on after the calculation

  pub passed : (s : State) (d : Config) (x : ℕ) → AgreeAt p source number s d → Reaches p orderly d d.place x → x ≡ place_at (first s) (calculations s) (s.next + 1) → MachineFollows p source number d (On (at_next s (s.next + 1)) no_output)
  passed s d x a r e =
      let b = r.by d.steps a.fit in
      (at p orderly d x b.0, b.1, record { world = a.world; allowance = a.allowance; section = a.section; place = e; fit = b.2 }, refl)

  -- ---- a statement that changes the world and continues after itself

  pub affects : (s : State) (d : Config) (op : ℕ) (i : Instruction ℕ) (e : Effect key_cmp) → AgreeAt p source number s d → Reaches p orderly d d.place op → stands p orderly d op i → control d.world.data.on op i ≡ Goes (op + 1)
      → SameEffect source.forms number e (effect p i d.world) → op + 1 ≡ place_at (first s) (calculations s) (s.next + 1) → MachineFollows p source number d (affected s e)
  affects s d op i e a r there goes same next = by_end e.ending same.ending
    where
      b : (t : ℕ) × Comes p (at p orderly d d.place d.steps) (at p orderly d op t) no_output × IsRunnable p (at p orderly d op t)
      b = r.by d.steps a.fit

      before : Config
      before = at p orderly d op b.0

      after : Config
      after = record d { place = op + 1; steps = b.0 + weight p i }

      out : Output
      out = record { lines = e.lines; records = e.records }

      made : Output
      made = record { lines = (effect p i d.world).lines; records = (effect p i d.world).records }

      same_out : made ≡ out
      same_out = λ j. record { lines = same.lines j; records = same.records j }

      stepped : step p before ≡ outcome_of (effect p i d.world).ending (charged (weight p i) before) after (effect p i d.world).world made
      stepped = step_of p orderly before i (Goes (op + 1)) b.2 there goes

      by_end : (x : End) → (effect p i d.world).ending ≡ x → MachineFollows p source number d (after_effect x s e.world out)
      by_end Continues is_on =
          let left = record after { world = (effect p i d.world).world } in
          let on = stepped ∙ ap (λ x. outcome_of x (charged (weight p i) before) after (effect p i d.world).world made) is_on ∙ ap (Next left) same_out in (
            left,
            then_comes p d before left out b.1 (one_step p orderly before left out i b.2 there on),
            record { world = same.world; allowance = a.allowance; section = a.section; place = next; fit = fit_after p orderly before left out b.2 on },
            refl,
          )
      by_end (Halt k) is_halt =
          let left = record (charged (weight p i) before) { world = (effect p i d.world).world } in
          let stop = stepped ∙ ap (λ x. outcome_of x (charged (weight p i) before) after (effect p i d.world).world made) is_halt ∙ ap (Stop (Halt k) left) same_out in
          (left, stop_after p orderly d before left out k b.1 (one_stop p orderly before left out k i b.2 there stop), record { world = same.world; allowance = a.allowance })
      by_end (Wrong f) is_wrong = never_ends p orderly before i f b.2 there (ap spends goes) is_wrong

  -- an operation on fields
  acts_follows : (s : State) (d : Config) (op : ℕ) (x : Action (Operand Key)) → AgreeAt p source number s d → Reaches p orderly d d.place op → stands p orderly d op (Act (renamed_action number x)) → place_at (first s) (calculations s) s.next ≤ op
      → op + 1 ≡ place_at (first s) (calculations s) (s.next + 1) → MachineFollows p source number d (affected s (on_data (operate source.forms x) s.world))
  unfolding control instruction_effect
  acts_follows s d op x a r there low next =
      let f = place_low (calculations s) (first s) s.next in
      let e = ap (first_place p) a.section in
      let uses = uses_at orderly is (record { section = d.section; number = op }) x (omega arith) there in
      affects s d op (Act (renamed_action number x)) (on_data (operate source.forms x) s.world) a r there refl
      (data_same (operate source.forms x) (operate (form_at p.fields) (renamed_action number x)) s.world d.world a.world
      (operate_same is.names x s.world.data d.world.data a.world.data uses))
      next

  -- EXCPT
  puts_follows : (s : State) (d : Config) (op : ℕ) → AgreeAt p source number s d → Reaches p orderly d d.place op → stands p orderly d op Except
      → op + 1 ≡ place_at (first s) (calculations s) (s.next + 1) → MachineFollows p source number d (affected s (exception_output source.forms source.words source.overflow source.lines s.world))
  unfolding control instruction_effect
  puts_follows s d op a r there next =
      let same = lines_same is.names source.words (word_at p) is.words source.overflow passes.Exception source.lines (lines_named orderly is) s.world d.world a.world in
      affects s d op Except _ a r there refl
      (subst (λ ls. SameEffect source.forms number (exception_output source.forms source.words source.overflow source.lines s.world) (exception_output (form_at p.fields) (word_at p) p.overflow ls d.world)) (sym is.lines)
      (subst (λ o. SameEffect source.forms number (exception_output source.forms source.words source.overflow source.lines s.world) (exception_output (form_at p.fields) (word_at p) o (map (renamed_line number) source.lines) d.world)) (sym is.overflow)
      same)) next

  -- ---- GOTO

  goto_follows : (s : State) (d : Config) (op : ℕ) (l : Option Name) (g : Calculation Key) → AgreeAt p source number s d → slice_get (calculations s) s.next ≡ Some g → bears l g ≡ false → Reaches p orderly d d.place op
      → stands p orderly d op (jump (own_label s l) no_conditions) → place_at (first s) (calculations s) s.next ≤ op → op + 1 ≡ place_at (first s) (calculations s) (s.next + 1)
      → MachineFollows p source number d (gone_to s (label_position l (calculations s)))
  unfolding control instruction_effect
  goto_follows s d op l g a e nb r there low next = by_side (nat_lt (label_position l (calculations s)) s.next) refl
    where
      target : ℕ
      target = own_label s l

      at_label : target ≡ place_at (first s) (calculations s) (label_position l (calculations s))
      at_label = label_there l (calculations s) (first s)

      i : Instruction ℕ
      i = jump target no_conditions

      b : (t : ℕ) × Comes p (at p orderly d d.place d.steps) (at p orderly d op t) no_output × IsRunnable p (at p orderly d op t)
      b = r.by d.steps a.fit

      before : Config
      before = at p orderly d op b.0

      by_side : (x : Bool) → nat_lt (label_position l (calculations s)) s.next ≡ x → MachineFollows p source number d (cond x (cond (eqb s.allowance 0) (Stops 5 s no_output) (On (record (at_next s (label_position l (calculations s))) { allowance = s.allowance - 1 }) no_output)) (On (at_next s (label_position l (calculations s))) no_output))
      by_side true f =
          let k : label_position l (calculations s) < s.next = omega (arith, ltb-true) in
          let up = place_up (calculations s) (first s) (label_position l (calculations s)) s.next (omega arith) in
          let same = at_label in
          let back : target ≤ op = omega arith in
          let leads = ap (λ (z : Bool). cond z (GoesBack target) (Goes target)) (le-leb target op back) in
          by_left (step_of p orderly before i (GoesBack target) b.2 there leads) (eqb s.allowance 0) refl
        where
          by_left : step p before ≡ cond (eqb d.allowance 0) (Stop (Halt 5) (charged (weight p i) before) no_output) (Next (record d { place = target; steps = b.0 + weight p i; allowance = d.allowance - 1 }) no_output)
              → (z : Bool) → eqb s.allowance 0 ≡ z → MachineFollows p source number d (cond z (Stops 5 s no_output) (On (record (at_next s (label_position l (calculations s))) { allowance = s.allowance - 1 }) no_output))
          by_left stepped true z =
              let none = ap (λ n. eqb n 0) a.allowance ∙ z in
              let left = charged (weight p i) before in
              let stop = stepped ∙ ap (λ y. cond y (Stop (Halt 5) left no_output) (Next (record d { place = target; steps = b.0 + weight p i; allowance = d.allowance - 1 }) no_output)) none in
              (left, stop_after p orderly d before left no_output 5 b.1 (one_stop p orderly before left no_output 5 i b.2 there stop), record { world = a.world; allowance = a.allowance })
          by_left stepped false z =
              let some = ap (λ n. eqb n 0) a.allowance ∙ z in
              let left = record d { place = target; steps = b.0 + weight p i; allowance = d.allowance - 1 } in
              let on = stepped ∙ ap (λ y. cond y (Stop (Halt 5) (charged (weight p i) before) no_output) (Next left no_output)) some in (
                left,
                then_comes p d before left no_output b.1 (one_step p orderly before left no_output i b.2 there on),
                record { world = a.world; allowance = ap (λ n. n - 1) a.allowance; section = a.section; place = at_label; fit = fit_after p orderly before left no_output b.2 on },
                refl,
              )
      by_side false f =
          let k : s.next ≤ label_position l (calculations s) = omega (arith, ltb-false) in
          let other = not_own l (calculations s) s.next g e nb in
          let later : s.next + 1 ≤ label_position l (calculations s) = omega arith in
          let up = place_up (calculations s) (first s) (s.next + 1) (label_position l (calculations s)) later in
          let same = at_label in
          let ahead : op < target = omega arith in
          let left = record d { place = target; steps = b.0 + weight p i } in
          let on : step p before ≡ Next left no_output = step_of p orderly before i (Goes target) b.2 there (forward target ahead) in (
            left,
            then_comes p d before left no_output b.1 (one_step p orderly before left no_output i b.2 there on),
            record { world = a.world; allowance = a.allowance; section = a.section; place = at_label; fit = fit_after p orderly before left no_output b.2 on },
            refl,
          )
        where
          forward : (t : ℕ) → op < t → branch true op t ≡ Goes t
          forward t h = by_test (nat_le t op) refl
            where
              by_test : (z : Bool) → nat_le t op ≡ z → cond z (GoesBack t) (Goes t) ≡ Goes t
              by_test true y = absurd (omega (arith, leb-true))
              by_test false y = refl

  -- ---- one calculation

  done_same : (s : State) (d : Config) (g : Calculation Key) → AgreeAt p source number s d → is_done d.world.data.on g ≡ is_done s.world.data.on g
  done_same s d g a = ap (λ on. is_done on g) a.world.data.on

  -- the statement, where control has reached it
  does : (s : State) (d : Config) (g : Calculation Key) → AgreeAt p source number s d → slice_get (calculations s) s.next ≡ Some g → (x : Statement Key) → g.statement ≡ x → has_instruction x ≡ true → stays_in_part x ≡ true
      → (op : ℕ) → Reaches p orderly d d.place op → HasAt p orderly d op (step_code number (own_label s) callee_of (own s) x) → place_at (first s) (calculations s) s.next ≤ op → op + 1 ≡ place_at (first s) (calculations s) (s.next + 1)
      → MachineFollows p source number d (statement_done source s x)
  unfolding step_code
  does s d g a e (Marks l) f m i op r h low next = absurd cc
  does s d g a e (Begins l) f m i op r h low next = absurd cc
  does s d g a e Nothing f m i op r h low next = absurd cc
  does s d g a e (Acts x) f m i op r h low next = acts_follows s d op x a r h.0 low next
  does s d g a e WritesExceptions f m i op r h low next = puts_follows s d op a r h.0 next
  does s d g a e (GoesTo l) f m i op r h low next = goto_follows s d op l g a e (ap (λ x. bears l (record g { statement = x })) f) r h.0 low next
  does s d g a e (Executes n) f m i op r h low next = absurd cc
  does s d g a e (Ends l) f m i op r h low next = absurd cc

  either_way : {A : Type 0} (b : Bool) (x y : A) → x ≡ y → cond b x y ≡ y
  either_way true x y e = e
  either_way false x y e = refl

  pub calculation_follows : (s : State) (d : Config) (g : Calculation Key) → slice_get (calculations s) s.next ≡ Some g → stays_in_part g.statement ≡ true → AgreeAt p source number s d → MachineFollows p source number d (cards_step source s)
  unfolding cards_step
  calculation_follows s d g e inside a =
      subst (λ x. MachineFollows p source number d (calculation_done source s x)) (sym e) (by_instruction (has_instruction g.statement) refl)
    where
      by_done : IsReached s d g → has_instruction g.statement ≡ true → (b : Bool) → is_done s.world.data.on g ≡ b → MachineFollows p source number d (cond b (statement_done source s g.statement) (On (at_next s (s.next + 1)) no_output))
      by_done x m true h = does s d g a e g.statement refl m inside x.op (subst (λ b. Reaches p orderly d d.place (cond b x.op (x.op + 1))) (done_same s d g a ∙ h) x.reaches) x.code x.low x.next
      by_done x m false h = passed s d (x.op + 1) a (subst (λ b. Reaches p orderly d d.place (cond b x.op (x.op + 1))) (done_same s d g a ∙ h) x.reaches) x.next

      mark_passes : (x : Statement Key) → has_instruction x ≡ false → statement_done source s x ≡ On (at_next s (s.next + 1)) no_output
      mark_passes (Marks l) m = refl
      mark_passes (Begins l) m = refl
      mark_passes Nothing m = refl
      mark_passes (Acts y) m = absurd cc
      mark_passes WritesExceptions m = absurd cc
      mark_passes (GoesTo l) m = absurd cc
      mark_passes (Executes n) m = absurd cc
      mark_passes (Ends l) m = absurd cc

      by_instruction : (b : Bool) → has_instruction g.statement ≡ b → MachineFollows p source number d (cond (is_done s.world.data.on g) (statement_done source s g.statement) (On (at_next s (s.next + 1)) no_output))
      by_instruction false m =
          let z = size_none g m in
          let n = place_next (calculations s) (first s) s.next g e in
          let q = a.place in
          let same : d.place ≡ place_at (first s) (calculations s) (s.next + 1) = omega arith in
          subst (MachineFollows p source number d) (sym (either_way (is_done s.world.data.on g) _ _ (mark_passes g.statement m))) (passed s d d.place a (here_is p orderly d d.place d.place refl) same)
      by_instruction true m = by_done (reached s d g a e m) m (is_done s.world.data.on g) refl
