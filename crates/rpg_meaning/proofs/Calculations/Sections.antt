-- A section's code does what its cards mean, with the subroutines that they call.
use Rattle.std.proofs.Common.{◌≡◌, ◌≢◌, ℕ, zero, suc, ◌+◌, ◌-◌, ◌<◌, ◌≤◌, Bool, true, false, cond, ◌&&◌, ◌||◌, ◌==◌, eqb, List, [], ◌∷◌, ◌++◌, length, Option, Some, None, refl, sym, ap, ◌∙◌, subst, arith, append_assoc, slice_get, nat_le, nat_lt, leb-true, ltb-true, le-leb, nat_cmp}
use Rattle.std.proofs.lemmas.Bool.{false≢true, ne_eqb, eq-eqb}
use Rattle.std.specs.Cmp.{nat_cmp_total, unsigned_tied}
use Rattle.std.specs.FinMap as map
use Rattle.rpg_cards.specs.Statements.{Acts, Begins, Calculation, Statement, Ends, Executes, GoesTo, Marks, Nothing, WritesExceptions, has_instruction}
use Rattle.rpg_cards.specs.Keys.{Key, Name}
use Rattle.rpg_cards.specs.Sections.{callee}
use Rattle.rpg_compile_program.specs.Code.{size, sizes, step_code}
use Rattle.rpg_program.specs.Ends.{End, Continues, Halt, Wrong}
use Rattle.rpg_program.specs.Instructions.{instruction_effect}
use Rattle.rpg_program.specs.declared.operation.Instruction.TheVariants.{Call, Return}
use Rattle.rpg_machine.specs.Accepted.{IsOrderly}
use Rattle.rpg_machine.specs.Config.{Config, Output, charged, no_output, with_more}
use Rattle.rpg_machine.specs.Control.{control}
use Rattle.rpg_machine.specs.Run.{onward, put_before, run}
use Rattle.rpg_machine.specs.Step.{Next, Outcome, Stop, arrived, effect, step, went}
use Rattle.rpg_machine.specs.declared.control.Control.TheVariants.{Calls, Returns}
use Rattle.rpg_program.specs.ObjectInstructions.{weight}
use Rattle.rpg_meaning.proofs.Calculations.Counted.{cards_run, followed}
use Rattle.rpg_meaning.proofs.Calculations.Accepted.{fit_after, calls_up, returns_own}
use Rattle.rpg_meaning.proofs.Calculations.Follows.{IsReached, calculation_follows, callee_of, own, own_label, passed, reached}
use Rattle.rpg_meaning.proofs.Calculations.Leads.{HasAt, Reaches, at, one_step, one_stop, stays, step_of, stop_after, then_comes}
use Rattle.rpg_meaning.proofs.Calculations.Parts.{code_of_part, own_number, section_length}
use Rattle.rpg_meaning.proofs.Calculations.Placed.{place_start}
use Rattle.rpg_meaning.specs.Calculations.Agreement.{AgreeAt, AgreeEnded, Comes, IsRunnable, MachineFollows, part_section, place_at}
use Rattle.rpg_meaning.specs.Calculations.Laws.{stays_in_part}
use Rattle.rpg_meaning.specs.Calculations.Meaning.{MeantOutcome, On, Over, Source, State, Stops, after_effect, at_next, calculation_done, cards_step, come_back, statement_done, gone_to, is_done, is_finished, part_has_end, with_earlier_output}
use Rattle.rpg_meaning.specs.Calculations.Parts.{InDetail, InSubroutine, InTotal, Part, calculations_in, label_position}
use Rattle.rpg_meaning.specs.Calculations.Sections.{AreOpen, return_place}
use Rattle.rpg_meaning.specs.Calculations.Translation.{IsTranslation}
use Rattle.rpg_program.specs.Object.{Object}
use Rattle.rpg_program.specs.Sections as places
use Rattle.rpg_program.specs.Sections.{first_place, is_place, level_of, place_after, section_instructions}
use Rattle.rpg_program.specs.declared.section.Place.{Place}
use Rattle.rpg_program.specs.declared.section.Section.TheVariants as sections

get_inserted : (cells : map.FinMap nat_cmp Place) (n m : ℕ) (x : Place) → m ≢ n → map.get (map.insert cells n x) m ≡ map.get cells m
get_inserted cells n m x h = map.get-insert nat_cmp_total cells n x m ∙ ap (λ b. cond b (Some x) (map.get cells m)) (unsigned_tied m n ∙ ne_eqb m n h)

get_here : (cells : map.FinMap nat_cmp Place) (n : ℕ) (x : Place) → map.get (map.insert cells n x) n ≡ Some x
get_here cells n x = map.get-insert nat_cmp_total cells n x n ∙ ap (λ b. cond b (Some x) (map.get cells n)) (unsigned_tied n n ∙ eq-eqb n n refl)

get_removed : (cells : map.FinMap nat_cmp Place) (n m : ℕ) → m ≢ n → map.get (map.remove cells n) m ≡ map.get cells m
get_removed cells n m h = map.get-remove nat_cmp_total cells n m ∙ ap (λ b. cond b None (map.get cells m)) (unsigned_tied m n ∙ ne_eqb m n h)

put_twice : (o more : Output) (x : Outcome) → put_before o (put_before more x) ≡ put_before (with_more o more) x
put_twice o more (Next c last) = λ i. Next c (record { lines = sym (append_assoc o.lines more.lines last.lines) i; records = sym (append_assoc o.records more.records last.records) i })
put_twice o more (Stop e c last) = λ i. Stop e c (record { lines = sym (append_assoc o.lines more.lines last.lines) i; records = sym (append_assoc o.records more.records last.records) i })

-- what the machine does where the cards do this
abbrev pub Does : Object → Source → (Key → ℕ) → Config → MeantOutcome → Type 0
Does p source number d (On t o) = (e : Config) × Comes p d e o × AgreeAt p source number t e × AreOpen p source.sections e.cells t.part t.back
Does p source number d (Stops k t o) = (e : Config) × ((j : ℕ) × (run p j d ≡ Stop (Halt k) e o)) × AgreeEnded p source number t e
Does p source number d Over = ⊥

module _ {p : Object} {source : Source} {number : Key → ℕ} (orderly : IsOrderly p) (is : IsTranslation p source number) where
  abbrev Agrees : State → Config → Type 0
  Agrees s d = AgreeAt p source number s d

  abbrev Did_so : Config → MeantOutcome → Type 0
  Did_so d x = Does p source number d x

  abbrev Open : map.FinMap nat_cmp Place → Part → List (Part × ℕ) → Type 0
  Open cells part back = AreOpen p source.sections cells part back

  abbrev level : Part → ℕ
  level x = level_of p (part_section source.sections x)

  -- a cell of a higher level is of no open EXSR
  other : (x : Part) (n m : ℕ) → part_section source.sections x ≡ sections.Subroutine m → level x < level_of p (sections.Subroutine n) → m ≢ n
  other x n m e l h = let a = ap (level_of p) e in let b = ap (λ k. level_of p (sections.Subroutine k)) h in absurd (omega arith)

  open_insert : (cells : map.FinMap nat_cmp Place) (n : ℕ) (to : Place) (x : Part) (back : List (Part × ℕ)) → level x < level_of p (sections.Subroutine n) → Open cells x back → Open (map.insert cells n to) x back
  open_insert cells n to x [] l o = o
  open_insert cells n to x (b ∷ bs) l (m, e, g, low, o) = (m, e, get_inserted cells n m to (other x n m e l) ∙ g, low, open_insert cells n to b.0 bs (omega arith) o)

  open_remove : (cells : map.FinMap nat_cmp Place) (n : ℕ) (x : Part) (back : List (Part × ℕ)) → level x < level_of p (sections.Subroutine n) → Open cells x back → Open (map.remove cells n) x back
  open_remove cells n x [] l o = o
  open_remove cells n x (b ∷ bs) l (m, e, g, low, o) = (m, e, get_removed cells n m (other x n m e l) ∙ g, low, open_remove cells n b.0 bs (omega arith) o)

  -- ---- statements that stay inside their part

  -- the part and what is open stay
  abbrev Stays : State → MeantOutcome → Type 0
  Stays s (On t o) = (t.part ≡ s.part) × (t.back ≡ s.back)
  Stays s (Stops k t o) = Unit {0}
  Stays s Over = Unit {0}

  ended_stays : (x : End) (s : State) (w : _) (o : Output) → Stays s (after_effect x s w o)
  ended_stays Continues s w o = (refl, refl)
  ended_stays (Halt k) s w o = tt
  ended_stays (Wrong f) s w o = tt

  goto_stays : (s : State) (n : ℕ) → Stays s (gone_to s n)
  goto_stays s n = by_side (nat_lt n s.next) (eqb s.allowance 0)
    where
      by_side : (b x : Bool) → Stays s (cond b (cond x (Stops 5 s no_output) (On (record (at_next s n) { allowance = s.allowance - 1 }) no_output)) (On (at_next s n) no_output))
      by_side true true = tt
      by_side true false = (refl, refl)
      by_side false x = (refl, refl)

  statement_stays : (s : State) (x : Statement Key) → stays_in_part x ≡ true → Stays s (statement_done source s x)
  statement_stays s (Marks l) h = (refl, refl)
  statement_stays s (Begins l) h = (refl, refl)
  statement_stays s Nothing h = (refl, refl)
  statement_stays s (Acts a) h = ended_stays _ s _ _
  statement_stays s WritesExceptions h = ended_stays _ s _ _
  statement_stays s (GoesTo l) h = goto_stays s (label_position l (calculations_in source.sections s.part))
  statement_stays s (Executes n) h = absurd cc
  statement_stays s (Ends l) h = absurd cc

  either_stays : (s : State) (b : Bool) (x : MeantOutcome) → Stays s x → Stays s (cond b x (On (at_next s (s.next + 1)) no_output))
  either_stays s true x h = h
  either_stays s false x h = (refl, refl)

  combine : (s : State) (d : Config) (x : MeantOutcome) → Open d.cells s.part s.back → Stays s x → MachineFollows p source number d x → Did_so d x
  combine s d (On t o) opened kept (e, comes, a, cells) =
      (e, comes, a, subst (λ y. Open e.cells y t.back) (sym kept.0) (subst (λ y. Open e.cells s.part y) (sym kept.1) (subst (λ y. Open y s.part s.back) (sym cells) opened)))
  combine s d (Stops k t o) opened kept (e, r, a) = (e, r, a)
  combine s d Over opened kept f = f

  -- ---- EXSR and ENDSR

  -- where its conditions fail, control is after the calculation
  passed_open : (s : State) (d : Config) (x : ℕ) → Agrees s d → Open d.cells s.part s.back → Reaches p orderly d d.place x → x ≡ place_at (first_place p (part_section source.sections s.part)) (calculations_in source.sections s.part) (s.next + 1) → Did_so d (On (at_next s (s.next + 1)) no_output)
  passed_open s d x a opened r e = combine s d (On (at_next s (s.next + 1)) no_output) opened (refl, refl) (passed orderly is s d x a r e)

  call_does : (s : State) (d : Config) (name : Option Name) (op : ℕ) → Agrees s d → Open d.cells s.part s.back → Reaches p orderly d d.place op → HasAt p orderly d op (step_code number (own_label orderly is s) (callee_of orderly is) (own orderly is s) (Executes name))
      → op + 1 ≡ place_at (first_place p (part_section source.sections s.part)) (calculations_in source.sections s.part) (s.next + 1) → Did_so d (statement_done source s (Executes name))
  unfolding step_code control instruction_effect
  call_does s d name op a opened r there next = by_left (eqb s.allowance 0) refl
    where
      q : ℕ
      q = callee name source.sections.subroutines

      b : (t : ℕ) × Comes p (at p orderly d d.place d.steps) (at p orderly d op t) no_output × IsRunnable p (at p orderly d op t)
      b = r.by d.steps a.fit

      before : Config
      before = at p orderly d op b.0

      to : Place
      to = record { section = d.section; number = op + 1 }

      left : Config
      left = record d { section = sections.Subroutine q; place = first_place p (sections.Subroutine q); cells = map.insert d.cells q to; allowance = d.allowance - 1; steps = b.0 + weight p (Call q) }

      stepped : step p before ≡ cond (eqb d.allowance 0) (Stop (Halt 5) (charged (weight p (Call q)) before) no_output) (Next left no_output)
      stepped = step_of p orderly before (Call q) (Calls q) b.2 there.0 refl

      higher : level s.part < level_of p (sections.Subroutine q)
      higher = subst (λ x. level_of p x < level_of p (sections.Subroutine q)) a.section (calls_up p orderly before q b.2 there.0)

      back : to ≡ return_place p source.sections (s.part, s.next + 1)
      back = λ i. record { section = a.section i; number = next i }

      by_left : (z : Bool) → eqb s.allowance 0 ≡ z → Did_so d (cond z (Stops 5 s no_output) (On (record s { part = InSubroutine name; next = 0; back = (s.part, s.next + 1) ∷ s.back; allowance = s.allowance - 1 }) no_output))
      by_left true z =
          let none = ap (λ n. eqb n 0) a.allowance ∙ z in
          let halted = charged (weight p (Call q)) before in
          let stop = stepped ∙ ap (λ y. cond y (Stop (Halt 5) halted no_output) (Next left no_output)) none in
          (halted, stop_after p orderly d before halted no_output 5 b.1 (one_stop p orderly before halted no_output 5 (Call q) b.2 there.0 stop), record { world = a.world; allowance = a.allowance })
      by_left false z =
          let some = ap (λ n. eqb n 0) a.allowance ∙ z in
          let on = stepped ∙ ap (λ y. cond y (Stop (Halt 5) (charged (weight p (Call q)) before) no_output) (Next left no_output)) some in (
            left,
            then_comes p d before left no_output b.1 (one_step p orderly before left no_output (Call q) b.2 there.0 on),
            record { world = a.world; allowance = ap (λ n. n - 1) a.allowance; section = refl; place = sym (place_start (first_place p (sections.Subroutine q)) (calculations_in source.sections (InSubroutine name))); fit = fit_after p orderly before left no_output b.2 on },
            (q, refl, get_here d.cells q to ∙ ap Some back, higher, open_insert d.cells q to s.part s.back higher opened),
          )

  return_does : (s : State) (d : Config) (l : Option Name) (op : ℕ) → Agrees s d → Open d.cells s.part s.back → Reaches p orderly d d.place op → HasAt p orderly d op (step_code number (own_label orderly is s) (callee_of orderly is) (own orderly is s) (Ends l))
      → Did_so d (statement_done source s (Ends l))
  unfolding step_code control instruction_effect
  return_does s d l op a opened r there = by_back s.back opened
    where
      q : ℕ
      q = own_number source.sections s.part

      b : (t : ℕ) × Comes p (at p orderly d d.place d.steps) (at p orderly d op t) no_output × IsRunnable p (at p orderly d op t)
      b = r.by d.steps a.fit

      before : Config
      before = at p orderly d op b.0

      own : part_section source.sections s.part ≡ sections.Subroutine q
      own = sym a.section ∙ returns_own p orderly before q b.2 there.0

      no_end : (x : Part) → part_section source.sections x ≡ sections.Subroutine q → part_has_end x ≡ true → ⊥
      no_end InDetail e h = cc
      no_end InTotal e h = cc
      no_end (InSubroutine n) e h = false≢true h

      by_back : (back : List (Part × ℕ)) → Open d.cells s.part back → Did_so d (come_back s back)
      by_back [] o = no_end s.part own o
      by_back (x ∷ xs) (m, e, g, low, o) =
          let same : sections.Subroutine m ≡ sections.Subroutine q = sym e ∙ own in
          let eq : m ≡ q = cc in
          let get = ap (map.get d.cells) (sym eq) ∙ g in
          let to = return_place p source.sections x in
          let left = record d { section = to.section; place = to.number; cells = map.remove d.cells q; steps = b.0 + weight p (Return q) } in
          let on = step_of p orderly before (Return q) (Returns q) b.2 there.0 refl ∙ ap (λ y. went (charged (weight p (Return q)) before) (arrived (charged (weight p (Return q)) before) (Returns q) y) (effect p (Return q) d.world)) get in
          let under = subst (λ y. level x.0 < level_of p y) own low in (
            left,
            then_comes p d before left no_output b.1 (one_step p orderly before left no_output (Return q) b.2 there.0 on),
            record { world = a.world; allowance = a.allowance; section = refl; place = refl; fit = fit_after p orderly before left no_output b.2 on },
            open_remove d.cells q x.0 xs under o,
          )

  -- ---- one calculation of any form

  calculation_does : (s : State) (d : Config) (g : Calculation Key) → slice_get (calculations_in source.sections s.part) s.next ≡ Some g → Agrees s d → Open d.cells s.part s.back → Did_so d (cards_step source s)
  unfolding cards_step
  calculation_does s d g e a opened = by_inside (stays_in_part g.statement) refl
    where
      goal : MeantOutcome → Type 0
      goal x = Did_so d x

      inside : stays_in_part g.statement ≡ true → Did_so d (cards_step source s)
      inside h =
          let kept : Stays s (cards_step source s) = subst (λ x. Stays s (calculation_done source s x)) (sym e) (either_stays s (is_done s.world.data.on g) _ (statement_stays s g.statement h)) in
          combine s d _ opened kept (calculation_follows orderly is s d g e h a)

      leaves : has_instruction g.statement ≡ true → ((op : ℕ) → Reaches p orderly d d.place op → HasAt p orderly d op (step_code number (own_label orderly is s) (callee_of orderly is) (own orderly is s) g.statement)
          → op + 1 ≡ place_at (first_place p (part_section source.sections s.part)) (calculations_in source.sections s.part) (s.next + 1) → Did_so d (statement_done source s g.statement)) → Did_so d (cards_step source s)
      leaves m does =
          let x = reached orderly is s d g a e m in
          subst (λ o. Did_so d (calculation_done source s o)) (sym e) (by_done x (is_done s.world.data.on g) refl)
        where
          by_done : IsReached orderly is s d g → (b : Bool) → is_done s.world.data.on g ≡ b → Did_so d (cond b (statement_done source s g.statement) (On (at_next s (s.next + 1)) no_output))
          by_done x true h = does x.op (subst (λ b. Reaches p orderly d d.place (cond b x.op (x.op + 1))) (ap (λ on. is_done on g) a.world.data.on ∙ h) x.reaches) x.code x.next
          by_done x false h = passed_open s d (x.op + 1) a opened (subst (λ b. Reaches p orderly d d.place (cond b x.op (x.op + 1))) (ap (λ on. is_done on g) a.world.data.on ∙ h) x.reaches) x.next

      by_statement : (x : Statement Key) → g.statement ≡ x → stays_in_part x ≡ false → Did_so d (cards_step source s)
      by_statement (Marks l) f h = absurd cc
      by_statement (Begins l) f h = absurd cc
      by_statement Nothing f h = absurd cc
      by_statement (Acts y) f h = absurd cc
      by_statement WritesExceptions f h = absurd cc
      by_statement (GoesTo l) f h = absurd cc
      by_statement (Executes n) f h = leaves (ap has_instruction f) (λ op r code next. subst (λ x. Did_so d (statement_done source s x)) (sym f)
          (call_does s d n op a opened r (subst (λ x. HasAt p orderly d op (step_code number (own_label orderly is s) (callee_of orderly is) (own orderly is s) x)) f code) next))
      by_statement (Ends l) f h = leaves (ap has_instruction f) (λ op r code next. subst (λ x. Did_so d (statement_done source s x)) (sym f)
          (return_does s d l op a opened r (subst (λ x. HasAt p orderly d op (step_code number (own_label orderly is s) (callee_of orderly is) (own orderly is s) x)) f code)))

      by_inside : (b : Bool) → stays_in_part g.statement ≡ b → Did_so d (cards_step source s)
      by_inside true h = inside h
      by_inside false h = by_statement g.statement refl h

  -- ---- where no calculation is left

  past : (gs : List (Calculation Key)) (place n : ℕ) → length gs ≤ n → place_at place gs n ≡ place + sizes gs
  past [] place n h = omega arith
  past (g ∷ gs) place zero h = absurd (omega arith)
  past (g ∷ gs) place (suc n) h = let r = past gs (place + size g) n (omega arith) in omega arith

  at_the_end : (s : State) (d : Config) → Agrees s d → length (calculations_in source.sections s.part) ≤ s.next → d.place ≡ place_after p d.section
  unfolding place_after
  at_the_end s d a h =
      let gs = calculations_in source.sections s.part in
      let first = first_place p (part_section source.sections s.part) in
      let code = ap length (code_of_part number is.level source.sections p is.code s.part) ∙ section_length number is.level source.sections p (own_number source.sections s.part) first gs in
      a.place ∙ past gs first s.next h ∙ ap (λ n. first + n) (sym code) ∙ ap (λ x. first_place p x + length (section_instructions p x)) (sym a.section)

  none_left : (gs : List (Calculation Key)) (n : ℕ) → slice_get gs n ≡ None → length gs ≤ n
  none_left [] n h = omega arith
  none_left (g ∷ gs) zero h = absurd cc
  none_left (g ∷ gs) (suc n) h = let r = none_left gs n h in omega arith

  -- a subroutine has no end
  no_way_out : (x n : ℕ) (m : ℕ) → n ≡ m → ((nat_le x n) && (nat_lt n m || false)) ≡ true → ⊥
  no_way_out x n m e h = absurd (omega (arith, ltb-true _ _ (second (nat_le x n) (nat_lt n m) h)))
    where
      second : (a b : Bool) → (a && (b || false)) ≡ true → b ≡ true
      second true true h = refl
      second true false h = cc
      second false b h = cc

  step_does : (s : State) (d : Config) → is_finished source.sections s ≡ false → Agrees s d → Open d.cells s.part s.back → Did_so d (cards_step source s)
  unfolding cards_step is_place
  step_does s d more a opened = by_group (slice_get (calculations_in source.sections s.part) s.next) refl
    where
      missing : length (calculations_in source.sections s.part) ≤ s.next → (back : List (Part × ℕ)) → Open d.cells s.part back → ⊥
      missing low [] o = false≢true (sym more ∙ ap (λ b. b && nat_le (length (calculations_in source.sections s.part)) s.next) o ∙ le-leb (length (calculations_in source.sections s.part)) s.next low)
      missing low (x ∷ xs) (m, e, g, l, o) =
          let sub : d.section ≡ sections.Subroutine m = a.section ∙ e in
          let there = a.fit.0.place in
          let end = at_the_end s d a low in
          no_way_out (first_place p d.section) d.place (place_after p d.section) end
          (subst (λ y. (nat_le (first_place p d.section) d.place && (nat_lt d.place (place_after p d.section) || (places.has_end y && d.place == place_after p d.section))) ≡ true) sub there)

      by_group : (o : Option (Calculation Key)) → slice_get (calculations_in source.sections s.part) s.next ≡ o → Did_so d (cards_step source s)
      by_group None e = absurd (missing (none_left (calculations_in source.sections s.part) s.next e) s.back opened)
      by_group (Some g) e = calculation_does s d g e a opened

  -- ---- whole sections

  reported : (d e : Config) (o : Output) (x : MeantOutcome) → Comes p d e o → Did_so e x → Did_so d (with_earlier_output o x)
  reported d e o (On t more) comes (f, y, a, opened) =
      (f, record { by = λ k. let b = y.by k in let z = comes.by b.0 in (z.0, z.1 ∙ ap (put_before o) b.1 ∙ put_twice o more (run p k f)) }, a, opened)
  reported d e o (Stops k t more) comes (f, r, a) = let z = comes.by r.0 in (f, (z.0, z.1 ∙ ap (put_before o) r.1), a)
  reported d e o Over comes f = f

  -- whatever the cards come to, the section comes to
  pub section_does : (n : ℕ) (s : State) (d : Config) → Agrees s d → Open d.cells s.part s.back → Did_so d (cards_run source n s)
  section_does zero s d a opened = (d, stays p d, a, opened)
  section_does (suc n) s d a opened = by_end (is_finished source.sections s) refl (λ t e b o. section_does n t e b o)
    where
      rest : (x : MeantOutcome) → ((t : State) (e : Config) → Agrees t e → Open e.cells t.part t.back → Did_so e (cards_run source n t)) → Did_so d x → Did_so d (followed x (cards_run source n))
      rest (On t o) go (e, comes, b, still) = reported d e o (cards_run source n t) comes (go t e b still)
      rest (Stops k t o) go h = h
      rest Over go h = h

      by_end : (b : Bool) → is_finished source.sections s ≡ b → ((t : State) (e : Config) → Agrees t e → Open e.cells t.part t.back → Did_so e (cards_run source n t))
          → Did_so d (cond b (On s no_output) (followed (cards_step source s) (cards_run source n)))
      by_end true f go = (d, stays p d, a, opened)
      by_end false f go = rest (cards_step source s) go (step_does s d f a opened)

  -- the section ends where the cards end, and then all agree
  pub section_ends : (n : ℕ) (s t : State) (o : Output) (d : Config) → Agrees s d → Open d.cells s.part s.back → cards_run source n s ≡ On t o → is_finished source.sections t ≡ true
      → (e : Config) × ((j : ℕ) × (run p j d ≡ Stop Continues e o)) × Agrees t e
  section_ends n s t o d a opened ran finished =
      let x = subst (Did_so d) ran (section_does n s d a opened) in
      let r = x.1.by 1 in
      (x.0, (r.0, r.1 ∙ ap (put_before o) (ended_there x.0 x.2) ∙ nothing o), x.2)
    where
      nothing : {e : Config} (o : Output) → put_before o (Stop Continues e no_output) ≡ Stop Continues e o
      nothing {e} o = λ i. Stop Continues e (record { lines = nil o.lines i; records = nil o.records i })
        where
          nil : {A : Type 0} (xs : List A) → xs ++ [] ≡ xs
          nil [] = refl
          nil (y ∷ ys) = ap (λ z. y ∷ z) (nil ys)

      parts : (x y : Bool) → (x && y) ≡ true → (x ≡ true) × (y ≡ true)
      parts true y h = (refl, h)
      parts false y h = cc

      same_end : (x : Part) → part_has_end x ≡ true → places.has_end (part_section source.sections x) ≡ true
      same_end InDetail h = refl
      same_end InTotal h = refl
      same_end (InSubroutine m) h = absurd (false≢true h)

      ended_there : (e : Config) → Agrees t e → run p 1 e ≡ Stop Continues e no_output
      ended_there e b =
          let q = parts (part_has_end t.part) _ finished in
          let low : length (calculations_in source.sections t.part) ≤ t.next = omega (arith, leb-true _ _ q.1) in
          let end = at_the_end t e b low in
          let has : places.has_end e.section ≡ true = ap places.has_end b.section ∙ same_end t.part q.0 in
          ap (λ b. cond b (Stop Continues e no_output) (onward (step p e) (run p 0))) (ap (λ b. b && eqb e.place (place_after p e.section)) has ∙ eq-eqb e.place (place_after p e.section) end)
