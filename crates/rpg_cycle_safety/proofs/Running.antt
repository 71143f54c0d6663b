-- A section of an accepted program has a run, which comes to its end or to a halt.
use Rattle.std.proofs.Common.{◌≡◌, ℕ, zero, suc, ◌+◌, ◌*◌, ◌-◌, ◌<◌, ◌≤◌, Bool, true, false, cond, [], refl, ap, ◌∙◌, subst, arith, le_trans}
use Rattle.std.specs.FinMap as map
use Rattle.rpg_program.specs.Ends.{End, Continues, Halt, Wrong}
use Rattle.rpg_cycle_safety.proofs.Stepping.{leads_well}
use Rattle.rpg_cycle_safety.specs.Holding.{Holds}
use Rattle.rpg_cycle_safety.specs.Leading.{EndsWell, HasSectionRun, IsNamedEnd, IsSteady, StepsWell, StandsWell}
use Rattle.rpg_machine.proofs.Bounds.{halts_low, safe_and_bounded}
use Rattle.rpg_machine.proofs.OneRun.{runs_are_one}
use Rattle.rpg_machine.proofs.Ranges.{in_code}
use Rattle.rpg_machine.proofs.Safe.{none_set}
use Rattle.rpg_machine.proofs.Starting.{first_is_place}
use Rattle.rpg_machine.proofs.Steps.{halted, made}
use Rattle.rpg_machine.proofs.Work.{less_work}
use Rattle.rpg_machine.specs.Accepted.{IsOrderly, work_left}
use Rattle.rpg_machine.specs.Chain.{IsSafe}
use Rattle.rpg_machine.specs.Config.{Config, Output, no_output, with_more}
use Rattle.rpg_machine.specs.Control.{spends}
use Rattle.rpg_machine.specs.Potential.{potential}
use Rattle.rpg_machine.specs.Run.{RunsTo, at_first, is_end, onward, put_before, run}
use Rattle.rpg_machine.specs.Step.{Outcome, Next, Stop, control_in, step}
use Rattle.rpg_program.specs.Object.{Object}
use Rattle.rpg_program.specs.Sections.{has_end}
use Rattle.rpg_program.specs.declared.section.Section.{Section}
use Rattle.rpg_verify.specs.Bound.{cost, most}

-- ---- from any steady configuration

-- where a run of so many steps stops, and what it comes to, paid by what could come at first
record Stops (p : Object) (c : Config) (safe : IsSafe p c) (enough : ℕ) : Type 0 where
  pub ending : End
  pub last : Config
  pub output : Output
  pub runs : run p enough c ≡ Stop ending last output
  pub named : IsNamedEnd ending
  pub values : Holds p last.world.data
  pub no_cell : ending ≡ Continues → last.cells ≡ map.empty
  pub spent : last.allowance ≤ c.allowance
  pub bound : last.steps + last.allowance * most p ≤ potential (cost p) (most p) c safe.cells

module _ (p : Object) (orderly : IsOrderly p) where
  run_once : (n : ℕ) (c : Config) (b : Bool) (x : Outcome) → is_end p c ≡ b → step p c ≡ x → run p (suc n) c ≡ cond b (Stop Continues c no_output) (onward x (run p n))
  run_once n c b x e s = rw (e, s) refl

  at_end : (n : ℕ) (c : Config) (safe : IsSafe p c) → Holds p c.world.data → is_end p c ≡ true → Stops p c safe (suc n)
  at_end n c safe h e = record {
    ending = Continues;
    last = c;
    output = no_output;
    runs = run_once n c true (step p c) e refl;
    named = tt;
    values = h;
    no_cell = λ _. none_set p c safe e;
    spent = omega arith;
    bound = omega arith;
  }

  allowed : (b : Bool) (a : ℕ) → cond b (a - 1) a ≤ a
  allowed true a = omega arith
  allowed false a = omega arith

  -- a step buys nothing back
  step_spends : (c d : Config) (o : Output) → step p c ≡ Next d o → d.allowance ≤ c.allowance
  step_spends c d o s =
      let m = made p c d o s in
      let left : d.allowance ≡ cond (spends (control_in c m.instruction)) (c.allowance - 1) c.allowance = ap (λ (x : Config). x.allowance) m.is in
      let low = allowed (spends (control_in c m.instruction)) c.allowance in
      omega (arith, left, low)

  -- each steady configuration from which there is less work has such a run
  abbrev RunsFrom : ℕ → Type 0
  RunsFrom n = (c : Config) (safe : IsSafe p c) → Holds p c.world.data → work_left p c < n → Stops p c safe n

  by_step : (n : ℕ) → RunsFrom n → (c : Config) (safe : IsSafe p c) → work_left p c < suc n → is_end p c ≡ false → (x : Outcome) → step p c ≡ x →
      StepsWell p x → Stops p c safe (suc n)
  by_step n next c safe l e (Next d o) s valid =
      let both = safe_and_bounded p c d o orderly safe s in
      let less = less_work p c d o (in_code p c orderly safe.place e) s in
      let more = next d both.0 valid.values (omega (arith, less, l)) in
      let falls = both.1 (cost p) (most p) orderly.costs in
      let spent = step_spends c d o s in
      record {
        ending = more.ending;
        last = more.last;
        output = with_more o more.output;
        runs = run_once n c false (Next d o) e s ∙ ap (put_before o) more.runs;
        named = more.named;
        values = more.values;
        no_cell = more.no_cell;
        spent = le_trans more.spent spent;
        bound = le_trans more.bound falls;
      }
  by_step n next c safe l e (Stop Continues d o) s valid = absurd valid
  by_step n next c safe l e (Stop (Wrong f) d o) s valid = absurd valid
  by_step n next c safe l e (Stop (Halt k) d o) s valid = record {
    ending = Halt k;
    last = d;
    output = o;
    runs = run_once n c false (Stop (Halt k) d o) e s;
    named = valid.0;
    values = valid.1.values;
    no_cell = λ is. cc;
    spent = let same = (halted p c d k o s).allowance in omega (arith, same);
    bound = halts_low p c d k o safe s (cost p) (most p) orderly.costs;
  }

  by_test : (n : ℕ) → RunsFrom n → (c : Config) (safe : IsSafe p c) → Holds p c.world.data → work_left p c < suc n → (b : Bool) → is_end p c ≡ b → Stops p c safe (suc n)
  by_test n next c safe h l true e = at_end n c safe h e
  by_test n next c safe h l false e = by_step n next c safe l e (step p c) refl (leads_well p orderly c (record { values = h; control = safe }) e)

  stops : (n : ℕ) → RunsFrom n
  stops zero c safe h l = absurd (omega (arith, l))
  stops (suc n) c safe h l = by_test n (stops n) c safe h l (is_end p c) refl

  -- ---- from a section's first place

  -- a section has a run, from any configuration whose values are what they are to be and in which no subroutine runs
  pub has_run : (section : Section) (c : Config) → has_end section ≡ true → c.cells ≡ map.empty → Holds p c.world.data → HasSectionRun p section c
  has_run section c ended none h =
      let first = at_first p section c in
      let safe : IsSafe p first = record { place = first_is_place p section ended; cells = []; chain = (ended, none) } in
      let enough = suc (work_left p first) in
      let s = stops enough first safe h (omega arith) in
      let bound = s.bound in
      record {
        ending = s.ending;
        last = s.last;
        output = s.output;
        runs = record { enough = enough; run = s.runs };
        ends = record { ending = s.named; values = s.values; no_cell = s.no_cell; spent = s.spent; bound = omega (arith, bound) };
      }

  -- and so ends each of its runs
  pub ends_well : (section : Section) (c : Config) (e : End) (d : Config) (o : Output) → has_end section ≡ true → c.cells ≡ map.empty →
      Holds p c.world.data → RunsTo p section c e d o → EndsWell p section c e d
  ends_well section c e d o ended none h run =
      let one = has_run section c ended none h in
      let same = runs_are_one p section c one.ending e one.last d one.output o one.runs run in
      subst (λ (x : End). EndsWell p section c x d) same.0 (subst (λ (x : Config). EndsWell p section c one.ending x) same.1 one.ends)

  -- ---- on the way

  put_well : (o : Output) (x : Outcome) → StandsWell p x → StandsWell p (put_before o x)
  put_well o (Next d more) h = h
  put_well o (Stop Continues d more) h = h
  put_well o (Stop (Halt k) d more) h = h
  put_well o (Stop (Wrong f) d more) h = absurd h

  onward_well : (x : Outcome) (go : Config → Outcome) → StepsWell p x → ((d : Config) → IsSteady p d → StandsWell p (go d)) → StandsWell p (onward x go)
  onward_well (Next d o) go h next = put_well o (go d) (next d h)
  onward_well (Stop Continues d o) go h next = absurd h
  onward_well (Stop (Halt k) d o) go h next = h
  onward_well (Stop (Wrong f) d o) go h next = absurd h

  one_more : (n : ℕ) (c : Config) (b : Bool) → ((d : Config) → IsSteady p d → StandsWell p (run p n d)) → is_end p c ≡ b → IsSteady p c →
      StandsWell p (cond b (Stop Continues c no_output) (onward (step p c) (run p n)))
  one_more n c true next e h = (h, e)
  one_more n c false next e h = onward_well (step p c) (run p n) (leads_well p orderly c h e) next

  all_the_way : (n : ℕ) (c : Config) → IsSteady p c → StandsWell p (run p n c)
  all_the_way zero c h = h
  all_the_way (suc n) c h = one_more n c (is_end p c) (all_the_way n) refl h

  -- after any number of steps
  pub stands_well : (section : Section) (n : ℕ) (c : Config) → has_end section ≡ true → c.cells ≡ map.empty → Holds p c.world.data → StandsWell p (run p n (at_first p section c))
  stands_well section n c ended none h =
      all_the_way n (at_first p section c) (record { values = h; control = record { place = first_is_place p section ended; cells = []; chain = (ended, none) } })
