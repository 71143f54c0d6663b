-- A cycle of an accepted program, phase by phase.
use Rattle.std.proofs.Common.{All, ◌≡◌, ℕ, ◌+◌, ◌*◌, Bool, true, false, ◌||◌, cond, List, length, Option, None, Some, is_none, is_some, refl, sym, ◌∙◌, subst, arith}
use Rattle.std.specs.FinMap as map
use Rattle.rpg_cycle.proofs.OneRun.{cycle_fixed}
use Rattle.rpg_cycle.proofs.Spending.{within_bound}
use Rattle.rpg_cycle_records.specs.Earlier.{Left, Selected, left_by}
use Rattle.rpg_cycle_records.specs.Waiting.{Inputs, chosen, has_match, takes_in, waiting_in}
use Rattle.rpg_cycle.specs.Ends.{PhaseEnd, Continues, EndOfJob, Halt, phase_end}
use Rattle.rpg_cycle.specs.Indicators.{any_on, halt_indicators, is_on, last_record, level_indicators, matching_record, with_all, with_one}
use Rattle.rpg_cycle.specs.Phases.{Cycle, CycleOn, Done, Phase, UnderWay, all_off, begun, detail_calculations, detail_lines, without_output, done, either, end_where_last, fill_fields, halt_if_indicated, if_selected, is_bypassed, output, overflow_lines, read_record, section, select_from, select_one, select_record, set_off, show_match, take_in, total_time, with_config, ◌before◌}
use Rattle.rpg_cycle.specs.Staging.{after_selection}
use Rattle.rpg_cycle.specs.Spending.{section_cost}
use Rattle.rpg_program.specs.Ends as effects
use Rattle.rpg_program.specs.Forms.{form_at}
use Rattle.rpg_program.specs.Ended.{on_data}
use Rattle.rpg_program.specs.Input.{input_fault, record_in}
use Rattle.rpg_program.specs.declared.input.InputFile.{InputFile}
use Rattle.rpg_program.specs.declared.input.InputFile.TheVariants.{Primary, Secondary}
use Rattle.rpg_cycle_safety.proofs.Accepting.{inputs_right}
use Rattle.rpg_cycle_safety.proofs.Filling.{record_keeps}
use Rattle.rpg_cycle_safety.proofs.Instructing.{output_keeps}
use Rattle.rpg_cycle_safety.proofs.Running as sections_run
use Rattle.rpg_cycle_safety.specs.Holding.{Holds}
use Rattle.rpg_cycle_safety.specs.Leading as leading
use Rattle.rpg_machine.specs.Accepted.{IsOrderly}
use Rattle.rpg_machine.specs.Config.{Config, Output, no_output}
use Rattle.rpg_machine.specs.Outputs.{Outputs, inputs_at, output_effect, output_weight}
use Rattle.rpg_machine.specs.Run.{RunsTo}
use Rattle.rpg_machine.specs.declared.time.OutputTime.{OutputTime}
use Rattle.rpg_machine.specs.declared.time.OutputTime.TheVariants as times
use Rattle.rpg_program.specs.Object.{Object}
use Rattle.rpg_program.specs.Sections.{has_end}
use Rattle.rpg_program.specs.declared.section.Section.{Section}
use Rattle.rpg_program.specs.declared.section.Section.TheVariants as sections
use Rattle.rpg_cycle_safety.proofs.Selecting.{Picks, levels_alone, selects, takes}
use Rattle.rpg_cycle_safety.proofs.Turning.{off_still, one_still, still_holds, still_reach}
use Rattle.rpg_cycle_safety.proofs.Weighing.{all_weights, moving_weight, taking_weight}
use Rattle.rpg_cycle_safety.proofs.Writing.{on_data_keeps}
use Rattle.rpg_cycle_safety.proofs.Working.{Acted, Comes, Outcome, Owed, Ready, Works, both, does_work, effect_acts, ends, goes, going, its_fields, machine_works, nothing, overflow_works, unless_works}
use Rattle.rpg_cycle_safety.specs.Coming.{CyclesWell, HasCycle, IsCycleEnd}
use Rattle.rpg_cycle_safety.specs.Waiting.{AreWaiting}
use Rattle.rpg_verify.specs.Bound.{most}

module _ (p : Object) (orderly : IsOrderly p) where
  -- ---- phases

  output_works : (time : OutputTime) (x : Owed) → Works p (output p time) x x (output_weight p time)
  output_works time x =
      machine_works p (Outputs p time) x (output_weight p time)
      (λ c h none. effect_acts p (output_weight p time) (output_effect p time) c (output_keeps p orderly.program orderly.sound time c.world h) none)

  named_end : (e : effects.End) → leading.IsNamedEnd e → IsCycleEnd (phase_end e)
  named_end effects.Continues h = tt
  named_end (effects.Halt k) h = (h.0, omega (arith, h.1))
  named_end (effects.Wrong f) h = absurd h

  abbrev owing : Owed
  owing s = its_fields p s

  section_acts : (s : Section) (c : Config) → has_end s ≡ true → Holds p c.world.data → c.cells ≡ map.empty → Acted p (RunsTo p s) (section_cost p s) c
  section_acts s c ended h none =
      let run = sections_run.has_run p orderly s c ended none h in
      let bound = run.ends.bound in
      record {
        last = run.ending;
        leads = run.last;
        output = run.output;
        act = run.runs;
        named = named_end run.ending run.ends.ending;
        values = run.ends.values;
        no_cell = run.ends.no_cell;
        few = omega (arith, bound);
      }

  section_works : (s : Section) (x : Owed) → has_end s ≡ true → Works p (section p s) x x (section_cost p s)
  section_works s x ended = machine_works p (RunsTo p s) x (section_cost p s) (λ c h none. section_acts s c ended h none)

  -- a step of phase 4
  picked : (a n : ℕ) (c : UnderWay) (d : Done) → Ready p owing n c → Picks p a c d → Comes p owing (n + a) d.end d.leads
  picked a n c d r k =
      let grown = still_reach p k.weight c.config d.leads.config k.still in
      let paid = k.few in
      let few = r.few in
      record {
        named = k.named;
        values = still_holds p k.weight c.config d.leads.config k.still r.values;
        waiting = k.waiting;
        few = omega (arith, grown, paid, few);
        ready = λ is. record {
          values = still_holds p k.weight c.config d.leads.config k.still r.values;
          no_cell = k.still.cells ∙ r.no_cell;
          waiting = k.waiting;
          taken = k.taken;
          few = omega (arith, grown, paid, few);
        };
      }

  taking_works : (left : Left) (f : InputFile) (next : Option (List ℕ)) → Works p (take_in p left f next) owing owing (taking_weight f p.types)
  taking_works left f next =
      does_work p (λ c. cond (takes_in p c.inputs f) (read_record p left f next c) (done Continues c)) owing owing (taking_weight f p.types)
      (λ n c r. picked (taking_weight f p.types) n c (cond (takes_in p c.inputs f) (read_record p left f next c) (done Continues c)) r (takes p orderly left f c r.waiting r.taken next))

  selecting_works : (left : Left) → Works p (select_one p left) owing owing (moving_weight p.types)
  selecting_works left =
      does_work p (λ c. select_from p left (chosen p left (waiting_in c.inputs Primary) (waiting_in c.inputs Secondary)) c) owing owing (moving_weight p.types)
      (λ n c r. let o = chosen p left (waiting_in c.inputs Primary) (waiting_in c.inputs Secondary) in
      picked (moving_weight p.types) n c (select_from p left o c) r (selects p orderly left c r.waiting r.taken o))

  abbrev selection_weight : ℕ
  selection_weight = taking_weight Primary p.types + (taking_weight Secondary p.types + moving_weight p.types)

  abbrev taking_both : Left → Option (List ℕ) → Option (List ℕ) → Phase
  taking_both left primary secondary = take_in p left Primary primary before take_in p left Secondary secondary before select_one p left

  selected_by : (left : Left) (primary secondary : Option (List ℕ)) (b : Bool) →
      Works p (either b (without_output (λ c. done Continues (with_config (with_all level_indicators true) c))) (taking_both left primary secondary)) owing owing selection_weight
  selected_by left primary secondary true =
      does_work p (λ c. done Continues (with_config (with_all level_indicators true) c)) owing owing selection_weight
      (λ n c r. picked selection_weight n c (done Continues (with_config (with_all level_indicators true) c)) r (levels_alone p selection_weight c r.waiting r.taken))
  selected_by left primary secondary false =
      both p (take_in p left Primary primary) (take_in p left Secondary secondary before select_one p left) owing owing owing (taking_weight Primary p.types)
      (taking_weight Secondary p.types + moving_weight p.types) (taking_works left Primary primary)
      (both p (take_in p left Secondary secondary) (select_one p left) owing owing owing (taking_weight Secondary p.types) (moving_weight p.types)
      (taking_works left Secondary secondary) (selecting_works left))

  selection_works : (left : Left) (primary secondary : Option (List ℕ)) → Works p (select_record p left primary secondary) owing owing selection_weight
  selection_works left primary secondary n c r =
      let o = selected_by left primary secondary (is_on c.config last_record) n c r in
      record { ending = o.ending; leads = o.leads; output = o.output; phase = o.phase; comes = o.comes }

  -- ---- the other phases

  halt_by : (b : Bool) (x : Owed) (n : ℕ) (c : UnderWay) → Ready p x n c → Comes p x n (cond b (Halt 6) Continues) c
  halt_by true x n c r = let few = r.few in ends p x n (Halt 6) c (omega arith, omega arith) (λ is. cc) r.values r.waiting (omega (arith, few))
  halt_by false x n c r = goes p x n c r

  same_limit : (x : Owed) (n : ℕ) (c : UnderWay) → Ready p x n c → Ready p x (n + 0) c
  same_limit x n c r = let few = r.few in record { values = r.values; no_cell = r.no_cell; waiting = r.waiting; taken = r.taken; few = omega (arith, few) }

  halting_works : (x : Owed) → Works p halt_if_indicated x x 0
  halting_works x = does_work p _ x x 0 (λ n c r. halt_by (any_on c.config halt_indicators) x (n + 0) c (same_limit x n c r))

  off_works : (x : Owed) → Works p (set_off p) x x 0
  off_works x =
      does_work p _ x x 0
      (λ n c r.
      let still = off_still p c.config in
      let grown = still_reach p 0 c.config (all_off p c.config) still in
      let few = r.few in
      goes p x (n + 0) (with_config (all_off p) c)
      (record { values = still_holds p 0 c.config (all_off p c.config) still r.values; no_cell = still.cells ∙ r.no_cell; waiting = r.waiting; taken = r.taken; few = omega (arith, grown, few) }))

  end_by : (b : Bool) (x : Owed) (n : ℕ) (c : UnderWay) → Ready p x n c → Comes p x n (cond b EndOfJob Continues) c
  end_by true x n c r = let few = r.few in ends p x n EndOfJob c tt (λ is. cc) r.values r.waiting (omega (arith, few))
  end_by false x n c r = goes p x n c r

  ending_works : (x : Owed) → Works p end_where_last x x 0
  ending_works x = does_work p _ x x 0 (λ n c r. end_by (is_on c.config last_record || is_none c.selected) x (n + 0) c (same_limit x n c r))

  totals_work : (left : Left) (x : Owed) → Works p (total_time p left) x x (section_cost p sections.Total + output_weight p times.Total)
  totals_work left x =
      unless_works p (is_bypassed p left.any left.control) (section p sections.Total before output p times.Total) x (section_cost p sections.Total + output_weight p times.Total)
      (both p (section p sections.Total) (output p times.Total) x x x (section_cost p sections.Total) (output_weight p times.Total) (section_works sections.Total x refl) (output_works times.Total x))

  -- MR is set
  showing_works : (matches : Inputs → Selected → Bool) (x : Owed) → Works p (show_match matches) x x 0
  showing_works matches x =
      does_work p _ x x 0
      (λ n c r.
      let on = if_selected (matches c.inputs) c.selected in
      let still = one_still matching_record on c.config in
      let grown = still_reach p 0 c.config (with_one matching_record on c.config) still in
      let few = r.few in
      goes p x (n + 0) (with_config (with_one matching_record on) c)
      (record { values = still_holds p 0 c.config (with_one matching_record on c.config) still r.values; no_cell = r.no_cell; waiting = r.waiting; taken = r.taken; few = omega (arith, grown, few) }))

  filled_at : (config : Config) (i : Inputs) (s : Option Selected) (n : ℕ) → Ready p owing n (record { config = config; inputs = i; selected = s }) →
      Outcome p (fill_fields p) nothing (n + 0) (record { config = config; inputs = i; selected = s })
  filled_at config i None n r =
      let few = r.few in
      let there : UnderWay = record { config = config; inputs = i; selected = None } in
      record {
        ending = Continues;
        leads = there;
        output = no_output;
        phase = (refl, refl, refl);
        comes = goes p nothing (n + 0) there (record { values = r.values; no_cell = r.no_cell; waiting = r.waiting; taken = tt; few = omega (arith, few) });
      }
  filled_at config i (Some s) n r =
      let inputs = inputs_at p s.type in
      let right = subst (λ (len : ℕ). All (λ f. input_fault (form_at p.fields) len f ≡ None) inputs) (sym r.taken.long) (inputs_right p s.type orderly.sound) in
      let keeps = record_keeps p orderly.forms s.text inputs config.world.data right r.taken.characters r.values in
      let o = effect_acts p (length inputs) (on_data (record_in (form_at p.fields) s.text inputs)) config (on_data_keeps p (record_in (form_at p.fields) s.text inputs) config.world keeps) r.no_cell in
      let grown = o.few in
      let few = r.few in
      record {
        ending = phase_end o.last;
        leads = record { config = o.leads; inputs = i; selected = Some s };
        output = o.output;
        phase = (o.last, o.act, refl, refl, refl);
        comes = record {
          named = o.named;
          values = o.values;
          waiting = r.waiting;
          few = omega (arith, grown, few);
          ready = λ is. record { values = o.values; no_cell = o.no_cell (going p o.last is); waiting = r.waiting; taken = r.taken; few = omega (arith, grown, few) };
        };
      }

  filling_works : Works p (fill_fields p) owing nothing 0
  filling_works n c r = filled_at c.config c.inputs c.selected n r

  -- ---- one after another

  abbrev after_match : Phase
  after_match = fill_fields p before detail_calculations p

  abbrev overflow_lines_weight : ℕ
  overflow_lines_weight = cond (is_some p.overflow.indicator) (output_weight p times.Overflow) 0

  abbrev totals : ℕ
  totals = section_cost p sections.Total + output_weight p times.Total

  abbrev late : ℕ
  late = overflow_lines_weight + (0 + (0 + section_cost p sections.Detail))

  module _ (left : Left) (matches : Inputs → Selected → Bool) (primary secondary : Option (List ℕ)) where
    abbrev from_overflow : Phase
    from_overflow = overflow_lines p before show_match matches before after_match

    abbrev from_selection : Phase
    from_selection = select_record p left primary secondary before after_selection p left matches

    late_work : Works p (end_where_last before from_overflow) owing nothing (0 + late)
    late_work =
        both p end_where_last from_overflow owing owing nothing 0 late (ending_works owing)
        (both p (overflow_lines p) (show_match matches before after_match) owing owing nothing overflow_lines_weight (0 + (0 + section_cost p sections.Detail))
        (overflow_works p p.overflow.indicator (output p times.Overflow) owing (output_weight p times.Overflow) (output_works times.Overflow owing))
        (both p (show_match matches) after_match owing owing nothing 0 (0 + section_cost p sections.Detail) (showing_works matches owing)
        (both p (fill_fields p) (detail_calculations p) owing nothing nothing 0 (section_cost p sections.Detail) filling_works (section_works sections.Detail nothing refl))))

    middle_works : Works p from_selection owing nothing (selection_weight + (totals + (0 + late)))
    middle_works =
        both p (select_record p left primary secondary) (after_selection p left matches) owing owing nothing selection_weight (totals + (0 + late)) (selection_works left primary secondary)
        (both p (total_time p left) (end_where_last before from_overflow) owing owing nothing totals (0 + late) (totals_work left owing) late_work)

    cycle_works : Works p (CycleOn p left matches primary secondary) owing nothing (output_weight p times.Detail + (0 + (0 + (selection_weight + (totals + (0 + late))))))
    cycle_works =
        both p (detail_lines p) (halt_if_indicated before set_off p before from_selection) owing owing nothing (output_weight p times.Detail) (0 + (0 + (selection_weight + (totals + (0 + late)))))
        (output_works times.Detail owing)
        (both p halt_if_indicated (set_off p before from_selection) owing owing nothing 0 (0 + (selection_weight + (totals + (0 + late)))) (halting_works owing)
        (both p (set_off p) from_selection owing owing nothing 0 (selection_weight + (totals + (0 + late))) (off_works owing) middle_works))

  -- ---- cycles

  -- there is a cycle, from any configuration whose values are what they are to be, in which no subroutine runs and whose waiting records are well kept
  pub has_cycle : (earlier : List Selected) (primary secondary : Option (List ℕ)) (c : Config) (i : Inputs) → Holds p c.world.data → c.cells ≡ map.empty → AreWaiting p i →
      HasCycle p earlier primary secondary c i
  has_cycle earlier primary secondary c i h none waiting =
      let start : Ready p owing (p.allowance * most p) (begun p c i) = record { values = h; no_cell = none; waiting = waiting; taken = tt; few = omega arith } in
      let o = cycle_works (left_by p earlier) (has_match p earlier) primary secondary (p.allowance * most p) (begun p c i) start in
      let few = o.comes.few in
      let within = within_bound p in
      let weights = all_weights p.types in
      record {
        ending = o.ending;
        last = o.leads;
        output = o.output;
        cycle = o.phase;
        well = record { ending = o.comes.named; values = o.comes.values; no_cell = λ is. (o.comes.ready is).no_cell; waiting = o.comes.waiting; few = omega (arith, few, within, weights) };
      }

  -- and each cycle is that one
  pub cycles_well : (earlier : List Selected) (primary secondary : Option (List ℕ)) (c : Config) (i : Inputs) (e : PhaseEnd) (d : UnderWay) (out : Output) → Holds p c.world.data →
      c.cells ≡ map.empty → AreWaiting p i → Cycle p earlier primary secondary (begun p c i) e d out → CyclesWell p e d
  cycles_well earlier primary secondary c i e d out h none waiting cycle =
      let one = has_cycle earlier primary secondary c i h none waiting in
      let same = (cycle_fixed p (left_by p earlier) (has_match p earlier) primary secondary).same (begun p c i) one.ending e one.last d one.output out one.cycle cycle in
      subst (λ (x : PhaseEnd). CyclesWell p x d) same.end (subst (λ (x : UnderWay). CyclesWell p one.ending x) same.there one.well)
