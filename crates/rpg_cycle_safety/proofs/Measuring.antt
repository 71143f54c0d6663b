-- The cycles of an accepted program pay for what they output.
use Rattle.std.proofs.Common.{◌≡◌, ℕ, zero, suc, Bool, true, false, ◌||◌, cond, inl, inr, List, [], length, Option, None, Some, is_none, All, refl, sym, ap, ◌∙◌, subst, arith, nat_cmp, ℤ, unsigned_abs, ◌<◌, ◌^◌}
use Rattle.std.specs.FinMap as map
use Rattle.rpg_cycle_records.specs.Earlier.{Left, Selected, left_by, with_record}
use Rattle.rpg_cycle_records.specs.Waiting.{Inputs, chosen, has_match, takes_in, unread, waiting_in}
use Rattle.rpg_cycle.specs.Ends.{PhaseEnd, Continues, EndOfJob, Halt, Wrong}
use Rattle.rpg_cycle.specs.Indicators.{any_on, halt_indicators, is_on, last_record, level_indicators, matching_record, with_all, with_one}
use Rattle.rpg_cycle.specs.Phases.{Cycle, CycleOn, Done, Phase, UnderWay, all_off, begun, by_machine, detail_calculations, detail_lines, without_output, done, either, end_where_last, fill_fields, fill_from, from_there, halt_if_indicated, has_no_overflow, if_selected, is_bypassed, needs_record, output, overflow_lines, nothing_done, read_record, section, select_from, select_one, select_record, set_off, show_match, take_in, total_time, unless, with_config, ◌before◌}
use Rattle.rpg_cycle.specs.Staging.{after_selection}
use Rattle.rpg_cycle.specs.Runs.{Records, left_following, next_of}
use Rattle.rpg_cycle.specs.Starting.{job_first_world, job_start}
use Rattle.rpg_program.specs.Effect.{Effect}
use Rattle.rpg_program.specs.Forms.{form_at}
use Rattle.rpg_program.specs.Ended.{on_data}
use Rattle.rpg_program.specs.Input.{input_fault, record_in}
use Rattle.rpg_program.specs.World.{Fields, World}
use Rattle.rpg_program.specs.declared.input.InputFile.{InputFile}
use Rattle.rpg_program.specs.declared.input.InputFile.TheVariants.{Primary, Secondary}
use Rattle.rpg_cycle_safety.proofs.Accepting.{inputs_right}
use Rattle.rpg_cycle_safety.proofs.Costing.{effect_paid, nothing_paid, paid_then, section_paid}
use Rattle.rpg_cycle_safety.proofs.Cycling.{cycles_well}
use Rattle.rpg_cycle_safety.proofs.Dating.{start_holds}
use Rattle.rpg_cycle_safety.proofs.Filling.{record_keeps}
use Rattle.rpg_cycle_safety.proofs.Instructing.{output_keeps}
use Rattle.rpg_cycle_safety.proofs.Outputting.{output_few}
use Rattle.rpg_cycle_safety.proofs.Running.{ends_well}
use Rattle.rpg_cycle_safety.proofs.Selecting.{Picks, levels_alone, selects, takes, unread_waits}
use Rattle.rpg_cycle_safety.proofs.Sizing.{PutsFew, data_few, few_more}
use Rattle.rpg_cycle_safety.proofs.Turning.{Still, all_still, off_still, one_still, still_holds}
use Rattle.rpg_cycle_safety.proofs.Weighing.{moving_weight, taking_weight}
use Rattle.rpg_cycle_safety.proofs.Working.{IsTaken, going}
use Rattle.rpg_cycle_safety.proofs.Writing.{on_data_keeps}
use Rattle.rpg_cycle_safety.specs.Holding.{Holds, Keeps}
use Rattle.rpg_cycle_safety.specs.Waiting.{AreWaiting}
use Rattle.rpg_cycle_safety.specs.Measuring.{StandsNear, IsOfCycles, IsPutInRun, PaysForOutput, StaysInOutput}
use Rattle.rpg_machine.specs.Accepted.{IsOrderly}
use Rattle.rpg_machine.specs.Config.{Config, Output, charged, no_output}
use Rattle.rpg_machine.specs.Outputs.{ByEffect, inputs_at, output_effect, output_weight}
use Rattle.rpg_machine.specs.declared.time.OutputTime.{OutputTime}
use Rattle.rpg_machine.specs.declared.time.OutputTime.TheVariants as times
use Rattle.rpg_program.specs.Object.{Object}
use Rattle.rpg_program.specs.Sections.{has_end}
use Rattle.rpg_program.specs.declared.section.Section.{Section}
use Rattle.rpg_program.specs.declared.section.Section.TheVariants as sections
use Rattle.rpg_paper.specs.Paper.{Position, last_position_from}

module _ (p : Object) (orderly : IsOrderly p) where
  -- ---- between two phases

  -- the values are what they are to be, no subroutine runs, and a record that was selected is valid
  record Rests (c : UnderWay) : Type 0 where
    pub values : Holds p c.config.world.data
    pub no_cell : c.config.cells ≡ map.empty
    pub waiting : AreWaiting p c.inputs
    pub taken : IsTaken p c.selected

  -- what a phase comes to
  record Pays (previous : Option Position) (c : UnderWay) (e : PhaseEnd) (d : UnderWay) (out : Output) : Type 0 where
    pub pays : PaysForOutput previous c.config d.config out
    pub rests : e ≡ Continues → Rests d

  abbrev IsPaid : Phase → Type 0
  IsPaid P = (previous : Option Position) (c : UnderWay) (e : PhaseEnd) (d : UnderWay) (out : Output) → Rests c → StandsNear previous c.config.world.paper.here → P c e d out →
      Pays previous c e d out

  rests_as : (d : UnderWay) (x : Config) (i : Inputs) (s : Option Selected) → d.config ≡ x → d.inputs ≡ i → d.selected ≡ s → Rests (record { config = x; inputs = i; selected = s }) → Rests d
  rests_as d x i s is files same r =
      subst (λ (o : Option Selected). Rests (record { config = d.config; inputs = d.inputs; selected = o })) (sym same)
      (subst (λ (j : Inputs). Rests (record { config = d.config; inputs = j; selected = s })) (sym files) (subst (λ (y : Config). Rests (record { config = y; inputs = i; selected = s })) (sym is) r))

  -- ---- one after another

  same_put : (previous : Option Position) (c m d : UnderWay) (k e : PhaseEnd) (put out : Output) → (k ≡ Continues → ⊥) → Pays previous c k m put → e ≡ k → d ≡ m → out ≡ put →
      Pays previous c e d out
  same_put previous c m d k e put out stops h is there same = record {
    pays =
        subst (λ (o : Output). PaysForOutput previous c.config d.config o) (sym same)
        (subst (λ (y : UnderWay). PaysForOutput previous c.config y.config put) (sym there) h.pays);
    rests = λ goes. absurd (stops (sym is ∙ goes));
  }

  from_paid : (Q : Phase) → IsPaid Q → (f : PhaseEnd) (previous : Option Position) (c m : UnderWay) (put : Output) (e : PhaseEnd) (d : UnderWay) (out : Output) →
      Pays previous c f m put → from_there Q f m put e d out → Pays previous c e d out
  from_paid Q q Continues previous c m put e d out h (more, k, is) =
      let next = q (last_position_from previous put.lines) m e d more (h.rests refl) h.pays.near k in
      record {
        pays = subst (λ (o : Output). PaysForOutput previous c.config d.config o) (sym is) (paid_then previous c.config m.config d.config put more h.pays next.pays);
        rests = next.rests;
      }
  from_paid Q q EndOfJob previous c m put e d out h (is, there, same) = same_put previous c m d EndOfJob e put out (λ no. cc) h is there same
  from_paid Q q (Halt k) previous c m put e d out h (is, there, same) = same_put previous c m d (Halt k) e put out (λ no. cc) h is there same
  from_paid Q q (Wrong f) previous c m put e d out h (is, there, same) = same_put previous c m d (Wrong f) e put out (λ no. cc) h is there same

  both_paid : (P Q : Phase) → IsPaid P → IsPaid Q → IsPaid (P before Q)
  both_paid P Q first second previous c e d out r near (f, m, put, h, rest) = from_paid Q second f previous c m put e d out (first previous c f m put r near h) rest

  -- ---- phases without output

  still_paid : (n : ℕ) (previous : Option Position) (c : UnderWay) (e : PhaseEnd) (d : UnderWay) (out : Output) → Rests c → StandsNear previous c.config.world.paper.here →
      Still n c.config d.config → AreWaiting p d.inputs → IsTaken p d.selected → out ≡ no_output → Pays previous c e d out
  still_paid n previous c e d out r near s waiting taken same = record {
    pays = subst (λ (o : Output). PaysForOutput previous c.config d.config o) (sym same) (nothing_paid previous n c.config d.config s.steps s.form near);
    rests = λ goes. record { values = still_holds p n c.config d.config s r.values; no_cell = s.cells ∙ r.no_cell; waiting = waiting; taken = taken };
  }

  -- where nothing but steps and indicators changes, and what waits and what is selected are well kept
  picked_paid : (a : ℕ) (f : UnderWay → Done) → ((c : UnderWay) → AreWaiting p c.inputs → IsTaken p c.selected → Picks p a c (f c)) → IsPaid (without_output f)
  picked_paid a f picks previous c e d out r near (is, there, same) =
      let k = picks c r.waiting r.taken in
      let leads = (f c).leads in
      still_paid k.weight previous c e d out r near (subst (λ (y : UnderWay). Still k.weight c.config y.config) (sym there) k.still)
      (subst (λ (y : UnderWay). AreWaiting p y.inputs) (sym there) k.waiting) (subst (λ (y : UnderWay). IsTaken p y.selected) (sym there) k.taken) same

  -- with the same files, and the same record
  does_paid : (f : UnderWay → Done) →
      ((c : UnderWay) → Still 0 c.config (f c).leads.config × ((f c).leads.inputs ≡ c.inputs) × ((f c).leads.selected ≡ c.selected)) → IsPaid (without_output f)
  does_paid f stays previous c e d out r near (is, there, same) =
      let s = stays c in
      still_paid 0 previous c e d out r near (subst (λ (y : UnderWay). Still 0 c.config y.config) (sym there) s.0)
      (subst (λ (i : Inputs). AreWaiting p i) (sym (ap (λ (y : UnderWay). y.inputs) there ∙ s.1)) r.waiting)
      (subst (λ (o : Option Selected). IsTaken p o) (sym (ap (λ (y : UnderWay). y.selected) there ∙ s.2)) r.taken) same

  pass_paid : IsPaid nothing_done
  pass_paid = does_paid (done Continues) (λ c. (all_still [] true c.config, refl, refl))

  either_paid : (b : Bool) (P : Phase) → IsPaid P → IsPaid (either b nothing_done P)
  either_paid true P h = pass_paid
  either_paid false P h = h

  unless_paid : (test : Config → Bool) (P : Phase) → IsPaid P → IsPaid (unless test P)
  unless_paid test P h previous c e d out r near k = either_paid (test c.config) P h previous c e d out r near k

  -- ---- what the machine does

  by_effect_paid : (weight : ℕ) (effect : World nat_cmp → Effect nat_cmp) (previous : Option Position) (c : UnderWay) (e : PhaseEnd) (d : UnderWay) (out : Output) → Rests c →
      Keeps p (effect c.config.world) → PutsFew previous weight (effect c.config.world) → by_machine (ByEffect weight effect) c e d out → Pays previous c e d out
  by_effect_paid weight effect previous c e d out r k few (last, act, is, files, same) =
      let there = record (charged weight c.config) { world = (effect c.config.world).world } in
      record {
        pays =
            subst (λ (o : Output). PaysForOutput previous c.config d.config o) (sym act.puts)
            (effect_paid previous weight c.config d.config (effect c.config.world) (ap (λ (x : Config). x.steps) act.leads) (ap (λ (x : Config). x.world) act.leads) few);
        rests = λ goes. rests_as d there c.inputs c.selected act.leads files same (record { values = k.holds; no_cell = r.no_cell; waiting = r.waiting; taken = r.taken });
      }

  output_paid : (time : OutputTime) → IsPaid (output p time)
  output_paid time previous c e d out r near h =
      by_effect_paid (output_weight p time) (output_effect p time) previous c e d out r (output_keeps p orderly.program orderly.sound time c.config.world r.values)
      (output_few p orderly.program orderly.sound time previous c.config.world r.values near) h

  section_rests : (s : Section) → has_end s ≡ true → IsPaid (section p s)
  section_rests s ended previous c e d out r near (last, runs, is, files, same) =
      let well = ends_well p orderly s c.config last d.config out ended r.no_cell r.values runs in
      record {
        pays = section_paid p orderly s previous c.config last d.config out ended r.no_cell r.values near runs;
        rests = λ goes. record {
          values = well.values;
          no_cell = well.no_cell (going p last (sym is ∙ goes));
          waiting = subst (λ (i : Inputs). AreWaiting p i) (sym files) r.waiting;
          taken = subst (λ (o : Option Selected). IsTaken p o) (sym same) r.taken;
        };
      }

  -- ---- the phases

  halt_paid : IsPaid halt_if_indicated
  halt_paid = does_paid (λ c. done (cond (any_on c.config halt_indicators) (Halt 6) Continues) c) (λ c. (all_still [] true c.config, refl, refl))

  off_paid : IsPaid (set_off p)
  off_paid = does_paid (λ c. done Continues (with_config (all_off p) c)) (λ c. (off_still p c.config, refl, refl))

  end_paid : IsPaid end_where_last
  end_paid = does_paid (λ c. done (cond (is_on c.config last_record || is_none c.selected) EndOfJob Continues) c) (λ c. (all_still [] true c.config, refl, refl))

  taking_paid : (left : Left) (f : InputFile) (next : Option (List ℕ)) → IsPaid (take_in p left f next)
  taking_paid left f next =
      picked_paid (taking_weight f p.types) (λ c. cond (takes_in p c.inputs f) (read_record p left f next c) (done Continues c)) (λ c waiting taken. takes p orderly left f c waiting taken next)

  selecting_paid : (left : Left) → IsPaid (select_one p left)
  selecting_paid left =
      picked_paid (moving_weight p.types) (λ c. select_from p left (chosen p left (waiting_in c.inputs Primary) (waiting_in c.inputs Secondary)) c)
      (λ c waiting taken. selects p orderly left c waiting taken (chosen p left (waiting_in c.inputs Primary) (waiting_in c.inputs Secondary)))

  selected_paid : (left : Left) (primary secondary : Option (List ℕ)) (b : Bool) →
      IsPaid (either b (without_output (λ c. done Continues (with_config (with_all level_indicators true) c))) (take_in p left Primary primary before take_in p left Secondary secondary before select_one p left))
  selected_paid left primary secondary true = picked_paid 0 (λ c. done Continues (with_config (with_all level_indicators true) c)) (λ c waiting taken. levels_alone p 0 c waiting taken)
  selected_paid left primary secondary false =
      both_paid (take_in p left Primary primary) (take_in p left Secondary secondary before select_one p left) (taking_paid left Primary primary)
      (both_paid (take_in p left Secondary secondary) (select_one p left) (taking_paid left Secondary secondary) (selecting_paid left))

  selection_paid : (left : Left) (primary secondary : Option (List ℕ)) → IsPaid (select_record p left primary secondary)
  selection_paid left primary secondary previous c e d out r near h = selected_paid left primary secondary (is_on c.config last_record) previous c e d out r near h

  showing_paid : (matches : Inputs → Selected → Bool) → IsPaid (show_match matches)
  showing_paid matches =
      does_paid (λ c. done Continues (with_config (with_one matching_record (if_selected (matches c.inputs) c.selected)) c))
      (λ c. (one_still matching_record (if_selected (matches c.inputs) c.selected) c.config, refl, refl))

  totals_paid : (left : Left) → IsPaid (total_time p left)
  totals_paid left =
      unless_paid (is_bypassed p left.any left.control) (section p sections.Total before output p times.Total)
      (both_paid (section p sections.Total) (output p times.Total) (section_rests sections.Total refl) (output_paid times.Total))

  overflow_paid : IsPaid (overflow_lines p)
  overflow_paid = unless_paid (has_no_overflow p.overflow.indicator) (output p times.Overflow) (output_paid times.Overflow)

  filled_paid : (config : Config) (i : Inputs) (s : Option Selected) (previous : Option Position) (e : PhaseEnd) (d : UnderWay) (out : Output) →
      Rests (record { config = config; inputs = i; selected = s }) → StandsNear previous config.world.paper.here → fill_from p s (record { config = config; inputs = i; selected = s }) e d out →
      Pays previous (record { config = config; inputs = i; selected = s }) e d out
  filled_paid config i None previous e d out r near h = pass_paid previous (record { config = config; inputs = i; selected = None }) e d out r near h
  filled_paid config i (Some s) previous e d out r near h =
      let inputs = inputs_at p s.type in
      let right = subst (λ (len : ℕ). All (λ f. input_fault (form_at p.fields) len f ≡ None) inputs) (sym r.taken.long) (inputs_right p s.type orderly.sound) in
      let keeps = record_keeps p orderly.forms s.text inputs config.world.data right r.taken.characters r.values in
      let few = few_more previous 0 (length inputs) (on_data (record_in (form_at p.fields) s.text inputs) config.world) (omega arith)
      (data_few previous (record_in (form_at p.fields) s.text inputs) config.world near) in
      by_effect_paid (length inputs) (on_data (record_in (form_at p.fields) s.text inputs)) previous (record { config = config; inputs = i; selected = Some s }) e d out r
      (on_data_keeps p (record_in (form_at p.fields) s.text inputs) config.world keeps) few h

  filling_paid : IsPaid (fill_fields p)
  filling_paid previous c e d out r near h = filled_paid c.config c.inputs c.selected previous e d out r near h

  -- ---- cycles

  abbrev after_match : Phase
  after_match = fill_fields p before detail_calculations p

  module _ (left : Left) (matches : Inputs → Selected → Bool) (primary secondary : Option (List ℕ)) where
    abbrev from_ending : Phase
    from_ending = end_where_last before overflow_lines p before show_match matches before after_match

    abbrev from_selection : Phase
    from_selection = select_record p left primary secondary before after_selection p left matches

    cycle_paid : IsPaid (CycleOn p left matches primary secondary)
    cycle_paid =
        both_paid (detail_lines p) (halt_if_indicated before set_off p before from_selection) (output_paid times.Detail)
        (both_paid halt_if_indicated (set_off p before from_selection) halt_paid
        (both_paid (set_off p) from_selection off_paid
        (both_paid (select_record p left primary secondary) (after_selection p left matches) (selection_paid left primary secondary)
        (both_paid (total_time p left) from_ending (totals_paid left)
        (both_paid end_where_last (overflow_lines p before show_match matches before after_match) end_paid
        (both_paid (overflow_lines p) (show_match matches before after_match) overflow_paid
        (both_paid (show_match matches) after_match (showing_paid matches)
        (both_paid (fill_fields p) (detail_calculations p) filling_paid (section_rests sections.Detail refl)))))))))

  starts : (c : Config) (i : Inputs) → Holds p c.world.data → c.cells ≡ map.empty → AreWaiting p i → Rests (begun p c i)
  starts c i h none waiting = record { values = h; no_cell = none; waiting = waiting; taken = tt }

  -- what it outputs, and where the form stands after it
  pub cycle_pays : (earlier : List Selected) (primary secondary : Option (List ℕ)) (previous : Option Position) (c : Config) (i : Inputs) (e : PhaseEnd) (d : UnderWay) (out : Output) →
      Holds p c.world.data → c.cells ≡ map.empty → AreWaiting p i → StandsNear previous c.world.paper.here → Cycle p earlier primary secondary (begun p c i) e d out →
      PaysForOutput previous (begun p c i).config d.config out
  cycle_pays earlier primary secondary previous c i e d out h none waiting near cycle =
      (cycle_paid (left_by p earlier) (has_match p earlier) primary secondary previous (begun p c i) e d out (starts c i h none waiting) near cycle).pays

  pub cycle_in_output : (earlier : List Selected) (primary secondary : Option (List ℕ)) (previous : Option Position) (c : Config) (i : Inputs) (e : PhaseEnd) (d : UnderWay) (out : Output) →
      Holds p c.world.data → c.cells ≡ map.empty → AreWaiting p i → StandsNear previous c.world.paper.here → Cycle p earlier primary secondary (begun p c i) e d out → StaysInOutput p previous out
  cycle_in_output earlier primary secondary previous c i e d out h none waiting near cycle =
      let pays = (cycle_pays earlier primary secondary previous c i e d out h none waiting near cycle).few in
      let few = (cycles_well p orderly earlier primary secondary c i e d out h none waiting cycle).few in
      record { few = omega (arith, pays, few) }

  -- ---- runs

  of_cycles : (n : ℕ) (earlier : List Selected) (rs : Records) (previous : Option Position) (c : Config) (i : Inputs) (last : Option Position) (out : Output) → Holds p c.world.data →
      c.cells ≡ map.empty → AreWaiting p i → StandsNear previous c.world.paper.here → IsOfCycles n p earlier rs previous c i last out → StaysInOutput p last out
  of_cycles zero earlier rs previous c i last out h none waiting near put = absurd put
  of_cycles (suc n) earlier rs previous c i last out h none waiting near (inl (is, e, d, cycle)) =
      subst (λ (o : Option Position). StaysInOutput p o out) (sym is)
      (cycle_in_output earlier (next_of (needs_record p c i Primary) rs.primary) (next_of (needs_record p c i Secondary) rs.secondary) previous c i e d out h none waiting near cycle)
  of_cycles (suc n) earlier rs previous c i last out h none waiting near (inr (d, first, cycle, rest)) =
      let one = cycle_paid (left_by p earlier) (has_match p earlier) (next_of (needs_record p c i Primary) rs.primary) (next_of (needs_record p c i Secondary) rs.secondary) previous
      (begun p c i) Continues d first (starts c i h none waiting) near cycle in
      let there = one.rests refl in
      of_cycles n (with_record d.selected earlier) (left_following p c i rs) (last_position_from previous first.lines) d.config d.inputs last out there.values there.no_cell there.waiting one.pays.near rest

  -- every cycle of a run
  pub run_in_output : (date : ℤ) (fields : Fields nat_cmp) (records : Records) (last : Option Position) (out : Output) → unsigned_abs date < 10 ^ 6 →
      Holds p (job_first_world fields).data → IsPutInRun p date fields records last out → StaysInOutput p last out
  run_in_output date fields records last out small h (n, put) =
      of_cycles n [] records None (job_start p date fields) unread last out (start_holds p orderly.program date small fields h) refl (unread_waits p)
      (record { line = omega arith; page = omega arith }) put
