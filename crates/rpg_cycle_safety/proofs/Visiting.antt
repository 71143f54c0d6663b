-- Each configuration that a run comes by is steady.
use Rattle.std.proofs.Common.{◌≡◌, ℕ, zero, suc, ◌+◌, Bool, true, false, ◌&&◌, ◌||◌, eqb, nat_le, nat_lt, le-leb, eq-eqb, inl, inr, List, [], Option, None, Some, All, length, refl, sym, ap, ◌∙◌, subst, cond, arith, nat_cmp, ℤ, unsigned_abs, ◌<◌, ◌^◌}
use Rattle.std.specs.FinMap as map
use Rattle.rpg_cycle_records.specs.Earlier.{Left, Selected, left_by, with_record}
use Rattle.rpg_cycle_records.specs.Waiting.{Inputs, chosen, has_match, takes_in, unread, waiting_in}
use Rattle.rpg_cycle.specs.Ends.{PhaseEnd, Continues, EndOfJob, Halt, Wrong, phase_end}
use Rattle.rpg_cycle.specs.Indicators.{any_on, halt_indicators, is_on, last_record, level_indicators, matching_record, with_all, with_one}
use Rattle.rpg_cycle.specs.Phases.{CycleOn, Done, Phase, UnderWay, all_off, begun, by_machine, detail_calculations, detail_lines, without_output, done, either, end_where_last, fill_fields, fill_from, from_there, halt_if_indicated, has_no_overflow, if_selected, is_bypassed, needs_record, output, overflow_lines, nothing_done, read_record, section, select_from, select_one, select_record, set_off, show_match, take_in, total_time, unless, with_config, ◌before◌}
use Rattle.rpg_cycle.specs.Staging.{after_selection}
use Rattle.rpg_cycle.specs.Runs.{Records, left_following, next_of}
use Rattle.rpg_cycle.specs.Starting.{job_first_world, job_start}
use Rattle.rpg_program.specs.Effect.{Effect}
use Rattle.rpg_program.specs.Ends as effects
use Rattle.rpg_program.specs.Forms.{form_at}
use Rattle.rpg_program.specs.Ended.{on_data}
use Rattle.rpg_program.specs.Input.{input_fault, record_in}
use Rattle.rpg_program.specs.World.{Fields, World}
use Rattle.rpg_program.specs.declared.input.InputFile.{InputFile}
use Rattle.rpg_program.specs.declared.input.InputFile.TheVariants.{Primary, Secondary}
use Rattle.rpg_cycle_safety.proofs.Accepting.{inputs_right}
use Rattle.rpg_cycle_safety.proofs.Dating.{start_holds}
use Rattle.rpg_cycle_safety.proofs.Filling.{record_keeps}
use Rattle.rpg_cycle_safety.proofs.Instructing.{output_keeps}
use Rattle.rpg_cycle_safety.proofs.Running.{stands_well}
use Rattle.rpg_cycle_safety.proofs.Selecting.{Picks, levels_alone, selects, takes, unread_waits}
use Rattle.rpg_cycle_safety.proofs.Turning.{Still, off_still, one_still, still_holds}
use Rattle.rpg_cycle_safety.proofs.Weighing.{moving_weight, taking_weight}
use Rattle.rpg_cycle_safety.proofs.Writing.{on_data_keeps}
use Rattle.rpg_cycle_safety.proofs.Working.{IsTaken}
use Rattle.rpg_cycle_safety.specs.Holding.{Holds, Keeps}
use Rattle.rpg_cycle_safety.specs.Coming.{next_cycle}
use Rattle.rpg_cycle_safety.specs.Leading.{IsSteady, StandsWell}
use Rattle.rpg_cycle_safety.specs.Waiting.{AreWaiting}
use Rattle.rpg_cycle_safety.specs.Visiting.{IsOfRun, Visits, Way, along, cycle_way, ways_to_end, next_way, phases_way, config_left, total_way, within, ◌onto◌}
use Rattle.rpg_machine.proofs.Ranges.{and_true}
use Rattle.rpg_machine.proofs.Safe.{none_set}
use Rattle.rpg_machine.specs.Accepted.{IsOrderly}
use Rattle.rpg_machine.specs.Config.{Config, Output, charged, here}
use Rattle.rpg_machine.specs.Outputs.{ByEffect, inputs_at, output_effect, output_weight}
use Rattle.rpg_machine.specs.Run.{at_first, run}
use Rattle.rpg_machine.specs.Step.{Outcome, Next, Stop}
use Rattle.rpg_machine.specs.declared.time.OutputTime.{OutputTime}
use Rattle.rpg_machine.specs.declared.time.OutputTime.TheVariants as times
use Rattle.rpg_program.specs.Object.{Object}
use Rattle.rpg_program.specs.Sections.{first_place, has_end, is_place, place_after}
use Rattle.rpg_program.specs.declared.section.Place.{Place}
use Rattle.rpg_program.specs.declared.section.Section.{Section}
use Rattle.rpg_program.specs.declared.section.Section.TheVariants as sections

module _ (p : Object) (orderly : IsOrderly p) where
  -- ---- between two phases

  -- the place is one of detail or total calculations, no subroutine runs, and a record that was selected is valid
  record Rests (c : UnderWay) : Type 0 where
    pub values : Holds p c.config.world.data
    pub ended : has_end c.config.section ≡ true
    pub place : is_place p (here c.config) ≡ true
    pub no_cell : c.config.cells ≡ map.empty
    pub waiting : AreWaiting p c.inputs
    pub taken : IsTaken p c.selected

  steady_there : (c : UnderWay) → Rests c → IsSteady p c.config
  steady_there c r = record { values = r.values; control = record { place = r.place; cells = []; chain = (r.ended, r.no_cell) } }

  rests_as : (d : UnderWay) (x : Config) (i : Inputs) (s : Option Selected) → d.config ≡ x → d.inputs ≡ i → d.selected ≡ s → Rests (record { config = x; inputs = i; selected = s }) → Rests d
  rests_as d x i s is files same r =
      subst (λ (o : Option Selected). Rests (record { config = d.config; inputs = d.inputs; selected = o })) (sym same)
      (subst (λ (j : Inputs). Rests (record { config = d.config; inputs = j; selected = s })) (sym files) (subst (λ (y : Config). Rests (record { config = y; inputs = i; selected = s })) (sym is) r))

  rests_still : (n : ℕ) (c d : UnderWay) → Still n c.config d.config → AreWaiting p d.inputs → IsTaken p d.selected → Rests c → Rests d
  rests_still n c d s waiting taken r = record {
    values = still_holds p n c.config d.config s r.values;
    ended = ap (λ (x : Place). has_end x.section) s.place ∙ r.ended;
    place = ap (is_place p) s.place ∙ r.place;
    no_cell = s.cells ∙ r.no_cell;
    waiting = waiting;
    taken = taken;
  }

  -- ---- what a phase leads to

  record Leads (e : PhaseEnd) (d : UnderWay) : Type 0 where
    pub steady : IsSteady p d.config
    pub rests : e ≡ Continues → Rests d

  -- from wherever the machine rests
  abbrev IsSafePhase : Phase → Type 0
  IsSafePhase P = (c : UnderWay) (e : PhaseEnd) (d : UnderWay) (out : Output) → Rests c → P c e d out → Leads e d

  resting : (e : PhaseEnd) (d : UnderWay) → Rests d → Leads e d
  resting e d r = record { steady = steady_there d r; rests = λ goes. r }

  stopped : (k e : PhaseEnd) (m d : UnderWay) → (k ≡ Continues → ⊥) → Leads k m → e ≡ k → d ≡ m → Leads e d
  stopped k e m d stops l is there = record {
    steady = subst (λ (y : UnderWay). IsSteady p y.config) (sym there) l.steady;
    rests = λ goes. absurd (stops (sym is ∙ goes));
  }

  does_safely : (f : UnderWay → Done) (c : UnderWay) (e : PhaseEnd) (d : UnderWay) (out : Output) → Rests (f c).leads → without_output f c e d out → Leads e d
  does_safely f c e d out r h = resting e d (subst (λ (y : UnderWay). Rests y) (sym h.1) r)

  effect_safely : (weight : ℕ) (effect : World nat_cmp → Effect nat_cmp) (c : UnderWay) (e : PhaseEnd) (d : UnderWay) (out : Output) → Rests c → Keeps p (effect c.config.world) →
      by_machine (ByEffect weight effect) c e d out → Leads e d
  effect_safely weight effect c e d out r k (last, act, is, files, same) =
      resting e d (rests_as d (record (charged weight c.config) { world = (effect c.config.world).world }) c.inputs c.selected act.leads files same
      (record { values = k.holds; ended = r.ended; place = r.place; no_cell = r.no_cell; waiting = r.waiting; taken = r.taken }))

  from_safely : (Q : Phase) → IsSafePhase Q → (f : PhaseEnd) (m : UnderWay) (put : Output) (e : PhaseEnd) (d : UnderWay) (out : Output) → Leads f m → from_there Q f m put e d out → Leads e d
  from_safely Q q Continues m put e d out l (more, h, is) = q m e d more (l.rests refl) h
  from_safely Q q EndOfJob m put e d out l (is, there, same) = stopped EndOfJob e m d (λ no. cc) l is there
  from_safely Q q (Halt k) m put e d out l (is, there, same) = stopped (Halt k) e m d (λ no. cc) l is there
  from_safely Q q (Wrong f) m put e d out l (is, there, same) = stopped (Wrong f) e m d (λ no. cc) l is there

  both_safe : (P Q : Phase) → IsSafePhase P → IsSafePhase Q → IsSafePhase (P before Q)
  both_safe P Q first second c e d out r (f, m, put, h, rest) = from_safely Q second f m put e d out (first c f m put r h) rest

  either_safe : (b : Bool) (P : Phase) → IsSafePhase P → IsSafePhase (either b nothing_done P)
  either_safe true P h = λ c e d out r k. does_safely (done Continues) c e d out r k
  either_safe false P h = h

  unless_safe : (test : Config → Bool) (P : Phase) → IsSafePhase P → IsSafePhase (unless test P)
  unless_safe test P h c e d out r k = either_safe (test c.config) P h c e d out r k

  -- ---- sections

  ended_well : (last : effects.End) (c : UnderWay) (e : PhaseEnd) (d : UnderWay) (out : Output) → Rests c → e ≡ phase_end last → d.inputs ≡ c.inputs → d.selected ≡ c.selected → StandsWell p (Stop last d.config out) → Leads e d
  ended_well effects.Continues c e d out r is files same (steady, at_end) =
      resting e d (record {
        values = steady.values;
        ended = (and_true (has_end d.config.section) _ at_end).0;
        place = steady.control.place;
        no_cell = none_set p d.config steady.control at_end;
        waiting = subst (λ (i : Inputs). AreWaiting p i) (sym files) r.waiting;
        taken = subst (λ (o : Option Selected). IsTaken p o) (sym same) r.taken;
      })
  ended_well (effects.Halt k) c e d out r is files same (named, steady) = record { steady = steady; rests = λ goes. absurd (let never : Halt k ≡ Continues = sym is ∙ goes in cc) }
  ended_well (effects.Wrong f) c e d out r is files same h = absurd h

  section_safe : (s : Section) → has_end s ≡ true → IsSafePhase (section p s)
  section_safe s ended c e d out r (last, runs, is, files, same) =
      ended_well last c e d out r is files same
      (subst (λ (o : Outcome). StandsWell p o) runs.run (stands_well p orderly s runs.enough c.config ended r.no_cell r.values))

  -- ---- the phases

  output_safe : (time : OutputTime) → IsSafePhase (output p time)
  output_safe time c e d out r h =
      effect_safely (output_weight p time) (output_effect p time) c e d out r (output_keeps p orderly.program orderly.sound time c.config.world r.values) h

  halt_safe : IsSafePhase halt_if_indicated
  halt_safe c e d out r h = does_safely (λ c. done (cond (any_on c.config halt_indicators) (Halt 6) Continues) c) c e d out r h

  off_safe : IsSafePhase (set_off p)
  off_safe c e d out r h =
      does_safely (λ c. done Continues (with_config (all_off p) c)) c e d out (rests_still 0 c (with_config (all_off p) c) (off_still p c.config) r.waiting r.taken r) h

  -- a step of phase 4
  picked_safely : (a : ℕ) (f : UnderWay → Done) → ((c : UnderWay) → AreWaiting p c.inputs → IsTaken p c.selected → Picks p a c (f c)) → IsSafePhase (without_output f)
  picked_safely a f picks c e d out r h =
      let k = picks c r.waiting r.taken in
      does_safely f c e d out (rests_still k.weight c (f c).leads k.still k.waiting k.taken r) h

  taking_safe : (left : Left) (f : InputFile) (next : Option (List ℕ)) → IsSafePhase (take_in p left f next)
  taking_safe left f next =
      picked_safely (taking_weight f p.types) (λ c. cond (takes_in p c.inputs f) (read_record p left f next c) (done Continues c)) (λ c waiting taken. takes p orderly left f c waiting taken next)

  selecting_safe : (left : Left) → IsSafePhase (select_one p left)
  selecting_safe left =
      picked_safely (moving_weight p.types) (λ c. select_from p left (chosen p left (waiting_in c.inputs Primary) (waiting_in c.inputs Secondary)) c)
      (λ c waiting taken. selects p orderly left c waiting taken (chosen p left (waiting_in c.inputs Primary) (waiting_in c.inputs Secondary)))

  selected_safe : (left : Left) (primary secondary : Option (List ℕ)) (b : Bool) →
      IsSafePhase (either b (without_output (λ c. done Continues (with_config (with_all level_indicators true) c))) (take_in p left Primary primary before take_in p left Secondary secondary before select_one p left))
  selected_safe left primary secondary true = picked_safely 0 (λ c. done Continues (with_config (with_all level_indicators true) c)) (λ c waiting taken. levels_alone p 0 c waiting taken)
  selected_safe left primary secondary false =
      both_safe (take_in p left Primary primary) (take_in p left Secondary secondary before select_one p left) (taking_safe left Primary primary)
      (both_safe (take_in p left Secondary secondary) (select_one p left) (taking_safe left Secondary secondary) (selecting_safe left))

  selection_safe : (left : Left) (primary secondary : Option (List ℕ)) → IsSafePhase (select_record p left primary secondary)
  selection_safe left primary secondary c e d out r h = selected_safe left primary secondary (is_on c.config last_record) c e d out r h

  showing_safe : (matches : Inputs → Selected → Bool) → IsSafePhase (show_match matches)
  showing_safe matches c e d out r h =
      let on = if_selected (matches c.inputs) c.selected in
      does_safely (λ c. done Continues (with_config (with_one matching_record (if_selected (matches c.inputs) c.selected)) c)) c e d out
      (rests_still 0 c (with_config (with_one matching_record on) c) (one_still matching_record on c.config) r.waiting r.taken r) h

  totals_safe : (left : Left) → IsSafePhase (total_time p left)
  totals_safe left =
      unless_safe (is_bypassed p left.any left.control) (section p sections.Total before output p times.Total)
      (both_safe (section p sections.Total) (output p times.Total) (section_safe sections.Total refl) (output_safe times.Total))

  end_safe : IsSafePhase end_where_last
  end_safe c e d out r h = resting e d (subst (λ (y : UnderWay). Rests y) (sym h.1) r)

  overflow_safe : IsSafePhase (overflow_lines p)
  overflow_safe = unless_safe (has_no_overflow p.overflow.indicator) (output p times.Overflow) (output_safe times.Overflow)

  filled_safely : (config : Config) (i : Inputs) (s : Option Selected) (e : PhaseEnd) (d : UnderWay) (out : Output) → Rests (record { config = config; inputs = i; selected = s }) →
      fill_from p s (record { config = config; inputs = i; selected = s }) e d out → Leads e d
  filled_safely config i None e d out r h = does_safely (done Continues) (record { config = config; inputs = i; selected = None }) e d out r h
  filled_safely config i (Some s) e d out r h =
      let inputs = inputs_at p s.type in
      let right = subst (λ (len : ℕ). All (λ f. input_fault (form_at p.fields) len f ≡ None) inputs) (sym r.taken.long) (inputs_right p s.type orderly.sound) in
      effect_safely (length inputs) (on_data (record_in (form_at p.fields) s.text inputs)) (record { config = config; inputs = i; selected = Some s }) e d out r
      (on_data_keeps p (record_in (form_at p.fields) s.text inputs) config.world (record_keeps p orderly.forms s.text inputs config.world.data right r.taken.characters r.values)) h

  filling_safe : IsSafePhase (fill_fields p)
  filling_safe c e d out r h = filled_safely c.config c.inputs c.selected e d out r h

  -- ---- what it comes by

  abbrev IsSafeWay : Way → Type 0
  IsSafeWay W = (c : UnderWay) (x : Config) → Rests c → W c x → IsSteady p x

  same_steady : (x y : Config) → x ≡ y → IsSteady p y → IsSteady p x
  same_steady x y is h = subst (λ (z : Config). IsSteady p z) (sym is) h

  ends_safe : (P : Phase) → IsSafePhase P → IsSafeWay (ways_to_end P)
  ends_safe P h c x r (e, d, out, k, is) = same_steady x d.config is (h c e d out r k).steady

  along_safe : (P : Phase) (V W : Way) → IsSafePhase P → IsSafeWay V → IsSafeWay W → IsSafeWay (along P V W)
  along_safe P V W h v w c x r (inl k) = v c x r k
  along_safe P V W h v w c x r (inr (m, out, k, l)) = w m x ((h c Continues m out r k).rests refl) l

  onto_safe : (P : Phase) (W : Way) → IsSafePhase P → IsSafeWay W → IsSafeWay (P onto W)
  onto_safe P W h w = along_safe P (ways_to_end P) W h (ends_safe P h) w

  standing_steady : (o : Outcome) → StandsWell p o → IsSteady p (config_left o)
  standing_steady (Next c o) h = h
  standing_steady (Stop effects.Continues c o) h = h.0
  standing_steady (Stop (effects.Halt k) c o) h = h.1
  standing_steady (Stop (effects.Wrong f) c o) h = absurd h

  within_safe : (s : Section) → has_end s ≡ true → IsSafeWay (within p s)
  within_safe s ended c x r (n, is) =
      same_steady x (config_left (run p n (at_first p s c.config))) is
      (standing_steady (run p n (at_first p s c.config)) (stands_well p orderly s n c.config ended r.no_cell r.values))

  total_way_safe : (left : Left) → IsSafeWay (total_way p left)
  total_way_safe left c x r (taken, way) =
      along_safe (section p sections.Total) (within p sections.Total) (ways_to_end (output p times.Total)) (section_safe sections.Total refl) (within_safe sections.Total refl)
      (ends_safe (output p times.Total) (output_safe times.Total)) c x r way

  -- ---- cycles

  abbrev after_match : Phase
  after_match = fill_fields p before detail_calculations p

  module _ (left : Left) (matches : Inputs → Selected → Bool) (primary secondary : Option (List ℕ)) where
    abbrev from_ending : Phase
    from_ending = end_where_last before overflow_lines p before show_match matches before after_match

    abbrev from_selection : Phase
    from_selection = select_record p left primary secondary before after_selection p left matches

    cycle_safe : IsSafePhase (CycleOn p left matches primary secondary)
    cycle_safe =
        both_safe (detail_lines p) (halt_if_indicated before set_off p before from_selection) (output_safe times.Detail)
        (both_safe halt_if_indicated (set_off p before from_selection) halt_safe
        (both_safe (set_off p) from_selection off_safe
        (both_safe (select_record p left primary secondary) (after_selection p left matches) (selection_safe left primary secondary)
        (both_safe (total_time p left) from_ending (totals_safe left)
        (both_safe end_where_last (overflow_lines p before show_match matches before after_match) end_safe
        (both_safe (overflow_lines p) (show_match matches before after_match) overflow_safe
        (both_safe (show_match matches) after_match (showing_safe matches)
        (both_safe (fill_fields p) (detail_calculations p) filling_safe (section_safe sections.Detail refl)))))))))

    abbrev filling_way : Way
    filling_way = fill_fields p onto within p sections.Detail

    abbrev ending_way : Way
    ending_way = end_where_last onto overflow_lines p onto show_match matches onto filling_way

    abbrev totals_way : Way
    totals_way = along (total_time p left) (total_way p left) ending_way

    abbrev off_way : Way
    off_way = set_off p onto select_record p left primary secondary onto totals_way

    phases_safe : IsSafeWay (phases_way p left matches primary secondary)
    phases_safe =
        onto_safe (detail_lines p) (halt_if_indicated onto off_way) (output_safe times.Detail)
        (onto_safe halt_if_indicated off_way halt_safe
        (onto_safe (set_off p) (select_record p left primary secondary onto totals_way) off_safe
        (onto_safe (select_record p left primary secondary) totals_way (selection_safe left primary secondary)
        (along_safe (total_time p left) (total_way p left) ending_way (totals_safe left) (total_way_safe left)
        (onto_safe end_where_last (overflow_lines p onto show_match matches onto filling_way) end_safe
        (onto_safe (overflow_lines p) (show_match matches onto filling_way) overflow_safe
        (onto_safe (show_match matches) filling_way (showing_safe matches)
        (onto_safe (fill_fields p) (within p sections.Detail) filling_safe (within_safe sections.Detail refl)))))))))

  way_safe : (earlier : List Selected) (primary secondary : Option (List ℕ)) → IsSafeWay (cycle_way p earlier primary secondary)
  way_safe earlier primary secondary c x r (inl is) = same_steady x c.config is (steady_there c r)
  way_safe earlier primary secondary c x r (inr h) = phases_safe (left_by p earlier) (has_match p earlier) primary secondary c x r h

  -- ---- runs

  again : (d : UnderWay) → Rests d → Rests (begun p d.config d.inputs)
  again d r = record { values = r.values; ended = r.ended; place = r.place; no_cell = r.no_cell; waiting = r.waiting; taken = tt }

  visits_safe : (n : ℕ) (earlier : List Selected) (rs : Records) (c : Config) (i : Inputs) (x : Config) → Rests (begun p c i) → Visits n p earlier rs c i x → IsSteady p x
  visits_safe zero earlier rs c i x r h = absurd h
  visits_safe (suc n) earlier rs c i x r h =
      along_safe (next_cycle p earlier rs c i) (next_way p earlier rs c i) (λ d y. Visits n p (with_record d.selected earlier) (left_following p c i rs) d.config d.inputs y)
      (cycle_safe (left_by p earlier) (has_match p earlier) (next_of (needs_record p c i Primary) rs.primary) (next_of (needs_record p c i Secondary) rs.secondary))
      (way_safe earlier (next_of (needs_record p c i Primary) rs.primary) (next_of (needs_record p c i Secondary) rs.secondary))
      (λ d y k v. visits_safe n (with_record d.selected earlier) (left_following p c i rs) d.config d.inputs y (again d k) v) (begun p c i) x r h

  at_end : (n e : ℕ) → n ≡ e → (b : Bool) → nat_lt n e ≡ b → (nat_le 0 n && (nat_lt n e || (true && eqb n e))) ≡ true
  at_end n e same true t = rw (le-leb 0 n (omega arith), t)
  at_end n e same false t = rw (le-leb 0 n (omega arith), t, eq-eqb n e same)

  following_detail : is_place p (record { section = sections.Detail; number = length p.detail }) ≡ true
  unfolding is_place place_after first_place
  following_detail = at_end (length p.detail) (0 + length p.detail) (omega arith) _ refl

  -- every configuration of a run
  pub visited_steady : (date : ℤ) (fields : Fields nat_cmp) (records : Records) (x : Config) → unsigned_abs date < 10 ^ 6 → Holds p (job_first_world fields).data →
      IsOfRun p date fields records x → IsSteady p x
  visited_steady date fields records x small h (n, visits) =
      visits_safe n [] records (job_start p date fields) unread x
      (record { values = start_holds p orderly.program date small fields h; ended = refl; place = following_detail; no_cell = refl; waiting = unread_waits p; taken = tt }) visits
