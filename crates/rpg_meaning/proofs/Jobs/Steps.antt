-- Each phase but the selection of a record is followed.
use Rattle.std.proofs.Common.{◌≡◌, ℕ, Bool, true, false, not, cond, ◌||◌, ◌==◌, List, [], ◌∷◌, ◌++◌, map, slice_get, Option, None, Some, refl, sym, ap, ◌∙◌, subst, nat_cmp}
use Rattle.std.proofs.lemmas.Option.{slice_get-map}
use Rattle.std.specs.FinSet as set
use Rattle.std.specs.List.{cons_option, filter, filter_map, list_any}
use Rattle.std.specs.Option.{option_map, option_map_or}
use Rattle.std.specs.Prelude.{All, is_none, length}
use Rattle.rpg_cards.specs.Keys.{Key, key_cmp}
use Rattle.rpg_cycle.specs.Ends.{PhaseEnd, Continues, EndOfJob, Halt, phase_end}
use Rattle.rpg_cycle.specs.Indicators as indicators
use Rattle.rpg_cycle.specs.Indicators.{first_page, halt_indicators, indicators_turned, last_record, level_indicators, with_all, with_one, without_type, without_types}
use Rattle.rpg_cycle.specs.Phases as machine
use Rattle.rpg_cycle.specs.Phases.{UnderWay}
use Rattle.rpg_program.specs.Ends as effects
use Rattle.rpg_program.specs.Forms.{form_at}
use Rattle.rpg_program.specs.Ended.{Ended, on_data}
use Rattle.rpg_program.specs.Input.{TypeRow, input_fault, record_in}
use Rattle.rpg_program.specs.Lines.{Line, detail_output, overflow_output, total_output}
use Rattle.rpg_program.specs.World.{Data, World, with_data}
use Rattle.rpg_program.specs.declared.form.FieldForm.{FieldForm}
use Rattle.rpg_program.specs.declared.rows.Overflow.{Overflow}
use Rattle.rpg_cycle_safety.proofs.Accepting.{inputs_right}
use Rattle.rpg_cycle_safety.proofs.Filling.{record_keeps}
use Rattle.rpg_cycle_safety.proofs.Instructing.{output_keeps}
use Rattle.rpg_cycle_safety.proofs.Running.{ends_well}
use Rattle.rpg_cycle_safety.proofs.Writing.{on_data_keeps, same_fields}
use Rattle.rpg_cycle_safety.specs.Leading as leading
use Rattle.rpg_cycle_safety.specs.Waiting.{AreWaiting}
use Rattle.rpg_meaning.proofs.Jobs.Following.{Followed, Follows, IsFine, IsSettled, Same, Selection, follows_does, follows_effect, follows_pass, follows_unless}
use Rattle.rpg_meaning.specs.Jobs.Cycle as cards
use Rattle.rpg_meaning.proofs.Jobs.ProgramOf.{IsProgramOf}
use Rattle.rpg_meaning.specs.Jobs.Job.{Job, JobState}
use Rattle.rpg_meaning.specs.Jobs.Phases.{any_on_in, by_effect, calculated, meant_passes, turned_all, with_turned}
use Rattle.rpg_machine.specs.Accepted.{IsOrderly}
use Rattle.rpg_machine.specs.Config.{Config, Output}
use Rattle.rpg_machine.specs.Outputs.{input_fields_of}
use Rattle.rpg_machine.specs.Outputs as machine_outputs
use Rattle.rpg_machine.specs.declared.time.OutputTime.TheVariants as times
use Rattle.rpg_meaning.proofs.Calculations.Named.{lines_named}
use Rattle.rpg_meaning.proofs.Calculations.Runs.{meaning_kept}
use Rattle.rpg_meaning.specs.Calculations.Agreement.{part_section}
use Rattle.rpg_meaning.specs.Calculations.Laws.{EndsAs, part_begun}
use Rattle.rpg_meaning.specs.Calculations.Meaning.{CardsCome, MeantOutcome, On, Over, Stops, part_has_end}
use Rattle.rpg_meaning.specs.Calculations.Parts.{InDetail, InSubroutine, InTotal, Part}
use Rattle.rpg_program.specs.Constants.{word_at}
use Rattle.rpg_program.specs.Object.{Object, lines_of}
use Rattle.rpg_program.specs.Sections as places
use Rattle.rpg_cycle_records.specs.Earlier.{Selected}
use Rattle.rpg_program.proofs.Renaming.Inputs.{record_same}
use Rattle.rpg_program.proofs.Renaming.Lines.{data_same}
use Rattle.rpg_program.proofs.Renaming.Outputs.{detail_same, overflow_same, total_same}
use Rattle.rpg_program.specs.Naming.{Agree, SameEffect, renamed_input, renamed_line, renamed_type}
use Rattle.rpg_cycle_safety.proofs.Working.{IsTaken}

-- ---- indicators

-- only which are on changes
abbrev pub with_on : (set.FinSet nat_cmp → set.FinSet nat_cmp) → Config → Config
with_on f c = record c { world = with_data (record c.world.data { on = f c.world.data.on }) c.world }

pub all_turned : (ns : List ℕ) (b : Bool) (c : Config) → with_all ns b c ≡ with_on (turned_all ns b) c
all_turned [] b c = refl
all_turned (n ∷ ns) b c = all_turned ns b (with_one n b c)

turned_append : (ms ns : List ℕ) (b : Bool) (on : set.FinSet nat_cmp) → turned_all (ms ++ ns) b on ≡ turned_all ns b (turned_all ms b on)
turned_append [] ns b on = refl
turned_append (m ∷ ms) ns b on = turned_append ms ns b (indicators_turned m b on)

pub any_same : (ns : List ℕ) (c : Config) (on : set.FinSet nat_cmp) → c.world.data.on ≡ on → indicators.any_on c ns ≡ list_any (λ n. set.contains on n) ns
any_same [] c on e = refl
any_same (n ∷ ns) c on e = λ i. set.contains (e i) n || any_same ns c on e i

-- those of the types, but for LR
abbrev type_list : {K : Type 0} → List (TypeRow K) → List ℕ
type_list types = filter (λ n. not (n == last_record)) (filter_map (λ t. t.indicator) types)

types_turned : (ts : List (TypeRow ℕ)) (c : Config) → without_types ts c ≡ with_on (turned_all (type_list ts) false) c
types_turned [] c = refl
types_turned (t ∷ ts) c = by t.indicator (types_turned ts)
  where
    one : (n : ℕ) (b : Bool) → ((d : Config) → without_types ts d ≡ with_on (turned_all (type_list ts) false) d)
        → without_types ts (cond b c (with_one n false c)) ≡ with_on (turned_all (cond (not b) (n ∷ type_list ts) (type_list ts)) false) c
    one n true later = later c
    one n false later = later (with_one n false c)

    by : (o : Option ℕ) → ((d : Config) → without_types ts d ≡ with_on (turned_all (type_list ts) false) d)
        → without_types ts (without_type o c) ≡ with_on (turned_all (filter (λ n. not (n == last_record)) (cons_option o (filter_map (λ t. t.indicator) ts))) false) c
    by None later = later c
    by (Some n) later = one n (n == last_record) later

types_same : (number : Key → ℕ) (ts : List (TypeRow Key)) → filter_map (λ (t : TypeRow ℕ). t.indicator) (map (renamed_type number) ts) ≡ filter_map (λ (t : TypeRow Key). t.indicator) ts
types_same number [] = refl
types_same number (t ∷ ts) = ap (cons_option t.indicator) (types_same number ts)

pub on_agrees : (forms : Key → Option FieldForm) (number : Key → ℕ) (f : set.FinSet nat_cmp → set.FinSet nat_cmp) (v : World key_cmp) (w : World nat_cmp) → Agree forms number v w → Agree forms number (with_data (record v.data { on = f v.data.on }) v) (with_data (record w.data { on = f w.data.on }) w)
on_agrees forms number f v w a = record { «data» = record { fields = a.data.fields; on = ap f a.data.on; remainder = a.data.remainder }; paper = a.paper }

module _ {p : Object} {job : Job} {number : Key → ℕ} (orderly : IsOrderly p) (is : IsProgramOf p job number) where
  -- ---- output

  -- what holds at the cards' overflow and lines holds at the program's
  at_program : (P : Overflow → List (Line ℕ) → Type 0) → P job.source.overflow (map (renamed_line number) job.source.lines) → P p.overflow (lines_of p)
  at_program P h = subst (P p.overflow) (sym is.calculations.lines) (subst (λ o. P o (map (renamed_line number) job.source.lines)) (sym is.calculations.overflow) h)

  pub details_follow : (P : Selection) → Follows p job number P (machine.detail_lines p) (cards.meant_detail_lines job) P
  details_follow P =
      follows_effect p job number P _ (machine_outputs.output_effect p times.Detail) (detail_output job.source.forms job.source.words job.source.overflow job.source.lines) (output_keeps p orderly.program orderly.sound times.Detail)
      (λ v w a. at_program (λ o ls. SameEffect job.source.forms number (detail_output job.source.forms job.source.words job.source.overflow job.source.lines v) (detail_output (form_at p.fields) (word_at p) o ls w))
      (detail_same is.calculations.names job.source.words (word_at p) is.calculations.words job.source.overflow job.source.lines (lines_named orderly is.calculations) v w a))

  pub totals_follow : (P : Selection) → Follows p job number P (machine.output p times.Total) (by_effect (total_output job.source.forms job.source.words job.source.overflow job.source.lines)) P
  totals_follow P =
      follows_effect p job number P _ (machine_outputs.output_effect p times.Total) (total_output job.source.forms job.source.words job.source.overflow job.source.lines) (output_keeps p orderly.program orderly.sound times.Total)
      (λ v w a. at_program (λ o ls. SameEffect job.source.forms number (total_output job.source.forms job.source.words job.source.overflow job.source.lines v) (total_output (form_at p.fields) (word_at p) o ls w))
      (total_same is.calculations.names job.source.words (word_at p) is.calculations.words job.source.overflow job.source.lines (lines_named orderly is.calculations) v w a))

  overflow_follows : (P : Selection) → Follows p job number P (machine.output p times.Overflow) (by_effect (overflow_output job.source.forms job.source.words job.source.overflow job.source.lines)) P
  overflow_follows P =
      follows_effect p job number P _ (machine_outputs.output_effect p times.Overflow) (overflow_output job.source.forms job.source.words job.source.overflow job.source.lines) (output_keeps p orderly.program orderly.sound times.Overflow)
      (λ v w a. at_program (λ o ls. SameEffect job.source.forms number (overflow_output job.source.forms job.source.words job.source.overflow job.source.lines v) (overflow_output (form_at p.fields) (word_at p) o ls w))
      (overflow_same is.calculations.names job.source.words (word_at p) is.calculations.words job.source.overflow job.source.lines (lines_named orderly is.calculations) v w a))

  -- a page that isn't full
  pub overflows_follow : (P : Selection) → Follows p job number P (machine.overflow_lines p) (cards.meant_overflow_lines job) P
  overflows_follow P =
      follows_unless p job number P (machine.has_no_overflow p.overflow.indicator) _ (machine.output p times.Overflow) (by_effect (overflow_output job.source.forms job.source.words job.source.overflow job.source.lines))
      (λ c s same. ap (λ o. machine.has_no_overflow o.indicator c.config) is.calculations.overflow ∙ by job.source.overflow.indicator c s same) (overflow_follows P)
    where
      by : (o : Option ℕ) (c : UnderWay) (s : JobState) → Same p job number s c → machine.has_no_overflow o c.config ≡ not (option_map_or (λ n. set.contains s.world.data.on n) o false)
      by None c s same = refl
      by (Some n) c s same = ap (λ on. not (set.contains on n)) same.world.data.on

  -- ---- calculations

  same_end : (part : Part) → part_has_end part ≡ true → places.has_end (part_section job.source.sections part) ≡ true
  same_end InDetail h = refl
  same_end InTotal h = refl
  same_end (InSubroutine name) h = absurd (let never : false ≡ true = h in cc)

  named_fine : (e : effects.End) → leading.IsNamedEnd e → IsFine (phase_end e)
  named_fine effects.Continues h = tt
  named_fine (effects.Halt k) h = tt
  named_fine (effects.Wrong f) h = h

  pub section_follows : (P : Selection) (part : Part) → part_has_end part ≡ true → Follows p job number P (machine.section p (part_section job.source.sections part)) (calculated job.source part) P
  section_follows P part ended c s settled same e d out (last, run, ends, files, kept) =
      by m.0 m.1 m.2
    where
      m : (x : MeantOutcome) × CardsCome job.source (part_begun part s.world s.allowance) x × EndsAs p job.source number x last d.config out
      m = subst (λ a. (x : MeantOutcome) × CardsCome job.source (part_begun part s.world a) x × EndsAs p job.source number x last d.config out) same.allowance
          ((meaning_kept orderly is.calculations).runs part ended s.world c.config same.world settled.values.fits settled.no_cell last d.config out run)

      well : leading.EndsWell p (part_section job.source.sections part) c.config last d.config
      well = ends_well p orderly (part_section job.source.sections part) c.config last d.config out (same_end part ended) settled.no_cell settled.values run

      back : (l : effects.End) → phase_end l ≡ Continues → l ≡ effects.Continues
      back effects.Continues h = refl
      back (effects.Halt k) h = absurd (let never : Halt k ≡ Continues = h in cc)
      back (effects.Wrong f) h = absurd (let never = h in cc)

      settles : e ≡ Continues → IsSettled p job number P d
      settles on = record { values = well.values; no_cell = well.no_cell (back last (sym ends ∙ on)); waiting = subst (AreWaiting p) (sym files) settled.waiting; selected = subst P (sym kept) settled.selected }

      by : (x : MeantOutcome) → CardsCome job.source (part_begun part s.world s.allowance) x → EndsAs p job.source number x last d.config out → Followed p job number (calculated job.source part) P s e d out
      by (On u o) come (goes, put, a) =
          let state : JobState = record s { world = u.world; allowance = u.allowance } in
          record {
            state = state;
            meets = (On u o, come, (ends ∙ ap phase_end goes, refl, put));
            same = record { world = a.world; allowance = a.allowance; inputs = files ∙ same.inputs; selected = kept ∙ same.selected };
            fine = subst IsFine (sym ends) (named_fine last well.ending);
            settled = settles;
          }
      by (Stops k u o) come (halts, put, a) =
          let state : JobState = record s { world = u.world; allowance = u.allowance } in
          record {
            state = state;
            meets = (Stops k u o, come, (ends ∙ ap phase_end halts, refl, put));
            same = record { world = a.world; allowance = a.allowance; inputs = files ∙ same.inputs; selected = kept ∙ same.selected };
            fine = subst IsFine (sym ends) (named_fine last well.ending);
            settled = settles;
          }
      by Over come h = absurd h

  -- ---- what puts nothing out

  pub halting_follows : (P : Selection) → Follows p job number P machine.halt_if_indicated (cards.meant_halt_if_indicated job) P
  halting_follows P =
      follows_does p job number P P _ (λ s. (cond (any_on_in halt_indicators s) (Halt 6) Continues, s))
      (λ c s settled same. let tested = any_same halt_indicators c.config s.world.data.on same.world.data.on in
      record {
        ends = ap (λ b. cond b (Halt 6) Continues) tested;
        same = same;
        fine = either_fine (indicators.any_on c.config halt_indicators);
        settled = λ on. settled;
      })
    where
      either_fine : (b : Bool) → IsFine (cond b (Halt 6) Continues)
      either_fine true = tt
      either_fine false = tt

  off_list : List ℕ
  off_list = type_list job.types ++ (level_indicators ++ first_page ∷ [])

  off_same : (c : Config) → machine.all_off p c ≡ with_on (turned_all off_list false) c
  unfolding off_list
  off_same c =
      let types = types_turned p.types c ∙ ap (λ ns. with_on (turned_all (filter (λ n. not (n == last_record)) ns) false) c) (ap (filter_map (λ (t : TypeRow ℕ). t.indicator)) is.same_types ∙ types_same number job.types) in
      ap (λ d. with_one first_page false (with_all level_indicators false d)) types
      ∙ ap (λ d. with_one first_page false d) (all_turned level_indicators false (with_on (turned_all (type_list job.types) false) c))
      ∙ ap (λ (f : set.FinSet nat_cmp). record c { world = with_data (record c.world.data { on = f }) c.world })
      (sym (turned_append level_indicators (first_page ∷ []) false (turned_all (type_list job.types) false c.world.data.on)) ∙ sym (turned_append (type_list job.types) (level_indicators ++ first_page ∷ []) false c.world.data.on))

  -- only indicators were turned
  pub turned_same : (ns : List ℕ) (b : Bool) (c d : UnderWay) (s : JobState) → d.config ≡ with_on (turned_all ns b) c.config → d.inputs ≡ c.inputs → d.selected ≡ c.selected → Same p job number s c → Same p job number (with_turned ns b s) d
  turned_same ns b c d s config inputs selected same = record {
    world = subst (λ (x : Config). Agree job.source.forms number (with_turned ns b s).world x.world) (sym config) (on_agrees job.source.forms number (turned_all ns b) s.world c.config.world same.world);
    allowance = ap (λ (x : Config). x.allowance) config ∙ same.allowance;
    inputs = inputs ∙ same.inputs;
    selected = selected ∙ same.selected;
  }

  turned_settled : (P : Selection) (ns : List ℕ) (b : Bool) (c d : UnderWay) → d.config ≡ with_on (turned_all ns b) c.config → d.inputs ≡ c.inputs → d.selected ≡ c.selected → IsSettled p job number P c → IsSettled p job number P d
  turned_settled P ns b c d config inputs selected settled = record {
    values = same_fields p c.config.world.data d.config.world.data settled.values (ap (λ (x : Config). x.world.data.fields) config);
    no_cell = ap (λ (x : Config). x.cells) config ∙ settled.no_cell;
    waiting = subst (AreWaiting p) (sym inputs) settled.waiting;
    selected = subst P (sym selected) settled.selected;
  }

  pub off_follows : (P : Selection) → Follows p job number P (machine.set_off p) (cards.meant_set_off job) P
  unfolding off_list
  off_follows P =
      follows_does p job number P P (λ c. machine.done Continues (machine.with_config (machine.all_off p) c)) (λ s. (Continues, with_turned off_list false s))
      (λ c s settled same.
      let d = machine.with_config (machine.all_off p) c in
      record {
        ends = refl;
        same = turned_same off_list false c d s (off_same c.config) refl refl same;
        fine = tt;
        settled = λ on. turned_settled P off_list false c d (off_same c.config) refl refl settled;
      })

  pub ending_follows : (P : Selection) → Follows p job number P machine.end_where_last (cards.meant_end_where_last job) P
  ending_follows P =
      follows_does p job number P P _ (λ s. (cond (set.contains s.world.data.on last_record || is_none s.selected) EndOfJob Continues, s))
      (λ c s settled same. record {
        ends = λ i. cond (set.contains (same.world.data.on i) last_record || is_none (same.selected i)) EndOfJob Continues;
        same = same;
        fine = either_end (indicators.is_on c.config last_record || is_none c.selected);
        settled = λ on. settled;
      })
    where
      either_end : (b : Bool) → IsFine (cond b EndOfJob Continues)
      either_end true = tt
      either_end false = tt

  -- ---- the fields of a record

  inputs_at_type : (type : ℕ) → machine_outputs.inputs_at p type ≡ map (renamed_input number) (cards.meant_inputs_at job type)
  inputs_at_type type = ap (λ ts. input_fields_of (slice_get ts type)) is.same_types ∙ ap input_fields_of (slice_get-map (renamed_type number) job.types type) ∙ by (slice_get job.types type)
    where
      by : (o : Option (TypeRow Key)) → input_fields_of (option_map (renamed_type number) o) ≡ map (renamed_input number) (option_map_or (λ t. t.inputs) o [])
      by None = refl
      by (Some t) = refl

  filled_from : (o : Option Selected) (c : UnderWay) (s : JobState) → c.selected ≡ o → IsSettled p job number (IsTaken p) c → Same p job number s c → (e : PhaseEnd) (d : UnderWay) (out : Output) → machine.fill_from p o c e d out
      → Followed p job number (cards.meant_fill_from job o) (λ x. Unit {0}) s e d out
  filled_from None c s at settled same e d out met = followed_any (follows_pass p job number (IsTaken p) c s settled same e d out met)
    where
      followed_any : Followed p job number meant_passes (IsTaken p) s e d out → Followed p job number meant_passes (λ x. Unit {0}) s e d out
      followed_any o = record { state = o.state; meets = o.meets; same = o.same; fine = o.fine; settled = λ on. let x = o.settled on in record { values = x.values; no_cell = x.no_cell; waiting = x.waiting; selected = tt } }
  filled_from (Some r) c s at settled same e d out met =
      let taken = subst (IsTaken p) at settled.selected in
      let inputs = machine_outputs.inputs_at p r.type in
      let right = subst (λ (len : ℕ). All (λ f. input_fault (form_at p.fields) len f ≡ None) inputs) (sym taken.long) (inputs_right p r.type orderly.sound) in
      let fill : Data key_cmp → Ended key_cmp = record_in job.source.forms r.text (cards.meant_inputs_at job r.type) in
      follows_effect p job number (λ x. Unit {0}) (length inputs) (on_data (record_in (form_at p.fields) r.text inputs)) (on_data fill)
      (λ w h. on_data_keeps p (record_in (form_at p.fields) r.text inputs) w (record_keeps p orderly.forms r.text inputs w.data right taken.characters h))
      (λ v w a. subst (λ fs. SameEffect job.source.forms number (on_data fill v) (on_data (record_in (form_at p.fields) r.text fs) w)) (sym (inputs_at_type r.type))
      (data_same fill (record_in (form_at p.fields) r.text (map (renamed_input number) (cards.meant_inputs_at job r.type))) v w a
      (record_same is.calculations.names r.text (cards.meant_inputs_at job r.type) v.data w.data a.data)))
      c s (record { values = settled.values; no_cell = settled.no_cell; waiting = settled.waiting; selected = tt }) same e d out met

  pub filling_follows : Follows p job number (IsTaken p) (machine.fill_fields p) (cards.meant_fill_fields job) (λ x. Unit {0})
  filling_follows c s settled same e d out met =
      let o = filled_from c.selected c s refl settled same e d out met in
      record { state = o.state; meets = subst (λ x. cards.meant_fill_from job x s e o.state out) same.selected o.meets; same = o.same; fine = o.fine; settled = o.settled }
