-- Where a phase, a cycle and a run stand when they end.
use Rattle.std.proofs.Common.{◌≡◌, ◌+◌, ℕ, ℤ, zero, suc, Bool, true, false, cond, not, ◌&&◌, eqb, eq-eqb, List, [], ◌∷◌, length, slice_get, take, Option, None, Some, refl, sym, ap, ◌∙◌, subst, inl, inr, arith}
use Rattle.std.specs.List.{list_all}
use Rattle.std.specs.Ordering.{nat_cmp}
use Rattle.rpg_cycle.specs.Ends.{PhaseEnd, Continues, EndOfJob, Halt, Wrong, phase_end}
use Rattle.rpg_cycle.specs.Indicators.{is_on, last_record, level_indicators, with_all, with_levels, with_one, with_type, without_type, without_types}
use Rattle.rpg_cycle.specs.Phases.{CycleOn, Done, Phase, UnderWay, all_off, begun, broken_level, by_machine, without_output, done, either, fill_from, from_there, identify, needs_record, output, nothing_done, read_record, section, select_from, select_record, select_waiting, take_type, type_indicator, unless, with_config, with_inputs, ◌before◌}
use Rattle.rpg_cycle.specs.Runs.{Course, Records, RunsIn, ends_or, left_following, next_of}
use Rattle.rpg_cycle.specs.Standing.{RunsStandRight, StandsRightAtEnd}
use Rattle.rpg_cycle.specs.Starting.{job_start}
use Rattle.rpg_cycle_records.specs.Earlier.{Left, Selected, control_fields, last_of_file, left_by, match_fields, match_value, with_record}
use Rattle.rpg_cycle_records.specs.Matching.{exceeds}
use Rattle.rpg_cycle_records.specs.Waiting.{Inputs, chosen, has_match, takes_in, unread, waiting_in, with_waiting}
use Rattle.rpg_program.specs.declared.input.InputFile.{InputFile}
use Rattle.rpg_program.specs.declared.input.InputFile.TheVariants.{Primary, Secondary}
use Rattle.rpg_cycle_records.specs.Identifying.{IsOf, IsOfNone, Misplaced, Trial, identified, is_valid_record, padded, trial_weight}
use Rattle.rpg_cycle_records.specs.Levels.{is_in_record}
use Rattle.rpg_program.specs.Effect.{Effect}
use Rattle.rpg_program.specs.Ends as effects
use Rattle.rpg_program.specs.Input.{TypeRow}
use Rattle.rpg_program.specs.World.{Fields, World}
use Rattle.rpg_machine.proofs.Standing.{sections_stand_right}
use Rattle.rpg_machine.specs.Config.{Config, Output, charged, here}
use Rattle.rpg_machine.specs.Laws as machines
use Rattle.rpg_machine.specs.Outputs.{ByEffect}
use Rattle.rpg_machine.specs.Run.{running_place}
use Rattle.rpg_machine.specs.declared.time.OutputTime.{OutputTime}
use Rattle.rpg_machine.specs.declared.time.OutputTime.TheVariants as times
use Rattle.rpg_program.specs.Object.{Object}
use Rattle.rpg_program.specs.Sections.{first_place, has_end, place_after}
use Rattle.rpg_program.specs.declared.section.Place.{Place}
use Rattle.rpg_program.specs.declared.section.Section.{Section}
use Rattle.rpg_program.specs.declared.section.Section.TheVariants as sections

-- ---- indicators and steps leave the place as it is

record Stays (c d : Config) : Type 0 where
  section : d.section ≡ c.section
  place : d.place ≡ c.place

still : (c : Config) → Stays c c
still c = record { section = refl; place = refl }

and_stays : (c d e : Config) → Stays c d → Stays d e → Stays c e
and_stays c d e h g = record { section = g.section ∙ h.section; place = g.place ∙ h.place }

all_stay : (ns : List ℕ) (on : Bool) (c : Config) → Stays c (with_all ns on c)
all_stay [] on c = still c
all_stay (n ∷ ns) on c = let rest = all_stay ns on (with_one n on c) in record { section = rest.section; place = rest.place }

type_stays : (n : Option ℕ) (c : Config) → Stays c (with_type n c)
type_stays None c = still c
type_stays (Some n) c = record { section = refl; place = refl }

unless_last_stays : (b : Bool) (n : ℕ) (c : Config) → Stays c (cond b c (with_one n false c))
unless_last_stays true n c = still c
unless_last_stays false n c = record { section = refl; place = refl }

without_stays : (n : Option ℕ) (c : Config) → Stays c (without_type n c)
without_stays None c = still c
without_stays (Some n) c = unless_last_stays (eqb n last_record) n c

withouts_stay : (ts : List (TypeRow ℕ)) (c : Config) → Stays c (without_types ts c)
withouts_stay [] c = still c
withouts_stay (t ∷ ts) c = and_stays c (without_type t.indicator c) _ (without_stays t.indicator c) (withouts_stay ts (without_type t.indicator c))

off_stays : (p : Object) (c : Config) → Stays c (all_off p c)
off_stays p c =
    let types = without_types p.types c in
    let all = all_stay level_indicators false types in
    and_stays c types _ (withouts_stay p.types c) (record { section = all.section; place = all.place })

-- ---- phases

abbrev place_at : Object → Section → ℕ → Option Place
place_at p s n = cond (has_end s && eqb n (place_after p s)) None (Some (record { section = s; number = n }))

module _ (p : Object) where
  same_place : (c d : Config) → Stays c d → running_place p d ≡ running_place p c
  same_place c d h = ap (λ s. place_at p s d.place) h.section ∙ ap (place_at p c.section) h.place

  -- from the end of calculations
  record Stands (P : Phase) : Type 0 where
    right : (c : UnderWay) (e : PhaseEnd) (d : UnderWay) (out : Output) → P c e d out → running_place p c.config ≡ None → StandsRightAtEnd p e d.config

  outside : (e : PhaseEnd) (d : Config) → running_place p d ≡ None → StandsRightAtEnd p e d
  outside Continues d none = none
  outside EndOfJob d none = none
  outside (Halt k) d none = inl none
  outside (Wrong f) d none = tt

  does_stands : (f : UnderWay → Done) → ((c : UnderWay) → Stays c.config (f c).leads.config) → Stands (without_output f)
  does_stands f stays = record {
    right = λ c e d out h none.
        outside e d.config (ap (λ (u : UnderWay). running_place p u.config) h.1 ∙ same_place c.config (f c).leads.config (stays c) ∙ none);
  }

  effect_stands : (weight : ℕ) (effect : World nat_cmp → Effect nat_cmp) → Stands (by_machine (ByEffect weight effect))
  effect_stands weight effect = record { right = λ c e d out h none. outside e d.config (ap (λ (x : Config). running_place p x) h.1.leads ∙ none) }

  section_ends : (last : effects.End) (d : Config) → machines.StandsRight p last d → StandsRightAtEnd p (phase_end last) d
  section_ends effects.Continues d right = right
  section_ends (effects.Halt k) d right = inr right
  section_ends (effects.Wrong f) d right = tt

  section_stands : (s : Section) → Stands (section p s)
  section_stands s = record {
    right = λ c e d out h none.
        subst (λ (x : PhaseEnd). StandsRightAtEnd p x d.config) (sym h.2) (section_ends h.0 d.config (sections_stand_right p s c.config h.0 d.config out h.1));
  }

  there_stands : (Q : Phase) → Stands Q → (f : PhaseEnd) (m : UnderWay) (put : Output) (e : PhaseEnd) (d : UnderWay) (out : Output) →
      from_there Q f m put e d out → StandsRightAtEnd p f m.config → StandsRightAtEnd p e d.config
  there_stands Q q Continues m put e d out h right = q.right m e d h.0 h.1 right
  there_stands Q q EndOfJob m put e d out h right = subst (λ (x : PhaseEnd). StandsRightAtEnd p x d.config) (sym h.0) (subst (λ (u : UnderWay). StandsRightAtEnd p EndOfJob u.config) (sym h.1) right)
  there_stands Q q (Halt k) m put e d out h right = subst (λ (x : PhaseEnd). StandsRightAtEnd p x d.config) (sym h.0) (subst (λ (u : UnderWay). StandsRightAtEnd p (Halt k) u.config) (sym h.1) right)
  there_stands Q q (Wrong f) m put e d out h right = subst (λ (x : PhaseEnd). StandsRightAtEnd p x d.config) (sym h.0) tt

  before_stands : (P Q : Phase) → Stands P → Stands Q → Stands (P before Q)
  before_stands P Q s q = record { right = λ c e d out h none. there_stands Q q h.0 h.1 h.2 e d out h.4 (s.right c h.0 h.1 h.2 h.3 none) }

  either_stands : (b : Bool) (P Q : Phase) → Stands P → Stands Q → Stands (either b P Q)
  either_stands true P Q s q = s
  either_stands false P Q s q = q

  passes_stands : Stands nothing_done
  passes_stands = does_stands _ (λ c. still c.config)

  unless_stands : (test : Config → Bool) (P : Phase) → Stands P → Stands (unless test P)
  unless_stands test P s = record { right = λ c e d out h none. (either_stands (test c.config) nothing_done P passes_stands s).right c e d out h none }

  -- ---- records are taken in, and one is selected

  matched_stays : (bad low : Bool) (f : Inputs → Inputs) (c : UnderWay) →
      Stays c.config (cond bad (done (Wrong effects.Storage) c) (cond low (done (Halt 8) c) (done Continues (with_inputs f c)))).leads.config
  matched_stays true low f c = still c.config
  matched_stays false true f c = still c.config
  matched_stays false false f c = still c.config

  type_taken : (left : Left) (f : InputFile) (text : List ℕ) (t : Trial) (c : UnderWay) → Stays c.config (take_type p left f text t c).leads.config
  type_taken left f text (IsOf t) c =
      let s : Selected = record { type = t; text = text } in
      let m = matched_stays (not (list_all (is_in_record (length text)) (match_fields p t))) (exceeds (last_of_file left f) (match_value p s)) (with_waiting f (Some s))
      (with_config (charged (length (match_fields p t))) c) in
      record { section = m.section; place = m.place }
  type_taken left f text IsOfNone c = still c.config
  type_taken left f text Misplaced c = still c.config

  valid_stays : (b : Bool) (left : Left) (f : InputFile) (text : List ℕ) (c : UnderWay) → Stays c.config (cond b (identify p left f text c) (done (Halt 7) c)).leads.config
  valid_stays true left f text c =
      let taken = type_taken left f text (identified f 0 p.types text) (with_config (charged (trial_weight f p.types text)) c) in record { section = taken.section; place = taken.place }
  valid_stays false left f text c = still c.config

  read_stays : (left : Left) (f : InputFile) (next : Option (List ℕ)) (c : UnderWay) → Stays c.config (read_record p left f next c).leads.config
  read_stays left f None c = still c.config
  read_stays left f (Some text) c = valid_stays (is_valid_record p f text) left f (padded p f text) c

  taking_stays : (b : Bool) (left : Left) (f : InputFile) (next : Option (List ℕ)) (c : UnderWay) → Stays c.config (cond b (read_record p left f next c) (done Continues c)).leads.config
  taking_stays true left f next c = read_stays left f next c
  taking_stays false left f next c = still c.config

  levels_stay : (b : Bool) (s : Selected) (n m : ℕ) (c : UnderWay) →
      Stays c.config (cond b (done Continues (with_config (λ x. with_levels n (charged m x)) (record c { selected = Some s }))) (done (Wrong effects.Storage) (with_config (charged m) c))).leads.config
  levels_stay true s n m c = let all = all_stay (take n level_indicators) true (charged m c.config) in record { section = all.section; place = all.place }
  levels_stay false s n m c = record { section = refl; place = refl }

  waiting_stays : (left : Left) (f : InputFile) (o : Option Selected) (c : UnderWay) → Stays c.config (select_waiting p left f o c).leads.config
  waiting_stays left f None c = still c.config
  waiting_stays left f (Some s) c =
      let on = with_config (with_type (type_indicator (slice_get p.types s.type))) (with_inputs (with_waiting f None) c) in
      and_stays c.config on.config _ (type_stays (type_indicator (slice_get p.types s.type)) c.config)
      (levels_stay (list_all (is_in_record (length s.text)) (control_fields p s.type)) s (broken_level p left s) (length (control_fields p s.type)) on)

  from_stays : (left : Left) (o : Option InputFile) (c : UnderWay) → Stays c.config (select_from p left o c).leads.config
  from_stays left None c = let all = all_stay level_indicators true (with_one last_record true c.config) in record { section = all.section; place = all.place }
  from_stays left (Some f) c = waiting_stays left f (waiting_in c.inputs f) c

  select_stands : (left : Left) (a b : Option (List ℕ)) → Stands (select_record p left a b)
  select_stands left a b = record {
    right = λ c e d out h none.
        (either_stands (is_on c.config last_record) _ _ (does_stands _ (λ c. all_stay level_indicators true c.config))
        (before_stands _ _ (does_stands _ (λ c. taking_stays (takes_in p c.inputs Primary) left Primary a c))
        (before_stands _ _ (does_stands _ (λ c. taking_stays (takes_in p c.inputs Secondary) left Secondary b c))
        (does_stands _ (λ c. from_stays left (chosen p left (waiting_in c.inputs Primary) (waiting_in c.inputs Secondary)) c))))).right c e d out h none;
  }

  -- ---- a cycle

  fill_stands : (s : Option Selected) → Stands (fill_from p s)
  fill_stands None = passes_stands
  fill_stands (Some s) = effect_stands _ _

  output_stands : (time : OutputTime) → Stands (output p time)
  output_stands time = effect_stands _ _

  cycle_stands : (left : Left) (matches : Inputs → Selected → Bool) (a b : Option (List ℕ)) → Stands (CycleOn p left matches a b)
  cycle_stands left matches a b =
      before_stands _ _ (output_stands times.Detail)
      (before_stands _ _ (does_stands _ (λ c. still c.config))
      (before_stands _ _ (does_stands _ (λ c. off_stays p c.config))
      (before_stands _ _ (select_stands left a b)
      (before_stands _ _ (unless_stands _ _ (before_stands _ _ (section_stands sections.Total) (output_stands times.Total)))
      (before_stands _ _ (does_stands _ (λ c. still c.config))
      (before_stands _ _ (unless_stands _ _ (output_stands times.Overflow))
      (before_stands _ _ (does_stands _ (λ c. record { section = refl; place = refl }))
      (before_stands _ _ (record { right = λ c e d out h none. (fill_stands c.selected).right c e d out h none })
      (section_stands sections.Detail)))))))))

  -- ---- a run

  ends_stand : (e : PhaseEnd) (d : UnderWay) (out : Output) (Rest : UnderWay → Course → Type 0) (course : Course) → StandsRightAtEnd p e d.config
      → (running_place p d.config ≡ None → (rest : Course) → Rest d rest → StandsRightAtEnd p rest.ending rest.there.config) → ends_or e d out Rest course → StandsRightAtEnd p course.ending course.there.config
  ends_stand Continues d out Rest course right go (rest, h, is) = subst (λ (x : Course). StandsRightAtEnd p x.ending x.there.config) (sym is) (go right rest h)
  ends_stand EndOfJob d out Rest course right go is = subst (λ (x : Course). StandsRightAtEnd p x.ending x.there.config) (sym is) right
  ends_stand (Halt k) d out Rest course right go is = subst (λ (x : Course). StandsRightAtEnd p x.ending x.there.config) (sym is) right
  ends_stand (Wrong f) d out Rest course right go is = subst (λ (x : Course). StandsRightAtEnd p x.ending x.there.config) (sym is) right

  runs_stand : (n : ℕ) (rs : Records) (earlier : List Selected) (c : Config) (i : Inputs) (course : Course) → running_place p c ≡ None → RunsIn n p earlier rs c i course
      → StandsRightAtEnd p course.ending course.there.config
  runs_stand zero rs earlier c i course none h = absurd h
  runs_stand (suc n) rs earlier c i course none (e, d, out, cycle, ends) =
      ends_stand e d out (λ d rest. RunsIn n p (with_record d.selected earlier) (left_following p c i rs) d.config d.inputs rest) course
      ((cycle_stands (left_by p earlier) (has_match p earlier) (next_of (needs_record p c i Primary) rs.primary) (next_of (needs_record p c i Secondary) rs.secondary)).right (begun p c i) e d out cycle none)
      (λ on rest h. runs_stand n (left_following p c i rs) (with_record d.selected earlier) d.config d.inputs rest on h) ends

  -- a job starts after detail calculations
  starts_outside : (date : ℤ) (fields : Fields nat_cmp) → running_place p (job_start p date fields) ≡ None
  unfolding place_after first_place
  starts_outside date fields = ap (λ (b : Bool). cond b None (Some (here (job_start p date fields)))) (eq-eqb (length p.detail) (0 + length p.detail) (omega arith))

pub runs_stand_right : RunsStandRight
runs_stand_right p date fields records course bytes run = runs_stand p course.cycles records [] (job_start p date fields) unread course (starts_outside p date fields) run.runs
