-- The selection of a record is followed.
use Rattle.std.proofs.Common.{◌≡◌, ℕ, ◌+◌, ◌-◌, Bool, true, false, not, cond, ◌||◌, ◌&&◌, List, [], ◌∷◌, ◌++◌, length, map, replicate, slice_get, take, Option, None, Some, refl, sym, ap, ◌∙◌, subst, nat_le, eqb, is_none}
use Rattle.std.proofs.lemmas.Option.{slice_get-map}
use Rattle.std.specs.FinSet as set
use Rattle.std.specs.List.{list_all, list_any}
use Rattle.std.specs.Option.{option_map, option_map_or, option_to_list}
use Rattle.rpg_cards.specs.Keys.{Key}
use Rattle.rpg_cycle.specs.Ends.{PhaseEnd, Continues, EndOfJob, Halt, Wrong}
use Rattle.rpg_cycle.specs.Indicators as indicators
use Rattle.rpg_cycle.specs.Indicators.{last_record, level_indicators, matching_record, with_all, with_levels, with_one, with_type}
use Rattle.rpg_cycle.specs.Phases as machine
use Rattle.rpg_cycle.specs.Phases.{Done, UnderWay, done, type_indicator, with_config, with_inputs, ◌before◌}
use Rattle.rpg_program.specs.Ends as effects
use Rattle.rpg_program.specs.Input.{TypeRow}
use Rattle.rpg_program.specs.World.{with_data}
use Rattle.rpg_program.specs.declared.input.InputFile.{InputFile}
use Rattle.rpg_program.specs.declared.input.InputFile.TheVariants.{Primary, Secondary}
use Rattle.rpg_text.specs.Texts.{is_character}
use Rattle.rpg_meaning.proofs.Jobs.Following.{Alike, Follows, IsFine, IsSettled, Same, Selection, follows_both, follows_does, follows_then}
use Rattle.rpg_meaning.proofs.Jobs.Steps.{all_turned, on_agrees}
use Rattle.rpg_meaning.specs.Jobs.Cycle as cards
use Rattle.rpg_meaning.proofs.Jobs.ProgramOf.{IsProgramOf}
use Rattle.rpg_meaning.specs.Jobs.Job.{Job, JobState}
use Rattle.rpg_meaning.specs.Jobs.Phases.{meant_does, meant_either, turned_all, with_turned, ◌andthen◌}
use Rattle.rpg_machine.specs.Accepted.{IsOrderly}
use Rattle.rpg_machine.specs.Config.{Config, charged}
use Rattle.rpg_program.specs.Object.{Object, input_length}
use Rattle.rpg_cycle_records.specs.Earlier as records
use Rattle.rpg_cycle_records.specs.Earlier.{Selected, any_agrees, control_fields, file_of, is_any, last_of_file, last_value, left_by, levels_of, match_fields, match_value, row_match_fields, or_before, value_from, with_record}
use Rattle.rpg_cycle_records.specs.Identifying.{IsOf, IsOfNone, Misplaced, Trial, code_holds, has_position, identified, is_valid_record, padded, same_file, trial_weight}
use Rattle.rpg_cycle_records.specs.Levels.{differs, highest_broken, is_in_record, level_bytes}
use Rattle.rpg_cycle_records.specs.Matching.{agrees, exceeds, match_value_in}
use Rattle.rpg_cycle_records.specs.Waiting.{Inputs, chosen, first_of, has_match, input_at, is_after_end, other_file, with_file_over, takes_in, waiting_in, with_waiting}
use Rattle.rpg_program.specs.Naming.{Agree, renamed_type}
use Rattle.rpg_cycle_safety.proofs.Selecting.{Picks, levels_alone, selects, takes}
use Rattle.rpg_cycle_safety.proofs.Working.{IsTaken}
use Rattle.rpg_cycle_safety.proofs.Writing.{same_fields}
use Rattle.rpg_cycle_safety.specs.Coming.{IsCycleEnd}

-- nothing is selected
abbrev pub IsNone : Selection
IsNone o = o ≡ None

named_fine : (e : PhaseEnd) → IsCycleEnd e → IsFine e
named_fine Continues h = tt
named_fine EndOfJob h = tt
named_fine (Halt k) h = tt
named_fine (Wrong f) h = h

-- ---- which type

-- by codes on columns that are there
abbrev IsTried : Trial → Option ℕ → Type 0
IsTried (IsOf k) o = o ≡ Some k
IsTried IsOfNone o = o ≡ None
IsTried Misplaced o = Unit {0}

tried_same : (job : Job) (number : Key → ℕ) (f : InputFile) (text : List ℕ) (n : ℕ) (ts : List (TypeRow Key)) → IsTried (identified f n (map (renamed_type number) ts) text) (cards.type_of_text job f text n ts)
tried_same job number f text n [] = refl
tried_same job number f text n (t ∷ ts) = by (same_file t.file f) (list_all (has_position text) t.codes) (list_all (code_holds text) t.codes) (tried_same job number f text (n + 1) ts)
  where
    by : (own there hold : Bool) → IsTried (identified f (n + 1) (map (renamed_type number) ts) text) (cards.type_of_text job f text (n + 1) ts)
        → IsTried (cond (not own) (identified f (n + 1) (map (renamed_type number) ts) text) (cond there (cond hold (IsOf n) (identified f (n + 1) (map (renamed_type number) ts) text)) Misplaced))
        (cond (own && hold) (Some n) (cards.type_of_text job f text (n + 1) ts))
    by false there hold r = r
    by true true true r = refl
    by true true false r = r
    by true false hold r = tt

module _ {p : Object} {job : Job} {number : Key → ℕ} (orderly : IsOrderly p) (is : IsProgramOf p job number) where
  -- ---- what types say

  levels_same : (type : ℕ) → control_fields p type ≡ cards.levels_at job type
  levels_same type = ap (λ ts. levels_of (slice_get ts type)) is.same_types ∙ ap levels_of (slice_get-map (renamed_type number) job.types type) ∙ by (slice_get job.types type)
    where
      by : (o : Option (TypeRow Key)) → levels_of (option_map (renamed_type number) o) ≡ option_map_or (λ t. t.levels) o []
      by None = refl
      by (Some t) = refl

  indicator_same : (type : ℕ) → type_indicator (slice_get p.types type) ≡ cards.indicator_at job type
  indicator_same type = ap (λ ts. type_indicator (slice_get ts type)) is.same_types ∙ ap type_indicator (slice_get-map (renamed_type number) job.types type) ∙ by (slice_get job.types type)
    where
      by : (o : Option (TypeRow Key)) → type_indicator (option_map (renamed_type number) o) ≡ option_map_or (λ t. t.indicator) o None
      by None = refl
      by (Some t) = refl

  last_same : (level : ℕ) (earlier : List Selected) → records.last_bytes p level earlier ≡ cards.meant_last_bytes job level earlier
  last_same level [] = refl
  last_same level (s ∷ ss) = λ i. or_before (last_same level ss i) (level_bytes (levels_same s.type i) s.text level)

  broken_same : (earlier : List Selected) (s : Selected) → machine.broken_level p (left_by p earlier) s ≡ cards.meant_broken_level job earlier s
  broken_same earlier s = at_last ∙ (λ i. highest_broken (λ level. differs (last_same level earlier i) (level_bytes (levels_same s.type i) s.text level)) 9)
    where
      at_last : machine.broken_level p (left_by p earlier) s ≡ highest_broken (λ level. differs (records.last_bytes p level earlier) (level_bytes (control_fields p s.type) s.text level)) 9
      at_last = refl

  pub control_same : (earlier : List Selected) → records.any_control p earlier ≡ cards.meant_any_control job earlier
  control_same [] = refl
  control_same (s ∷ ss) = λ i. control_same ss i || is_any (levels_same s.type i)

  some_same : (ts : List (TypeRow Key)) → machine.has_control_fields (map (renamed_type number) ts) ≡ list_any (λ t. is_any t.levels) ts
  some_same [] = refl
  some_same (t ∷ ts) = ap (λ b. is_any t.levels || b) (some_same ts)

  pub fields_same : machine.has_control_fields p.types ≡ list_any (λ t. is_any t.levels) job.types
  fields_same = ap machine.has_control_fields is.same_types ∙ some_same job.types

  -- ---- match values and files

  matches_same : (type : ℕ) → match_fields p type ≡ cards.matches_at job type
  matches_same type = ap (λ ts. row_match_fields (slice_get ts type)) is.same_types ∙ ap row_match_fields (slice_get-map (renamed_type number) job.types type) ∙ by (slice_get job.types type)
    where
      by : (o : Option (TypeRow Key)) → row_match_fields (option_map (renamed_type number) o) ≡ option_map_or (λ t. t.matches) o []
      by None = refl
      by (Some t) = refl

  file_same : (type : ℕ) → file_of (slice_get p.types type) ≡ cards.meant_file_at job type
  file_same type = ap (λ ts. file_of (slice_get ts type)) is.same_types ∙ ap file_of (slice_get-map (renamed_type number) job.types type) ∙ by (slice_get job.types type)
    where
      by : (o : Option (TypeRow Key)) → file_of (option_map (renamed_type number) o) ≡ option_map_or (λ t. t.file) o Primary
      by None = refl
      by (Some t) = refl

  value_same : (r : Selected) → match_value p r ≡ cards.meant_match_value job r
  value_same r = ap (λ fs. match_value_in fs r.text) (matches_same r.type)

  from_same : (f : InputFile) (r : Selected) → value_from p f r ≡ cards.meant_value_from job f r
  from_same f r = λ i. cond (same_file (file_same r.type i) f) (value_same r i) None

  last_value_same : (f : InputFile) (earlier : List Selected) → last_value p f earlier ≡ cards.meant_last_value job f earlier
  last_value_same f [] = refl
  last_value_same f (r ∷ rs) = λ i. or_before (last_value_same f rs i) (from_same f r i)

  last_of_same : (f : InputFile) (earlier : List Selected) → last_of_file (left_by p earlier) f ≡ cards.meant_last_value job f earlier
  last_of_same Primary earlier = last_value_same Primary earlier
  last_of_same Secondary earlier = last_value_same Secondary earlier

  any_agrees_same : (f : InputFile) (v : Option (List ℕ)) (rs : List Selected) → any_agrees p f v rs ≡ cards.meant_any_agrees job f v rs
  any_agrees_same f v [] = refl
  any_agrees_same f v (r ∷ rs) = λ i. agrees v (from_same f r i) || any_agrees_same f v rs i

  match_same : (earlier : List Selected) (i : Inputs) (r : Selected) → has_match p earlier i r ≡ cards.meant_has_match job earlier i r
  match_same earlier i r =
      (λ k. any_agrees p (other_file (file_same r.type k)) (value_same r k) (with_record (waiting_in i (other_file (file_same r.type k))) earlier))
      ∙ any_agrees_same (other_file (cards.meant_file_at job r.type)) (cards.meant_match_value job r) (with_record (waiting_in i (other_file (cards.meant_file_at job r.type))) earlier)

  length_same : (f : InputFile) → input_length p f ≡ cards.record_length_in job f
  length_same Primary = is.same_length
  length_same Secondary = is.same_secondary

  pub takes_same : (i : Inputs) (f : InputFile) → takes_in p i f ≡ cards.meant_takes_in job i f
  takes_same i f = λ k. not (eqb (length_same f k) 0) && (not (input_at i f).is_over && is_none (waiting_in i f))

  chosen_same : (earlier : List Selected) (a b : Option Selected) → chosen p (left_by p earlier) a b ≡ cards.meant_chosen job earlier a b
  chosen_same earlier None None = refl
  chosen_same earlier (Some q) None = λ i. cond (is_after_end (is.same_ends i) Secondary (last_value_same Secondary earlier i) (value_same q i)) None (Some Primary)
  chosen_same earlier None (Some r) = λ i. cond (is_after_end (is.same_ends i) Primary (last_value_same Primary earlier i) (value_same r i)) None (Some Secondary)
  chosen_same earlier (Some q) (Some r) = λ i. Some (first_of (value_same q i) (value_same r i))

  -- ---- what the parts of a selection come to

  pub record Matches (m : Done) (q : PhaseEnd × JobState) : Type 0 where
    pub ends : m.end ≡ q.0
    pub same : Same p job number q.1 m.leads

  module _ (earlier : List Selected) (f : InputFile) (c : UnderWay) (s : JobState) (same : Same p job number s c) where
    -- steps were charged
    stands : (n : ℕ) → Same p job number s (with_config (charged n) c)
    stands n = record { world = same.world; allowance = same.allowance; inputs = same.inputs; selected = same.selected }

    matched : (n m : ℕ) (r : Selected) → IsCycleEnd (machine.match_up p (left_by p earlier) f r (with_config (charged m) (with_config (charged n) c))).end
        → Matches (machine.match_up p (left_by p earlier) f r (with_config (charged m) (with_config (charged n) c))) (cards.meant_match_up job earlier f r s)
    matched n m r = by (list_all (is_in_record (length r.text)) (match_fields p r.type))
      where
        taken : (b : Bool) → Matches (cond b (done (Halt 8) (with_config (charged m) (with_config (charged n) c))) (done Continues (with_inputs (with_waiting f (Some r)) (with_config (charged m) (with_config (charged n) c))))) (cond b (Halt 8, s) (Continues, record s { inputs = with_waiting f (Some r) s.inputs }))
        taken true = record { ends = refl; same = record { world = same.world; allowance = same.allowance; inputs = same.inputs; selected = same.selected } }
        taken false = record { ends = refl; same = record { world = same.world; allowance = same.allowance; inputs = ap (with_waiting f (Some r)) same.inputs; selected = same.selected } }

        by : (b : Bool) → IsCycleEnd (cond (not b) (done (Wrong effects.Storage) (with_config (charged m) (with_config (charged n) c)))
            (cond (exceeds (last_of_file (left_by p earlier) f) (match_value p r)) (done (Halt 8) (with_config (charged m) (with_config (charged n) c))) (done Continues (with_inputs (with_waiting f (Some r)) (with_config (charged m) (with_config (charged n) c)))))).end
            → Matches (cond (not b) (done (Wrong effects.Storage) (with_config (charged m) (with_config (charged n) c)))
            (cond (exceeds (last_of_file (left_by p earlier) f) (match_value p r)) (done (Halt 8) (with_config (charged m) (with_config (charged n) c))) (done Continues (with_inputs (with_waiting f (Some r)) (with_config (charged m) (with_config (charged n) c))))))
            (cards.meant_match_up job earlier f r s)
        by true h =
            subst (λ b. Matches (cond (exceeds (last_of_file (left_by p earlier) f) (match_value p r)) (done (Halt 8) (with_config (charged m) (with_config (charged n) c))) (done Continues (with_inputs (with_waiting f (Some r)) (with_config (charged m) (with_config (charged n) c)))))
            (cond b (Halt 8, s) (Continues, record s { inputs = with_waiting f (Some r) s.inputs })))
            (λ i. exceeds (last_of_same f earlier i) (value_same r i)) (taken (exceeds (last_of_file (left_by p earlier) f) (match_value p r)))
        by false h = absurd h

    taken_same : (text : List ℕ) (n : ℕ) (t : Trial) (o : Option ℕ) → IsTried t o → IsCycleEnd (machine.take_type p (left_by p earlier) f text t (with_config (charged n) c)).end
        → Matches (machine.take_type p (left_by p earlier) f text t (with_config (charged n) c)) (cards.type_taken job earlier f text o s)
    taken_same text n (IsOf k) o e h =
        subst (λ o. Matches (machine.take_type p (left_by p earlier) f text (IsOf k) (with_config (charged n) c)) (cards.type_taken job earlier f text o s)) (sym e)
        (matched n (length (match_fields p k)) (record { type = k; text = text }) h)
    taken_same text n IsOfNone o e h =
        subst (λ o. Matches (machine.take_type p (left_by p earlier) f text IsOfNone (with_config (charged n) c)) (cards.type_taken job earlier f text o s)) (sym e) (record { ends = refl; same = stands n })
    taken_same text n Misplaced o e h = absurd h

    full_same : (text : List ℕ) → padded p f text ≡ cards.meant_padded job f text
    full_same text = ap (λ n. text ++ replicate (n - length text) 32) (length_same f)

    identified_same : (text : List ℕ) → IsCycleEnd (machine.identify p (left_by p earlier) f (padded p f text) c).end
        → Matches (machine.identify p (left_by p earlier) f (padded p f text) c) (cards.type_taken job earlier f (cards.meant_padded job f text) (cards.type_of_text job f (cards.meant_padded job f text) 0 job.types) s)
    identified_same text h =
        subst (λ full. Matches (machine.identify p (left_by p earlier) f (padded p f text) c) (cards.type_taken job earlier f full (cards.type_of_text job f full 0 job.types) s)) (full_same text)
        (taken_same (padded p f text) (trial_weight f p.types (padded p f text)) (identified f 0 p.types (padded p f text)) (cards.type_of_text job f (padded p f text) 0 job.types)
        (subst (λ ts. IsTried (identified f 0 ts (padded p f text)) (cards.type_of_text job f (padded p f text) 0 job.types)) (sym is.same_types) (tried_same job number f (padded p f text) 0 job.types)) h)

    read_same : (next : Option (List ℕ)) → IsCycleEnd (machine.read_record p (left_by p earlier) f next c).end → Matches (machine.read_record p (left_by p earlier) f next c) (cards.read job earlier f next s)
    read_same None h = record { ends = refl; same = record { world = same.world; allowance = same.allowance; inputs = ap (with_file_over f) same.inputs; selected = same.selected } }
    read_same (Some text) h =
        subst (λ b. Matches (machine.read_record p (left_by p earlier) f (Some text) c) (cond b (cards.type_taken job earlier f (cards.meant_padded job f text) (cards.type_of_text job f (cards.meant_padded job f text) 0 job.types) s) (Halt 7, s)))
        (ap (λ n. nat_le (length text) n && list_all is_character text) (length_same f)) (by (is_valid_record p f text) h)
      where
        by : (b : Bool) → IsCycleEnd (cond b (machine.identify p (left_by p earlier) f (padded p f text) c) (done (Halt 7) c)).end
            → Matches (cond b (machine.identify p (left_by p earlier) f (padded p f text) c) (done (Halt 7) c))
            (cond b (cards.type_taken job earlier f (cards.meant_padded job f text) (cards.type_of_text job f (cards.meant_padded job f text) 0 job.types) s) (Halt 7, s))
        by true h = identified_same text h
        by false h = record { ends = refl; same = same }

    -- a file takes a record in, or doesn't
    abbrev pub taking : Option (List ℕ) → Bool → Done
    taking next b = cond b (machine.read_record p (left_by p earlier) f next c) (done Continues c)

    taking_same : (next : Option (List ℕ)) (b : Bool) → IsCycleEnd (taking next b).end → Matches (taking next b) (cond b (cards.read job earlier f next s) (Continues, s))
    taking_same next true h = read_same next h
    taking_same next false h = record { ends = refl; same = same }

    pub take_in_same : (next : Option (List ℕ)) → IsCycleEnd (taking next (takes_in p c.inputs f)).end
        → Matches (taking next (takes_in p c.inputs f)) (cond (cards.meant_takes_in job s.inputs f) (cards.read job earlier f next s) (Continues, s))
    take_in_same next h =
        subst (λ b. Matches (taking next (takes_in p c.inputs f)) (cond b (cards.read job earlier f next s) (Continues, s)))
        (takes_same c.inputs f ∙ ap (λ i. cards.meant_takes_in job i f) same.inputs) (taking_same next (takes_in p c.inputs f) h)

  module _ (earlier : List Selected) (c : UnderWay) (s : JobState) (same : Same p job number s c) where
    -- only indicators were turned, and steps charged
    turned_to : (ns : List ℕ) (d : Config) (g : Inputs → Inputs) (o : Option Selected) → d.world ≡ with_data (record c.config.world.data { on = turned_all ns true c.config.world.data.on }) c.config.world → d.allowance ≡ c.config.allowance
        → Same p job number (record (with_turned ns true s) { inputs = g s.inputs; selected = o }) (record { config = d; inputs = g c.inputs; selected = o })
    turned_to ns d g o world allowance = record {
      world = subst (Agree job.source.forms number (with_turned ns true s).world) (sym world) (on_agrees job.source.forms number (turned_all ns true) s.world c.config.world same.world);
      allowance = allowance ∙ same.allowance;
      inputs = ap g same.inputs;
      selected = refl;
    }

    pub turned_only : (ns : List ℕ) → Same p job number (with_turned ns true s) (with_config (with_all ns true) c)
    turned_only ns = record {
      world = subst (Agree job.source.forms number (with_turned ns true s).world) (sym (ap (λ (x : Config). x.world) (all_turned ns true c.config))) (on_agrees job.source.forms number (turned_all ns true) s.world c.config.world same.world);
      allowance = ap (λ (x : Config). x.allowance) (all_turned ns true c.config) ∙ same.allowance;
      inputs = same.inputs;
      selected = same.selected;
    }

    -- the type's indicator and the levels that are broken turn on
    shown : (o : Option ℕ) (xs : List ℕ) (m : ℕ) (g : Inputs → Inputs) (r : Selected)
        → Same p job number (record (with_turned (option_to_list o ++ xs) true s) { inputs = g s.inputs; selected = Some r }) (record { config = with_all xs true (charged m (with_type o c.config)); inputs = g c.inputs; selected = Some r })
    shown None xs m g r =
        let e = all_turned xs true (charged m c.config) in
        turned_to xs (with_all xs true (charged m c.config)) g (Some r) (ap (λ (x : Config). x.world) e) (ap (λ (x : Config). x.allowance) e)
    shown (Some k) xs m g r =
        let e = all_turned xs true (charged m (with_one k true c.config)) in
        turned_to (k ∷ xs) (with_all xs true (charged m (with_one k true c.config))) g (Some r) (ap (λ (x : Config). x.world) e) (ap (λ (x : Config). x.allowance) e)

    compared : (f : InputFile) (r : Selected) → IsCycleEnd (machine.select_waiting p (left_by p earlier) f (Some r) c).end
        → Matches (machine.select_waiting p (left_by p earlier) f (Some r) c) (Continues, cards.meant_select_waiting job earlier f (Some r) s)
    compared f r = by (list_all (is_in_record (length r.text)) (control_fields p r.type))
      where
        there : Same p job number (cards.meant_select_waiting job earlier f (Some r) s) (record { config = with_levels (machine.broken_level p (left_by p earlier) r) (charged (length (control_fields p r.type)) (with_type (type_indicator (slice_get p.types r.type)) c.config)); inputs = with_waiting f None c.inputs; selected = Some r })
        there = subst (λ (o : Option ℕ). Same p job number (record (with_turned (option_to_list o ++ take (cards.meant_broken_level job earlier r) level_indicators) true s) { inputs = with_waiting f None s.inputs; selected = Some r }) (record { config = with_levels (machine.broken_level p (left_by p earlier) r) (charged (length (control_fields p r.type)) (with_type (type_indicator (slice_get p.types r.type)) c.config)); inputs = with_waiting f None c.inputs; selected = Some r })) (indicator_same r.type)
            (subst (λ (b : ℕ). Same p job number (record (with_turned (option_to_list (type_indicator (slice_get p.types r.type)) ++ take b level_indicators) true s) { inputs = with_waiting f None s.inputs; selected = Some r }) (record { config = with_levels (machine.broken_level p (left_by p earlier) r) (charged (length (control_fields p r.type)) (with_type (type_indicator (slice_get p.types r.type)) c.config)); inputs = with_waiting f None c.inputs; selected = Some r })) (broken_same earlier r)
            (shown (type_indicator (slice_get p.types r.type)) (take (machine.broken_level p (left_by p earlier) r) level_indicators) (length (control_fields p r.type)) (with_waiting f None) r))

        by : (b : Bool) → IsCycleEnd (cond b (done Continues (record { config = with_levels (machine.broken_level p (left_by p earlier) r) (charged (length (control_fields p r.type)) (with_type (type_indicator (slice_get p.types r.type)) c.config)); inputs = with_waiting f None c.inputs; selected = Some r })) (done (Wrong effects.Storage) (record { config = charged (length (control_fields p r.type)) (with_type (type_indicator (slice_get p.types r.type)) c.config); inputs = with_waiting f None c.inputs; selected = c.selected }))).end
            → Matches (cond b (done Continues (record { config = with_levels (machine.broken_level p (left_by p earlier) r) (charged (length (control_fields p r.type)) (with_type (type_indicator (slice_get p.types r.type)) c.config)); inputs = with_waiting f None c.inputs; selected = Some r })) (done (Wrong effects.Storage) (record { config = charged (length (control_fields p r.type)) (with_type (type_indicator (slice_get p.types r.type)) c.config); inputs = with_waiting f None c.inputs; selected = c.selected }))) (Continues, cards.meant_select_waiting job earlier f (Some r) s)
        by true h = record { ends = refl; same = there }
        by false h = absurd h

    waiting_same : (f : InputFile) (o : Option Selected) → IsCycleEnd (machine.select_waiting p (left_by p earlier) f o c).end
        → Matches (machine.select_waiting p (left_by p earlier) f o c) (Continues, cards.meant_select_waiting job earlier f o s)
    waiting_same f None h = record { ends = refl; same = same }
    waiting_same f (Some r) h = compared f r h

    picked_same : (o : Option InputFile) → IsCycleEnd (machine.select_from p (left_by p earlier) o c).end → Matches (machine.select_from p (left_by p earlier) o c) (Continues, cards.meant_select_from job earlier o s)
    picked_same None h = record { ends = refl; same = turned_only (last_record ∷ level_indicators) }
    picked_same (Some f) h =
        subst (λ o. Matches (machine.select_waiting p (left_by p earlier) f (waiting_in c.inputs f) c) (Continues, cards.meant_select_waiting job earlier f o s)) (ap (λ i. waiting_in i f) same.inputs)
        (waiting_same f (waiting_in c.inputs f) h)

    pub select_one_same : IsCycleEnd (machine.select_from p (left_by p earlier) (chosen p (left_by p earlier) (waiting_in c.inputs Primary) (waiting_in c.inputs Secondary)) c).end
        → Matches (machine.select_from p (left_by p earlier) (chosen p (left_by p earlier) (waiting_in c.inputs Primary) (waiting_in c.inputs Secondary)) c)
        (Continues, cards.meant_select_from job earlier (cards.meant_chosen job earlier (waiting_in s.inputs Primary) (waiting_in s.inputs Secondary)) s)
    select_one_same h =
        subst (λ o. Matches (machine.select_from p (left_by p earlier) (chosen p (left_by p earlier) (waiting_in c.inputs Primary) (waiting_in c.inputs Secondary)) c) (Continues, cards.meant_select_from job earlier o s))
        (chosen_same earlier (waiting_in c.inputs Primary) (waiting_in c.inputs Secondary) ∙ ap (λ i. cards.meant_chosen job earlier (waiting_in i Primary) (waiting_in i Secondary)) same.inputs)
        (picked_same (chosen p (left_by p earlier) (waiting_in c.inputs Primary) (waiting_in c.inputs Secondary)) h)

  -- ---- MR

  shown_same : (earlier : List Selected) (c : UnderWay) (s : JobState) → Same p job number s c → machine.if_selected (has_match p earlier c.inputs) c.selected ≡ machine.if_selected (cards.meant_has_match job earlier s.inputs) s.selected
  shown_same earlier c s same =
      (λ i. machine.if_selected (has_match p earlier (same.inputs i)) (same.selected i)) ∙ by s.selected
    where
      by : (o : Option Selected) → machine.if_selected (has_match p earlier s.inputs) o ≡ machine.if_selected (cards.meant_has_match job earlier s.inputs) o
      by None = refl
      by (Some r) = match_same earlier s.inputs r

  pub match_follows : (P : Selection) (earlier : List Selected) → Follows p job number P (machine.show_match (has_match p earlier)) (cards.meant_show_match job earlier) P
  match_follows P earlier =
      follows_does p job number P P _ (λ s. (Continues, with_turned (matching_record ∷ []) (machine.if_selected (cards.meant_has_match job earlier s.inputs) s.selected) s))
      (λ c s settled same. record {
        ends = refl;
        same = subst (λ b. Same p job number (with_turned (matching_record ∷ []) b s) (with_config (with_one matching_record (machine.if_selected (has_match p earlier c.inputs) c.selected)) c)) (shown_same earlier c s same)
            (turned_one (machine.if_selected (has_match p earlier c.inputs) c.selected) c s same);
        fine = tt;
        settled = λ on. record { values = same_fields p c.config.world.data (with_one matching_record (machine.if_selected (has_match p earlier c.inputs) c.selected) c.config).world.data settled.values refl; no_cell = settled.no_cell; waiting = settled.waiting; selected = settled.selected };
      })
    where
      turned_one : (b : Bool) (c : UnderWay) (s : JobState) → Same p job number s c → Same p job number (with_turned (matching_record ∷ []) b s) (with_config (with_one matching_record b) c)
      turned_one b c s same = record {
        world = on_agrees job.source.forms number (turned_all (matching_record ∷ []) b) s.world c.config.world same.world;
        allowance = same.allowance;
        inputs = same.inputs;
        selected = same.selected;
      }

  -- ---- the whole selection

  from_picks : (a : ℕ) (R : Selection) (c : UnderWay) (d : Done) (q : PhaseEnd × JobState) → IsSettled p job number IsNone c → Picks p a c d → Matches d q → R d.leads.selected → Alike p job number R d q
  from_picks a R c d q settled picks m selected = record {
    ends = m.ends;
    same = m.same;
    fine = named_fine d.end picks.named;
    settled = λ on. record {
      values = same_fields p c.config.world.data d.leads.config.world.data settled.values picks.still.fields;
      no_cell = picks.still.cells ∙ settled.no_cell;
      waiting = picks.waiting;
      selected = selected;
    };
  }

  none_taken : (c : UnderWay) → IsSettled p job number IsNone c → IsTaken p c.selected
  none_taken c settled = subst (IsTaken p) (sym settled.selected) tt

  -- taking in selects nothing
  kept : (earlier : List Selected) (f : InputFile) (next : Option (List ℕ)) (s : JobState) (b : Bool) → (cond b (cards.read job earlier f next s) (Continues, s)).1.selected ≡ s.selected
  kept earlier f next s false = refl
  kept earlier f None s true = refl
  kept earlier f (Some text) s true = by (cards.is_valid_text job f text) (cards.type_of_text job f (cards.meant_padded job f text) 0 job.types)
    where
      low : (r : Selected) (b : Bool) → (let q : PhaseEnd × JobState = cond b (Halt 8, s) (Continues, record s { inputs = with_waiting f (Some r) s.inputs }) in q.1.selected) ≡ s.selected
      low r true = refl
      low r false = refl

      by : (b : Bool) (o : Option ℕ) → (let q : PhaseEnd × JobState = cond b (cards.type_taken job earlier f (cards.meant_padded job f text) o s) (Halt 7, s) in q.1.selected) ≡ s.selected
      by false o = refl
      by true None = refl
      by true (Some t) = low (record { type = t; text = cards.meant_padded job f text }) (exceeds (cards.meant_last_value job f earlier) (cards.meant_match_value job (record { type = t; text = cards.meant_padded job f text })))

  taking_follows : (earlier : List Selected) (f : InputFile) (next : Option (List ℕ)) → Follows p job number IsNone (machine.take_in p (left_by p earlier) f next) (cards.meant_take_in job earlier f next) IsNone
  taking_follows earlier f next = follows_does p job number IsNone IsNone _ (λ s. cond (cards.meant_takes_in job s.inputs f) (cards.read job earlier f next s) (Continues, s)) alike
    where
      alike : (c : UnderWay) (s : JobState) → IsSettled p job number IsNone c → Same p job number s c
          → Alike p job number IsNone (cond (takes_in p c.inputs f) (machine.read_record p (left_by p earlier) f next c) (done Continues c)) (cond (cards.meant_takes_in job s.inputs f) (cards.read job earlier f next s) (Continues, s))
      alike c s settled same =
          let picks = takes p orderly (left_by p earlier) f c settled.waiting (none_taken c settled) next in
          let m = take_in_same earlier f c s same next picks.named in
          from_picks _ IsNone c _ _ settled picks m (m.same.selected ∙ kept earlier f next s (cards.meant_takes_in job s.inputs f) ∙ sym same.selected ∙ settled.selected)

  selecting_follows : (earlier : List Selected) → Follows p job number IsNone (machine.select_one p (left_by p earlier)) (cards.meant_select_one job earlier) (IsTaken p)
  selecting_follows earlier =
      follows_does p job number IsNone (IsTaken p) _ (λ s. (Continues, cards.meant_select_from job earlier (cards.meant_chosen job earlier (waiting_in s.inputs Primary) (waiting_in s.inputs Secondary)) s)) alike
    where
      alike : (c : UnderWay) (s : JobState) → IsSettled p job number IsNone c → Same p job number s c
          → Alike p job number (IsTaken p) (machine.select_from p (left_by p earlier) (chosen p (left_by p earlier) (waiting_in c.inputs Primary) (waiting_in c.inputs Secondary)) c)
          (Continues, cards.meant_select_from job earlier (cards.meant_chosen job earlier (waiting_in s.inputs Primary) (waiting_in s.inputs Secondary)) s)
      alike c s settled same =
          let picks = selects p orderly (left_by p earlier) c settled.waiting (none_taken c settled) (chosen p (left_by p earlier) (waiting_in c.inputs Primary) (waiting_in c.inputs Secondary)) in
          from_picks _ (IsTaken p) c _ _ settled picks (select_one_same earlier c s same picks.named) picks.taken

  last_follows : (earlier : List Selected) → Follows p job number IsNone (machine.without_output (λ c. done Continues (with_config (with_all level_indicators true) c))) (meant_does (λ s. (Continues, with_turned level_indicators true s))) (IsTaken p)
  last_follows earlier = follows_does p job number IsNone (IsTaken p) _ _ (λ c s settled same.
      let picks = levels_alone p 0 c settled.waiting (none_taken c settled) in
      from_picks 0 (IsTaken p) c _ _ settled picks (record { ends = refl; same = turned_only earlier c s same level_indicators }) picks.taken)

  pub selection_follows : (earlier : List Selected) (a b : Option (List ℕ)) → Follows p job number IsNone (machine.select_record p (left_by p earlier) a b) (cards.meant_select_record job earlier a b) (IsTaken p)
  selection_follows earlier a b c s settled same e d out met =
      let left = left_by p earlier in
      let one = follows_both p job number IsNone (IsTaken p) (machine.without_output (λ c. done Continues (with_config (with_all level_indicators true) c)))
      (machine.take_in p left Primary a before machine.take_in p left Secondary b before machine.select_one p left) (meant_does (λ s. (Continues, with_turned level_indicators true s)))
      (cards.meant_take_in job earlier Primary a andthen cards.meant_take_in job earlier Secondary b andthen cards.meant_select_one job earlier) (last_follows earlier)
      (follows_then p job number IsNone IsNone (IsTaken p) (machine.take_in p left Primary a) _ (cards.meant_take_in job earlier Primary a) _ (taking_follows earlier Primary a)
      (follows_then p job number IsNone IsNone (IsTaken p) (machine.take_in p left Secondary b) (machine.select_one p left) (cards.meant_take_in job earlier Secondary b) (cards.meant_select_one job earlier)
      (taking_follows earlier Secondary b) (selecting_follows earlier)))
      (indicators.is_on c.config last_record) c s settled same e d out met in
      record {
        state = one.state;
        meets = subst (λ x. meant_either x (meant_does (λ s. (Continues, with_turned level_indicators true s)))
            (cards.meant_take_in job earlier Primary a andthen cards.meant_take_in job earlier Secondary b andthen cards.meant_select_one job earlier) s e one.state out)
            (ap (λ on. set.contains on last_record) same.world.data.on) one.meets;
        same = one.same;
        fine = one.fine;
        settled = one.settled;
      }
