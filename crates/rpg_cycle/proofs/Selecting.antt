-- How records are taken in, and how one is selected.
use Rattle.std.proofs.Common.{◌≡◌, ℕ, ◌≤◌, ◌<◌, ◌+◌, ◌*◌, suc, Bool, true, false, cond, not, ◌&&◌, List, [], ◌∷◌, length, slice_get, All, Option, None, Some, Ok, Err, refl, sym, ap, ◌∙◌, subst, take, arith}
use Rattle.std.proofs.lemmas.Bool.Decides.{nat_tests}
use Rattle.std.specs.List.{list_all}
use Rattle.std.specs.Option.{ForSome}
use Rattle.rpg_paper.specs.Paper.{Position, last_position_from}
use Rattle.rpg_program.specs.declared.input.ControlField.{ControlField}
use Rattle.rpg_program.specs.declared.input.InputFile.{InputFile}
use Rattle.rpg_program.specs.declared.input.InputFile.TheVariants.{Primary, Secondary}
use Rattle.rpg_cycle.proofs.Composing.{memory_both, of_none, of_some, quietly}
use Rattle.rpg_cycle.proofs.Spending.{costs_none, keeps_reach}
use Rattle.rpg_cycle.proofs.Turning.{Keeps, all_keep, all_on, type_keeps, type_on}
use Rattle.rpg_cycle.specs.Doing.{Does, Beside, holding, unselected, under_way}
use Rattle.rpg_cycle.specs.Indicators.{is_on, last_record, level_indicators, with_all, with_levels, with_one, with_type}
use Rattle.rpg_cycle_records.proofs.Recording.{filled_characters}
use Rattle.rpg_cycle_records.specs.Earlier.{Left, Selected, file_of, last_of_file, match_fields, match_value, control_fields}
use Rattle.rpg_cycle.specs.Ends.{Continues, Halt, PhaseEnd}
use Rattle.rpg_cycle_records.specs.Fitting.{IsControlIn}
use Rattle.rpg_cycle_records.specs.Identifying.{IsOf, IsOfNone, identified, is_valid_record, padded, trial_weight}
use Rattle.rpg_cycle_records.specs.Keeping.{left_of, renewed, renewed_by, seen_levels, seen_value, selected_as, value_following}
use Rattle.rpg_cycle_records.specs.Levels.{broken_in, is_in_record}
use Rattle.rpg_cycle_records.specs.Matching.{exceeds}
use Rattle.rpg_cycle_records.specs.Waiting.{InputState, Inputs, chosen, input_at, other_file, takes_in, waiting_in, with_input, with_waiting}
use Rattle.rpg_cycle_records.specs.Holding.{AreFilesKept, HoldsRecord, HoldsSelected, IsFileKept, input_state_of, inputs_of, kept_at, last_record_in, text_in}
use Rattle.rpg_cycle_records.specs.declared.files.KeptFile.{KeptFile}
use Rattle.rpg_cycle_records.specs.declared.kept.Kept.{Kept}
use Rattle.rpg_cycle_records.specs.declared.levels.LastBytes.{LastBytes}
use Rattle.rpg_cycle_records.specs.declared.matching.LastValues.{LastValues}
use Rattle.rpg_cycle.specs.Phases.{broken_level, without_output, done, either, read_record, select_from, select_one, select_record, select_waiting, take_in, type_indicator, with_config, ◌before◌}
use Rattle.rpg_cycle.specs.Selecting.{HasRead, HasSelected, IsCompared, IsPicked, IsTakenUp, IsUntaken, LeavesFile, RenewsSeen, TakesType, with_seen}
use Rattle.rpg_cycle.specs.Spending.{Spends, SpendsTakingIn, reach}
use Rattle.rpg_cycle.specs.Stages.{job_end}
use Rattle.rpg_cycle.specs.declared.ends.JobEnd.{JobEnd}
use Rattle.rpg_cycle.specs.declared.ends.PhaseStop.{PhaseStop}
use Rattle.rpg_machine.specs.Config.{Config, charged}
use Rattle.rpg_machine.specs.Ready.{IsReady}
use Rattle.rpg_machine.specs.Running.{Running, config_on}
use Rattle.rpg_program.specs.Kept.{IsCharacter}
use Rattle.rpg_program.specs.Object.{Object, input_length}
use Rattle.rpg_verify.specs.Bound.{most}

and : (b c : Bool) → b ≡ true → c ≡ true → (b && c) ≡ true
and b c h g = rw h g

inside : (len : ℕ) (f : ControlField) → IsControlIn len f → is_in_record len f ≡ true
inside len f h = grind (arith, nat_tests, h.low, h.order, h.high)

-- the control fields and the match fields of an accepted program are in the record
pub all_inside : (len : ℕ) (fs : List ControlField) → All (IsControlIn len) fs → list_all (is_in_record len) fs ≡ true
all_inside len [] h = refl
all_inside len (f ∷ fs) h = and (is_in_record len f) (list_all (is_in_record len) fs) (inside len f (h 0 f (omega arith))) (all_inside len fs (λ k d l. h (suc k) d (omega (arith, l))))

-- what a record that is taken in costs
abbrev pub taken : Object → InputFile → List ℕ → ℕ → Config → Config
taken p f text t c = charged (length (match_fields p t)) (charged (trial_weight f p.types text) c)

reads_one : (p : Object) (left : Left) (f : InputFile) (text full : List ℕ) (i : Inputs) (c : Config) (t : ℕ) → is_valid_record p f text ≡ true → padded p f text ≡ full → identified f 0 p.types full ≡ IsOf t →
    list_all (is_in_record (length full)) (match_fields p t) ≡ true → exceeds (last_of_file left f) (match_value p (record { type = t; text = full })) ≡ false →
    read_record p left f (Some text) (under_way c (unselected i)) ≡ done Continues (under_way (taken p f full t c) (unselected (with_waiting f (Some (record { type = t; text = full })) i)))
reads_one p left f text full i c t valid e is there low = rw valid (rw e (rw is (rw there (rw low refl))))

reads_low : (p : Object) (left : Left) (f : InputFile) (text full : List ℕ) (i : Inputs) (c : Config) (t : ℕ) → is_valid_record p f text ≡ true → padded p f text ≡ full → identified f 0 p.types full ≡ IsOf t →
    list_all (is_in_record (length full)) (match_fields p t) ≡ true → exceeds (last_of_file left f) (match_value p (record { type = t; text = full })) ≡ true →
    read_record p left f (Some text) (under_way c (unselected i)) ≡ done (Halt 8) (under_way (taken p f full t c) (unselected i))
reads_low p left f text full i c t valid e is there low = rw valid (rw e (rw is (rw there (rw low refl))))

reads_none : (p : Object) (left : Left) (f : InputFile) (text full : List ℕ) (i : Inputs) (c : Config) → is_valid_record p f text ≡ true → padded p f text ≡ full → identified f 0 p.types full ≡ IsOfNone →
    read_record p left f (Some text) (under_way c (unselected i)) ≡ done (Halt 3) (under_way (charged (trial_weight f p.types full) c) (unselected i))
reads_none p left f text full i c valid e is = rw valid (rw e (rw is refl))

reads_bad : (p : Object) (left : Left) (f : InputFile) (text : List ℕ) (i : Inputs) (c : Config) → is_valid_record p f text ≡ false → read_record p left f (Some text) (under_way c (unselected i)) ≡ done (Halt 7) (under_way c (unselected i))
reads_bad p left f text i c bad = rw bad refl

-- ---- what was read

-- a bad record
pub refused : (p : Object) (left : Left) (f : InputFile) (text : List ℕ) (i : Inputs) (a : Running) (e : JobEnd) → is_valid_record p f text ≡ false → job_end e ≡ Halt 7 → HasRead p left f (Some text) i a (job_end e) a i
refused p left f text i a e bad is = record {
  config = a.config;
  read = λ previous. reads_bad p left f text i (config_on previous a.config) bad ∙ ap (λ (x : PhaseEnd). done x (under_way (config_on previous a.config) (unselected i))) (sym is);
  machine = refl;
}

-- no type takes the record
pub untaken : (p : Object) (left : Left) (f : InputFile) (text full : List ℕ) (i : Inputs) (a b : Running) (e : JobEnd) → is_valid_record p f text ≡ true → full ≡ padded p f text →
    IsUntaken p f full a e b → HasRead p left f (Some text) i a (job_end e) b i
untaken p left f text full i a b e valid is u = record {
  config = charged (trial_weight f p.types full) a.config;
  read = λ previous. reads_none p left f text full i (config_on previous a.config) valid (sym is) u.type
      ∙ ap (λ (x : PhaseEnd). done x (under_way (charged (trial_weight f p.types full) (config_on previous a.config)) (unselected i))) (sym u.end);
  machine = u.machine;
}

-- the machine after the match fields
pub charged_so : (p : Object) (f : InputFile) (full : List ℕ) (t : ℕ) (a b c : Running) → TakesType p f full a t b → c ≡ record b { config = charged (length (match_fields p t)) b.config } →
    c ≡ record a { config = taken p f full t a.config }
charged_so p f full t a b c one two = two ∙ ap (λ (x : Running). let r : Running = record x { config = charged (length (match_fields p t)) x.config } in r) one.machine

-- its match value is too low
pub too_low : (p : Object) (left : Left) (f : InputFile) (text full : List ℕ) (i : Inputs) (t : ℕ) (a b c : Running) (e : JobEnd) → is_valid_record p f text ≡ true → full ≡ padded p f text → TakesType p f full a t b →
    All (IsControlIn (length full)) (match_fields p t) → c ≡ record b { config = charged (length (match_fields p t)) b.config } →
    exceeds (last_of_file left f) (match_value p (record { type = t; text = full })) ≡ true → job_end e ≡ Halt 8 → HasRead p left f (Some text) i a (job_end e) c i
too_low p left f text full i t a b c e valid is one fields two low h = record {
  config = taken p f full t a.config;
  read = λ previous. reads_low p left f text full i (config_on previous a.config) t valid (sym is) one.type (all_inside (length full) (match_fields p t) fields) low
      ∙ ap (λ (x : PhaseEnd). done x (under_way (taken p f full t (config_on previous a.config)) (unselected i))) (sym h);
  machine = charged_so p f full t a b c one two;
}

-- it waits
pub waits : (p : Object) (left : Left) (f : InputFile) (text full : List ℕ) (i : Inputs) (x : InputState) (t : ℕ) (a b c : Running) → is_valid_record p f text ≡ true → full ≡ padded p f text → TakesType p f full a t b →
    All (IsControlIn (length full)) (match_fields p t) → c ≡ record b { config = charged (length (match_fields p t)) b.config } →
    exceeds (last_of_file left f) (match_value p (record { type = t; text = full })) ≡ false →
    x ≡ record { waiting = Some (record { type = t; text = full }); is_over = (input_at i f).is_over } → HasRead p left f (Some text) i a Continues c (with_input f x i)
waits p left f text full i x t a b c valid is one fields two low h = record {
  config = taken p f full t a.config;
  read = λ previous. reads_one p left f text full i (config_on previous a.config) t valid (sym is) one.type (all_inside (length full) (match_fields p t) fields) low
      ∙ ap (λ (y : InputState). done Continues (under_way (taken p f full t (config_on previous a.config)) (unselected (with_input f y i)))) (sym h);
  machine = charged_so p f full t a b c one two;
}

-- the match fields of a record that was filled
pub fields_inside : (p : Object) (f : InputFile) (t : ℕ) (full : List ℕ) (fs : List ControlField) → All (IsControlIn (input_length p (file_of (slice_get p.types t)))) fs → fs ≡ match_fields p t →
    length full ≡ input_length p f → file_of (slice_get p.types t) ≡ f → All (IsControlIn (length full)) (match_fields p t)
fields_inside p f t full fs h is whole own =
    subst (λ (n : ℕ). All (IsControlIn n) (match_fields p t)) (ap (input_length p) own ∙ sym whole) (subst (λ (gs : List ControlField). All (IsControlIn (input_length p (file_of (slice_get p.types t)))) gs) is h)

negated : (b r : Bool) → not b ≡ r → b ≡ not r
negated true r h = ap not h
negated false r h = ap not h

pub low_so : (l v m : Option (List ℕ)) (b r : Bool) → l ≡ v → b ≡ not (exceeds v m) → b ≡ r → exceeds l m ≡ not r
low_so l v m b r same is h = ap (λ (x : Option (List ℕ)). exceeds x m) same ∙ negated (exceeds v m) r (sym is ∙ h)

-- what is kept of a file where the record waits
pub waits_so : (k : KeptFile) (t : ℕ) (text : List ℕ) (x : InputState) → k.waiting ≡ Some t → k.record.items ≡ text → k.is_over ≡ x.is_over →
    input_state_of k ≡ record { waiting = Some (record { type = t; text = text }); is_over = x.is_over }
waits_so k t text x w e o =
    ap (λ (r : Option ℕ). let y : InputState = record { waiting = selected_as r k.record.items; is_over = k.is_over } in y) w
    ∙ ap (λ (xs : List ℕ). let y : InputState = record { waiting = selected_as (Some t) xs; is_over = k.is_over } in y) e
    ∙ ap (λ (b : Bool). let y : InputState = record { waiting = selected_as (Some t) text; is_over = b } in y) o

-- ---- the phase

pub asked : (p : Object) (left : Left) (f : InputFile) (next given : Option (List ℕ)) (i j : Inputs) (a b : Running) (e : PhaseEnd) → takes_in p i f ≡ true → next ≡ given → HasRead p left f given i a e b j →
    Does (take_in p left f next) a (unselected i) e b (unselected j)
asked p left f next given i j a b e h is r =
    quietly (λ c. cond (takes_in p c.inputs f) (read_record p left f next c) (done Continues c)) a b (unselected i) (unselected j) e r.config
    (λ previous. rw h (ap (λ (n : Option (List ℕ)). read_record p left f n (under_way (config_on previous a.config) (unselected i))) is ∙ r.read previous)) r.machine

-- ---- what is kept of a file, put in its place

put_back : (f : InputFile) (i : Inputs) → with_input f (input_at i f) i ≡ i
put_back Primary i = refl
put_back Secondary i = refl

pub taken_costs : (p : Object) (f : InputFile) (full : List ℕ) (t : ℕ) (a b c : Running) → TakesType p f full a t b → c ≡ record b { config = charged (length (match_fields p t)) b.config } → SpendsTakingIn p f a c
taken_costs p f full t a b c one two =
    let m = charged_so p f full t a b c one two in
    record {
      text = full;
      row = Some t;
      own = of_some (λ n. file_of (slice_get p.types n) ≡ f) t one.own;
      few = omega (arith, ap (λ (x : Running). x.config.steps) m, ap (λ (x : Running). x.config.allowance * most p) m);
    }

few_steps : (p : Object) (f : InputFile) (full : List ℕ) (t : ℕ) (a b c : Running) → TakesType p f full a t b → c ≡ record b { config = charged (length (match_fields p t)) b.config } → length (match_fields p t) ≤ 9 →
    c.config.steps ≤ a.config.steps + 20009
few_steps p f full t a b c one two few =
    let m = ap (λ (x : Running). x.config.steps) (charged_so p f full t a b c one two) in omega (arith, m, one.few, few)

-- how the file is left where it took nothing in
pub leaves_none : (p : Object) (f : InputFile) (k : KeptFile) (a : Running) → IsFileKept p f k → LeavesFile p f a (Ok tt) k a
leaves_none p f k a kept = record {
  taken = record { program = refl; ready = λ h. h; few = more a.config.steps; kept = kept };
  takes = record { text = []; row = None; own = of_none (λ t. file_of (slice_get p.types t) ≡ f); few = same (reach p a) (trial_weight f p.types []) };
  output = refl;
}
  where
    more : (n : ℕ) → n ≤ n + 20009
    more n = omega arith

    same : (n w : ℕ) → n ≤ n + (w + 0)
    same n w = omega arith

-- its end was read
pub over_kept : (p : Object) (f : InputFile) (k : KeptFile) → IsFileKept p f k → IsFileKept p f (record k { is_over = true })
over_kept p f k h = λ t e. let x = h t e in record { there = x.there; own = x.own; whole = x.whole; characters = x.characters; value = x.value }

-- the record that was filled waits
pub kept_waiting : (p : Object) (f : InputFile) (text full : List ℕ) (t : ℕ) (k : KeptFile) → is_valid_record p f text ≡ true → full ≡ padded p f text → length full ≡ input_length p f → t < length p.types → file_of (slice_get p.types t) ≡ f →
    k.waiting ≡ Some t → k.record.items ≡ full → seen_value k.value ≡ match_value p (record { type = t; text = full }) → IsFileKept p f k
kept_waiting p f text full t k valid filled whole there own waiting held value =
    subst (λ (o : Option ℕ). ForSome o (λ n. HoldsRecord p f k n)) (sym waiting) (of_some (λ n. HoldsRecord p f k n) t (record {
      there = there;
      own = own;
      whole = ap length held ∙ whole ∙ sym (ap (input_length p) own);
      characters = subst (λ (xs : List ℕ). All IsCharacter xs) (sym (held ∙ filled)) (filled_characters p f text valid);
      value = value ∙ ap (λ (xs : List ℕ). match_value p (record { type = t; text = xs })) (sym held);
    }))

module _ (p : Object) (f : InputFile) (full : List ℕ) (t : ℕ) (a b c : Running) (one : TakesType p f full a t b) (two : c ≡ record b { config = charged (length (match_fields p t)) b.config }) where
  same_output : c.output ≡ a.output
  same_output = ap (λ (x : Running). x.output) (charged_so p f full t a b c one two)

  -- where the record waits
  pub leaves_waiting : (k : KeptFile) → length (match_fields p t) ≤ 9 → (IsReady b → IsReady c) → IsFileKept p f k → LeavesFile p f a (Ok tt) k c
  leaves_waiting k few ready kept = record {
    taken = record {
      program = ap (λ (x : Running). x.program) (charged_so p f full t a b c one two);
      ready = λ h. ready (one.ready h);
      few = few_steps p f full t a b c one two few;
      kept = kept;
    };
    takes = taken_costs p f full t a b c one two;
    output = same_output;
  }

  -- where the job ended, or memory ran out
  pub leaves_ended : (s : PhaseStop) (k : KeptFile) → LeavesFile p f a (Err s) k c
  leaves_ended s k = record { taken = tt; takes = memory_both {A = Unit {0}} (Err s) _ (taken_costs p f full t a b c one two); output = same_output }

-- ---- a waiting record is selected

nothing_waits : (p : Object) (left : Left) (f : InputFile) (i : Inputs) (x : InputState) (text : List ℕ) (a : Running) → input_at i f ≡ x → x.waiting ≡ None → HasSelected p left f i a None text a (with_input f x i)
nothing_waits p left f i x text a is none = record {
  config = a.config;
  leads = λ previous.
      ap (λ (o : Option Selected). select_waiting p left f o (under_way (config_on previous a.config) (unselected i))) (ap (λ (y : InputState). y.waiting) is ∙ none)
      ∙ ap (λ (j : Inputs). done Continues (under_way (config_on previous a.config) (unselected j))) (sym (put_back f i) ∙ ap (λ (y : InputState). with_input f y i) is);
  machine = refl;
}

-- so nothing was selected
pub none_taken_up : (p : Object) (levels : List LastBytes) (values : LastValues) (k : KeptFile) (a : Running) → k.waiting ≡ None → IsTakenUp p levels values k a None levels values k a
none_taken_up p levels values k a none = record {
  goes = λ f left i at. nothing_waits p (with_seen levels values left) f i (input_state_of k) k.record.items a at (ap (λ (o : Option ℕ). selected_as o k.record.items) none);
  row = sym none;
  file = ap (λ (o : Option ℕ). let x : KeptFile = record k { waiting = o } in x) none;
  program = refl;
  ready = λ h. h;
  left = λ left. refl;
  spends = costs_none p 0 a;
}

-- levels and match values after a record
pub renews : (p : Object) (t : ℕ) (text : List ℕ) (levels levels' : List LastBytes) (values values' : LastValues) → seen_levels levels' ≡ renewed (control_fields p t) text 9 (seen_levels levels) →
    seen_value values'.primary ≡ value_following p Primary t text (seen_value values.primary) → seen_value values'.secondary ≡ value_following p Secondary t text (seen_value values.secondary) →
    RenewsSeen p (Some t) text levels values levels' values'
renews p t text levels levels' values values' bytes first second left =
    ap (λ (xs : List (Option (List ℕ))). let l : Left = record left { bytes = xs; primary = seen_value values'.primary; secondary = seen_value values'.secondary } in l) bytes
    ∙ ap (λ (v : Option (List ℕ)). let l : Left = record left { bytes = renewed (control_fields p t) text 9 (seen_levels levels); primary = v; secondary = seen_value values'.secondary } in l) first
    ∙ ap (λ (v : Option (List ℕ)). let l : Left = record left {
      bytes = renewed (control_fields p t) text 9 (seen_levels levels);
      primary = value_following p Primary t text (seen_value values.primary);
      secondary = v;
    } in l) second

-- what a selected record leads to
abbrev compared_so : Object → Left → ℕ → List ℕ → Config → Config
compared_so p left t text c =
    with_levels (broken_level p left (record { type = t; text = text })) (charged (length (control_fields p t)) (with_type (type_indicator (slice_get p.types t)) c))

compared_on : (previous : Option Position) (p : Object) (left : Left) (t : ℕ) (text : List ℕ) (c : Config) → config_on previous (compared_so p left t text c) ≡ compared_so p left t text (config_on previous c)
compared_on previous p left t text c =
    let levels = take (broken_level p left (record { type = t; text = text })) level_indicators in
    let weight = charged (length (control_fields p t)) in
    all_on previous levels true (weight (with_type (type_indicator (slice_get p.types t)) c))
    ∙ ap (λ (x : Config). with_all levels true (weight x)) (type_on previous (type_indicator (slice_get p.types t)) c)

selects_it : (p : Object) (left : Left) (f : InputFile) (i : Inputs) (t : ℕ) (text : List ℕ) (c : Config) → list_all (is_in_record (length text)) (control_fields p t) ≡ true →
    select_waiting p left f (Some (record { type = t; text = text })) (under_way c (unselected i)) ≡ done Continues (under_way (compared_so p left t text c) (holding (with_waiting f None i) (Some t) text))
selects_it p left f i t text c there = rw there refl

pub one_waits : (p : Object) (left : Left) (f : InputFile) (i : Inputs) (x y : InputState) (t : ℕ) (text : List ℕ) (a b : Running) (now : List (Option (List ℕ))) → input_at i f ≡ x →
    x.waiting ≡ Some (record { type = t; text = text }) → y ≡ record { waiting = None; is_over = x.is_over } → IsCompared (type_indicator (slice_get p.types t)) (control_fields p t) text left.bytes a b now →
    HasSelected p left f i a (Some t) text b (with_input f y i)
one_waits p left f i x y t text a b now is waits e h = record {
  config = compared_so p left t text a.config;
  leads = λ previous.
      ap (λ (o : Option Selected). select_waiting p left f o (under_way (config_on previous a.config) (unselected i))) (ap (λ (z : InputState). z.waiting) is ∙ waits)
      ∙ selects_it p left f i t text (config_on previous a.config) (all_inside (length text) (control_fields p t) h.inside)
      ∙ ap (λ (c : Config). done Continues (under_way c (holding (with_waiting f None i) (Some t) text))) (sym (compared_on previous p left t text a.config))
      ∙ ap (λ (z : InputState). done Continues (under_way (config_on previous (compared_so p left t text a.config)) (holding (with_input f z i) (Some t) text)))
      (ap (λ (z : InputState). let w : InputState = record { waiting = None; is_over = z.is_over } in w) is ∙ sym e);
  machine = h.machine;
}

-- what it costs
pub compared_spends : (p : Object) (n : Option ℕ) (fs : List ControlField) (text : List ℕ) (bytes now : List (Option (List ℕ))) (a b : Running) → IsCompared n fs text bytes a b now → Spends p (length fs) a b
compared_spends p n fs text bytes now a b h =
    let typed = type_keeps n a.config in
    let leveled = all_keep (take (broken_in fs text bytes) level_indicators) true (charged (length fs) (with_type n a.config)) in
    keeps_reach p (length fs) a b (with_levels (broken_in fs text bytes) (charged (length fs) (with_type n a.config))) h.machine
    (record { steps = leveled.steps ∙ ap (λ (k : ℕ). k + length fs) typed.steps; allowance = leveled.allowance ∙ typed.allowance })

-- ---- one of the records that wait

pub picks : (p : Object) (left : Left) (f : InputFile) (i j : Inputs) (t : Option ℕ) (text : List ℕ) (a b : Running) → chosen p left (waiting_in i Primary) (waiting_in i Secondary) ≡ Some f →
    HasSelected p left f i a t text b j → Does (select_one p left) a (unselected i) Continues b (holding j t text)
picks p left f i j t text a b is h =
    quietly (λ c. select_from p left (chosen p left (waiting_in c.inputs Primary) (waiting_in c.inputs Secondary)) c) a b (unselected i) (holding j t text) Continues h.config
    (λ previous. ap (λ (o : Option InputFile). select_from p left o (under_way (config_on previous a.config) (unselected i))) is ∙ h.leads previous) h.machine

-- the text that is kept of the record
text_of_file : (p : Object) (k : Kept) (f : InputFile) (t : Option ℕ) → ForSome t (λ n. file_of (slice_get p.types n) ≡ f) → selected_as t (text_in p k t) ≡ selected_as t (last_record_in k f)
text_of_file p k f None h = refl
text_of_file p k f (Some n) h = ap (λ (g : InputFile). selected_as (Some n) (last_record_in k g)) (h n refl)

-- the file's record was selected
picks_from : (p : Object) (f : InputFile) (old now : Kept) (t : Option ℕ) (a b : Running) → chosen p (left_of old) (waiting_in (inputs_of old) Primary) (waiting_in (inputs_of old) Secondary) ≡ Some f →
    HasSelected p (left_of old) f (inputs_of old) a t (last_record_in now f) b (inputs_of now) → t ≡ (kept_at old f).waiting → IsFileKept p f (kept_at old f) →
    Does (select_one p (left_of old)) a (unselected (inputs_of old)) Continues b (holding (inputs_of now) t (text_in p now t))
picks_from p f old now t a b is h same kept =
    subst (λ (o : Option Selected). let s : Beside = record { inputs = inputs_of now; selected = o } in Does (select_one p (left_of old)) a (unselected (inputs_of old)) Continues b s)
    (sym (text_of_file p now f t (λ n e. (kept n (sym same ∙ e)).own)))
    (picks p (left_of old) f (inputs_of old) (inputs_of now) t (last_record_in now f) a b is h)

-- and its file holds it still
holds_from : (p : Object) (f : InputFile) (old now : Kept) (t : Option ℕ) → t ≡ (kept_at old f).waiting → kept_at now f ≡ record (kept_at old f) { waiting = None } → IsFileKept p f (kept_at old f) →
    HoldsSelected p now t
holds_from p f old now t same is kept = λ n e.
    let h = kept n (sym same ∙ e) in
    subst (λ (g : InputFile). HoldsRecord p g (kept_at now g) n) (sym h.own)
    (subst (λ (k : KeptFile). HoldsRecord p f k n) (sym is) (record { there = h.there; own = h.own; whole = h.whole; characters = h.characters; value = h.value }))

-- what a file has, and what is kept of it
state_at : (f : InputFile) (k : Kept) → input_at (inputs_of k) f ≡ input_state_of (kept_at k f)
state_at Primary k = refl
state_at Secondary k = refl

text_at : (f : InputFile) (k : Kept) → (kept_at k f).record.items ≡ last_record_in k f
text_at Primary k = refl
text_at Secondary k = refl

both_kept : (p : Object) (f : InputFile) (k : Kept) → IsFileKept p f (kept_at k f) → IsFileKept p (other_file f) (kept_at k (other_file f)) → AreFilesKept p k
both_kept p Primary k h g = record { primary = h; secondary = g }
both_kept p Secondary k h g = record { primary = g; secondary = h }

kept_of : (p : Object) (k : Kept) (f : InputFile) → AreFilesKept p k → IsFileKept p f (kept_at k f)
kept_of p k Primary h = h.primary
kept_of p k Secondary h = h.secondary

renewed_text : (p : Object) (k : Kept) (f : InputFile) (t : Option ℕ) (l : Left) → ForSome t (λ n. file_of (slice_get p.types n) ≡ f) → renewed_by p t (kept_at k f).record.items l ≡ renewed_by p t (text_in p k t) l
renewed_text p k f None l h = refl
renewed_text p k f (Some n) l h =
    ap (λ (x : List ℕ). renewed_by p (Some n) x l) (text_at f k) ∙ ap (λ (g : InputFile). renewed_by p (Some n) (last_record_in k g) l) (sym (h n refl))

-- what is left with these levels and match values
pub left_renewed : (k : Kept) (levels : List LastBytes) (values : LastValues) {now : List LastBytes} → now ≡ levels →
    (let l : Left = record { any = k.has_any; control = k.has_control; bytes = seen_levels now; primary = seen_value values.primary; secondary = seen_value values.secondary } in l) ≡ with_seen levels values (left_of k)
left_renewed k levels values is =
    ap (λ (xs : List LastBytes). let l : Left = record (left_of k) { bytes = seen_levels xs; primary = seen_value values.primary; secondary = seen_value values.secondary } in l) is

-- the record that waited in the file that goes first was selected
pub picked_from : (p : Object) (f : InputFile) (old now : Kept) (levels : List LastBytes) (values : LastValues) (t : Option ℕ) (a b : Running) →
    chosen p (left_of old) (waiting_in (inputs_of old) Primary) (waiting_in (inputs_of old) Secondary) ≡ Some f → AreFilesKept p old →
    left_of now ≡ with_seen levels values (left_of old) → inputs_of now ≡ with_input f (input_state_of (kept_at now f)) (inputs_of old) → kept_at now (other_file f) ≡ kept_at old (other_file f) →
    IsTakenUp p old.levels.items old.values (kept_at old f) a t levels values (kept_at now f) b → IsPicked p old a t now b
picked_from p f old now levels values t a b is kept left inputs other up = record {
  goes = picks_from p f old now t a b is
      (subst (λ (i : Inputs). HasSelected p (left_of old) f (inputs_of old) a t (last_record_in now f) b i) (sym inputs)
      (subst (λ (x : List ℕ). HasSelected p (left_of old) f (inputs_of old) a t x b (with_input f (input_state_of (kept_at now f)) (inputs_of old))) (text_at f now)
      (up.goes f (left_of old) (inputs_of old) (state_at f old))))
      up.row mine;
  ready = up.ready;
  spends = up.spends;
  held = holds_from p f old now t up.row up.file mine;
  kept = both_kept p f now (subst (λ (k : KeptFile). IsFileKept p f k) (sym up.file) (of_none (λ n. HoldsRecord p f (record (kept_at old f) { waiting = None }) n)))
      (subst (λ (k : KeptFile). IsFileKept p (other_file f) k) (sym other) (kept_of p old (other_file f) kept));
  left = left ∙ up.left (left_of old) ∙ renewed_text p now f t (left_of old) (λ n e. (mine n (sym up.row ∙ e)).own);
}
  where
    mine : IsFileKept p f (kept_at old f)
    mine = kept_of p old f kept

-- none was selected
pub none_picked : (p : Object) (k : Kept) (a b : Running) → chosen p (left_of k) (waiting_in (inputs_of k) Primary) (waiting_in (inputs_of k) Secondary) ≡ None →
    b ≡ record a { config = with_all level_indicators true (with_one last_record true a.config) } → (IsReady a → IsReady b) → AreFilesKept p k → IsPicked p k a None k b
none_picked p k a b none is ready kept = record {
  goes = quietly (λ c. select_from p (left_of k) (chosen p (left_of k) (waiting_in c.inputs Primary) (waiting_in c.inputs Secondary)) c) a b (unselected i) (unselected i) Continues all
      (λ previous.
      ap (λ (o : Option InputFile). select_from p (left_of k) o (under_way (config_on previous a.config) (unselected i))) none
      ∙ ap (λ (c : Config). done Continues (under_way c (unselected i))) (sym (all_on previous level_indicators true (with_one last_record true a.config)))) is;
  ready = ready;
  spends = keeps_reach p 0 a b all is (record { steps = kept_steps.steps ∙ zero-right a.config.steps; allowance = kept_steps.allowance });
  held = of_none _;
  kept = kept;
  left = refl;
}
  where
    i : Inputs
    i = inputs_of k

    all : Config
    all = with_all level_indicators true (with_one last_record true a.config)

    kept_steps : Keeps (with_one last_record true a.config) all
    kept_steps = all_keep level_indicators true (with_one last_record true a.config)

    zero-right : (n : ℕ) → n ≡ n + 0
    zero-right n = omega arith

-- ---- phase 4

-- LR is on
pub at_last : (p : Object) (left : Left) (primary secondary : Option (List ℕ)) (i : Inputs) (a b : Running) → is_on a.config last_record ≡ true → b ≡ record a { config = with_all level_indicators true a.config } →
    Does (select_record p left primary secondary) a (unselected i) Continues b (unselected i)
at_last p left primary secondary i a b on is =
    let P = without_output (λ c. done Continues (with_config (with_all level_indicators true) c)) in
    let Q = take_in p left Primary primary before take_in p left Secondary secondary before select_one p left in
    let d = quietly (λ c. done Continues (with_config (with_all level_indicators true) c)) a b (unselected i) (unselected i) Continues (with_all level_indicators true a.config)
    (λ previous. ap (λ (c : Config). done Continues (under_way c (unselected i))) (sym (all_on previous level_indicators true a.config))) is in
    record {
      program = d.program;
      following = λ previous l.
          let x = d.following previous l in record {
            out = x.out;
            phase = subst (λ (z : Bool). either z P Q (under_way (config_on previous a.config) (unselected i)) Continues (under_way (config_on (last_position_from previous x.out.lines) b.config) (unselected i)) x.out)
                (sym on) x.phase;
            last = x.last;
            bytes = x.bytes;
          };
    }

-- it is off
pub not_last : (p : Object) (left : Left) (primary secondary : Option (List ℕ)) (a b : Running) (s t : Beside) (e : PhaseEnd) → is_on a.config last_record ≡ false →
    Does (take_in p left Primary primary before take_in p left Secondary secondary before select_one p left) a s e b t → Does (select_record p left primary secondary) a s e b t
not_last p left primary secondary a b s t e off d =
    let P = without_output (λ c. done Continues (with_config (with_all level_indicators true) c)) in
    let Q = take_in p left Primary primary before take_in p left Secondary secondary before select_one p left in
    record {
      program = d.program;
      following = λ previous l.
          let x = d.following previous l in record {
            out = x.out;
            phase = subst (λ (z : Bool). either z P Q (under_way (config_on previous a.config) s) e (under_way (config_on (last_position_from previous x.out.lines) b.config) t) x.out) (sym off) x.phase;
            last = x.last;
            bytes = x.bytes;
          };
    }
