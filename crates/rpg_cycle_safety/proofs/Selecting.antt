-- Records are taken in, and one is selected, or the job ends.
use Rattle.std.proofs.Common.{◌≡◌, ℕ, ◌+◌, ◌-◌, ◌≤◌, ◌<◌, Bool, true, false, ◌&&◌, cond, leb, leb-true, not, List, [], ◌∷◌, length, replicate, take, slice_get, Option, None, Some, All, refl, sym, ap, ◌∙◌, subst, arith, length-append}
use Rattle.std.proofs.lemmas.List.{length-replicate}
use Rattle.std.proofs.lemmas.List.Elements.{All-head, All-nil, All-tail}
use Rattle.std.proofs.lemmas.Option.{get_or_from_slice_get, same_Some, slice_get_within}
use Rattle.std.specs.List.{list_all}
use Rattle.std.specs.Option.{ForSome}
use Rattle.rpg_cycle_records.proofs.Finding.{found_own}
use Rattle.rpg_cycle_records.proofs.Fitting.{types_fit}
use Rattle.rpg_cycle_records.proofs.Recording.{filled_characters}
use Rattle.rpg_cycle_records.proofs.Trying.{all_there, fit_file}
use Rattle.rpg_cycle.proofs.Selecting.{all_inside}
use Rattle.rpg_cycle_records.specs.Earlier.{Left, Selected, control_fields, file_of, last_of_file, levels_of, match_fields, match_value, row_match_fields}
use Rattle.rpg_cycle.specs.Ends.{PhaseEnd, Continues, Halt, Wrong}
use Rattle.rpg_cycle_records.specs.Fitting.{IsControlIn, IsFilledAs, IsTypeFit, IsTypeOf}
use Rattle.rpg_cycle_records.specs.Identifying.{Trial, IsOf, IsOfNone, Misplaced, padded, code_holds, identified, is_valid_record, has_position, same_file, trial_weight}
use Rattle.rpg_cycle_records.specs.Levels.{is_in_record}
use Rattle.rpg_cycle_records.specs.Matching.{exceeds}
use Rattle.rpg_cycle_records.specs.Paying.{moved_of}
use Rattle.rpg_cycle_records.specs.Waiting.{Inputs, with_file_over, takes_in, unread, waiting_in, with_waiting}
use Rattle.rpg_cycle.specs.Indicators.{last_record, level_indicators, with_all, with_levels, with_one, with_type}
use Rattle.rpg_cycle.specs.Phases.{Done, UnderWay, broken_level, compare_levels, done, identify, match_up, read_record, select_from, select_waiting, take_type, type_indicator, with_config, with_inputs}
use Rattle.rpg_program.specs.Ends as effects
use Rattle.rpg_program.specs.Input.{TypeRow}
use Rattle.rpg_program.specs.declared.input.InputFile.{InputFile}
use Rattle.rpg_program.specs.declared.input.InputFile.TheVariants.{Primary, Secondary}
use Rattle.rpg_text.specs.Texts.{is_character}
use Rattle.rpg_cycle_safety.specs.Coming.{IsCycleEnd}
use Rattle.rpg_cycle_safety.specs.Waiting.{AreWaiting, IsWaitingIn}
use Rattle.rpg_machine.specs.Accepted.{IsOrderly}
use Rattle.rpg_machine.specs.Config.{Config, charged}
use Rattle.rpg_machine.specs.Outputs.{input_fields_of}
use Rattle.rpg_program.specs.Kept.{IsCharacter}
use Rattle.rpg_program.specs.Object.{Object, input_length}
use Rattle.rpg_cycle_safety.proofs.Turning.{Still, all_still, itself, last_still_on, still_then, type_still}
use Rattle.rpg_cycle_safety.proofs.Weighing.{moved_few, moving_weight, taken_few, taking_weight, tried_few}
use Rattle.rpg_cycle_safety.proofs.Working.{IsTaken, its_fields}

-- ---- codes, match fields and control fields are on columns that are there

not_misplaced : (n : ℕ) (there hold : Bool) (rest : Trial) → there ≡ true → (rest ≡ Misplaced → ⊥) → cond there (cond hold (IsOf n) rest) Misplaced ≡ Misplaced → ⊥
not_misplaced n true true rest h more is = cc
not_misplaced n true false rest h more is = more is
not_misplaced n false hold rest h more is = cc

in_file : (f : InputFile) (n : ℕ) (t : TypeRow ℕ) (text : List ℕ) (rest : Trial) (own : Bool) → same_file t.file f ≡ own → IsTypeOf f (length text) t → (rest ≡ Misplaced → ⊥) →
    cond (not own) rest (cond (list_all (has_position text) t.codes) (cond (list_all (code_holds text) t.codes) (IsOf n) rest) Misplaced) ≡ Misplaced → ⊥
in_file f n t text rest false e fit more is = more is
in_file f n t text rest true e fit more is = not_misplaced n (list_all (has_position text) t.codes) (list_all (code_holds text) t.codes) rest (all_there text t.codes (fit e).codes) more is

never_misplaced : (f : InputFile) (n : ℕ) (ts : List (TypeRow ℕ)) (text : List ℕ) → All (IsTypeOf f (length text)) ts → identified f n ts text ≡ Misplaced → ⊥
never_misplaced f n [] text fit is = cc
never_misplaced f n (t ∷ ts) text fit is =
    in_file f n t text (identified f (n + 1) ts text) (same_file t.file f) refl (All-head (IsTypeOf f (length text)) t ts fit)
    (never_misplaced f (n + 1) ts text (All-tail (IsTypeOf f (length text)) t ts fit)) is

fit_at : (p : Object) (row : ℕ) (t : TypeRow ℕ) → All (IsTypeFit p) p.types → slice_get p.types row ≡ Some t → IsTypeFit p t
fit_at p row t fit is = subst (IsTypeFit p) (get_or_from_slice_get p.types row t t is) (fit row t (slice_get_within p.types row t is))

levels_fit : (p : Object) (row : ℕ) (o : Option (TypeRow ℕ)) → All (IsTypeFit p) p.types → slice_get p.types row ≡ o →
    All (IsControlIn (input_length p (file_of o))) (levels_of o)
levels_fit p row None fit is = All-nil (IsControlIn (input_length p Primary))
levels_fit p row (Some t) fit is = (fit_at p row t fit is).levels

matches_fit : (p : Object) (row : ℕ) (o : Option (TypeRow ℕ)) → All (IsTypeFit p) p.types → slice_get p.types row ≡ o →
    All (IsControlIn (input_length p (file_of o))) (row_match_fields o)
matches_fit p row None fit is = All-nil (IsControlIn (input_length p Primary))
matches_fit p row (Some t) fit is = (fit_at p row t fit is).matches

-- the row of a type that is found is there
row_there : (n k : ℕ) (ts : List (TypeRow ℕ)) (rest : Trial) (other there hold : Bool) → (rest ≡ IsOf k → k < n + 1 + length ts) →
    cond other rest (cond there (cond hold (IsOf n) rest) Misplaced) ≡ IsOf k → k < n + (1 + length ts)
row_there n k ts rest true there hold more is = let h = more is in omega (arith, h)
row_there n k ts rest false false hold more is = cc
row_there n k ts rest false true true more is = let same : n ≡ k = cc in omega (arith, same)
row_there n k ts rest false true false more is = let h = more is in omega (arith, h)

found_there : (f : InputFile) (n : ℕ) (ts : List (TypeRow ℕ)) (text : List ℕ) (k : ℕ) → identified f n ts text ≡ IsOf k → k < n + length ts
found_there f n [] text k is = cc
found_there f n (t ∷ ts) text k is =
    let h = row_there n k ts (identified f (n + 1) ts text) (not (same_file t.file f)) (list_all (has_position text) t.codes) (list_all (code_holds text) t.codes)
    (λ more. found_there f (n + 1) ts text k more) is in
    omega (arith, h)

-- ---- the record as it is filled

first : (b c : Bool) → (b && c) ≡ true → b ≡ true
first true c h = refl
first false c h = cc

filled_long : (p : Object) (f : InputFile) (text : List ℕ) → is_valid_record p f text ≡ true → length (padded p f text) ≡ input_length p f
filled_long p f text valid =
    let short : length text ≤ input_length p f = leb-true (length text) (input_length p f) (first (leb (length text) (input_length p f)) (list_all is_character text) valid) in
    let long = length-append text (replicate (input_length p f - length text) 32) in
    let blanks : length {A = ℕ} (replicate (input_length p f - length text) 32) ≡ input_length p f - length text = length-replicate (input_length p f - length text) 32 in
    omega (arith, short, long, blanks)

-- ---- what waits

nothing_waits : (p : Object) (f : InputFile) → ForSome None (λ s. IsWaitingIn p f s)
nothing_waits p f s is = cc

this_waits : (p : Object) (f : InputFile) (s : Selected) → IsWaitingIn p f s → ForSome (Some s) (λ s. IsWaitingIn p f s)
this_waits p f s h t is = subst (λ (x : Selected). IsWaitingIn p f x) (same_Some s t is) h

one_waits : (p : Object) (i : Inputs) (f : InputFile) (o : Option Selected) → AreWaiting p i → ForSome o (λ s. IsWaitingIn p f s) → AreWaiting p (with_waiting f o i)
one_waits p i Primary o h new = record { primary = new; secondary = h.secondary }
one_waits p i Secondary o h new = record { primary = h.primary; secondary = new }

none_waits : (p : Object) (i : Inputs) (f : InputFile) → AreWaiting p i → AreWaiting p (with_file_over f i)
none_waits p i Primary h = record { primary = nothing_waits p Primary; secondary = h.secondary }
none_waits p i Secondary h = record { primary = h.primary; secondary = nothing_waits p Secondary }

waits_in : (p : Object) (i : Inputs) (f : InputFile) → AreWaiting p i → ForSome (waiting_in i f) (λ s. IsWaitingIn p f s)
waits_in p i Primary h = h.primary
waits_in p i Secondary h = h.secondary

filled_as : (p : Object) (f : InputFile) (s : Selected) → IsWaitingIn p f s → IsFilledAs p s.type s.text
filled_as p f s h = h.long ∙ sym (ap (input_length p) h.own)

-- the fields of a row are moved
both_moved : (o : Option (TypeRow ℕ)) → length (levels_of o) + length (input_fields_of o) ≤ moved_of o
both_moved None = omega arith
both_moved (Some t) = omega arith

-- ---- what comes of it

pub charged_still : (weight : ℕ) (c : Config) → Still weight c (charged weight c)
charged_still weight c = record { fields = refl; form = refl; place = refl; cells = refl; steps = refl; allowance = refl }

-- a step of phase 4: but for indicators and steps all is the same, what waits and what is selected are well kept, and so much is paid at most
pub record Picks (p : Object) (a : ℕ) (c : UnderWay) (d : Done) : Type 0 where
  pub weight : ℕ
  pub still : Still weight c.config d.leads.config
  pub named : IsCycleEnd d.end
  pub waiting : AreWaiting p d.leads.inputs
  pub taken : IsTaken p d.leads.selected
  pub few : weight + its_fields p d.leads.selected ≤ its_fields p c.selected + a

-- the same files and the same record, after so many steps
stays : (p : Object) (a weight : ℕ) (c : UnderWay) (d : Config) (e : PhaseEnd) → IsCycleEnd e → AreWaiting p c.inputs → IsTaken p c.selected → Still weight c.config d → weight ≤ a →
    Picks p a c (done e (record { config = d; inputs = c.inputs; selected = c.selected }))
stays p a weight c d e named waiting taken still few = record { weight = weight; still = still; named = named; waiting = waiting; taken = taken; few = omega (arith, few) }

module _ (p : Object) (orderly : IsOrderly p) (left : Left) where
  types_there : All (IsTypeFit p) p.types
  types_there = types_fit p orderly.sound orderly.program

  -- ---- taking in

  module _ (f : InputFile) (c : UnderWay) (waiting : AreWaiting p c.inputs) (taken : IsTaken p c.selected) where
    abbrev Takes : Done → Type 0
    Takes d = Picks p (taking_weight f p.types) c d

    module _ (full : List ℕ) (long : length full ≡ input_length p f) (spelled : All IsCharacter full) where
      abbrev tried : UnderWay
      tried = with_config (charged (trial_weight f p.types full)) c

      waits : (t : ℕ) → identified f 0 p.types full ≡ IsOf t → IsWaitingIn p f (record { type = t; text = full })
      waits t is = record { there = let h = found_there f 0 p.types full t is in omega (arith, h); own = found_own f p.types full t is; long = long; characters = spelled }

      matched : (t : ℕ) (low : Bool) → identified f 0 p.types full ≡ IsOf t →
          Takes (cond low (done (Halt 8) (with_config (charged (length (match_fields p t))) tried))
          (done Continues (with_inputs (with_waiting f (Some (record { type = t; text = full }))) (with_config (charged (length (match_fields p t))) tried))))
      matched t low is = by_test low
        where
          still : Still (trial_weight f p.types full + length (match_fields p t)) c.config (charged (length (match_fields p t)) tried.config)
          still = still_then (trial_weight f p.types full) (length (match_fields p t)) c.config tried.config (charged (length (match_fields p t)) tried.config)
              (charged_still (trial_weight f p.types full) c.config) (charged_still (length (match_fields p t)) tried.config)

          few : trial_weight f p.types full + length (match_fields p t) ≤ taking_weight f p.types
          few = taken_few f p.types full t (found_own f p.types full t is)

          by_test : (b : Bool) → Takes (cond b (done (Halt 8) (with_config (charged (length (match_fields p t))) tried))
              (done Continues (with_inputs (with_waiting f (Some (record { type = t; text = full }))) (with_config (charged (length (match_fields p t))) tried))))
          by_test true = stays p (taking_weight f p.types) (trial_weight f p.types full + length (match_fields p t)) c (charged (length (match_fields p t)) tried.config) (Halt 8) (omega arith, omega arith) waiting taken still few
          by_test false = record {
            weight = trial_weight f p.types full + length (match_fields p t);
            still = still;
            named = tt;
            waiting = one_waits p c.inputs f (Some (record { type = t; text = full })) waiting (this_waits p f (record { type = t; text = full }) (waits t is));
            taken = taken;
            few = let l = few in omega (arith, l);
          }

      in_columns : (t : ℕ) → identified f 0 p.types full ≡ IsOf t → list_all (is_in_record (length full)) (match_fields p t) ≡ true
      in_columns t is =
          all_inside (length full) (match_fields p t)
          (subst (λ (len : ℕ). All (IsControlIn len) (match_fields p t)) (sym (filled_as p f (record { type = t; text = full }) (waits t is)))
          (matches_fit p t (slice_get p.types t) types_there refl))

      of_type : (t : ℕ) → identified f 0 p.types full ≡ IsOf t →
          Takes (match_up p left f (record { type = t; text = full }) (with_config (charged (length (match_fields p t))) tried))
      of_type t is =
          let s : Selected = record { type = t; text = full } in
          let low = exceeds (last_of_file left f) (match_value p s) in
          let there = with_config (charged (length (match_fields p t))) tried in
          subst (λ (b : Bool). Takes (cond (not b) (done (Wrong effects.Storage) there) (cond low (done (Halt 8) there) (done Continues (with_inputs (with_waiting f (Some s)) there)))))
          (sym (in_columns t is)) (matched t low is)

      by_trial : (t : Trial) → identified f 0 p.types full ≡ t → Takes (take_type p left f full t tried)
      by_trial (IsOf t) is = of_type t is
      by_trial IsOfNone is =
          stays p (taking_weight f p.types) (trial_weight f p.types full) c tried.config (Halt 3) (omega arith, omega arith) waiting taken (charged_still (trial_weight f p.types full) c.config)
          (tried_few f p.types full)
      by_trial Misplaced is = absurd (never_misplaced f 0 p.types full (fit_file p f (length full) p.types long types_there) is)

    read_valid : (b : Bool) (text : List ℕ) → is_valid_record p f text ≡ b → Takes (cond b (identify p left f (padded p f text) c) (done (Halt 7) c))
    read_valid true text valid =
        by_trial (padded p f text) (filled_long p f text valid) (filled_characters p f text valid) (identified f 0 p.types (padded p f text)) refl
    read_valid false text valid = stays p (taking_weight f p.types) 0 c c.config (Halt 7) (omega arith, omega arith) waiting taken (itself c.config) (omega arith)

    reads : (next : Option (List ℕ)) → Takes (read_record p left f next c)
    reads None = record { weight = 0; still = itself c.config; named = tt; waiting = none_waits p c.inputs f waiting; taken = taken; few = omega arith }
    reads (Some text) = read_valid (is_valid_record p f text) text refl

    by_need : (b : Bool) (next : Option (List ℕ)) → Takes (cond b (read_record p left f next c) (done Continues c))
    by_need true next = reads next
    by_need false next = stays p (taking_weight f p.types) 0 c c.config Continues tt waiting taken (itself c.config) (omega arith)

    -- a file takes a record in, or its end, or nothing
    pub takes : (next : Option (List ℕ)) → Takes (cond (takes_in p c.inputs f) (read_record p left f next c) (done Continues c))
    takes next = by_need (takes_in p c.inputs f) next

  -- ---- selecting

  module _ (c : UnderWay) (waiting : AreWaiting p c.inputs) (taken : IsTaken p c.selected) where
    abbrev Selects : Done → Type 0
    Selects d = Picks p (moving_weight p.types) c d

    by_levels : (f : InputFile) (s : Selected) → IsWaitingIn p f s →
        Selects (compare_levels p left s (with_config (with_type (type_indicator (slice_get p.types s.type))) (with_inputs (with_waiting f None) c)))
    by_levels f s h =
        let fields = control_fields p s.type in
        let there : UnderWay = with_config (with_type (type_indicator (slice_get p.types s.type))) (with_inputs (with_waiting f None) c) in
        let one = with_type (type_indicator (slice_get p.types s.type)) c.config in
        let two = charged (length fields) one in
        let three = with_levels (broken_level p left s) two in
        let still : Still (0 + length fields + 0) c.config three =
        still_then (0 + length fields) 0 c.config two three
        (still_then 0 (length fields) c.config one two (type_still (type_indicator (slice_get p.types s.type)) c.config) (charged_still (length fields) one))
        (all_still (take (broken_level p left s) level_indicators) true two) in
        let inside = all_inside (length s.text) fields (subst (λ (len : ℕ). All (IsControlIn len) fields) (sym (filled_as p f s h)) (levels_fit p s.type (slice_get p.types s.type) types_there refl)) in
        let moved = both_moved (slice_get p.types s.type) in
        let few = moved_few p.types s.type in
        let valid : Picks p (moving_weight p.types) c (done Continues (record { config = three; inputs = with_waiting f None c.inputs; selected = Some s })) = record {
          weight = 0 + length fields + 0;
          still = still;
          named = tt;
          waiting = one_waits p c.inputs f None waiting (nothing_waits p f);
          taken = record { long = filled_as p f s h; characters = h.characters };
          few = omega (arith, moved, few);
        } in
        subst (λ (b : Bool). Selects (cond b (done Continues (record { config = three; inputs = with_waiting f None c.inputs; selected = Some s })) (done (Wrong effects.Storage) (with_config (charged (length fields)) there)))) (sym inside) valid

    from_file : (f : InputFile) (o : Option Selected) → ForSome o (λ s. IsWaitingIn p f s) → Selects (select_waiting p left f o c)
    from_file f None h = stays p (moving_weight p.types) 0 c c.config Continues tt waiting taken (itself c.config) (omega arith)
    from_file f (Some s) h = by_levels f s (h s refl)

    -- the record that waits in a file is selected, or LR and all levels turn on
    pub selects : (o : Option InputFile) → Selects (select_from p left o c)
    selects None = stays p (moving_weight p.types) 0 c (with_all level_indicators true (with_one last_record true c.config)) Continues tt waiting taken (last_still_on c.config) (omega arith)
    selects (Some f) = from_file f (waiting_in c.inputs f) (waits_in p c.inputs f waiting)

-- L1 to L9 turn on, where LR is on
pub levels_alone : (p : Object) (a : ℕ) (c : UnderWay) → AreWaiting p c.inputs → IsTaken p c.selected → Picks p a c (done Continues (with_config (with_all level_indicators true) c))
levels_alone p a c waiting taken = stays p a 0 c (with_all level_indicators true c.config) Continues tt waiting taken (all_still level_indicators true c.config) (omega arith)

-- before the first record nothing waits
pub unread_waits : (p : Object) → AreWaiting p unread
unread_waits p = record { primary = nothing_waits p Primary; secondary = nothing_waits p Secondary }
