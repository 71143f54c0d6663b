-- A record is taken in.
use Rattle.std.proofs.Common.{◌≡◌, ℕ, suc, ◌+◌, Bool, true, false, cond, not, ◌&&◌, List, [], ◌∷◌, length, slice_get, Option, None, Some, is_none, refl, sym, ap, ◌∙◌, subst, arith}
use Rattle.std.specs.List.{list_all}
use Rattle.rpg_program.specs.Input.{TypeRow}
use Rattle.rpg_program.specs.declared.input.InputFile.{InputFile}
use Rattle.rpg_program.specs.declared.input.InputFile.TheVariants.{Primary, Secondary}
use Rattle.rpg_machine.specs.Config.{Output, charged}
use Rattle.rpg_program.specs.Object.{Object, has_file}
use Rattle.rpg_cycle.proofs.Files.{file_orderly, over_spent, taking_none, taking_unspent, top_up, value_own, with_orderly}
use Rattle.rpg_cycle_records.specs.Earlier.{Selected, file_at, file_of, last_of_file, last_value, left_by, match_fields, match_value, or_before}
use Rattle.rpg_program.specs.Ends as effects
use Rattle.rpg_cycle.specs.Ends.{Continues, Halt, Wrong}
use Rattle.rpg_cycle_records.specs.Identifying.{Trial, IsOf, IsOfNone, Misplaced, padded, code_holds, identified, is_valid_record, has_position, same_file, trial_weight}
use Rattle.rpg_cycle_records.specs.Levels.{is_in_record}
use Rattle.rpg_cycle_records.specs.Matching.{exceeds}
use Rattle.rpg_cycle_records.specs.Merging.{AreMergedInOrder, IsTopOf, front}
use Rattle.rpg_cycle.specs.Phases.{Done, UnderWay, done, identify, read_record, take_in, take_type, with_config, with_inputs}
use Rattle.rpg_cycle_records.specs.Waiting.{InputState, Inputs, input_at, other_file, with_file_over, takes_in, waiting_value, with_input, with_waiting}

-- ---- the type that is found is one of the file

record IsRow (f : InputFile) (n : ℕ) (ts : List (TypeRow ℕ)) (k : ℕ) : Type 0 where
  pub place : ℕ
  pub row : k ≡ n + place
  pub file : file_of (slice_get ts place) ≡ f

same_is : (a b : InputFile) → not (same_file a b) ≡ false → a ≡ b
same_is Primary Primary h = refl
same_is Primary Secondary h = cc
same_is Secondary Primary h = cc
same_is Secondary Secondary h = refl

first_row : (n k : ℕ) → IsOf n ≡ IsOf k → k ≡ n + 0
first_row n k h = let e : n ≡ k = cc in omega (arith, e)

later : (f : InputFile) (n k : ℕ) (u : TypeRow ℕ) (ts : List (TypeRow ℕ)) → IsRow f (n + 1) ts k → IsRow f n (u ∷ ts) k
later f n k u ts x = record { place = suc x.place; row = omega (arith, x.row); file = x.file }

one_of : (f : InputFile) (n : ℕ) (u : TypeRow ℕ) (ts : List (TypeRow ℕ)) (k : ℕ) (rest : Trial) (other there hold : Bool) → (other ≡ false → u.file ≡ f) →
    (rest ≡ IsOf k → IsRow f (n + 1) ts k) → cond other rest (cond there (cond hold (IsOf n) rest) Misplaced) ≡ IsOf k → IsRow f n (u ∷ ts) k
one_of f n u ts k rest true there hold own more h = later f n k u ts (more h)
one_of f n u ts k rest false true true own more h = record { place = 0; row = first_row n k h; file = own refl }
one_of f n u ts k rest false true false own more h = later f n k u ts (more h)
one_of f n u ts k rest false false hold own more h = cc

in_file : (f : InputFile) (n : ℕ) (ts : List (TypeRow ℕ)) (text : List ℕ) (k : ℕ) → identified f n ts text ≡ IsOf k → IsRow f n ts k
in_file f n [] text k h = cc
in_file f n (u ∷ ts) text k h =
    one_of f n u ts k (identified f (n + 1) ts text) (not (same_file u.file f)) (list_all (has_position text) u.codes) (list_all (code_holds text) u.codes) (same_is u.file f)
    (λ g. in_file f (n + 1) ts text k g) h

pub found_in : (p : Object) (f : InputFile) (text : List ℕ) (k : ℕ) → identified f 0 p.types text ≡ IsOf k → file_of (slice_get p.types k) ≡ f
found_in p f text k h =
    let x = in_file f 0 p.types text k h in
    let e : k ≡ x.place = omega (arith, x.row) in
    ap (λ n. file_of (slice_get p.types n)) e ∙ x.file

-- ---- what it leads to

pub record Taken (p : Object) (earlier : List Selected) (f : InputFile) (c d : UnderWay) : Type 0 where
  pub orderly : AreMergedInOrder p earlier d.inputs
  pub selected : d.selected ≡ c.selected
  pub settled : takes_in p d.inputs f ≡ false
  pub other : input_at d.inputs (other_file f) ≡ input_at c.inputs (other_file f)

put_at : (f : InputFile) (x : InputState) (i : Inputs) → input_at (with_input f x i) f ≡ x
put_at Primary x i = refl
put_at Secondary x i = refl

kept_at : (f : InputFile) (x : InputState) (i : Inputs) → input_at (with_input f x i) (other_file f) ≡ input_at i (other_file f)
kept_at Primary x i = refl
kept_at Secondary x i = refl

shut : (b : Bool) → (b && false) ≡ false
shut true = refl
shut false = refl

shut_twice : (a b : Bool) → (a && (b && false)) ≡ false
shut_twice a b = ap (λ x. a && x) (shut b) ∙ shut a

-- its end was read
ended : (p : Object) (earlier : List Selected) (f : InputFile) (c : UnderWay) → AreMergedInOrder p earlier c.inputs → Taken p earlier f c (with_inputs (with_file_over f) c)
ended p earlier f c h = record {
  orderly = with_orderly p earlier c.inputs h f (record { waiting = None; is_over = true })
      (record { own = tt; top = λ k. absurd (let e : true ≡ false = sym (over_spent p f) ∙ k in cc) });
  selected = refl;
  settled = ap (λ (x : InputState). has_file p f && (not x.is_over && is_none x.waiting)) (put_at f (record { waiting = None; is_over = true }) c.inputs) ∙ shut (has_file p f);
  other = kept_at f (record { waiting = None; is_over = true }) c.inputs;
}

last_kept : (p : Object) (earlier : List Selected) (f : InputFile) → last_of_file (left_by p earlier) f ≡ last_value p f earlier
last_kept p earlier Primary = refl
last_kept p earlier Secondary = refl

-- the file has come to the record's value
come : (p : Object) (earlier : List Selected) (m last : Option (List ℕ)) → exceeds last m ≡ false → IsTopOf p last earlier → IsTopOf p (or_before last m) earlier
come p earlier None last low h = h
come p earlier (Some v) last low h = top_up p last v earlier low h

waits : (p : Object) (earlier : List Selected) (f : InputFile) (c : UnderWay) (s : Selected) → AreMergedInOrder p earlier c.inputs → takes_in p c.inputs f ≡ true → file_at p s ≡ f →
    exceeds (last_of_file (left_by p earlier) f) (match_value p s) ≡ false → Taken p earlier f c (with_inputs (with_waiting f (Some s)) c)
waits p earlier f c s h free own low = record {
  orderly = with_orderly p earlier c.inputs h f x (record { own = own; top = λ k. top });
  selected = refl;
  settled = ap (λ (y : InputState). has_file p f && (not y.is_over && is_none y.waiting)) (put_at f x c.inputs) ∙ shut_twice (has_file p f) (not x.is_over);
  other = kept_at f x c.inputs;
}
  where
    x : InputState
    x = record { waiting = Some s; is_over = (input_at c.inputs f).is_over }

    before : IsTopOf p (last_value p f earlier) earlier
    before = subst (λ (w : Option Selected). IsTopOf p (or_before (last_value p f earlier) (waiting_value p f w)) earlier) (taking_none p c.inputs f free)
        ((file_orderly p earlier c.inputs h f).top (taking_unspent p c.inputs f free))

    top : IsTopOf p (front p earlier f x) earlier
    top = subst (λ (m : Option (List ℕ)). IsTopOf p (or_before (last_value p f earlier) m) earlier) (sym (value_own p f s own))
        (come p earlier (match_value p s) (last_value p f earlier) (ap (λ l. exceeds l (match_value p s)) (sym (last_kept p earlier f)) ∙ low) before)

-- ---- by the tests of the definition

passed : (bad low : Bool) (x y w : UnderWay) (d : UnderWay) → Continues ≡ (let r : Done = cond bad (done (Wrong effects.Storage) x) (cond low (done (Halt 8) y) (done Continues w)) in r).end →
    d ≡ (let r : Done = cond bad (done (Wrong effects.Storage) x) (cond low (done (Halt 8) y) (done Continues w)) in r).leads → (low ≡ false) × (d ≡ w)
passed true low x y w d h e = absurd (cc)
passed false true x y w d h e = absurd (cc)
passed false false x y w d h e = (refl, e)

valid_one : (b : Bool) (x : Done) (c d : UnderWay) → Continues ≡ (let r : Done = cond b x (done (Halt 7) c) in r).end → d ≡ (let r : Done = cond b x (done (Halt 7) c) in r).leads →
    (Continues ≡ x.end) × (d ≡ x.leads)
valid_one true x c d h e = (h, e)
valid_one false x c d h e = absurd (cc)

typed : (p : Object) (earlier : List Selected) (f : InputFile) (text : List ℕ) (c d : UnderWay) (t : Trial) → identified f 0 p.types text ≡ t → AreMergedInOrder p earlier c.inputs → takes_in p c.inputs f ≡ true →
    Continues ≡ (take_type p (left_by p earlier) f text t c).end → d ≡ (take_type p (left_by p earlier) f text t c).leads → Taken p earlier f c d
typed p earlier f text c d (IsOf k) is h free goes leads =
    let s : Selected = record { type = k; text = text } in
    let c' = with_config (charged (length (match_fields p k))) c in
    let low = exceeds (last_of_file (left_by p earlier) f) (match_value p s) in
    let r = passed (not (list_all (is_in_record (length text)) (match_fields p k))) low c' c' (with_inputs (with_waiting f (Some s)) c') d goes leads in
    let x = waits p earlier f c' s h free (found_in p f text k is) r.0 in
    subst (λ (y : UnderWay). Taken p earlier f c y) (sym r.1) (record { orderly = x.orderly; selected = x.selected; settled = x.settled; other = x.other })
typed p earlier f text c d IsOfNone is h free goes leads = absurd (cc)
typed p earlier f text c d Misplaced is h free goes leads = absurd (cc)

read : (p : Object) (earlier : List Selected) (f : InputFile) (next : Option (List ℕ)) (c d : UnderWay) → AreMergedInOrder p earlier c.inputs → takes_in p c.inputs f ≡ true →
    Continues ≡ (read_record p (left_by p earlier) f next c).end → d ≡ (read_record p (left_by p earlier) f next c).leads → Taken p earlier f c d
read p earlier f None c d h free goes leads = subst (λ (y : UnderWay). Taken p earlier f c y) (sym leads) (ended p earlier f c h)
read p earlier f (Some text) c d h free goes leads =
    let r = valid_one (is_valid_record p f text) (identify p (left_by p earlier) f (padded p f text) c) c d goes leads in
    let c' = with_config (charged (trial_weight f p.types (padded p f text))) c in
    let x = typed p earlier f (padded p f text) c' d (identified f 0 p.types (padded p f text)) refl h free r.0 r.1 in
    record { orderly = x.orderly; selected = x.selected; settled = x.settled; other = x.other }

by_test : (p : Object) (earlier : List Selected) (f : InputFile) (next : Option (List ℕ)) (c d : UnderWay) (b : Bool) → takes_in p c.inputs f ≡ b → AreMergedInOrder p earlier c.inputs →
    Continues ≡ (let r : Done = cond b (read_record p (left_by p earlier) f next c) (done Continues c) in r).end →
    d ≡ (let r : Done = cond b (read_record p (left_by p earlier) f next c) (done Continues c) in r).leads → Taken p earlier f c d
by_test p earlier f next c d true is h goes leads = read p earlier f next c d h is goes leads
by_test p earlier f next c d false is h goes leads =
    subst (λ (y : UnderWay). Taken p earlier f c y) (sym leads) (record { orderly = h; selected = refl; settled = is; other = refl })

pub takes : (p : Object) (earlier : List Selected) (f : InputFile) (next : Option (List ℕ)) (c d : UnderWay) (out : Output) → AreMergedInOrder p earlier c.inputs →
    take_in p (left_by p earlier) f next c Continues d out → Taken p earlier f c d
takes p earlier f next c d out h g = by_test p earlier f next c d (takes_in p c.inputs f) refl h g.0 g.1
