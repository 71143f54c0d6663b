-- What a cycle does with the records that are next in the two files: which of them it does the same with, and what one that continues has taken.
use Rattle.std.proofs.Common.{◌≡◌, ℕ, ◌+◌, ◌≤◌, Bool, true, false, cond, not, ◌&&◌, ◌||◌, List, [], ◌∷◌, length, slice_get, Option, None, Some, is_none, refl, sym, ap, ◌∙◌, subst, arith, inl, inr}
use Rattle.std.specs.List.{list_all}
use Rattle.rpg_cycle.proofs.Cycling.{Stays, at_totals, after_4, after_match, by_act, from_selection, same, stay}
use Rattle.rpg_cycle.proofs.Ending.{shorter}
use Rattle.rpg_cycle.proofs.InTurn.{both_on}
use Rattle.rpg_cycle.proofs.Taking.{takes}
use Rattle.rpg_cycle.specs.Counting.{waiting_count}
use Rattle.rpg_cycle.specs.Ends.{PhaseEnd, Continues, EndOfJob, Halt, Wrong}
use Rattle.rpg_cycle.specs.Indicators.{any_on, halt_indicators, is_on, last_record, level_indicators, with_all, with_levels, with_type}
use Rattle.rpg_cycle.specs.Phases.{Cycle, Done, Phase, UnderWay, begun, broken_level, detail_lines, without_output, done, either, end_where_last, from_there, halt_if_indicated, identify, is_bypassed, needs_record, overflow_lines, read_record, select_from, select_one, select_record, select_waiting, set_off, show_match, take_in, total_time, type_indicator, with_config, with_inputs, ◌before◌}
use Rattle.rpg_cycle.specs.Staging.{after_selection}
use Rattle.rpg_cycle.specs.Runs.{Records, next_of}
use Rattle.rpg_cycle_records.specs.Earlier.{Left, Selected, control_fields, left_by}
use Rattle.rpg_cycle_records.specs.Identifying.{padded}
use Rattle.rpg_cycle_records.specs.Levels.{is_in_record}
use Rattle.rpg_cycle_records.specs.Merging.{AreMergedInOrder}
use Rattle.rpg_cycle_records.specs.Waiting.{InputState, Inputs, chosen, has_match, input_at, with_file_over, takes_in, waiting_in, with_waiting}
use Rattle.rpg_program.specs.Ends as effects
use Rattle.rpg_program.specs.declared.input.InputFile.{InputFile}
use Rattle.rpg_program.specs.declared.input.InputFile.TheVariants.{Primary, Secondary}
use Rattle.rpg_machine.specs.Config.{Config, Output, charged}
use Rattle.rpg_machine.specs.Outputs.{Outputs}
use Rattle.rpg_machine.specs.declared.time.OutputTime.TheVariants as times
use Rattle.rpg_program.specs.Object.{Object, has_file}
use Rattle.rpg_engine.specs.Reporting.{AreSameOrBad, IsBad}

-- ---- records that are alike to a cycle

-- where one phase does what the other does
abbrev pub Follows : Phase → Phase → Type 0
Follows P Q = (c : UnderWay) (e : PhaseEnd) (d : UnderWay) (out : Output) → P c e d out → Q c e d out

there : (P Q : Phase) (f : PhaseEnd) (m : UnderWay) (put : Output) (e : PhaseEnd) (d : UnderWay) (out : Output) → Follows P Q → from_there P f m put e d out → from_there Q f m put e d out
there P Q Continues m put e d out alike h = (h.0, alike m e d h.0 h.1, h.2)
there P Q EndOfJob m put e d out alike h = h
there P Q (Halt k) m put e d out alike h = h
there P Q (Wrong f) m put e d out alike h = h

after_same : (P Q R : Phase) → Follows Q R → Follows (P before Q) (P before R)
after_same P Q R alike c e d out h = (h.0, h.1, h.2, h.3, there Q R h.0 h.1 h.2 e d out alike h.4)

first_same : (P Q R : Phase) → Follows P Q → Follows (P before R) (Q before R)
first_same P Q R alike c e d out h = (h.0, h.1, h.2, alike c h.0 h.1 h.2 h.3, h.4)

either_same : (b : Bool) (P Q R : Phase) → Follows Q R → Follows (either b P Q) (either b P R)
either_same true P Q R alike c e d out h = h
either_same false P Q R alike c e d out h = alike c e d out h

reads_bad : (p : Object) (left : Left) (f : InputFile) (x : Option (List ℕ)) (c : UnderWay) → IsBad p f x → read_record p left f x c ≡ done (Halt 7) c
reads_bad p left f None c bad = absurd bad
reads_bad p left f (Some r) c bad = ap (λ b. cond b (identify p left f (padded p f r) c) (done (Halt 7) c)) bad

reads_same : (p : Object) (left : Left) (f : InputFile) (x y : Option (List ℕ)) (c : UnderWay) → AreSameOrBad p f x y → read_record p left f x c ≡ read_record p left f y c
reads_same p left f x y c (inl is) = ap (λ o. read_record p left f o c) is
reads_same p left f x y c (inr bad) = reads_bad p left f x c bad.0 ∙ sym (reads_bad p left f y c bad.1)

takes_same : (p : Object) (left : Left) (f : InputFile) (x y : Option (List ℕ)) → AreSameOrBad p f x y → Follows (take_in p left f x) (take_in p left f y)
takes_same p left f x y alike c e d out h =
    let is = ap (λ (r : Done). cond (takes_in p c.inputs f) r (done Continues c)) (reads_same p left f x y c alike) in
    (h.0 ∙ ap (λ (r : Done). r.end) is, h.1 ∙ ap (λ (r : Done). r.leads) is, h.2)

selects_same : (p : Object) (left : Left) (x x' y y' : Option (List ℕ)) → AreSameOrBad p Primary x x' → AreSameOrBad p Secondary y y' → Follows (select_record p left x y) (select_record p left x' y')
selects_same p left x x' y y' alike alike_too c =
    either_same (is_on c.config last_record) (without_output (λ u. done Continues (with_config (with_all level_indicators true) u)))
    (take_in p left Primary x before take_in p left Secondary y before select_one p left) (take_in p left Primary x' before take_in p left Secondary y' before select_one p left)
    (λ m e d out h. after_same (take_in p left Primary x') (take_in p left Secondary y before select_one p left) (take_in p left Secondary y' before select_one p left)
    (first_same (take_in p left Secondary y) (take_in p left Secondary y') (select_one p left) (takes_same p left Secondary y y' alike_too)) m e d out
    (first_same (take_in p left Primary x) (take_in p left Primary x') (take_in p left Secondary y before select_one p left) (takes_same p left Primary x x' alike) m e d out h)) c

-- a cycle does the same with records that are alike
pub cycles_same : (p : Object) (earlier : List Selected) (x x' y y' : Option (List ℕ)) → AreSameOrBad p Primary x x' → AreSameOrBad p Secondary y y' → Follows (Cycle p earlier x y) (Cycle p earlier x' y')
cycles_same p earlier x x' y y' alike alike_too =
    after_same (detail_lines p) _ _ (after_same halt_if_indicated _ _ (after_same (set_off p) _ _
    (first_same _ _ _ (selects_same p (left_by p earlier) x x' y y' alike alike_too))))

-- ---- a cycle that continues

not_last : (b c : Bool) → Continues ≡ cond (b || c) EndOfJob Continues → c ≡ false
not_last true c h = absurd (cc)
not_last false true h = absurd (cc)
not_last false false h = refl

has_selected : (p : Object) (left : Left) (t : Inputs → Selected → Bool) (c d : UnderWay) (out : Output) → after_selection p left t c Continues d out → is_none c.selected ≡ false
has_selected p left t c d out g =
    let five = both_on (total_time p left) (end_where_last before overflow_lines p before show_match t before after_match p) c d out g in
    let six = both_on end_where_last (overflow_lines p before show_match t before after_match p) five.mid d five.more five.two in
    let k5 = at_totals p (is_bypassed p left.any left.control c.config) c five.mid five.put five.one in
    ap is_none (sym k5.selected) ∙ not_last (is_on five.mid.config last_record) (is_none five.mid.selected) six.one.0

-- the files were read one after the other, and a record was selected
record Picks (p : Object) (left : Left) (x y : Option (List ℕ)) (c d : UnderWay) : Type 0 where
  one : UnderWay
  two : UnderWay
  put : Output
  more : Output
  last : Output
  first : take_in p left Primary x c Continues one put
  second : take_in p left Secondary y one Continues two more
  selects : select_one p left two Continues d last

picks : (p : Object) (left : Left) (x y : Option (List ℕ)) (c d : UnderWay) (out : Output) (lit : Bool) → c.selected ≡ None → is_none d.selected ≡ false →
    either lit (without_output (λ u. done Continues (with_config (with_all level_indicators true) u)))
    (take_in p left Primary x before take_in p left Secondary y before select_one p left) c Continues d out → Picks p left x y c d
picks p left x y c d out true none some g =
    absurd (let e : is_none d.selected ≡ true = ap is_none (ap (λ (u : UnderWay). u.selected) g.1 ∙ none) in let never : true ≡ false = sym e ∙ some in cc)
picks p left x y c d out false none some g =
    let one = both_on (take_in p left Primary x) (take_in p left Secondary y before select_one p left) c d out g in
    let two = both_on (take_in p left Secondary y) (select_one p left) one.mid d one.more one.two in
    record { one = one.mid; two = two.mid; put = one.put; more = two.put; last = two.more; first = one.one; second = two.one; selects = two.two }

-- what came of a file: whether its end was read
pub record HasTaken (p : Object) (f : InputFile) (x : Option (List ℕ)) (old new : Inputs) : Type 0 where
  pub no_bad : takes_in p old f ≡ true → IsBad p f x → ⊥
  pub over_where_none : takes_in p old f ≡ true → x ≡ None → (input_at new f).is_over ≡ true
  pub over_still : (input_at old f).is_over ≡ true → (input_at new f).is_over ≡ true

taken : (b : Bool) (r x : Done) (c d : UnderWay) → b ≡ true → Continues ≡ (let k : Done = cond b r x in k).end → d ≡ (let k : Done = cond b r x in k).leads → (Continues ≡ r.end) × (d ≡ r.leads)
taken true r x c d is goes leads = (goes, leads)
taken false r x c d is goes leads = absurd (cc)

left_there : (b : Bool) (r : Done) (c d : UnderWay) → b ≡ false → d ≡ (let k : Done = cond b r (done Continues c) in k).leads → d ≡ c
left_there true r c d is leads = absurd (cc)
left_there false r c d is leads = leads

over_there : (f : InputFile) (i : Inputs) → (input_at (with_file_over f i) f).is_over ≡ true
over_there Primary i = refl
over_there Secondary i = refl

shut : (a b : Bool) → (a && (false && b)) ≡ false
shut true b = refl
shut false b = refl

takes_not : (p : Object) (i : Inputs) (f : InputFile) → (input_at i f).is_over ≡ true → takes_in p i f ≡ false
takes_not p i f is = ap (λ b. has_file p f && (not b && is_none (waiting_in i f))) is ∙ shut (has_file p f) (is_none (waiting_in i f))

asked : (p : Object) (left : Left) (f : InputFile) (x : Option (List ℕ)) (c d : UnderWay) (out : Output) → take_in p left f x c Continues d out → HasTaken p f x c.inputs d.inputs
asked p left f x c d out g = record {
  no_bad = λ is bad.
      let went = taken (takes_in p c.inputs f) (read_record p left f x c) (done Continues c) c d is g.0 g.1 in
      let never : Continues ≡ Halt 7 = went.0 ∙ ap (λ (r : Done). r.end) (reads_bad p left f x c bad) in cc;
  over_where_none = λ is none.
      let went = taken (takes_in p c.inputs f) (read_record p left f x c) (done Continues c) c d is g.0 g.1 in
      ap (λ (u : UnderWay). (input_at u.inputs f).is_over) (went.1 ∙ ap (λ o. (read_record p left f o c).leads) none) ∙ over_there f c.inputs;
  over_still = λ ended.
      ap (λ (u : UnderWay). (input_at u.inputs f).is_over) (left_there (takes_in p c.inputs f) (read_record p left f x c) c d (takes_not p c.inputs f ended) g.1) ∙ ended;
}

waits_not : (f g : InputFile) (i : Inputs) → (input_at (with_waiting f None i) g).is_over ≡ (input_at i g).is_over
waits_not Primary Primary i = refl
waits_not Primary Secondary i = refl
waits_not Secondary Primary i = refl
waits_not Secondary Secondary i = refl

by_test : (b : Bool) (x y : UnderWay) (e : PhaseEnd) (i : Inputs) → x.inputs ≡ i → y.inputs ≡ i → (let k : Done = cond b (done Continues x) (done e y) in k).leads.inputs ≡ i
by_test true x y e i h g = h
by_test false x y e i h g = g

waiting_selected : (p : Object) (left : Left) (f g : InputFile) (o : Option Selected) (c : UnderWay) → (input_at (select_waiting p left f o c).leads.inputs g).is_over ≡ (input_at c.inputs g).is_over
waiting_selected p left f g None c = refl
waiting_selected p left f g (Some s) c =
    let c' = with_config (with_type (type_indicator (slice_get p.types s.type))) (with_inputs (with_waiting f None) c) in
    ap (λ (i : Inputs). (input_at i g).is_over) (by_test (list_all (is_in_record (length s.text)) (control_fields p s.type))
    (with_config (λ x. with_levels (broken_level p left s) (charged (length (control_fields p s.type)) x)) (record c' { selected = Some s }))
    (with_config (charged (length (control_fields p s.type))) c') (Wrong effects.Storage) c'.inputs refl refl)
    ∙ waits_not f g c.inputs

one_selected : (p : Object) (left : Left) (g : InputFile) (o : Option InputFile) (c : UnderWay) → (input_at (select_from p left o c).leads.inputs g).is_over ≡ (input_at c.inputs g).is_over
one_selected p left g None c = refl
one_selected p left g (Some f) c = waiting_selected p left f g (waiting_in c.inputs f) c

-- both files
pub record Takes (p : Object) (x y : Option (List ℕ)) (old new : Inputs) : Type 0 where
  pub primary : HasTaken p Primary x old new
  pub secondary : HasTaken p Secondary y old new

-- what is taken of a file is the same, where the other is read before or after it
taken_within : (p : Object) (f : InputFile) (x : Option (List ℕ)) (old mid last new : Inputs) → input_at mid f ≡ input_at old f → (input_at new f).is_over ≡ (input_at last f).is_over →
    HasTaken p f x mid last → HasTaken p f x old new
taken_within p f x old mid last new front back h = record {
  no_bad = λ is. h.no_bad (same_takes ∙ is);
  over_where_none = λ is none. back ∙ h.over_where_none (same_takes ∙ is) none;
  over_still = λ ended. back ∙ h.over_still (ap (λ (i : InputState). i.is_over) front ∙ ended);
}
  where
    same_takes : takes_in p mid f ≡ takes_in p old f
    same_takes = ap (λ (i : InputState). has_file p f && (not i.is_over && is_none i.waiting)) front

phase_four : (p : Object) (earlier : List Selected) (x y : Option (List ℕ)) (c d : UnderWay) → AreMergedInOrder p earlier c.inputs → Picks p (left_by p earlier) x y c d → Takes p x y c.inputs d.inputs
phase_four p earlier x y c d h g =
    let left = left_by p earlier in
    let a = takes p earlier Primary x c g.one g.put h g.first in
    let b = takes p earlier Secondary y g.one g.two g.more a.orderly g.second in
    let kept = λ (f : InputFile). ap (λ (u : UnderWay). (input_at u.inputs f).is_over) g.selects.1
    ∙ one_selected p left f (chosen p left (waiting_in g.two.inputs Primary) (waiting_in g.two.inputs Secondary)) g.two in
    record {
      primary = taken_within p Primary x c.inputs c.inputs g.one.inputs d.inputs refl (kept Primary ∙ ap (λ (i : InputState). i.is_over) b.other) (asked p left Primary x c g.one g.put g.first);
      secondary = taken_within p Secondary y c.inputs g.one.inputs g.two.inputs d.inputs a.other (kept Secondary) (asked p left Secondary y g.one g.two g.more g.second);
    }

pub cycle_takes : (p : Object) (earlier : List Selected) (x y : Option (List ℕ)) (c : Config) (i : Inputs) (d : UnderWay) (out : Output) → AreMergedInOrder p earlier i →
    Cycle p earlier x y (begun p c i) Continues d out → Takes p x y i d.inputs
cycle_takes p earlier x y c i d out h g =
    let left = left_by p earlier in
    let t = has_match p earlier in
    let F = from_selection p left t x y in
    let one = both_on (detail_lines p) (halt_if_indicated before set_off p before F) (begun p c i) d out g in
    let two = both_on halt_if_indicated (set_off p before F) one.mid d one.more one.two in
    let three = both_on (set_off p) F two.mid d two.more two.two in
    let four = both_on (select_record p left x y) (after_selection p left t) three.mid d three.more three.two in
    let k1 = by_act (Outputs p times.Detail) (begun p c i) one.mid Continues one.put one.one in
    let k2 = same one.mid two.mid two.one.1 in
    let k3 : Stays two.mid three.mid = record { inputs = ap (λ (u : UnderWay). u.inputs) three.one.1; selected = ap (λ (u : UnderWay). u.selected) three.one.1 } in
    let k = stay (begun p c i) one.mid three.mid k1 (stay one.mid two.mid three.mid k2 k3) in
    let last = after_4 p left t four.mid d four.more four.two in
    let s = picks p left x y three.mid four.mid four.put (is_on three.mid.config last_record) k.selected (has_selected p left t four.mid d four.more four.two) four.one in
    let r = phase_four p earlier x y three.mid four.mid (subst (λ (j : Inputs). AreMergedInOrder p earlier j) (sym k.inputs) h) s in
    subst (λ (j : Inputs). Takes p x y i j) (sym last.inputs) (subst (λ (j : Inputs). Takes p x y j four.mid.inputs) k.inputs r)

pub needed_takes : (p : Object) (c : Config) (i : Inputs) (f : InputFile) → needs_record p c i f ≡ true → takes_in p i f ≡ true
needed_takes p c i f needs = and_last (not (is_on c last_record || any_on c halt_indicators)) (takes_in p i f) needs
  where
    and_last : (a b : Bool) → (a && b) ≡ true → b ≡ true
    and_last true b h = h
    and_last false b h = absurd (cc)

-- ---- how many records wait

-- the records that were taken
abbrev pub in_list : Option (List ℕ) → List (List ℕ)
in_list None = []
in_list (Some r) = r ∷ []

-- where it is needed alone
abbrev pub IfNeeded : Bool → Option (List ℕ) → Type 0
IfNeeded is_needed x = is_needed ≡ false → x ≡ None

next_is : (is_needed : Bool) (x : Option (List ℕ)) → IfNeeded is_needed x → x ≡ next_of is_needed (in_list x)
next_is false x h = h refl
next_is true None h = refl
next_is true (Some r) h = refl

-- of the records that waited and those that were taken, one was selected
pub fewer_wait : (p : Object) (earlier : List Selected) (x y : Option (List ℕ)) (c : Config) (i : Inputs) (d : UnderWay) (out : Output) → AreMergedInOrder p earlier i →
    IfNeeded (needs_record p c i Primary) x → IfNeeded (needs_record p c i Secondary) y → Cycle p earlier x y (begun p c i) Continues d out →
    waiting_count d.inputs + 1 ≤ waiting_count i + (length (in_list x) + length (in_list y))
fewer_wait p earlier x y c i d out h one two g =
    let rs : Records = record { primary = in_list x; secondary = in_list y } in
    let few = shorter p earlier rs c i d out h
    (subst (λ (o : Option (List ℕ)). Cycle p earlier (next_of (needs_record p c i Primary) (in_list x)) o (begun p c i) Continues d out) (next_is (needs_record p c i Secondary) y two)
    (subst (λ (o : Option (List ℕ)). Cycle p earlier o y (begun p c i) Continues d out) (next_is (needs_record p c i Primary) x one) g)) in
    omega (arith, few)
