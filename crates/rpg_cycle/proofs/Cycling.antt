-- A whole cycle keeps what makes matches known, and finds them by the last values.
use Rattle.std.proofs.Common.{◌≡◌, ℕ, Bool, true, false, not, ◌&&◌, List, [], Option, None, Some, is_none, refl, sym, ap, ◌∙◌, subst}
use Rattle.rpg_program.specs.declared.input.InputFile.{InputFile}
use Rattle.rpg_program.specs.declared.input.InputFile.TheVariants.{Primary, Secondary}
use Rattle.rpg_machine.specs.Config.{Config, Output}
use Rattle.rpg_machine.specs.Outputs.{FillsFields, Outputs}
use Rattle.rpg_machine.specs.Run.{RunsTo}
use Rattle.rpg_machine.specs.Running.{Behaviour}
use Rattle.rpg_machine.specs.declared.time.OutputTime.TheVariants as times
use Rattle.rpg_program.specs.Object.{Object, has_file}
use Rattle.rpg_program.specs.declared.section.Section.TheVariants as sections
use Rattle.rpg_cycle.proofs.InTurn.{following, both_on}
use Rattle.rpg_cycle_records.proofs.Matches.{found}
use Rattle.rpg_cycle.proofs.Picking.{Picked, selects}
use Rattle.rpg_cycle.proofs.Taking.{takes}
use Rattle.rpg_cycle_records.specs.Earlier.{Left, Selected, left_by, match_value, with_record}
use Rattle.rpg_cycle.specs.Ends.{PhaseEnd, Continues}
use Rattle.rpg_cycle.specs.Indicators.{is_on, last_record, level_indicators, matching_record, with_all, with_one}
use Rattle.rpg_cycle_records.specs.Merging.{AreMergedInOrder, IsTopIfAny}
use Rattle.rpg_cycle.specs.Phases.{Cycle, CycleOn, Phase, UnderWay, begun, by_machine, detail_calculations, detail_lines, without_output, done, either, end_where_last, fill_fields, fill_from, halt_if_indicated, has_no_overflow, if_selected, is_bypassed, output, overflow_lines, nothing_done, section, select_one, select_record, set_off, show_match, take_in, total_time, with_config, ◌before◌}
use Rattle.rpg_cycle.specs.Staging.{after_selection}
use Rattle.rpg_cycle_records.specs.Waiting.{InputState, Inputs, finds_match, has_match, input_at, takes_in, unread}

-- ---- what is selected, and what waits, stays

pub record Stays (c d : UnderWay) : Type 0 where
  pub inputs : d.inputs ≡ c.inputs
  pub selected : d.selected ≡ c.selected

pub stay : (c d e : UnderWay) → Stays c d → Stays d e → Stays c e
stay c d e g h = record { inputs = h.inputs ∙ g.inputs; selected = h.selected ∙ g.selected }

pub by_act : (P : Behaviour) (c d : UnderWay) (e : PhaseEnd) (out : Output) → by_machine P c e d out → Stays c d
by_act P c d e out h = record { inputs = h.3; selected = h.4 }

pub same : (c d : UnderWay) → d ≡ c → Stays c d
same c d h = record { inputs = ap (λ (u : UnderWay). u.inputs) h; selected = ap (λ (u : UnderWay). u.selected) h }

pub at_totals : (p : Object) (b : Bool) (c d : UnderWay) (out : Output) → either b nothing_done (section p sections.Total before output p times.Total) c Continues d out → Stays c d
at_totals p true c d out h = same c d h.1
at_totals p false c d out h =
    let both = both_on (section p sections.Total) (output p times.Total) c d out h in
    stay c both.mid d (by_act (RunsTo p sections.Total) c both.mid Continues both.put both.one) (by_act (Outputs p times.Total) both.mid d Continues both.more both.two)

pub at_overflow : (p : Object) (b : Bool) (c d : UnderWay) (out : Output) → either b nothing_done (output p times.Overflow) c Continues d out → Stays c d
at_overflow p true c d out h = same c d h.1
at_overflow p false c d out h = by_act (Outputs p times.Overflow) c d Continues out h

at_fields : (p : Object) (s : Option Selected) (c d : UnderWay) (out : Output) → fill_from p s c Continues d out → Stays c d
at_fields p None c d out h = same c d h.1
at_fields p (Some s) c d out h = by_act (FillsFields p s.type s.text) c d Continues out h

-- ---- phase 4

pub settled_still : (p : Object) (i j : Inputs) (f : InputFile) → input_at j f ≡ input_at i f → takes_in p i f ≡ false → takes_in p j f ≡ false
settled_still p i j f e h = ap (λ (x : InputState). has_file p f && (not x.is_over && is_none x.waiting)) e ∙ h

phase_4 : (p : Object) (earlier : List Selected) (a b : Option (List ℕ)) (c d : UnderWay) (out : Output) (lit : Bool) → AreMergedInOrder p earlier c.inputs → c.selected ≡ None →
    either lit (without_output (λ c. done Continues (with_config (with_all level_indicators true) c)))
    (take_in p (left_by p earlier) Primary a before take_in p (left_by p earlier) Secondary b before select_one p (left_by p earlier)) c Continues d out → Picked p earlier d
phase_4 p earlier a b c d out true h none g = record {
  orderly = subst (λ (o : Option Selected). AreMergedInOrder p (with_record o earlier) d.inputs) (sym (ap (λ (u : UnderWay). u.selected) g.1 ∙ none))
      (subst (λ (i : Inputs). AreMergedInOrder p earlier i) (sym (ap (λ (u : UnderWay). u.inputs) g.1)) h);
  top = λ s k. absurd (let x : None ≡ Some s = sym (ap (λ (u : UnderWay). u.selected) g.1 ∙ none) ∙ k in cc);
}
phase_4 p earlier a b c d out false h none g =
    let one = both_on (take_in p (left_by p earlier) Primary a) (take_in p (left_by p earlier) Secondary b before select_one p (left_by p earlier)) c d out g in
    let two = both_on (take_in p (left_by p earlier) Secondary b) (select_one p (left_by p earlier)) one.mid d one.more one.two in
    let x = takes p earlier Primary a c one.mid one.put h one.one in
    let y = takes p earlier Secondary b one.mid two.mid two.put x.orderly two.one in
    selects p earlier two.mid d two.more y.orderly (y.selected ∙ (x.selected ∙ none)) (settled_still p one.mid.inputs two.mid.inputs Primary y.other x.settled) y.settled two.two

-- ---- matches by the last values

abbrev pub Test : Type 0
Test = Inputs → Selected → Bool

if_same : (s t : Test) (i : Inputs) (o : Option Selected) → ((x : Selected) → o ≡ Some x → s i x ≡ t i x) → if_selected (s i) o ≡ if_selected (t i) o
if_same s t i None h = refl
if_same s t i (Some x) h = h x refl

shown : (s t : Test) (c : UnderWay) → ((x : Selected) → c.selected ≡ Some x → s c.inputs x ≡ t c.inputs x) → (e : PhaseEnd) (d : UnderWay) (out : Output) → show_match s c e d out → show_match t c e d out
shown s t c h e d out g =
    (g.0, g.1 ∙ ap (λ (b : Bool). with_config (with_one matching_record b) c) (if_same s t c.inputs c.selected h), g.2)

instead : (P Q R : Phase) (c : UnderWay) → ((e : PhaseEnd) (d : UnderWay) (out : Output) → P c e d out → Q c e d out) → (e : PhaseEnd) (d : UnderWay) (out : Output) → (P before R) c e d out → (Q before R) c e d out
instead P Q R c f e d out (g, m, put, first, rest) = (g, m, put, f g m put first, rest)

-- the tests agree of the record that is selected
abbrev Agree : Test → Test → UnderWay → Type 0
Agree s t c = (x : Selected) → c.selected ≡ Some x → s c.inputs x ≡ t c.inputs x

still_agree : (s t : Test) (c d : UnderWay) → Stays c d → Agree s t c → Agree s t d
still_agree s t c d k h = λ x e. subst (λ (i : Inputs). s i x ≡ t i x) (sym k.inputs) (h x (sym k.selected ∙ e))

abbrev pub after_match : Object → Phase
after_match p = fill_fields p before detail_calculations p

by_match : (p : Object) (s t : Test) (c : UnderWay) → Agree s t c → (e : PhaseEnd) (d : UnderWay) (out : Output) → (show_match s before after_match p) c e d out → (show_match t before after_match p) c e d out
by_match p s t c h = instead (show_match s) (show_match t) (after_match p) c (shown s t c h)

by_overflow : (p : Object) (s t : Test) (c : UnderWay) → Agree s t c → (e : PhaseEnd) (d : UnderWay) (out : Output) →
    (overflow_lines p before show_match s before after_match p) c e d out → (overflow_lines p before show_match t before after_match p) c e d out
by_overflow p s t c h =
    following (overflow_lines p) (show_match s before after_match p) (show_match t before after_match p) c
    (λ m d put out e first rest. by_match p s t m (still_agree s t c m (at_overflow p (has_no_overflow p.overflow.indicator c.config) c m put first) h) e d out rest)

by_last : (p : Object) (s t : Test) (c : UnderWay) → Agree s t c → (e : PhaseEnd) (d : UnderWay) (out : Output) →
    (end_where_last before overflow_lines p before show_match s before after_match p) c e d out →
    (end_where_last before overflow_lines p before show_match t before after_match p) c e d out
by_last p s t c h =
    following end_where_last (overflow_lines p before show_match s before after_match p) (overflow_lines p before show_match t before after_match p) c
    (λ m d put out e first rest. by_overflow p s t m (still_agree s t c m (same c m first.1) h) e d out rest)

pub by_totals : (p : Object) (left : Left) (s t : Test) (c : UnderWay) → Agree s t c → (e : PhaseEnd) (d : UnderWay) (out : Output) →
    after_selection p left s c e d out → after_selection p left t c e d out
by_totals p left s t c h =
    following (total_time p left) (end_where_last before overflow_lines p before show_match s before after_match p)
    (end_where_last before overflow_lines p before show_match t before after_match p) c
    (λ m d put out e first rest. by_last p s t m (still_agree s t c m (at_totals p (is_bypassed p left.any left.control c.config) c m put first) h) e d out rest)

-- ---- the whole cycle

abbrev pub from_selection : Object → Left → Test → Option (List ℕ) → Option (List ℕ) → Phase
from_selection p left t a b = select_record p left a b before after_selection p left t

fourth : (p : Object) (earlier : List Selected) (a b : Option (List ℕ)) (c d : UnderWay) (out : Output) → AreMergedInOrder p earlier c.inputs → c.selected ≡ None →
    select_record p (left_by p earlier) a b c Continues d out → Picked p earlier d
fourth p earlier a b c d out h none g = phase_4 p earlier a b c d out (is_on c.config last_record) h none g

abbrev Related : Object → List Selected → Test → Test → Type 0
Related p earlier s t = (i : Inputs) (x : Selected) → IsTopIfAny p (match_value p x) earlier → s i x ≡ t i x

cycle_by : (p : Object) (earlier : List Selected) (s t : Test) → Related p earlier s t → (a b : Option (List ℕ)) (c : UnderWay) → AreMergedInOrder p earlier c.inputs → c.selected ≡ None →
    (e : PhaseEnd) (d : UnderWay) (out : Output) → CycleOn p (left_by p earlier) s a b c e d out → CycleOn p (left_by p earlier) t a b c e d out
cycle_by p earlier s t r a b c h none =
    let left = left_by p earlier in
    let F = from_selection p left s a b in
    let G = from_selection p left t a b in
    following (detail_lines p) (halt_if_indicated before set_off p before F) (halt_if_indicated before set_off p before G) c
    (λ m1 d1 put1 out1 e1 first1 rest1. following halt_if_indicated (set_off p before F) (set_off p before G) m1
    (λ m2 d2 put2 out2 e2 first2 rest2. following (set_off p) F G m2
    (λ m3 d3 put3 out3 e3 first3 rest3. following (select_record p left a b) (after_selection p left s) (after_selection p left t) m3
    (λ m4 d4 put4 out4 e4 first4 rest4.
    let k1 = by_act (Outputs p times.Detail) c m1 Continues put1 first1 in
    let k2 = same m1 m2 first2.1 in
    let i3 : m3.inputs ≡ m2.inputs = ap (λ (u : UnderWay). u.inputs) first3.1 in
    let s3 : m3.selected ≡ m2.selected = ap (λ (u : UnderWay). u.selected) first3.1 in
    let h3 = subst (λ (i : Inputs). AreMergedInOrder p earlier i) (sym (i3 ∙ (k2.inputs ∙ k1.inputs))) h in
    let picked = fourth p earlier a b m3 m4 put4 h3 (s3 ∙ (k2.selected ∙ (k1.selected ∙ none))) first4 in
    by_totals p left s t m4 (λ x e. r m4.inputs x (picked.top x e)) e4 d4 out4 rest4)
    e3 d3 out3 rest3) e2 d2 out2 rest2) e1 d1 out1 rest1)

pub to_last : (p : Object) (earlier : List Selected) (a b : Option (List ℕ)) (c : Config) (i : Inputs) (e : PhaseEnd) (d : UnderWay) (out : Output) → AreMergedInOrder p earlier i →
    Cycle p earlier a b (begun p c i) e d out → CycleOn p (left_by p earlier) (finds_match p (left_by p earlier)) a b (begun p c i) e d out
to_last p earlier a b c i e d out h g =
    cycle_by p earlier (has_match p earlier) (finds_match p (left_by p earlier)) (λ j x top. found p earlier j x h.merged top) a b (begun p c i) h refl e d out g

pub from_last : (p : Object) (earlier : List Selected) (a b : Option (List ℕ)) (c : Config) (i : Inputs) (e : PhaseEnd) (d : UnderWay) (out : Output) → AreMergedInOrder p earlier i →
    CycleOn p (left_by p earlier) (finds_match p (left_by p earlier)) a b (begun p c i) e d out → Cycle p earlier a b (begun p c i) e d out
from_last p earlier a b c i e d out h g =
    cycle_by p earlier (finds_match p (left_by p earlier)) (has_match p earlier) (λ j x top. sym (found p earlier j x h.merged top)) a b (begun p c i) h refl e d out g

-- ---- what it leaves is in order again

pub after_4 : (p : Object) (left : Left) (t : Test) (c d : UnderWay) (out : Output) → after_selection p left t c Continues d out → Stays c d
after_4 p left t c d out g =
    let five = both_on (total_time p left) (end_where_last before overflow_lines p before show_match t before after_match p) c d out g in
    let six = both_on end_where_last (overflow_lines p before show_match t before after_match p) five.mid d five.more five.two in
    let seven = both_on (overflow_lines p) (show_match t before after_match p) six.mid d six.more six.two in
    let eight = both_on (show_match t) (after_match p) seven.mid d seven.more seven.two in
    let nine = both_on (fill_fields p) (detail_calculations p) eight.mid d eight.more eight.two in
    let k5 = at_totals p (is_bypassed p left.any left.control c.config) c five.mid five.put five.one in
    let k6 = same five.mid six.mid six.one.1 in
    let k7 = at_overflow p (has_no_overflow p.overflow.indicator six.mid.config) six.mid seven.mid seven.put seven.one in
    let k8 : Stays seven.mid eight.mid = record { inputs = ap (λ (u : UnderWay). u.inputs) eight.one.1; selected = ap (λ (u : UnderWay). u.selected) eight.one.1 } in
    let k9 = at_fields p eight.mid.selected eight.mid nine.mid nine.put nine.one in
    let k10 = by_act (RunsTo p sections.Detail) nine.mid d Continues nine.more nine.two in
    stay c five.mid d k5 (stay five.mid six.mid d k6 (stay six.mid seven.mid d k7 (stay seven.mid eight.mid d k8 (stay eight.mid nine.mid d k9 k10))))

pub keeps : (p : Object) (earlier : List Selected) (a b : Option (List ℕ)) (c : Config) (i : Inputs) (d : UnderWay) (out : Output) → AreMergedInOrder p earlier i →
    Cycle p earlier a b (begun p c i) Continues d out → AreMergedInOrder p (with_record d.selected earlier) d.inputs
keeps p earlier a b c i d out h g =
    let left = left_by p earlier in
    let t = has_match p earlier in
    let F = from_selection p left t a b in
    let one = both_on (detail_lines p) (halt_if_indicated before set_off p before F) (begun p c i) d out g in
    let two = both_on halt_if_indicated (set_off p before F) one.mid d one.more one.two in
    let three = both_on (set_off p) F two.mid d two.more two.two in
    let four = both_on (select_record p left a b) (after_selection p left t) three.mid d three.more three.two in
    let k1 = by_act (Outputs p times.Detail) (begun p c i) one.mid Continues one.put one.one in
    let k2 = same one.mid two.mid two.one.1 in
    let k3 : Stays two.mid three.mid = record { inputs = ap (λ (u : UnderWay). u.inputs) three.one.1; selected = ap (λ (u : UnderWay). u.selected) three.one.1 } in
    let k = stay (begun p c i) one.mid three.mid k1 (stay one.mid two.mid three.mid k2 k3) in
    let picked = fourth p earlier a b three.mid four.mid four.put (subst (λ (j : Inputs). AreMergedInOrder p earlier j) (sym k.inputs) h) k.selected four.one in
    let last = after_4 p left t four.mid d four.more four.two in
    subst (λ (o : Option Selected). AreMergedInOrder p (with_record o earlier) d.inputs) (sym last.selected)
    (subst (λ (j : Inputs). AreMergedInOrder p (with_record four.mid.selected earlier) j) (sym last.inputs) picked.orderly)

pub at_first : (p : Object) → AreMergedInOrder p [] unread
at_first p = record {
  merged = tt;
  primary = record { own = tt; top = λ k. tt };
  secondary = record { own = tt; top = λ k. tt };
}
